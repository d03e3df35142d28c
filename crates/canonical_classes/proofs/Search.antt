-- The search for a key, and keys that are compared. Assumes nothing.
use mathlib.Core.Path.{◌≡◌, refl, sym, ap, ◌∙◌, subst}
use mathlib.Core.Bool.{Bool, true, false, ◌&&◌, false≢true}
use mathlib.Core.List.{List}
use Prim.Native.Nat.{ℕ, zero, suc, ◌+◌, ◌-◌, ◌*◌, ◌≤◌, ◌<◌}
use native.Mathlib.Omega.{arith}
use native.Mathlib.Numerals.{add-one}
use lib.ListN.{get_or}
use lib.Dec.{ltb, eqb}
use borrow.Author.Tests.{eqb-true, eq-eqb, ne_eqb, ltb-true, ltb-false}
use Rattle.facts.proofs.Tests.{and_both}
use Rattle.canonical_classes.specs.declared.Key.{Key}
use Rattle.pool.specs.declared.Node.{Node}
use Rattle.pool.specs.Node.{word_at, kind_number}
use Rattle.pool_fields.specs.Fields.{op_a, op_b, op_c}
use Rattle.pool_operands.specs.Operands.{has_a, has_b, has_c}
use Rattle.canonical_classes.specs.Key.{class_if, key_of, bucket_of, way_of, under, next_of}
use Rattle.canonical_classes.specs.Class.{On, Comes, Holds, Low, Rises}

-- ---- keys

-- what `==` computes at two keys
abbrev pub same_key : Key → Key → Bool
same_key k l =
    eqb k.word l.word && (eqb k.a.0 l.a.0 && (eqb k.b.0 l.b.0 && (eqb k.c.0 l.c.0 && (eqb k.x l.x && eqb k.y l.y))))

pub keys-same : (k l : Key) → same_key k l ≡ true → k ≡ l
keys-same k l h =
    let p0 = and_both _ _ h in
    let p1 = and_both _ _ p0.1 in
    let p2 = and_both _ _ p1.1 in
    let p3 = and_both _ _ p2.1 in
    let p4 = and_both _ _ p3.1 in
    let e0 : k.word ≡ l.word = eqb-true _ _ p0.0 in
    let e1 : k.a.0 ≡ l.a.0 = eqb-true _ _ p1.0 in
    let e2 : k.b.0 ≡ l.b.0 = eqb-true _ _ p2.0 in
    let e3 : k.c.0 ≡ l.c.0 = eqb-true _ _ p3.0 in
    let e4 : k.x ≡ l.x = eqb-true _ _ p4.0 in
    let e5 : k.y ≡ l.y = eqb-true _ _ p4.1 in
    λ i. record { word = e0 i; a = record { 0 = e1 i }; b = record { 0 = e2 i }; c = record { 0 = e3 i }; x = e4 i; y = e5 i }

same_self : (k : Key) → same_key k k ≡ true
same_self k =
    rw (
      eq-eqb k.word k.word refl,
      eq-eqb k.a.0 k.a.0 refl,
      eq-eqb k.b.0 k.b.0 refl,
      eq-eqb k.c.0 k.c.0 refl,
      eq-eqb k.x k.x refl,
      eq-eqb k.y k.y refl,
    )

pub keys-differ : (k l : Key) → same_key k l ≡ false → k ≡ l → ⊥
keys-differ k l h e = false≢true (sym h ∙ ap (same_key k) (sym e) ∙ same_self k)

-- a key from its parts
pub key-made : (ws class : List ℕ) (n kind a b c : ℕ) (ca cb cc : Node) (x y : ℕ) (p q r : Bool) → kind ≡ kind_number ws n → p ≡ has_a kind → q ≡ has_b kind → r ≡ has_c kind
    → a ≡ op_a ws n → b ≡ op_b ws n → c ≡ op_c ws n
    → ca.0 ≡ class_if p class a → cb.0 ≡ class_if q class b → cc.0 ≡ class_if r class c
    → x ≡ word_at ws n 2 → y ≡ word_at ws n 3
    → ◌≡◌ {A = Key} (record { word = get_or ws (4 * n) 0; a = ca; b = cb; c = cc; x = x; y = y }) (key_of ws class n)
unfolding key_of
key-made ws class n kind a b c ca cb cc x y p q r ek ep eq er ea eb ec fa fb fc ex ey =
    let hp : p ≡ has_a (kind_number ws n) = ep ∙ ap has_a ek in
    let hq : q ≡ has_b (kind_number ws n) = eq ∙ ap has_b ek in
    let hr : r ≡ has_c (kind_number ws n) = er ∙ ap has_c ek in
    let ga = fa ∙ (λ i. class_if (hp i) class (ea i)) in
    let gb = fb ∙ (λ i. class_if (hq i) class (eb i)) in
    let gc = fc ∙ (λ i. class_if (hr i) class (ec i)) in
    λ i. record { word = get_or ws (4 * n) 0; a = record { 0 = ga i }; b = record { 0 = gb i }; c = record { 0 = gc i }; x = ex i; y = ey i }

-- ---- the slots of a key

pub bucket-less : (k : Key) → bucket_of k < 65536
unfolding bucket_of
bucket-less k = omega arith

pub way-less : (k : Key) (level : ℕ) → way_of k level < 2
unfolding way_of
way-less k level = omega arith

pub next-first : (k : Key) (m : ℕ) → (65536 ≤ next_of k m 0) × (next_of k m 0 < 131072)
unfolding next_of
next-first k m = (omega arith, omega arith)

pub next-later : (k : Key) (m level : ℕ) → 0 < level → next_of k m level ≡ under m (way_of k level)
unfolding next_of
next-later k m level h = rw (ne_eqb level 0 (λ e. omega (arith, e, h)))

pub next-less : (k : Key) (m level : ℕ) → next_of k m level < 131072 + 2 * (m + 1)
next-less k m zero = omega (arith, (next-first k m).1)
next-less k m (suc level) = omega (arith, next-later k m (suc level) (omega arith), way-less k (suc level))

-- past the second table links rise
pub next-rises : (slots : List ℕ) → Rises slots → (k : Key) (m level : ℕ) → 0 < level → 0 < get_or slots (next_of k m level) 0 → m + 1 < get_or slots (next_of k m level) 0
next-rises slots rises k m level h = rw (next-later k m level h) (rises m (way_of k level) (way-less k level))

on-free : (slots : List ℕ) (k : Key) (s level j : ℕ) → get_or slots s 0 ≡ 0 → On slots k s level j → ⊥
on-free slots k s level j z (On.here e) = omega (arith, z, e)
on-free slots k s level j z (On.there e o) = omega (arith, z, e)

on-next : (slots : List ℕ) (k : Key) (s level m j : ℕ) → get_or slots s 0 ≡ suc m → On slots k s level j → (j ≡ m → ⊥)
    → On slots k (next_of k m level) (suc level) j
on-next slots k s level m j h (On.here e) f = absurd (f (omega (arith, h, e)))
on-next slots k s level m j h (On.there {m = p} e o) f =
    let q : p ≡ m = omega (arith, h, e) in
    subst (λ (x : ℕ). On slots k (next_of k x level) (suc level) j) q o

-- more links lead where fewer did
pub on-holds : (slots new : List ℕ) (k : Key) → Holds slots new → {s level j : ℕ} → On slots k s level j → On new k s level j
on-holds slots new k h (On.here {s = s} {j = j} e) = On.here (h s j e)
on-holds slots new k h (On.there {s = s} {m = m} e o) = On.there (h s m e) (on-holds slots new k h o)

pub comes-holds : (slots new : List ℕ) (k : Key) → Holds slots new → {s level : ℕ} → Comes slots k s level → Comes new k s level
comes-holds slots new k h (Comes.start e z) = Comes.start e z
comes-holds slots new k h (Comes.on {t = t} {m = m} c d e z) = Comes.on (comes-holds slots new k h c) (h t m d) e z

-- no slot past those of the nodes with a link
pub comes-less : (slots : List ℕ) (n : ℕ) → Low slots n → (k : Key) {s level : ℕ} → Comes slots k s level → s < 131072 + 2 * n
comes-less slots n low k (Comes.start e z) = omega (arith, e, bucket-less k)
comes-less slots n low k (Comes.on {t = t} {l = l} {m = m} c d e z) = omega (arith, e, next-less k m l, low t, d)

-- where the search for k is: all that it has to meet is yet to come, and what is met from here on is met from the bucket
pub record Searching (ws class slots : List ℕ) (k : Key) (slot level : ℕ) : Type 0 where
  pub deeper : 0 < get_or slots slot 0 → level ≤ get_or slots slot 0
  pub comes : Comes slots k slot level
  pub left : (j : ℕ) → On slots k (bucket_of k) 0 j → key_of ws class j ≡ k → On slots k slot level j
  pub back : (new : List ℕ) → Holds slots new → (j : ℕ) → On new k slot level j → On new k (bucket_of k) 0 j

pub search-first : (ws class slots : List ℕ) (k : Key) → Searching ws class slots k (bucket_of k) 0
search-first ws class slots k =
    record { deeper = λ p. omega arith; comes = Comes.start refl refl; left = λ j o e. o; back = λ new g j o. o }

module _ (ws class slots : List ℕ) (k : Key) where
  -- past node m, which has another key
  pub search-next : Rises slots → (slot level m : ℕ) → get_or slots slot 0 ≡ suc m → same_key (key_of ws class m) k ≡ false
      → Searching ws class slots k slot level
      → Searching ws class slots k (next_of k m level) (level + 1)
  search-next rises slot level m e d S =
      let z : level + 1 ≡ suc level = add-one level in
      record {
        deeper = λ p. deep (ltb 0 level) refl p;
        comes = Comes.on S.comes e refl z;
        left = λ j o f.
            rw z (on-next slots k slot level m j e (S.left j o f) (λ q. keys-differ (key_of ws class m) k d (ap (key_of ws class) (sym q) ∙ f)));
        back = λ new g j o. S.back new g j (On.there (g slot m e) (rw z at o));
      }
    where
      deep : (t : Bool) → ltb 0 level ≡ t → 0 < get_or slots (next_of k m level) 0 → level + 1 ≤ get_or slots (next_of k m level) 0
      deep true h p = omega (arith, next-rises slots rises k m level (ltb-true 0 level h) p, S.deeper (omega (arith, e)), e)
      deep false h p = omega (arith, ltb-false 0 level h, p)

  pub search-none : (slot level : ℕ) → get_or slots slot 0 ≡ 0 → Searching ws class slots k slot level → (j : ℕ) → On slots k (bucket_of k) 0 j → key_of ws class j ≡ k → ⊥
  search-none slot level z S j o e = on-free slots k slot level j z (S.left j o e)

-- what falls: from the first table to the second, and then links rise, of which there are no more than 65,535
abbrev ahead : ℕ → ℕ
ahead zero = 0
ahead (suc m) = 65536 - m

abbrev pub to_go : (level link : ℕ) → ℕ
to_go level link = 65537 * (1 - level) + ahead link

ahead-most : (link : ℕ) → ahead link ≤ 65536
ahead-most zero = omega arith
ahead-most (suc m) = omega arith

ahead-less : (link next : ℕ) → 0 < link → link ≤ 65535 → (0 < next → link < next) → ahead next < ahead link
ahead-less zero next h g f = absurd (omega arith)
ahead-less (suc m) zero h g f = omega arith
ahead-less (suc m) (suc p) h g f = omega (arith, f (omega arith))

pub falls : (level link next : ℕ) → 0 < link → link ≤ 65535 → (0 < level → 0 < next → link < next) → to_go (level + 1) next < to_go level link
falls zero link next h g f = omega (arith, ahead-most next)
falls (suc level) link next h g f = omega (arith, ahead-less link next h g (f (omega arith)))
