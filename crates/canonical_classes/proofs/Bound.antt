-- How many nodes a search meets: a node with another key is at one of 280 levels, since keys that agree in all their bits are the same. Assumes nothing.
use mathlib.Core.Path.{◌≡◌, refl, sym, ap, ◌∙◌, subst}
use mathlib.Core.Bool.{Bool, true, false}
use mathlib.Core.List.{List}
use Prim.Native.Nat.{ℕ, zero, suc, ◌+◌, ◌*◌, ◌/◌, ◌%◌, ◌^◌, ◌≤◌, ◌<◌}
use native.Mathlib.Omega.{arith}
use lib.Dec.{ltb}
use lib.ListN.{get_or}
use lib.Pow.{mod-pow-add}
use borrow.Author.Tests.{ltb-true, ltb-false, lt-ltb, le-ltb}
use Rattle.pool.specs.Node.{kind_number}
use Rattle.pool_fields.specs.Fields.{op_a, op_b, op_c}
use Rattle.pool_operands.specs.Operands.{has_a, has_b, has_c}
use Rattle.canonical_classes.specs.declared.Key.{Key}
use Rattle.canonical_classes.specs.Key.{class_if, key_of, operands_of, way_of, row_of, next_of}
use Rattle.canonical_classes.specs.Class.{Comes, Once, Kept, Bounded}
use Rattle.canonical_classes.proofs.Search.{bucket-less, way-less, next-first, next-later}

-- ---- two keys that come to one slot

pub record Agree (k k' : Key) (level level' : ℕ) : Type 0 where
  pub same : level ≡ level'
  pub ways : (i : ℕ) → 0 < i → i < level → way_of k i ≡ way_of k' i

-- the place of a slot tells the level
first_slot : (k : Key) (m l : ℕ) → l ≡ 0 → (65536 ≤ next_of k m l) × (next_of k m l < 131072)
first_slot k m l e = subst (λ (l : ℕ). (65536 ≤ next_of k m l) × (next_of k m l < 131072)) (sym e) (next-first k m)

next-least : (k : Key) (m l : ℕ) → 65536 ≤ next_of k m l
next-least k m zero = (next-first k m).0
next-least k m (suc l) = omega (arith, next-later k m (suc l) (omega arith))

module _ (slots : List ℕ) (once : Once slots) (k k' : Key) where
  -- the ways below level l, and at l
  one_more : (l : ℕ) → ((i : ℕ) → 0 < i → i < l → way_of k i ≡ way_of k' i) → way_of k l ≡ way_of k' l → (i : ℕ) → 0 < i → i < suc l → way_of k i ≡ way_of k' i
  one_more l f e i h g = go (ltb i l) refl
    where
      go : (t : Bool) → ltb i l ≡ t → way_of k i ≡ way_of k' i
      go true q = f i h (ltb-true i l q)
      go false q = let r : l ≡ i = omega (arith, ltb-false i l q, g) in subst (λ (i : ℕ). way_of k i ≡ way_of k' i) r e

  agree : {s level level' : ℕ} → Comes slots k s level → Comes slots k' s level' → Agree k k' level level'
  agree (Comes.start e z) (Comes.start f y) = record { same = omega (arith, z, y); ways = λ i h g. absurd (omega (arith, g, z)) }
  agree (Comes.start e z) (Comes.on {l = l} {m = m} c d f y) = absurd (omega (arith, e, f, bucket-less k, next-least k' m l))
  agree (Comes.on {l = l} {m = m} c d f y) (Comes.start e z) = absurd (omega (arith, e, f, bucket-less k', next-least k m l))
  agree {s} {level} {level'} (Comes.on {t = t} {l = l} {m = m} c d e z) (Comes.on {t = u} {l = p} {m = q} o f g y) = go (λ x. agree c x) (ltb 0 l) refl (ltb 0 p) refl
    where
      go : (Comes slots k' t p → Agree k k' l p) → (a : Bool) → ltb 0 l ≡ a → (b : Bool) → ltb 0 p ≡ b → Agree k k' level level'
      go before false a false b =
          let x : l ≡ 0 = omega (arith, ltb-false 0 l a) in
          let w : p ≡ 0 = omega (arith, ltb-false 0 p b) in
          record { same = omega (arith, z, y, x, w); ways = λ i h j. absurd (omega (arith, h, j, z, x)) }
      go before false a true b =
          absurd (omega (arith, e, g, (first_slot k m l (omega (arith, ltb-false 0 l a))).1, next-later k' q p (ltb-true 0 p b)))
      go before true a false b =
          absurd (omega (arith, e, g, (first_slot k' q p (omega (arith, ltb-false 0 p b))).1, next-later k m l (ltb-true 0 l a)))
      go before true a true b =
          let v = next-later k m l (ltb-true 0 l a) in
          let w = next-later k' q p (ltb-true 0 p b) in
          let mq : q ≡ m = omega (arith, e, g, v, w, way-less k l, way-less k' p) in
          let tu : u ≡ t = once u t m (f ∙ ap suc mq) d in
          let A = before (subst (λ (s : ℕ). Comes slots k' s p) tu o) in
          let wk : way_of k l ≡ way_of k' p = omega (arith, e, g, v, w, way-less k l, way-less k' p, mq) in
          let wl : way_of k l ≡ way_of k' l = wk ∙ ap (way_of k') (sym A.same) in
          record {
            same = omega (arith, z, y, A.same);
            ways = λ i h j. one_more l A.ways wl i h (omega (arith, j, z));
          }

-- ---- keys that agree in all their bits

bits-mod : (n x y : ℕ) → ((i : ℕ) → i < n → x / 2 ^ i % 2 ≡ y / 2 ^ i % 2) → x % 2 ^ n ≡ y % 2 ^ n
bits-mod zero x y f = omega arith
bits-mod (suc n) x y f =
    let e : 1 + n ≡ suc n = omega arith in
    let b : x / 2 ^ n % 2 ≡ y / 2 ^ n % 2 = f n (omega arith) in
    let r : x % 2 ^ n ≡ y % 2 ^ n = bits-mod n x y (λ i h. f i (omega arith)) in
    ap (λ (k : ℕ). x % 2 ^ k) (sym e) ∙ mod-pow-add x 1 n ∙ (λ i. b i * 2 ^ n + r i) ∙ sym (mod-pow-add y 1 n) ∙ ap (λ (k : ℕ). y % 2 ^ k) e

bits-same : (x y : ℕ) → x < 18446744073709551616 → y < 18446744073709551616 → ((i : ℕ) → i < 64 → x / 2 ^ i % 2 ≡ y / 2 ^ i % 2) → x ≡ y
bits-same x y h g f = let e : x % 18446744073709551616 ≡ y % 18446744073709551616 = bits-mod 64 x y f in omega arith

row-way : (k : Key) (level i v : ℕ) → row_of k level ≡ v → level % 64 ≡ i → way_of k level ≡ v / 2 ^ i % 2
unfolding way_of
row-way k level i v e f = ap (λ (x : ℕ). x / 2 ^ (level % 64) % 2) e ∙ ap (λ (j : ℕ). v / 2 ^ j % 2) f

row-x : (k : Key) (l : ℕ) → 24 ≤ l → l < 88 → row_of k l ≡ k.x
row-x k l h g = rw (le-ltb l 24 h, lt-ltb l 88 g)

row-y : (k : Key) (l : ℕ) → 88 ≤ l → l < 152 → row_of k l ≡ k.y
row-y k l h g = rw (le-ltb l 24 (omega arith), le-ltb l 88 h, lt-ltb l 152 g)

row_operands : (k : Key) (l : ℕ) → 152 ≤ l → l < 216 → row_of k l ≡ operands_of k
row_operands k l h g = rw (le-ltb l 24 (omega arith), le-ltb l 88 (omega arith), le-ltb l 152 h, lt-ltb l 216 g)

row_word : (k : Key) (l : ℕ) → 216 ≤ l → l < 280 → row_of k l ≡ k.word
row_word k l h g = rw (le-ltb l 24 (omega arith), le-ltb l 88 (omega arith), le-ltb l 152 (omega arith), le-ltb l 216 h)

-- numbers of a machine word
pub record Small (k : Key) : Type 0 where
  pub word-less : k.word < 18446744073709551616
  pub a-less : k.a.0 < 65536
  pub b-less : k.b.0 < 65536
  pub c-less : k.c.0 < 65536
  pub x-less : k.x < 18446744073709551616
  pub y-less : k.y < 18446744073709551616

module _ (k : Key) (S : Small k) where
  a_in : operands_of k % 65536 ≡ k.a.0
  a_in = omega (arith, S.a-less)

  b-in : operands_of k / 65536 % 65536 ≡ k.b.0
  b-in = omega (arith, S.a-less, S.b-less)

  c-in : operands_of k / 4294967296 ≡ k.c.0
  c-in = omega (arith, S.a-less, S.b-less)

module _ (k k' : Key) (ways : (i : ℕ) → 0 < i → i < 280 → way_of k i ≡ way_of k' i) where
  -- the row of 64 bits from b on
  part_same : (b v v' : ℕ) → b % 64 ≡ 24 → 24 ≤ b → b ≤ 216 → ((l : ℕ) → b ≤ l → l < b + 64 → row_of k l ≡ v) → ((l : ℕ) → b ≤ l → l < b + 64 → row_of k' l ≡ v')
      → v < 18446744073709551616 → v' < 18446744073709551616 → v ≡ v'
  part_same b v v' e low high f f' h h' =
      bits-same v v' h h'
      (λ i j.
      let l = b + (i + 40) % 64 in
      let m : l % 64 ≡ i = omega arith in
      sym (row-way k l i v (f l (omega arith) (omega arith)) m) ∙ ways l (omega arith) (omega arith) ∙ row-way k' l i v' (f' l (omega arith) (omega arith)) m)

  keys-agree : Small k → Small k' → k ≡ k'
  keys-agree S S' =
      let ex : k.x ≡ k'.x = part_same 24 _ _ refl (omega arith) (omega arith) (row-x k) (row-x k') S.x-less S'.x-less in
      let ey : k.y ≡ k'.y = part_same 88 _ _ refl (omega arith) (omega arith) (row-y k) (row-y k') S.y-less S'.y-less in
      let eo : operands_of k ≡ operands_of k' = part_same 152 _ _ refl (omega arith) (omega arith) (row_operands k) (row_operands k')
      (omega (arith, S.a-less, S.b-less, S.c-less)) (omega (arith, S'.a-less, S'.b-less, S'.c-less)) in
      let ew : k.word ≡ k'.word = part_same 216 _ _ refl (omega arith) (omega arith) (row_word k) (row_word k') S.word-less S'.word-less in
      let ea : k.a.0 ≡ k'.a.0 = sym (a_in k S) ∙ ap (λ (v : ℕ). v % 65536) eo ∙ a_in k' S' in
      let eb : k.b.0 ≡ k'.b.0 = sym (b-in k S) ∙ ap (λ (v : ℕ). v / 65536 % 65536) eo ∙ b-in k' S' in
      let ec : k.c.0 ≡ k'.c.0 = sym (c-in k S) ∙ ap (λ (v : ℕ). v / 4294967296) eo ∙ c-in k' S' in
      λ i. record { word = ew i; a = record { 0 = ea i }; b = record { 0 = eb i }; c = record { 0 = ec i }; x = ex i; y = ey i }

-- ---- the search

small-if : (b : Bool) (class : List ℕ) (m : ℕ) → ((i : ℕ) → get_or class i 0 < 65536) → class_if b class m < 65536
small-if true class m h = h m
small-if false class m h = omega arith

key-small : (ws class : List ℕ) (m : ℕ) → ((i : ℕ) → get_or ws i 0 < 18446744073709551616) → ((i : ℕ) → get_or class i 0 < 65536) → Small (key_of ws class m)
unfolding key_of
key-small ws class m words shorts =
    let kind = kind_number ws m in
    record {
      word-less = words (4 * m);
      a-less = small-if (has_a kind) class (op_a ws m) shorts;
      b-less = small-if (has_b kind) class (op_b ws m) shorts;
      c-less = small-if (has_c kind) class (op_c ws m) shorts;
      x-less = words (4 * m + 2);
      y-less = words (4 * m + 3);
    }

pub search-bounded : (ws : List ℕ) (n : ℕ) (class slots : List ℕ) → ((i : ℕ) → get_or ws i 0 < 18446744073709551616) → ((i : ℕ) → get_or class i 0 < 65536)
    → Kept ws n class slots
    → Bounded ws n class slots
search-bounded ws n class slots words shorts K s level j c e other = go (ltb level 280) refl
  where
    go : (t : Bool) → ltb level 280 ≡ t → level < 280
    go true h = ltb-true level 280 h
    go false h =
        let k = key_of ws class n in
        let k' = key_of ws class j in
        let o = K.own s j e in
        let A = agree slots K.once k k' c o.1 in
        let l : 280 ≤ level = ltb-false level 280 h in
        let q : k ≡ k' = keys-agree k k' (λ i g f. A.ways i g (omega arith)) (key-small ws class n words shorts) (key-small ws class j words shorts) in
        absurd (other (sym q))
