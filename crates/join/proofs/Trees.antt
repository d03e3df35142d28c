-- What the words of a joined pool unfold to. Assumes nothing.
use mathlib.Core.Path.{◌≡◌, refl, sym, ap, ◌∙◌, subst}
use mathlib.Core.Bool.{Bool, true, false, cond, false≢true}
use mathlib.Core.List.{List}
use mathlib.Core.Logic.{◌↔◌}
use Prim.Native.Nat.{ℕ, zero, suc, ◌+◌, ◌-◌, ◌*◌, ◌≤◌, ◌<◌}
use native.Mathlib.Omega.{arith}
use lib.Dec.{ltb, eqb}
use lib.ListN.{get_or}
use borrow.Author.Tests.{lt-ltb, le-ltb, ltb-true, ltb-false, eqb-true, eq-eqb}
use Rattle.terms.specs.declared.CmpOp.TheVariants.{Eq}
use Rattle.terms.specs.Expr.{Compare}
use Rattle.terms.specs.Value.{value}
use Rattle.pool.specs.Node.{compare, kinds, kind_at, Cell, cell_at, decode, a_of, b_of, c_of, word_at, kind_number, width_at, set_at, set_of, kind_word, operand_word}
use Rattle.pool.specs.Rules.{ok_node, ok_pool, ok_cell, width_before, set_rule, Valid}
use Rattle.pool.specs.Unfold.{unfold_at}
use Rattle.pool.proofs.Facts.{valid-node}
use Rattle.pool.proofs.Laws.{unfold-step, packed, packed-set}
use Rattle.join.specs.Join.{moved, moved_if, moved_word, join_count, join_word, eq_set}
use Rattle.pool_operands.specs.Operands.{has_a, has_b, has_c}
use Rattle.pool_operands.proofs.ByKind.{earlier-by}
use Rattle.join.proofs.Registers.{Starts, var_cell, var-at, register-set, code_at}
use Rattle.join.proofs.Renamed.{CopyOf, renamed, copy-ok}

module _ (first : List ℕ) (c : ℕ) (second : List ℕ) (d x y : ℕ) (F : Starts first c) (S : Starts second d) (few : join_count c d ≤ 65535) (new : List ℕ)
    (words : (n j : ℕ) → n < join_count c d → j < 4 → get_or new (4 * n + j) 0 ≡ join_word first c second d x y n j) where
  -- ---- the words of a node

  first_word : (n j : ℕ) → n < c → j < 4 → get_or new (4 * n + j) 0 ≡ word_at first n j
  unfolding join_word
  first_word n j h g = words n j (omega (arith, F.enough, S.enough)) g ∙ rw (lt-ltb n c h)

  first_cell : (n : ℕ) → n < c → cell_at new n ≡ cell_at first n
  first_cell n h =
      let e : 4 * n + 0 ≡ 4 * n = omega arith in
      let w0 : get_or new (4 * n) 0 ≡ get_or first (4 * n) 0 = rw e at (first_word n 0 h (omega arith)) in
      λ i. decode (w0 i) (first_word n 1 h (omega arith) i) (first_word n 2 h (omega arith) i) (first_word n 3 h (omega arith) i)

  first-sets : (n : ℕ) → n < c → set_at new n ≡ set_at first n
  first-sets n h =
      let e : 4 * n + 0 ≡ 4 * n = omega arith in
      let w0 : get_or new (4 * n) 0 ≡ get_or first (4 * n) 0 = rw e at (first_word n 0 h (omega arith)) in
      ap set_of w0

  pub first-copies : (n : ℕ) → n < c → CopyOf (λ m. m) (cell_at first n) (cell_at new n)
  first-copies n h =
      subst (CopyOf (λ m. m) (cell_at first n)) (sym (first_cell n h))
      (record { kind = refl; wide = refl; x-same = refl; y-same = refl; a-new = λ e. refl; b-new = λ e. refl; c-new = λ e. refl; a-old = λ e. refl; b-old = λ e. refl; c-old = λ e. refl })

  pub first-trees : (n : ℕ) → n < c → unfold_at new n ≡ unfold_at first n
  first-trees n h = renamed first c F.valid new (λ m. m) (λ m n l. l) first-copies n h

  -- ---- the second pool's

  moved-high : (m : ℕ) → 32 ≤ m → moved c m ≡ m + c - 32
  moved-high m h = rw (le-ltb m 32 h)

  by-half : (P : ℕ → Type 0) (m : ℕ) → (m < 32 → P m) → (32 ≤ m → P (m + c - 32)) → P (moved c m)
  by-half P m f g = go (ltb m 32) refl
    where
      go : (t : Bool) → ltb m 32 ≡ t → P (cond t m (m + c - 32))
      go true e = f (ltb-true m 32 e)
      go false e = g (ltb-false m 32 e)

  moved-rises : (m n : ℕ) → m < n → moved c m < moved c n
  moved-rises m n h =
      by-half (λ a. a < moved c n) m (λ l. by-half (λ b. m < b) n (λ k. h) (λ k. omega (arith, F.enough)))
      (λ l. rw (moved-high n (omega arith)) (omega (arith, F.enough)))

  moved-small : (m : ℕ) → m < d → moved c m < join_count c d
  moved-small m h = by-half (λ a. a < join_count c d) m (λ l. omega (arith, F.enough, S.enough)) (λ l. omega (arith, F.enough, S.enough))

  second_word : (m j : ℕ) → 32 ≤ m → m < d → j < 4 → get_or new (4 * (m + c - 32) + j) 0 ≡ cond (eqb j 1) (moved_word c (kind_number second m) (word_at second m 1)) (word_at second m j)
  unfolding join_word
  second_word m j h l g =
      let n = m + c - 32 in
      let e : n + 32 - c ≡ m = omega (arith, F.enough) in
      words n j (omega (arith, F.enough)) g ∙ rw (le-ltb n c (omega (arith, F.enough)), lt-ltb n (c + d - 32) (omega (arith, F.enough)), e)

  if-small : (b : Bool) (m : ℕ) → (b ≡ true → m < d) → m < 65536 → moved_if b c m < 65536
  if-small true m f h = omega (arith, moved-small m (f refl))
  if-small false m f h = h

  if-not : (b : Bool) (m q : ℕ) → q ≡ moved_if b c m → b ≡ false → q ≡ m
  if-not true m q e h = absurd (false≢true (sym h))
  if-not false m q e h = e

  if-is : (b : Bool) (m q : ℕ) → q ≡ moved_if b c m → b ≡ true → q ≡ moved c m
  if-is true m q e h = e
  if-is false m q e h = absurd (false≢true h)

  second-high : (m : ℕ) → 32 ≤ m → m < d → CopyOf (moved c) (cell_at second m) (cell_at new (m + c - 32))
  second-high m h l =
      let n = m + c - 32 in
      let k = cell_at second m in
      let kn = kind_number second m in
      let e : 4 * n + 0 ≡ 4 * n = omega arith in
      let e' : 4 * m + 0 ≡ 4 * m = omega arith in
      let w0 : get_or new (4 * n) 0 ≡ get_or second (4 * m) 0 = rw (e, e') at (second_word m 0 h l (omega arith)) in
      let w1 : get_or new (4 * n + 1) 0 ≡ moved_word c kn (word_at second m 1) = second_word m 1 h l (omega arith) in
      let w2 : get_or new (4 * n + 2) 0 ≡ get_or second (4 * m + 2) 0 = second_word m 2 h l (omega arith) in
      let w3 : get_or new (4 * n + 3) 0 ≡ get_or second (4 * m + 3) 0 = second_word m 3 h l (omega arith) in
      let code = code_at second d m S.valid l in
      let less = earlier-by m k (width_before second m k.a) (width_before second m k.b) (width_before second m k.c) k.kind (valid-node second d m S.valid l) in
      let A = moved_if (has_a kn) c k.a in
      let B = moved_if (has_b kn) c k.b in
      let C = moved_if (has_c kn) c k.c in
      let sa : A < 65536 = if-small (has_a kn) k.a (λ q. omega (arith, less.a-less (rw code at q))) (omega arith) in
      let sb : B < 65536 = if-small (has_b kn) k.b (λ q. omega (arith, less.b-less (rw code at q))) (omega arith) in
      let packs = packed 0 0 0 A B C 0 0 (omega arith) (omega arith) sa sb in
      let ea : (cell_at new n).a ≡ A = ap a_of w1 ∙ ap (λ (z : Cell). z.a) packs in
      let eb : (cell_at new n).b ≡ B = ap b_of w1 ∙ ap (λ (z : Cell). z.b) packs in
      let ec : (cell_at new n).c ≡ C = ap c_of w1 ∙ ap (λ (z : Cell). z.c) packs in
      record {
        kind = rw w0;
        wide = rw w0;
        x-same = w2;
        y-same = w3;
        a-new = λ q. if-is (has_a kn) k.a _ ea (rw code q);
        b-new = λ q. if-is (has_b kn) k.b _ eb (rw code q);
        c-new = λ q. if-is (has_c kn) k.c _ ec (rw code q);
        a-old = λ q. if-not (has_a kn) k.a _ ea (rw code q);
        b-old = λ q. if-not (has_b kn) k.b _ eb (rw code q);
        c-old = λ q. if-not (has_c kn) k.c _ ec (rw code q);
      }

  second-low : (m : ℕ) → m < 32 → CopyOf (moved c) (cell_at second m) (cell_at new m)
  second-low m h =
      let e : cell_at second m ≡ var_cell m = var-at second d S m h in
      let f : cell_at new m ≡ var_cell m = first_cell m (omega (arith, F.enough)) ∙ var-at first c F m h in
      rw (e, f)
      (record {
        kind = refl;
        wide = refl;
        x-same = refl;
        y-same = refl;
        a-new = λ q. absurd (false≢true q);
        b-new = λ q. absurd (false≢true q);
        c-new = λ q. absurd (false≢true q);
        a-old = λ q. refl;
        b-old = λ q. refl;
        c-old = λ q. refl;
      })

  second-sets : (m : ℕ) → m < d → set_at new (moved c m) ≡ set_at second m
  second-sets m h = by-half (λ n. set_at new n ≡ set_at second m) m low high
    where
      low : m < 32 → set_at new m ≡ set_at second m
      low l =
          first-sets m (omega (arith, F.enough)) ∙ register-set first c F m l ∙ sym (register-set second d S m l)

      high : 32 ≤ m → set_at new (m + c - 32) ≡ set_at second m
      high l =
          let n = m + c - 32 in
          let e : 4 * n + 0 ≡ 4 * n = omega arith in
          let e' : 4 * m + 0 ≡ 4 * m = omega arith in
          let w0 : get_or new (4 * n) 0 ≡ get_or second (4 * m) 0 = rw (e, e') at (second_word m 0 l h (omega arith)) in
          ap set_of w0

  pub second-copies : (m : ℕ) → m < d → CopyOf (moved c) (cell_at second m) (cell_at new (moved c m))
  second-copies m h =
      by-half (λ n. CopyOf (moved c) (cell_at second m) (cell_at new n)) m (λ l. second-low m l) (λ l. second-high m l h)

  pub second-trees : (m : ℕ) → m < d → unfold_at new (moved c m) ≡ unfold_at second m
  second-trees m h = renamed second d S.valid new (moved c) moved-rises second-copies m h

  -- ---- the Eq

  eq-word : (j : ℕ) → j < 4 → get_or new (4 * (c + d - 32) + j) 0 ≡ cond (eqb j 0) (kind_word 12 0 (eq_set first second x y)) (cond (eqb j 1) (operand_word x (moved c y) 0) 0)
  unfolding join_word
  eq-word j g =
      let n = c + d - 32 in
      words n j (omega (arith, F.enough)) g ∙ rw (le-ltb n c (omega (arith, S.enough)), le-ltb n n (omega arith))

  module _ (xc : x < c) (yd : y < d) where
    eq-cell : cell_at new (c + d - 32) ≡ record { kind = compare Eq; width = 0; a = x; b = moved c y; c = 0; x = 0; y = 0 }
    unfolding kind_at kinds
    eq-cell =
        let n = c + d - 32 in
        let e : 4 * n + 0 ≡ 4 * n = omega arith in
        let w0 : get_or new (4 * n) 0 ≡ kind_word 12 0 (eq_set first second x y) = rw e at (eq-word 0 (omega arith)) in
        (λ i. decode (w0 i) (eq-word 1 (omega arith) i) (eq-word 2 (omega arith) i) (eq-word 3 (omega arith) i))
        ∙ packed 12 0 (eq_set first second x y) x (moved c y) 0 0 0 (omega arith) (omega arith) (omega (arith, S.enough)) (omega (arith, moved-small y yd))

    -- the Eq is of the two chosen terms
    pub eq-tree : unfold_at new (c + d - 32) ≡ Compare Eq (unfold_at first x) (unfold_at second y)
    eq-tree =
        let n = c + d - 32 in
        let ly : moved c y < n = by-half (λ a. a < n) y (λ l. omega (arith, F.enough, S.enough)) (λ l. omega (arith, F.enough)) in
        unfold-step new n _ eq-cell ∙ rw (lt-ltb x n (omega (arith, S.enough)), lt-ltb (moved c y) n ly, first-trees x xc, second-trees y yd)

    bit_is : (a b : ℕ) → (◌≡◌ {A = ℕ} (cond (eqb a b) 1 0) 1) ↔ (a ≡ b)
    bit_is a b = (go (eqb a b) refl, λ e. rw (eq-eqb a b e))
      where
        go : (t : Bool) → eqb a b ≡ t → ◌≡◌ {A = ℕ} (cond t 1 0) 1 → a ≡ b
        go true e h = eqb-true a b e
        go false e h = absurd (omega arith)

    -- it holds at a start exactly when the two are equal there
    pub eq-value : (start : ℕ → ℕ) → (value start (unfold_at new (c + d - 32)) ≡ 1) ↔ (value start (unfold_at first x) ≡ value start (unfold_at second y))
    unfolding value
    eq-value start = rw eq-tree (bit_is (value start (unfold_at first x)) (value start (unfold_at second y)))

    -- the joined pool keeps the rules
    module _ (xw : width_at first x ≡ 128) (yw : width_at second y ≡ 128) where
      first-ok : (n : ℕ) → n < c → ok_node new n ≡ true
      first-ok n h = copy-ok first c F.valid new (λ m. m) (λ m n l. l) first-copies first-sets n h

      second-ok : (m : ℕ) → m < d → ok_node new (moved c m) ≡ true
      second-ok m h = copy-ok second d S.valid new (moved c) moved-rises second-copies second-sets m h

      eq-ok : ok_node new (c + d - 32) ≡ true
      eq-ok =
          let n = c + d - 32 in
          let ly : moved c y < n = by-half (λ a. a < n) y (λ l. omega (arith, F.enough, S.enough)) (λ l. omega (arith, F.enough)) in
          let wx : width_at new x ≡ 128 = ap (λ (k : Cell). k.width) (first_cell x xc) ∙ xw in
          let wy : width_at new (moved c y) ≡ 128 = (second-copies y yd).wide ∙ yw in
          let e : 4 * n + 0 ≡ 4 * n = omega arith in
          let w0 : get_or new (4 * n) 0 ≡ kind_word 12 0 (eq_set first second x y) = rw e at (eq-word 0 (omega arith)) in
          let s : set_at new n ≡ eq_set first second x y = ap set_of w0 ∙ packed-set 12 0 (eq_set first second x y) (omega arith) (omega arith) in
          let r : set_rule new n (cell_at new n) ≡ eq_set first second x y =
          ap (set_rule new n) eq-cell ∙ rw (lt-ltb x n (omega (arith, S.enough)), lt-ltb (moved c y) n ly, first-sets x xc, second-sets y yd) in
          let o : ok_cell new n (cell_at new n) ≡ true =
          subst (λ (k : Cell). ok_cell new n k ≡ true) (sym eq-cell) (rw (lt-ltb x n (omega (arith, S.enough)), lt-ltb (moved c y) n ly, wx, wy)) in
          rw o (eq-eqb (set_at new n) (set_rule new n (cell_at new n)) (s ∙ sym r))

      node_ok : (n : ℕ) → n < join_count c d → ok_node new n ≡ true
      node_ok n h = go (ltb n c) refl (ltb n (c + d - 32)) refl
        where
          go : (s : Bool) → ltb n c ≡ s → (t : Bool) → ltb n (c + d - 32) ≡ t → ok_node new n ≡ true
          go true e t f = first-ok n (ltb-true n c e)
          go false e true f =
              let g : c ≤ n = ltb-false n c e in
              let k : n < c + d - 32 = ltb-true _ _ f in
              let m = n + 32 - c in
              let q : moved c m ≡ n = moved-high m (omega (arith, F.enough)) ∙ omega (arith, F.enough) in
              subst (λ (i : ℕ). ok_node new i ≡ true) q (second-ok m (omega (arith, F.enough)))
          go false e false f =
              let g : c + d - 32 ≤ n = ltb-false _ _ f in
              let q : n ≡ c + d - 32 = omega (arith, F.enough) in
              rw q eq-ok

      all-ok : (n : ℕ) → n ≤ join_count c d → Valid new n
      unfolding ok_pool
      all-ok zero h = refl
      all-ok (suc n) h = rw (all-ok n (omega arith)) (node_ok n h)

      pub joined-valid : Valid new (join_count c d)
      joined-valid = all-ok (join_count c d) (omega arith)
