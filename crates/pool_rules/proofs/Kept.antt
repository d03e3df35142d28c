-- What the rules of a valid pool say of a node by its kind: its operands come before it and have the widths that they must. Assumes nothing.
use Prim.Native.Nat.{ℕ, ◌+◌, ◌-◌, ◌^◌, ◌≤◌, ◌<◌}
use mathlib.Core.Path.{◌≡◌}
use mathlib.Core.Bool.{true, ◌&&◌, false≢true}
use native.Mathlib.Omega.{arith}
use lib.Dec.{leb, eqb}
use borrow.Author.Tests.{ltb-true, leb-true, eqb-true}
use Rattle.terms.specs.declared.BinOp.{BinOp}
use Rattle.terms.specs.declared.CmpOp.{CmpOp}
use Rattle.facts.proofs.Tests.{and_both}
use Rattle.pool.specs.Node.{Kind, bad, var, const, bv, compare, ite, extract, concat, zext, Cell, wide}
use Rattle.pool.specs.Rules.{wide_is_ok, ok_kind}

pub wide-one : (w : ℕ) → wide_is_ok w ≡ true → 1 ≤ w
wide-one w h = let p = and_both _ _ h in leb-true _ _ p.0

pub wide-most : (w : ℕ) → wide_is_ok w ≡ true → w ≤ 129
wide-most w h = leb-true w 129 (and_both (leb 1 w) (leb w 129) h).1

-- k the cell of node n, A, B and C the widths of its operands
module _ (n : ℕ) (k : Cell) (A B C : ℕ) where
  abbrev pub Ok : Kind → Type 0
  Ok κ = ok_kind κ n k A B C ≡ true

  -- two operands that are vector terms
  pub record Two : Type 0 where
    pub less-a : k.a < n
    pub less-b : k.b < n
    pub term-a : 1 ≤ A
    pub term-b : 1 ≤ B

  -- a condition and two vector terms
  pub record Three : Type 0 where
    pub less-a : k.a < n
    pub less-b : k.b < n
    pub less-c : k.c < n
    pub cond-a : A ≡ 0
    pub term-b : 1 ≤ B
    pub term-c : 1 ≤ C

  -- one operand that is a vector term
  pub record One : Type 0 where
    pub less-a : k.a < n
    pub term-a : 1 ≤ A

  pub register : Ok var → k.x < 32
  register h =
      let p1 = and_both _ _ h in
      let p0 = and_both (eqb k.width 128 && eqb k.a 0 && eqb k.b 0 && eqb k.c 0) _ p1.0 in
      ltb-true _ _ p0.1

  pub var-wide : Ok var → k.width ≡ 128
  var-wide h = eqb-true _ _ (and_both _ _ (and_both _ _ (and_both _ _ (and_both _ _ (and_both _ _ h).0).0).0).0).0

  pub const-wide : Ok const → wide_is_ok k.width ≡ true
  const-wide h = (and_both _ _ (and_both _ _ (and_both _ _ (and_both _ _ h).0).0).0).0

  pub const_fits : Ok const → wide k.x k.y < 2 ^ k.width
  const_fits h = ltb-true _ _ (and_both (wide_is_ok k.width && eqb k.a 0 && eqb k.b 0 && eqb k.c 0) _ h).1

  -- the first three tests of a kind that has eight, and the last two
  pub bv-tests : (o : BinOp) → Ok (bv o) → (wide_is_ok k.width ≡ true) × (k.a < n) × (k.b < n) × (A ≡ k.width) × (B ≡ k.width)
  bv-tests o h =
      let p7 = and_both _ _ h in
      let p6 = and_both _ _ p7.0 in
      let p2 = and_both _ _ (and_both _ _ (and_both _ _ (and_both _ _ p6.0).0).0).0 in
      let p1 = and_both _ _ p2.0 in
      (p1.0, ltb-true _ _ p1.1, ltb-true _ _ p2.1, eqb-true _ _ p6.1, eqb-true _ _ p7.1)

  pub bv-two : (o : BinOp) → Ok (bv o) → Two
  bv-two o h =
      let t = bv-tests o h in
      let w : 1 ≤ k.width = wide-one _ t.0 in
      record { less-a = t.1; less-b = t.2; term-a = omega (arith, t.3); term-b = omega (arith, t.4) }

  pub compare-tests : (o : CmpOp) → Ok (compare o) → (k.width ≡ 0) × (k.a < n) × (k.b < n) × (1 ≤ A) × (B ≡ A)
  compare-tests o h =
      let p7 = and_both _ _ h in
      let p6 = and_both _ _ p7.0 in
      let p2 = and_both _ _ (and_both _ _ (and_both _ _ (and_both _ _ p6.0).0).0).0 in
      let p1 = and_both _ _ p2.0 in
      (eqb-true _ _ p1.0, ltb-true _ _ p1.1, ltb-true _ _ p2.1, leb-true _ _ p6.1, eqb-true _ _ p7.1)

  pub compare-two : (o : CmpOp) → Ok (compare o) → Two
  compare-two o h = let t = compare-tests o h in record { less-a = t.1; less-b = t.2; term-a = t.3; term-b = omega (arith, t.3, t.4) }

  pub ite-tests : Ok ite → (wide_is_ok k.width ≡ true) × (k.a < n) × (k.b < n) × (k.c < n) × (A ≡ 0) × (B ≡ k.width) × (C ≡ k.width)
  ite-tests h =
      let p8 = and_both _ _ h in
      let p7 = and_both _ _ p8.0 in
      let p6 = and_both _ _ p7.0 in
      let p3 = and_both _ _ (and_both _ _ (and_both _ _ p6.0).0).0 in
      let p2 = and_both _ _ p3.0 in
      let p1 = and_both _ _ p2.0 in
      (p1.0, ltb-true _ _ p1.1, ltb-true _ _ p2.1, ltb-true _ _ p3.1, eqb-true _ _ p6.1, eqb-true _ _ p7.1, eqb-true _ _ p8.1)

  pub ite-three : Ok ite → Three
  ite-three h =
      let t = ite-tests h in
      let w : 1 ≤ k.width = wide-one _ t.0 in
      record { less-a = t.1; less-b = t.2; less-c = t.3; cond-a = t.4; term-b = omega (arith, t.5); term-c = omega (arith, t.6) }

  pub extract-tests : Ok extract → (k.a < n) × (k.y ≤ k.x) × (k.x < A) × (k.width ≡ k.x - k.y + 1)
  extract-tests h =
      let p5 = and_both _ _ h in
      let p4 = and_both _ _ p5.0 in
      let p3 = and_both _ _ p4.0 in
      let p1 = and_both _ _ (and_both _ _ p3.0).0 in
      (ltb-true _ _ p1.0, leb-true _ _ p3.1, ltb-true _ _ p4.1, eqb-true _ _ p5.1)

  pub extract-one : Ok extract → One
  extract-one h = let t = extract-tests h in record { less-a = t.0; term-a = omega (arith, t.2) }

  -- the bits of a cut lie in its operand
  pub extract-range : Ok extract → (k.y ≤ k.x) × (k.x < A)
  extract-range h = let t = extract-tests h in (t.1, t.2)

  pub concat-tests : Ok concat → (wide_is_ok k.width ≡ true) × (k.a < n) × (k.b < n) × (1 ≤ A) × (1 ≤ B) × (k.width ≡ A + B)
  concat-tests h =
      let p8 = and_both _ _ h in
      let p7 = and_both _ _ p8.0 in
      let p6 = and_both _ _ p7.0 in
      let p2 = and_both _ _ (and_both _ _ (and_both _ _ (and_both _ _ p6.0).0).0).0 in
      let p1 = and_both _ _ p2.0 in
      (p1.0, ltb-true _ _ p1.1, ltb-true _ _ p2.1, leb-true _ _ p6.1, leb-true _ _ p7.1, eqb-true _ _ p8.1)

  pub concat-two : Ok concat → Two
  concat-two h = let t = concat-tests h in record { less-a = t.1; less-b = t.2; term-a = t.3; term-b = t.4 }

  pub zext-tests : Ok zext → (wide_is_ok k.width ≡ true) × (k.a < n) × (1 ≤ A) × (A ≤ k.width)
  zext-tests h =
      let p7 = and_both _ _ h in
      let p6 = and_both _ _ p7.0 in
      let p1 = and_both _ _ (and_both _ _ (and_both _ _ (and_both _ _ (and_both _ _ p6.0).0).0).0).0 in
      (p1.0, ltb-true _ _ p1.1, leb-true _ _ p6.1, leb-true _ _ p7.1)

  pub zext-one : Ok zext → One
  zext-one h = let t = zext-tests h in record { less-a = t.1; term-a = t.2 }

  -- a node that is no comparison has a width
  pub wide-bad : Ok bad → 1 ≤ k.width
  wide-bad h = absurd (false≢true h)

  pub wide-var : Ok var → 1 ≤ k.width
  wide-var h = omega (arith, var-wide h)

  pub wide-const : Ok const → 1 ≤ k.width
  wide-const h = wide-one _ (const-wide h)

  pub wide-bv : (o : BinOp) → Ok (bv o) → 1 ≤ k.width
  wide-bv o h = wide-one _ (bv-tests o h).0

  pub wide-ite : Ok ite → 1 ≤ k.width
  wide-ite h = wide-one _ (ite-tests h).0

  pub wide-extract : Ok extract → 1 ≤ k.width
  wide-extract h = omega (arith, (extract-tests h).3)

  pub wide-concat : Ok concat → 1 ≤ k.width
  wide-concat h = wide-one _ (concat-tests h).0

  pub wide-zext : Ok zext → 1 ≤ k.width
  wide-zext h = wide-one _ (zext-tests h).0

  -- no width is above 129, if that of the first operand is not
  module _ (small : k.a < n → A ≤ 129) where
    pub most-bad : Ok bad → k.width ≤ 129
    most-bad h = absurd (false≢true h)

    pub most-var : Ok var → k.width ≤ 129
    most-var h = omega (arith, var-wide h)

    pub most-const : Ok const → k.width ≤ 129
    most-const h = wide-most _ (const-wide h)

    pub most-bv : (o : BinOp) → Ok (bv o) → k.width ≤ 129
    most-bv o h = wide-most _ (bv-tests o h).0

    pub most-compare : (o : CmpOp) → Ok (compare o) → k.width ≤ 129
    most-compare o h = omega (arith, (compare-tests o h).0)

    pub most-ite : Ok ite → k.width ≤ 129
    most-ite h = wide-most _ (ite-tests h).0

    pub most-extract : Ok extract → k.width ≤ 129
    most-extract h = let t = extract-tests h in omega (arith, small t.0, t.2, t.3)

    pub most-concat : Ok concat → k.width ≤ 129
    most-concat h = wide-most _ (concat-tests h).0

    pub most-zext : Ok zext → k.width ≤ 129
    most-zext h = wide-most _ (zext-tests h).0
