-- The code's tests of a node of one operand, of three or of none are the rules of its kind and of its set. Assumes nothing.
use mathlib.Core.Path.{◌≡◌}
use mathlib.Core.Bool.{Bool, true, ◌&&◌, and-true, and_assoc}
use Prim.Native.Nat.{ℕ, ◌+◌, ◌-◌, ◌^◌, ◌≤◌, ◌<◌}
use native.Mathlib.Omega.{arith}
use lib.Bits.{bit_or}
use lib.Dec.{ltb, leb, eqb}
use borrow.Author.Tests.{ltb-true, eqb-true, lt-ltb, le-leb, eq-eqb}
use Rattle.facts.proofs.Tests.{and_both}
use Rattle.pool.specs.Node.{Kind, var, const, ite, extract, zext, Cell, a_of, b_of, c_of, wide}
use Rattle.pool.specs.Rules.{wide_is_ok}
use Rattle.pool_rules.proofs.Keeps.{same, Keeps}

-- no operand, in one test
pub unused : (w1 : ℕ) → eqb w1 0 ≡ (eqb (a_of w1) 0 && eqb (b_of w1) 0 && eqb (c_of w1) 0)
unused w1 =
    same _ _
    (λ h. let e = eqb-true w1 0 h in rw e)
    (λ h.
    let p2 = and_both (eqb (a_of w1) 0 && eqb (b_of w1) 0) (eqb (c_of w1) 0) h in
    let p1 = and_both (eqb (a_of w1) 0) (eqb (b_of w1) 0) p2.0 in
    eq-eqb w1 0 (omega (arith, eqb-true (a_of w1) 0 p1.0, eqb-true (b_of w1) 0 p1.1, eqb-true (c_of w1) 0 p2.1)))

-- k the cell of node n and s its set; A, B and C are the widths of its operands, SA, SB and SC their sets
module _ (n : ℕ) (k : Cell) (A B C s SA SB SC : ℕ) where
  abbrev Rules : Kind → Bool
  Rules κ = Keeps n k A B C s SA SB SC κ

  abbrev NoOperands : Bool
  NoOperands = eqb k.a 0 && eqb k.b 0 && eqb k.c 0

  pub var-is : k.x < 32 → (eqb k.width 128 && NoOperands && eqb k.y 0 && eqb s (2 ^ k.x)) ≡ Rules var
  var-is x = simp (lt-ltb k.x 32 x, and-true, and_assoc)

  pub const-is : (leb 1 k.width && leb k.width 129 && NoOperands && ltb (wide k.x k.y) (2 ^ k.width) && eqb s 0) ≡ Rules const
  const-is = simp and_assoc

  pub ite-is : k.a < n → k.b < n → k.c < n
      → (leb 1 k.width && leb k.width 129 && eqb k.x 0 && eqb k.y 0 && eqb A 0 && eqb B k.width && eqb C k.width && eqb s (bit_or (bit_or SA SB) SC))
      ≡ Rules ite
  ite-is a b c = simp (lt-ltb k.a n a, lt-ltb k.b n b, lt-ltb k.c n c, and-true)

  module _ (less-a : k.a < n) (no-b : k.b ≡ 0) (no-c : k.c ≡ 0) where
    pub extract-is : k.y ≤ k.x → k.x < A → (eqb k.width (k.x - k.y + 1) && eqb s SA) ≡ Rules extract
    extract-is y x = simp (lt-ltb k.a n less-a, eq-eqb k.b 0 no-b, eq-eqb k.c 0 no-c, le-leb k.y k.x y, lt-ltb k.x A x)

    pub extend-is : (leb 1 k.width && leb k.width 129 && eqb k.x 0 && eqb k.y 0 && leb 1 A && leb A k.width && eqb s SA) ≡ Rules zext
    extend-is = simp (lt-ltb k.a n less-a, eq-eqb k.b 0 no-b, eq-eqb k.c 0 no-c, and-true)

  -- the operand is alone in word 1
  abbrev Alone : Type 0
  Alone = (k.a < n) × (k.b ≡ 0) × (k.c ≡ 0)

  pub extract-alone : Rules extract ≡ true → Alone
  extract-alone h =
      let p6 = and_both _ _ h in
      let p5 = and_both _ _ p6.0 in
      let p4 = and_both _ _ p5.0 in
      let p3 = and_both _ _ p4.0 in
      let p2 = and_both _ _ p3.0 in
      let p1 = and_both _ _ p2.0 in
      (ltb-true _ _ p1.0, eqb-true _ _ p1.1, eqb-true _ _ p2.1)

  pub extend-alone : Rules zext ≡ true → Alone
  extend-alone h =
      let p8 = and_both _ _ h in
      let p7 = and_both _ _ p8.0 in
      let p6 = and_both _ _ p7.0 in
      let p5 = and_both _ _ p6.0 in
      let p4 = and_both _ _ p5.0 in
      let p3 = and_both _ _ p4.0 in
      let p2 = and_both _ _ p3.0 in
      let p1 = and_both (wide_is_ok k.width) _ p2.0 in
      (ltb-true _ _ p1.1, eqb-true _ _ p2.1, eqb-true _ _ p3.1)
