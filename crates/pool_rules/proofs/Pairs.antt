-- The code's tests of a node of two operands are the rules of its kind and of its set. Assumes nothing.
use mathlib.Core.Path.{◌≡◌, refl, sym, ◌∙◌}
use mathlib.Core.Bool.{Bool, true, false, ◌&&◌, ◌||◌, or-true}
use mathlib.Core.Logic.{⊎_elim, ◌⊎◌, inl, inr}
use Prim.Native.Nat.{ℕ, ◌+◌, ◌≤◌, ◌<◌}
use native.Mathlib.Omega.{arith}
use lib.Bits.{bit_or}
use lib.Dec.{leb, eqb}
use borrow.Author.Tests.{ltb-true, leb-true, eqb-true, lt-ltb, le-leb, eq-eqb}
use Rattle.terms.specs.declared.BinOp.{BinOp}
use Rattle.terms.specs.declared.CmpOp.{CmpOp}
use Rattle.facts.proofs.Tests.{and_both}
use Rattle.pool.specs.Node.{Kind, bv, compare, concat, Cell}
use Rattle.pool_rules.proofs.Kept.{wide-one, wide-most}
use Rattle.pool_rules.proofs.Keeps.{same, Keeps, Holds}

-- k the cell of node n and s its set; A, B and C are the widths of its operands, SA, SB and SC their sets
module _ (n : ℕ) (k : Cell) (A B C s SA SB SC : ℕ) where
  abbrev Keeps' : Kind → Bool
  Keeps' κ = Keeps n k A B C s SA SB SC κ

  abbrev Holds' : Kind → Type 0
  Holds' κ = Holds n k A B C s SA SB SC κ

  -- W is what the kind says of the widths
  pub record Pair (W : Type 0) : Type 0 where
    pub less-a : k.a < n
    pub less-b : k.b < n
    pub no-c : k.c ≡ 0
    pub no-x : k.x ≡ 0
    pub no-y : k.y ≡ 0
    pub widths : W
    pub set_is : s ≡ bit_or SA SB

  abbrev BvWidths : Type 0
  BvWidths = (1 ≤ k.width) × (k.width ≤ 129) × (A ≡ k.width) × (B ≡ k.width)

  abbrev CompareWidths : Type 0
  CompareWidths = (k.width ≡ 0) × (1 ≤ A) × (B ≡ A)

  abbrev ConcatWidths : Type 0
  ConcatWidths = (1 ≤ k.width) × (k.width ≤ 129) × (1 ≤ A) × (1 ≤ B) × (k.width ≡ A + B)

  pub bv-facts : (o : BinOp) → Holds' (bv o) → Pair BvWidths
  bv-facts o h =
      let p8 = and_both _ _ h in
      let p7 = and_both _ _ p8.0 in
      let p6 = and_both _ _ p7.0 in
      let p5 = and_both _ _ p6.0 in
      let p4 = and_both _ _ p5.0 in
      let p3 = and_both _ _ p4.0 in
      let p2 = and_both _ _ p3.0 in
      let p1 = and_both _ _ p2.0 in
      record {
        less-a = ltb-true _ _ p1.1;
        less-b = ltb-true _ _ p2.1;
        no-c = eqb-true _ _ p3.1;
        no-x = eqb-true _ _ p4.1;
        no-y = eqb-true _ _ p5.1;
        widths = (wide-one _ p1.0, wide-most _ p1.0, eqb-true _ _ p6.1, eqb-true _ _ p7.1);
        set_is = eqb-true _ _ p8.1;
      }

  bv-holds : (o : BinOp) → Pair BvWidths → Holds' (bv o)
  bv-holds o f =
      let w = f.widths in
      rw (
        le-leb 1 k.width w.0,
        le-leb k.width 129 w.1,
        lt-ltb k.a n f.less-a,
        lt-ltb k.b n f.less-b,
        eq-eqb k.c 0 f.no-c,
        eq-eqb k.x 0 f.no-x,
        eq-eqb k.y 0 f.no-y,
        eq-eqb A k.width w.2,
        eq-eqb B k.width w.3,
        eq-eqb s (bit_or SA SB) f.set_is,
      )

  pub compare-facts : (o : CmpOp) → Holds' (compare o) → Pair CompareWidths
  compare-facts o h =
      let p8 = and_both _ _ h in
      let p7 = and_both _ _ p8.0 in
      let p6 = and_both _ _ p7.0 in
      let p5 = and_both _ _ p6.0 in
      let p4 = and_both _ _ p5.0 in
      let p3 = and_both _ _ p4.0 in
      let p2 = and_both _ _ p3.0 in
      let p1 = and_both _ _ p2.0 in
      record {
        less-a = ltb-true _ _ p1.1;
        less-b = ltb-true _ _ p2.1;
        no-c = eqb-true _ _ p3.1;
        no-x = eqb-true _ _ p4.1;
        no-y = eqb-true _ _ p5.1;
        widths = (eqb-true _ _ p1.0, leb-true _ _ p6.1, eqb-true _ _ p7.1);
        set_is = eqb-true _ _ p8.1;
      }

  compare-holds : (o : CmpOp) → Pair CompareWidths → Holds' (compare o)
  compare-holds o f =
      let w = f.widths in
      rw (
        eq-eqb k.width 0 w.0,
        lt-ltb k.a n f.less-a,
        lt-ltb k.b n f.less-b,
        eq-eqb k.c 0 f.no-c,
        eq-eqb k.x 0 f.no-x,
        eq-eqb k.y 0 f.no-y,
        le-leb 1 A w.1,
        eq-eqb B A w.2,
        eq-eqb s (bit_or SA SB) f.set_is,
      )

  pub concat-facts : Holds' concat → Pair ConcatWidths
  concat-facts h =
      let p9 = and_both _ _ h in
      let p8 = and_both _ _ p9.0 in
      let p7 = and_both _ _ p8.0 in
      let p6 = and_both _ _ p7.0 in
      let p5 = and_both _ _ p6.0 in
      let p4 = and_both _ _ p5.0 in
      let p3 = and_both _ _ p4.0 in
      let p2 = and_both _ _ p3.0 in
      let p1 = and_both _ _ p2.0 in
      record {
        less-a = ltb-true _ _ p1.1;
        less-b = ltb-true _ _ p2.1;
        no-c = eqb-true _ _ p3.1;
        no-x = eqb-true _ _ p4.1;
        no-y = eqb-true _ _ p5.1;
        widths = (wide-one _ p1.0, wide-most _ p1.0, leb-true _ _ p6.1, leb-true _ _ p7.1, eqb-true _ _ p8.1);
        set_is = eqb-true _ _ p9.1;
      }

  concat-holds : Pair ConcatWidths → Holds' concat
  concat-holds f =
      let w = f.widths in
      rw (
        le-leb 1 k.width w.0,
        le-leb k.width 129 w.1,
        lt-ltb k.a n f.less-a,
        lt-ltb k.b n f.less-b,
        eq-eqb k.c 0 f.no-c,
        eq-eqb k.x 0 f.no-x,
        eq-eqb k.y 0 f.no-y,
        le-leb 1 A w.2,
        le-leb 1 B w.3,
        eq-eqb k.width (A + B) w.4,
        eq-eqb s (bit_or SA SB) f.set_is,
      )

  -- the code's tests of two operands: e whether their widths may be combined, v the width over them
  abbrev PairTest : Bool → ℕ → Bool
  PairTest e v = leb 1 A && e && eqb k.width v && leb k.width 129 && eqb k.x 0 && eqb k.y 0 && eqb s (bit_or SA SB)

  record PairFacts (e : Bool) (v : ℕ) : Type 0 where
    one-a : 1 ≤ A
    stand : e ≡ true
    wide_is : k.width ≡ v
    most : k.width ≤ 129
    no-x : k.x ≡ 0
    no-y : k.y ≡ 0
    set_is : s ≡ bit_or SA SB

  pair-facts : (e : Bool) (v : ℕ) → PairTest e v ≡ true → PairFacts e v
  pair-facts e v h =
      let p7 = and_both _ _ h in
      let p6 = and_both _ _ p7.0 in
      let p5 = and_both _ _ p6.0 in
      let p4 = and_both _ _ p5.0 in
      let p3 = and_both _ _ p4.0 in
      let p2 = and_both _ _ p3.0 in
      record {
        one-a = leb-true _ _ p2.0;
        stand = p2.1;
        wide_is = eqb-true _ _ p3.1;
        most = leb-true _ _ p4.1;
        no-x = eqb-true _ _ p5.1;
        no-y = eqb-true _ _ p6.1;
        set_is = eqb-true _ _ p7.1;
      }

  pair-holds : (e : Bool) (v : ℕ) → PairFacts e v → PairTest e v ≡ true
  pair-holds e v f =
      rw (
        le-leb 1 A f.one-a,
        f.stand,
        eq-eqb k.width v f.wide_is,
        le-leb k.width 129 f.most,
        eq-eqb k.x 0 f.no-x,
        eq-eqb k.y 0 f.no-y,
        eq-eqb s (bit_or SA SB) f.set_is,
      )

  module _ (less-a : k.a < n) (less-b : k.b < n) (no-c : k.c ≡ 0) where
    pub bv-is : (o : BinOp) → PairTest (eqb A B) A ≡ Keeps' (bv o)
    bv-is o =
        same _ _
        (λ h.
        let t = pair-facts (eqb A B) A h in
        let e : A ≡ B = eqb-true A B t.stand in
        bv-holds o (record {
          less-a = less-a;
          less-b = less-b;
          no-c = no-c;
          no-x = t.no-x;
          no-y = t.no-y;
          widths = (omega (arith, t.wide_is, t.one-a), t.most, sym t.wide_is, omega (arith, t.wide_is, e));
          set_is = t.set_is;
        }))
        (λ h.
        let f = bv-facts o h in
        let w = f.widths in
        pair-holds (eqb A B) A (record {
          one-a = omega (arith, w.0, w.2);
          stand = eq-eqb A B (omega (arith, w.2, w.3));
          wide_is = sym w.2;
          most = w.1;
          no-x = f.no-x;
          no-y = f.no-y;
          set_is = f.set_is;
        }))

    pub compare-is : (o : CmpOp) → PairTest (eqb A B) 0 ≡ Keeps' (compare o)
    compare-is o =
        same _ _
        (λ h.
        let t = pair-facts (eqb A B) 0 h in
        compare-holds o (record {
          less-a = less-a;
          less-b = less-b;
          no-c = no-c;
          no-x = t.no-x;
          no-y = t.no-y;
          widths = (t.wide_is, t.one-a, sym (eqb-true A B t.stand));
          set_is = t.set_is;
        }))
        (λ h.
        let f = compare-facts o h in
        let w = f.widths in
        pair-holds (eqb A B) 0 (record {
          one-a = w.1;
          stand = eq-eqb A B (sym w.2);
          wide_is = w.0;
          most = omega (arith, w.0);
          no-x = f.no-x;
          no-y = f.no-y;
          set_is = f.set_is;
        }))

    -- the operands' widths are any
    stands : 1 ≤ A → (eqb A B || leb 1 B) ≡ leb 1 B
    stands h =
        same _ _ (λ e. ⊎_elim (λ q. le-leb 1 B (omega (arith, eqb-true A B q))) (λ q. q) (either (eqb A B) (leb 1 B) e)) (λ e. rw e (or-true (eqb A B)))
      where
        either : (p q : Bool) → (p || q) ≡ true → (p ≡ true) ⊎ (q ≡ true)
        either true q e = inl refl
        either false q e = inr e

    pub concat-is : PairTest (eqb A B || leb 1 B) (A + B) ≡ Keeps' concat
    concat-is =
        same _ _
        (λ h.
        let t = pair-facts (eqb A B || leb 1 B) (A + B) h in
        let b : 1 ≤ B = leb-true 1 B (sym (stands t.one-a) ∙ t.stand) in
        concat-holds (record {
          less-a = less-a;
          less-b = less-b;
          no-c = no-c;
          no-x = t.no-x;
          no-y = t.no-y;
          widths = (omega (arith, t.wide_is, t.one-a), t.most, t.one-a, b, t.wide_is);
          set_is = t.set_is;
        }))
        (λ h.
        let f = concat-facts h in
        let w = f.widths in
        pair-holds (eqb A B || leb 1 B) (A + B) (record {
          one-a = w.2;
          stand = stands w.2 ∙ le-leb 1 B w.3;
          wide_is = w.4;
          most = w.1;
          no-x = f.no-x;
          no-y = f.no-y;
          set_is = f.set_is;
        }))
