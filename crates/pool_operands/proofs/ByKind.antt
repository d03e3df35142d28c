-- What a kind's operands say of a node and of its term. Assumes nothing.
use mathlib.Core.Path.{◌≡◌, refl, sym, ap, ◌∙◌}
use mathlib.Core.Bool.{Bool, true, false, false≢true}
use Prim.Native.Nat.{ℕ, ◌<◌}
use Rattle.terms.specs.declared.BinOp.{BinOp}
use Rattle.terms.specs.declared.BinOp.TheVariants.{Add, Sub, Mul, And, Or, Xor, Shl, LShr, AShr}
use Rattle.terms.specs.declared.CmpOp.{CmpOp}
use Rattle.terms.specs.declared.CmpOp.TheVariants.{Eq, Ult, Slt}
use Rattle.terms.specs.Expr.{Expr, Var, Const, Bv, Compare, Ite, Extract, Concat, ZeroExtend, SignExtend}
use Rattle.pool.specs.Node.{Kind, bad, var, const, bv, compare, ite, extract, concat, zext, sext, bv_code, compare_code, code_of, Cell, wide}
use Rattle.pool.specs.Rules.{ok_kind}
use Rattle.pool.specs.Unfold.{shape_of}
use Rattle.pool_rules.proofs.Kept.{bv-tests, compare-tests, ite-tests, extract-tests, concat-tests, zext-tests}
use Rattle.pool_operands.specs.Operands.{has_a, has_b, has_c}

-- ---- operators have two operands

bv-two : (o : BinOp) → (has_a (bv_code o) ≡ true) × (has_b (bv_code o) ≡ true) × (has_c (bv_code o) ≡ false)
bv-two Add = (refl, refl, refl)
bv-two Sub = (refl, refl, refl)
bv-two Mul = (refl, refl, refl)
bv-two And = (refl, refl, refl)
bv-two Or = (refl, refl, refl)
bv-two Xor = (refl, refl, refl)
bv-two Shl = (refl, refl, refl)
bv-two LShr = (refl, refl, refl)
bv-two AShr = (refl, refl, refl)

cmp-two : (o : CmpOp) → (has_a (compare_code o) ≡ true) × (has_b (compare_code o) ≡ true) × (has_c (compare_code o) ≡ false)
cmp-two Eq = (refl, refl, refl)
cmp-two Ult = (refl, refl, refl)
cmp-two Slt = (refl, refl, refl)

pub bv-a : (o : BinOp) → has_a (bv_code o) ≡ true
bv-a o = (bv-two o).0

pub bv-b : (o : BinOp) → has_b (bv_code o) ≡ true
bv-b o = (bv-two o).1

pub bv-c : (o : BinOp) → has_c (bv_code o) ≡ false
bv-c o = (bv-two o).2

pub cmp-a : (o : CmpOp) → has_a (compare_code o) ≡ true
cmp-a o = (cmp-two o).0

pub cmp-b : (o : CmpOp) → has_b (compare_code o) ≡ true
cmp-b o = (cmp-two o).1

pub cmp-c : (o : CmpOp) → has_c (compare_code o) ≡ false
cmp-c o = (cmp-two o).2

pub no : {X : Type 0} {b : Bool} → b ≡ false → b ≡ true → X
no e f = absurd (false≢true (sym e ∙ f))

-- ---- by kind

-- the operands that a kind has come before the node
pub record Earlier (κ : Kind) (n : ℕ) (k : Cell) : Type 0 where
  pub a-less : has_a (code_of κ) ≡ true → k.a < n
  pub b-less : has_b (code_of κ) ≡ true → k.b < n
  pub c-less : has_c (code_of κ) ≡ true → k.c < n

module _ (n : ℕ) (k : Cell) (A B C : ℕ) where
  pub earlier-by : (κ : Kind) → ok_kind κ n k A B C ≡ true → Earlier κ n k
  earlier-by bad h = absurd (false≢true h)
  earlier-by var h = record { a-less = no refl; b-less = no refl; c-less = no refl }
  earlier-by const h = record { a-less = no refl; b-less = no refl; c-less = no refl }
  earlier-by (bv o) h = let t = bv-tests n k A B C o h in record { a-less = λ e. t.1; b-less = λ e. t.2; c-less = no (bv-c o) }
  earlier-by (compare o) h = let t = compare-tests n k A B C o h in record { a-less = λ e. t.1; b-less = λ e. t.2; c-less = no (cmp-c o) }
  earlier-by ite h = let t = ite-tests n k A B C h in record { a-less = λ e. t.1; b-less = λ e. t.2; c-less = λ e. t.3 }
  earlier-by extract h = let t = extract-tests n k A B C h in record { a-less = λ e. t.0; b-less = no refl; c-less = no refl }
  earlier-by concat h = let t = concat-tests n k A B C h in record { a-less = λ e. t.1; b-less = λ e. t.2; c-less = no refl }
  earlier-by zext h = let t = zext-tests n k A B C h in record { a-less = λ e. t.1; b-less = no refl; c-less = no refl }
  earlier-by sext h = let t = zext-tests n k A B C h in record { a-less = λ e. t.1; b-less = no refl; c-less = no refl }

-- the term of a node goes by its width, its data and the operands that its kind has
pub shape-by : (κ : Kind) (k l : Cell) (A A' B B' C C' : Expr) → k.width ≡ l.width → k.x ≡ l.x → k.y ≡ l.y → (has_a (code_of κ) ≡ true → A ≡ A')
    → (has_b (code_of κ) ≡ true → B ≡ B')
    → (has_c (code_of κ) ≡ true → C ≡ C')
    → shape_of κ k A B C ≡ shape_of κ l A' B' C'
shape-by bad k l A A' B B' C C' w x y f g h = refl
shape-by var k l A A' B B' C C' w x y f g h = ap Var x
shape-by const k l A A' B B' C C' w x y f g h = λ i. Const (wide (x i) (y i)) (w i)
shape-by (bv o) k l A A' B B' C C' w x y f g h = λ i. Bv o (f (bv-a o) i) (g (bv-b o) i)
shape-by (compare o) k l A A' B B' C C' w x y f g h = λ i. Compare o (f (cmp-a o) i) (g (cmp-b o) i)
shape-by ite k l A A' B B' C C' w x y f g h = λ i. Ite (f refl i) (g refl i) (h refl i)
shape-by extract k l A A' B B' C C' w x y f g h = λ i. Extract (f refl i) (x i) (y i)
shape-by concat k l A A' B B' C C' w x y f g h = λ i. Concat (f refl i) (g refl i)
shape-by zext k l A A' B B' C C' w x y f g h = λ i. ZeroExtend (f refl i) (w i)
shape-by sext k l A A' B B' C C' w x y f g h = λ i. SignExtend (f refl i) (w i)
