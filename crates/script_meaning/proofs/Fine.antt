-- Every word of a pool's script is plain, so that the script is read as it was written. Assumes nothing.
use mathlib.Core.Path.{◌≡◌, refl}
use mathlib.Core.Bool.{true, false≢true}
use mathlib.Core.List.{List, [], ◌∷◌}
use Prim.Native.Nat.{ℕ, zero, suc, ◌+◌, ◌-◌, ◌≤◌, ◌<◌}
use native.Mathlib.Omega.{arith}
use lib.ListN.{length}
use Rattle.terms.specs.declared.BinOp.{BinOp}
use Rattle.terms.specs.declared.BinOp.TheVariants.{Add, Sub, Mul, And, Or, Xor, Shl, LShr, AShr}
use Rattle.terms.specs.declared.CmpOp.{CmpOp}
use Rattle.terms.specs.declared.CmpOp.TheVariants.{Eq, Ult, Slt}
use Rattle.terms.specs.Display.{decimal}
use Rattle.pool.specs.Node.{Kind, bad, var, const, bv, compare, ite, extract, concat, zext, sext, Cell, cell_at, width_at, wide}
use Rattle.pool.specs.Rules.{width_before, ok_kind, Valid}
use Rattle.pool.proofs.Facts.{valid-node}
use Rattle.script_meaning.specs.Sexp.{Sexp, Items}
use Rattle.script_meaning.specs.Read.{is_plain}
use Rattle.script_meaning.specs.Values.{all}
use Rattle.script_meaning.specs.Script.{binary, name_by, name_of, operator, comparison}
use Rattle.script_meaning.specs.Script.{term_by, term_of, sort_by, defined_by, sort_width, definition, definitions, declarations, commands_of}
use Rattle.script_meaning.proofs.Reading.{plain, fine, fine_all}
use Rattle.script_meaning.proofs.Numbers.{decimal-some, binary-is-digits}
use Rattle.script_meaning.proofs.Names.{digits-plain, decimal-plain}

plain_of : (s : List ℕ) → 0 < length s → all is_plain s ≡ true → plain s ≡ true
plain_of [] h p = absurd (omega arith)
plain_of (c ∷ s) h p = p

pub plain-decimal : (n : ℕ) → plain (decimal n) ≡ true
plain-decimal n = plain_of (decimal n) (decimal-some n) (decimal-plain n)

plain-name : (κ : Kind) (k : Cell) (n : ℕ) → plain (name_by κ k n) ≡ true
plain-name bad k n = decimal-plain n
plain-name var k n = decimal-plain k.x
plain-name const k n = decimal-plain n
plain-name (bv o) k n = decimal-plain n
plain-name (compare o) k n = decimal-plain n
plain-name ite k n = decimal-plain n
plain-name extract k n = decimal-plain n
plain-name concat k n = decimal-plain n
plain-name zext k n = decimal-plain n
plain-name sext k n = decimal-plain n

plain-operator : (o : BinOp) → plain (operator o) ≡ true
plain-operator Add = refl
plain-operator Sub = refl
plain-operator Mul = refl
plain-operator And = refl
plain-operator Or = refl
plain-operator Xor = refl
plain-operator Shl = refl
plain-operator LShr = refl
plain-operator AShr = refl

plain-comparison : (o : CmpOp) → plain (comparison o) ≡ true
plain-comparison Eq = refl
plain-comparison Ult = refl
plain-comparison Slt = refl

pub fine-sort : (w : ℕ) → fine (sort_by w) ≡ true
unfolding fine
fine-sort zero = refl
fine-sort (suc w) = rw (plain-decimal (suc w))

module _ (n : ℕ) (k : Cell) (A B C m : ℕ) (a b c : List ℕ) (ha : plain a ≡ true) (hb : plain b ≡ true) (hc : plain c ≡ true) where
  -- a Var's term is not written
  fine-term : (κ : Kind) → ok_kind κ n k A B C ≡ true → (d : Sexp) (xs : Items) → (fine (term_by κ k m a b c) ≡ true → fine d ≡ true) → fine_all xs ≡ true
      → fine_all (defined_by κ d xs) ≡ true
  unfolding fine
  fine-term bad h d xs f g = absurd (false≢true h)
  fine-term var h d xs f g = g
  fine-term const h d xs f g = rw (f (digits-plain (binary k.width (wide k.x k.y)) (binary-is-digits k.width (wide k.x k.y))), g)
  fine-term (bv o) h d xs f g = rw (f (rw (plain-operator o, ha, hb)), g)
  fine-term (compare o) h d xs f g = rw (f (rw (plain-comparison o, ha, hb)), g)
  fine-term ite h d xs f g = rw (f (rw (ha, hb, hc)), g)
  fine-term extract h d xs f g = rw (f (rw (plain-decimal k.x, plain-decimal k.y, ha)), g)
  fine-term concat h d xs f g = rw (f (rw (ha, hb)), g)
  fine-term zext h d xs f g = rw (f (rw (plain-decimal (k.width - m), ha)), g)
  fine-term sext h d xs f g = rw (f (rw (plain-decimal (k.width - m), ha)), g)

module _ (ws : List ℕ) (count : ℕ) (valid : Valid ws count) where
  pub plain_at : (n : ℕ) → plain (name_of ws n) ≡ true
  plain_at n = plain-name (cell_at ws n).kind (cell_at ws n) n

  -- a node's command is fine if its term is
  pub fine-command : (n : ℕ) (d : Sexp) (xs : Items) → n < count → (fine (term_of ws n) ≡ true → fine d ≡ true) → fine_all xs ≡ true
      → fine_all (defined_by (cell_at ws n).kind d xs) ≡ true
  fine-command n d xs h f g =
      let c = cell_at ws n in
      fine-term n c (width_before ws n c.a) (width_before ws n c.b) (width_before ws n c.c) (width_at ws c.a) (name_of ws c.a) (name_of ws c.b) (name_of ws c.c)
      (plain_at c.a) (plain_at c.b) (plain_at c.c) c.kind (valid-node ws count n valid h) d xs f g

  fine-definition : (n : ℕ) → fine (term_of ws n) ≡ true → fine (definition ws n) ≡ true
  unfolding fine
  fine-definition n h = rw (decimal-plain n, fine-sort (sort_width ws n), h)

  fine-definitions : (k n : ℕ) (rest : Items) → n + k ≤ count → fine_all rest ≡ true → fine_all (definitions ws k n rest) ≡ true
  unfolding definitions
  fine-definitions zero n rest e h = h
  fine-definitions (suc k) n rest e h =
      fine-command n (definition ws n) (definitions ws k (suc n) rest) (omega arith) (fine-definition n) (fine-definitions k (suc n) rest (omega arith) h)

  pub fine-declarations : (k r : ℕ) (rest : Items) → fine_all rest ≡ true → fine_all (declarations k r rest) ≡ true
  unfolding declarations fine
  fine-declarations zero r rest h = h
  fine-declarations (suc k) r rest h = rw (decimal-plain r, plain-decimal 128, fine-declarations k (suc r) rest h)

  pub fine-script : (x y : ℕ) → fine_all (commands_of ws count x y) ≡ true
  unfolding commands_of fine
  fine-script x y =
      fine-declarations 32 0 _ (fine-definitions _ 0 _ (omega arith) (rw (plain_at x, plain_at y)))
