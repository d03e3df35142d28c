-- The term of a node, read, has the value of the node's tree. Assumes nothing.
use mathlib.Core.Path.{◌≡◌, refl, sym, ap, ◌∙◌}
use mathlib.Core.Bool.{true, false, false≢true}
use mathlib.Core.List.{List, [], ◌∷◌, ◌++◌}
use mathlib.Core.Option.{some}
use Prim.Native.Nat.{ℕ, suc, ◌+◌, ◌-◌, ◌/◌, ◌%◌, ◌^◌, ◌≤◌, ◌<◌}
use native.Mathlib.Nat.{mod-eq_of_lt}
use native.Mathlib.Omega.{arith}
use lib.ListN.{length}
use borrow.Author.Tests.{lt-ltb, le-leb, eq-eqb}
use Rattle.terms.specs.declared.BinOp.{BinOp}
use Rattle.terms.specs.declared.BinOp.TheVariants.{Add, Sub, Mul, And, Or, Xor, Shl, LShr, AShr}
use Rattle.terms.specs.declared.CmpOp.{CmpOp}
use Rattle.terms.specs.declared.CmpOp.TheVariants.{Eq, Ult, Slt}
use Rattle.terms.specs.Expr.{Expr, width}
use Rattle.terms.specs.Value.{value}
use Rattle.terms.specs.Display.{bytes}
use Rattle.pool.specs.Node.{Kind, bad, var, const, bv, compare, ite, extract, concat, zext, sext, Cell, wide}
use Rattle.pool.specs.Rules.{ok_kind}
use Rattle.pool.specs.Unfold.{shape_of}
use Rattle.pool_rules.proofs.Kept.{wide-one, const-wide, const_fits, bv-tests, compare-tests, ite-tests, extract-tests, concat-tests, zext-tests}
use Rattle.script_meaning.specs.Sexp.{Sexp, word}
use Rattle.script_meaning.specs.Values.{all, number, is_binary_digit, literal, Meaning, meaning, Entry, find}
use Rattle.script_meaning.specs.Functions as tables
use Rattle.script_meaning.specs.Functions.{Function, equal, choose, join, functions, cut, zeros, signs, indexed, applied, applied_at}
use Rattle.script_meaning.specs.Meaning.{atom, term}
use Rattle.script_meaning.specs.Script.{binary, operator, apply1, apply_to, apply2, apply3, index1, index2, term_by}
use Rattle.script_meaning.proofs.Vars.{is_var}
use Rattle.script_meaning.proofs.Numbers.{decimal-numeral, binary-number, binary-length, binary-digits}

-- ---- literals

literal-bits : (ds : List ℕ) → 0 < length ds → all is_binary_digit ds ≡ true → literal (35 ∷ 98 ∷ ds) ≡ some (meaning (length ds) (number 2 0 ds))
literal-bits [] h g = absurd (omega arith)
literal-bits (c ∷ cs) h g = rw g

pub literal-binary : (w v : ℕ) → 1 ≤ w → v < 2 ^ w → literal (bytes "#b" ++ binary w v) ≡ some (meaning w v)
literal-binary w v h l =
    let e : number 2 0 (binary w v) ≡ v = binary-number w v 0 ∙ omega (arith, mod-eq_of_lt l) in
    literal-bits (binary w v) (omega (arith, binary-length w v)) (binary-digits w v) ∙ rw (binary-length w v, e)

-- ---- functions by name

find-operator : (o : BinOp) → find functions (operator o) ≡ some (tables.Function.bv o)
unfolding find functions
find-operator Add = refl
find-operator Sub = refl
find-operator Mul = refl
find-operator And = refl
find-operator Or = refl
find-operator Xor = refl
find-operator Shl = refl
find-operator LShr = refl
find-operator AShr = refl

module _ (env : List (Entry Meaning)) where
  -- two arguments; the names of two and of three
  pub two-terms : (f : List ℕ) (s t : Sexp) (o : Function) (u v : Meaning) → find functions f ≡ some o → term s env ≡ some u → term t env ≡ some v
      → term (apply_to f s t) env ≡ applied o (u ∷ v ∷ [])
  unfolding term
  two-terms f s t o u v e p q = rw (p, q, e)

  pub two-args : (f a b : List ℕ) (o : Function) (u v : Meaning) → find functions f ≡ some o → atom env a ≡ some u → atom env b ≡ some v
      → term (apply2 f a b) env ≡ applied o (u ∷ v ∷ [])
  unfolding term
  two-args f a b o u v e p q = two-terms f (word a) (word b) o u v e p q

  three-args : (f a b c : List ℕ) (o : Function) (u v w : Meaning) → find functions f ≡ some o → atom env a ≡ some u → atom env b ≡ some v → atom env c ≡ some w
      → term (apply3 f a b c) env ≡ applied o (u ∷ v ∷ w ∷ [])
  unfolding term
  three-args f a b c o u v w e p q r = rw (p, q, r, e)

  indexed-1 : (f a : List ℕ) (i : ℕ) (o : tables.Indexed) (u : Meaning) → find indexed f ≡ some o → atom env a ≡ some u
      → term (apply1 (index1 f i) a) env ≡ applied_at o (i ∷ []) (u ∷ [])
  unfolding term
  indexed-1 f a i o u e p = rw (p, e, decimal-numeral i)

  pub indexed-2 : (f a : List ℕ) (i j : ℕ) (o : tables.Indexed) (u : Meaning) → find indexed f ≡ some o → atom env a ≡ some u
      → term (apply1 (index2 f i j) a) env ≡ applied_at o (i ∷ j ∷ []) (u ∷ [])
  unfolding term
  indexed-2 f a i j o u e p = rw (p, e, decimal-numeral i, decimal-numeral j)

-- ---- a node by its kind

-- the name a means the term x, of A bits
pub record Means (env : List (Entry Meaning)) (regs : ℕ → ℕ) (a : List ℕ) (x : Expr) (A : ℕ) : Type 0 where
  pub is : atom env a ≡ some (meaning A (value regs x))
  pub wide_is : width x ≡ A

module _ (env : List (Entry Meaning)) (regs : ℕ → ℕ) (n : ℕ) (k : Cell) (A B C m : ℕ) (a b c : List ℕ) (x y z : Expr)
    (ha : k.a < n → Means env regs a x A) (hb : k.b < n → Means env regs b y B) (hc : k.c < n → Means env regs c z C) (hm : k.a < n → m ≡ A) where
  abbrev Reads : Kind → Type 0
  Reads κ = term (term_by κ k m a b c) env ≡ some (meaning k.width (value regs (shape_of κ k x y z)))

  compare-reads : (o : CmpOp) → ok_kind (compare o) n k A B C ≡ true → Reads (compare o)
  unfolding value applied find functions
  compare-reads Eq h =
      let t = compare-tests n k A B C Eq h in
      two-args env (bytes "=") a b equal _ _ refl (ha t.1).is (hb t.2).is ∙ rw (eq-eqb A B (sym t.4), t.0)
  compare-reads Ult h =
      let t = compare-tests n k A B C Ult h in
      two-args env (bytes "bvult") a b (tables.Function.compare Ult) _ _ refl (ha t.1).is (hb t.2).is
      ∙ rw (eq-eqb A B (sym t.4), lt-ltb 0 A t.3, t.0)
  compare-reads Slt h =
      let t = compare-tests n k A B C Slt h in
      two-args env (bytes "bvslt") a b (tables.Function.compare Slt) _ _ refl (ha t.1).is (hb t.2).is
      ∙ rw (eq-eqb A B (sym t.4), lt-ltb 0 A t.3, t.0, (ha t.1).wide_is)

  pub by_kind : (κ : Kind) → is_var κ ≡ false → ok_kind κ n k A B C ≡ true → Reads κ
  unfolding value applied applied_at find functions indexed term
  by_kind bad v h = absurd (false≢true h)
  by_kind var v h = absurd (false≢true (sym v))
  by_kind const v h = rw (literal-binary k.width (wide k.x k.y) (wide-one _ (const-wide n k A B C h)) (const_fits n k A B C h))
  by_kind (bv o) v h =
      let t = bv-tests n k A B C o h in
      let w : A ≡ B = t.3 ∙ sym t.4 in
      let l : 0 < A = omega (arith, t.3, wide-one k.width t.0) in
      two-args env (operator o) a b (tables.Function.bv o) _ _ (find-operator o) (ha t.1).is (hb t.2).is
      ∙ rw (lt-ltb 0 A l, eq-eqb A B w, (ha t.1).wide_is, t.3)
  by_kind (compare o) v h = compare-reads o h
  by_kind ite v h =
      let t = ite-tests n k A B C h in
      let w : B ≡ C = t.5 ∙ sym t.6 in
      three-args env (bytes "ite") a b c choose _ _ _ refl (ha t.1).is (hb t.2).is (hc t.3).is
      ∙ rw (eq-eqb A 0 t.4, eq-eqb B C w, t.5)
  by_kind extract v h =
      let t = extract-tests n k A B C h in
      indexed-2 env (bytes "extract") a k.x k.y cut _ refl (ha t.0).is
      ∙ rw (le-leb k.y k.x t.1, lt-ltb k.x A t.2) (ap (λ (w : ℕ). some (meaning w (value regs x / 2 ^ k.y % 2 ^ suc (k.x - k.y)))) (omega (arith, t.3)))
  by_kind concat v h =
      let t = concat-tests n k A B C h in
      two-args env (bytes "concat") a b join _ _ refl (ha t.1).is (hb t.2).is
      ∙ rw (lt-ltb 0 A t.3, lt-ltb 0 B t.4, t.5, (hb t.2).wide_is)
  by_kind zext v h =
      let t = zext-tests n k A B C h in
      let e : A + (k.width - m) ≡ k.width = omega (arith, hm t.1, t.3) in
      indexed-1 env (bytes "zero_extend") a (k.width - m) zeros _ refl (ha t.1).is ∙ rw (lt-ltb 0 A t.2, e)
  by_kind sext v h =
      let t = zext-tests n k A B C h in
      let e : A + (k.width - m) ≡ k.width = omega (arith, hm t.1, t.3) in
      indexed-1 env (bytes "sign_extend") a (k.width - m) signs _ refl (ha t.1).is ∙ rw (lt-ltb 0 A t.2, e, (ha t.1).wide_is)
