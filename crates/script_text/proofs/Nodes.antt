-- A node's term by the number of its kind. Assumes nothing.
use mathlib.Core.Path.{◌≡◌, refl, sym, ap, ◌∙◌, subst}
use mathlib.Core.Bool.{Bool, true, false≢true}
use mathlib.Core.List.{List, ◌++◌}
use mathlib.Core.Logic.{⊎_elim}
use Prim.Native.Nat.{ℕ, ◌+◌, ◌-◌, ◌≤◌, ◌<◌}
use native.Mathlib.Omega.{arith}
use borrow.Author.Tests.{lt-ltb}
use Rattle.terms.specs.Display.{bytes}
use Rattle.terms.specs.declared.BinOp.{BinOp}
use Rattle.terms.specs.declared.BinOp.TheVariants.{Add, Sub, Mul, And, Or, Xor, Shl, LShr, AShr}
use Rattle.terms.specs.declared.CmpOp.{CmpOp}
use Rattle.terms.specs.declared.CmpOp.TheVariants.{Eq, Ult, Slt}
use Rattle.pool.specs.Node.{Kind, bad, var, const, bv, compare, ite, extract, concat, zext, sext}
use Rattle.pool.specs.Node.{kind_at, kinds, bv_code, compare_code, kind_number, width_at, word_at, wide, code_of, Cell, cell_at}
use Rattle.pool.specs.Rules.{ok_kind, width_before, if_earlier}
use Rattle.pool.proofs.Facts.{kind-code, valid-node}
use Rattle.pool_rules.proofs.Kept.{wide-most, const-wide, bv-tests, compare-tests, ite-tests, extract-tests, concat-tests, zext-tests}
use Rattle.pool_fields.specs.Fields.{op_a, op_b, op_c}
use Rattle.text_parts.specs.Text.{Ready}
use Rattle.script_meaning.specs.Sexp.{Sexp, show}
use Rattle.script_meaning.specs.Script.{binary, name_of, function_of, apply1, apply2, apply3, index1, index2, term_by, term_of}

bv-code : (o : BinOp) → bv_code o ≤ 11
bv-code Add = omega arith
bv-code Sub = omega arith
bv-code Mul = omega arith
bv-code And = omega arith
bv-code Or = omega arith
bv-code Xor = omega arith
bv-code Shl = omega arith
bv-code LShr = omega arith
bv-code AShr = omega arith

compare-code : (o : CmpOp) → compare_code o ≤ 14
compare-code Eq = omega arith
compare-code Ult = omega arith
compare-code Slt = omega arith

bv-some : (o : BinOp) → 1 ≤ bv_code o
bv-some Add = omega arith
bv-some Sub = omega arith
bv-some Mul = omega arith
bv-some And = omega arith
bv-some Or = omega arith
bv-some Xor = omega arith
bv-some Shl = omega arith
bv-some LShr = omega arith
bv-some AShr = omega arith

compare-some : (o : CmpOp) → 1 ≤ compare_code o
compare-some Eq = omega arith
compare-some Ult = omega arith
compare-some Slt = omega arith

-- two operands
pub record Two (n a b : ℕ) (t u : Sexp) : Type 0 where
  pub less-a : a < n
  pub less-b : b < n
  pub term_is : t ≡ u

module _ (ws : List ℕ) (n : ℕ) (r : Ready ws n) (k : ℕ) (is-k : k ≡ kind_number ws n) where
  abbrev cell : Cell
  cell = cell_at ws n

  abbrev A : ℕ
  A = width_before ws n cell.a

  abbrev B : ℕ
  B = width_before ws n cell.b

  abbrev C : ℕ
  C = width_before ws n cell.c

  abbrev spelt : Kind → Sexp
  spelt κ = term_by κ cell (width_at ws cell.a) (name_of ws cell.a) (name_of ws cell.b) (name_of ws cell.c)

  ok : ok_kind (kind_at k) n cell A B C ≡ true
  ok = subst (λ (j : ℕ). ok_kind (kind_at j) n cell A B C ≡ true) (sym is-k) (valid-node ws (n + 1) n r.valid (omega arith))

  term-at : term_of ws n ≡ spelt (kind_at k)
  term-at = ap (λ (j : ℕ). spelt (kind_at j)) (sym is-k)

  at-kind : (j : ℕ) (κ : Kind) → k ≡ j → kind_at j ≡ κ → (ok_kind κ n cell A B C ≡ true) × (term_of ws n ≡ spelt κ)
  at-kind j κ e q =
      let p : kind_at k ≡ κ = ap kind_at e ∙ q in
      (subst (λ (κ : Kind). ok_kind κ n cell A B C ≡ true) p ok, term-at ∙ ap spelt p)

  pub constant : k ≡ 2 → (width_at ws n ≤ 129) × (show (term_of ws n) ≡ bytes "#b" ++ binary (width_at ws n) (wide (word_at ws n 2) (word_at ws n 3)))
  unfolding kind_at kinds show
  constant e =
      let h = at-kind 2 const e refl in
      (wide-most _ (const-wide n cell A B C h.0), ap show h.1)

  pub three-of : k ≡ 15 → (op_a ws n < n) × (op_b ws n < n) × (op_c ws n < n) × (term_of ws n ≡ apply3 (bytes "ite") (name_of ws (op_a ws n)) (name_of ws (op_b ws n)) (name_of ws (op_c ws n)))
  unfolding kind_at kinds
  three-of e = let h = at-kind 15 ite e refl in let t = ite-tests n cell A B C h.0 in (t.1, t.2, t.3, h.1)

  pub cut_of : k ≡ 16 → (op_a ws n < n) × (term_of ws n ≡ apply1 (index2 (bytes "extract") (word_at ws n 2) (word_at ws n 3)) (name_of ws (op_a ws n)))
  unfolding kind_at kinds
  cut_of e = let h = at-kind 16 extract e refl in let t = extract-tests n cell A B C h.0 in (t.0, h.1)

  -- the kinds of two operands
  by_two : (κ : Kind) → ok_kind κ n cell A B C ≡ true → 3 ≤ code_of κ → code_of κ ≤ 17 → (code_of κ ≡ 15 → ⊥) → (code_of κ ≡ 16 → ⊥)
      → Two n (op_a ws n) (op_b ws n) (spelt κ) (apply2 (function_of κ) (name_of ws (op_a ws n)) (name_of ws (op_b ws n)))
  by_two bad h l m f g = absurd (false≢true h)
  by_two var h l m f g = absurd (omega (arith, l))
  by_two const h l m f g = absurd (omega (arith, l))
  by_two (bv o) h l m f g = let t = bv-tests n cell A B C o h in record { less-a = t.1; less-b = t.2; term_is = refl }
  by_two (compare o) h l m f g = let t = compare-tests n cell A B C o h in record { less-a = t.1; less-b = t.2; term_is = refl }
  by_two ite h l m f g = absurd (f refl)
  by_two extract h l m f g = absurd (g refl)
  by_two concat h l m f g = let t = concat-tests n cell A B C h in record { less-a = t.1; less-b = t.2; term_is = refl }
  by_two zext h l m f g = absurd (omega (arith, m))
  by_two sext h l m f g = absurd (omega (arith, m))

  code_is : code_of (kind_at k) ≡ k
  code_is = ⊎_elim (λ e. absurd (false≢true (subst (λ (κ : Kind). ok_kind κ n cell A B C ≡ true) e ok))) (λ e. e) (kind-code k)

  pub two-of : 3 ≤ k → k < 18 → (k ≡ 15 → ⊥) → (k ≡ 16 → ⊥) → Two n (op_a ws n) (op_b ws n) (term_of ws n) (apply2 (function_of (kind_at k)) (name_of ws (op_a ws n)) (name_of ws (op_b ws n)))
  two-of l h f g =
      let t = by_two (kind_at k) ok (omega (arith, code_is)) (omega (arith, code_is)) (λ e. f (sym code_is ∙ e)) (λ e. g (sym code_is ∙ e)) in
      record { less-a = t.less-a; less-b = t.less-b; term_is = term-at ∙ t.term_is }

  -- the extensions
  pub record Extends (κ : Kind) : Type 0 where
    pub less-a : op_a ws n < n
    pub longer : width_at ws (op_a ws n) ≤ width_at ws n
    pub term_is : spelt κ ≡ apply1 (index1 (function_of κ) (width_at ws n - width_at ws (op_a ws n))) (name_of ws (op_a ws n))

  by-extension : (κ : Kind) → ok_kind κ n cell A B C ≡ true → 18 ≤ code_of κ → Extends κ
  by-extension bad h l = absurd (false≢true h)
  by-extension var h l = absurd (omega (arith, l))
  by-extension const h l = absurd (omega (arith, l))
  by-extension (bv o) h l = absurd (omega (arith, l, bv-code o))
  by-extension (compare o) h l = absurd (omega (arith, l, compare-code o))
  by-extension ite h l = absurd (omega (arith, l))
  by-extension extract h l = absurd (omega (arith, l))
  by-extension concat h l = absurd (omega (arith, l))
  by-extension zext h l =
      let t = zext-tests n cell A B C h in
      record { less-a = t.1; longer = subst (λ (b : Bool). if_earlier b (width_at ws cell.a) ≤ width_at ws n) (lt-ltb cell.a n t.1) t.3; term_is = refl }
  by-extension sext h l =
      let t = zext-tests n cell A B C h in
      record { less-a = t.1; longer = subst (λ (b : Bool). if_earlier b (width_at ws cell.a) ≤ width_at ws n) (lt-ltb cell.a n t.1) t.3; term_is = refl }

  pub extension-of : 18 ≤ k → Extends (kind_at k)
  extension-of l = by-extension (kind_at k) ok (omega (arith, code_is))

  pub extension-term : 18 ≤ k → term_of ws n ≡ apply1 (index1 (function_of (kind_at k)) (width_at ws n - width_at ws (op_a ws n))) (name_of ws (op_a ws n))
  extension-term l = term-at ∙ (extension-of l).term_is

  -- the last kind is 19
  pub kind-below : k < 20
  kind-below = by_code (kind_at k) code_is
    where
      by_code : (κ : Kind) → code_of κ ≡ k → k < 20
      by_code bad e = omega arith
      by_code var e = omega arith
      by_code const e = omega arith
      by_code (bv o) e = omega (arith, e, bv-code o)
      by_code (compare o) e = omega (arith, e, compare-code o)
      by_code ite e = omega arith
      by_code extract e = omega arith
      by_code concat e = omega arith
      by_code zext e = omega arith
      by_code sext e = omega arith

  -- and the first is 1
  pub kind-above : 1 ≤ k
  kind-above = by_code (kind_at k) code_is ok
    where
      by_code : (κ : Kind) → code_of κ ≡ k → ok_kind κ n cell A B C ≡ true → 1 ≤ k
      by_code bad e h = absurd (false≢true h)
      by_code var e h = omega arith
      by_code const e h = omega arith
      by_code (bv o) e h = omega (arith, e, bv-some o)
      by_code (compare o) e h = omega (arith, e, compare-some o)
      by_code ite e h = omega arith
      by_code extract e h = omega arith
      by_code concat e h = omega arith
      by_code zext e h = omega arith
      by_code sext e h = omega arith
