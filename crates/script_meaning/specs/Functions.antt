-- The functions of SMT-LIB's theories Core and FixedSizeBitVectors that a script may apply: those in the two tables, each to as many
-- terms as given here, and every sort is checked; and the words that are no names (SMT-LIB 2.6, 3.1).
use Rattle.std.specs.Prelude.{Bool, ◌&&◌, not, List, [], ◌∷◌, ℕ, suc, ◌+◌, ◌-◌, ◌*◌, ◌/◌, ◌%◌, ◌^◌, ltb, leb, eqb}
use Rattle.std.proofs.Math.Option.{Option, none}
use Rattle.terms.specs.declared.BinOp.{BinOp}
use Rattle.terms.specs.declared.BinOp.TheVariants.{Add, Sub, Mul, And, Or, Xor, Shl, LShr, AShr}
use Rattle.terms.specs.declared.CmpOp.{CmpOp}
use Rattle.terms.specs.declared.CmpOp.TheVariants.{Ult, Slt}
use Rattle.terms.specs.Value.{apply, holds, bit, ite, bvsext}
use Rattle.terms.specs.Display.{bytes}
use Rattle.script_meaning.specs.Values.{when, Entry, ◌↦ᵉ◌, Meaning, meaning}

pub data Function : Type 0 where
  bv : BinOp → Function
  compare : CmpOp → Function
  equal distinct choose join : Function

unfoldable pub functions : List (Entry Function)
functions =
    bytes "bvadd" ↦ᵉ bv Add ∷ bytes "bvsub" ↦ᵉ bv Sub ∷ bytes "bvmul" ↦ᵉ bv Mul ∷ bytes "bvand" ↦ᵉ bv And ∷ bytes "bvor" ↦ᵉ bv Or
    ∷ bytes "bvxor" ↦ᵉ bv Xor ∷ bytes "bvshl" ↦ᵉ bv Shl ∷ bytes "bvlshr" ↦ᵉ bv LShr ∷ bytes "bvashr" ↦ᵉ bv AShr
    ∷ bytes "bvult" ↦ᵉ compare Ult ∷ bytes "bvslt" ↦ᵉ compare Slt ∷ bytes "=" ↦ᵉ equal ∷ bytes "distinct" ↦ᵉ distinct
    ∷ bytes "ite" ↦ᵉ choose ∷ bytes "concat" ↦ᵉ join ∷ []

-- words that are no names: the reserved ones (3.1), and what else the theories and QF_BV have
unfoldable pub taken : List (List ℕ)
taken =
    bytes "!" ∷ bytes "_" ∷ bytes "as" ∷ bytes "BINARY" ∷ bytes "DECIMAL" ∷ bytes "exists" ∷ bytes "HEXADECIMAL" ∷ bytes "forall"
    ∷ bytes "let" ∷ bytes "match" ∷ bytes "NUMERAL" ∷ bytes "par" ∷ bytes "STRING" ∷ bytes "assert" ∷ bytes "check-sat"
    ∷ bytes "check-sat-assuming" ∷ bytes "declare-const" ∷ bytes "declare-datatype" ∷ bytes "declare-datatypes"
    ∷ bytes "declare-fun" ∷ bytes "declare-sort" ∷ bytes "define-fun" ∷ bytes "define-fun-rec" ∷ bytes "define-funs-rec"
    ∷ bytes "define-sort" ∷ bytes "echo" ∷ bytes "exit" ∷ bytes "get-assertions" ∷ bytes "get-assignment" ∷ bytes "get-info"
    ∷ bytes "get-model" ∷ bytes "get-option" ∷ bytes "get-proof" ∷ bytes "get-unsat-assumptions" ∷ bytes "get-unsat-core"
    ∷ bytes "get-value" ∷ bytes "pop" ∷ bytes "push" ∷ bytes "reset" ∷ bytes "reset-assertions" ∷ bytes "set-info"
    ∷ bytes "set-logic" ∷ bytes "set-option" ∷ bytes "true" ∷ bytes "false" ∷ bytes "not" ∷ bytes "=>" ∷ bytes "and" ∷ bytes "or"
    ∷ bytes "xor" ∷ bytes "bvnot" ∷ bytes "bvneg" ∷ bytes "bvudiv" ∷ bytes "bvurem" ∷ bytes "bvnand" ∷ bytes "bvnor"
    ∷ bytes "bvxnor" ∷ bytes "bvcomp" ∷ bytes "bvsdiv" ∷ bytes "bvsrem" ∷ bytes "bvsmod" ∷ bytes "bvule" ∷ bytes "bvugt"
    ∷ bytes "bvuge" ∷ bytes "bvsle" ∷ bytes "bvsgt" ∷ bytes "bvsge" ∷ []

pub data Indexed : Type 0 where
  cut zeros signs : Indexed

unfoldable pub indexed : List (Entry Indexed)
indexed = bytes "extract" ↦ᵉ cut ∷ bytes "zero_extend" ↦ᵉ zeros ∷ bytes "sign_extend" ↦ᵉ signs ∷ []

abbrev pub one : {A B : Type 0} → List A → (A → Option B) → Option B
one [] k = none
one (a ∷ []) k = k a
one (a ∷ b ∷ cs) k = none

abbrev pub two : {A B : Type 0} → List A → (A → A → Option B) → Option B
two [] k = none
two (a ∷ []) k = none
two (a ∷ b ∷ []) k = k a b
two (a ∷ b ∷ c ∷ cs) k = none

abbrev pub three : {A B : Type 0} → List A → (A → A → A → Option B) → Option B
three [] k = none
three (a ∷ []) k = none
three (a ∷ b ∷ []) k = none
three (a ∷ b ∷ c ∷ []) k = k a b c
three (a ∷ b ∷ c ∷ d ∷ cs) k = none

abbrev pub is_vector : Meaning → Bool
is_vector a = ltb 0 a.sort

abbrev pub same_sort : Meaning → Meaning → Bool
same_sort a b = eqb a.sort b.sort

unfoldable pub applied : Function → List Meaning → Option Meaning
applied (bv o) vs = two vs λ a b. when (is_vector a && same_sort a b) (meaning a.sort (apply o a.sort a.is b.is))
applied (compare o) vs = two vs λ a b. when (is_vector a && same_sort a b) (meaning 0 (bit (holds o a.sort a.is b.is)))
applied equal vs = two vs λ a b. when (same_sort a b) (meaning 0 (bit (eqb a.is b.is)))
applied distinct vs = two vs λ a b. when (same_sort a b) (meaning 0 (bit (not (eqb a.is b.is))))
applied choose vs = three vs λ c a b. when (eqb c.sort 0 && same_sort a b) (meaning a.sort (ite c.is a.is b.is))
applied join vs = two vs λ a b. when (is_vector a && is_vector b) (meaning (a.sort + b.sort) (a.is * 2 ^ b.sort + b.is))

unfoldable pub applied_at : Indexed → List ℕ → List Meaning → Option Meaning
applied_at cut js vs =
    two js λ hi lo.
    one vs λ a. when (leb lo hi && ltb hi a.sort) (meaning (suc (hi - lo)) (a.is / 2 ^ lo % 2 ^ suc (hi - lo)))
applied_at zeros js vs = one js λ k. one vs λ a. when (is_vector a) (meaning (a.sort + k) a.is)
applied_at signs js vs = one js λ k. one vs λ a. when (is_vector a) (meaning (a.sort + k) (bvsext a.sort (a.sort + k) a.is))
