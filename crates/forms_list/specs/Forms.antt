-- All legal forms (document 02, S-14): by operation, arrangement, then immediate, with d 0, n 1, and m 2 if there is a second source.
-- At the end, what is proved of the list in proofs/Forms.antt.
use Rattle.std.specs.Prelude.{Bool, true, cond, ◌&&◌, ◌||◌, ◌≡◌, ℕ, suc, ◌+◌, ◌-◌, ltb, eqb, length}
use mathlib.Core.List.{List, [], ◌∷◌, Memᴰ}
use Rattle.neon.specs.declared.Instruction.{Instruction}
use Rattle.neon.specs.Op.{Op, op_at, arrangement_at, bits_of_lane}
use Rattle.neon.specs.Form.{has_form, least, most, has_second}
use Rattle.neon.specs.Refusal.{Legal}
use Rattle.text_series.specs.Series.{up_to}

-- the register m of a listed form
abbrev pub second_of : Op → ℕ
second_of o = cond (has_second o) 2 0

abbrev pub listed : (operation arrangement i : ℕ) → Instruction
listed operation arrangement i =
    record { operation = operation; arrangement = arrangement; i = i; d = 0; n = 1; m = second_of (op_at operation) }

-- how many immediates a form has
abbrev pub immediates : (operation arrangement : ℕ) → ℕ
immediates operation arrangement =
    let o = op_at operation in
    let v = arrangement_at arrangement in cond (has_form o v) (suc (most o (bits_of_lane v)) - least o) 0

unfoldable pub forms_at : (operation arrangement : ℕ) → List Instruction
forms_at operation arrangement = up_to (immediates operation arrangement) λ j. listed operation arrangement (least (op_at operation) + j) ∷ []

unfoldable pub forms_of : ℕ → List Instruction
forms_of operation = up_to 7 λ a. forms_at operation a

unfoldable pub forms : List Instruction
forms = up_to 67 λ o. forms_of (o + 1)

-- ---- theorems

-- the registers of the list
pub record Chosen (c : Instruction) : Type 0 where
  pub d_is : c.d ≡ 0
  pub n_is : c.n ≡ 1
  pub m_is : c.m ≡ second_of (op_at c.operation)

-- every listed record is a legal form with these registers
abbrev pub OnlyLegal : Type 0
OnlyLegal = (c : Instruction) → Memᴰ c forms → Legal c × Chosen c

-- every legal form with these registers is listed
abbrev pub EveryLegal : Type 0
EveryLegal = (c : Instruction) → Legal c → Chosen c → Memᴰ c forms

-- c comes before e: by operation, then arrangement, then immediate
abbrev pub before : Instruction → Instruction → Bool
before c e =
    ltb c.operation e.operation
    || eqb c.operation e.operation && (ltb c.arrangement e.arrangement || eqb c.arrangement e.arrangement && ltb c.i e.i)

abbrev pub each_before : Instruction → List Instruction → Bool
each_before c [] = true
each_before c (e ∷ cs) = before c e && each_before e cs

abbrev pub ascending : List Instruction → Bool
ascending [] = true
ascending (c ∷ cs) = each_before c cs

-- each comes before the next, so that each is listed once
abbrev pub InOrder : Type 0
InOrder = ascending forms ≡ true

abbrev pub Count : Type 0
Count = length forms ≡ 2966
