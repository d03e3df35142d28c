-- The refusals of a record. Assumes nothing.
use mathlib.Core.Path.{◌≡◌, refl, sym, ap, ◌∙◌}
use mathlib.Core.Bool.{Bool, true, false, ◌&&◌}
use Prim.Native.Nat.{ℕ}
use lib.Dec.{leb}
use Rattle.facts.specs.declared.Refusal.{Refusal}
use Rattle.facts.specs.Answer.{code}
use Rattle.facts.specs.Refuse.{unless}
use Rattle.facts.proofs.Answers.{code-positive}
use Rattle.neon.specs.declared.Instruction.{Instruction}
use Rattle.neon.specs.Op.{op_at, arrangement_at, is_operation, is_arrangement, bits_of_lane}
use Rattle.neon.specs.Form.{has_form, least, most, form_code_at}
use Rattle.neon.specs.Refusal.{form_number, most_m, record_number, Legal}
use Rattle.neon.proofs.Legal.{form-rest, form-first}
use Rattle.neon_form.specs.Code.{OfCode}
use Rattle.neon_form.proofs.Parts.{coded}

module _ (c : Instruction) where
  -- refused for its form
  pub by_form : (r : Refusal) → code r ≡ form_number c.operation c.arrangement c.i 0 → code r ≡ record_number c
  unfolding record_number
  by_form r e = e ∙ form-first c.operation c.arrangement c.i _ (λ z. code-positive r (e ∙ z))

  -- the form is accepted: the registers decide
  pub by-registers : {code bits most : ℕ} (b : Bool)
      → 0 ≡ form_number c.operation c.arrangement c.i 0
      → code ≡ form_code_at c.operation c.arrangement
      → bits ≡ bits_of_lane (arrangement_at c.arrangement)
      → OfCode code (λ o v. bits ≡ bits_of_lane v → most ≡ most_m o v)
      → (leb c.d 31 && leb c.n 31 && leb c.m most) ≡ b
      → unless b 7 0 ≡ record_number c
  unfolding record_number
  by-registers b e code-is bits-is most-is g =
      let k = coded c.operation c.arrangement c.i 0 (sym e) in
      let m = most-is (op_at c.operation) (arrangement_at c.arrangement) k.0 (code-is ∙ k.1) bits-is in
      let h = ap (λ (n : ℕ). leb c.d 31 && leb c.n 31 && leb c.m n) (sym m) ∙ g in
      sym (form-rest c.operation c.arrangement c.i _ (sym e) ∙ ap (λ (t : Bool). unless t 7 0) h)

form-zero : (a b c : Bool) (rest : ℕ) → unless a 2 (unless b 3 (unless c 4 rest)) ≡ 0 → unless a 2 (unless b 3 (unless c 4 0)) ≡ 0
form-zero true true true rest e = refl
form-zero true true false rest e = e
form-zero true false c rest e = e
form-zero false b c rest e = e

-- a record that is accepted has a form that is
pub form-legal : (c : Instruction) → Legal c → form_number c.operation c.arrangement c.i 0 ≡ 0
unfolding record_number
form-legal c e =
    let o = op_at c.operation in
    let v = arrangement_at c.arrangement in
    form-zero (is_operation c.operation) (is_arrangement c.arrangement && has_form o v) (leb (least o) c.i && leb c.i (most o (bits_of_lane v))) _ e
