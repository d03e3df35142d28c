-- What a word is decoded to, by the fields that were read. Assumes nothing.
use mathlib.Core.Path.{◌≡◌, refl, sym, ap, ◌∙◌}
use mathlib.Core.Bool.{Bool, true, false, ◌&&◌, false≢true}
use Prim.Native.Nat.{ℕ, zero, suc, ◌%◌, ◌≤◌, ◌<◌}
use native.Mathlib.Omega.{arith}
use lib.Dec.{eqb}
use borrow.Author.Tests.{eq-eqb, eqb-true, le-leb}
use Rattle.facts.proofs.Tests.{and_both}
use Rattle.neon.specs.declared.Instruction.{Instruction}
use Rattle.neon.specs.Op.{op_at, arrangement_at, is_arrangement, bits_of_lane}
use Rattle.neon.specs.Form.{form, has_form, form_code_at}
use Rattle.neon.specs.Refusal.{record_number, Legal}
use Rattle.neon_form.proofs.Parts.{without}
use Rattle.block_record_check.specs.Record.{instruction}
use Rattle.std.specs.Prelude.{Some, None}
use Rattle.std.specs.Result.{is_err}
use Rattle.std.specs.declared.result.Result.{Result}
use Rattle.std.specs.declared.result.Result.TheVariants.{Ok, Err}
use Rattle.facts.specs.declared.Refusal.{Refusal}
use Rattle.facts.specs.Answer.{number_of}
use Rattle.facts.proofs.Answers.{code-positive}
use Rattle.words_encoding.specs.Encoding.{encoding}
use Rattle.words_encoding.specs.Word.{encode}
use Rattle.words_encoding.specs.Decode.{bits, operation_at, size_at, arrangement_of, immediate_at, second_at, fields_of, decoded_if, is_word_of, decode}

-- by the predecessor of a number that is not 0
pub positive : {A : Type 0} (x : ℕ) → 0 < x → ((k : ℕ) → x ≡ suc k → A) → A
positive zero h f = absurd (omega arith)
positive (suc k) h f = f k refl

-- what an answer tells of a record
pub legal : (c : Instruction) (r : Result (Unit {0}) Refusal) → number_of r ≡ record_number c → false ≡ is_err r → Legal c
legal c (Ok x) e h = sym e
legal c (Err r) e h = absurd (false≢true h)

pub not_legal : (c : Instruction) (r : Result (Unit {0}) Refusal) → number_of r ≡ record_number c → true ≡ is_err r → Legal c → ⊥
not_legal c (Ok x) e h = absurd (false≢true (sym h))
not_legal c (Err r) e h = λ z. code-positive r (e ∙ z)

number-2 : (c : Instruction) → c.operation ≡ 0 → record_number c ≡ 2
unfolding record_number
number-2 c e = rw e

number-3 : (c : Instruction) → 1 ≤ c.operation → c.operation ≤ 67 → (is_arrangement c.arrangement && has_form (op_at c.operation) (arrangement_at c.arrangement)) ≡ false
    → record_number c ≡ 3
unfolding record_number
number-3 c l h e = rw (le-leb 1 c.operation l, le-leb c.operation 67 h, e)

-- ---- the test

module _ (c : Instruction) (w : ℕ) where
  word-legal : is_word_of w c ≡ true → Legal c
  word-legal h = eqb-true (record_number c) 0 (and_both (eqb (record_number c) 0) (eqb (encode c) w) h).0

  pub word_of : is_word_of w c ≡ true → Legal c × (encode c ≡ w)
  word_of h = (word-legal h, eqb-true (encode c) w (and_both (eqb (record_number c) 0) (eqb (encode c) w) h).1)

  pub its-word : Legal c → encode c ≡ w → is_word_of w c ≡ true
  its-word l q = rw (eq-eqb (record_number c) 0 l, eq-eqb (encode c) w q)

  no_word : (Legal c × (encode c ≡ w) → ⊥) → is_word_of w c ≡ false
  no_word n = go (is_word_of w c) refl
    where
      go : (b : Bool) → is_word_of w c ≡ b → b ≡ false
      go true h = absurd (n (word_of h))
      go false h = refl

-- the record that the fields name is c
module _ (w : ℕ) (c : Instruction) (e : fields_of w ≡ c) where
  by-test : {b : Bool} → is_word_of w c ≡ b → decoded_if b c ≡ decode w
  unfolding decode
  by-test h = ap (λ (t : Bool). decoded_if t c) (sym h) ∙ ap (λ (x : Instruction). decoded_if (is_word_of w x) x) (sym e)

  pub refused : (Legal c → ⊥) → None ≡ decode w
  refused q = by-test (no_word c w (λ p. q p.0))

  pub read_as : Legal c → encode c ≡ w → Some c ≡ decode w
  read_as l q = by-test (its-word c w l q)

  pub other_word : (encode c ≡ w → ⊥) → None ≡ decode w
  other_word q = by-test (no_word c w (λ p. q p.1))

pub no-operation : (w : ℕ) → operation_at w ≡ 0 → None ≡ decode w
unfolding fields_of
no-operation w e = refused w (fields_of w) refl (λ z. omega (arith, z, number-2 (fields_of w) e))

-- the record that the fields name, once the operation is known, and once the arrangement is
abbrev pub by-operation : (w k : ℕ) → Instruction
by-operation w k =
    let o = op_at k in
    let a = arrangement_of (form o).lanes (bits 30 30 w) (size_at (encoding o).class w) in
    let n = bits_of_lane (arrangement_at a) in
    instruction k a (immediate_at (form o).immediate n w) (bits 4 0 w) (bits 9 5 w) (second_at o n w)

abbrev pub by-arrangement : (w k a : ℕ) → Instruction
by-arrangement w k a =
    let o = op_at k in
    let n = bits_of_lane (arrangement_at a) in
    instruction k a (immediate_at (form o).immediate n w) (bits 4 0 w) (bits 9 5 w) (second_at o n w)

module _ (w k a : ℕ) (ek : k ≡ operation_at w) (ea : a ≡ arrangement_of (form (op_at k)).lanes (bits 30 30 w) (size_at (encoding (op_at k)).class w)) where
  partly : fields_of w ≡ by-arrangement w k a
  unfolding fields_of
  partly = ap (by-operation w) (sym ek) ∙ ap (by-arrangement w k) (sym ea)

  pub no-form : 1 ≤ k → k ≤ 67 → form_code_at k a ≡ 0 → None ≡ decode w
  no-form l h e = refused w (by-arrangement w k a) partly (λ z. omega (arith, z, number-3 (by-arrangement w k a) l h (without k a l h e)))

  pub all-fields : (i m : ℕ) → i ≡ immediate_at (form (op_at k)).immediate (bits_of_lane (arrangement_at a)) w → m ≡ second_at (op_at k) (bits_of_lane (arrangement_at a)) w
      → fields_of w ≡ instruction k a i (w % 32) (bits 9 5 w) m
  all-fields i m p q = let d : bits 4 0 w ≡ w % 32 = omega arith in partly ∙ (λ j. instruction k a (sym p j) (d j) (bits 9 5 w) (sym q j))
