-- The fields of a legal record's word name that record. So `decode` is the inverse of `encode` on legal records, and gives no other.
-- Assumes nothing.
use mathlib.Core.Path.{◌≡◌, refl, sym, ap, ◌∙◌, subst}
use mathlib.Core.Bool.{Bool, true, false, cond, ◌&&◌}
use Prim.Native.Nat.{ℕ, ◌/◌, ◌≤◌}
use native.Mathlib.Omega.{arith}
use lib.Dec.{eqb}
use Rattle.neon.specs.declared.Instruction.{Instruction}
use Rattle.neon.specs.Op.{Op, op_at, Arrangement, B8, B16, H4, H8, S2, S4, D2, arrangement_at, bits_of_lane}
use Rattle.neon.specs.Form.{form, has_second, by_element}
use Rattle.neon.specs.Refusal.{most_m, Legal}
use Rattle.neon.proofs.Legal.{Accepted, accepted}
use Rattle.std.specs.Prelude.{Some}
use Rattle.words_encoding.specs.Encoding.{encoding}
use Rattle.words_encoding.specs.Word.{Qof, encode_of, encode}
use Rattle.words_encoding.specs.Decode.{bits, class_number, operation_at, size_at, arrangement_of, second_at, fields_of, decoded_if, is_word_of, decode}
use Rattle.words_encoding.specs.Inverse.{DecodedWhere, DecodeEncode, OneWord, WordFits}
use Rattle.words_encoding.proofs.Decoding.{word_of, read_as, by-operation, by-arrangement}
use Rattle.words_encoding.proofs.Reading.{Q-fits, Q-upper, second, most, ReadBack, read_back}
use Rattle.words_encoding.proofs.Operations.{found, second_operand_is, Tied, tied_at, arranged-at, element-at}

-- ---- a legal record's word

-- a destination lane of 32 bits has elements of 16
half-lane : (v : Arrangement) → eqb (bits_of_lane v / 2) 16 ≡ eqb (bits_of_lane v) 32
half-lane B8 = refl
half-lane B16 = refl
half-lane H4 = refl
half-lane H8 = refl
half-lane S2 = refl
half-lane S4 = refl
half-lane D2 = refl

pub most-is : (o : Op) (v : Arrangement) (t : Tied o) (m : ℕ) → m ≤ most_m o v → m ≤ most (encoding o).class (bits_of_lane v)
most-is o v t m h =
    subst (λ (s : Bool). m ≤ cond s (cond (eqb (class_number (encoding o).class) 3 && eqb (bits_of_lane v) 32) 15 31) 0) t.second_is
    (subst (λ (e : Bool). m ≤ cond (has_second o) (cond (e && eqb (bits_of_lane v) 32) 15 31) 0) t.element-is
    (subst (λ (b : Bool). m ≤ cond (has_second o) (cond (by_element o && b) 15 31) 0) (half-lane v) h))

module _ (c : Instruction) (legal : Legal c) where
  abbrev k : ℕ
  k = c.operation

  abbrev o : Op
  o = op_at k

  abbrev v : Arrangement
  v = arrangement_at c.arrangement

  legal-is : Accepted c
  legal-is = accepted c legal

  ties : Tied o
  ties = tied_at k legal-is.form_of.from_one legal-is.form_of.to_last

  whole : ReadBack (encoding o).class (form o).lanes (form o).immediate (second_operand_is (encoding o).class) v (encode c) (encoding o).U (encoding o).opcode c.i c.d c.n c.m
  unfolding encode_of
  whole =
      let a = legal-is in
      let f = a.form_of in
      read_back (form o).lanes (form o).immediate v (encode c) (encoding o).U (encoding o).opcode c.i c.d c.n c.m ties.U-fits a.at_n a.at-d f.low f.high
      (encoding o).class ties.immediate-is ties.opcode-fits (most-is o v ties c.m a.at-m)
      (element-at k c.arrangement f.from_one f.to_last f.arranged f.row) refl

  operation-back : operation_at (encode c) ≡ k
  unfolding operation_at
  operation-back =
      let r = whole in
      let f = legal-is.form_of in
      rw (r.class-is, r.opcode-is, r.common.at-Q, r.common.at_U)
      (found k (Qof (form o).lanes v) f.from_one f.to_last (Q-fits (form o).lanes v) (Q-upper (form o).lanes v))

  arrangement-back : arrangement_of (form o).lanes (bits 30 30 (encode c)) (size_at (encoding o).class (encode c)) ≡ c.arrangement
  arrangement-back =
      let r = whole in
      let f = legal-is.form_of in
      rw (r.common.at-Q, r.size_is) (arranged-at k c.arrangement f.from_one f.to_last f.arranged f.row)

  m-back : second_at o (bits_of_lane v) (encode c) ≡ c.m
  m-back =
      ap (λ (e : Bool). cond (has_second o) (cond (e && eqb (bits_of_lane v) 32) (bits 19 16 (encode c)) (bits 20 16 (encode c))) 0) ties.element-is
      ∙ ap (λ (s : Bool). second (encoding o).class s (bits_of_lane v) (encode c)) ties.second_is
      ∙ whole.m_is

  last-back : by-arrangement (encode c) k c.arrangement ≡ c
  last-back = λ j. record {
    operation = k;
    arrangement = c.arrangement;
    i = whole.i-is j;
    d = whole.common.at-d j;
    n = whole.common.at_n j;
    m = m-back j;
  }

  fields_back : fields_of (encode c) ≡ c
  unfolding fields_of
  fields_back =
      ap (by-operation (encode c)) operation-back
      ∙ ap (by-arrangement (encode c) k) arrangement-back
      ∙ last-back

  -- going and returning
  back-again : decode (encode c) ≡ Some c
  back-again = sym (read_as (encode c) c fields_back legal refl)

pub decode-encode : DecodeEncode
decode-encode c h = back-again c h

pub word_fits : WordFits
word_fits c h = (whole c h).common.fits

-- a word is decoded only to a legal record, whose word it is
decoded : (w : ℕ) (c : Instruction) → decode w ≡ Some c → Legal c × (encode c ≡ w)
unfolding decode
decoded w c e = go (is_word_of w (fields_of w)) refl e
  where
    go : (b : Bool) → is_word_of w (fields_of w) ≡ b → decoded_if b (fields_of w) ≡ Some c → Legal c × (encode c ≡ w)
    go true h q =
        let s : fields_of w ≡ c = cc in
        rw s at (word_of (fields_of w) w h)
    go false h q = let z : ◌≡◌ {A = ℕ} 0 1 = cc in absurd (omega arith)

pub decoded-where : DecodedWhere
decoded-where w c = (λ e. decoded w c e, λ p. ap decode (sym p.1) ∙ decode-encode c p.0)

pub one_word : OneWord
one_word c c' h h' e =
    let p : decode (encode c) ≡ Some c = decode-encode c h in
    let q : decode (encode c') ≡ Some c' = decode-encode c' h' in
    cc
