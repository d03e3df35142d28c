-- `words_encoding::encode::encode_word` meets its contract: a legal record's word is the sum of its parts.
use mathlib.Core.Path.{◌≡◌, sym, ap, ◌∙◌}
use native.Mathlib.Omega.{arith}
use Prim.Native.Nat.{ℕ, ◌+◌, ◌*◌}
use Rattle.neon.specs.declared.Instruction.{Instruction}
use Rattle.neon.specs.Op.{op_at, arrangement_at, bits_of_lane}
use Rattle.neon.specs.Form.{form}
use Rattle.neon.proofs.Legal.{Accepted, accepted, m-le}
use Rattle.block_record_check.specs.Record.{instruction}
use Rattle.block_record_check.proofs.Refusals.{form-legal}
use Rattle.neon.proofs.Geometry.{sized}
use Rattle.neon_form.proofs.Parts.{coded}
use Rattle.words_encoding.specs.Parts.{place_part}
use Rattle.words_encoding.proofs.Pieces.{most-small}
use Rattle.words_encoding.proofs.Sum.{encode-sum}
use borrow.Author.Rules.{rules}
use Rattle.words_encoding.proofs.encode.encode_word.Statement.{statement}
use Rattle.words_encoding.proofs.encode.encode_word.Tie as tie

sum-as : {a b c a' b' c' : ℕ} (n d : ℕ) → a ≡ a' → b ≡ b' → c ≡ c' → a + b + c + 32 * n + d ≡ a' + b' + c' + 32 * n + d
sum-as n d p q r = cc

abbrev asked : tie.Start → Instruction
asked s = let a = s.args in instruction a.operation a.arrangement a.i a.d a.n a.m

legal : (s : tie.Start) → Accepted (asked s)
legal s = accepted (asked s) s.requires

-- the entry, from where all parts of the word are known
form-code-requires : tie.Need-form_code-code-requires
form-code-requires c κs = search rules

lane-bits-requires : tie.Need-lane_bits-requires
lane-bits-requires c κs =
    (legal c.before).form_of.arranged

size-part-requires : tie.Need-size_part-requires
size-part-requires c κs =
    let f = (legal c.before.before).form_of in (f.from_one, f.to_last, f.arranged)

place-requires : tie.Need-place-fields-requires
place-requires c κs =
    let st = c in
    let l = legal c.before.before.before in
    let o = op_at st.args.operation in
    let v = arrangement_at st.args.arrangement in
    (omega (arith, c.lane_bits.ensures, (sized v).most), c.size_part.ensures.1, omega (arith, l.form_of.high, most-small (form o).immediate v), omega (arith, l.at-m, m-le o v))

fixed-requires : tie.Need-fixed-requires
fixed-requires c κs =
    let f = (legal c.before.before.before.before).form_of in (f.from_one, f.to_last)

view-part-requires : tie.Need-view_part-requires
view-part-requires c κs =
    let f = (legal c.before.before.before.before.before).form_of in (f.from_one, f.to_last, f.arranged)

add-result : tie.Need-overflow_add-result
add-result c = search rules

add-result-2 : tie.Need-overflow_add-result-2
add-result-2 c = search rules

mul-result : tie.Need-overflow_mul-result
mul-result c = omega (arith, (legal c.before.before.before.before.before.before).at_n)

add-result-3 : tie.Need-overflow_add-result-3
add-result-3 c =
    omega (arith, (legal c.before.before.before.before.before.before).at_n, c.fixed.ensures.1, c.view_part.ensures.1, c.place-fields.ensures.1)

add-result-4 : tie.Need-overflow_add-result-4
add-result-4 c =
    let l = legal c.before.before.before.before.before.before in omega (arith, l.at_n, l.at-d, c.fixed.ensures.1, c.view_part.ensures.1, c.place-fields.ensures.1)

returns : tie.Need-returns
returns c =
    let p = c in
    let r = asked c.before.before.before.before.before.before in
    let o = op_at r.operation in
    let v = arrangement_at r.arrangement in
    let k = coded r.operation r.arrangement r.i 0 (form-legal r c.requires) in
    let q = p.place-fields.ensures.0 o v k.0 (p.form_code-code.ensures ∙ k.1) in
    sum-as r.n r.d c.fixed.ensures.0 c.view_part.ensures.0
    (q ∙ ap (λ (b : ℕ). place_part (form o).immediate b p.size_part.result r.i r.m) p.lane_bits.ensures
    ∙ ap (λ (s : ℕ). place_part (form o).immediate (bits_of_lane v) s r.i r.m) p.size_part.ensures.0)
    ∙ sym (encode-sum r c.requires)

pub encode_word_spec : {M : Type 1} → statement M
encode_word_spec =
    tie.close
    (tie.spec
    form-code-requires
    lane-bits-requires
    size-part-requires
    place-requires
    fixed-requires
    view-part-requires
    add-result
    add-result-2
    mul-result
    add-result-3
    add-result-4
    returns)
