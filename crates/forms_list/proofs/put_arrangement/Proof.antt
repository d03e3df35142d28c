-- `forms_list::put_arrangement` meets its contract: the form code tells the immediates and the second source of the row.
use mathlib.Core.Path.{◌≡◌, sym, ap, ◌∙◌}
use Prim.Native.Nat.{ℕ}
use native.Mathlib.Omega.{arith}
use Rattle.neon.specs.Op.{op_at, arrangement_at, bits_of_lane}
use Rattle.neon.specs.Form.{most}
use Rattle.text_digits.proofs.Laws.{wrote_none, wrote_as, room_as}
use Rattle.neon.proofs.Geometry.{sized}
use Rattle.neon_form.proofs.Parts.{with-form}
use Rattle.forms_list.specs.Forms.{second_of}
use Rattle.forms_list.specs.Texts.{immediates_text, arrangement_text}
use Rattle.line_records.proofs.Small.{most-small}
use Rattle.forms_list.proofs.Rows.{nothing, rows, second-small}
use borrow.Author.Rules.{rules}
use Rattle.forms_list.proofs.put_arrangement.Statement.{statement}
use Rattle.forms_list.proofs.put_arrangement.Tie as tie

-- ---- the row that the code tells

record Found (operation arrangement least' most' m : ℕ) : Type 0 where
  most-is : most' ≡ most (op_at operation) (bits_of_lane (arrangement_at arrangement))
  second_is : m ≡ second_of (op_at operation)
  text : immediates_text operation arrangement least' most' m ≡ arrangement_text operation arrangement

found : (c : tie.After-second) → let a = c.args in
    Found a.operation a.arrangement c.least_immediate-least.result c.most_immediate-most.result c.second.result
found c =
    let q = c in
    let e = c in
    let st = c in
    let a = st.args in
    let o = op_at a.operation in
    let v = arrangement_at a.arrangement in
    let f = with-form a.operation a.arrangement st.requires.0.0 st.requires.0.1 (λ z. e.if-code-eq0.false (e.form_code-code.ensures ∙ z)) in
    let k = e.form_code-code.ensures ∙ f.2 in
    let l = q.least_immediate-least.ensures o v f.1 k in
    let m = c.most_immediate-most.ensures o v f.1 k ∙ ap (most o) c.lane_bits.ensures in
    let s = c.second.ensures o v f.1 k in
    record { most-is = m; second_is = s; text = rw (l, m, s) (rows a.operation a.arrangement f.1) }

form-code-requires : tie.Need-form_code-code-requires
form-code-requires c κs = search rules

returns : tie.Need-returns-then-code-eq0
returns c =
    let st = c in
    let a = st.args in
    wrote_as
    (nothing a.operation a.arrangement st.requires.0.0 st.requires.0.1 st.requires.0.2 (sym c.form_code-code.ensures ∙ c.if-code-eq0.true))
    (wrote_none a.buf.now a.at)

least-immediate-requires : tie.Need-least_immediate-least-requires
least-immediate-requires c κs = search rules

lane-bits-requires : tie.Need-lane_bits-requires
lane-bits-requires c κs = search rules

most-immediate-requires : tie.Need-most_immediate-most-requires
most-immediate-requires c κs =
    let v = arrangement_at c.args.arrangement in
    omega (arith, c.lane_bits.ensures, (sized v).eight, (sized v).most)

second-requires : tie.Need-second-requires
second-requires c κs = search rules

put-immediates-requires : tie.Need-put_immediates-requires
put-immediates-requires c κs =
    let f = found c.before in
    let st = c in
    let a = st.args in (
      (
        omega (arith, st.requires.0.1),
        omega (arith, st.requires.0.2),
        omega (arith, f.most-is, most-small (op_at a.operation) (arrangement_at a.arrangement)),
        omega (arith, f.second_is, second-small (op_at a.operation)),
      ),
      room_as (sym f.text) st.requires.1,
    )

same_length : tie.Need-shape_of-buf
same_length c = search rules

returns-2 : tie.Need-returns
returns-2 c =
    let q = c in
    wrote_as (sym (found c.before.before.before.before).text) q.put_immediates.ensures

pub put_arrangement_spec : {M : Type 1} → statement M
put_arrangement_spec =
    tie.close
    (tie.spec
    form-code-requires
    returns
    least-immediate-requires
    lane-bits-requires
    most-immediate-requires
    second-requires
    put-immediates-requires
    same_length
    returns-2)
