-- record_bit: a bit for an operation that can saturate, else the bit before.
use mathlib.Core.Path.{refl, sym, ◌∙◌}
use Rattle.neon.specs.Op.{op_at, arrangement_at}
use Rattle.neon.specs.Refusal.{Formed}
use Rattle.neon.proofs.Legal.{formed}
use Rattle.lower_neon.proofs.Rows.{row}
use Rattle.lower_neon.proofs.Sources.{form-ready}
use Rattle.saturation_record.proofs.Recording.{changes, stays}
use borrow.Author.Rules.{rules}
use Rattle.saturation_record.proofs.record_bit.Statement.{statement}
use Rattle.saturation_record.proofs.record_bit.Tie as tie

-- the operation, the form and the immediate are of the table
form : (s : tie.Start) → let a = s.args in Formed a.operation a.arrangement a.i
form s = let a = s.args in (formed a.operation a.arrangement a.i 0 s.requires.1.0).0

-- ---- from the test back to the shape, and to the entry

-- ---- needs

shape-requires : tie.Need-shape-shape-requires
shape-requires c κs =
    let f = form c.before in
    (f.from_one, f.to_last, f.arranged)

saturable-requires : tie.Need-saturable-requires
saturable-requires c κs = search rules

instruction-bit-requires : tie.Need-instruction_bit-requires
instruction-bit-requires c κs =
    let l-if1 = c in
    let l-saturable = c in
    let st = c in
    let f = form c.before.before.before.before.before in
    let o = op_at st.args.operation in
    let v = arrangement_at st.args.arrangement in
    let q = form-ready st.args.count st.args.first st.args.second st.args.d o v st.args.i l-saturable.shape-shape.ensures
    (row o v st.args.i f.row f.low f.high) st.requires.1.1.1 (λ u. st.requires.1.1.2) (λ u. st.requires.1.1.0) in
    (st.requires.0, ((q.0.0, q.0.1, q.0.2, st.requires.1.1.3), (q.1.0, q.1.1, q.1.2, q.1.3, q.1.4, sym l-saturable.saturable.ensures ∙ l-if1.if-saturable.true)))

same_length : tie.Need-shape_of-pool-then-saturable
same_length c = search rules

returns : tie.Need-returns-then-saturable
returns c =
    let l-instruction-bit = c in
    let yes = c in
    let t = c in
    let st = c in
    changes st.args.operation st.args.arrangement st.args.i (form c.before.before.before.before.before.before.before.before).high t.shape-shape.ensures t.saturable.ensures yes.if-saturable.true
    l-instruction-bit.instruction_bit.ensures

returns-2 : tie.Need-returns
returns-2 c =
    let u = c in
    let s = c in
    stays s.args.operation s.args.arrangement s.args.i (form c.before.before.before.before).high u.shape-shape.ensures u.saturable.ensures c.if-saturable.false s.requires.1.1.3 refl refl

pub record_bit_spec : {M : Type 1} → statement M
record_bit_spec =
    tie.close
    (tie.spec
    shape-requires
    saturable-requires
    instruction-bit-requires
    same_length
    returns
    returns-2)
