-- flag_record: the bit over the registers before the record, then the record.
use native.Mathlib.Omega.{arith}
use Rattle.neon.specs.declared.Instruction.{Instruction}
use Rattle.block_record_check.specs.Record.{instruction}
use Rattle.block_record_check.proofs.Refusals.{form-legal}
use Rattle.block_record.proofs.Recording.{registers-in, nodes-in}
use Rattle.saturation_step.proofs.Stepping.{raised-ok, flags}
use borrow.Author.Rules.{rules}
use Rattle.saturation_step.proofs.flag_record.Statement.{statement}
use Rattle.saturation_step.proofs.flag_record.Tie as tie

abbrev the : tie.Start → Instruction
the s = let a = s.args in instruction a.operation a.arrangement a.i a.d a.n a.m

get-requires : tie.Need-get-old-requires
get-requires c κs =
    let st = c in
    (registers-in (the c.before) st.requires.1.1.1).0

get-requires-2 : tie.Need-get-first-requires
get-requires-2 c κs =
    let st = c in
    (registers-in (the c.before.before) st.requires.1.1.1).1

get-requires-3 : tie.Need-get-second-requires
get-requires-3 c κs =
    let st = c in
    (registers-in (the c.before.before.before) st.requires.1.1.1).2

record-bit-requires : tie.Need-record_bit-flag-requires
record-bit-requires c κs =
    let st : tie.Start = c.before.before.before.before.before in
    let q = nodes-in st.args.map st.requires.1.0 (the st) st.requires.1.1.1 in (
      omega (arith, st.requires.0),
      (
        form-legal (the st) st.requires.1.1.1,
        (omega (arith, c.get-old.ensures, q.0), omega (arith, c.get-first.ensures, q.1), omega (arith, c.get-second.ensures, q.2), st.requires.1.1.0),
      ),
    )

lower-record-requires : tie.Need-lower_record-after-requires
lower-record-requires c κs =
    let l-record-bit = c in
    let p = l-record-bit.requires in
    let s = l-record-bit.record_bit-flag.ensures.sized in
    (omega (arith, p.0, s), (raised-ok l-record-bit.args.map _ s.more p.1.0, p.1.1.1))

same_length : tie.Need-shape_of-pool
same_length c = search rules

returns : tie.Need-returns
returns c =
    let l-lower-record = c in
    let bit = c in
    let m = c in
    let n = c in
    let st = c in
    flags st.args.map st.args.bit (the c.before.before.before.before.before.before.before.before.before.before.before.before.before) st.requires.1.0 st.requires.1.1.1 n.get-old.ensures n.get-first.ensures m.get-second.ensures
    bit.record_bit-flag.ensures l-lower-record.lower_record-after.ensures

pub flag_record_spec : {M : Type 1} → statement M
flag_record_spec =
    tie.close
    (tie.spec
    get-requires
    get-requires-2
    get-requires-3
    record-bit-requires
    lower-record-requires
    same_length
    returns)
