-- `line_output::put_term` meets its contract: 9 for a text without room, else its number, a blank, the text and a newline.
use Prim.Native.Nat.{◌≤◌}
use native.Mathlib.Omega.{arith}
use lib.ListN.{length}
use Rattle.text_digits.proofs.Laws.{wrote-length}
use Rattle.text_parts.specs.Text.{text, Ready}
use Rattle.text_length.proofs.Answers.{ready}
use Rattle.line_output.specs.Answer.{text_room}
use Rattle.line_output.proofs.Texts.{length-columns, term-refused, term-done}
use borrow.Author.Rules.{rules}
use Rattle.line_output.proofs.put_term.Statement.{statement}
use Rattle.line_output.proofs.put_term.Tie as tie

whole : (s : tie.Start) → let a = s.args in Ready a.pool.now a.node.0
whole s = let a = s.args in ready a.pool.now a.count a.node.0 s.requires.0 s.requires.1.0.0

-- ---- from each write past the test back to the one before it

-- past the test the text has room
roomy : (c : tie.Else-length-gt65536) → let a = c.args in length (text a.pool.now a.node.0) ≤ text_room
roomy c = omega (arith, c.length_in_block-length.ensures, c.if-length-gt65536.false)

length-in-block-requires : tie.Need-length_in_block-length-requires
length-in-block-requires c κs = let s = c in ((whole c.before.before, s.requires.1.0.1), omega arith)

put-refusal-requires : tie.Need-put_refusal-requires
put-refusal-requires c κs = search rules

same_length : tie.Need-shape_of-out-then-length-gt65536
same_length c = search rules

returns : tie.Need-returns-then-length-gt65536
returns c =
    let told = c in
    let long = c in
    let f = c in
    let a = f.args in
    term-refused (text a.pool.now a.node.0) (omega (arith, f.length_in_block-length.ensures, long.if-length-gt65536.true)) told.put_refusal.ensures

put-columns-requires : tie.Need-put_columns-i-requires
put-columns-requires c κs =
    let s = c in
    (omega arith, record { room = omega (arith, s.requires.1.1, length-columns 0 (omega arith)) })

put-requires : tie.Need-put-from-requires
put-requires c κs =
    let p = c in
    let s = c in
    let w = p.put_columns-i.ensures in
    record { room = omega (arith, s.requires.1.1, length-columns 0 (omega arith), w.next_is, wrote-length w) }

write-known-requires : tie.Need-write_known-end-requires
write-known-requires c κs =
    let q = c in
    let p = c in
    let i = c in
    let s = c in
    let w = p.put_columns-i.ensures in
    let v = q.put-from.ensures in (
      whole c.before.before.before.before.before.before.before.before.before.before.before.before.before.before.before,
      record { room = omega (arith, s.requires.1.1, length-columns 0 (omega arith), w.next_is, wrote-length w, v.next_is, wrote-length v, roomy c.before.before.before.before.before.before.before.before.before.before.before) },
    )

put-requires-2 : tie.Need-put-requires
put-requires-2 c κs =
    let t = c in
    let q = c in
    let p = c in
    let i = c in
    let s = c in
    let w = p.put_columns-i.ensures in
    let v = q.put-from.ensures in
    let u = t.write_known-end.ensures in
    record { room = omega (arith, s.requires.1.1, length-columns 0 (omega arith), w.next_is, wrote-length w, v.next_is, wrote-length v, u.next_is, wrote-length u, roomy c.before.before.before.before.before.before.before.before.before.before.before.before.before.before.before.before.before) }

same-length-2 : tie.Need-shape_of-out
same-length-2 c = search rules

returns-2 : tie.Need-returns
returns-2 c =
    let e = c in
    let t = c in
    let q = c in
    let p = c in
    let i = c in
    let a = i.args in
    term-done (text a.pool.now a.node.0) (roomy c.before.before.before.before.before.before.before.before.before.before.before.before.before.before.before.before.before.before.before.before) p.put_columns-i.ensures q.put-from.ensures t.write_known-end.ensures e.put.ensures

pub put_term_spec : {M : Type 1} → statement M
put_term_spec =
    tie.close
    (tie.spec
    length-in-block-requires
    put-refusal-requires
    same_length
    returns
    put-columns-requires
    put-requires
    write-known-requires
    put-requires-2
    same-length-2
    returns-2)
