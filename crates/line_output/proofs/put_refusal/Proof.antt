-- `put_refusal` meets its contract: four columns and a newline.
use native.Mathlib.Omega.{arith}
use Rattle.text_digits.proofs.Laws.{wrote_then, wrote-length}
use Rattle.line_output.proofs.Texts.{length-columns}
use borrow.Author.Rules.{rules}
use Rattle.line_output.proofs.put_refusal.Statement.{statement}
use Rattle.line_output.proofs.put_refusal.Tie as tie

put-columns-requires : tie.Need-put_columns-i-requires
put-columns-requires c κs =
    let st = c in
    (st.requires.0, record { room = omega (arith, st.requires.1, length-columns st.args.number st.requires.0) })

put-requires : tie.Need-put-requires
put-requires c κs =
    let p = c in
    let st = c in
    let w = p.put_columns-i.ensures in
    record { room = omega (arith, st.requires.1, length-columns st.args.number st.requires.0, w.next_is, wrote-length w) }

same_length : tie.Need-shape_of-out
same_length c = search rules

returns : tie.Need-returns
returns c =
    let end = c in
    wrote_then end.put_columns-i.ensures end.put.ensures

pub put_refusal_spec : {M : Type 1} → statement M
put_refusal_spec =
    tie.close (tie.spec
    put-columns-requires
    put-requires
    same_length
    returns)
