-- `put_value` meets its contract: 0x and the hexadecimal digits.
use Rattle.text_digits.proofs.Laws.{wrote_then}
use borrow.Author.Rules.{rules}
use Rattle.text_parts.proofs.put_value.Statement.{statement}
use Rattle.text_parts.proofs.put_value.Tie as tie

put-requires : tie.Need-put-i-requires
put-requires c κs = search rules

put-hex-requires : tie.Need-put_hex-requires
put-hex-requires c κs = search rules

same_length : tie.Need-shape_of-buf
same_length c = search rules

returns : tie.Need-returns
returns c =
    let l-put-hex = c in
    let l-put = c in
    wrote_then l-put.put-i.ensures l-put-hex.put_hex.ensures

pub put_value_spec : {M : Type 1} → statement M
put_value_spec =
    tie.close (tie.spec
    put-requires
    put-hex-requires
    same_length
    returns)
