-- `text_length::nodes::length_past_registers` meets its contract: the registers' lengths are known at the start.
use native.Mathlib.Omega.{arith}
use Rattle.text_length.proofs.Kept.{registers-known}
use borrow.Author.Rules.{rules}
use Rattle.text_length.proofs.nodes.length_past_registers.Statement.{statement}
use Rattle.text_length.proofs.nodes.length_past_registers.Tie as tie

register-lengths-requires : tie.Need-register_lengths-lengths-requires
register-lengths-requires c κs = search rules

slice-aggregate-length-from : tie.Need-slice_bounds-length_from-end
slice-aggregate-length-from c = search rules

length-from-requires : tie.Need-length_from-requires
length-from-requires c κs =
    let l = c in
    let s = c in
    let e = l.register_lengths-lengths.ensures in
    (s.requires.0.0, ((omega (arith, e.long, s.requires.1.0), s.requires.1.1.1), registers-known s.requires.0.0 s.requires.1.0.0 s.requires.0.1 e s.requires.1.1.0))

returns : tie.Need-returns
returns c = search rules

pub length_past_registers_spec : {M : Type 1} → statement M
length_past_registers_spec =
    tie.close
    (tie.spec register-lengths-requires slice-aggregate-length-from length-from-requires returns)
