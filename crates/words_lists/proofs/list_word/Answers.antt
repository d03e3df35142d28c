use mathlib.Core.Path.{sym, ◌∙◌}
use native.Mathlib.Omega.{arith}
use Rattle.neon.specs.declared.Instruction.{Instruction}
use Rattle.neon.specs.Refusal.{Legal}
use Rattle.words_encoding.proofs.Back.{decoded-where}
use Rattle.line_records.proofs.Small.{small, line-length}
use Rattle.words_lists.proofs.list_word.Goals as goal

pub put_line-requires-clause-operation_bound : goal.put_line-requires-clause-operation_bound
put_line-requires-clause-operation_bound c =
    let r : Instruction = c.in-Some.c in
    let legal : Legal r = ((decoded-where c.args.w r).0 (sym c.decode_word.ensures ∙ c.in-Some.is)).0 in
    let s = small r legal in
    (s.operation-small, s.arrangement-small, s.i-small, s.d_small, s.n-small, s.m-small)

pub put_line-requires-clause-room : goal.put_line-requires-clause-room
put_line-requires-clause-room c =
    let r : Instruction = c.in-Some.c in
    let legal : Legal r = ((decoded-where c.args.w r).0 (sym c.decode_word.ensures ∙ c.in-Some.is)).0 in
    record { room = omega (arith, line-length r legal) }

pub returns-clause-lower_bound : goal.returns-clause-lower_bound
returns-clause-lower_bound c =
    let r : Instruction = c.in-Some.c in
    let legal : Legal r = ((decoded-where c.args.w r).0 (sym c.decode_word.ensures ∙ c.in-Some.is)).0 in
    omega (arith, line-length r legal)
