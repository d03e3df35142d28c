-- `step` makes one step of the Arm run: register d becomes the result, the others stay (`SteppedBy`).
use Rattle.neon.proofs.Legal.{accepted}
use Rattle.neon.proofs.Legal.{registers-in}
use Rattle.run_block.proofs.Runs.{stepped}
use Rattle.run_block.proofs.step.Goals as goal

pub get-d-requires : goal.get-d-requires
get-d-requires c = (registers-in c.args.c c.requires).0

pub get-a-requires : goal.get-a-requires
get-a-requires c = (registers-in c.args.c c.requires).1

pub get-b-requires : goal.get-b-requires
get-b-requires c = (registers-in c.args.c c.requires).2

pub result_of-x-requires : goal.result_of-x-requires
result_of-x-requires c =
    let s = c in
    (accepted s.args.c s.requires).form_of

pub set-new-requires : goal.set-new-requires
set-new-requires c =
    let s = c in
    (registers-in s.args.c s.requires).0

pub returns : goal.returns
returns c =
    let at-result-of = c in
    let at-get = c in
    let at-get2 = c in
    let at-get3 = c in
    let s = c in
    stepped s.args.c s.args.regs.words c.set-new.result.words _ _ _ at-result-of.result_of-x.result at-get3.get-d.ensures
    at-get2.get-a.ensures at-get.get-b.ensures at-result-of.result_of-x.ensures c.set-new.ensures
