-- `shorten`: the literals as they are, or those that `absorb` gives.
use native.Mathlib.Omega.{arith}
use Rattle.gates_build.proofs.Reduce.{gate-of-word}
use Rattle.gates_build.proofs.operands.shorten.Goals as goal

pub returns : goal.returns
returns c =
    c.absorb.ensures.same (omega (arith, c.requires)) (gate-of-word c.requires.2 c.if-variable-lt4097.false
    (omega (arith, c.if-variable-x.false)) (omega (arith, c.if-variable-y.false)))
