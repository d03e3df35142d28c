-- The theorems of specs/Matter.antt. Assumes nothing.
use mathlib.Core.Path.{subst}
use Prim.Native.Nat.{ℕ}
use Rattle.terms.specs.Registers.{registers, InSet}
use Rattle.pool_check.proofs.Passed.{keeps}
use Rattle.pool_registers.specs.Matter.{SetIsTheWalk, AgreeingStarts, OthersDoNotMatter}
use Rattle.pool_registers.proofs.Walk.{walk_is}
use Rattle.pool_registers.proofs.Agreeing.{same-value}

pub set-is-the-walk : SetIsTheWalk
set-is-the-walk ws count n h l = walk_is ws count (keeps ws count h) n l

pub agreeing-starts : AgreeingStarts
agreeing-starts t start start' h = same-value start start' t h

pub others-do-not-matter : OthersDoNotMatter
others-do-not-matter t x absent start start' h =
    same-value start start' t (λ y i. h y (λ e. absent (subst (λ (z : ℕ). InSet z (registers t)) e i)))
