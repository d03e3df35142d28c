-- below is a test of two words against a power of two
use Rattle.pool_rules.proofs.Words.{always, upper, lower, over}
use borrow.Author.Rules.{rules}
use Rattle.pool_rules.proofs.below.Statement.{statement}
use Rattle.pool_rules.proofs.below.Tie as tie

shl-result : tie.Need-overflow_shl-result
shl-result c = search rules

returns : tie.Need-returns-then-y-eq0
returns c = lower _ _ _ c.if-y-eq0.true c.if-bits-lt64.true

returns-2 : tie.Need-returns-then-bits-lt64
returns-2 c = over _ _ _ c.if-y-eq0.false c.if-bits-lt64.true

shl-result-2 : tie.Need-overflow_shl-result-then-bits-lt128
shl-result-2 c = search rules

returns-3 : tie.Need-returns-then-bits-lt128
returns-3 c = upper _ _ _ c.ranges.x.fits c.if-bits-lt64.false c.if-bits-lt128.true

returns-4 : tie.Need-returns
returns-4 c =
    let s = c in
    always s.args.x s.args.y s.args.bits s.ranges.x.fits s.ranges.y.fits c.if-bits-lt128.false

pub below_spec : {M : Type 1} → statement M
below_spec = tie.close (tie.spec shl-result returns returns-2 shl-result-2 returns-3 returns-4)
