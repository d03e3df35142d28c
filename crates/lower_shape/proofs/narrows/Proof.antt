-- narrows is `is_narrow` of the operation's row, in each range of numbers
use Rattle.lower_shape.proofs.Rows.{low, middle, high}
use Rattle.lower_shape.proofs.narrows.Statement.{statement}
use Rattle.lower_shape.proofs.narrows.Tie as tie

returns : tie.Need-returns-then-operation-lt27
returns c = low c.args.operation c.requires c.if-operation-lt27.true

returns-2 : tie.Need-returns-then-operation-lt38
returns-2 c = middle c.args.operation c.requires c.if-operation-lt27.false c.if-operation-lt38.true

returns-3 : tie.Need-returns
returns-3 c = high c.args.operation c.requires c.if-operation-lt38.false

pub narrows_spec : {M : Type 1} → statement M
narrows_spec = tie.close (tie.spec returns returns-2 returns-3)
