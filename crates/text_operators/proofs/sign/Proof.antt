-- `sign` meets its contract: the operator's one character, by the kind.
use mathlib.Core.Path.{◌≡◌}
use native.Mathlib.Omega.{arith}
use Rattle.pool.specs.Node.{kind_at, kinds}
use Rattle.text_operators.specs.Between.{between_text}
use Rattle.text_operators.proofs.sign.Statement.{statement}
use Rattle.text_operators.proofs.sign.Tie as tie

returns : tie.Need-returns-in-3
unfolding between_text kind_at kinds
returns c = rw c.in-3.is

returns-2 : tie.Need-returns-in-4
unfolding between_text kind_at kinds
returns-2 c = rw c.in-4.is

returns-3 : tie.Need-returns-in-5
unfolding between_text kind_at kinds
returns-3 c = rw c.in-5.is

returns-4 : tie.Need-returns-in-6
unfolding between_text kind_at kinds
returns-4 c = rw c.in-6.is

returns-5 : tie.Need-returns-in-7
unfolding between_text kind_at kinds
returns-5 c = rw c.in-7.is

returns-6 : tie.Need-returns-in_default
unfolding between_text kind_at kinds
returns-6 c = let e : c.args.k ≡ 8 = omega arith in rw e

pub sign_spec : {M : Type 1} → statement M
sign_spec = tie.close (tie.spec returns returns-2 returns-3 returns-4 returns-5 returns-6)
