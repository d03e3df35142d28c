use Rattle.pool.specs.Node.{wide}
use Rattle.text_digits.proofs.+put_sixteens.Given as goal

abbrev pub decreases-put_sixteens : goal.decreases-put_sixteens
decreases-put_sixteens l = wide l.low l.high
