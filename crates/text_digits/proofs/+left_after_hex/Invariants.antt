use Rattle.pool.specs.Node.{wide}
use Rattle.text_digits.proofs.+left_after_hex.Given as goal

abbrev pub decreases-left_after_hex : goal.decreases-left_after_hex
decreases-left_after_hex l = wide l.low l.high
