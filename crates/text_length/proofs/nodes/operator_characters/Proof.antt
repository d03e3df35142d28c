-- `text_length::nodes::operator_characters` meets its contract: the four bits of each kind are computed.
use native.Mathlib.Omega.{arith}
use Rattle.text_length.proofs.Sizes.{operator-own}
use borrow.Author.Rules.{rules}
use Rattle.text_length.proofs.nodes.operator_characters.Statement.{statement}
use Rattle.text_length.proofs.nodes.operator_characters.Tie as tie

sub-result : tie.Need-overflow_sub-result
sub-result c = search rules

mul-result : tie.Need-overflow_mul-result
mul-result c = search rules

shr-result : tie.Need-overflow_shr-result
shr-result c = search rules

returns : tie.Need-returns
returns c = let e = operator-own c.args.k c.requires.0 c.requires.1 in (e, omega arith)

pub operator_characters_spec : {M : Type 1} → statement M
operator_characters_spec = tie.close (tie.spec sub-result mul-result shr-result returns)
