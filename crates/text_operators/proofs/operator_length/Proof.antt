-- `operator_length` meets its contract: three, four or five characters, by the kind.
use native.Mathlib.Omega.{arith}
use mathlib.Core.Path.{sym}
use Rattle.text_operators.proofs.Lengths.{operator-three, operator-shl, operator-shr, operator-compare}
use Rattle.text_operators.proofs.operator_length.Statement.{statement}
use Rattle.text_operators.proofs.operator_length.Tie as tie

returns : tie.Need-returns-then-k-lt-SHL
returns c = (sym (operator-three c.args.k c.requires.0 c.if-k-lt-SHL.true), omega arith)

returns-2 : tie.Need-returns-then-k-lt-LSHR
returns-2 c = (sym (operator-shl c.args.k c.if-k-lt-SHL.false c.if-k-lt-LSHR.true), omega arith)

returns-3 : tie.Need-returns-then-k-lt-EQ
returns-3 c = (sym (operator-shr c.args.k c.if-k-lt-LSHR.false c.if-k-lt-EQ.true), omega arith)

returns-4 : tie.Need-returns-else-k-lt-EQ
returns-4 c = (sym (operator-compare c.args.k c.if-k-lt-EQ.false c.requires.1), omega arith)

pub operator_length_spec : {M : Type 1} → statement M
operator_length_spec = tie.close (tie.spec returns returns-2 returns-3 returns-4)
