-- `run_lines::is_same` meets its contract.
use native.Mathlib.Omega.{arith}
use Rattle.run_lines.proofs.Texts.{same_words}
use Rattle.run_lines.proofs.is_same.Statement.{statement}
use Rattle.run_lines.proofs.is_same.Tie as tie

returns : tie.Need-returns
returns c =
    let a = c.args in
    same_words a.old.low a.old.high a.new.low a.new.high (omega arith) (omega arith)

pub is_same_spec : {M : Type 1} → statement M
is_same_spec = tie.close (tie.spec returns)
