-- the sum is the length of the lines of the nodes below n
use mathlib.Core.Path.{◌≡◌}
use Prim.Native.Nat.{◌*◌, ◌≤◌}
use lib.ListN.{length}
use Rattle.text_series.specs.Series.{up_to}
use Rattle.script_text.specs.Lines.{line_at}
use Rattle.script_length.proofs.lines_length.Given as goal

abbrev pub invariant-loop-n : goal.invariant-loop-n
invariant-loop-n l = (l.sum ≡ length (up_to l.n (line_at l.p))) × (l.sum ≤ 192 * l.n)
