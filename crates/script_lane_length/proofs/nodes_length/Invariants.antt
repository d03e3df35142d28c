-- the sum is the length of the lines of the nodes below n
use mathlib.Core.Path.{◌≡◌}
use Prim.Native.Nat.{◌*◌, ◌≤◌}
use lib.ListN.{length}
use Rattle.text_series.specs.Series.{up_to}
use Rattle.script_lane_text.specs.Lines.{lines_at}
use Rattle.script_lane_length.proofs.nodes_length.Given as goal

abbrev pub invariant-loop-n : goal.invariant-loop-n
invariant-loop-n l = (l.sum ≡ length (up_to l.n (lines_at l.p))) × (l.sum ≤ 192 * l.n)
