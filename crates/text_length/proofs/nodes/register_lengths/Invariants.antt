-- the places below r have the lengths of v0 to the register before r
use Prim.Native.Nat.{ℕ, ◌+◌, ◌<◌}
use mathlib.Core.Path.{◌≡◌}
use lib.ListN.{length, get_or}
use Rattle.terms.specs.Display.{decimal}
use Rattle.text_length.proofs.nodes.register_lengths.Given as goal

abbrev pub invariant-loop-r : goal.invariant-loop-r
invariant-loop-r l = (length l.lengths ≡ 256) × ((m : ℕ) → m < l.r → get_or l.lengths m 0 ≡ length (decimal m) + 1)
