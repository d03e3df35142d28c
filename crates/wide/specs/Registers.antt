-- The 32 registers as words: a start, and what a run leaves.
use Rattle.std.specs.Prelude.{ℕ, ◌+◌, ◌*◌, List, slice_index}
use Rattle.wide.specs.Number.{words}

-- the registers that 64 words hold: two words each, the low one first, v0 first
abbrev pub registers_of : List ℕ → ℕ → ℕ
registers_of ws r = words (slice_index ws (2 * r)) (slice_index ws (2 * r + 1)) 0
