-- Shifts by an amount that is given, and what a part of a shifter says.
use Rattle.std.specs.Prelude.{Bool, true, false, cond, List, ◌≡◌, ℕ, ◌+◌, ◌-◌, ◌*◌, ◌/◌, ◌%◌, ◌^◌, ◌≤◌, ◌<◌, length, get_or}
use Rattle.gates.specs.Graph.{truth}
use Rattle.gates.specs.Grow.{Under}
use Rattle.gates_words.specs.Number.{number}
use Rattle.gates_circuits.specs.Makes.{Word, Makes}

-- n of w bits moved t places up, or down with a bit that comes in at the top
abbrev pub moved : (left filled : Bool) (w n t : ℕ) → ℕ
moved true filled w n t = n * 2 ^ t % 2 ^ w
moved false true w n t = (2 ^ w - 1) - ((2 ^ w - 1) - n) / 2 ^ t
moved false false w n t = n / 2 ^ t

-- and if c holds
abbrev pub moved_if : (c left filled : Bool) (w n t : ℕ) → ℕ
moved_if c left filled w n t = cond c (moved left filled w n t) n

-- w times the bit that comes in
abbrev pub filled_with : Bool → ℕ → ℕ
filled_with true w = 2 ^ w - 1
filled_with false w = 0

-- places below `out` are as they were
pub record Keeps (bits new : List ℕ) (out : ℕ) : Type 0 where
  pub size : length new ≡ length bits
  pub before : (p : ℕ) → p < out → get_or new p 0 ≡ get_or bits p 0

-- the word at `out`, moved s places, is above it; l is the literal that comes in
pub record Moves (bits new : List ℕ) (left : Bool) (l out s w : ℕ) : Type 0 where
  pub keeps : Keeps bits new (out + w)
  pub moves : {g : List ℕ} {k : ℕ} {f : (ℕ → ℕ) → ℕ} → Under l k → Word g k bits out w f
      → Word g k new (out + w) w (λ start. moved left (truth start g l) w (f start) s)

-- the places of each of n bits of an amount, 1, 2, 4 .., are below the width, and n bits can move as far as the width
pub record Reaches (w n : ℕ) : Type 0 where
  pub near : (i : ℕ) → i < n → 2 ^ i < w
  pub far : w ≤ 2 ^ n

-- the word at `out` is moved by the number of the low n bits at b, and w places are as far as these can move it
pub record Stages (g : List ℕ) (k : ℕ) (bits g' : List ℕ) (k' : ℕ) (bits' : List ℕ) (left : Bool) (l b out w n : ℕ) : Type 0 where
  pub makes : Makes g k bits g' k' bits' out w (24 * w) (λ start. moved left (truth start g l) w (number start g bits out w) (number start g bits b n))
  pub far : w ≤ 2 ^ n
  pub few : n ≤ w
