-- What a search for a gate says.
use Rattle.std.specs.Prelude.{List, ◌≡◌, ℕ, ◌<◌, get_or}
use Rattle.gates.specs.Grow.{Under}

-- if r is a gate below the count, it has this word and comes after the literal b
abbrev pub Finds : List ℕ → (count word b r : ℕ) → Type 0
Finds g count word b r = r < count → (get_or g r 0 ≡ word) × Under b r
