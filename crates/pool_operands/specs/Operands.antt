-- Which operands a kind of node has, by its number.
use Rattle.std.specs.Prelude.{Bool, ◌&&◌, ◌||◌, ℕ, leb, eqb}

-- a first, a second, a third
abbrev pub has_a : ℕ → Bool
has_a kind = leb 3 kind

abbrev pub has_b : ℕ → Bool
has_b kind = leb 3 kind && leb kind 15 || eqb kind 17

abbrev pub has_c : ℕ → Bool
has_c kind = eqb kind 15
