-- What the half adder and the full adder say.
use Rattle.std.specs.Prelude.{Bool, true, false, not, ◌&&◌, ◌||◌, List, ℕ}
use Rattle.gates.specs.Graph.{truth}
use Rattle.gates.specs.Grow.{Builds}

-- whether two differ, and whether two or more of three hold
abbrev pub differ : Bool → Bool → Bool
differ true b = not b
differ false b = b

abbrev pub most : Bool → Bool → Bool → Bool
most true b c = b || c
most false b c = b && c

abbrev pub choose : Bool → Bool → Bool → Bool
choose true a b = a
choose false a b = b

-- two answers: s is `differ`, c is the conjunction
abbrev pub HalfAdds : (old : List ℕ) (k : ℕ) (new : List ℕ) (c s k' a b : ℕ) → Type 0
HalfAdds old k new c s k' a b =
    Builds old k new c k' 3 (λ start. truth start old a && truth start old b) × Builds old k new s k' 3
    (λ start. differ (truth start old a) (truth start old b))

-- s is the sum's bit of three bits, c its carry
abbrev pub FullAdds : (old : List ℕ) (k : ℕ) (new : List ℕ) (c s k' x y z : ℕ) → Type 0
FullAdds old k new c s k' x y z =
    Builds old k new c k' 7 (λ start. most (truth start old x) (truth start old y) (truth start old z))
    × Builds old k new s k' 7 (λ start. differ (differ (truth start old x) (truth start old y)) (truth start old z))
