-- Numbers as runs of literals: a word of w bits is at w places of a list, the lowest bit first.
use Rattle.std.specs.Prelude.{Bool, List, ℕ, zero, suc, ◌+◌, ◌*◌, ◌^◌, get_or}
use Rattle.terms.specs.Value.{bit}
use Rattle.gates.specs.Graph.{truth}

-- the number whose bit j is f j, of w bits
unfoldable pub sum : (ℕ → Bool) → ℕ → ℕ
sum f zero = 0
sum f (suc w) = sum f w + bit (f w) * 2 ^ w

-- the truth of the literal at place at + j
abbrev pub bit_at : (ℕ → ℕ) → (g bits : List ℕ) → (at : ℕ) → ℕ → Bool
bit_at start g bits at j = truth start g (get_or bits (at + j) 0)

-- the number at a place
abbrev pub number : (ℕ → ℕ) → (g bits : List ℕ) → (at w : ℕ) → ℕ
number start g bits at w = sum (bit_at start g bits at) w
