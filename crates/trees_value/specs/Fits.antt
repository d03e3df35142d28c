-- Integers that so many bits hold. An integer z is up z - dn z, so that its order is one of natural numbers.
use Rattle.std.specs.Prelude.{Bool, true, false, ℕ, suc, ◌+◌, ◌-◌, ◌^◌, ◌≤◌, ◌<◌, ℤ, pos, negsuc}

abbrev pub up : ℤ → ℕ
up (pos n) = n
up (negsuc n) = 0

abbrev pub dn : ℤ → ℕ
dn (pos n) = 0
dn (negsuc n) = suc n

-- z is a signed, an unsigned number of w bits
pub record FitsS (w : ℕ) (z : ℤ) : Type 0 where
  pub low : dn z ≤ up z + 2 ^ (w - 1)
  pub high : up z < dn z + 2 ^ (w - 1)

pub record FitsU (w : ℕ) (z : ℤ) : Type 0 where
  pub low : dn z ≤ up z
  pub high : up z < dn z + 2 ^ w

abbrev pub Fits : Bool → ℕ → ℤ → Type 0
Fits true w z = FitsS w z
Fits false w z = FitsU w z
