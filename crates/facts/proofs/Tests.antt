-- Tests that are joined. Assumes nothing.
use mathlib.Core.Path.{◌≡◌, refl}
use mathlib.Core.Bool.{Bool, true, false, cond, ◌&&◌, ◌||◌, false≢true}
use Prim.Native.Nat.{ℕ}
use native.Mathlib.Omega.{arith}
use Rattle.facts.specs.Refuse.{unless}

pub and_both : (a b : Bool) → (a && b) ≡ true → (a ≡ true) × (b ≡ true)
and_both true b h = (refl, h)
and_both false b h = absurd (false≢true h)

pub or_assoc : (x y z : Bool) → ((x || y) || z) ≡ (x || (y || z))
or_assoc true y z = refl
or_assoc false y z = refl

-- the bit of a test is 1 only if it holds
pub bit-true : (b : Bool) → ◌≡◌ {A = ℕ} (cond b 1 0) 1 → b ≡ true
bit-true true e = refl
bit-true false e = absurd (omega (arith, e))

-- a refusal that was not made: its test holds, and what follows gives the same number
pub passed : (b : Bool) {k rest : ℕ} → (k ≡ 0 → ⊥) → unless b k rest ≡ 0 → (b ≡ true) × (rest ≡ 0)
passed true f e = (refl, e)
passed false f e = absurd (f e)
