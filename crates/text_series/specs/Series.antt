-- Lists one after the other.
use Rattle.std.specs.Prelude.{List, [], ◌++◌, ℕ, zero, suc}

-- f 0, f 1 and so on, k of them
unfoldable pub up_to : {A : Type 0} → ℕ → (ℕ → List A) → List A
up_to zero f = []
up_to (suc k) f = up_to k f ++ f k
