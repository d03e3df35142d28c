-- Pools from before the sets of registers (document 02, S-4): word 0 was kind + 65,536 × width, so below 2^32.
use Rattle.std.specs.Prelude.{false, List, ◌≡◌, ℕ, ◌*◌, ◌^◌, ◌<◌, get_or}
use Rattle.pool.specs.Node.{kind_number}
use Rattle.pool.specs.Rules.{pool_ok}

abbrev pub Earlier : List ℕ → ℕ → Type 0
Earlier ws count = (n : ℕ) → n < count → get_or ws (4 * n) 0 < 2 ^ 32

-- every such pool with a Var fails the check
abbrev pub EarlierFails : Type 0
EarlierFails = (ws : List ℕ) (count : ℕ) → Earlier ws count → (n : ℕ) → n < count → kind_number ws n ≡ 1 → pool_ok ws count ≡ false
