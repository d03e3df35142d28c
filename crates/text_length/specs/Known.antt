-- The lengths of a pool's first nodes in a list: what summing up node by node keeps.
use Rattle.std.specs.Prelude.{List, ◌≡◌, ℕ, ◌+◌, ◌≤◌, ◌<◌, min, length, get_or}
use Rattle.terms.specs.Display.{decimal}
use Rattle.pool.specs.Node.{word_at, kind_number}
use Rattle.text_parts.specs.Text.{text}

-- of nodes 0 to j - 1, each up to b
pub record Known (ws : List ℕ) (b : ℕ) (lengths : List ℕ) (j : ℕ) : Type 0 where
  pub at : (m : ℕ) → m < j → get_or lengths m 0 ≡ min (length (text ws m)) b

-- a place of the list, and a length that was up to 2^32 at most
pub record Kept (lengths : List ℕ) (m : ℕ) : Type 0 where
  pub below : m < length lengths
  pub small : get_or lengths m 0 ≤ 4294967296

-- node r is Var r, for each of the 32 registers
pub record Registers (ws : List ℕ) : Type 0 where
  pub at : (r : ℕ) → r < 32 → (kind_number ws r ≡ 1) × (word_at ws r 2 ≡ r)

-- 256 places, the first 32 with the lengths of the registers' texts
pub record RegisterLengths (lengths : List ℕ) : Type 0 where
  pub long : length lengths ≡ 256
  pub at : (r : ℕ) → r < 32 → get_or lengths r 0 ≡ length (decimal r) + 1
