-- What asking for the length of a script answers (document 02, S-1): 1, 5, the first in order.
use Rattle.std.specs.Prelude.{◌&&◌, List, ◌≡◌, ℕ, ◌<◌, length}
use Rattle.facts.specs.Refuse.{by_number, unless}
use Rattle.pool.specs.Rules.{pool_ok, of_width}
use Rattle.text_parts.specs.Text.{Ready}
use Rattle.script_meaning.specs.Script.{script_of}

-- 1 for a bad pool, 5 if one of the nodes is not there with 128 bits; else what follows
abbrev pub script_number : List ℕ → (count a b rest : ℕ) → ℕ
script_number ws count a b rest = unless (pool_ok ws count) 1 (unless (of_width ws count a 128 && of_width ws count b 128) 5 rest)

-- the length of the script that asks whether nodes a and b differ was asked for
pub record Measured (ws : List ℕ) (count a b : ℕ) (number len : ℕ) : Type 0 where
  pub number_is : number ≡ script_number ws count a b 0
  pub length_is : len ≡ by_number (script_number ws count a b 0) (length (script_of ws count a b))

-- a node that may be written, with a number of at most five digits
pub record Named (ws : List ℕ) (n : ℕ) : Type 0 where
  pub ready : Ready ws n
  pub small : n < 65536

abbrev pub AllNamed : List ℕ → ℕ → Type 0
AllNamed ws count = (n : ℕ) → n < count → Named ws n
