-- What a pool's script means, by the standard (document 02, S-1): the statements of the theorems.
use Rattle.std.specs.Prelude.{true, not, List, ◌≡◌, ℕ, ◌^◌, ◌<◌, eqb}
use Rattle.std.proofs.Math.Option.{some}
use Rattle.terms.specs.Value.{value}
use Rattle.pool.specs.Node.{width_at}
use Rattle.pool.specs.Rules.{Valid}
use Rattle.pool.specs.Unfold.{unfold_at}
use Rattle.script_meaning.specs.Values.{Meaning, meaning, Entry, find}
use Rattle.script_meaning.specs.Meaning.{Script, script, meant}
use Rattle.script_meaning.specs.Script.{register_name, name_of, script_of}

-- the model of a start: r0 to r31 are its registers, of 128 bits
pub record ModelOf (start : ℕ → ℕ) (model : List ℕ → ℕ) : Type 0 where
  pub fits : (r : ℕ) → r < 32 → start r < 2 ^ 128
  pub gives : (r : ℕ) → r < 32 → model (register_name r) ≡ start r

-- the bytes are a script that the reader takes in that model, and its assertions hold there
abbrev pub Holds : (List ℕ → ℕ) → List ℕ → Type 0
Holds model bytes = (s : Script) × (meant model bytes ≡ some s) × (s.holds ≡ true)

-- the bytes, read by the standard in that model, give every node's name its width and value, and their assertion holds exactly when the
-- values of nodes x and y differ
pub record Reads (ws : List ℕ) (count x y : ℕ) (bytes : List ℕ) (start : ℕ → ℕ) (model : List ℕ → ℕ) : Type 0 where
  pub names : List (Entry Meaning)
  pub values : (n : ℕ) → n < count → find names (name_of ws n) ≡ some (meaning (width_at ws n) (value start (unfold_at ws n)))
  pub meant_is : meant model bytes ≡ some (script names (not (eqb (value start (unfold_at ws x)) (value start (unfold_at ws y)))))

-- so it is for the script of every valid pool, at every start
abbrev pub ScriptMeans : Type 0
ScriptMeans =
    (ws : List ℕ) (count : ℕ) → Valid ws count → (x y : ℕ) → x < count → y < count → width_at ws x ≡ width_at ws y
    → (start : ℕ → ℕ) (model : List ℕ → ℕ) → ModelOf start model
    → Reads ws count x y (script_of ws count x y) start model
