-- What a script by lanes means, by the standard: the statements of the theorems. The reader is S-1's; it knows nothing of who wrote.
use Rattle.std.specs.Prelude.{not, List, ◌↔◌, ◌≡◌, ℕ, suc, ◌-◌, ◌/◌, ◌%◌, ◌^◌, ◌≤◌, ◌<◌, eqb}
use Rattle.std.proofs.Math.Option.{some}
use Rattle.terms.specs.Value.{value}
use Rattle.pool.specs.Node.{width_at}
use Rattle.pool.specs.Rules.{Valid}
use Rattle.pool.specs.Unfold.{unfold_at}
use Rattle.script_meaning.specs.Values.{Meaning, meaning, Entry, find}
use Rattle.script_meaning.specs.Meaning.{script, meant}
use Rattle.script_meaning.specs.Script.{name_of}
use Rattle.script_meaning.specs.Demand.{ModelOf, Holds}
use Rattle.script_lane_meaning.specs.LaneScript.{lane_script_of}

-- the bits of a number from hi down to lo
abbrev pub bits_of : (hi lo v : ℕ) → ℕ
bits_of hi lo v = v / 2 ^ lo % 2 ^ suc (hi - lo)

-- the same of node x at a start
abbrev pub lane_at : List ℕ → (ℕ → ℕ) → (hi lo x : ℕ) → ℕ
lane_at ws start hi lo x = bits_of hi lo (value start (unfold_at ws x))

-- some model of the start meets every assertion
abbrev pub Met : (ℕ → ℕ) → List ℕ → Type 0
Met start bytes = (model : List ℕ → ℕ) × ModelOf start model × Holds model bytes

-- the pool's values are a model: the script is read there, every node's name has the node's width and value, and all assertions hold exactly
-- when the lanes differ
pub record Solved (ws : List ℕ) (count x y hi lo : ℕ) (bytes : List ℕ) (start : ℕ → ℕ) : Type 0 where
  pub model : List ℕ → ℕ
  pub of_start : ModelOf start model
  pub names : List (Entry Meaning)
  pub values : (n : ℕ) → n < count → find names (name_of ws n) ≡ some (meaning (width_at ws n) (value start (unfold_at ws n)))
  pub meant_is : meant model bytes ≡ some (script names (not (eqb (lane_at ws start hi lo x) (lane_at ws start hi lo y))))

pub record LaneReads (ws : List ℕ) (count x y hi lo : ℕ) (bytes : List ℕ) (start : ℕ → ℕ) : Type 0 where
  pub solved : Solved ws count x y hi lo bytes start
  -- every model of the start in which all assertions hold has these values
  pub forced : (model : List ℕ → ℕ) → ModelOf start model → Holds model bytes → (n : ℕ) → n < count → model (name_of ws n) ≡ value start (unfold_at ws n)
  -- the assertions can be met at the start exactly when the two lanes differ there
  pub met : Met start bytes ↔ (lane_at ws start hi lo x ≡ lane_at ws start hi lo y → ⊥)

-- so it is for the script of every valid pool, two nodes of 128 bits and a cut of them, at every start
abbrev pub LaneScriptMeans : Type 0
LaneScriptMeans =
    (ws : List ℕ) (count : ℕ) → Valid ws count
    → (x y : ℕ) → x < count → y < count → width_at ws x ≡ 128 → width_at ws y ≡ 128
    → (hi lo : ℕ) → lo ≤ hi → hi < 128
    → (start : ℕ → ℕ) → ((r : ℕ) → r < 32 → start r < 2 ^ 128)
    → LaneReads ws count x y hi lo (lane_script_of ws count x y hi lo) start
