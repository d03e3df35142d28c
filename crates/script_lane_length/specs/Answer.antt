-- What asking for the length of a script by lanes answers: 1, 5, the first in order.
use Rattle.std.specs.Prelude.{Bool, ◌&&◌, List, ◌≡◌, ℕ, ltb, leb, length}
use Rattle.facts.specs.Refuse.{by_number, unless}
use Rattle.script_length.specs.Answer.{script_number}
use Rattle.script_lane_meaning.specs.LaneScript.{lane_script_of}

-- the bits from hi down to lo are a cut of 128
abbrev pub is_cut : (hi lo : ℕ) → Bool
is_cut hi lo = leb lo hi && ltb hi 128

-- 1 for a bad pool, 5 where one of the nodes may not be chosen, and 5 for what is no cut; else what follows
abbrev pub lane_number : List ℕ → (count a b hi lo rest : ℕ) → ℕ
lane_number ws count a b hi lo rest = script_number ws count a b (unless (is_cut hi lo) 5 rest)

-- the length of the script that asks whether nodes a and b differ in the bits from hi down to lo was asked for
pub record LaneMeasured (ws : List ℕ) (count a b hi lo : ℕ) (number len : ℕ) : Type 0 where
  pub number_is : number ≡ lane_number ws count a b hi lo 0
  pub length_is : len ≡ by_number (lane_number ws count a b hi lo 0) (length (lane_script_of ws count a b hi lo))
