-- What writing a script by lanes answers: 1, 5, 13, 9, the first in order.
use Rattle.std.specs.Prelude.{List, ◌≡◌, ℕ, leb, length}
use Rattle.facts.specs.Refuse.{by_number, list_by, unless}
use Rattle.script_lane_meaning.specs.LaneScript.{lane_script_of}
use Rattle.script_lane_length.specs.Answer.{lane_number}

-- 9 if the script is longer than the buffer
abbrev pub write_number : List ℕ → (count a b hi lo room : ℕ) → ℕ
write_number ws count a b hi lo room = lane_number ws count a b hi lo (unless (leb (length (lane_script_of ws count a b hi lo)) room) 9 0)

-- the buffer had the bytes old and has new
pub record LaneAnswered (ws : List ℕ) (count a b hi lo : ℕ) (old : List ℕ) (number len : ℕ) (new : List ℕ) : Type 0 where
  pub number_is : number ≡ write_number ws count a b hi lo (length old)
  pub length_is : len ≡ by_number (write_number ws count a b hi lo (length old)) (length (lane_script_of ws count a b hi lo))
  pub buffer_is : new ≡ list_by (write_number ws count a b hi lo (length old)) (lane_script_of ws count a b hi lo) old
