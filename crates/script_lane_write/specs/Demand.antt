-- What a script by lanes means once it is written: the theorem of proofs/Means.antt.
use Rattle.std.specs.Prelude.{List, ℕ, ◌^◌, ◌<◌, take}
use Rattle.script_lane_meaning.specs.Demand.{LaneReads}
use Rattle.script_lane_write.specs.Answer.{LaneAnswered}

-- with the number 0 the bytes up to the length are a script that can be met at a start exactly when the two lanes differ there
abbrev pub LaneWrittenMeans : Type 0
LaneWrittenMeans =
    (ws : List ℕ) (count a b hi lo : ℕ) (old : List ℕ) (len : ℕ) (new : List ℕ) → LaneAnswered ws count a b hi lo old 0 len new
    → (start : ℕ → ℕ) → ((r : ℕ) → r < 32 → start r < 2 ^ 128)
    → LaneReads ws count a b hi lo (take len new) start
