-- What `write_lane_script` writes, read by the standard: the theorem of specs/Demand.antt. Assumes nothing.
use mathlib.Core.List.{List}
use mathlib.Core.Path.{◌≡◌, sym, subst}
use Prim.Native.Nat.{ℕ}
use lib.ListN.{length, take}
use Rattle.pool_check.proofs.Passed.{keeps, below, has_width}
use Rattle.script_write.proofs.Answers.{front-is}
use Rattle.script_lane_meaning.specs.LaneScript.{lane_script_of}
use Rattle.script_lane_meaning.specs.Demand.{LaneReads}
use Rattle.script_lane_meaning.proofs.Script.{lane-script-means}
use Rattle.script_lane_length.proofs.Answers.{fine}
use Rattle.script_lane_write.specs.Answer.{write_number, LaneAnswered}
use Rattle.script_lane_write.specs.Demand.{LaneWrittenMeans}

-- the bytes up to the length are the script
pub written_is : (ws : List ℕ) (count a b hi lo : ℕ) (old : List ℕ) (len : ℕ) (new : List ℕ) → LaneAnswered ws count a b hi lo old 0 len new
    → take len new ≡ lane_script_of ws count a b hi lo
written_is ws count a b hi lo old len new h =
    front-is (write_number ws count a b hi lo (length old)) (lane_script_of ws count a b hi lo) old len new h.number_is h.length_is h.buffer_is

pub lane-written-means : LaneWrittenMeans
lane-written-means ws count a b hi lo old len new h start bits =
    let f = fine ws count a b hi lo _ (sym h.number_is) in
    let g = f.nodes in
    subst (λ (s : List ℕ). LaneReads ws count a b hi lo s start) (sym (written_is ws count a b hi lo old len new h))
    (lane-script-means ws count (keeps ws count g.pool) a b (below ws count a 128 g.first) (below ws count b 128 g.second) (has_width ws count a 128 g.first)
    (has_width ws count b 128 g.second) hi lo f.order f.under start bits)
