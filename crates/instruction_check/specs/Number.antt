-- The refusals of one instruction (document 01, "The numbers"): 1 to 6, the first in order.
use Rattle.std.specs.Prelude.{Bool, true, cond, ◌&&◌, List, ℕ, ◌+◌, leb, eqb}
use Rattle.facts.specs.Refuse.{unless}
use Rattle.neon.specs.Op.{Op, op_at, Arrangement, arrangement_at, view}
use Rattle.neon.specs.Form.{has_second, reads_d, first_bits, second_bits}
use Rattle.neon.specs.Refusal.{form_number, reserve}
use Rattle.pool.specs.Node.{none, places}
use Rattle.pool.specs.Rules.{pool_ok, of_width}

-- a source that is wanted is below the count and has its width; one that is not is no node
abbrev pub source_ok : List ℕ → (count : ℕ) (wanted : Bool) (width node : ℕ) → Bool
source_ok ws count wanted w n = cond wanted (of_width ws count n w) (eqb n none)

abbrev pub sources_ok : List ℕ → (count : ℕ) → Op → Arrangement → (d n m : ℕ) → Bool
sources_ok ws count o v d n m =
    source_ok ws count (reads_d o v) (view v) d && source_ok ws count true (first_bits o v) n && source_ok ws count (has_second o) (second_bits o v) m

-- 1, then 2 to 4, then 5 and 6; 0 for an instruction that is accepted
unfoldable pub instruction_number : List ℕ → (count operation arrangement i d n m : ℕ) → ℕ
instruction_number ws count operation arrangement i d n m =
    unless (pool_ok ws count) 1
    (form_number operation arrangement i
    (unless (sources_ok ws count (op_at operation) (arrangement_at arrangement) d n m) 5 (unless (leb (count + reserve) (places ws)) 6 0)))
