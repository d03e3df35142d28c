-- One instruction on a pool (document 01, "Pool" and "The numbers"): its number, and what the pool then holds.
use Rattle.std.specs.Prelude.{true, List, ◌≡◌, ℕ, ◌+◌, ◌≤◌, ◌<◌}
use Rattle.std.specs.declared.result.Result.{Result}
use Rattle.facts.specs.declared.Refusal.{Refusal}
use Rattle.facts.specs.Answer.{number_of, value_or}
use Rattle.neon.specs.Op.{Op, op_at, Arrangement, arrangement_at, view}
use Rattle.neon.specs.Refusal.{reserve}
use Rattle.trees.specs.Trees.{result_tree}
use Rattle.pool.specs.declared.Built.{Built}
use Rattle.pool.specs.Node.{none}
use Rattle.pool.specs.Rules.{pool_ok}
use Rattle.pool.specs.Unfold.{unfold_at}
use Rattle.pool.specs.Growth.{Grown, NodeIs, Reach}
use Rattle.instruction_check.specs.Number.{instruction_number}

-- an answer as a number, 0 for done, the node of the term and the count after it
pub record Lowering : Type 0 where
  pub number : ℕ
  pub node : ℕ
  pub count : ℕ

-- a refusal has no node, and the count is as it was
abbrev pub lowering : ℕ → Result Built Refusal → Lowering
lowering count r =
    let b : Built = value_or (record { node = record { 0 = none }; count = count }) r in
    record { number = number_of r; node = b.node.0; count = b.count }

module _ (old : List ℕ) (count : ℕ) (new : List ℕ) (r : Lowering) where
  -- the answer's node is the term of the instruction over those of its sources; the nodes that are new come after the count, keep the
  -- pool's rules and are reached from the answer; every other word is as it was
  pub record Lowered (o : Op) (v : Arrangement) (i d n m : ℕ) : Type 0 where
    pub is : NodeIs new r.count r.node (view v) (result_tree o v i (unfold_at old d) (unfold_at old n) (unfold_at old m))
    pub grown : Grown old count new r.count
    pub most : r.count ≤ count + reserve
    pub checked : pool_ok new r.count ≡ true
    pub reached : (k : ℕ) → count ≤ k → k < r.count → Reach new r.node k

  -- no node, the old count, and the pool as it was
  pub record Refused : Type 0 where
    pub no_node : r.node ≡ none
    pub same_count : r.count ≡ count
    pub same_words : new ≡ old

  pub record Answers (operation arrangement i d n m : ℕ) : Type 0 where
    pub number : r.number ≡ instruction_number old count operation arrangement i d n m
    pub done : r.number ≡ 0 → Lowered (op_at operation) (arrangement_at arrangement) i d n m
    pub refused : (r.number ≡ 0 → ⊥) → Refused
