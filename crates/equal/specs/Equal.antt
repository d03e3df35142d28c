-- What the check of a refutation says of two pools: with 0, the bits of the two nodes are equal at every start.
use Rattle.std.specs.Prelude.{cond, ◌&&◌, ◌||◌, List, ◌≡◌, ℕ, ◌/◌, eqb, leb, ltb, length}
use Rattle.facts.specs.Refuse.{unless}
use Rattle.terms.specs.Value.{value}
use Rattle.pool.specs.Unfold.{unfold_at}
use Rattle.gates.specs.Grow.{literal_of}
use Rattle.gates_pool.specs.Bits.{Start}
use Rattle.gates_question.specs.Question.{bits_of, Asked}
use Rattle.gates_question.specs.Question as question
use Rattle.refutation.specs.Refutation.{refused_step}
use Rattle.refutation_check.specs.Answer.{Checked}

-- bits hi to lo of node a and of node b are equal at every start of 128-bit registers
abbrev pub EqualBits : (ws : List ℕ) (a : ℕ) (ws' : List ℕ) (b hi lo : ℕ) → Type 0
EqualBits ws a ws' b hi lo =
    (start : ℕ → ℕ) → Start start → bits_of hi lo (value start (unfold_at ws a)) ≡ bits_of hi lo (value start (unfold_at ws' b))

-- 6 if marks has not a place for each literal or starts not one for each step; 14 unless the refutation is accepted. An empty one of literal 0 is.
abbrev pub decision : (g : List ℕ) (count l : ℕ) (refutation : List ℕ) (marks starts : ℕ) → ℕ
decision g count l refutation marks starts =
    unless (leb (literal_of count) marks && ltb (length refutation / 2) starts) 6
    (unless ((eqb l 0 && eqb (length refutation) 0) || eqb (refused_step g count l refutation) 0) 14 0)

-- the answer on a refutation of literal l of the graph g
pub record Decided (g : List ℕ) (count l : ℕ) (refutation : List ℕ) (marks starts : ℕ) (r : Checked) : Type 0 where
  pub number_is : r.number ≡ decision g count l refutation marks starts
  pub step_is : r.step ≡ cond (eqb r.number 14) (refused_step g count l refutation) 0

-- The question is asked first: its graph, table and bits, before and after. If it is refused, so is the refutation; else the refutation is one of its
-- literal. marks and starts are the lengths of the lent memory.
pub record Answered (ws : List ℕ) (n a : ℕ) (ws' : List ℕ) (m b hi lo : ℕ) (refutation g g' table table' bits bits' : List ℕ) (marks starts : ℕ)
    (r : Checked) : Type 0 where
  pub asked : Asked
  pub question : question.Answered ws n a ws' m b hi lo g g' table table' bits bits' asked
  pub refused : (asked.number ≡ 0 → ⊥) → (r.number ≡ asked.number) × (r.step ≡ 0)
  pub decided : asked.number ≡ 0 → Decided g' asked.count asked.literal refutation marks starts r
  pub equal : r.number ≡ 0 → EqualBits ws a ws' b hi lo
