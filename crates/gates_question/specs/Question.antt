-- Whether bits hi to lo of a node of one pool and of a node of another differ, as one literal of a graph: what is asked for, and what is answered.
use Rattle.std.specs.Prelude.{Bool, true, not, ◌&&◌, List, ◌≡◌, ℕ, suc, ◌+◌, ◌-◌, ◌*◌, ◌/◌, ◌%◌, ◌^◌, ◌≤◌, eqb, leb, ltb, length, Result}
use Rattle.std.specs.declared.result.Result.TheVariants.{Ok, Err}
use Rattle.facts.specs.declared.Refusal.{Refusal}
use Rattle.facts.specs.Answer.{code}
use Rattle.facts.specs.Refuse.{unless, by_number}
use Rattle.terms.specs.Value.{value}
use Rattle.pool.specs.Rules.{pool_ok, of_width}
use Rattle.pool.specs.Unfold.{unfold_at}
use Rattle.gates.specs.Graph.{truth, graph_ok}
use Rattle.gates.specs.Grow.{Under}
use Rattle.gates_pool.specs.Bits.{Start}
use Rattle.gates_pool.specs.Gates.{gates_in}
use Rattle.gates_build.specs.declared.Made.{Made}
use Rattle.gates_question.specs.declared.Room.{Room}

-- what C is given of the room that two pools need: a number of README's table, and how many gates and places of literals
pub record RoomGiven : Type 0 where
  pub number : ℕ
  pub gates : ℕ
  pub places : ℕ

abbrev pub room : Result Room Refusal → RoomGiven
room (Ok r) = record { number = 0; gates = r.gates; places = r.places }
room (Err r) = record { number = code r; gates = 0; places = 0 }

-- and of a question: a number of README's table, the gates that were made, and the literal
pub record Asked : Type 0 where
  pub number : ℕ
  pub count : ℕ
  pub literal : ℕ

abbrev pub asked : Result Made Refusal → Asked
asked (Ok m) = record { number = 0; count = m.count; literal = m.literal }
asked (Err r) = record { number = code r; count = 0; literal = 0 }

-- bits hi to lo of a number, as Extract takes them
abbrev pub bits_of : (hi lo v : ℕ) → ℕ
bits_of hi lo v = v / 2 ^ lo % 2 ^ suc (hi - lo)

-- whether they differ, of node a and node b, at a start
abbrev pub differ_at : (ℕ → ℕ) → (ws : List ℕ) (a : ℕ) (ws' : List ℕ) (b hi lo : ℕ) → Bool
differ_at start ws a ws' b hi lo = not (eqb (bits_of hi lo (value start (unfold_at ws a))) (bits_of hi lo (value start (unfold_at ws' b))))

-- the gates of both pools and four for each of 128 bits; the places of all nodes and of one more
abbrev pub gates_of_two : (ws : List ℕ) (count : ℕ) (ws' : List ℕ) (count' : ℕ) → ℕ
gates_of_two ws count ws' count' = gates_in ws count + gates_in ws' count' + 512

abbrev pub places_of_two : (count count' : ℕ) → ℕ
places_of_two count count' = 129 * (count + count' + 1)

-- 1 for either pool, else what follows
abbrev pub pools_number : (ws : List ℕ) (count : ℕ) (ws' : List ℕ) (count' rest : ℕ) → ℕ
pools_number ws count ws' count' rest = unless (pool_ok ws count) 1 (unless (pool_ok ws' count') 1 rest)

pub record RoomIs (ws : List ℕ) (count : ℕ) (ws' : List ℕ) (count' : ℕ) (r : RoomGiven) : Type 0 where
  pub number_is : r.number ≡ pools_number ws count ws' count' 0
  pub gates_is : r.gates ≡ by_number r.number (gates_of_two ws count ws' count')
  pub places_is : r.places ≡ by_number r.number (places_of_two count count')

-- the most gates that a graph has: its literals have 32 bits
abbrev pub most_gates : ℕ
most_gates = 2147479551

-- 5 for either node, 13 for the bits, 6 for a graph or places that are too short
unfoldable pub question_number : (ws : List ℕ) (count a : ℕ) (ws' : List ℕ) (count' b hi lo graph bits : ℕ) → ℕ
question_number ws count a ws' count' b hi lo graph bits =
    pools_number ws count ws' count'
    (unless (of_width ws count a 128) 5
    (unless (of_width ws' count' b 128) 5
    (unless (leb lo hi && ltb hi 128) 13
    (unless (leb (gates_of_two ws count ws' count') graph && leb (gates_of_two ws count ws' count') most_gates && leb (places_of_two count count') bits) 6 0))))

-- a graph of so many gates, and a literal of it that is true at a start exactly when the bits differ
pub record Asks (ws : List ℕ) (a : ℕ) (ws' : List ℕ) (b hi lo : ℕ) (g : List ℕ) (count literal : ℕ) : Type 0 where
  pub good : graph_ok g count ≡ true
  pub under : Under literal count
  pub is : (start : ℕ → ℕ) → Start start → truth start g literal ≡ differ_at start ws a ws' b hi lo

-- with a refusal, nothing is written
pub record Answered (ws : List ℕ) (count a : ℕ) (ws' : List ℕ) (count' b hi lo : ℕ) (g g' table table' bits bits' : List ℕ) (r : Asked) : Type 0 where
  pub number_is : r.number ≡ question_number ws count a ws' count' b hi lo (length g) (length bits)
  pub refused : (r.number ≡ 0 → ⊥) → (r.count ≡ 0) × (r.literal ≡ 0) × (g' ≡ g) × (table' ≡ table) × (bits' ≡ bits)
  pub done : r.number ≡ 0 → Asks ws a ws' b hi lo g' r.count r.literal
  pub few : r.count ≤ gates_of_two ws count ws' count'
  pub graph_size : length g' ≡ length g
