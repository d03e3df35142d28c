-- The lent memory: for each literal a mark, the number of the last step that set it false; for each step the place of its clause in the words.
use Rattle.std.specs.Prelude.{Bool, true, cond, ◌||◌, List, [], ◌∷◌, ◌++◌, ◌≡◌, ℕ, zero, suc, ◌+◌, ◌/◌, ◌≤◌, ◌<◌, eqb, length, get_or, drop}
use Rattle.gates.specs.Graph.{inputs, graph_ok}
use Rattle.gates.specs.Grow.{literal_of}
use Rattle.refutation.specs.Refutation.{whole, listed, among, all_below}

-- whether step k has set x false
abbrev pub marked : (marks : List ℕ) (k : ℕ) → ℕ → Bool
marked marks k x = eqb (get_or marks x 0) k

-- no mark is of a step after k
abbrev pub AtMost : ℕ → List ℕ → Type 0
AtMost k marks = (x : ℕ) → get_or marks x 0 ≤ k

-- all marks are of steps before k
abbrev pub Before : ℕ → List ℕ → Type 0
Before k marks = (x : ℕ) → get_or marks x 0 < k

-- the literals of a clause get the mark and no others do; if one is not below the limit, marking stops there
pub record Marking (clause : List ℕ) (limit : ℕ) (marks : List ℕ) (k : ℕ) (r : Bool) (new : List ℕ) : Type 0 where
  pub answer : r ≡ all_below limit clause
  pub marks_are : r ≡ true → (x : ℕ) → marked new k x ≡ (among clause x || marked marks k x)
  pub at_most : AtMost k new

-- the place after a list that begins with its length
abbrev pub skipped : List ℕ → ℕ → ℕ
skipped ws at = at + get_or ws at 0 + 1

-- a step is two lists: its clause and its hints
abbrev pub after_step : List ℕ → ℕ → ℕ
after_step ws at = skipped ws (skipped ws at)

-- the clause of step j: the assumption for step 0, else the list at its place
abbrev pub clause_at : (ws starts : List ℕ) (l j : ℕ) → List ℕ
clause_at ws starts l j = cond (eqb j 0) (l ∷ []) (listed (drop (get_or starts j 0) ws))

-- the clauses of the steps before k
unfoldable pub clauses_to : (ws starts : List ℕ) (l k : ℕ) → List (List ℕ)
clauses_to ws starts l zero = []
clauses_to ws starts l (suc k) = clauses_to ws starts l k ++ (clause_at ws starts l k ∷ [])

-- there is a clause at a place, with literals of the graph
abbrev pub ClauseOk : (count : ℕ) (ws : List ℕ) (at : ℕ) → Type 0
ClauseOk count ws at = (whole (drop at ws) ≡ true) × (all_below (literal_of count) (listed (drop at ws)) ≡ true)

-- what step k may rely on
pub record Ready (g : List ℕ) (count l : ℕ) (ws starts : List ℕ) (k : ℕ) (marks : List ℕ) : Type 0 where
  pub good : graph_ok g count ≡ true
  pub literal : l / 2 < inputs + count
  pub room : length marks ≡ literal_of count
  pub places : k ≤ length starts
  pub placed : (j : ℕ) → 0 < j → j < k → ClauseOk count ws (get_or starts j 0)
