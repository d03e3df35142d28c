-- Refutations of a literal of a graph, in the manner of LRAT without RAT and deletion: each clause follows from earlier ones by unit propagation.
use Rattle.std.specs.Prelude.{Bool, true, false, cond, ◌&&◌, ◌||◌, List, [], ◌∷◌, ◌++◌, ◌≡◌, ℕ, zero, suc, ◌+◌, ◌-◌, ◌/◌, ◌%◌, ltb, leb, eqb, length, get_or, take, drop}
use Rattle.facts.specs.Refuse.{unless}
use Rattle.gates.specs.Graph.{inputs, variable, left_at, right_at, truth, graph_ok}
use Rattle.gates.specs.Grow.{negated, literal_of}

-- Clause 0 of gate k: not the gate, or its left operand. Clause 1: not the gate, or its right operand.
-- Clause 2: the gate, or not its left operand, or not its right operand.
abbrev pub gate_clause : List ℕ → (k part : ℕ) → List ℕ
gate_clause g k part =
    cond (eqb part 0) (negated (literal_of k) ∷ left_at g k ∷ [])
    (cond (eqb part 1) (negated (literal_of k) ∷ right_at g k ∷ []) (literal_of k ∷ negated (left_at g k) ∷ negated (right_at g k) ∷ []))

-- What is left of a clause without its false literals: 0 if nothing is left, l + 2 if only the literal l is left, once or repeated,
-- 1 if different literals are left.
abbrev pub kept : (left l : ℕ) → ℕ
kept left l = cond (eqb left 0) (l + 2) (cond (eqb left (l + 2)) left 1)

unfoldable pub remains : (ℕ → Bool) → ℕ → List ℕ → ℕ
remains isFalse left [] = left
remains isFalse left (l ∷ clause) = remains isFalse (cond (isFalse l) left (kept left l)) clause

-- What is left of the clause that hint v cites: clause v % 4 of gate v / 4, or the clause of step v / 4 if v % 4 is 3; 1 if there is no such clause.
abbrev pub cited : (g : List ℕ) (count : ℕ) (steps : List (List ℕ)) → (ℕ → Bool) → ℕ → ℕ
cited g count steps isFalse v =
    cond (eqb (v % 4) 3) (cond (ltb (v / 4) (length steps)) (remains isFalse 0 (get_or steps (v / 4) [])) 1)
    (cond (ltb (v / 4) count) (remains isFalse 0 (gate_clause g (v / 4) (v % 4))) 1)

-- the false literals and l
abbrev pub and_false : (ℕ → Bool) → ℕ → ℕ → Bool
and_false isFalse l x = eqb x l || isFalse x

-- Whether the hints, in order, lead to a clause whose literals are all false. If one literal is left, its negation is false from then on; if
-- different literals are left, the answer is no. Hints after the conflict are not read.
unfoldable pub conflict : (g : List ℕ) (count : ℕ) (steps : List (List ℕ)) → (ℕ → Bool) → List ℕ → Bool
conflict g count steps isFalse [] = false
conflict g count steps isFalse (v ∷ hints) =
    let left = cited g count steps isFalse v in
    cond (eqb left 0) true (cond (eqb left 1) false (conflict g count steps (and_false isFalse (negated (left - 2))) hints))

-- a list that begins with its length: whether the words are enough for it, its entries, the words after it
abbrev pub whole : List ℕ → Bool
whole ws = ltb (get_or ws 0 0) (length ws)

abbrev pub listed : List ℕ → List ℕ
listed ws = take (get_or ws 0 0) (drop 1 ws)

abbrev pub after : List ℕ → List ℕ
after ws = drop (get_or ws 0 0 + 1) ws

unfoldable pub among : List ℕ → ℕ → Bool
among [] x = false
among (l ∷ clause) x = eqb x l || among clause x

unfoldable pub all_below : ℕ → List ℕ → Bool
all_below n [] = true
all_below n (l ∷ clause) = ltb l n && all_below n clause

-- A step is the list of its clause's literals, then the list of its hints. It is accepted if the literals are of the graph and the hints lead
-- to a conflict from these literals and literal 0, the constant, being false.
abbrev pub step_ok : (g : List ℕ) (count : ℕ) (steps : List (List ℕ)) (ws : List ℕ) → Bool
step_ok g count steps ws =
    whole ws && whole (after ws) && all_below (literal_of count) (listed ws) && conflict g count steps (and_false (among (listed ws)) 0) (listed (after ws))

-- The number of the first refused step, of at most f more steps; 0 if a step with an empty clause is accepted and all before it are.
-- Words after that step are not read.
unfoldable pub refused_from : (f : ℕ) (g : List ℕ) (count : ℕ) (steps : List (List ℕ)) (ws : List ℕ) → ℕ
refused_from zero g count steps ws = length steps
refused_from (suc f) g count steps ws =
    cond (step_ok g count steps ws)
    (cond (eqb (get_or ws 0 0) 0) 0 (refused_from f g count (steps ++ (listed ws ∷ [])) (after (after ws))))
    (length steps)

-- Step 0 is the assumption that l is true. A step has two words or more, so there are fewer steps than words.
unfoldable pub refused_step : (g : List ℕ) (count l : ℕ) (ws : List ℕ) → ℕ
refused_step g count l ws = refused_from (length ws) g count ((l ∷ []) ∷ []) ws

-- 1 for a bad graph, 5 for a literal that is not of the graph, 6 if the lent memory is too short, 14 for a refutation that is not accepted, else 0
abbrev pub refutation_number : (g : List ℕ) (count l : ℕ) (ws : List ℕ) (marks starts : ℕ) → ℕ
refutation_number g count l ws marks starts =
    unless (graph_ok g count) 1
    (unless (ltb (variable l) (inputs + count)) 5
    (unless (leb (literal_of count) marks && ltb (length ws / 2) starts) 6 (unless (eqb (refused_step g count l ws) 0) 14 0)))

-- a literal with an accepted refutation is false at every start
abbrev pub Refuted : Type 0
Refuted =
    (g : List ℕ) (count l : ℕ) (ws : List ℕ) (marks starts : ℕ) → refutation_number g count l ws marks starts ≡ 0 → (start : ℕ → ℕ) → truth start g l ≡ false
