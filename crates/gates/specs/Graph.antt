-- And-inverter graphs (as in the AIGER format): every gate is the conjunction of two literals.
use Rattle.std.specs.Prelude.{Bool, true, false, cond, not, ◌&&◌, List, ◌≡◌, ℕ, zero, suc, ◌+◌, ◌-◌, ◌*◌, ◌/◌, ◌%◌, ◌^◌, ◌≤◌, ◌<◌, ltb, eqb, length, get_or}

-- Variable 0 is the constant false, variable 1 + 128 r + j is bit j of register r, variable 4,097 + k is gate k.
abbrev pub inputs : ℕ
inputs = 4097

-- a literal: its variable, and whether it is inverted
abbrev pub variable : ℕ → ℕ
variable l = l / 2

abbrev pub inverted : ℕ → Bool
inverted l = eqb (l % 2) 1

-- word k of a graph: the two literals of gate k
abbrev pub gate_word : (a b : ℕ) → ℕ
gate_word a b = a + 4294967296 * b

abbrev pub left_of : ℕ → ℕ
left_of w = w % 4294967296

abbrev pub right_of : ℕ → ℕ
right_of w = w / 4294967296

abbrev pub left_at : List ℕ → ℕ → ℕ
left_at g k = left_of (get_or g k 0)

abbrev pub right_at : List ℕ → ℕ → ℕ
right_at g k = right_of (get_or g k 0)

-- x, inverted if i
abbrev pub flip : Bool → Bool → Bool
flip true x = not x
flip false x = x

-- the constant and the registers' bits at a start
unfoldable pub input_truth : (ℕ → ℕ) → ℕ → Bool
input_truth start zero = false
input_truth start (suc v) = eqb (start (v / 128) / 2 ^ (v % 128) % 2) 1

-- an operand comes before its gate; one that does not is false
abbrev pub earlier : Bool → Bool → Bool
earlier true x = x
earlier false x = false

-- the truth of a variable at a start, at most f gates deep
unfoldable pub variable_to : ℕ → (ℕ → ℕ) → List ℕ → ℕ → Bool
variable_to zero start g v = false
variable_to (suc f) start g v =
    let a = left_at g (v - inputs) in
    let b = right_at g (v - inputs) in
    cond (ltb v inputs) (input_truth start v)
    (flip (inverted a) (earlier (ltb (variable a) v) (variable_to f start g (variable a)))
    && flip (inverted b) (earlier (ltb (variable b) v) (variable_to f start g (variable b))))

-- operands have smaller variables, so v + 1 levels are enough
unfoldable pub variable_truth : (ℕ → ℕ) → List ℕ → ℕ → Bool
variable_truth start g v = variable_to (suc v) start g v

-- the truth of a literal at a start
abbrev pub truth : (ℕ → ℕ) → List ℕ → ℕ → Bool
truth start g l = flip (inverted l) (variable_truth start g (variable l))

-- both literals of each of the first `count` gates come before it, and the graph has so many words
abbrev pub gate_ok : List ℕ → ℕ → Bool
gate_ok g k = ltb (variable (left_at g k)) (inputs + k) && ltb (variable (right_at g k)) (inputs + k)

unfoldable pub gates_ok : List ℕ → ℕ → Bool
gates_ok g zero = true
gates_ok g (suc k) = gates_ok g k && gate_ok g k

unfoldable pub graph_ok : List ℕ → ℕ → Bool
graph_ok g count = ltb count (suc (length g)) && gates_ok g count
