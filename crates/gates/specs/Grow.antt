-- A graph that grows by gates: what is kept, and what a builder of a literal says.
use Rattle.std.specs.Prelude.{Bool, true, List, ◌≡◌, ℕ, ◌+◌, ◌-◌, ◌*◌, ◌/◌, ◌%◌, ◌≤◌, ◌<◌, length, get_or}
use Rattle.gates.specs.Graph.{inputs, truth, gates_ok}

-- the literal of gate k, and the other literal of a variable
abbrev pub literal_of : ℕ → ℕ
literal_of k = 2 * (inputs + k)

abbrev pub negated : ℕ → ℕ
negated l = l / 2 * 2 + (1 - l % 2)

-- l is a literal of a graph with k gates
abbrev pub Under : ℕ → ℕ → Type 0
Under l k = l < 2 * (inputs + k)

-- room for m gates after the first k, with literals of 32 bits
pub record Room (g : List ℕ) (k m : ℕ) : Type 0 where
  pub words : k + m ≤ length g
  pub numbers : k + m ≤ 2147479551

-- from old with k gates to new with k': the first k words are as they were, and gates that come after their operands still do
pub record Grown (old : List ℕ) (k : ℕ) (new : List ℕ) (k' : ℕ) : Type 0 where
  pub long : length new ≡ length old
  pub more : k ≤ k'
  pub kept : (i : ℕ) → i < k → get_or new i 0 ≡ get_or old i 0
  pub valid : gates_ok old k ≡ true → gates_ok new k' ≡ true

-- a builder of at most m gates: its answer r is a literal whose truth at every start is f of it
pub record Builds (old : List ℕ) (k : ℕ) (new : List ℕ) (r k' m : ℕ) (f : (ℕ → ℕ) → Bool) : Type 0 where
  pub grown : Grown old k new k'
  pub most : k' ≤ k + m
  pub under : Under r k'
  pub is : (start : ℕ → ℕ) → truth start new r ≡ f start
