-- What a circuit of words says: what stays, and the word that it makes.
use Rattle.std.specs.Prelude.{List, ◌≡◌, ℕ, ◌+◌, ◌≤◌, ◌<◌, length, get_or}
use Rattle.gates.specs.Grow.{Grown}
use Rattle.gates_words.specs.Number.{number}
use Rattle.gates_words.specs.Words.{Low}

-- from a graph g of k gates to a graph g' of k', at most m more; of the literals, those below `out` are as they were
pub record From (g : List ℕ) (k : ℕ) (bits g' : List ℕ) (k' : ℕ) (bits' : List ℕ) (out m : ℕ) : Type 0 where
  pub grown : Grown g k g' k'
  pub most : k' ≤ k + m
  pub size : length bits' ≡ length bits
  pub before : (p : ℕ) → p < out → get_or bits' p 0 ≡ get_or bits p 0

-- the w literals at a place are literals of the graph, and their number at every start is f of it
pub record Word (g : List ℕ) (k : ℕ) (bits : List ℕ) (at w : ℕ) (f : (ℕ → ℕ) → ℕ) : Type 0 where
  pub inside : at + w ≤ length bits
  pub low : Low bits at w k
  pub is : (start : ℕ → ℕ) → number start g bits at w ≡ f start

-- a circuit makes the word f at `out`
pub record Makes (g : List ℕ) (k : ℕ) (bits g' : List ℕ) (k' : ℕ) (bits' : List ℕ) (out w m : ℕ) (f : (ℕ → ℕ) → ℕ) : Type 0 where
  pub goes : From g k bits g' k' bits' out m
  pub word : Word g' k' bits' out w f

-- two words that end at or before `out`, and their literals
pub record Two (bits : List ℕ) (a b out w k : ℕ) : Type 0 where
  pub first : a + w ≤ out
  pub second : b + w ≤ out
  pub low_a : Low bits a w k
  pub low_b : Low bits b w k
