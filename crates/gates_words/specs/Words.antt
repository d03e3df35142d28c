-- What circuits of words read and write.
use Rattle.std.specs.Prelude.{Bool, List, ◌⊎◌, ◌≡◌, ℕ, ◌+◌, ◌≤◌, ◌<◌, length, get_or, set}
use Rattle.gates.specs.Grow.{Grown, Builds, Under}
use Rattle.gates_words.specs.Number.{number}

-- the w literals at a place are literals of a graph with k gates
abbrev pub Low : (bits : List ℕ) (at w k : ℕ) → Type 0
Low bits at w k = (j : ℕ) → j < w → Under (get_or bits (at + j) 0) k

-- a word that is read
pub record Reads (bits : List ℕ) (at w k : ℕ) : Type 0 where
  pub inside : at + w ≤ length bits
  pub low : Low bits at w k

-- an operand of a circuit that writes w literals from `out` on, the lowest first: what is not read yet is not written over
pub record Operand (bits : List ℕ) (at out w k : ℕ) : Type 0 where
  pub apart : (at + w ≤ out) ⊎ (out ≤ at)
  pub inside : at + w ≤ length bits
  pub low : Low bits at w k

-- w places are written: literal h j at place out + j
pub record Puts (old new : List ℕ) (out w : ℕ) (h : ℕ → ℕ) : Type 0 where
  pub size : length new ≡ length old
  pub before : (p : ℕ) → p < out → get_or new p 0 ≡ get_or old p 0
  pub after : (p : ℕ) → out + w ≤ p → get_or new p 0 ≡ get_or old p 0
  pub at : (j : ℕ) → j < w → get_or new (out + j) 0 ≡ h j

-- a builder's literal is put at a place
abbrev pub Put : (g : List ℕ) (k : ℕ) (bits g' : List ℕ) (k' : ℕ) (bits' : List ℕ) (at m : ℕ) (t : (ℕ → ℕ) → Bool) → Type 0
Put g k bits g' k' bits' at m t = (l : ℕ) × (bits' ≡ set bits at l) × Builds g k g' l k' m t

-- w literals are written from `out` on, with at most m gates, and nothing else
pub record Run (g : List ℕ) (k : ℕ) (bits g' : List ℕ) (k' : ℕ) (bits' : List ℕ) (out w m : ℕ) : Type 0 where
  pub grown : Grown g k g' k'
  pub most : k' ≤ k + m
  pub size : length bits' ≡ length bits
  pub before : (p : ℕ) → p < out → get_or bits' p 0 ≡ get_or bits p 0
  pub after : (p : ℕ) → out + w ≤ p → get_or bits' p 0 ≡ get_or bits p 0
  pub low : Low bits' out w k'

-- and their number at every start is f of it
pub record Writes (g : List ℕ) (k : ℕ) (bits g' : List ℕ) (k' : ℕ) (bits' : List ℕ) (out w m : ℕ) (f : (ℕ → ℕ) → ℕ) : Type 0 where
  pub run : Run g k bits g' k' bits' out w m
  pub is : (start : ℕ → ℕ) → number start g' bits' out w ≡ f start
