-- What `write_script` writes, read by the standard (document 02, S-1): the statement of the theorem.
use Rattle.std.specs.Prelude.{List, ℕ, take}
use Rattle.script_meaning.specs.Demand.{ModelOf, Reads}
use Rattle.script_write.specs.Answer.{Answered}

-- with number 0 the bytes up to the length, in the model of any start, give every name its node's value, and their assertion holds
-- exactly when the values of nodes a and b differ
abbrev pub WrittenMeans : Type 0
WrittenMeans =
    (ws : List ℕ) (count a b : ℕ) (old : List ℕ) (len : ℕ) (new : List ℕ) → Answered ws count a b old 0 len new
    → (start : ℕ → ℕ) (model : List ℕ → ℕ) → ModelOf start model
    → Reads ws count a b (take len new) start model
