-- What writing asks of a buffer and leaves in it.
use Rattle.std.specs.Prelude.{List, ◌≡◌, ℕ, ◌+◌, ◌≤◌, length}
use Rattle.std.proofs.lemmas.List.Edits.{sets}

-- the buffer l has room for the text s at i
pub record Room (l : List ℕ) (i : ℕ) (s : List ℕ) : Type 0 where
  pub room : i + length s ≤ length l

-- the text s was written into the buffer `before` at `at`: what the buffer then holds, and the place after it
pub record Wrote (before : List ℕ) (at : ℕ) (s : List ℕ) (next : ℕ) (after : List ℕ) : Type 0 where
  pub next_is : next ≡ at + length s
  pub after_is : after ≡ sets before at s
