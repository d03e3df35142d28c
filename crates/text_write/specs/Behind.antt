-- What writing leaves in a buffer that is behind a reference.
use Rattle.std.specs.Prelude.{List, ◌≡◌, ℕ}
use denote.Ref.{MutBor, at_last}
use Rattle.text_digits.specs.Writing.{Wrote}

-- the text s was written into the buffer `before` at `at`, `next` is the place after it, and `after` is that same buffer
pub record WroteBehind (before : MutBor (List ℕ)) (at : ℕ) (s : List ℕ) (next : ℕ) (after : MutBor (List ℕ)) : Type 0 where
  pub wrote : Wrote before.now at s next after.now
  pub same : after ≡ at_last before after.now
