-- Asking the length apart (document 02, S-10): of the two answers for the same pool, count and node, the bytes that `write_text` writes
-- agree with the length that `text_length` reports up to its ceiling.
use Rattle.std.specs.Prelude.{List, ◌++◌, ◌≡◌, ℕ, ◌+◌, min, ◌≤◌, ◌<◌, length, drop}
use Rattle.text_parts.specs.Text.{text}
use Rattle.text_length.specs.Answer.{Measured}
use Rattle.text.specs.Answer.{Answered}

-- if a text of `len` bytes is written, the length that is reported is `len`, up to the ceiling
abbrev pub WrittenMeasured : Type 0
WrittenMeasured =
    (ws : List ℕ) (count n : ℕ) (old : List ℕ) (number len : ℕ) (new : List ℕ) → Answered ws count n old number len new → number ≡ 0
    → (ceiling number' len' : ℕ) → Measured ws count n ceiling number' len'
    → (number' ≡ 0) × (len' ≡ min len (ceiling + 1))

-- if a length up to the ceiling is reported, a buffer of so many bytes or more takes the text, and the text has so many
abbrev pub MeasuredWritten : Type 0
MeasuredWritten =
    (ws : List ℕ) (count n ceiling number' len' : ℕ) → Measured ws count n ceiling number' len' → number' ≡ 0 → len' ≤ ceiling
    → (old : List ℕ) (number len : ℕ) (new : List ℕ) → Answered ws count n old number len new → len' ≤ length old
    → (number ≡ 0) × (len ≡ len') × (length (text ws n) ≡ len') × (new ≡ text ws n ++ drop len' old)

-- a buffer of fewer bytes than the length that is reported gets 9, and is as it was
abbrev pub ShorterRefused : Type 0
ShorterRefused =
    (ws : List ℕ) (count n ceiling number' len' : ℕ) → Measured ws count n ceiling number' len' → number' ≡ 0
    → (old : List ℕ) (number len : ℕ) (new : List ℕ) → Answered ws count n old number len new → length old < len'
    → (number ≡ 9) × (len ≡ 0) × (new ≡ old)
