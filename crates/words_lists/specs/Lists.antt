-- What is proved of lists of words and records, in proofs/Lists.antt: reading what was written gives the records, and writing what was
-- read gives the bytes.
use Rattle.std.specs.Prelude.{List, ◌≡◌, ℕ, ◌*◌, ◌/◌, ◌≤◌, ◌<◌, length, get_or, take}
use Rattle.neon.specs.Refusal.{refusal}
use Rattle.words_lists.specs.Words.{read_refusal, records_in, write_refusal, words_in}

-- fs are flat numbers, six a record; those after the last whole record are not read
abbrev pub ReadsWritten : Type 0
ReadsWritten =
    (fs : List ℕ) (room : ℕ) → (write_refusal fs room).number ≡ 0 → (room' : ℕ) → 6 * (length fs / 6) ≤ room'
    → (read_refusal (words_in fs) room' ≡ refusal 0 0) × (records_in (words_in fs) ≡ take (6 * (length fs / 6)) fs)

-- bs are bytes
abbrev pub WritesRead : Type 0
WritesRead =
    (bs : List ℕ) → ((j : ℕ) → get_or bs j 0 < 256) → (room : ℕ) → (read_refusal bs room).number ≡ 0 → (room' : ℕ) → length bs ≤ room'
    → (write_refusal (records_in bs) room' ≡ refusal 0 0) × (words_in (records_in bs) ≡ bs)
