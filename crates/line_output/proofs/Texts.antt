-- The answers to a line: a text too long for its buffer, and a text between its number and its newline. Assumes nothing.
use mathlib.Core.List.{List, [], ◌∷◌, ◌++◌}
use mathlib.Core.Path.{◌≡◌, ap}
use Prim.Native.Nat.{ℕ, ◌≤◌, ◌<◌}
use lib.ListN.{length}
use borrow.Author.Tests.{le-leb, lt-leb}
use Rattle.text_digits.specs.Writing.{Wrote}
use Rattle.text_digits.proofs.Laws.{wrote_then}
use Rattle.line_columns.specs.Columns.{columns}
use Rattle.line_columns.proofs.Characters.{columns-are}
use Rattle.line_output.specs.Answer.{text_room, room_number, written}

pub length-columns : (x : ℕ) → x < 10000 → length (columns x) ≡ 4
length-columns x h = ap length (columns-are x h)

pub term-refused : {l m : List ℕ} {at r : ℕ} (s : List ℕ) → text_room < length s → Wrote l at (columns 9 ++ (10 ∷ [])) r m → Wrote l at (written (room_number s) s) r m
term-refused s h w = rw (lt-leb (length s) text_room h) w

pub term-done : {l m n o p : List ℕ} {at i j k r : ℕ} (s : List ℕ) → length s ≤ text_room → Wrote l at (columns 0) i m → Wrote m i (32 ∷ []) j n → Wrote n j s k o
    → Wrote o k (10 ∷ []) r p → Wrote l at (written (room_number s) s) r p
term-done s h a b c d = rw (le-leb (length s) text_room h) (wrote_then a (wrote_then b (wrote_then c d)))
