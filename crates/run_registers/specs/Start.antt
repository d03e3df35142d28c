-- The 32 registers of a text, v0 first: 32 digits each, blanks and newlines before, between and after; then the line of the last ends.
use Rattle.std.specs.Prelude.{Bool, true, false, cond, ◌&&◌, ◌||◌, List, [], ◌∷◌, ◌≡◌, ℕ, zero, suc, ◌+◌, ◌≤◌, eqb, length, get_or, drop}
use Rattle.std.proofs.lemmas.List.Edits.{sets}
use Rattle.neon.specs.Refusal.{Refusal, refusal, first_of, first_refusal}
use Rattle.text_series.specs.Series.{up_to}
use Rattle.run_registers.specs.declared.Start.{Start}
use Rattle.run_registers.specs.Digits.{hex_at, all_hex}

-- a blank, and a newline where it counts as one
abbrev pub is_gap : (newlines : Bool) → ℕ → Bool
is_gap newlines b = eqb b 32 || (newlines && eqb b 10)

-- how long the gap is with which a text begins
unfoldable pub gap : (newlines : Bool) → List ℕ → ℕ
gap newlines [] = 0
gap newlines (b ∷ s) = cond (is_gap newlines b) (suc (gap newlines s)) 0

-- the place after the gap at `at`
abbrev pub skip : (newlines : Bool) → List ℕ → ℕ → ℕ
skip newlines bs at = at + gap newlines (drop at bs)

-- the place after the first r registers, and that of register r
unfoldable pub after : List ℕ → ℕ → ℕ
after bs zero = 0
after bs (suc r) = skip true bs (after bs r) + 32

abbrev pub place_of : List ℕ → ℕ → ℕ
place_of bs r = skip true bs (after bs r)

-- 32 digits, and a gap or nothing after them
unfoldable pub is_register : List ℕ → ℕ → Bool
is_register bs at = all_hex bs at 32 && is_gap true (get_or bs (at + 32) 10)

-- register r is there
abbrev pub is_there : List ℕ → ℕ → Bool
is_there bs r = is_register bs (place_of bs r)

-- where the line of the last register ends, if only blanks stand there
abbrev pub line_end : List ℕ → ℕ
line_end bs = skip false bs (after bs 32)

-- 10 and 32 where the line goes on from `end`
abbrev pub line_refusal : List ℕ → (end : ℕ) → Refusal
line_refusal bs end = cond (eqb (get_or bs end 10) 10) (refusal 0 0) (refusal 10 32)

-- 10 and the first register that is not there; then that of the line
unfoldable pub start_refusal : List ℕ → Refusal
start_refusal bs = first_of (first_refusal (is_there bs) 10 32 0) (line_refusal bs (line_end bs))

-- two words a register, the low one, of its last 16 digits, first
abbrev pub pair_at : List ℕ → ℕ → List ℕ
pair_at bs at = hex_at bs (at + 16) 16 ∷ hex_at bs at 16 ∷ []

unfoldable pub start_words : List ℕ → (count : ℕ) → List ℕ
start_words bs count = up_to count λ r. pair_at bs (place_of bs r)

-- what follows the line of the last register
abbrev pub rest_of : List ℕ → List ℕ
rest_of bs = drop (line_end bs + 1) bs

-- the registers before a refused one were written
abbrev pub read_by : Refusal → ℕ
read_by r = cond (eqb r.number 0) 32 r.position

pub record StartRead (bs old : List ℕ) (r : Start) (new : List ℕ) : Type 0 where
  pub number_is : r.number ≡ (start_refusal bs).number
  pub position_is : r.position ≡ (start_refusal bs).position
  pub next_in : r.next ≤ length bs
  pub next_is : r.number ≡ 0 → drop r.next bs ≡ rest_of bs
  pub words_are : new ≡ sets old 0 (start_words bs (read_by (start_refusal bs)))

-- the line that goes on at `from` was read to its end
pub record LineRead (bs : List ℕ) (from : ℕ) (r : Start) : Type 0 where
  pub number_is : r.number ≡ (line_refusal bs (skip false bs from)).number
  pub position_is : r.position ≡ (line_refusal bs (skip false bs from)).position
  pub next_in : r.next ≤ length bs
  pub next_is : r.number ≡ 0 → drop r.next bs ≡ drop (skip false bs from + 1) bs
