-- Which operations narrow, by number; and the bits that are made. Assumes nothing.
use mathlib.Core.Path.{◌≡◌, refl, sym, ap, ◌∙◌}
use mathlib.Core.Bool.{Bool, true, false, ◌&&◌, ◌||◌, false≢true}
use mathlib.Core.List.{List}
use Prim.Native.Nat.{ℕ, ◌≤◌, ◌<◌}
use native.Mathlib.Omega.{arith}
use lib.Dec.{leb}
use lib.ListN.{get_or}
use borrow.Author.Tests.{le-leb, lt-leb}
use Rattle.facts.proofs.Table.{tabulate, entry}
use Rattle.neon.specs.Op.{op_at, operations, bits_if}
use Rattle.neon.specs.Form.{Lanes, Same, Narrow, Long, form, is_narrow, made_bits, flag}

abbrev narrow : ℕ → Bool
narrow k = is_narrow (form (op_at k)).lanes

-- 27 to 37, and from 64 on
abbrev numbered : ℕ → Bool
numbered k = leb 27 k && leb k 37 || leb 64 k

flag-inj : (a b : Bool) → flag a 1 ≡ flag b 1 → a ≡ b
flag-inj true true e = refl
flag-inj true false e = absurd (omega arith)
flag-inj false true e = absurd (omega arith)
flag-inj false false e = refl

narrow-number : (k : ℕ) → k ≤ 67 → narrow k ≡ numbered k
unfolding tabulate op_at operations
narrow-number k h =
    let same : tabulate (λ j. flag (narrow j) 1) 0 68 ≡ tabulate (λ j. flag (numbered j) 1) 0 68 = refl in
    flag-inj (narrow k) (numbered k)
    (sym (entry (λ j. flag (narrow j) 1) 68 k (omega arith))
    ∙ ap (λ (l : List ℕ). get_or l k 0) same
    ∙ entry (λ j. flag (numbered j) 1) 68 k (omega arith))

module _ (k : ℕ) (h : k ≤ 67) where
  pub low : k < 27 → false ≡ narrow k
  low l = sym (narrow-number k h ∙ rw (lt-leb 27 k l, lt-leb 64 k (omega arith)))

  pub middle : 27 ≤ k → k < 38 → true ≡ narrow k
  middle l u = sym (narrow-number k h ∙ rw (le-leb 27 k l, le-leb k 37 (omega arith)))

  pub high : 38 ≤ k → leb 64 k ≡ narrow k
  high l = sym (narrow-number k h ∙ rw (le-leb 27 k (omega arith), lt-leb k 37 (omega arith)))

pub made-half : (l : Lanes) (full : Bool) → is_narrow l ≡ true → made_bits l full ≡ 64
made-half Same full e = absurd (false≢true e)
made-half Narrow full e = refl
made-half (Long u) full e = absurd (false≢true e)

pub made_all : (l : Lanes) (full : Bool) → is_narrow l ≡ false → made_bits l full ≡ bits_if full
made_all Same full e = refl
made_all Narrow full e = absurd (false≢true (sym e))
made_all (Long u) full e = refl
