-- Lists in the words that begin with their length: their place, what follows them; and a list after one more of its words. Assumes nothing.
use mathlib.Core.Path.{◌≡◌, refl, sym, ap, ◌∙◌}
use mathlib.Core.Bool.{Bool, true, false, cond, ◌&&◌, ◌||◌}
use mathlib.Core.List.{List, [], ◌∷◌}
use Prim.Native.Nat.{ℕ, zero, suc, ◌+◌, ◌-◌, ◌*◌, ◌/◌, ◌≤◌, ◌<◌}
use native.Mathlib.Nat.{add-zero, zero-add, suc-add}
use native.Mathlib.Numerals.{add-one}
use native.Mathlib.Omega.{arith}
use lib.Dec.{ltb, eqb}
use lib.ListN.{length, get_or, take, drop, length-drop}
use lib.Seq.{slice, take-nil, get_or-drop, drop-drop}
use borrow.Author.Tests.{ltb-true}
use Rattle.std.proofs.Common.{drop-cons}
use Rattle.std.proofs.lemmas.List.{at_drop_all}
use Rattle.std.proofs.lemmas.Slice.{between_is}
use Rattle.facts.proofs.Tests.{and_both}
use Rattle.gates.specs.Grow.{negated}
use Rattle.refutation.specs.Refutation.{kept, remains, whole, listed, after, among, all_below}
use Rattle.refutation_hints.specs.Memory.{skipped}

-- the negated has the same variable
pub negated-low : (l v m : ℕ) → l / 2 < v → 2 * v ≤ m → negated l < m
negated-low l v m h k = omega arith

slice-take : (f n : ℕ) (l : List ℕ) → slice f (f + n) l ≡ take n (drop f l)
slice-take zero n l = rw (zero-add n) refl
slice-take (suc f) n [] = rw (suc-add f n) (sym (take-nil n))
slice-take (suc f) n (x ∷ l) = rw (suc-add f n) (slice-take f n l)

pub length_at : (ws : List ℕ) (at : ℕ) → get_or (drop at ws) 0 0 ≡ get_or ws at 0
length_at ws at = get_or-drop at ws 0 0 ∙ ap (λ (i : ℕ). get_or ws i 0) (add-zero at)

-- the list at a place
pub listed_at : (ws : List ℕ) (at : ℕ) → listed (drop at ws) ≡ slice (at + 1) (skipped ws at) ws
listed_at ws at =
    let n = get_or ws at 0 in
    let e : at + 1 + n ≡ at + n + 1 = omega arith in
    (λ i. take (length_at ws at i) (drop-drop 1 at ws i)) ∙ sym (slice-take (at + 1) n ws) ∙ ap (λ (t : ℕ). slice (at + 1) t ws) e

-- what follows it
pub after-at : (ws : List ℕ) (at : ℕ) → after (drop at ws) ≡ drop (skipped ws at) ws
after-at ws at =
    let n = get_or ws at 0 in
    let e : at + (n + 1) ≡ at + n + 1 = omega arith in
    ap (λ (m : ℕ). drop (m + 1) (drop at ws)) (length_at ws at) ∙ drop-drop (n + 1) at ws ∙ ap (λ (t : ℕ). drop t ws) e

-- whether it is there
pub whole-at : (ws : List ℕ) (at : ℕ) → whole (drop at ws) ≡ ltb (get_or ws at 0) (length ws - at)
whole-at ws at = λ i. ltb (length_at ws at i) (length-drop at ws i)

pub whole-fits : (ws : List ℕ) (at : ℕ) → whole (drop at ws) ≡ true → skipped ws at ≤ length ws
whole-fits ws at h = let l = ltb-true (get_or ws at 0) (length ws - at) (sym (whole-at ws at) ∙ h) in omega arith

-- as the loop over a list's words has it
pub listed-here : (ws : List ℕ) (at n : ℕ) → n ≡ get_or ws at 0 → take (at + n + 1 - (at + 1)) (drop (at + 1) ws) ≡ listed (drop at ws)
listed-here ws at n e = between_is ws (at + 1) (at + n + 1) ∙ rw e (sym (listed_at ws at))

-- one more word of a list
pub remains-one :
    (isFalse : ℕ → Bool) (left : ℕ) (xs : List ℕ) (i : ℕ) → i < length xs
    → remains isFalse left (drop i xs) ≡ remains isFalse (cond (isFalse (get_or xs i 0)) left (kept left (get_or xs i 0))) (drop (i + 1) xs)
unfolding remains
remains-one isFalse left xs i h = rw (add-one, drop-cons xs i 0 h) refl

pub below_one : (n : ℕ) (xs : List ℕ) (i : ℕ) → i < length xs → all_below n (drop i xs) ≡ (ltb (get_or xs i 0) n && all_below n (drop (i + 1) xs))
unfolding all_below
below_one n xs i h = rw (add-one, drop-cons xs i 0 h) refl

-- all are below, so this one is, and those after it
pub below-parts :
    (n : ℕ) (xs : List ℕ) (i : ℕ) → i < length xs → all_below n (drop i xs) ≡ true → (get_or xs i 0 < n) × (all_below n (drop (i + 1) xs) ≡ true)
below-parts n xs i h e =
    let p = and_both (ltb (get_or xs i 0) n) (all_below n (drop (i + 1) xs)) (sym (below_one n xs i h) ∙ e) in
    (ltb-true (get_or xs i 0) n p.0, p.1)

pub among_one : (xs : List ℕ) (i x : ℕ) → i < length xs → among (drop i xs) x ≡ (eqb x (get_or xs i 0) || among (drop (i + 1) xs) x)
unfolding among
among_one xs i x h = rw (add-one, drop-cons xs i 0 h) refl

-- at its end
pub remains-end : (isFalse : ℕ → Bool) (left : ℕ) (xs : List ℕ) (i : ℕ) → length xs ≤ i → remains isFalse left (drop i xs) ≡ left
unfolding remains
remains-end isFalse left xs i h = at_drop_all (remains isFalse left) xs i h

pub below_end : (n : ℕ) (xs : List ℕ) (i : ℕ) → length xs ≤ i → all_below n (drop i xs) ≡ true
unfolding all_below
below_end n xs i h = at_drop_all (all_below n) xs i h

pub among-end : (xs : List ℕ) (i x : ℕ) → length xs ≤ i → among (drop i xs) x ≡ false
unfolding among
among-end xs i x h = at_drop_all (λ ys. among ys x) xs i h
