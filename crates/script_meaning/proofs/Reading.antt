-- What is written is read again: once for all s-expressions. Assumes nothing.
use mathlib.Core.Path.{◌≡◌, refl, ap, ◌∙◌}
use mathlib.Core.Bool.{Bool, true, false, ◌&&◌, false≢true}
use mathlib.Core.List.{List, [], ◌∷◌, ◌++◌, append_assoc}
use mathlib.Core.Option.{some}
use Prim.Native.Nat.{ℕ}
use Rattle.facts.proofs.Tests.{and_both}
use Rattle.script_meaning.specs.Sexp.{Sexp, word, list, Items, stop, ◌⨾◌, show, show_all, show_more, show_lines}
use Rattle.script_meaning.specs.Read.{is_plain, Reading, at, broken, parted, opened, read_byte, reading, whole, read}
use Rattle.script_meaning.specs.Values.{all}

-- words that are not empty, of plain characters
abbrev pub plain : List ℕ → Bool
plain [] = false
plain (c ∷ w) = all is_plain (c ∷ w)

unfoldable mutual
  pub fine : Sexp → Bool
  fine (word w) = plain w
  fine (list xs) = fine_all xs

  pub fine_all : Items → Bool
  fine_all stop = true
  fine_all (x ⨾ xs) = fine x && fine_all xs

spell : (w rest : List ℕ) (xs : Items) (out : List Items) → all is_plain w ≡ true → reading rest ≡ at [] xs out → reading (w ++ rest) ≡ at w xs out
unfolding reading
spell [] rest xs out h e = e
spell (c ∷ w) rest xs out h e =
    let p = and_both (is_plain c) (all is_plain w) h in
    ap (read_byte c) (spell w rest xs out p.1 e) ∙ rw p.0

mutual
  unfolding show fine reading

  shown : (s : Sexp) → fine s ≡ true → (rest : List ℕ) (xs : Items) (out : List Items) → reading rest ≡ at [] xs out
      → parted (reading (show s ++ rest)) ≡ at [] (s ⨾ xs) out
  shown (word []) h rest xs out e = absurd (false≢true h)
  shown (word (c ∷ w)) h rest xs out e = ap parted (spell (c ∷ w) rest xs out h e)
  shown (list ys) h rest xs out e =
      let inner = shown_all ys h (41 ∷ rest) (xs ∷ out) (ap (read_byte 41) e) in
      ap (λ (cs : List ℕ). parted (reading (40 ∷ cs))) (append_assoc (show_all ys) (41 ∷ []) rest)
      ∙ ap (λ (r : Reading). parted (opened r)) inner

  shown_all : (ys : Items) → fine_all ys ≡ true → (rest : List ℕ) (out : List Items) → reading rest ≡ at [] stop out
      → parted (reading (show_all ys ++ rest)) ≡ at [] ys out
  shown_all stop h rest out e = ap parted e
  shown_all (y ⨾ ys) h rest out e =
      let p = and_both (fine y) (fine_all ys) h in
      ap (λ (cs : List ℕ). parted (reading cs)) (append_assoc (show y) (show_more ys) rest)
      ∙ shown y p.0 (show_more ys ++ rest) ys out (shown_more ys p.1 rest out e)

  shown_more : (ys : Items) → fine_all ys ≡ true → (rest : List ℕ) (out : List Items) → reading rest ≡ at [] stop out
      → reading (show_more ys ++ rest) ≡ at [] ys out
  shown_more stop h rest out e = e
  shown_more (y ⨾ ys) h rest out e =
      let p = and_both (fine y) (fine_all ys) h in
      ap (λ (cs : List ℕ). parted (reading cs)) (append_assoc (show y) (show_more ys) rest)
      ∙ shown y p.0 (show_more ys ++ rest) ys out (shown_more ys p.1 rest out e)

lines : (xs : Items) → fine_all xs ≡ true → parted (reading (show_lines xs)) ≡ at [] xs []
unfolding show_lines reading fine
lines stop h = refl
lines (x ⨾ xs) h =
    let p = and_both (fine x) (fine_all xs) h in
    shown x p.0 (10 ∷ show_lines xs) xs [] (lines xs p.1)

whole-parted : (r : Reading) → whole r ≡ whole (parted r)
whole-parted (at w xs []) = refl
whole-parted (at w xs (ys ∷ out)) = refl
whole-parted broken = refl

pub read-lines : (xs : Items) → fine_all xs ≡ true → read (show_lines xs) ≡ some xs
unfolding read
read-lines xs h = whole-parted (reading (show_lines xs)) ∙ ap whole (lines xs h)
