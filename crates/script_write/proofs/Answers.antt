-- What `write_script` answers, by the way that it took. Assumes nothing.
use mathlib.Core.List.{List, [], ◌∷◌, ◌++◌}
use mathlib.Core.Path.{◌≡◌, refl, sym, ap, ◌∙◌}
use Prim.Native.Nat.{ℕ, ◌≤◌, ◌<◌}
use lib.ListN.{length, take, drop}
use borrow.Author.Tests.{le-leb, lt-leb}
use Rattle.facts.specs.Refuse.{by_number, list_by}
use Rattle.text_digits.specs.Writing.{Wrote}
use Rattle.text.proofs.Answers.{in-front}
use Rattle.script_meaning.specs.Script.{script_of}
use Rattle.script_length.proofs.Answers.{Good, past}
use Rattle.script_write.specs.Answer.{write_number, Answered}

front : (s t : List ℕ) → take (length s) (s ++ t) ≡ s
front [] t = refl
front (x ∷ s) t = ap (λ (l : List ℕ). x ∷ l) (front s t)

-- with the number 0 the bytes up to the length are the text
pub front-is : (k : ℕ) (s old : List ℕ) (len : ℕ) (new : List ℕ) → 0 ≡ k → len ≡ by_number k (length s) → new ≡ list_by k s old → take len new ≡ s
front-is k s old len new z e f =
    ap (λ (j : ℕ). take j new) (e ∙ ap (λ (k : ℕ). by_number k (length s)) (sym z))
    ∙ ap (take (length s)) (f ∙ ap (λ (k : ℕ). list_by k s old) (sym z))
    ∙ front s (drop (length s) old)

module _ (ws : List ℕ) (count a b : ℕ) where
  pub short : (room : ℕ) → Good ws count a b → room < length (script_of ws count a b) → write_number ws count a b room ≡ 9
  short room g s = past ws count a b _ g ∙ rw (lt-leb (length (script_of ws count a b)) room s)

  pub fits : (room : ℕ) → Good ws count a b → length (script_of ws count a b) ≤ room → write_number ws count a b room ≡ 0
  fits room g s = past ws count a b _ g ∙ rw (le-leb (length (script_of ws count a b)) room s)

  pub written : {old new : List ℕ} {len end : ℕ} → write_number ws count a b (length old) ≡ 0 → length (script_of ws count a b) ≤ length old
      → len ≡ length (script_of ws count a b)
      → Wrote old 0 (script_of ws count a b) end new
      → Answered ws count a b old 0 len new
  written {old} e h l w = record {
    number_is = sym e;
    length_is = l ∙ ap (λ (j : ℕ). by_number j (length (script_of ws count a b))) (sym e);
    buffer_is = in-front w h ∙ ap (λ (j : ℕ). list_by j (script_of ws count a b) old) (sym e);
  }
