-- Runs of writing into a buffer that is behind a reference. Assumes nothing.
use mathlib.Core.Path.{◌≡◌, refl, ap, sym, ◌∙◌, subst}
use mathlib.Core.List.{List, ◌++◌}
use Prim.Native.Nat.{ℕ}
use lib.Seq.{sets}
use denote.Ref.{MutBor, at_last}
use Rattle.text_digits.specs.Writing.{Wrote}
use Rattle.text_digits.proofs.Laws.{wrote_then}
use Rattle.text_write.specs.Behind.{WroteBehind}

-- the buffer was lent on, and came back
pub behind-one : (l : MutBor (List ℕ)) {m : List ℕ} {i k : ℕ} {a : List ℕ} → Wrote l.now i a k m → WroteBehind l i a k (at_last l m)
behind-one l w = record { wrote = w; same = refl }

pub behind-then : (l : MutBor (List ℕ)) {m : List ℕ} {n : MutBor (List ℕ)} {i j k : ℕ} {a b : List ℕ}
    → Wrote l.now i a j m → WroteBehind (at_last l m) j b k n → WroteBehind l i (a ++ b) k n
behind-then l u v = record { wrote = wrote_then u v.wrote; same = v.same }

pub behind_more : {l m n : MutBor (List ℕ)} {i j k : ℕ} {a b : List ℕ}
    → WroteBehind l i a j m → WroteBehind m j b k n → WroteBehind l i (a ++ b) k n
behind_more {n = n} u v = record { wrote = wrote_then u.wrote v.wrote; same = v.same ∙ ap (λ r. at_last r n.now) u.same }

pub behind-as : {l m : MutBor (List ℕ)} {i j : ℕ} {u s : List ℕ} → u ≡ s → WroteBehind l i s j m → WroteBehind l i u j m
behind-as {l} {m} {i} {j} {u} {s} e h = subst (λ (z : List ℕ). WroteBehind l i z j m) (sym e) h

pub behind-at : {l m m' : MutBor (List ℕ)} {i j j' : ℕ} {a : List ℕ} → m ≡ m' → j ≡ j' → WroteBehind l i a j' m' → WroteBehind l i a j m
behind-at p q h = rw (p, q) h

-- the buffer whole
pub behind-whole : {l m : MutBor (List ℕ)} {i k : ℕ} {a : List ℕ} → WroteBehind l i a k m → m ≡ at_last l (sets l.now i a)
behind-whole {l} u = u.same ∙ ap (λ (z : List ℕ). at_last l z) u.wrote.after_is
