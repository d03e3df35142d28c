use mathlib.Core.Bool.{true}
use mathlib.Core.Path.{◌≡◌}
use Prim.Native.Nat.{ℕ, ◌<◌}
use Rattle.words_lists.specs.Words.{is_legal_word}
use Rattle.words_lists.proofs.good_words.Given as goal

-- the words so far encode legal forms
abbrev pub invariant-loop-j : goal.invariant-loop-j
invariant-loop-j l = (i : ℕ) → i < l.j → is_legal_word l.bytes i ≡ true
