-- Texts that are written one after the other: what they are together, and what is left of them after the first k. Assumes nothing.
use mathlib.Core.List.{List, [], ◌∷◌, ◌++◌}
use Prim.Native.Nat.{ℕ, zero, suc}

abbrev pub together : List (List ℕ) → List ℕ
together [] = []
together (t ∷ []) = t
together (t ∷ u ∷ us) = t ++ together (u ∷ us)

abbrev pub left : ℕ → List (List ℕ) → List ℕ
left zero ts = together ts
left (suc k) [] = []
left (suc k) (t ∷ ts) = left k ts
