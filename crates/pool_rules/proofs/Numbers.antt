-- The kinds by their numbers. Assumes nothing.
use Prim.Native.Nat.{ℕ, zero, suc, ◌+◌, ◌-◌, ◌≤◌, ◌<◌}
use mathlib.Core.Path.{◌≡◌, ap, ◌∙◌, subst}
use mathlib.Core.List.{List, [], ◌∷◌}
use native.Mathlib.Omega.{arith}
use native.Mathlib.Nat.{le_of_suc-le-suc, not-suc-le-zero}
use lib.ListN.{get_or, drop, get_or-eq_default}
use lib.Seq.{get_or-drop}
use Rattle.pool.specs.Node.{Kind, kinds, kind_at}

-- P of the first m of a list
abbrev pub First : (Kind → Type 0) → ℕ → List Kind → Type 0
First P zero xs = Unit {0}
First P (suc m) [] = ⊥
First P (suc m) (x ∷ xs) = P x × First P m xs

among : (P : Kind → Type 0) (m : ℕ) (xs : List Kind) → First P m xs → (j : ℕ) → j < m → P (get_or xs j Kind.bad)
among P zero xs h j l = absurd (not-suc-le-zero l)
among P (suc m) [] h j l = absurd h
among P (suc m) (x ∷ xs) h zero l = h.0
among P (suc m) (x ∷ xs) h (suc j) l = among P m xs h.1 j (le_of_suc-le-suc l)

-- P of kind k, one of the m from i on
pub within : (P : Kind → Type 0) (i m : ℕ) → First P m (drop i kinds) → (k : ℕ) → i ≤ k → k < i + m → P (kind_at k)
unfolding kind_at
within P i m h k l u =
    let e : i + (k - i) ≡ k = omega arith in
    subst P (get_or-drop i kinds (k - i) Kind.bad ∙ ap (λ (n : ℕ). get_or kinds n Kind.bad) e) (among P m (drop i kinds) h (k - i) (omega arith))

pub is-bad : (k : ℕ) → 20 ≤ k → kind_at k ≡ Kind.bad
unfolding kind_at kinds
is-bad k l = get_or-eq_default kinds Kind.bad l
