-- A register's line: when its mark stands, and how long it is. Assumes nothing.
use mathlib.Core.Bool.{Bool, true, false, ◌&&◌}
use mathlib.Core.Path.{◌≡◌, refl, sym}
use Prim.Native.Nat.{ℕ, ◌≤◌, ◌<◌}
use native.Mathlib.Omega.{arith}
use lib.Dec.{eqb}
use lib.ListN.{length}
use borrow.Author.Tests.{eqb-true, eqb-false, eq-eqb, ne_eqb}
use Rattle.wide.specs.Number.{words}
use Rattle.run_lines.specs.Output.{mark}

-- two words are the same number exactly where both are the same
module _ (l h m k : ℕ) (lb : l < 18446744073709551616) (mb : m < 18446744073709551616) where
  pub same_words : (eqb l m && eqb h k) ≡ eqb (words l h 0) (words m k 0)
  unfolding words
  same_words = low (eqb l m) refl
    where
      goal : Type 0
      goal = (eqb l m && eqb h k) ≡ eqb (words l h 0) (words m k 0)

      high : (b : Bool) → l ≡ m → eqb h k ≡ b → goal
      high true e q = let f = eqb-true h k q in rw (eq-eqb l m e, q) (sym (eq-eqb (words l h 0) (words m k 0) (omega (arith, e, f))))
      high false e q = let f = eqb-false h k q in rw (eq-eqb l m e, q) (sym (ne_eqb (words l h 0) (words m k 0) (λ x. f (omega (arith, x, e)))))

      low : (b : Bool) → eqb l m ≡ b → goal
      low true q = high (eqb h k) (eqb-true l m q) refl
      low false q = let f = eqb-false l m q in rw q (sym (ne_eqb (words l h 0) (words m k 0) (λ x. f (omega (arith, x, lb, mb)))))

pub mark-length : (b : Bool) → length (mark b) ≤ 2
mark-length true = omega arith
mark-length false = omega arith
