-- The numbers of a join: what a test that fails gives, and what 0 says. Assumes nothing.
use mathlib.Core.Path.{◌≡◌, sym}
use mathlib.Core.Bool.{true, false, ◌&&◌}
use mathlib.Core.List.{List}
use Prim.Native.Nat.{ℕ, ◌≤◌, ◌<◌}
use native.Mathlib.Omega.{arith}
use lib.Dec.{leb}
use borrow.Author.Tests.{leb-true, le-leb, lt-leb}
use Rattle.facts.proofs.Tests.{and_both, passed}
use Rattle.pool.specs.Node.{places, width_at}
use Rattle.pool.specs.Rules.{pool_ok, of_width}
use Rattle.pool_check.proofs.Passed.{below, has_width}
use Rattle.join.specs.Starts.{starts_with_registers}
use Rattle.join.specs.Join.{join_count, join_number}
use Rattle.join.proofs.Registers.{Starts, starts}

-- what number 0 says
pub record Passed (first : List ℕ) (c : ℕ) (second : List ℕ) (d x y : ℕ) (out : List ℕ) : Type 0 where
  pub first-starts : Starts first c
  pub second-starts : Starts second d
  pub x-less : x < c
  pub y-less : y < d
  pub x-wide : width_at first x ≡ 128
  pub y-wide : width_at second y ≡ 128
  pub room : join_count c d ≤ places out

not-zero : (n : ℕ) → 0 < n → n ≡ 0 → ⊥
not-zero n h e = omega arith

module _ (first : List ℕ) (c : ℕ) (second : List ℕ) (d x y : ℕ) (out : List ℕ) where
  abbrev Number : ℕ → Type 0
  Number n = n ≡ join_number first c second d x y out

  pub bad-first : (pool_ok first c && starts_with_registers first c) ≡ false → Number 1
  unfolding join_number
  bad-first e = sym (rw e)

  module _ (p : (pool_ok first c && starts_with_registers first c) ≡ true) where
    pub bad-second : (pool_ok second d && starts_with_registers second d) ≡ false → Number 1
    unfolding join_number
    bad-second e = sym (rw (p, e))

    module _ (q : (pool_ok second d && starts_with_registers second d) ≡ true) where
      pub bad-chosen : (of_width first c x 128 && of_width second d y 128) ≡ false → Number 5
      unfolding join_number
      bad-chosen e = sym (rw (p, q, e))

      module _ (r : (of_width first c x 128 && of_width second d y 128) ≡ true) where
        pub no_room : places out < join_count c d → Number 6
        unfolding join_number
        no_room h = sym (rw (p, q, r, lt-leb (join_count c d) (places out) h))

        pub none-bad : join_count c d ≤ places out → Number 0
        unfolding join_number
        none-bad h = sym (rw (p, q, r, le-leb (join_count c d) (places out) h))

  pub all-passed : join_number first c second d x y out ≡ 0 → Passed first c second d x y out
  unfolding join_number
  all-passed e =
      let p1 = passed (pool_ok first c && starts_with_registers first c) (not-zero 1 (omega arith)) e in
      let p2 = passed (pool_ok second d && starts_with_registers second d) (not-zero 1 (omega arith)) p1.1 in
      let p3 = passed (of_width first c x 128 && of_width second d y 128) (not-zero 5 (omega arith)) p2.1 in
      let p4 = passed (leb (join_count c d) (places out)) (not-zero 6 (omega arith)) p3.1 in
      let q = and_both (of_width first c x 128) (of_width second d y 128) p3.0 in
      record {
        first-starts = starts first c p1.0;
        second-starts = starts second d p2.0;
        x-less = below first c x 128 q.0;
        y-less = below second d y 128 q.1;
        x-wide = has_width first c x 128 q.0;
        y-wide = has_width second d y 128 q.1;
        room = leb-true _ _ p4.0;
      }
