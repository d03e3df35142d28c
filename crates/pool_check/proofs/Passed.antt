-- What holds of a pool that passes the check, and of a node of a width. Assumes nothing.
use mathlib.Core.Bool.{true}
use mathlib.Core.List.{List}
use mathlib.Core.Path.{◌≡◌}
use Prim.Native.Nat.{ℕ, ◌*◌, ◌≤◌, ◌<◌}
use native.Mathlib.Omega.{arith}
use lib.Dec.{leb, ltb, eqb}
use lib.ListN.{length}
use borrow.Author.Tests.{leb-true, ltb-true, eqb-true}
use Rattle.facts.proofs.Tests.{and_both}
use Rattle.pool.specs.Node.{places, width_at}
use Rattle.pool.specs.Rules.{ok_pool, pool_ok, Valid, of_width}

module _ (ws : List ℕ) (count : ℕ) where
  both : pool_ok ws count ≡ true → (leb count (places ws) ≡ true) × (ok_pool ws count ≡ true)
  both = and_both (leb count (places ws)) (ok_pool ws count)

  -- it has places for its nodes
  pub within-places : pool_ok ws count ≡ true → count ≤ places ws
  within-places h = leb-true count (places ws) (both h).0

  pub words-for : pool_ok ws count ≡ true → 4 * count ≤ length ws
  words-for h = omega (arith, within-places h)

  pub few : pool_ok ws count ≡ true → count ≤ 65535
  few h = omega (arith, within-places h)

  pub keeps : pool_ok ws count ≡ true → Valid ws count
  keeps h = (both h).1

  -- a node of that many bits
  module _ (n bits : ℕ) (h : of_width ws count n bits ≡ true) where
    parts : (ltb n count ≡ true) × (eqb (width_at ws n) bits ≡ true)
    parts = and_both (ltb n count) (eqb (width_at ws n) bits) h

    pub below : n < count
    below = ltb-true n count parts.0

    pub has_width : width_at ws n ≡ bits
    has_width = eqb-true (width_at ws n) bits parts.1
