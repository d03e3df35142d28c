-- A pool from before the sets of registers, with a Var, fails the check: the set of a Var is not empty. Assumes nothing.
use mathlib.Core.Bool.{Bool, true, false}
use mathlib.Core.Path.{◌≡◌, refl, ap, ◌∙◌}
use Prim.Native.Nat.{ℕ, ◌^◌}
use native.Mathlib.Nat.{div-eq_of_lt}
use native.Mathlib.Omega.{arith}
use lib.Dec.{leb}
use lib.Pow.{pow_pos}
use Rattle.facts.proofs.Tests.{and_both}
use Rattle.pool.specs.Node.{Kind, var, kinds, kind_at, cell_at, kind_number, set_at, places}
use Rattle.pool.specs.Rules.{ok_pool, pool_ok, set_before_block, set_over}
use Rattle.pool.specs.Earlier.{EarlierFails}
use Rattle.pool.proofs.Facts.{valid-set}

is-var : (k : ℕ) → k ≡ 1 → kind_at k ≡ var
unfolding kind_at kinds
is-var k e = rw e

pub earlier-fails : EarlierFails
earlier-fails ws count old n l e = go (pool_ok ws count) refl
  where
    go : (t : Bool) → pool_ok ws count ≡ t → pool_ok ws count ≡ false
    go true p =
        let v = (and_both (leb count (places ws)) (ok_pool ws count) p).1 in
        let k = cell_at ws n in
        let rule : set_at ws n ≡ 2 ^ k.x =
        valid-set ws count n v l
        ∙ ap (λ (κ : Kind). set_over κ k.x (set_before_block ws n k.a) (set_before_block ws n k.b) (set_before_block ws n k.c)) (is-var (kind_number ws n) e) in
        let none : set_at ws n ≡ 0 = div-eq_of_lt (old n l) in
        absurd (omega (arith, rule, none, pow_pos k.x))
    go false p = p
