use native.Mathlib.Omega.{arith}
use Prim.Native.Nat.{◌+◌}
use mathlib.Core.Path.{sym, ◌∙◌}
use Rattle.lower_simd.proofs.Cutting.{kept-none, Rises, rising, kept_more, from-kept}
use Rattle.lower_simd.proofs.cut_from.Goals as goal

pub loop-hi-init : goal.loop-hi-init
loop-hi-init c = kept-none _ _ _ c.requires.1

pub overflow_add-by : goal.overflow_add-by
overflow_add-by c =
    let r : Rises c.args.pool.now c.loop-hi.at (c.args.hi.0 + c.loop-hi.by) = rising _ _ _ (sym c.rises.ensures ∙ c.loop-hi-test.true) in
    omega (arith, c.cut_lo-by.ensures, r.room, c.loop-hi.invariant.small)

pub loop-hi-smaller : goal.loop-hi-smaller
loop-hi-smaller c =
    let r : Rises c.args.pool.now c.loop-hi.at (c.args.hi.0 + c.loop-hi.by) = rising _ _ _ (sym c.rises.ensures ∙ c.loop-hi-test.true) in
    omega (arith, c.first-at.ensures, r.down)

pub loop-hi-preserved : goal.loop-hi-preserved
loop-hi-preserved c =
    rw (c.first-at.ensures, c.cut_lo-by.ensures) (kept_more c.loop-hi.invariant (rising _ _ _ (sym c.rises.ensures ∙ c.loop-hi-test.true)))

pub returns : goal.returns
returns c = from-kept c.loop-hi.invariant (sym c.rises.ensures ∙ c.loop-hi-test.false)
