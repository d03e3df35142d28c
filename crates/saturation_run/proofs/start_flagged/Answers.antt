-- `start_flagged` meets its contract: the registers, and the constant 0 at node 32.
use Rattle.std.proofs.Common.{◌≡◌, ap, arith}
use Rattle.block_map.specs.declared.RegisterMap.{RegisterMap}
use Rattle.saturation_run.proofs.Running.{started}
use Rattle.saturation_run.proofs.start_flagged.Goals as goal

pub konst-zero-requires : goal.konst-zero-requires
konst-zero-requires c =
    let e : c.start_pool-map.result.count ≡ 32 = ap (λ (m : RegisterMap). m.count) c.start_pool-map.ensures.1 in
    omega (arith, c.requires, e, c.start_pool-map.ensures.0.grown.long)

pub returns : goal.returns
returns c = started c.start_pool-map.ensures.0 c.start_pool-map.ensures.1 c.konst-zero.ensures
