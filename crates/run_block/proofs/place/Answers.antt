-- `place` puts the new bits above the low half of d in a narrowing 2 form, and else leaves them (`Placed`).
use native.Mathlib.Omega.{arith}
use mathlib.Core.Path.{refl}
use Rattle.run_block.proofs.Running.{above-is}
use Rattle.run_block.proofs.place.Goals as goal

pub returns-then-above : goal.returns-then-above
returns-then-above c =
    let s = c in
    rw c.if-above.true (record {
      bits_are = above-is s.args.x.low s.args.x.high s.args.d.low s.args.d.high (omega arith)
          (s.requires c.if-above.true);
      saturated_is = refl;
    })
