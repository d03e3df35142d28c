use mathlib.Core.Path.{sym}
use native.Mathlib.Omega.{arith}
use Rattle.run_registers.proofs.Starts.{no_register, gap-after, none_after}
use Rattle.run_registers.proofs.is_register.Goals as goal

pub returns-then-bytes-at-lt32 : goal.returns-then-bytes-at-lt32
returns-then-bytes-at-lt32 c = sym (no_register c.args.bytes.now c.args.at (omega arith))

pub returns-then-end-bytes : goal.returns-then-end-bytes
returns-then-end-bytes c = gap-after c.args.bytes.now c.args.at c.if-end-bytes.true c.all_hex.ensures c.is_gap.ensures

pub returns : goal.returns
returns c = none_after c.args.bytes.now c.args.at c.if-end-bytes.false c.all_hex-2.ensures
