use mathlib.Core.Path.{◌≡◌, sym, subst, ◌∙◌}
use Prim.Native.Nat.{ℕ, ◌+◌}
use Rattle.std.proofs.Common.{slice_index_or}
use native.Mathlib.Omega.{arith}
use Rattle.run_registers.specs.Digits.{all_hex}
use Rattle.run_registers.proofs.Digits.{all-next, all_none, hex-same}
use Rattle.run_registers.proofs.all_hex.Goals as goal

pub loop-j-init : goal.loop-j-init
loop-j-init c = sym (all_none c.args.bytes.now c.args.at)

pub loop-j-preserved : goal.loop-j-preserved
loop-j-preserved c =
    let bytes = c.args.bytes.now in
    let at = c.args.at in
    let j = c.loop-j.j in
    all-next bytes at j c.loop-j.invariant (c.is_ascii_hexdigit-all.ensures.value ∙ hex-same (slice_index_or bytes (at + j) 0))

pub returns : goal.returns
returns c =
    let e : c.loop-j.j ≡ 32 = omega arith in
    subst (λ (j : ℕ). c.loop-j.all ≡ all_hex c.args.bytes.now c.args.at j) e c.loop-j.invariant
