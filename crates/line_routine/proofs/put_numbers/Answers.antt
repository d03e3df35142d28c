use mathlib.Core.Path.{◌≡◌, subst}
use Prim.Native.Nat.{ℕ}
use native.Mathlib.Omega.{arith}
use Rattle.text_digits.specs.Writing.{Wrote}
use Rattle.text_series.specs.Series.{up_to}
use Rattle.text_series.proofs.Texts.{room_next, wrote-next, wrote-first}
use Rattle.line_routine.specs.Routine.{line_count, numbers_in}
use Rattle.line_routine.proofs.Answers.{line_fits}
use Rattle.line_routine.proofs.put_numbers.Invariants.{rows}
use Rattle.line_routine.proofs.put_numbers.Goals as goal

pub loop-j-init : goal.loop-j-init
loop-j-init c = wrote-first (rows c.args.bytes.now) c.args.records.now 0

pub put_fields-end-requires : goal.put_fields-end-requires
unfolding numbers_in
put_fields-end-requires c =
    let bs = c.args.bytes.now in
    let j = c.loop-j.j in
    record {
      j_in_bounds = line_fits bs j (c.requires.good.before j (omega arith));
      at_in_bounds = (room_next (rows bs) (line_count bs) j (omega arith) c.requires.room c.loop-j.invariant).room;
    }

pub loop-j-preserved : goal.loop-j-preserved
loop-j-preserved c = wrote-next (rows c.args.bytes.now) c.loop-j.j c.loop-j.invariant c.put_fields-end.ensures

pub returns : goal.returns
unfolding numbers_in
returns c =
    let a = c.args in
    let e : c.loop-j.j ≡ line_count a.bytes.now = omega arith in
    subst (λ (j : ℕ). Wrote a.records.now 0 (up_to j (rows a.bytes.now)) c.loop-j.end c.loop-j.records) e c.loop-j.invariant
