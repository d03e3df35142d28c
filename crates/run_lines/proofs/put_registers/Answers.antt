use mathlib.Core.Path.{◌≡◌, sym, ap₂, subst}
use Prim.Native.Nat.{ℕ}
use native.Mathlib.Omega.{arith}
use Rattle.text_digits.specs.Writing.{Wrote}
use Rattle.text_digits.proofs.Laws.{wrote_as}
use Rattle.text_series.specs.Series.{up_to}
use Rattle.text_series.proofs.Texts.{wrote-next, wrote-first}
use Rattle.run_lines.specs.Output.{register_line, registers_text}
use Rattle.run_lines.proofs.put_registers.Invariants.{rows}
use Rattle.run_lines.proofs.put_registers.Goals as goal

pub loop-r-init : goal.loop-r-init
loop-r-init c = record { wrote = wrote-first (rows c.args.start.words c.args.after.words) c.args.buf.now 0; most = omega arith }

pub loop-r-preserved : goal.loop-r-preserved
loop-r-preserved c =
    let a = c.args in
    let i = c.loop-r.invariant in
    let same = ap₂ (register_line c.loop-r.r) (sym c.get.ensures) (sym c.get-in-loop-r.ensures) in
    record {
      wrote = wrote-next (rows a.start.words a.after.words) c.loop-r.r i.wrote (wrote_as same c.put_line-end.ensures.wrote);
      most = omega (arith, c.put_line-end.ensures.upper_bound, i.most);
    }

pub returns-clause-wrote : goal.returns-clause-wrote
unfolding registers_text
returns-clause-wrote c =
    let a = c.args in
    let e : c.loop-r.r ≡ 32 = omega arith in
    subst (λ (r : ℕ). Wrote a.buf.now 0 (up_to r (rows a.start.words a.after.words)) c.loop-r.end c.loop-r.buf) e c.loop-r.invariant.wrote
