use mathlib.Core.List.{List}
use mathlib.Core.Path.{◌≡◌, refl, subst}
use Prim.Native.Nat.{ℕ, ◌+◌, ◌-◌, ◌≤◌, max}
use native.Mathlib.Omega.{arith}
use Rattle.text_digits.specs.Writing.{Wrote}
use Rattle.text_digits.proofs.Laws.{wrote-length}
use Rattle.text_series.specs.Series.{up_to}
use Rattle.text_series.proofs.Texts.{wrote-first, wrote-row}
use Rattle.words_run.specs.Rows.{row}
use Rattle.words_run.proofs.put_rows.Goals as goal

-- the word that is next after the last
last : (count from next m : ℕ) → m ≡ max count from → count ≤ next → (from ≤ count → next ≤ count) → (count ≤ from → next ≡ from) → next ≡ m
last count from next m e h k s = grind arith

pub loop-next-init : goal.loop-next-init
loop-next-init c =
    let a = c.args in
    let g : ℕ → List ℕ = λ i. row a.refusals a.bytes.now (a.from + i) in
    let e : 0 ≡ a.from - a.from = omega arith in
    record {
      wrote = subst (λ (k : ℕ). Wrote a.out.now 0 (up_to k g) 0 a.out.now) e (wrote-first g a.out.now 0);
      inside = omega arith;
      none = λ h. refl;
      stays = λ h. refl;
    }

pub loop-next-preserved : goal.loop-next-preserved
loop-next-preserved c =
    let a = c.args in
    let w = c.put_row-output.ensures in
    record {
      wrote = wrote-row (row a.refusals a.bytes.now) a.from c.loop-next.next (omega arith) c.loop-next.invariant.wrote w.wrote;
      inside = omega (arith, w.upper_bound, wrote-length w.wrote);
      none = λ e. absurd (omega (arith, e));
      stays = λ h. absurd (omega (arith, h));
    }

pub returns : goal.returns
returns c =
    let a = c.args in
    let i = c.loop-next.invariant in
    let e = last _ a.from _ _ c.max.ensures c.loop-next-test.false c.loop-next.auto.next-end i.stays in
    record {
      after = omega arith;
      inside = λ h. omega (arith, h);
      wrote = subst (λ (k : ℕ). Wrote a.out.now 0 (up_to (k - a.from) (λ i. row a.refusals a.bytes.now (a.from + i))) c.loop-next.output c.loop-next.out) e i.wrote;
      output_in = i.inside;
      further = λ h k. omega (arith, h);
      stops = λ h. absurd (omega (arith, h));
    }
