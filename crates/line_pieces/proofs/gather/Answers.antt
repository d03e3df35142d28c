use mathlib.Core.Bool.{false}
use mathlib.Core.Path.{◌≡◌, refl, subst}
use Prim.Native.Nat.{ℕ, ◌+◌, ◌≤◌, max}
use native.Mathlib.Omega.{arith}
use lib.ListN.{drop, get_or, drop_of_length-le}
use Rattle.line_pieces.specs.Pieces.{Gathers}
use Rattle.line_pieces.proofs.Gathering.{drop-next, same_start, at-end, at-newline, same-held, same_full}
use Rattle.line_pieces.proofs.gather.Goals as goal
use Rattle.line_pieces.proofs.gather.Goals.{then-n-held, else-n-held}

-- the place after the last byte
last : (count from i m : ℕ) → m ≡ max count from → count ≤ i → (from ≤ count → i ≤ count) → (count ≤ from → i ≡ from) → i ≡ m
last count from i m e h k s = grind arith

pub loop-i-init : goal.loop-i-init
loop-i-init c = record { same = same_start _ _ _ _; stays = λ h. refl }

pub returns-then-b-eq10 : goal.returns-then-b-eq10
returns-then-b-eq10 c =
    let a = c.args in
    let i = c.loop-i.i in
    let s = rw (drop-next a.input.now i (omega arith)) at c.loop-i.invariant.same in
    at-newline a.held.now a.len (drop a.from a.input.now) a.from (get_or a.input.now i 0) (drop (i + 1) a.input.now) c.if-b-eq10.true s

pub loop-i-preserved : goal.loop-i-preserved
loop-i-preserved c =
    let a = c.args in
    let i = c.loop-i.i in
    let b = get_or a.input.now i 0 in
    let rest = drop (i + 1) a.input.now in
    let s = rw (drop-next a.input.now i (omega arith)) at c.loop-i.invariant.same in
    record {
      same = elim c.if-n-held.branch [
        | then-n-held w ↦ rw (w.held-is, w.n-is) (same-held a.held.now a.len (drop a.from a.input.now) a.from b rest c.if-b-eq10.false w.if-n-held.true s)
        | else-n-held w ↦ rw (w.held-is, w.n-is) (same_full a.held.now a.len (drop a.from a.input.now) a.from b rest c.if-b-eq10.false w.if-n-held.false s)
      ];
      stays = λ h. absurd (omega (arith, h));
    }

pub returns : goal.returns
returns c =
    let a = c.args in
    let i = c.loop-i.i in
    let s = rw (drop_of_length-le a.input.now c.loop-i-test.false) at c.loop-i.invariant.same in
    let e : i ≡ c.max.result = last _ a.from _ _ c.max.ensures c.loop-i-test.false c.loop-i.auto.i-end c.loop-i.invariant.stays in
    subst (λ (t : ℕ). Gathers a.held.now a.len (drop a.from a.input.now) a.from (record { taken = t; len = c.loop-i.n; ended = false }) c.loop-i.held) e
    (at-end a.held.now a.len (drop a.from a.input.now) a.from s)
