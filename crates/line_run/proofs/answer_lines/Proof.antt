-- `answer_lines`: at each turn the output and then the answers to what is left are the answers to what was to come.
use native.Mathlib.Omega.{arith}
use mathlib.Core.List.{List, ◌++◌}
use mathlib.Core.Path.{◌≡◌, refl, sym, ap, ◌∙◌}
use Prim.Native.Nat.{ℕ, ◌-◌, ◌≤◌, ◌<◌}
use lib.ListN.{length, take, drop}
use lib.Seq.{length-take-le}
use Rattle.pool.specs.Node.{places, places_in}
use Rattle.line_pieces.proofs.Gathering.{taken_more, held_fits}
use Rattle.line_run.specs.Going.{answers}
use Rattle.line_run.proofs.Running.{turn-ended, turn-open, some-taken}
use Rattle.line_run.proofs.answer_lines.Statement.{statement}
use Rattle.line_run.proofs.answer_lines.Tie as tie

abbrev invariant-loop-next : tie.invariant-loop-next
invariant-loop-next pool₀ held₀ line input from out₀ len₀ output₀ next₀ pool held out len output next =
    (len ≤ length held) × (output ≤ length out) × (length pool ≡ length pool₀) × (length held ≡ length held₀) × (length out ≡ length out₀)
    × (from ≤ next) × (next ≡ from → output ≡ 0)
    × ((rest : List ℕ) → take output out ++ answers (places pool₀) held len (drop next input ++ rest) ≡ answers (places pool₀) held₀ line (drop from input ++ rest))

abbrev decreases-loop-next : tie.decreases-loop-next
decreases-loop-next pool₀ held₀ line input from out₀ len₀ output₀ next₀ pool held out len output next = length input - next

-- ---- what a turn gathers

module _ (g : tie.After-gather-g invariant-loop-next decreases-loop-next) where
  -- a byte is taken, and what is held has room
  more : g.loop-next.next < g.gather-g.result.taken
  more = taken_more g.args.input.now g.loop-next-test.true g.gather-g.ensures

  fits : g.gather-g.result.len ≤ length g.loop-next.held
  fits = held_fits g.loop-next.invariant.0 g.gather-g.ensures

  holds-25 : 25 ≤ length g.loop-next.held
  holds-25 = omega (arith, g.requires.0.held_room, g.loop-next.invariant.3)

loop-holds : tie.Need-loop-next-init invariant-loop-next decreases-loop-next
loop-holds c =
    let st = c in
    (st.requires.1, omega arith, refl, refl, refl, omega arith, λ e. refl, λ rest. refl)

sub-if1 : tie.Need-overflow_sub-out invariant-loop-next decreases-loop-next
sub-if1 c = omega (arith, c.loop-next.invariant.1)

same_length : tie.Need-shape_of-pool-then-out-output-lt-ANSWER_ROOM invariant-loop-next decreases-loop-next
same_length c = c.loop-next.invariant.2

same-length-2 : tie.Need-shape_of-held-then-out-output-lt-ANSWER_ROOM invariant-loop-next decreases-loop-next
same-length-2 c = c.loop-next.invariant.3

same-length-3 : tie.Need-shape_of-out-then-out-output-lt-ANSWER_ROOM invariant-loop-next decreases-loop-next
same-length-3 c = c.loop-next.invariant.4

-- the output has no room for an answer
returns : tie.Need-returns-then-out-output-lt-ANSWER_ROOM invariant-loop-next decreases-loop-next
returns c =
    let l = c in
    let i = l.loop-next.invariant in
    record {
      same = i.7;
      line_fits = i.0;
      output_fits = i.1;
      further = λ k. some-taken i.5 i.6 c.if-out-output-lt-ANSWER_ROOM.true (omega (arith, l.requires.0.out_room, i.4));
      stops = λ k. omega (arith, c.if-out-output-lt-ANSWER_ROOM.true, i.1);
    }

gather-requires : tie.Need-gather-g-requires invariant-loop-next decreases-loop-next
gather-requires c κs = tt

slice-reshare-prefix-answer-line : tie.Need-slice_bounds-answer_line-end invariant-loop-next decreases-loop-next
slice-reshare-prefix-answer-line c =
    let g = c.before.before.before.before in
    omega (arith, fits g, g.gather-g.auto.held)

slice-aggregate-answer-line : tie.Need-slice_bounds-answer_line-end-then-g invariant-loop-next decreases-loop-next
slice-aggregate-answer-line c =
    let g = c.before.before.before.before in
    sym (length-take-le _ _ (omega (arith, fits g, g.gather-g.auto.held)))

answer-line-requires : tie.Need-answer_line-output-requires invariant-loop-next decreases-loop-next
answer-line-requires c κs = tt

-- a line ended
loop-less : tie.Need-loop-next-smaller-then-g invariant-loop-next decreases-loop-next
loop-less c =
    let g = c.before.before.before.before.before.before.before.before.before.before in
    omega (arith, more g, g.loop-next-test.true)

loop-again : tie.Need-loop-next-preserved-then-g invariant-loop-next decreases-loop-next
loop-again c =
    let a = c in
    let t = c in
    let g = c.before.before.before.before.before.before.before.before.before.before in
    let l = c in
    let i = l.loop-next.invariant in
    let p = places l.loop-next.pool in
    let same-places : p ≡ places l.args.pool.now = ap places_in i.2 in
    let turned =
    turn-ended p l.loop-next.held l.args.input.now l.loop-next.len l.loop-next.next g.gather-g.result _ (holds-25 g) g.gather-g.ensures
    t.if-g.true i.1 (omega (arith, g.if-out-output-lt-ANSWER_ROOM.false)) a.answer_line-output.ensures.0
    in (
      omega (arith, fits g, g.gather-g.auto.held),
      a.answer_line-output.ensures.1.1 i.1,
      a.answer_line-output.auto.pool ∙ i.2,
      g.gather-g.auto.held ∙ i.3,
      a.answer_line-output.auto.out ∙ i.4,
      omega (arith, i.5, more g),
      λ e. absurd (omega (arith, i.5, more g, e)),
      λ rest. rw (sym same-places) (turned rest) ∙ i.7 rest,
    )

-- the piece ended first
loop-less-2 : tie.Need-loop-next-smaller invariant-loop-next decreases-loop-next
loop-less-2 c =
    let g = c.before.before.before in
    omega (arith, more g, g.loop-next-test.true)

loop-again-2 : tie.Need-loop-next-preserved invariant-loop-next decreases-loop-next
loop-again-2 c =
    let g = c.before.before.before in
    let l = c in
    let i = l.loop-next.invariant in
    let p = places l.args.pool.now in
    let turned =
    turn-open p l.loop-next.held l.args.input.now l.loop-next.len l.loop-next.next g.gather-g.result _ (holds-25 g) g.gather-g.ensures c.if-g.false
    in (
      omega (arith, fits g, g.gather-g.auto.held),
      i.1,
      i.2,
      g.gather-g.auto.held ∙ i.3,
      i.4,
      omega (arith, i.5, more g),
      λ e. absurd (omega (arith, i.5, more g, e)),
      λ rest. ap (λ (z : List ℕ). take l.loop-next.output l.loop-next.out ++ z) (turned rest) ∙ i.7 rest,
    )

same-length-4 : tie.Need-shape_of-pool invariant-loop-next decreases-loop-next
same-length-4 c = c.loop-next.invariant.2

same-length-5 : tie.Need-shape_of-held invariant-loop-next decreases-loop-next
same-length-5 c = c.loop-next.invariant.3

same-length-6 : tie.Need-shape_of-out invariant-loop-next decreases-loop-next
same-length-6 c = c.loop-next.invariant.4

-- the whole piece is taken
returns-2 : tie.Need-returns invariant-loop-next decreases-loop-next
returns-2 c =
    let i = c.loop-next.invariant in
    record {
      same = i.7;
      line_fits = i.0;
      output_fits = i.1;
      further = λ k. omega (arith, c.loop-next-test.false);
      stops = λ k. absurd (omega (arith, c.loop-next-test.false));
    }

pub answer_lines_spec : {M : Type 1} → statement M
answer_lines_spec =
    tie.close
    (tie.spec
    invariant-loop-next
    decreases-loop-next
    loop-holds
    sub-if1
    same_length
    same-length-2
    same-length-3
    returns
    gather-requires
    slice-reshare-prefix-answer-line
    slice-aggregate-answer-line
    answer-line-requires
    loop-less
    loop-again
    loop-less-2
    loop-again-2
    same-length-4
    same-length-5
    same-length-6
    returns-2)
