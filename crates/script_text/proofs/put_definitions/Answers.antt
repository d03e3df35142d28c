-- `put_definitions` writes the lines of the nodes below count: at n those of the nodes below n are written.
use Rattle.std.proofs.Common.{arith, subst, ◌≡◌, ℕ}
use Rattle.text_digits.specs.Writing.{Wrote}
use Rattle.text_series.specs.Series.{up_to}
use Rattle.text_series.proofs.Texts.{room_next, wrote-next, wrote-first}
use Rattle.script_text.specs.Lines.{line_at}
use Rattle.script_text.proofs.put_definitions.Goals as goal

pub loop-n-init : goal.loop-n-init
loop-n-init c = wrote-first (line_at c.args.p.now) c.args.buf.now c.args.at

pub put_definition-end-requires : goal.put_definition-end-requires
put_definition-end-requires c =
    let a = c.args in
    let l = c.loop-n in
    record {
      ready = c.requires.all_ready l.n c.loop-n-test.true;
      room = room_next (line_at a.p.now) a.count l.n c.loop-n-test.true c.requires.room l.invariant;
    }

pub loop-n-preserved : goal.loop-n-preserved
loop-n-preserved c = wrote-next (line_at c.args.p.now) c.loop-n.n c.loop-n.invariant c.put_definition-end.ensures

pub returns : goal.returns
returns c =
    let a = c.args in
    let l = c.loop-n in
    let all : l.n ≡ a.count = omega arith in
    subst (λ (j : ℕ). Wrote a.buf.now a.at (up_to j (line_at a.p.now)) l.end l.buf) all l.invariant
