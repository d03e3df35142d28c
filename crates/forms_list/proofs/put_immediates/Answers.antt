-- `put_immediates` meets its contract: after each turn the lines of the immediates so far are written.
use Rattle.std.proofs.Common.{arith, subst, ◌≡◌, ℕ, suc, ◌+◌, ◌-◌, List}
use Rattle.text_digits.specs.Writing.{Wrote}
use Rattle.block_record_check.specs.Record.{instruction}
use Rattle.line_records.specs.Line.{line}
use Rattle.text_series.specs.Series.{up_to}
use Rattle.text_series.proofs.Texts.{wrote-row, wrote-first}
use Rattle.forms_list.specs.Texts.{immediates_text}
use Rattle.forms_list.proofs.Rows.{room-row}
use Rattle.forms_list.proofs.put_immediates.Goals as goal

-- the line of an immediate
abbrev row : (operation arrangement m i : ℕ) → List ℕ
row operation arrangement m i = line (instruction operation arrangement i 0 1 m)

pub loop-i-init : goal.loop-i-init
loop-i-init c =
    let a = c.args in
    let none : 0 ≡ a.least - a.least = omega arith in
    let rows = λ (j : ℕ). row a.operation a.arrangement a.m (a.least + j) in record {
      from_least = omega arith;
      written = subst (λ (j : ℕ). Wrote a.buf.now a.at (up_to j rows) a.at a.buf.now) none (wrote-first rows a.buf.now a.at);
      up_to_most = omega arith;
    }

pub put_line-end-requires-clause-room : goal.put_line-end-requires-clause-room
unfolding immediates_text
put_line-end-requires-clause-room c =
    let a = c.args in
    let l = c.loop-i in
    room-row (row a.operation a.arrangement a.m) a.least (suc a.most - a.least) l.i (omega arith) (omega arith) c.requires.room l.invariant.written

pub loop-i-preserved : goal.loop-i-preserved
loop-i-preserved c =
    let a = c.args in
    let l = c.loop-i in record {
      from_least = omega arith;
      written = wrote-row (row a.operation a.arrangement a.m) a.least l.i (omega arith) l.invariant.written c.put_line-end.ensures;
      up_to_most = omega arith;
    }

pub returns : goal.returns
unfolding immediates_text
returns c =
    let a = c.args in
    let l = c.loop-i in
    let all : l.i - a.least ≡ suc a.most - a.least = omega arith in
    subst (λ (j : ℕ). Wrote a.buf.now a.at (up_to j (λ i. row a.operation a.arrangement a.m (a.least + i))) l.end l.buf) all l.invariant.written

-- after the turn of `most`
pub returns-2 : goal.returns-2
unfolding immediates_text
returns-2 c =
    let a = c.args in
    let i = c.loop-i.i in
    let end = c.put_line-end.result in
    let buf = c.put_line-end.new.buf in
    let all : i + 1 - a.least ≡ suc a.most - a.least = omega arith in
    subst (λ (j : ℕ). Wrote a.buf.now a.at (up_to j (λ i. row a.operation a.arrangement a.m (a.least + i))) end buf) all
    (wrote-row (row a.operation a.arrangement a.m) a.least i (omega arith) c.loop-i.invariant.written c.put_line-end.ensures)
