-- `put_declarations` writes the lines of the 32 registers: at r those of the first r are written.
use Rattle.std.proofs.Common.{arith, subst, ◌≡◌, ℕ}
use Rattle.text_digits.specs.Writing.{Wrote}
use Rattle.text_series.specs.Series.{up_to}
use Rattle.text_series.proofs.Texts.{room_next, wrote-next, wrote-first}
use Rattle.script_text.specs.Lines.{declaration_line}
use Rattle.script_text.proofs.put_declarations.Goals as goal

pub loop-r-init : goal.loop-r-init
loop-r-init c = wrote-first declaration_line c.args.buf.now c.args.at

pub put_declaration-end-requires : goal.put_declaration-end-requires
put_declaration-end-requires c = room_next declaration_line 32 c.loop-r.r c.loop-r-test.true c.requires c.loop-r.invariant

pub loop-r-preserved : goal.loop-r-preserved
loop-r-preserved c = wrote-next declaration_line c.loop-r.r c.loop-r.invariant c.put_declaration-end.ensures

pub returns : goal.returns
returns c =
    let l = c.loop-r in
    let all : l.r ≡ 32 = omega arith in
    subst (λ (j : ℕ). Wrote c.args.buf.now c.args.at (up_to j declaration_line) l.end l.buf) all l.invariant
