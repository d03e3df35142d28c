-- `run_lines::put_after` meets its contract.
use mathlib.Core.Path.{ap, ◌∙◌}
use native.Mathlib.Omega.{arith}
use Rattle.text_digits.proofs.Laws.{wrote_then, wrote_as}
use mathlib.Core.Bool.{Bool}
use mathlib.Core.List.{List, append-nil}
use Prim.Native.Nat.{ℕ}
use Rattle.wide.specs.Registers.{registers_of}
use Rattle.run_lines.specs.Output.{after_text}
use borrow.Author.Rules.{rules}
use Rattle.run_lines.proofs.put_after.Statement.{statement}
use Rattle.run_lines.proofs.put_after.Tie as tie

-- the text of the run, by whether it saturated
abbrev text : tie.After-put_registers-end → Bool → List ℕ
text c = let a = c.args in after_text (registers_of a.start.words) (registers_of a.after.words)

put-registers-requires : tie.Need-put_registers-end-requires
put-registers-requires c κs = search rules

put-requires : tie.Need-put-requires
put-requires c κs = search rules

returns : tie.Need-returns-then-saturated
returns c =
    let t = c in
    let p = c in
    (wrote_as (ap (text c.before.before.before.before.before) t.if-saturated.true) (wrote_then p.put_registers-end.ensures.0 c.put.ensures), omega (arith, p.put_registers-end.ensures.1, c.put.ensures.next_is))

returns-2 : tie.Need-returns
returns-2 c =
    let p = c in
    (wrote_as (ap (text c.before) c.if-saturated.false ∙ append-nil _) p.put_registers-end.ensures.0, omega (arith, p.put_registers-end.ensures.1))

pub put_after_spec : {M : Type 1} → statement M
put_after_spec =
    tie.close (tie.spec
    put-registers-requires
    put-requires
    returns
    returns-2)
