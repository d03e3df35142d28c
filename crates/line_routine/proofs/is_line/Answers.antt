use mathlib.Core.Bool.{Bool}
use mathlib.Core.List.{List}
use mathlib.Core.Path.{◌≡◌, refl, sym, ap, ◌∙◌}
use Prim.Native.Nat.{ℕ, ◌+◌, ◌-◌, ◌*◌}
use native.Mathlib.Omega.{arith}
use lib.ListN.{take, drop}
use Rattle.line_fields.specs.Fields.{in_columns}
use Rattle.line_routine.specs.Routine.{line_at}
use Rattle.line_routine.proofs.Answers.{short-line, part-is, bad-columns, byte-after, none_after}
use Rattle.line_routine.proofs.is_line.Goals as goal

-- what was asked of the line
columns : (bs : List ℕ) (j : ℕ) (r t : Bool) → r ≡ in_columns (take (25 * j + 24 - 25 * j) (drop (25 * j) bs)) → r ≡ t → in_columns (line_at bs j) ≡ t
columns bs j r t e h = sym (e ∙ ap in_columns (part-is bs _ j refl)) ∙ h

pub returns-then-bytes-at-lt24 : goal.returns-then-bytes-at-lt24
returns-then-bytes-at-lt24 c = sym (short-line c.args.bytes.now c.args.j (omega arith))

pub returns-then-not-in_columns : goal.returns-then-not-in_columns
returns-then-not-in_columns c =
    let bs = c.args.bytes.now in
    sym (bad-columns bs c.args.j (columns bs c.args.j _ _ c.in_columns.ensures c.if-not-in_columns.true))

pub returns-then-end-bytes : goal.returns-then-end-bytes
returns-then-end-bytes c =
    let bs = c.args.bytes.now in
    sym (byte-after bs c.args.j (columns bs c.args.j _ _ c.in_columns.ensures c.if-not-in_columns.false) c.if-end-bytes.true)

pub returns : goal.returns
returns c =
    let bs = c.args.bytes.now in
    sym (none_after bs c.args.j (columns bs c.args.j _ _ c.in_columns.ensures c.if-not-in_columns.false) c.if-end-bytes.false)
