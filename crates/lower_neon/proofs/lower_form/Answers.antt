use Rattle.neon.specs.Op.{op_at, arrangement_at}
use Rattle.neon.specs.Refusal.{form_number}
use Rattle.neon.proofs.Legal.{formed}
use Rattle.std.proofs.Common.{◌≡◌, ℕ}
use Rattle.lower_neon.proofs.Rows.{Row, row}
use Rattle.lower_neon.proofs.Sources.{form-ready, form-lowers}
use Rattle.lower_neon.proofs.lower_form.Goals as goal

-- the form is legal, and has a row
in_row : (o a i : ℕ) → form_number o a i 0 ≡ 0 → Row (op_at o) (arrangement_at a) i
in_row o a i e = let f = (formed o a i 0 e).0 in row (op_at o) (arrangement_at a) i f.row f.low f.high

pub neon_value-requires-clause-bound : goal.neon_value-requires-clause-bound
neon_value-requires-clause-bound c =
    let a = c.args in
    let p = c.requires.first_lt_count in
    (form-ready a.count a.first a.second a.d (op_at a.operation) (arrangement_at a.arrangement) a.i c.shape-shape.ensures
    (in_row a.operation a.arrangement a.i c.requires.i_value) p.0 p.1 p.2).1

pub returns : goal.returns
returns c =
    let a = c.args in
    form-lowers (op_at a.operation) (arrangement_at a.arrangement) a.i c.shape-shape.ensures (in_row a.operation a.arrangement a.i c.requires.i_value)
    c.neon_value.ensures
