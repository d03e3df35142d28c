-- The rules of a node as the pool check's code has them: by kind, those of the kind and of the set together.
use Rattle.std.specs.Prelude.{Bool, cond, ◌&&◌, List, ℕ, ◌+◌, ltb, eqb}
use Rattle.pool.specs.Node.{Kind, cell_at, set_at}
use Rattle.pool.specs.Rules.{ok_kind, width_before, set_before_block, set_over}

-- node n keeps the rules that it has to keep if it is of the kind κ
abbrev pub ok_as : Kind → List ℕ → ℕ → Bool
ok_as κ ws n =
    let k = cell_at ws n in
    ok_kind κ n k (width_before ws n k.a) (width_before ws n k.b) (width_before ws n k.c)
    && eqb (set_at ws n) (set_over κ k.x (set_before_block ws n k.a) (set_before_block ws n k.b) (set_before_block ws n k.c))

-- the width over two operands of A and of B bits: of an operator theirs, of a comparison none, of a Concat the sum
abbrev pub width_over : ℕ → ℕ → ℕ → ℕ
width_over kind A B = cond (eqb kind 17) (A + B) (cond (ltb kind 12) A 0)
