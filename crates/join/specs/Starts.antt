-- Pools that two blocks' terms can be joined from (document 02, S-11): v0 to v31 are nodes 0 to 31, and no other node is a Var.
use Rattle.std.specs.Prelude.{Bool, true, cond, ◌&&◌, not, List, ℕ, zero, suc, ltb, leb, eqb}
use Rattle.pool.specs.Node.{kind_number, word_at}

-- node n is Var n, or, from 32 on, no Var
abbrev pub var_rule : List ℕ → ℕ → Bool
var_rule ws n = cond (ltb n 32) (eqb (kind_number ws n) 1 && eqb (word_at ws n 2) n) (not (eqb (kind_number ws n) 1))

unfoldable pub var_rules : List ℕ → ℕ → Bool
var_rules ws zero = true
var_rules ws (suc n) = var_rules ws n && var_rule ws n

abbrev pub starts_with_registers : List ℕ → ℕ → Bool
starts_with_registers ws count = leb 32 count && var_rules ws count
