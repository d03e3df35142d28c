-- Where a pool may have Vars: below a node p. A pool that begins with the registers and has no Var past them is one with p = 32.
use Rattle.std.specs.Prelude.{Bool, true, ◌&&◌, ◌||◌, not, List, ℕ, zero, suc, ltb, eqb}
use Rattle.pool.specs.Node.{kind_number}

-- node n is below p, or no Var
abbrev pub plain_at : List ℕ → ℕ → ℕ → Bool
plain_at ws p n = ltb n p || not (eqb (kind_number ws n) 1)

-- so is every node below count
unfoldable pub plain_from : List ℕ → ℕ → ℕ → Bool
plain_from ws p zero = true
plain_from ws p (suc n) = plain_from ws p n && plain_at ws p n
