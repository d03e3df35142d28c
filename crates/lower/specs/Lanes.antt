-- Lanes that are made one by one and put together: what a family of instructions says of its own.
use Rattle.std.specs.Prelude.{List, ℕ, ◌+◌, ◌-◌, ◌*◌, ◌≤◌}
use Rattle.terms.specs.Expr.{Expr}
use Rattle.pool.specs.declared.Built.{Built}
use Rattle.trees.specs.Simd.{concat_lanes}
use Rattle.lower.specs.Builds.{Source, Below, Lowers}

-- so many lanes of so many bits, each of at most `nodes` nodes. `tree` is what lane i unfolds to, over the old destination, the first source and
-- the second, and `ins` lists the nodes that it reaches.
pub record Plan : Type 0 where
  pub lanes : ℕ
  pub bits : ℕ
  pub nodes : ℕ
  pub d : Source
  pub first : Source
  pub second : Source
  pub tree : Expr → Expr → Expr → ℕ → Expr
  pub ins : List ℕ

-- the sources that are read are below the count
abbrev pub Ready : Plan → ℕ → Type 0
Ready p c = Below p.d c × Below p.first c × Below p.second c

-- there is a lane, and all of them fit in a register
abbrev pub Fits : Plan → Type 0
Fits p = (1 ≤ p.lanes) × (1 ≤ p.bits) × (p.bits * p.lanes ≤ 128)

module _ (old : List ℕ) (k : ℕ) (new : List ℕ) (r : Built) (p : Plan) where
  -- lane i
  abbrev pub MakesLane : ℕ → Type 0
  MakesLane i = Lowers old k new r p.nodes p.bits p.d p.first p.second (λ d a b. p.tree d a b i) p.ins

  -- every lane, the first lowest, with a node for each that puts it above those below it
  abbrev pub MakesLanes : Type 0
  MakesLanes =
      Lowers old k new r ((p.nodes + 1) * p.lanes) (p.bits * p.lanes) p.d p.first p.second (λ d a b. concat_lanes (p.lanes - 1) (p.tree d a b)) p.ins
