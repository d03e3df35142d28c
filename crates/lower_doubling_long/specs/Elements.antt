-- The second source of a doubling long multiplication, and whether the old destination is one.
use Rattle.std.specs.Prelude.{Bool, true, false, cond, List, [], ◌∷◌, ℕ, ◌+◌, ◌*◌, ◌/◌, ◌≤◌}
use Rattle.terms.specs.Expr.{Expr}
use Rattle.pool.specs.declared.Built.{Built}
use Rattle.pool.specs.Rules.{Valid}
use Rattle.pool.specs.Growth.{NodeIs}
use Rattle.pool_nodes.specs.Builders.{Takes, Makes}
use Rattle.std.specs.declared.option.Option.{Option}
use Rattle.terms.specs.declared.BinOp.{BinOp}
use Rattle.std.specs.declared.option.Option.TheVariants.{None, Some}
use Rattle.trees.specs.Trees.{extract_lane}
use Rattle.lower.specs.Builds.{Source, with_lower}
use Rattle.lower_doubling_long.specs.declared.Element.{Element}
use Rattle.lower_doubling_long.specs.declared.Element.TheVariants.{One, PerLane}

abbrev pub accumulates : Option BinOp → Bool
accumulates None = false
accumulates (Some op) = true

abbrev pub element_node : Element → ℕ
element_node (One n) = n.0
element_node (PerLane n) = n.0

-- an element has `bits` bits, and a vector `all`
abbrev pub element_bits : Element → (bits all : ℕ) → ℕ
element_bits (One n) bits all = bits
element_bits (PerLane n) bits all = all

abbrev pub element_source : Element → (bits all : ℕ) → Source
element_source second bits all = record { used = true; node = element_node second; width = element_bits second bits all }

-- an element is reached from each lane's product; a vector's cuts may be taken from its own operand
abbrev pub element_nodes : Element → List ℕ
element_nodes (One n) = n.0 ∷ []
element_nodes (PerLane n) = []

abbrev pub element_tree : Element → Expr → (bits lane : ℕ) → Expr
element_tree (One n) b bits lane = b
element_tree (PerLane n) b bits lane = extract_lane b bits lane

-- the bits of a source whose lower lanes, or upper ones, are the narrow factors; an element is taken from a full register
abbrev pub factor_bits : (upper : Bool) (n lanes : ℕ) → ℕ
factor_bits upper n lanes = with_lower upper (n / 2 * lanes)

abbrev pub second_factor_bits : (by_element upper : Bool) (n lanes : ℕ) → ℕ
second_factor_bits by_element upper n lanes = cond by_element 128 (factor_bits upper n lanes)

-- `second_lane`, at any width w of a vector
module _ (old : List ℕ) (k : ℕ) (new : List ℕ) (r : Built) where
  pub record MadeElement (second : Element) (bits lane : ℕ) : Type 0 where
    pub sized : Takes old k new r 1
    pub made : {w : ℕ} {t : Expr} → Valid old k → bits * lane + bits ≤ w → NodeIs old k (element_node second) (element_bits second bits w) t
        → Makes old k new r bits (element_tree second t bits lane) (element_nodes second)
