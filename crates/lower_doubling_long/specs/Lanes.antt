-- One lane of the loop over lanes: d, a and b are the whole sources, j is the lane.
use Rattle.std.specs.Prelude.{Bool, ℕ, ◌/◌}
use Rattle.terms.specs.Expr.{Expr}
use Rattle.std.specs.declared.option.Option.{Option}
use Rattle.terms.specs.declared.BinOp.{BinOp}
use Rattle.trees.specs.Arith.{source_lane}
use Rattle.trees.specs.Trees.{extract_lane, combined, doubling_at}
use Rattle.lower_doubling_long.specs.declared.Element.{Element}
use Rattle.lower_doubling_long.specs.Elements.{element_tree}

-- p is the product's term
abbrev pub combined_at : Option BinOp → (n : ℕ) (d p : Expr) → ℕ → Expr
combined_at combine n d p j = combined combine (extract_lane d n j) p n

abbrev pub doubled_at : Option BinOp → Element → (upper : Bool) (n lanes : ℕ) (d a b : Expr) → ℕ → Expr
doubled_at combine second upper n lanes d a b j = doubling_at combine upper n lanes d a (element_tree second b (n / 2) (source_lane upper lanes j)) j
