-- The narrowing of a value that is no Extract, as that of a shift: its cut is joined to nothing.
use Rattle.std.specs.Prelude.{ℕ, ◌-◌}
use Rattle.terms.specs.Expr.{Expr, Extract}
use Rattle.std.specs.declared.option.Option.{Option}
use Rattle.trees.specs.declared.SaturateTo.{SaturateTo}
use Rattle.std.specs.declared.option.Option.TheVariants.{None, Some}
use Rattle.trees.specs.Trees.{clamp}

abbrev pub narrowed_plain : (value : Expr) (wide n : ℕ) → Option SaturateTo → Expr
narrowed_plain value wide n None = Extract value (n - 1) 0
narrowed_plain value wide n (Some to) = clamp value wide n to
