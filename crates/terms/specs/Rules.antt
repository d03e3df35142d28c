-- The rules that a pool's nodes keep (document 01, "Pool"), as a property of a term.
use Rattle.std.specs.Prelude.{◌≡◌, ◌+◌, ◌≤◌, ◌<◌, ◌^◌}
use Rattle.terms.specs.Expr.{Expr, Var, Const, Bv, Compare, Ite, Extract, Concat, ZeroExtend, SignExtend, width}

unfoldable pub Good : Expr → Type 0
Good (Var r) = r < 32
Good (Const v w) = (0 < w) × (w ≤ 129) × (v < 2 ^ w)
Good (Bv o a b) = Good a × Good b × (width a ≡ width b) × (0 < width a)
Good (Compare o a b) = Good a × Good b × (width a ≡ width b) × (0 < width a)
Good (Ite c a b) = Good c × Good a × Good b × (width c ≡ 0) × (width a ≡ width b) × (0 < width a)
Good (Extract a hi lo) = Good a × (lo ≤ hi) × (hi < width a)
Good (Concat a b) = Good a × Good b × (0 < width a) × (0 < width b) × (width a + width b ≤ 129)
Good (ZeroExtend a w) = Good a × (0 < width a) × (width a ≤ w) × (w ≤ 129)
Good (SignExtend a w) = Good a × (0 < width a) × (width a ≤ w) × (w ≤ 129)
