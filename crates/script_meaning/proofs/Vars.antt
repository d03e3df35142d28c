-- A Var has its register's name and no definition; every other node its own. Assumes nothing.
use mathlib.Core.Path.{◌≡◌, refl, sym}
use mathlib.Core.Bool.{Bool, true, false, false≢true}
use Prim.Native.Nat.{ℕ}
use Rattle.pool.specs.Node.{Kind, bad, var, const, bv, compare, ite, extract, concat, zext, sext, Cell}
use Rattle.script_meaning.specs.Sexp.{Sexp, Items, ◌⨾◌}
use Rattle.script_meaning.specs.Script.{node_name, name_by, defined_by}

abbrev pub is_var : Kind → Bool
is_var bad = false
is_var var = true
is_var const = false
is_var (bv o) = false
is_var (compare o) = false
is_var ite = false
is_var extract = false
is_var concat = false
is_var zext = false
is_var sext = false

pub is-var : (κ : Kind) → is_var κ ≡ true → κ ≡ var
is-var bad h = absurd (false≢true h)
is-var var h = refl
is-var const h = absurd (false≢true h)
is-var (bv o) h = absurd (false≢true h)
is-var (compare o) h = absurd (false≢true h)
is-var ite h = absurd (false≢true h)
is-var extract h = absurd (false≢true h)
is-var concat h = absurd (false≢true h)
is-var zext h = absurd (false≢true h)
is-var sext h = absurd (false≢true h)

pub name-other : (κ : Kind) (k : Cell) (n : ℕ) → is_var κ ≡ false → name_by κ k n ≡ node_name n
name-other bad k n h = refl
name-other var k n h = absurd (false≢true (sym h))
name-other const k n h = refl
name-other (bv o) k n h = refl
name-other (compare o) k n h = refl
name-other ite k n h = refl
name-other extract k n h = refl
name-other concat k n h = refl
name-other zext k n h = refl
name-other sext k n h = refl

pub defined-other : (κ : Kind) (d : Sexp) (xs : Items) → is_var κ ≡ false → defined_by κ d xs ≡ (d ⨾ xs)
defined-other bad d xs h = refl
defined-other var d xs h = absurd (false≢true (sym h))
defined-other const d xs h = refl
defined-other (bv o) d xs h = refl
defined-other (compare o) d xs h = refl
defined-other ite d xs h = refl
defined-other extract d xs h = refl
defined-other concat d xs h = refl
defined-other zext d xs h = refl
defined-other sext d xs h = refl
