-- What joined cuts leave: the value of the cut of the cut; of a term that keeps the rules, one Extract; and in the tree of an instruction or of a
-- block no cut of a cut.
use Rattle.std.specs.Prelude.{Bool, true, false, cond, ◌&&◌, not, List, ◌≡◌, ℕ, zero, suc, ◌+◌, ◌-◌, ◌≤◌, ◌<◌}
use Rattle.terms.specs.Expr.{Expr, Var, Const, Bv, Compare, Ite, Extract, Concat, ZeroExtend, SignExtend, width}
use Rattle.terms.specs.Value.{value}
use Rattle.terms.specs.Rules.{Good}
use Rattle.neon.specs.declared.Instruction.{Instruction}
use Rattle.neon.specs.Op.{Op, Arrangement, op_at, arrangement_at, bits_of_lane, view}
use Rattle.neon.specs.Form.{has_form, has_second, reads_d, least, most, first_bits, second_bits}
use Rattle.neon.specs.Refusal.{AllLegal}
use Rattle.trees.specs.Simd.{extract_collapsing}
use Rattle.trees.specs.Trees.{result_tree, tree_run}

-- ---- one cut

-- at every start, and for every term: a cut that joins has the bits and the value of the cut that does not
abbrev pub JoinedValue : Type 0
JoinedValue =
    (start : ℕ → ℕ) (t : Expr) (hi lo : ℕ) → lo ≤ hi
    → (width (extract_collapsing t hi lo) ≡ width (Extract t hi lo)) × (value start (extract_collapsing t hi lo) ≡ value start (Extract t hi lo))

abbrev pub is_cut : Expr → Bool
is_cut (Extract a hi lo) = true
is_cut (Var r) = false
is_cut (Const v w) = false
is_cut (Bv o a b) = false
is_cut (Compare o a b) = false
is_cut (Ite c a b) = false
is_cut (Concat a b) = false
is_cut (ZeroExtend a w) = false
is_cut (SignExtend a w) = false

-- a cut that lies in a term that keeps the rules is one Extract of a term that is no Extract, both bits higher by the same number
abbrev pub JoinedOnce : Type 0
JoinedOnce =
    (t : Expr) (hi lo : ℕ) → Good t → hi < width t
    → (inner : Expr) × (by : ℕ) × (is_cut inner ≡ false) × (extract_collapsing t hi lo ≡ Extract inner (hi + by) (lo + by))

-- ---- whole trees

-- no cut of a cut, anywhere in a term
unfoldable pub all_joined : Expr → Bool
all_joined (Extract a hi lo) = not (is_cut a) && all_joined a
all_joined (Var r) = true
all_joined (Const v w) = true
all_joined (Bv o a b) = all_joined a && all_joined b
all_joined (Compare o a b) = all_joined a && all_joined b
all_joined (Ite c a b) = all_joined c && (all_joined a && all_joined b)
all_joined (Concat a b) = all_joined a && all_joined b
all_joined (ZeroExtend a w) = all_joined a
all_joined (SignExtend a w) = all_joined a

-- what a term's outermost cuts, however many, are made of
abbrev pub uncut : Expr → Expr
uncut (Extract a hi lo) = uncut a
uncut (Var r) = Var r
uncut (Const v w) = Const v w
uncut (Bv o a b) = Bv o a b
uncut (Compare o a b) = Compare o a b
uncut (Ite c a b) = Ite c a b
uncut (Concat a b) = Concat a b
uncut (ZeroExtend a w) = ZeroExtend a w
uncut (SignExtend a w) = SignExtend a w

-- a source of w bits that keeps the rules. It may be a cut of a cut; below its outermost cuts there is none.
pub record Source (t : Expr) (w : ℕ) : Type 0 where
  pub ok : Good t
  pub wide : width t ≡ w
  pub below : all_joined (uncut t) ≡ true

-- the tree of every form and immediate of the table, over such sources as it reads, has no cut of a cut
abbrev pub JoinedResult : Type 0
JoinedResult =
    (o : Op) (v : Arrangement) (i : ℕ) (d a b : Expr) → least o ≤ i → i ≤ most o (bits_of_lane v)
    → (reads_d o v ≡ true → Source d (view v)) → Source a (first_bits o v) → (has_second o ≡ true → Source b (second_bits o v))
    → all_joined (result_tree o v i d a b) ≡ true

-- nor has the term of any register after a block of accepted records
abbrev pub JoinedRun : Type 0
JoinedRun = (cs : List Instruction) → AllLegal cs → (r : ℕ) → r < 32 → all_joined (tree_run cs Var r) ≡ true

-- ---- one computed test over the 469 entries of the form table: at the least immediate, every source a cut of a cut, inner lo 1

abbrev pub nested : (register w : ℕ) → Expr
nested r w = Extract (Extract (ZeroExtend (Var r) 129) 128 1) (w - 1) 0

unfoldable pub form_joined : (operation arrangement : ℕ) → Bool
form_joined operation arrangement =
    let o = op_at operation in
    let v = arrangement_at arrangement in
    cond (has_form o v) (all_joined (result_tree o v (least o) (nested 0 (view v)) (nested 1 (first_bits o v)) (nested 2 (second_bits o v)))) true

unfoldable pub all : ℕ → (ℕ → Bool) → Bool
all zero f = true
all (suc k) f = all k f && f k

abbrev pub NestedJoined : Type 0
NestedJoined = all 67 (λ o. all 7 (λ v. form_joined (suc o) v)) ≡ true
