-- The theorem of specs/Demand.antt on canonical pools. Assumes nothing.
use mathlib.Core.Bool.{true}
use mathlib.Core.List.{List}
use mathlib.Core.Path.{◌≡◌, sym, ap, ◌∙◌, subst}
use Prim.Native.Nat.{ℕ, zero, suc, ◌+◌, ◌-◌, ◌*◌, ◌^◌, ◌<◌}
use native.Mathlib.Omega.{arith}
use borrow.Author.Tests.{lt-ltb, eq-eqb}
use Rattle.terms.specs.declared.CmpOp.TheVariants.{Eq}
use Rattle.terms.specs.Expr.{Compare}
use Rattle.terms.specs.Value.{value}
use Rattle.pool.specs.Node.{Cell, cell_at}
use Rattle.pool.specs.Rules.{Valid, width_before, ok_cell}
use Rattle.pool.specs.Unfold.{unfold_at}
use Rattle.pool.proofs.Facts.{valid-node}
use Rattle.pool.proofs.Laws.{unfold-step}
use Rattle.pool_rules.proofs.Kept.{compare-tests}
use Rattle.block_map.specs.Map.{node_of}
use Rattle.block.proofs.Equal.{equal-when-terms-are}
use Rattle.join.proofs.Meaning.{eq-holds}
use Rattle.canonical_write.proofs.Meaning.{last-is-root}
use Rattle.pool_check.proofs.Passed.{keeps, below, has_width}
use Rattle.script_lane_length.proofs.Answers.{fine}
use Rattle.script_lane_meaning.proofs.Values.{value-fits}
use Rattle.script_equal.specs.Demand.{Unmet, NoLaneMet, Start, eq_of, EqualWhenNoCanonicalLaneIsMet}
use Rattle.script_equal.proofs.Lanes.{lanes-equal}
use Rattle.script_equal.proofs.Equal.{lane-equal, some_bits}

some_lanes : (w k : ℕ) → w * k ≡ 128 → 0 < k
some_lanes w zero e = absurd (omega arith)
some_lanes w (suc k) e = omega arith

-- what a script that was written says of the pool and of a node that it is about
pub record Chosen (ws : List ℕ) (count x y : ℕ) : Type 0 where
  pub valid : Valid ws count
  pub x-less : x < count
  pub y-less : y < count
  pub fit : (start : ℕ → ℕ) → Start start → (value start (unfold_at ws x) < 2 ^ 128) × (value start (unfold_at ws y) < 2 ^ 128)

chosen : (ws : List ℕ) (count x y hi lo : ℕ) → Unmet ws count x y hi lo → Chosen ws count x y
chosen ws count x y hi lo u =
    let g = (fine ws count x y hi lo _ (sym u.written.number_is)).nodes in
    let v = keeps ws count g.pool in
    let lx = below ws count x 128 g.first in
    let ly = below ws count y 128 g.second in
    let wx = has_width ws count x 128 g.first in
    let wy = has_width ws count y 128 g.second in
    record {
      valid = v;
      x-less = lx;
      y-less = ly;
      fit = λ start bits. (rw wx at (value-fits start bits ws count x v lx), rw wy at (value-fits start bits ws count y v ly));
    }

module _ (ws : List ℕ) (count x y : ℕ) (some : 0 < count) (eq : cell_at ws (count - 1) ≡ eq_of x y) (w k : ℕ) (p : w * k ≡ 128) (unmet : NoLaneMet ws count x y w k) where
  abbrev n : ℕ
  n = count - 1

  known : Chosen ws count x y
  known = chosen ws count x y _ _ (unmet 0 (some_lanes w k p))

  -- the Eq's operands are before it
  before : (x < n) × (y < n)
  before =
      let ok = subst (λ (c : Cell). ok_cell ws n c ≡ true) eq (valid-node ws count n known.valid (omega arith)) in
      let t = compare-tests n (eq_of x y) (width_before ws n x) (width_before ws n y) (width_before ws n 0) Eq ok in
      (t.1, t.2)

  eq-tree : unfold_at ws n ≡ Compare Eq (unfold_at ws x) (unfold_at ws y)
  eq-tree = unfold-step ws n (eq_of x y) eq ∙ rw (lt-ltb x n before.0, lt-ltb y n before.1)

  module _ (start : ℕ → ℕ) (bits : Start start) where
    nodes-equal : value start (unfold_at ws x) ≡ value start (unfold_at ws y)
    nodes-equal =
        let f = known.fit start bits in
        lanes-equal w _ _ (some_bits w k p) k 128 p f.0 f.1 (λ i g. lane-equal ws count x y (w * i + (w - 1)) (w * i) (unmet i g) start bits)

    pub eq-is-1 : value start (unfold_at ws n) ≡ 1
    unfolding value
    eq-is-1 = rw (eq-tree, eq-eqb _ _ nodes-equal)

pub equal-when-no-canonical-lane-is-met : EqualWhenNoCanonicalLaneIsMet
equal-when-no-canonical-lane-is-met old cs new a A z old' cs' new' a' A' z' r r' h h' buffer out j joined e room ws c C y0 x y eq w k p unmet start bits =
    let some : 0 < c.count = omega (arith, (chosen ws c.count x y _ _ (unmet 0 (some_lanes w k p))).x-less) in
    let root = last-is-root out j.count j.node room ws c C y0 in
    let one : value start (unfold_at out j.node) ≡ 1 = sym (ap (value start) root) ∙ eq-is-1 ws c.count x y some eq w k p unmet start bits in
    let same = (eq-holds new a.map.count new' a'.map.count (node_of a.map r) (node_of a'.map r') buffer out j joined e start).0 one in
    (equal-when-terms-are old cs new a A z old' cs' new' a' A' z' start r r' h h').1 same
