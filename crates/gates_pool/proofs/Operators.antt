-- Nodes of operators: their gates, their values, and what their circuits make. Assumes nothing.
use mathlib.Core.Path.{◌≡◌, refl, sym, ap, ◌∙◌, subst}
use mathlib.Core.List.{List}
use Prim.Native.Nat.{ℕ, ◌+◌, ◌*◌, ◌≤◌, ◌<◌}
use native.Mathlib.Omega.{arith}
use lib.ListN.{length}
use Rattle.terms.specs.Expr.{Expr, width}
use Rattle.terms.specs.Value.{value}
use Rattle.pool.specs.Node.{Kind, kinds, kind_at, cell_at, width_at, kind_number}
use Rattle.pool.specs.Unfold.{shape_of, unfold_at}
use Rattle.pool_fields.specs.Fields.{op_a, op_b, op_c}
use Rattle.pool_rules.proofs.Numbers.{within}
use Rattle.text_parts.specs.Text as nodes
use Rattle.gates.specs.Grow.{Room}
use Rattle.gates_words.specs.Number.{number}
use Rattle.gates_words.specs.Words.{Writes}
use Rattle.gates_circuits.specs.Makes.{Makes, Two}
use Rattle.gates_circuits.proofs.Laws.{run-from, writes-word}
use Rattle.gates_pool.specs.Bits.{Start}
use Rattle.gates_pool.specs.Gates.{gates_for, work_width, gates_at, bv_value, Ready, Made}
use Rattle.gates_pool.proofs.Rules.{most, bv-facts}
use Rattle.gates_pool.proofs.Values.{literals-wide, tree, operand-tree, operand-width, operand_low, operand-number, under}
use Rattle.gates_pool.proofs.Steps.{one_more}

-- a number that is none of 3 to 10
pub up : (m k : ℕ) → m ≤ k → (k ≡ m → ⊥) → m + 1 ≤ k
up m k l n = omega arith

pub eleven : (k : ℕ) → 11 ≤ k → k < 12 → k ≡ 11
eleven k l h = omega arith

-- what is said of a kind is said of its number
pub room_as : {g : List ℕ} {k : ℕ} (w kind κ : ℕ) → kind ≡ κ → Room g k (gates_for (kind_at kind) w) → Room g k (gates_for (kind_at κ) w)
room_as {g} {k} w kind κ e r = subst (λ (m : ℕ). Room g k (gates_for (kind_at m) w)) e r

pub made_as : {g bits h new : List ℕ} {k n out w : ℕ} (kind κ a b : ℕ) → kind ≡ κ
    → Makes g k bits h n new out w (gates_for (kind_at κ) w) (λ start. bv_value (kind_at κ) w (number start g bits a w) (number start g bits b w))
    → Makes g k bits h n new out w (gates_for (kind_at kind) w) (λ start. bv_value (kind_at kind) w (number start g bits a w) (number start g bits b w))
made_as {g} {bits} {h} {new} {k} {n} {out} {w} kind κ a b e d =
    subst (λ (m : ℕ). Makes g k bits h n new out w (gates_for (kind_at m) w)
    (λ start. bv_value (kind_at m) w (number start g bits a w) (number start g bits b w))) (sym e) d

pub writes-makes : {g bits h new : List ℕ} {k l out w m : ℕ} {f : (ℕ → ℕ) → ℕ} → out + w ≤ length bits → Writes g k bits h l new out w m f
    → Makes g k bits h l new out w m f
writes-makes inside d = record { goes = run-from d.run; word = writes-word inside d }

module _ (ws : List ℕ) (n : ℕ) (r : nodes.Ready ws n) where
  pub gates-at : 3 ≤ kind_number ws n → kind_number ws n < 12 → gates_at ws n ≡ gates_for (kind_at (kind_number ws n)) (width_at ws n)
  unfolding gates_at kinds
  gates-at f t =
      within (λ κ. gates_for κ (work_width κ (width_at ws n) (width_at ws (op_a ws n))) ≡ gates_for κ (width_at ws n)) 3 9
      (refl, (refl, (refl, (refl, (refl, (refl, (refl, (refl, (refl, tt))))))))) (kind_number ws n) f t

  module _ (start : ℕ → ℕ) (f : 3 ≤ kind_number ws n) (t : kind_number ws n < 12) where
    abbrev A : Expr
    A = under ws n r (op_a ws n)

    abbrev B : Expr
    B = under ws n r (op_b ws n)

    abbrev Valued : Kind → Type 0
    Valued κ = value start (shape_of κ (cell_at ws n) A B (under ws n r (op_c ws n))) ≡ bv_value κ (width A) (value start A) (value start B)

    bv-value : value start (unfold_at ws n) ≡ bv_value (kind_at (kind_number ws n)) (width_at ws n) (value start (unfold_at ws (op_a ws n)))
        (value start (unfold_at ws (op_b ws n)))
    unfolding value kinds
    bv-value =
        let x = bv-facts ws n r f t in
        ap (value start) (tree ws n r (kind_number ws n) refl)
        ∙ within Valued 3 9 (refl, (refl, (refl, (refl, (refl, (refl, (refl, (refl, (refl, tt))))))))) (kind_number ws n) f t
        ∙ (λ i. bv_value (kind_at (kind_number ws n)) ((operand-width ws n r x.a ∙ x.width-a) i) (value start (operand-tree ws n r x.a i))
        (value start (operand-tree ws n r x.b i)))

  module _ {g bits : List ℕ} {k : ℕ} (ready : Ready ws n g k bits) (f : 3 ≤ kind_number ws n) (t : kind_number ws n < 12) where
    pub operands : Two bits (129 * op_a ws n) (129 * op_b ws n) (129 * n) (width_at ws n) k
    operands =
        let x = bv-facts ws n r f t in
        let m = most ws n r n (omega arith) in
        record {
          first = omega (arith, x.a, m);
          second = omega (arith, x.b, m);
          low_a = λ j l. operand_low ws n r g k bits ready.held x.a (rw x.width-a l);
          low_b = λ j l. operand_low ws n r g k bits ready.held x.b (rw x.width-b l);
        }

    its-number : (start : ℕ → ℕ) → Start start → {m : ℕ} → m < n → width_at ws m ≡ width_at ws n → 1 ≤ width_at ws n
        → number start g bits (129 * m) (width_at ws n) ≡ value start (unfold_at ws m)
    its-number start small {m} l e q =
        ap (number start g bits (129 * m)) (sym e) ∙ operand-number ws n r g k bits ready.held start small l (omega (arith, e, q))

    pub operated : {h new : List ℕ} {l : ℕ}
        → Makes g k bits h l new (129 * n) (width_at ws n) (gates_for (kind_at (kind_number ws n)) (width_at ws n))
        (λ start. bv_value (kind_at (kind_number ws n)) (width_at ws n) (number start g bits (129 * op_a ws n) (width_at ws n))
        (number start g bits (129 * op_b ws n) (width_at ws n)))
        → Made ws n g k bits h l new
    operated {h} {new} {l} d =
        let x = bv-facts ws n r f t in
        let all = literals-wide (width_at ws n) x.some in
        one_more new ready d.goes.grown (rw (gates-at f t) d.goes.most) d.goes.size d.goes.before (rw all d.word.low)
        (λ start small.
        ap (number start h new (129 * n)) all ∙ d.word.is start
        ∙ (λ i. bv_value (kind_at (kind_number ws n)) (width_at ws n) (its-number start small x.a x.width-a x.some i)
        (its-number start small x.b x.width-b x.some i))
        ∙ sym (bv-value start f t))

    -- as code has read the node
    module _ {kind a b w : ℕ} (is-kind : kind ≡ kind_number ws n) (is-a : a ≡ op_a ws n) (is_b : b ≡ op_b ws n) (is-w : w ≡ width_at ws n) where
      pub operands-read : Two bits (129 * a) (129 * b) (129 * n) w k
      operands-read = rw (is-a, is_b, is-w) operands

      pub room-read : Room g k (gates_for (kind_at kind) w)
      room-read = rw (is-kind, is-w) (rw (gates-at f t) at ready.room)

      pub operated-read : {h new : List ℕ} {l : ℕ}
          → Makes g k bits h l new (129 * n) w (gates_for (kind_at kind) w)
          (λ start. bv_value (kind_at kind) w (number start g bits (129 * a) w) (number start g bits (129 * b) w))
          → Made ws n g k bits h l new
      operated-read d = operated (rw (is-a, is_b, is-w, is-kind) at d)
