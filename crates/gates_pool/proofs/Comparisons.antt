-- Nodes of comparisons and of choices: their values, and what their circuits make. Assumes nothing.
use mathlib.Core.Path.{◌≡◌, refl, sym, ap, ◌∙◌, subst}
use mathlib.Core.Bool.{Bool, true, false}
use mathlib.Core.List.{List}
use mathlib.Core.Logic.{inl}
use Prim.Native.Nat.{ℕ, ◌+◌, ◌*◌, ◌≤◌, ◌<◌}
use native.Mathlib.Omega.{arith}
use lib.ListN.{get_or, set, length-set}
use lib.Seq.{get_or-set_same, get_or-set_other}
use Rattle.terms.specs.Expr.{Expr, width}
use Rattle.terms.specs.Value.{value, bit, ite}
use Rattle.pool.specs.Node.{Kind, kinds, kind_at, cell_at, width_at, kind_number}
use Rattle.pool.specs.Unfold.{shape_of, unfold_at}
use Rattle.pool_fields.specs.Fields.{op_a, op_b, op_c}
use Rattle.pool_rules.proofs.Numbers.{within}
use Rattle.text_parts.specs.Text as nodes
use Rattle.gates.specs.Graph.{truth}
use Rattle.gates.specs.Grow.{Room, Builds, Under}
use Rattle.gates_words.specs.Number.{number, sum, bit_at}
use Rattle.gates_words.specs.Words.{Writes, Reads, Operand}
use Rattle.gates_words.specs.Bitwise.{ite_of}
use Rattle.gates_pool.specs.Bits.{Start, literals}
use Rattle.gates_pool.specs.Gates.{gates_for, work_width, gates_at, compare_holds, Ready, Made}
use Rattle.gates_pool.proofs.Rules.{most, compare-facts, ite-facts}
use Rattle.gates_pool.proofs.Values.{literals-wide, tree, operand-tree, operand-width, operand_low, operand-number, under}
use Rattle.gates_pool.proofs.Steps.{one_more}

pub built-as : {g h : List ℕ} {k l n : ℕ} (bits : List ℕ) (w kind κ a b : ℕ) → kind ≡ κ
    → Builds g k h l n (gates_for (kind_at κ) w) (λ start. compare_holds (kind_at κ) w (number start g bits a w) (number start g bits b w))
    → Builds g k h l n (gates_for (kind_at kind) w) (λ start. compare_holds (kind_at kind) w (number start g bits a w) (number start g bits b w))
built-as {g} {h} {k} {l} {n} bits w kind κ a b e d =
    subst (λ (m : ℕ). Builds g k h l n (gates_for (kind_at m) w) (λ start. compare_holds (kind_at m) w (number start g bits a w) (number start g bits b w)))
    (sym e) d

-- a word of one bit
one_bit : (f : ℕ → Bool) → sum f 1 ≡ bit (f 0)
unfolding sum
one_bit f = omega arith

choice : (t : Bool) (a b : ℕ) → ite (bit t) a b ≡ ite_of t a b
choice true a b = refl
choice false a b = refl

module _ (ws : List ℕ) (n : ℕ) (r : nodes.Ready ws n) where
  pub gates-flat : 12 ≤ kind_number ws n → kind_number ws n < 15 → gates_at ws n ≡ gates_for (kind_at (kind_number ws n)) (width_at ws (op_a ws n))
  unfolding gates_at kinds
  gates-flat f t =
      let a = width_at ws (op_a ws n) in
      within (λ κ. gates_for κ (work_width κ (width_at ws n) a) ≡ gates_for κ a) 12 3 (refl, (refl, (refl, tt))) (kind_number ws n) f t

  pub gates-chosen : kind_number ws n ≡ 15 → gates_at ws n ≡ 3 * width_at ws n
  unfolding gates_at kind_at kinds
  gates-chosen e = ap (λ (m : ℕ). gates_for (kind_at m) (work_width (kind_at m) (width_at ws n) (width_at ws (op_a ws n)))) e

  module _ (start : ℕ → ℕ) (f : 12 ≤ kind_number ws n) (t : kind_number ws n < 15) where
    abbrev A : Expr
    A = under ws n r (op_a ws n)

    abbrev B : Expr
    B = under ws n r (op_b ws n)

    abbrev Valued : Kind → Type 0
    Valued κ = value start (shape_of κ (cell_at ws n) A B (under ws n r (op_c ws n))) ≡ bit (compare_holds κ (width A) (value start A) (value start B))

    compare-value : value start (unfold_at ws n)
        ≡ bit (compare_holds (kind_at (kind_number ws n)) (width_at ws (op_a ws n)) (value start (unfold_at ws (op_a ws n))) (value start (unfold_at ws (op_b ws n))))
    unfolding value kinds
    compare-value =
        let x = compare-facts ws n r f t in
        ap (value start) (tree ws n r (kind_number ws n) refl)
        ∙ within Valued 12 3 (refl, (refl, (refl, tt))) (kind_number ws n) f t
        ∙ (λ i.
        bit (compare_holds (kind_at (kind_number ws n)) (operand-width ws n r x.a i) (value start (operand-tree ws n r x.a i))
        (value start (operand-tree ws n r x.b i))))

  module _ {g bits : List ℕ} {k : ℕ} (ready : Ready ws n g k bits) (f : 12 ≤ kind_number ws n) (t : kind_number ws n < 15) where
    abbrev W : ℕ
    W = width_at ws (op_a ws n)

    reads : {m : ℕ} → m < n → width_at ws m ≡ W → Reads bits (129 * m) W k
    reads {m} l e =
        let q = most ws n r m (omega (arith, l)) in
        record {
          inside = omega (arith, l, e, q, ready.placed.places);
          low = λ j h. operand_low ws n r g k bits ready.held l (rw e h);
        }

    its-number : (start : ℕ → ℕ) → Start start → {m : ℕ} → m < n → width_at ws m ≡ W → 1 ≤ W → number start g bits (129 * m) W ≡ value start (unfold_at ws m)
    its-number start small {m} l e q =
        ap (number start g bits (129 * m)) (sym e) ∙ operand-number ws n r g k bits ready.held start small l (omega (arith, e, q))

    compared : {h : List ℕ} {l c : ℕ} → Builds g k h l c (gates_for (kind_at (kind_number ws n)) W)
        (λ start. compare_holds (kind_at (kind_number ws n)) W (number start g bits (129 * op_a ws n) W) (number start g bits (129 * op_b ws n) W))
        → Made ws n g k bits h c (set bits (129 * n) l)
    compared {h} {l} {c} d =
        let x = compare-facts ws n r f t in
        let new = set bits (129 * n) l in
        let here : get_or new (129 * n) 0 ≡ l = get_or-set_same bits (129 * n) l 0 (omega (arith, ready.placed.places)) in
        let zero-place : 129 * n + 0 ≡ 129 * n = omega arith in
        one_more new ready d.grown (rw (gates-flat f t) d.most) (length-set bits (129 * n) l)
        (λ p q. get_or-set_other bits (129 * n) p l 0 (λ e. omega (arith, e, q)))
        (rw x.flat (λ j q. let e : 129 * n + j ≡ 129 * n = omega (arith, q) in rw (e, here) d.under))
        (λ start small.
        ap (λ (w : ℕ). number start h new (129 * n) (literals w)) x.flat ∙ one_bit (bit_at start h new (129 * n))
        ∙ ap (λ (p : ℕ). bit (truth start h (get_or new p 0))) zero-place
        ∙ ap (λ (p : ℕ). bit (truth start h p)) here
        ∙ ap bit (d.is start)
        ∙ (λ i.
        bit (compare_holds (kind_at (kind_number ws n)) W (its-number start small x.a refl x.some i)
        (its-number start small x.b x.width-b x.some i)))
        ∙ sym (compare-value start f t))

    -- as code has read the node
    module _ {kind a b w : ℕ} (is-kind : kind ≡ kind_number ws n) (is-a : a ≡ op_a ws n) (is_b : b ≡ op_b ws n) (is-w : w ≡ W) where
      pub first_read : Reads bits (129 * a) w k
      first_read = rw (is-a, is-w) (reads (compare-facts ws n r f t).a refl)

      pub second-read : Reads bits (129 * b) w k
      second-read = let x = compare-facts ws n r f t in rw (is_b, is-w) (reads x.b x.width-b)

      pub room-flat : Room g k (gates_for (kind_at kind) w)
      room-flat = rw (is-kind, is-w) (rw (gates-flat f t) at ready.room)

      pub compared-read : {h : List ℕ} {l c : ℕ} → Builds g k h l c (gates_for (kind_at kind) w)
          (λ start. compare_holds (kind_at kind) w (number start g bits (129 * a) w) (number start g bits (129 * b) w))
          → Made ws n g k bits h c (set bits (129 * n) l)
      compared-read d = compared (rw (is-a, is_b, is-w, is-kind) at d)

  -- ---- choices
  module _ {g bits : List ℕ} {k : ℕ} (ready : Ready ws n g k bits) (e : kind_number ws n ≡ 15) where
    choice-value : (start : ℕ → ℕ)
        → value start (unfold_at ws n) ≡ ite (value start (unfold_at ws (op_a ws n))) (value start (unfold_at ws (op_b ws n))) (value start (unfold_at ws (op_c ws n)))
    unfolding value kind_at kinds
    choice-value start =
        let x = ite-facts ws n r e in
        ap (value start) (tree ws n r 15 e)
        ∙ (λ i. ite (value start (operand-tree ws n r x.a i)) (value start (operand-tree ws n r x.b i)) (value start (operand-tree ws n r x.c i)))

    condition-place : 129 * op_a ws n + 0 ≡ 129 * op_a ws n
    condition-place = omega arith

    pub condition-under : Under (get_or bits (129 * op_a ws n) 0) k
    condition-under =
        let x = ite-facts ws n r e in
        let l = ready.held.low (op_a ws n) x.a 0 (rw x.flat (omega arith)) in
        subst (λ (p : ℕ). Under (get_or bits p 0) k) condition-place l

    condition-value : (start : ℕ → ℕ) → Start start → bit (truth start g (get_or bits (129 * op_a ws n) 0)) ≡ value start (unfold_at ws (op_a ws n))
    condition-value start small =
        let x = ite-facts ws n r e in
        sym
        (sym (ready.held.is start small (op_a ws n) x.a) ∙ ap (λ (w : ℕ). number start g bits (129 * op_a ws n) (literals w)) x.flat
        ∙ one_bit (bit_at start g bits (129 * op_a ws n))
        ∙ ap (λ (p : ℕ). bit (truth start g (get_or bits p 0))) condition-place)

    arm : {m : ℕ} → m < n → width_at ws m ≡ width_at ws n → Operand bits (129 * m) (129 * n) (width_at ws n) k
    arm {m} l q =
        let w = most ws n r n (omega arith) in
        record {
          apart = inl (omega (arith, l, w));
          inside = omega (arith, l, w, ready.placed.places);
          low = λ j h. operand_low ws n r g k bits ready.held l (rw q h);
        }

    arm-number : (start : ℕ → ℕ) → Start start → {m : ℕ} → m < n → width_at ws m ≡ width_at ws n → 1 ≤ width_at ws n
        → number start g bits (129 * m) (width_at ws n) ≡ value start (unfold_at ws m)
    arm-number start small {m} l q s =
        ap (number start g bits (129 * m)) (sym q) ∙ operand-number ws n r g k bits ready.held start small l (omega (arith, q, s))

    chosen : {h new : List ℕ} {c : ℕ}
        → Writes g k bits h c new (129 * n) (width_at ws n) (3 * width_at ws n)
        (λ start. ite_of (truth start g (get_or bits (129 * op_a ws n) 0)) (number start g bits (129 * op_b ws n) (width_at ws n))
        (number start g bits (129 * op_c ws n) (width_at ws n)))
        → Made ws n g k bits h c new
    unfolding kind_at kinds
    chosen {h} {new} {c} d =
        let x = ite-facts ws n r e in
        let all = literals-wide (width_at ws n) x.some in
        one_more new ready d.run.grown (rw (gates-chosen e) d.run.most) d.run.size d.run.before (rw all d.run.low)
        (λ start small.
        ap (number start h new (129 * n)) all ∙ d.is start
        ∙ sym (choice (truth start g (get_or bits (129 * op_a ws n) 0)) _ _)
        ∙ (λ i.
        ite (condition-value start small i) (arm-number start small x.b x.width-b x.some i) (arm-number start small x.c x.width-c x.some i))
        ∙ sym (choice-value start))

    -- as code has read the node
    module _ {c a b w : ℕ} (is_c : c ≡ op_a ws n) (is-a : a ≡ op_b ws n) (is_b : b ≡ op_c ws n) (is-w : w ≡ width_at ws n) where
      pub yes-read : Operand bits (129 * a) (129 * n) w k
      yes-read = let x = ite-facts ws n r e in rw (is-a, is-w) (arm x.b x.width-b)

      pub no_read : Operand bits (129 * b) (129 * n) w k
      no_read = let x = ite-facts ws n r e in rw (is_b, is-w) (arm x.c x.width-c)

      pub condition-read : Under (get_or bits (129 * c) 0) k
      condition-read = rw is_c condition-under

      pub room-choice : Room g k (3 * w)
      room-choice = rw is-w (rw (gates-chosen e) at ready.room)

      pub chosen-read : {h new : List ℕ} {m : ℕ}
          → Writes g k bits h m new (129 * n) w (3 * w)
          (λ start. ite_of (truth start g (get_or bits (129 * c) 0)) (number start g bits (129 * a) w) (number start g bits (129 * b) w))
          → Made ws n g k bits h m new
      chosen-read d = chosen (rw (is_c, is-a, is_b, is-w) at d)
