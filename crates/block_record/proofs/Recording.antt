-- The reads of a record, its form and its widening, put together. Assumes nothing.
use Prim.Native.Nat.{ℕ, ◌+◌, ◌≤◌, ◌<◌}
use mathlib.Core.Path.{◌≡◌, refl, sym, subst, ◌∙◌}
use mathlib.Core.Bool.{Bool, true, false, cond}
use mathlib.Core.List.{List, [], ◌∷◌}
use mathlib.Core.Logic.{⊎_elim, ◌⊎◌, inl, inr}
use native.Mathlib.Omega.{arith}
use lib.Dec.{eqb}
use lib.ListN.{length, length-set}
use borrow.Author.Tests.{eq-eqb}
use Rattle.facts.proofs.Numbers.{before-or-from}
use Rattle.terms.specs.Expr.{Expr}
use Rattle.neon.specs.declared.Instruction.{Instruction}
use Rattle.neon.specs.Op.{Op, op_at, Arrangement, arrangement_at, full, view}
use Rattle.neon.specs.Form.{form, has_second, reads_d, by_element, first_full, second_full, first_bits, second_bits}
use Rattle.neon.specs.Refusal.{most_nodes, record_nodes, Legal}
use Rattle.neon.proofs.Legal.{accepted, m-le}
use Rattle.trees.specs.Block.{widen_tree}
use Rattle.trees.specs.Trees.{result_tree, read_tree, record_tree}
use Rattle.trees.specs.Block as Block
use Rattle.pool.specs.declared.Node.{Node}
use Rattle.pool.specs.declared.Built.{Built}
use Rattle.pool.specs.Rules.{Valid}
use Rattle.pool.specs.Growth.{Reach, NodeIs}
use Rattle.pool.proofs.Laws.{grown-trans, is-kept, reach-kept, reach-trans}
use Rattle.lower.specs.Builds.{Builds1, Lowers, read, read_if}
use Rattle.block_map.specs.declared.RegisterMap.{RegisterMap}
use Rattle.block_map.specs.Map.{node, node_of, written}
use Rattle.block_map.proofs.Nodes.{written_is}
use Rattle.block_reads.specs.Reads.{LowHalf, Reads}
use Rattle.block_reads.proofs.Reading.{read_more, read-most, half-kept}
use Rattle.block_record.specs.Step.{MapOk, MapIs, RegisterRead, StepMade, Steps}

-- ---- the record

either : {ws : List ℕ} {k w x y : ℕ} {s t : Expr} (b : Bool) → NodeIs ws k x w s → NodeIs ws k y w t → NodeIs ws k (cond b x y) w (cond b s t)
either true p q = p
either false p q = q

node_at : {ws : List ℕ} {k w x y : ℕ} {t : Expr} → y ≡ x → NodeIs ws k x w t → NodeIs ws k y w t
node_at {ws} {k} {w} {t = t} e h = subst (λ (z : ℕ). NodeIs ws k z w t) (sym e) h

written_at : (m : RegisterMap) (d n k : ℕ) → d < length m.nodes → node_of (written m d n k) d ≡ n
written_at m d n k h = rw (written_is m d n k d h, eq-eqb d d refl)

-- what a record reads, at its operation o and arrangement v
module _ (m : RegisterMap) (ok : MapOk m) (c : Instruction) (hd : c.d < 32) (hn : c.n < 32) (hm : c.m < 32) (o : Op) (v : Arrangement)
    (eo : op_at c.operation ≡ o) (ev : arrangement_at c.arrangement ≡ v) {w0 w1 w2 w3 w4 w5 : List ℕ} {b1 b2 b3 b4 b5 : Built} {n1 n2 n3 : Node}
    (q1 : n1.0 ≡ node_of m c.n) (q2 : n2.0 ≡ node_of m c.m) (q3 : n3.0 ≡ node_of m c.d)
    (r1 : Reads w0 m.count w1 b1 true (first_full (form o).lanes (full v)) n1)
    (r2 : Reads w1 b1.count w2 b2 (has_second o) (second_full (form o).lanes (by_element o) (full v)) n2)
    (r3 : Reads w2 b2.count w3 b3 (reads_d o v) (full v) n3)
    (f : Lowers w3 b3.count w4 b4 most_nodes (view v) (read_if (reads_d o v) b3.node (view v)) (read b1.node (first_bits o v))
    (read_if (has_second o) b2.node (second_bits o v)) (result_tree o v c.i) [])
    (w : Builds1 w4 b4.count w5 b5 1 b4.node (view v) 128 (widen_tree (full v)) (b4.node.0 ∷ [])) where
  in_map : c.d < length m.nodes
  in_map = omega (arith, ok.size)

  after-at : node_of (written m c.d b5.node.0 b5.count) c.d ≡ b5.node.0
  after-at = written_at m c.d b5.node.0 b5.count in_map

  -- three reads, the form's nodes, one widening
  sizes : (m.count ≤ b5.count) × (b5.count ≤ m.count + record_nodes)
  sizes = (
    omega (arith, read_more r1, read_more r2, read_more r3, f.sized, w.sized),
    omega (arith, read-most r1, read-most r2, read-most r3, f.sized, w.sized),
  )

  after-ok : MapOk (written m c.d b5.node.0 b5.count)
  after-ok = record { size = length-set m.nodes c.d (node b5.node.0) ∙ ok.size; below = λ r l. rw (written_is m c.d b5.node.0 b5.count r in_map) (go r l (eqb r c.d)) }
    where
      go : (r : ℕ) → r < 32 → (b : Bool) → cond b b5.node.0 (node_of m r) < b5.count
      go r l true = w.sized.under
      go r l false = omega (arith, ok.below r l, sizes.0)

  -- the reads that are cuts
  of-n : (x : ℕ) → x < b1.count → LowHalf w5 (node_of m c.n) x → RegisterRead w5 m c x
  of-n x k h = rw (eo, ev) (inl (omega (arith, k, r1.next), h))

  of-m : (x : ℕ) → b1.count ≤ x → x < b2.count → LowHalf w5 (node_of m c.m) x → RegisterRead w5 m c x
  of-m x l k h = rw (eo, ev) (inr (inl (omega (arith, l, r1.next), omega (arith, k, r1.next, r2.next), h)))

  of-d : (x : ℕ) → b2.count ≤ x → x < b3.count → LowHalf w5 (node_of m c.d) x → RegisterRead w5 m c x
  of-d x l k h = rw (eo, ev) (inr (inr (omega (arith, l, r1.next, r2.next), omega (arith, k, r1.next, r2.next, r3.next), h)))

  made : (t : ℕ → Expr) → Valid w0 m.count → MapIs w0 m t → StepMade w0 m w5 (written m c.d b5.node.0 b5.count) c t
  unfolding Block.tree_step Block.record_tree
  made t val h =
      let m1 = r1.made val (node_at q1 (h c.n hn)) in
      let m2 = r2.made m1.valid (is-kept m1.grown (node_at q2 (h c.m hm))) in
      let g2 = grown-trans m1.grown m2.grown in
      let m3 = r3.made m2.valid (is-kept g2 (node_at q3 (h c.d hd))) in
      let g3 = grown-trans g2 m3.grown in
      let mf = f.made {td = read_tree (full v) (t c.d)} {ta = read_tree (first_full (form o).lanes (full v)) (t c.n)}
      {tb = read_tree (second_full (form o).lanes (by_element o) (full v)) (t c.m)} m3.valid m3.is
      (λ u. is-kept (grown-trans m2.grown m3.grown) (m1.is refl)) (λ u. is-kept m3.grown (m2.is u)) in
      let mw = w.made mf.valid mf.is in
      let answered : NodeIs w5 b5.count b5.node.0 128 (record_tree c t) = rw (eo, ev) mw.is in
      let g45 = mw.grown in
      let g35 = grown-trans mf.grown g45 in
      let g25 = grown-trans m3.grown g35 in
      let g15 = grown-trans m2.grown g25 in
      let g05 = grown-trans m1.grown g15 in
      let own : (x : ℕ) → m.count ≤ x → x < b5.count → Reach w5 b5.node.0 x ⊎ RegisterRead w5 m c x =
      λ x l r. ⊎_elim (λ k. inr (of-n x k (half-kept g15 q1 x k (m1.halves x l k))))
      (λ l1. ⊎_elim (λ k. inr (of-m x l1 k (half-kept g25 q2 x k (m2.halves x l1 k))))
      (λ l2. ⊎_elim (λ k. inr (of-d x l2 k (half-kept g35 q3 x k (m3.halves x l2 k))))
      (λ l3. ⊎_elim (λ k. inl (reach-trans mw.ins_reached.0 (reach-kept g45 mf.is.under (mf.all x l3 k)))) (λ l4. inl (mw.all x l4 r))
      (before-or-from x b4.count)) (before-or-from x b3.count)) (before-or-from x b2.count)) (before-or-from x b1.count) in
      record {
        grown = g05;
        valid = mw.valid;
        is = λ x l.
            rw (eo, ev, written_is m c.d b5.node.0 b5.count x in_map)
            (either (eqb x c.d) mw.is (is-kept g05 (h x l)));
        added = rw after-at (record { more = sizes.0; most = omega (arith, sizes.1); is = answered; all = own });
      }

  pub recorded : Steps w0 m w5 (written m c.d b5.node.0 b5.count) c
  recorded =
      record {
        long = w.sized.long ∙ f.sized.long ∙ r3.long ∙ r2.long ∙ r1.long;
        more = sizes.0;
        most = sizes.1;
        map_ok = after-ok;
        map_is = rw after-at refl;
        made = λ {t} val h. made t val h;
      }

-- ---- the registers of an accepted record, and their nodes

pub registers-in : (c : Instruction) → Legal c → (c.d < 32) × (c.n < 32) × (c.m < 32)
registers-in c l =
    let a = accepted c l in
    (omega (arith, a.at-d), omega (arith, a.at_n), omega (arith, a.at-m, m-le (op_at c.operation) (arrangement_at c.arrangement)))

pub nodes-in : (m : RegisterMap) → MapOk m → (c : Instruction) → Legal c → (node_of m c.d < m.count) × (node_of m c.n < m.count) × (node_of m c.m < m.count)
nodes-in m ok c l =
    let r = registers-in c l in
    (ok.below c.d r.0, ok.below c.n r.1, ok.below c.m r.2)
