-- The records of a block with their bits, from what one record does. Assumes nothing.
use mathlib.Core.Path.{◌≡◌, refl, sym, ap, subst, ◌∙◌}
use mathlib.Core.List.{List, [], ◌∷◌, ◌++◌}
use Prim.Native.Nat.{ℕ, ◌+◌, ◌/◌, ◌≤◌, ◌<◌}
use native.Mathlib.Omega.{arith}
use native.Mathlib.Nat.{le_refl, le_trans, zero-add}
use lib.ListN.{length, length-append}
use native.Mathlib.Numerals.{add-one}
use Rattle.terms.specs.Expr.{Expr}
use Rattle.pool.specs.declared.Built.{Built}
use Rattle.pool_nodes.specs.Builders.{MadeConst}
use Rattle.block.specs.Block.{Started}
use Rattle.block.proofs.Running.{start_is}
use Rattle.pool.proofs.Laws.{cell-kept}
use Rattle.neon.specs.declared.Instruction.{Instruction}
use Rattle.trees.specs.Trees.{tree_step, tree_run}
use Rattle.trees.specs.Block as Block
use Rattle.pool.specs.Growth.{Reach, Grown}
use Rattle.pool.proofs.Laws.{grown-refl, grown-trans, is-kept, reach-kept, reach-trans}
use Rattle.block_map.specs.declared.RegisterMap.{RegisterMap}
use Rattle.block_map.specs.Map.{first_map, written}
use Rattle.block_record_check.specs.Record.{record_at}
use Rattle.block_check.specs.Records.{records_from, records_of}
use Rattle.block_record.specs.Step.{MapOk}
use Rattle.block_check.proofs.Refusals.{from_more}
use Rattle.block.proofs.Running.{tree-more, added-kept}
use Rattle.saturation.specs.Bits.{record_bit, bit_run}
use Rattle.saturation_step.specs.declared.Flagged.{Flagged}
use Rattle.saturation_step.specs.Step.{raised, FlagAdded, Flags}
use Rattle.saturation_run.specs.Run.{FlagLowered, FlagRuns, FlagStarted}

bit-more : (cs : List Instruction) (c : Instruction) (t : ℕ → Expr) (b : Expr) → bit_run (cs ++ c ∷ []) t b ≡ record_bit c (tree_run cs t) (bit_run cs t b)
unfolding bit_run Block.tree_run
bit-more [] c t b = refl
bit-more (x ∷ cs) c t b = bit-more cs c (tree_step x t) (record_bit x t b)

lowered-more : (ws : List ℕ) (last : ℕ) (m : RegisterMap) (t : ℕ → Expr) (cs : List Instruction) (m' : RegisterMap) → FlagLowered ws last m t cs m' → m.count ≤ m'.count
lowered-more ws last m t [] m' h = rw h (le_refl m.count)
lowered-more ws last m t (c ∷ cs) m' h =
    let a = h.3 in
    le_trans a.from (le_trans a.added.more (lowered-more ws last (written (raised m h.0) c.d h.1 h.2) (tree_step c t) cs m' h.4))

-- what a run added stays while the pool grows, and is reached from a bit that reaches the last one
flag-kept : {a b : List ℕ} {last next k k' : ℕ} → last < k → Reach b next last → Grown a k b k'
    → {m : RegisterMap} {t : ℕ → Expr} {c : Instruction} {middle answer n : ℕ} → n ≤ k → FlagAdded a last m t c middle answer n
    → FlagAdded b next m t c middle answer n
flag-kept l r g h e =
    record {
      from = e.from;
      bits = λ x p q. reach-trans r (reach-kept g l (e.bits x p q));
      added = added-kept g h e.added;
      most = e.most;
    }

lowered-kept : {a b : List ℕ} {last next : ℕ} (m : RegisterMap) (t : ℕ → Expr) (cs : List Instruction) (m' : RegisterMap) {k' : ℕ} → last < m'.count → Reach b next last
    → Grown a m'.count b k' → FlagLowered a last m t cs m'
    → FlagLowered b next m t cs m'
lowered-kept m t [] m' l r g h = h
lowered-kept {a} {b} {last} m t (c ∷ cs) m' l r g h =
    let n = written (raised m h.0) c.d h.1 h.2 in
    (h.0, h.1, h.2, flag-kept l r g (lowered-more a last n (tree_step c t) cs m' h.4) h.3, lowered-kept n (tree_step c t) cs m' l r g h.4)

lowered-next : {ws : List ℕ} {last : ℕ} (m : RegisterMap) (t : ℕ → Expr) (cs : List Instruction) (m' : RegisterMap) (c : Instruction) {middle answer k : ℕ}
    → FlagLowered ws last m t cs m'
    → FlagAdded ws last m' (tree_run cs t) c middle answer k
    → FlagLowered ws last m t (cs ++ c ∷ []) (written (raised m' middle) c.d answer k)
unfolding Block.tree_run
lowered-next {ws} {last} m t [] m' c {middle} {answer} {k} h n = (
  middle,
  answer,
  k,
  subst (λ (x : RegisterMap). FlagAdded ws last x t c middle answer k) h n,
  ap (λ (x : RegisterMap). written (raised x middle) c.d answer k) h,
)
lowered-next m t (x ∷ cs) m' c h n =
    (h.0, h.1, h.2, h.3, lowered-next (written (raised m h.0) x.d h.1 h.2) (tree_step x t) cs m' c h.4 n)

pub runs_none : {ws : List ℕ} {f : Flagged} → MapOk f.map → f.bit.0 < f.map.count → FlagRuns ws f ws f []
unfolding Block.tree_run bit_run
runs_none {ws} {f} ok l =
    record {
      long = refl;
      most = omega arith;
      map_ok = ok;
      under = l;
      made = λ v h b. record { grown = grown-refl ws f.map.count; valid = v; is = h; bit_is = b; earlier = Reach.here; lowered = refl };
    }

pub runs-more : {w0 w1 w2 : List ℕ} {f0 f1 f2 : Flagged} {cs : List Instruction} {c : Instruction} → FlagRuns w0 f0 w1 f1 cs → Flags w1 f1.map f1.bit w2 f2 c
    → FlagRuns w0 f0 w2 f2 (cs ++ c ∷ [])
runs-more {w2 = w2} {f0} {f1} {f2} {cs} {c} r s =
    record {
      long = s.long ∙ r.long;
      most = omega (arith, s.most, r.most, length-append cs (c ∷ []));
      map_ok = s.map_ok;
      under = s.under;
      made = λ {t} {b = e} v h q.
          let a = r.made v h q in
          let b = s.made a.valid a.is a.bit_is in
          record {
            grown = grown-trans a.grown b.grown;
            valid = b.valid;
            is = rw (tree-more cs c t) b.is;
            bit_is = rw (bit-more cs c t e) b.bit_is;
            earlier = reach-trans b.earlier (reach-kept b.grown r.under a.earlier);
            lowered =
                subst (λ (m : RegisterMap). FlagLowered w2 f2.bit.0 f0.map t (cs ++ c ∷ []) m) (sym b.map_is)
                (lowered-next f0.map t cs f1.map c (lowered-kept f0.map t cs f1.map r.under b.earlier b.grown a.lowered) b.added);
          };
    }

pub runs-next : {w0 w1 w2 : List ℕ} {f0 f1 f2 : Flagged} (flat : List ℕ) (j : ℕ) → FlagRuns w0 f0 w1 f1 (records_from flat 0 j) → Flags w1 f1.map f1.bit w2 f2 (record_at flat j)
    → FlagRuns w0 f0 w2 f2 (records_from flat 0 (j + 1))
runs-next flat j r s = rw (add-one j, from_more flat 0 j, zero-add j) (runs-more r s)

pub runs-all : {w0 w1 : List ℕ} {f0 f1 : Flagged} (flat : List ℕ) (j : ℕ) → j ≡ length flat / 6 → FlagRuns w0 f0 w1 f1 (records_from flat 0 j) → FlagRuns w0 f0 w1 f1 (records_of flat)
runs-all flat j e r = rw (← e) r

pub started : {w0 w1 w2 : List ℕ} {m : RegisterMap} {r : Built} → Started w0 w1 32 → m ≡ first_map → MadeConst w1 m.count w2 r 0 0 1
    → FlagStarted w0 w2 (record { map = raised m r.count; bit = r.node })
started {w0} {w1} {w2} {m} {r} s e d =
    let c : MadeConst w1 32 w2 r 0 0 1 = subst (λ (x : RegisterMap). MadeConst w1 x.count w2 r 0 0 1) e d in
    let n : r.count ≡ 33 = c.words.next in
    let a : r.node.0 ≡ 32 = c.words.at in
    let k = c.made {v = 0} s.valid (omega arith) (omega arith) refl (omega arith) in
    let g : Grown w1 32 w2 33 = subst (λ (x : ℕ). Grown w1 32 w2 x) n k.grown in
    record {
      map_is = rw (e, n) refl;
      bit_at = a;
      grown = grown-trans s.grown g;
      valid = rw n at k.valid;
      vars = λ x h. cell-kept g x h ∙ s.vars x h;
      is = λ x h. is-kept g (start_is s x h);
      bit_is = rw (n, a) at k.is;
    }
