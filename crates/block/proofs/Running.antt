-- Records in order: one more at the end of a run, the start of the pool, and the answer of the whole. Assumes nothing.
use Prim.Native.Nat.{ℕ, ◌+◌, ◌*◌, ◌/◌, ◌≤◌, ◌<◌, ◌^◌}
use mathlib.Core.Path.{◌≡◌, refl, sym, ap, subst, ◌∙◌}
use mathlib.Core.List.{List, [], ◌∷◌, ◌++◌}
use mathlib.Core.Logic.{⊎_elim, inl, inr}
use native.Mathlib.Omega.{arith}
use native.Mathlib.Nat.{le_refl, le_trans, zero-add, not-suc-le-zero, min-le_left, min-le_right}
use native.Mathlib.Numerals.{add-one}
use lib.ListN.{length, length-append}
use borrow.Author.Tests.{le-leb}
use Rattle.facts.proofs.Numbers.{before-or-from}
use Rattle.terms.specs.Expr.{Expr, Var}
use Rattle.neon.specs.declared.Instruction.{Instruction}
use Rattle.neon.specs.Refusal.{reserve, AllLegal, block_refusal}
use Rattle.trees.specs.Trees.{tree_step, tree_run}
use Rattle.trees.specs.Block as Block
use Rattle.pool.specs.declared.Built.{Built}
use Rattle.pool.specs.Node.{Cell, kind_at, kinds, none, places}
use Rattle.pool.specs.Rules.{Valid, ok_pool}
use Rattle.pool.specs.Growth.{Room, Grown}
use Rattle.pool_nodes.specs.Builders.{MadeVar}
use Rattle.block_reads.proofs.Reading.{half-kept}
use Rattle.pool.proofs.Laws.{grown-refl, grown-trans, cell-kept, is-kept, reach-kept, packed, appended, unfold-step}
use Rattle.block_map.specs.declared.RegisterMap.{RegisterMap}
use Rattle.block_map.specs.Map.{nodes_from, first_map, written}
use Rattle.block_map.proofs.Nodes.{first-is}
use Rattle.block_record_check.specs.Record.{record_at}
use Rattle.block_check.specs.Records.{records_from, records_of}
use Rattle.block_check.proofs.Refusals.{from-length, block-legal, from_more}
use Rattle.block_record.specs.Step.{MapOk, MapIs, RegisterRead, Added, Steps}
use Rattle.block.specs.Block.{VarAt, Lowered, Accepted, Started, Runs}

-- ---- one record more

-- the terms after one more
pub tree-more : (cs : List Instruction) (c : Instruction) (t : ℕ → Expr) → tree_run (cs ++ c ∷ []) t ≡ tree_step c (tree_run cs t)
unfolding Block.tree_run
tree-more [] c t = refl
tree-more (x ∷ cs) c t = tree-more cs c (tree_step x t)

-- a run adds nodes
pub lowered-more : (ws : List ℕ) (m : RegisterMap) (t : ℕ → Expr) (cs : List Instruction) (m' : RegisterMap) → Lowered ws m t cs m' → m.count ≤ m'.count
lowered-more ws m t [] m' h = rw h (le_refl m.count)
lowered-more ws m t (c ∷ cs) m' h = le_trans h.2.more (lowered-more ws (written m c.d h.0 h.1) (tree_step c t) cs m' h.3)

-- a record's reads stay while the pool grows
reads_kept : {a b : List ℕ} {k k' : ℕ} → Grown a k b k' → (m : RegisterMap) (c : Instruction) (x : ℕ) → x < k → RegisterRead a m c x → RegisterRead b m c x
reads_kept g m c x l (inl h) = inl (h.0, half-kept g refl x l h.1)
reads_kept g m c x l (inr (inl h)) = inr (inl (h.0, h.1, half-kept g refl x l h.2))
reads_kept g m c x l (inr (inr h)) = inr (inr (h.0, h.1, half-kept g refl x l h.2))

-- what a record added stays while the pool grows
pub added-kept : {a b : List ℕ} {k k' : ℕ} → Grown a k b k' → {m : RegisterMap} {t : ℕ → Expr} {c : Instruction} {answer n : ℕ} → n ≤ k → Added a m t c answer n
    → Added b m t c answer n
added-kept g {m} {c = c} l h =
    let i = h.is in
    let kept = is-kept g (record { under = omega (arith, i.under); wide = i.wide; tree = i.tree }) in
    record {
      more = h.more;
      most = h.most;
      is = record { under = i.under; wide = kept.wide; tree = kept.tree };
      all = λ x p q.
          ⊎_elim (λ y. inl (reach-kept g (omega (arith, i.under)) y)) (λ y. inr (reads_kept g m c x (omega arith) y)) (h.all x p q);
    }

-- and so what a run added
lowered-kept : {a b : List ℕ} (m : RegisterMap) (t : ℕ → Expr) (cs : List Instruction) (m' : RegisterMap) {k' : ℕ} → Grown a m'.count b k' → Lowered a m t cs m'
    → Lowered b m t cs m'
lowered-kept m t [] m' g h = h
lowered-kept {a} m t (c ∷ cs) m' g h =
    let n = written m c.d h.0 h.1 in
    (h.0, h.1, added-kept g (lowered-more a n (tree_step c t) cs m' h.3) h.2, lowered-kept n (tree_step c t) cs m' g h.3)

lowered-next : {ws : List ℕ} (m : RegisterMap) (t : ℕ → Expr) (cs : List Instruction) (m' : RegisterMap) (c : Instruction) {answer k : ℕ} → Lowered ws m t cs m'
    → Added ws m' (tree_run cs t) c answer k
    → Lowered ws m t (cs ++ c ∷ []) (written m' c.d answer k)
unfolding Block.tree_run
lowered-next {ws} m t [] m' c {answer} {k} h n =
    (answer, k, subst (λ (x : RegisterMap). Added ws x t c answer k) h n, ap (λ (x : RegisterMap). written x c.d answer k) h)
lowered-next m t (x ∷ cs) m' c h n = (h.0, h.1, h.2, lowered-next (written m x.d h.0 h.1) (tree_step x t) cs m' c h.3 n)

pub runs_none : {ws : List ℕ} {m : RegisterMap} → MapOk m → Runs ws m ws m []
unfolding Block.tree_run
runs_none {ws} {m} ok =
    record {
      long = refl;
      most = omega arith;
      map_ok = ok;
      made = λ v h. record { grown = grown-refl ws m.count; valid = v; is = h; lowered = refl };
    }

pub runs-more : {w0 w1 w2 : List ℕ} {m0 m1 m2 : RegisterMap} {cs : List Instruction} {c : Instruction} → Runs w0 m0 w1 m1 cs → Steps w1 m1 w2 m2 c
    → Runs w0 m0 w2 m2 (cs ++ c ∷ [])
runs-more {w2 = w2} {m0} {m1} {m2} {cs} {c} r s =
    record {
      long = s.long ∙ r.long;
      most = omega (arith, s.most, r.most, length-append cs (c ∷ []));
      map_ok = s.map_ok;
      made = λ {t} v h.
          let a = r.made v h in
          let b = s.made a.valid a.is in
          record {
            grown = grown-trans a.grown b.grown;
            valid = b.valid;
            is = rw (tree-more cs c t) b.is;
            lowered =
                subst (λ (m : RegisterMap). Lowered w2 m0 t (cs ++ c ∷ []) m) (sym s.map_is)
                (lowered-next m0 t cs m1 c (lowered-kept m0 t cs m1 b.grown a.lowered) b.added);
          };
    }

-- ---- the flat records

pub runs-next : {w0 w1 w2 : List ℕ} {m0 m1 m2 : RegisterMap} (flat : List ℕ) (j : ℕ) → Runs w0 m0 w1 m1 (records_from flat 0 j) → Steps w1 m1 w2 m2 (record_at flat j)
    → Runs w0 m0 w2 m2 (records_from flat 0 (j + 1))
runs-next flat j r s = rw (add-one j, from_more flat 0 j, zero-add j) (runs-more r s)

pub runs-all : {w0 w1 : List ℕ} {m0 m1 : RegisterMap} (flat : List ℕ) (j : ℕ) → j ≡ length flat / 6 → Runs w0 m0 w1 m1 (records_from flat 0 j) → Runs w0 m0 w1 m1 (records_of flat)
runs-all flat j e r = rw (← e) r

-- ---- the start of the pool

pub start_none : (ws : List ℕ) → Started ws ws 0
unfolding ok_pool
start_none ws = record { grown = grown-refl ws 0; valid = refl; vars = λ r h. absurd (not-suc-le-zero h) }

pub start-more : {w0 w1 w2 : List ℕ} {k : ℕ} {b : Built} → k < 32 → Room w1 k 1 → Started w0 w1 k → MadeVar w1 k w2 b k → Started w0 w2 (k + 1)
unfolding kind_at kinds
start-more {w0} {w1} {w2} {k} {b} l m s d =
    let a = appended m d.words (λ f e. omega arith) (packed 1 128 (2 ^ k) 0 0 0 k 0 (omega arith) (omega arith) (omega arith) (omega arith)) refl in
    let x = d.made s.valid l in
    record {
      grown = grown-trans s.grown a.grown;
      valid = subst (λ (n : ℕ). Valid w2 n) a.next x.valid;
      vars = λ r h. ⊎_elim (λ p. cell-kept a.grown r p ∙ s.vars r p) (λ p. subst (λ (n : ℕ). VarAt w2 n) {x = k} {y = r} (omega arith) a.cell-is) (before-or-from r k);
    }

-- the registers' nodes have their terms
pub start_is : {old new : List ℕ} → Started old new 32 → MapIs new first_map Var
start_is {new = new} s r h =
    rw (first-is r h)
    (record { under = h; wide = ap (λ (c : Cell). c.width) (s.vars r h); tree = unfold-step new r _ (s.vars r h) })

pub first-ok : MapOk first_map
unfolding nodes_from
first-ok = record { size = refl; below = λ r h. rw (first-is r h) h }

-- ---- the whole

pub all_done : {w0 w1 w2 : List ℕ} {m : RegisterMap} {cs : List Instruction} → 32 + reserve * length cs ≤ places w0 → Started w0 w1 32 → Runs w1 first_map w2 m cs
    → Accepted w0 cs w2 m
all_done {w0} {w1} {w2} {m} {cs} l s r =
    let d = r.made s.valid (start_is s) in
    let long : length w2 ≡ length w0 = r.long ∙ s.grown.long in
    record {
      terms = d.is;
      checked = rw (long, le-leb m.count (places w0) (omega (arith, r.most, l)), d.valid);
      long = long;
      past = λ i h. d.grown.above i h ∙ s.grown.above i (omega (arith, d.grown.more));
      vars = λ x h. cell-kept d.grown x h ∙ s.vars x h;
      plain = λ n f h. d.grown.plain n f f h;
      lowered = d.lowered;
    }

-- what an accepted block of flat records has
pub record Fits (ws flat : List ℕ) : Type 0 where
  pub room : Room ws 0 (32 + reserve * (length flat / 6))
  pub placed : 32 + reserve * length (records_of flat) ≤ places ws
  pub legal : AllLegal (records_of flat)

pub fits : (ws flat : List ℕ) {n : ℕ} → n ≡ (block_refusal (places ws) (records_of flat)).number → n ≤ 0 → Fits ws flat
fits ws flat e h =
    let b = block-legal (places ws) (records_of flat) (omega (arith, e, h)) in
    let n = from-length flat 0 (length flat / 6) in
    let l : 32 + reserve * (length flat / 6) ≤ places ws = rw n at b.1 in
    record { room = omega (arith, l, min-le_left (length ws / 4) none, min-le_right (length ws / 4) none); placed = b.1; legal = b.2 }

-- a run from the map of the start
pub runs-first : {w0 w1 : List ℕ} {m m' : RegisterMap} {cs : List Instruction} → m ≡ first_map → Runs w0 m w1 m' cs → Runs w0 first_map w1 m' cs
runs-first {w0} {w1} {m' = m'} {cs} e r = subst (λ (x : RegisterMap). Runs w0 x w1 m' cs) e r
