-- The records of a list in order: a run of them, and the answer of the whole. Assumes nothing.
use mathlib.Core.Path.{◌≡◌, refl, sym, ap, subst}
use mathlib.Core.List.{List, [], ◌∷◌}
use Prim.Native.Nat.{ℕ, zero, suc, ◌+◌, ◌*◌, ◌/◌, ◌≤◌, ◌<◌}
use native.Mathlib.Omega.{arith}
use native.Mathlib.Nat.{le_of_suc-le-suc, not-suc-le-zero, min-le_left, min-le_right}
use native.Mathlib.Numerals.{add-one}
use lib.ListN.{length, get_or, take}
use lib.Seq.{take-suc, take_all, length-take-le}
use Rattle.std.specs.declared.result.Result.TheVariants.{Ok}
use Rattle.neon.specs.declared.Instruction.{Instruction}
use Rattle.neon.specs.Refusal.{reserve, Legal, AllLegal, block_refusal}
use Rattle.pool.specs.Node.{none as no_node, places, places_in}
use Rattle.pool.specs.Growth.{Room}
use Rattle.block_map.specs.declared.RegisterMap.{RegisterMap}
use Rattle.block_map.specs.Map.{first_map}
use Rattle.block_check.specs.Records.{Refuses}
use Rattle.block_check.proofs.Refusals.{block-legal}
use Rattle.block_record.specs.Step.{MapOk, Steps}
use Rattle.block.specs.Block.{Started, Runs, Answered}
use Rattle.block.proofs.Running.{runs_none, runs-more, runs-first, first-ok, all_done}
use Rattle.block_list_check.proofs.Listed.{none}
use Rattle.block_list.specs.Lent.{answer}

-- ---- a run of them

legal-in : (cs : List Instruction) → AllLegal cs → (k : ℕ) → k < length cs → Legal (get_or cs k none)
legal-in [] l k h = absurd (not-suc-le-zero h)
legal-in (c ∷ cs) l zero h = l.0
legal-in (c ∷ cs) l (suc k) h = legal-in cs l.1 k (le_of_suc-le-suc h)

module _ (w0 : List ℕ) (m0 : RegisterMap) (cs : List Instruction) where
  -- the first k of them
  abbrev pub Ran : ℕ → List ℕ → RegisterMap → Type 0
  Ran k w m = Runs w0 m0 w m (take k cs)

  pub ran-none : MapOk m0 → Ran 0 w0 m0
  ran-none ok = runs_none ok

  pub ran-more : (k : ℕ) {w1 w2 : List ℕ} {m1 m2 : RegisterMap} → k < length cs → Ran k w1 m1 → Steps w1 m1 w2 m2 (get_or cs k none) → Ran (k + 1) w2 m2
  ran-more k l r s = rw (add-one k, take-suc cs k none l) (runs-more r s)

  pub ran-all : (k : ℕ) {w : List ℕ} {m : RegisterMap} → length cs ≤ k → Ran k w m → Runs w0 m0 w m cs
  ran-all k {w} {m} l r = subst (λ (xs : List Instruction). Runs w0 m0 w m xs) (take_all k cs l) r

  -- what the k-th asks for
  pub ran-ok : (k : ℕ) {w : List ℕ} {m : RegisterMap} → Room w0 m0.count (reserve * length cs) → AllLegal cs → k < length cs → Ran k w m
      → Room w m.count reserve × MapOk m × Legal (get_or cs k none)
  ran-ok k {w} {m} room legal l r =
      let n : length (take k cs) ≡ k = length-take-le k cs (omega arith) in
      let most : m.count + reserve ≤ m0.count + reserve * length cs = omega (arith, r.most, n, l) in
      (omega (arith, most, room, r.long), r.map_ok, legal-in cs legal k l)

-- ---- the whole

module _ (w0 : List ℕ) (cs : List Instruction) where
  -- a pool and records that are accepted
  abbrev pub Accepted : Type 0
  Accepted = Refuses {A = Unit {0}} (Ok tt) (block_refusal (places_in (length w0)) cs)

  pub start-room : Accepted → Room w0 0 32
  start-room e =
      let b = block-legal (places w0) cs (sym e.0) in
      omega (arith, b.1, min-le_left (length w0 / 4) no_node, min-le_right (length w0 / 4) no_node)

  pub run_ok : Accepted → {w1 : List ℕ} {m1 : RegisterMap} → Started w0 w1 32 → m1 ≡ first_map → Room w1 m1.count (reserve * length cs) × MapOk m1 × AllLegal cs
  run_ok e {w1} {m1} s q =
      let b = block-legal (places w0) cs (sym e.0) in
      let n : m1.count ≡ 32 = ap (λ (m : RegisterMap). m.count) q in
      (omega (arith, b.1, n, s.grown.long, min-le_left (length w0 / 4) no_node, min-le_right (length w0 / 4) no_node), rw q first-ok, b.2)

  pub all-accepted : Accepted → {w1 w2 : List ℕ} {m1 m2 : RegisterMap} → Started w0 w1 32 → m1 ≡ first_map → Runs w1 m1 w2 m2 cs → Answered w0 cs w2 (answer (Ok tt) m2)
  all-accepted e s q t =
      record {
        number = e.0;
        position = e.1;
        refused = λ z. absurd (z refl);
        accepted = λ _. all_done (block-legal (places w0) cs (sym e.0)).1 s (runs-first q t);
      }
