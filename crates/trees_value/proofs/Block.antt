-- A block: at every start, the value of each register's term is what the Arm run leaves in the register. Assumes nothing.
use mathlib.Core.Path.{◌≡◌, refl, ap, ◌∙◌, fun_ext}
use mathlib.Core.Bool.{Bool, true, false, cond}
use mathlib.Core.List.{List, [], ◌∷◌}
use Prim.Native.Nat.{ℕ, ◌%◌, ◌^◌}
use native.Mathlib.Nat.{div-one}
use native.Mathlib.Omega.{arith}
use lib.Dec.{eqb}
use Rattle.terms.specs.Expr.{Expr, Var}
use Rattle.terms.specs.Value.{value}
use Rattle.neon.specs.declared.Instruction.{Instruction}
use Rattle.neon.specs.Op.{op_at, arrangement_at, full}
use Rattle.neon.specs.Form.{form, first_full, second_full, by_element}
use Rattle.neon.specs.Run.{update, read_bits, arm_step, arm_run}
use Rattle.neon.specs.Refusal.{Legal, AllLegal}
use Rattle.neon.proofs.Legal.{accepted}
use Rattle.trees.specs.Block.{widen_tree}
use Rattle.trees.specs.Trees.{read_tree, tree_step, tree_run}
use Rattle.trees.specs.Block as Block
use Rattle.trees_value.proofs.Lanes.{cut-value}
use Rattle.trees_value.proofs.Whole.{result-is}

module _ (start : ℕ → ℕ) where
  pub read_is : (t : Bool) (e : Expr) → value start (read_tree t e) ≡ read_bits t (value start e)
  read_is true e = refl
  read_is false e = cut-value start e 63 0 (omega arith) ∙ ap (λ (x : ℕ). x % 2 ^ 64) (div-one (value start e))

  widen-is : (t : Bool) (e : Expr) → value start (widen_tree t e) ≡ value start e
  unfolding value
  widen-is true e = refl
  widen-is false e = refl

  update-is : (d : ℕ) (e : Expr) (t : ℕ → Expr) (x : ℕ) → value start (update d e t x) ≡ update d (value start e) (λ y. value start (t y)) x
  update-is d e t x = go (eqb x d)
    where
      go : (b : Bool) → value start (cond b e (t x)) ≡ cond b (value start e) (value start (t x))
      go true = refl
      go false = refl

  pub step_is : (c : Instruction) → Legal c → (t : ℕ → Expr) (x : ℕ) → value start (tree_step c t x) ≡ arm_step c (λ y. value start (t y)) x
  unfolding Block.tree_step Block.record_tree arm_step
  step_is c k t x =
      let o = op_at c.operation in
      let v = arrangement_at c.arrangement in
      let l = (form o).lanes in
      let f = (accepted c k).form_of in
      update-is c.d _ t x
      ∙ ap (λ (k : ℕ). update c.d k (λ y. value start (t y)) x)
      (widen-is (full v) _ ∙ (result-is start o v c.i _ _ _ f.low f.high).val
      ∙ rw (read_is (full v) (t c.d), read_is (first_full l (full v)) (t c.n), read_is (second_full l (by_element o) (full v)) (t c.m)))

  pub run_is : (cs : List Instruction) → AllLegal cs → (t : ℕ → Expr) (x : ℕ) → value start (tree_run cs t x) ≡ arm_run cs (λ y. value start (t y)) x
  unfolding Block.tree_run arm_run
  run_is [] l t x = refl
  run_is (c ∷ cs) l t x = run_is cs l.1 (tree_step c t) x ∙ ap (λ (r : ℕ → ℕ). arm_run cs r x) (fun_ext (step_is c l.0 t))

  pub block-is : (cs : List Instruction) → AllLegal cs → (x : ℕ) → value start (tree_run cs Var x) ≡ arm_run cs start x
  unfolding value
  block-is cs l x = run_is cs l Var x
