-- The theorems of specs/Demand.antt: what the bytes mean, and that only room is wanting. Assumes nothing.
use mathlib.Core.Bool.{Bool, true, false}
use mathlib.Core.List.{List}
use mathlib.Core.Logic.{◌⊎◌, inl, inr}
use mathlib.Core.Path.{◌≡◌, refl, ◌∙◌, subst}
use Prim.Native.Nat.{ℕ, zero, suc, ◌<◌}
use native.Mathlib.Omega.{arith}
use lib.Dec.{leb}
use lib.ListN.{length}
use borrow.Author.Tests.{leb-true}
use Rattle.facts.specs.Refuse.{unless}
use Rattle.pool.specs.Node.{places}
use Rattle.block_map.specs.Map.{node_of}
use Rattle.script_meaning.specs.Script.{script_of}
use Rattle.script_write.specs.Answer as scripts
use Rattle.script_blocks.proofs.Differ.{registers-chosen, differ-when-script-holds}
use Rattle.line_routine.specs.Routine.{routine_of}
use Rattle.script_lines.specs.declared.Given.{Given}
use Rattle.script_lines.specs.Output.{asked_refusal, ScriptGiven}
use Rattle.script_lines.specs.Demand.{OutputMeans, AskedFits}

-- what is not refused names two registers
registers-in : (input : List ℕ) (a b p : ℕ) → (asked_refusal input a b p).number ≡ 0 → (a < 32) × (b < 32)
unfolding asked_refusal
registers-in input a b p h = go (leb a 31) refl (leb b 31) refl
  where
    go : (x : Bool) → leb a 31 ≡ x → (y : Bool) → leb b 31 ≡ y → (a < 32) × (b < 32)
    go true p true q = (omega (arith, leb-true a 31 p), omega (arith, leb-true b 31 q))
    go true p false q = absurd (let e = rw (p, q) at h in omega (arith, e))
    go false p y q = absurd (let e = rw p at h in omega (arith, e))

-- 0 is an answer of what was asked
was-asked : (input : List ℕ) (a b : ℕ) (pool old : List ℕ) (r : Given) (pool' new : List ℕ) → ScriptGiven input a b pool old r pool' new → r.number ≡ 0
    → (asked_refusal input a b (places pool)).number ≡ 0
was-asked input a b pool old r pool' new g z = go (asked_refusal input a b (places pool)).number refl
  where
    go : (n : ℕ) → (asked_refusal input a b (places pool)).number ≡ n → (asked_refusal input a b (places pool)).number ≡ 0
    go zero e = e
    go (suc n) e = absurd (omega (arith, e, z, (g.refused (omega (arith, e))).number_is))

pub output-means : OutputMeans
output-means input a b pool old r pool' new g z start model m =
    let e = was-asked input a b pool old r pool' new g z in
    let k = g.asked e in
    let h = registers-in input a b (places pool) e in
    let map = k.answer.map in
    let s = subst (λ (n : ℕ). scripts.Answered pool' map.count (node_of map a) (node_of map b) old n r.length new) z k.script in
    differ-when-script-holds pool (routine_of input) pool' k.answer k.lowered k.accepted a b h.0 h.1 old r.length new s start model m

pub asked-fits : AskedFits
asked-fits input a b pool old r pool' new g e =
    let k = g.asked e in
    let h = registers-in input a b (places pool) e in
    let c = k.answer.map.count in
    let x = node_of k.answer.map a in
    let y = node_of k.answer.map b in
    let long = leb (length (script_of pool' c x y)) (length old) in
    let n : r.number ≡ unless long 9 0 =
    k.script.number_is ∙ registers-chosen pool (routine_of input) pool' k.answer k.lowered k.accepted a b (unless long 9 0) h.0 h.1
    in
    by long n
  where
    by : (t : Bool) → r.number ≡ unless t 9 0 → (r.number ≡ 0) ⊎ (r.number ≡ 9)
    by true q = inl q
    by false q = inr q
