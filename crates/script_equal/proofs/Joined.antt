-- The theorems of specs/Demand.antt on one script of two registers in a joined pool. Assumes nothing.
use mathlib.Core.Bool.{Bool, true, false, cond}
use mathlib.Core.List.{List}
use mathlib.Core.Path.{◌≡◌, refl, sym, ap, ◌∙◌}
use Prim.Native.Nat.{ℕ, ◌+◌, ◌-◌, ◌≤◌, ◌<◌}
use native.Mathlib.Omega.{arith}
use lib.Dec.{ltb}
use borrow.Author.Tests.{lt-ltb, eq-eqb, ltb-true, ltb-false}
use Rattle.terms.specs.Expr.{Var, width}
use Rattle.neon.specs.declared.Instruction.{Instruction}
use Rattle.pool.specs.Node.{width_at}
use Rattle.pool.specs.Rules.{Valid, of_width}
use Rattle.pool.specs.Unfold.{unfold_at}
use Rattle.pool_check.proofs.Passed.{keeps}
use Rattle.pool_check.proofs.Sound.{sound}
use Rattle.block_map.specs.declared.RegisterMap.{RegisterMap}
use Rattle.block_map.specs.Map.{first_map, node_of}
use Rattle.block.specs.Block.{Accepted}
use Rattle.block.proofs.Running.{lowered-more}
use Rattle.join.specs.Join.{moved, join_count}
use Rattle.join.proofs.Meaning.{terms-kept, joined-passes}
use Rattle.script_length.proofs.Answers.{good-nodes}
use Rattle.script_write.proofs.Means.{apart-when-holds}
use Rattle.script_equal.specs.Demand.{JoinedRegistersChosen, DifferWhenJoinedScriptHolds}
use Rattle.script_equal.proofs.Equal.{first-is, second_is}

-- ---- a node of one pool that is in another with the same tree has the same width there

same_width : (ws : List ℕ) (c n : ℕ) (out : List ℕ) (count x : ℕ) → Valid ws c → Valid out count → n < c → x < count → unfold_at out x ≡ unfold_at ws n
    → width_at ws n ≡ 128 → of_width out count x 128 ≡ true
same_width ws c n out count x v v' l l' e w =
    let wide : width_at out x ≡ 128 = sym (sound out count v' x l').wide ∙ ap width e ∙ (sound ws c v n l).wide ∙ w in
    rw (lt-ltb x count l', eq-eqb (width_at out x) 128 wide)

moved-less : (c d m : ℕ) → 32 ≤ c → 32 ≤ d → m < d → moved c m < join_count c d
moved-less c d m lc ld l = go (ltb m 32) refl
  where
    go : (t : Bool) → ltb m 32 ≡ t → cond t m (m + c - 32) < c + d - 31
    go true e = omega (arith, ltb-true m 32 e)
    go false e = omega (arith, ltb-false m 32 e)

registers-first : {old : List ℕ} {cs : List Instruction} {new : List ℕ} {m : RegisterMap} → Accepted old cs new m → 32 ≤ m.count
registers-first {cs = cs} {new = new} {m = m} A = lowered-more new first_map Var cs m A.lowered

pub joined-registers-chosen : JoinedRegistersChosen
joined-registers-chosen old cs new a A z old' cs' new' a' A' z' r r' h h' buffer out j joined e q q' l l' rest =
    let c = a.map.count in
    let d = a'.map.count in
    let n = node_of a.map q in
    let m = node_of a'.map q' in
    let first = A.accepted z in
    let second = A'.accepted z' in
    let more = registers-first first in
    let more' = registers-first second in
    let passes = joined-passes new c new' d (node_of a.map r) (node_of a'.map r') buffer out j joined e in
    let kept = terms-kept new c new' d (node_of a.map r) (node_of a'.map r') buffer out j joined e in
    let count : j.count ≡ join_count c d = (joined.done e).count in
    let v = keeps out j.count passes in
    let t = first.terms q l in
    let t' = second.terms q' l' in
    good-nodes out j.count n (moved c m) rest passes
    (same_width new c n out j.count n (keeps new c first.checked) v t.under (omega (arith, count, t.under, more')) (kept.0 n t.under) t.wide)
    (same_width new' d m out j.count (moved c m) (keeps new' d second.checked) v t'.under (rw count (moved-less c d m more more' t'.under))
    (kept.1 m t'.under) t'.wide)

pub differ-when-joined-script-holds : DifferWhenJoinedScriptHolds
differ-when-joined-script-holds old cs new a A z old' cs' new' a' A' z' r r' h h' buffer out j joined e q q' l l' buf len text written start model m =
    apart-when-holds out j.count (node_of a.map q) (moved a.map.count (node_of a'.map q')) buf len text written start model m
    (first-is old cs new a A z old' cs' new' a' A' z' r r' buffer out j joined e start q l)
    (second_is old cs new a A z old' cs' new' a' A' z' r r' buffer out j joined e start q' l')
