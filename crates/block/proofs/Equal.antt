-- Demand 3, of every answer and pool that the lowering of a block can leave. Assumes nothing.
use mathlib.Core.Path.{◌≡◌, sym, ap, ◌∙◌, subst}
use mathlib.Core.List.{List, Memᴰ}
use Prim.Native.Nat.{ℕ, ◌<◌, ◌^◌}
use Rattle.terms.specs.Expr.{Expr}
use Rattle.terms.specs.Value.{value}
use Rattle.pool.specs.Node.{places}
use Rattle.neon.specs.declared.Instruction.{Instruction}
use Rattle.neon.specs.Refusal.{Legal, AllLegal}
use Rattle.trees.specs.Joined.{all_joined}
use Rattle.trees_value.proofs.Block.{block-is}
use Rattle.trees_value.proofs.Range.{block-lt}
use Rattle.trees_value.proofs.JoinedTrees.{joined-run}
use Rattle.block_check.proofs.Refusals.{block-legal}
use Rattle.block.specs.Demand.{RegistersHold, EqualWhenTermsAre, RefusedWhole, RegistersFit, RegistersJoined}

pub registers-hold : RegistersHold
registers-hold old cs new a h z start r l =
    let legal = (block-legal (places old) cs (sym h.number ∙ z)).2 in
    sym (ap (λ (e : Expr). value start e) ((h.accepted z).terms r l).tree ∙ block-is start cs legal r)

pub equal-when-terms-are : EqualWhenTermsAre
equal-when-terms-are old cs new a h z old' cs' new' a' h' z' start r r' l l' =
    let p = registers-hold old cs new a h z start r l in
    let q = registers-hold old' cs' new' a' h' z' start r' l' in
    (λ e. sym p ∙ e ∙ q, λ e. p ∙ e ∙ sym q)

pub legal-in : {c : Instruction} {cs : List Instruction} → Memᴰ c cs → AllLegal cs → Legal c
legal-in (Memᴰ.head e) l = subst Legal (sym e) l.0
legal-in (Memᴰ.tail m) l = legal-in m l.1

pub refused-whole : RefusedWhole
refused-whole old cs new a h c m f =
    let n : (a.number ≡ 0 → ⊥) = λ z. f (legal-in m (block-legal (places old) cs (sym h.number ∙ z)).2) in
    (n, (h.refused n).0, (h.refused n).1)

pub registers-fit : RegistersFit
registers-fit old cs new a h z start bits r l =
    let legal = (block-legal (places old) cs (sym h.number ∙ z)).2 in
    subst (λ (k : ℕ). k < 2 ^ 128) (block-is start cs legal r) (block-lt start bits cs legal r l)

pub registers-joined : RegistersJoined
registers-joined old cs new a h z r l =
    let legal = (block-legal (places old) cs (sym h.number ∙ z)).2 in
    ap all_joined ((h.accepted z).terms r l).tree ∙ joined-run cs legal r l
