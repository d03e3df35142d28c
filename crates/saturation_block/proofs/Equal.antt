-- The theorems of specs/Demand.antt. Assumes nothing.
use mathlib.Core.Bool.{Bool, true, false}
use mathlib.Core.Path.{◌≡◌, refl, sym, ap, ◌∙◌, subst}
use mathlib.Core.List.{List, [], ◌∷◌}
use Prim.Native.Nat.{ℕ, ◌+◌, ◌*◌, ◌≤◌, ◌<◌, ◌^◌}
use native.Mathlib.Omega.{arith}
use lib.ListN.{length}
use Rattle.terms.specs.Expr.{Expr, Var}
use Rattle.terms.specs.Value.{value, bit}
use Rattle.pool.specs.Node.{places}
use Rattle.neon.specs.declared.Instruction.{Instruction}
use Rattle.trees.specs.Trees.{tree_step}
use Rattle.block_map.specs.declared.RegisterMap.{RegisterMap}
use Rattle.block_map.specs.Map.{first_map, written}
use Rattle.trees_value.proofs.Block.{block-is}
use Rattle.trees_value.proofs.Range.{block-lt}
use Rattle.block.proofs.Equal.{legal-in}
use Rattle.saturation.specs.Saturates.{saturates_run}
use Rattle.saturation.specs.Bits.{bit_run}
use Rattle.saturation.proofs.Block.{block-bit-is}
use Rattle.saturation_step.specs.Step.{raised, flag_reserve}
use Rattle.saturation_run.specs.Run.{FlagLowered}
use Rattle.saturation_block.specs.Block.{SaturationAnswer, Answered}
use Rattle.saturation_block.specs.Demand.{BitHolds, OneWhenSaturated, EmptyIsZero, RegistersHold, EqualWhenTermsAre, RefusedWhole, RegistersFit, SameTrees, BlockAdds}
use Rattle.saturation_block.proofs.Done.{FlagLegal, flag-legal}

legal-of : {old : List ℕ} {cs : List Instruction} {new : List ℕ} {a : SaturationAnswer} → Answered old cs new a → a.number ≡ 0 → FlagLegal (places old) cs
legal-of {old} {cs} h z = flag-legal (places old) cs (sym h.number ∙ z)

pub bit-holds : BitHolds
bit-holds old cs new a h z start = ap (value start) (h.accepted z).bit_is.tree ∙ (block-bit-is start cs (legal-of h z).legal).val

-- the bit of a test is 1 exactly when it is true
one-when : (b : Bool) → bit b ≡ 1 → b ≡ true
one-when true e = refl
one-when false e = absurd (omega (arith, e))

pub one-when-saturated : OneWhenSaturated
one-when-saturated old cs new a h z start =
    let e = bit-holds old cs new a h z start in
    (λ p. one-when (saturates_run cs start) (sym e ∙ p), λ p. e ∙ ap bit p)

pub empty-is-zero : EmptyIsZero
unfolding bit_run
empty-is-zero old new a h z = (h.accepted z).bit_is.tree

pub registers-hold : RegistersHold
registers-hold old cs new a h z start r l =
    sym (ap (λ (e : Expr). value start e) ((h.accepted z).terms r l).tree ∙ block-is start cs (legal-of h z).legal r)

pub equal-when-terms-are : EqualWhenTermsAre
equal-when-terms-are old cs new a h z old' cs' new' a' h' z' start r r' l l' =
    let p = registers-hold old cs new a h z start r l in
    let q = registers-hold old' cs' new' a' h' z' start r' l' in
    (λ e. sym p ∙ e ∙ q, λ e. p ∙ e ∙ sym q)

pub refused-whole : RefusedWhole
refused-whole old cs new a h c m f =
    let n : (a.number ≡ 0 → ⊥) = λ z. f (legal-in m (legal-of h z).legal) in
    (n, (h.refused n).0, (h.refused n).1, (h.refused n).2)

pub registers-fit : RegistersFit
registers-fit old cs new a h z start bits r l =
    let legal = (legal-of h z).legal in
    subst (λ (k : ℕ). k < 2 ^ 128) (block-is start cs legal r) (block-lt start bits cs legal r l)

pub same-trees : SameTrees
same-trees old cs new a h z old' new' a' h' z' r l = ((h.accepted z).terms r l).tree ∙ sym ((h'.accepted z').terms r l).tree

lowered-most : (ws : List ℕ) (last : ℕ) (m : RegisterMap) (t : ℕ → Expr) (cs : List Instruction) (m' : RegisterMap) → FlagLowered ws last m t cs m'
    → m'.count ≤ m.count + flag_reserve * length cs
lowered-most ws last m t [] m' h = rw h (omega arith)
lowered-most ws last m t (c ∷ cs) m' h =
    omega (arith, h.3.most, lowered-most ws last (written (raised m h.0) c.d h.1 h.2) (tree_step c t) cs m' h.4)

pub block-adds : BlockAdds
block-adds old cs new a h z =
    ((legal-of h z).few, lowered-most new a.bit.0 (raised first_map 33) Var cs a.map (h.accepted z).lowered)
