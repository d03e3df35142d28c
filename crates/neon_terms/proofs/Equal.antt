-- Demand 3, of every number and words that `neon_lower_block` can leave. Assumes nothing.
use mathlib.Core.Path.{sym, ap, ◌∙◌, subst}
use mathlib.Core.List.{List}
use Prim.Native.Nat.{ℕ, ◌^◌, ◌<◌}
use lib.ListN.{get_or}
use Rattle.terms.specs.Value.{value}
use Rattle.pool.specs.Unfold.{unfold_at}
use Rattle.block_map.specs.declared.RegisterMap.{RegisterMap}
use Rattle.block_results.specs.Words.{answer_words}
use Rattle.block_results.proofs.Putting.{answer-node}
use Rattle.block.proofs.Equal as block
use Rattle.neon_terms.specs.Demand.{RegistersHold, EqualWhenTermsAre, RefusedWhole, RegistersFit}

pub registers-hold : RegistersHold
registers-hold old cs new results number (a, answered, same, words) z start r l =
    block.registers-hold old cs new a answered (sym same ∙ z) start r l
    ∙ ap (λ (n : ℕ). value start (unfold_at new n)) (sym (ap (λ (ws : List ℕ). get_or ws r 0) words ∙ answer-node a.map a.position r l))

pub equal-when-terms-are : EqualWhenTermsAre
equal-when-terms-are old cs new results number h z old' cs' new' results' number' h' z' start r r' l l' =
    let p = registers-hold old cs new results number h z start r l in
    let q = registers-hold old' cs' new' results' number' h' z' start r' l' in
    (λ e. sym p ∙ e ∙ q, λ e. p ∙ e ∙ sym q)

pub refused-whole : RefusedWhole
refused-whole old cs new results number (a, answered, same, words) c m f =
    let (refused, empty, kept) = block.refused-whole old cs new a answered c m f in
    (λ z. refused (sym same ∙ z), a.position, words ∙ ap (λ (map : RegisterMap). answer_words map a.position) empty, kept)

pub registers-fit : RegistersFit
registers-fit old cs new results number (a, answered, same, words) z start bits r l =
    let fits = block.registers-fit old cs new a answered (sym same ∙ z) start bits r l in
    (fits, subst (λ (v : ℕ). v < 2 ^ 128) (registers-hold old cs new results number (a, answered, same, words) z start r l) fits)
