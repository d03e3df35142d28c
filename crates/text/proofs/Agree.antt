-- The bytes that are written agree with the length that is reported up to its ceiling. Assumes nothing.
use mathlib.Core.Path.{◌≡◌, sym, ap, ◌∙◌}
use mathlib.Core.List.{List, ◌++◌}
use Prim.Native.Nat.{ℕ, ◌+◌, min}
use native.Mathlib.Omega.{arith}
use lib.ListN.{length, drop}
use Rattle.facts.specs.Refuse.{by_number, list_by}
use Rattle.pool.specs.Rules.{node_number}
use Rattle.pool_check.proofs.Number.{good-node, accepted}
use Rattle.text_parts.specs.Text.{text}
use Rattle.text_length.specs.Answer.{Measured}
use Rattle.text.specs.Answer.{text_number}
use Rattle.text.specs.Agree.{WrittenMeasured, MeasuredWritten, ShorterRefused}
use Rattle.text.proofs.Answers.{short, fits}

-- the length that is reported for an accepted node
reported : (ws : List ℕ) (count n : ℕ) {ceiling number len : ℕ} → Measured ws count n ceiling number len → node_number ws count n 0 ≡ 0
    → len ≡ min (length (text ws n)) (ceiling + 1)
reported ws count n {ceiling} m z = m.length_is ∙ ap (λ (k : ℕ). by_number k (min (length (text ws n)) (ceiling + 1))) z

pub written-measured : WrittenMeasured
written-measured ws count n old number len new a z ceiling number' len' m =
    let t : text_number ws count n (length old) ≡ 0 = sym a.number_is ∙ z in
    let k = accepted ws count n _ t in
    let good : node_number ws count n 0 ≡ 0 = good-node ws count n 0 k.0 k.1 in
    let l : len ≡ length (text ws n) = a.length_is ∙ ap (λ (k : ℕ). by_number k (length (text ws n))) t in
    (m.number_is ∙ good, reported ws count n m good ∙ ap (λ (k : ℕ). min k (ceiling + 1)) (sym l))

pub measured-written : MeasuredWritten
measured-written ws count n ceiling number' len' m z h old number len new a room =
    let good : node_number ws count n 0 ≡ 0 = sym m.number_is ∙ z in
    let k = accepted ws count n 0 good in
    let l = reported ws count n m good in
    let s : length (text ws n) ≡ len' = omega arith in
    let t : text_number ws count n (length old) ≡ 0 = fits ws count n (length old) k.0 k.1 (omega arith) in (
      a.number_is ∙ t,
      a.length_is ∙ ap (λ (k : ℕ). by_number k (length (text ws n))) t ∙ s,
      s,
      a.buffer_is ∙ ap (λ (k : ℕ). list_by k (text ws n) old) t ∙ ap (λ (k : ℕ). text ws n ++ drop k old) s,
    )

pub shorter-refused : ShorterRefused
shorter-refused ws count n ceiling number' len' m z old number len new a room =
    let good : node_number ws count n 0 ≡ 0 = sym m.number_is ∙ z in
    let k = accepted ws count n 0 good in
    let l = reported ws count n m good in
    let t : text_number ws count n (length old) ≡ 9 = short ws count n (length old) k.0 k.1 (omega arith) in (
      a.number_is ∙ t,
      a.length_is ∙ ap (λ (k : ℕ). by_number k (length (text ws n))) t,
      a.buffer_is ∙ ap (λ (k : ℕ). list_by k (text ws n) old) t,
    )
