-- The answers of the check, each from the tests that lead to it; and what 0 says of the literal. Assumes nothing.
use mathlib.Core.Path.{◌≡◌, refl, sym, ap, ◌∙◌}
use mathlib.Core.Bool.{true, false, cond}
use mathlib.Core.List.{List}
use Prim.Native.Nat.{ℕ, suc, ◌+◌, ◌/◌, ◌≤◌, ◌<◌}
use native.Mathlib.Omega.{arith}
use lib.Dec.{ltb, eqb}
use lib.ListN.{length}
use borrow.Author.Tests.{ltb-true, lt-ltb, le-ltb, le-leb, lt-leb, eq-eqb, ne_eqb}
use Rattle.facts.proofs.Tests.{and_both}
use Rattle.gates.specs.Graph.{inputs, gates_ok, graph_ok}
use Rattle.gates.specs.Grow.{literal_of}
use Rattle.refutation.specs.Refutation.{refused_step, refutation_number}
use Rattle.refutation.proofs.Sound.{refuted}
use Rattle.refutation_check.specs.Answer.{Checked, Answered, AcceptedIsFalse}

abbrev pub answer : (number step : ℕ) → Checked
answer number step = record { number = number; step = step }

-- as many gates as the graph has words, or fewer
pub count_fits : (g : List ℕ) (count : ℕ) → graph_ok g count ≡ true → count ≤ length g
unfolding graph_ok
count_fits g count e = let b = ltb-true count (suc (length g)) (and_both (ltb count (suc (length g))) (gates_ok g count) e).0 in omega arith

module _ (g : List ℕ) (count l : ℕ) (ws : List ℕ) (marks starts : ℕ) where
  numbered :
      (n k : ℕ) → refutation_number g count l ws marks starts ≡ n → k ≡ cond (eqb n 14) (refused_step g count l ws) 0
      → Answered g count l ws marks starts (answer n k)
  numbered n k e f = record { number_is = sym e; step_is = f ∙ ap (λ (m : ℕ). cond (eqb m 14) (refused_step g count l ws) 0) (sym e) }

  pub bad-graph : graph_ok g count ≡ false → Answered g count l ws marks starts (answer 1 0)
  bad-graph e = numbered 1 0 (rw e refl) refl

  module _ (good : graph_ok g count ≡ true) where
    pub bad-literal : inputs + count ≤ l / 2 → Answered g count l ws marks starts (answer 5 0)
    bad-literal h = numbered 5 0 (rw (good, le-ltb (l / 2) (inputs + count) h) refl) refl

    module _ (literal : l / 2 < inputs + count) where
      pub short-marks : marks < literal_of count → Answered g count l ws marks starts (answer 6 0)
      short-marks h = numbered 6 0 (rw (good, lt-ltb (l / 2) (inputs + count) literal, lt-leb (literal_of count) marks h) refl) refl

      module _ (long : literal_of count ≤ marks) where
        pub short-starts : starts ≤ length ws / 2 → Answered g count l ws marks starts (answer 6 0)
        short-starts h =
            numbered 6 0 (rw (good, lt-ltb (l / 2) (inputs + count) literal, le-leb (literal_of count) marks long, le-ltb (length ws / 2) starts h) refl) refl

        module _ (room : length ws / 2 < starts) where
          tested : refutation_number g count l ws marks starts ≡ cond (eqb (refused_step g count l ws) 0) 0 14
          tested = rw (good, lt-ltb (l / 2) (inputs + count) literal, le-leb (literal_of count) marks long, lt-ltb (length ws / 2) starts room) refl

          pub accepted : refused_step g count l ws ≡ 0 → Answered g count l ws marks starts (answer 0 0)
          accepted e = numbered 0 0 (tested ∙ rw (eq-eqb (refused_step g count l ws) 0 e) refl) refl

          pub refused : (refused_step g count l ws ≡ 0 → ⊥) → (k : ℕ) → k ≡ refused_step g count l ws → Answered g count l ws marks starts (answer 14 k)
          refused n k e = numbered 14 k (tested ∙ rw (ne_eqb (refused_step g count l ws) 0 n) refl) e

pub accepted-is-false : AcceptedIsFalse
accepted-is-false g count l ws marks starts r a e start = refuted g count l ws marks starts (sym a.number_is ∙ e) start
