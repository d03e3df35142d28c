-- Lanes by family. Assumes nothing.
use mathlib.Core.Path.{sym, ap, ap₂, ◌∙◌, subst}
use mathlib.Core.Bool.{Bool, true, ◌||◌}
use Prim.Native.Nat.{ℕ, ◌^◌, ◌<◌}
use lib.IntN.{ℤ}
use Rattle.neon.specs.Arm.{wrap, S, c_s}
use Rattle.wide.specs.declared.Wide.{Wide}
use Rattle.trees_value.proofs.Wrap.{wrap-lt}
use Rattle.trees_value.proofs.Clamp.{clamp-fits, reading-is}
use Rattle.run_exact.specs.Exact.{Held, Answers}
use Rattle.run_exact.proofs.Laws.{held-as}

-- the clamped product, read again
pub bits-lt : (n : ℕ) {b : ℕ} (z : ℤ) {s t : Bool} → Answers (wrap n z) t b s → b < 2 ^ n
bits-lt n z p = subst (λ (x : ℕ). x < 2 ^ n) (sym p.bits_are) (wrap-lt n z)

pub again : (n : ℕ) {b : ℕ} (z : ℤ) {s t : Bool} {v : Wide} → 0 < n → Answers (wrap n (c_s n z)) t b s → Held 65 v (S n b) → Held 65 v (c_s n z)
again n z hn p h = held-as (ap (S n) p.bits_are ∙ reading-is true n (c_s n z) hn (clamp-fits n z)) h

pub both : {x y : ℕ} {s t u v : Bool} {b c : ℕ} → Answers x s b u → Answers y t c v → Answers y (s || t) c (u || v)
both p q = record { bits_are = q.bits_are; saturated_is = ap₂ ◌||◌ p.saturated_is q.saturated_is }
