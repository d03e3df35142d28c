-- A refusal's number is never 0, so an answer whose number is 0 gives something.
use mathlib.Core.Path.{◌≡◌, refl}
use native.Mathlib.Omega.{arith}
use Rattle.std.specs.declared.result.Result.{Result}
use Rattle.std.specs.declared.result.Result.TheVariants.{Ok, Err}
use Rattle.facts.specs.declared.Refusal.{Refusal}
use Rattle.facts.specs.declared.Refusal.TheVariants as refusal
use Rattle.facts.specs.declared.RefusedAt.{RefusedAt}
use Rattle.facts.specs.Answer.{code, number_of, number_at}

pub code-positive : (r : Refusal) → code r ≡ 0 → ⊥
code-positive refusal.Pool e = omega (arith, e)
code-positive refusal.Operation e = omega (arith, e)
code-positive refusal.Form e = omega (arith, e)
code-positive refusal.Immediate e = omega (arith, e)
code-positive refusal.Node e = omega (arith, e)
code-positive refusal.Room e = omega (arith, e)
code-positive refusal.Register e = omega (arith, e)
code-positive refusal.Records e = omega (arith, e)
code-positive refusal.Buffer e = omega (arith, e)
code-positive refusal.Line e = omega (arith, e)
code-positive refusal.Visits e = omega (arith, e)
code-positive refusal.Word e = omega (arith, e)
code-positive refusal.Bits e = omega (arith, e)
code-positive refusal.Step e = omega (arith, e)

pub ok-at-zero : {A : Type 0} (a : Result A Refusal) → number_of a ≡ 0 → (x : A) × (a ≡ Ok x)
ok-at-zero (Ok x) e = (x, refl)
ok-at-zero (Err r) e = absurd (code-positive r e)

pub ok-at-zero-in-list : {A : Type 0} (a : Result A RefusedAt) → number_at a ≡ 0 → (x : A) × (a ≡ Ok x)
ok-at-zero-in-list (Ok x) e = (x, refl)
ok-at-zero-in-list (Err r) e = absurd (code-positive r.refusal e)
