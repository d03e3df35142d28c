-- What comes back beside a refusal's number, and what it leaves. Assumes nothing.
use mathlib.Core.List.{List}
use mathlib.Core.Path.{◌≡◌, refl}
use Prim.Native.Nat.{ℕ, zero, suc, ◌<◌}
use native.Mathlib.Nat.{not-suc-le-zero}
use Rattle.facts.specs.Refuse.{by_number, list_by}

pub zero-beside : (number x : ℕ) → 0 < number → by_number number x ≡ 0
zero-beside zero x h = absurd (not-suc-le-zero h)
zero-beside (suc k) x h = refl

pub old-kept : (number : ℕ) (new old : List ℕ) → 0 < number → list_by number new old ≡ old
old-kept zero new old h = absurd (not-suc-le-zero h)
old-kept (suc k) new old h = refl
