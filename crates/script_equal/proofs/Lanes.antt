-- Numbers that agree in each of k lanes of w bits agree in w * k bits. Assumes nothing.
use mathlib.Core.Path.{◌≡◌, sym, ap, ◌∙◌, subst}
use Prim.Native.Nat.{ℕ, zero, suc, ◌+◌, ◌-◌, ◌*◌, ◌/◌, ◌%◌, ◌^◌, ◌<◌}
use native.Mathlib.Nat.{mod-eq_of_lt}
use native.Mathlib.Omega.{arith}
use lib.Pow.{mod-pow-add}
use Rattle.script_lane_meaning.specs.Demand.{bits_of}

module _ (w a b : ℕ) (some_bits : 0 < w) where
  -- the bits of a lane
  lane-bits : (i v : ℕ) → bits_of (w * i + (w - 1)) (w * i) v ≡ v / 2 ^ (w * i) % 2 ^ w
  lane-bits i v = ap (λ (s : ℕ). v / 2 ^ (w * i) % 2 ^ s) (omega arith)

  more : (k v : ℕ) → v % 2 ^ (w * suc k) ≡ v / 2 ^ (w * k) % 2 ^ w * 2 ^ (w * k) + v % 2 ^ (w * k)
  more k v = ap (λ (s : ℕ). v % 2 ^ s) (omega arith) ∙ mod-pow-add v w (w * k)

  none : (v : ℕ) → v % 2 ^ (w * 0) ≡ 0
  none v = let e : w * 0 ≡ 0 = omega arith in rw e (omega arith)

  all_lanes : (k : ℕ) → ((i : ℕ) → i < k → bits_of (w * i + (w - 1)) (w * i) a ≡ bits_of (w * i + (w - 1)) (w * i) b) → a % 2 ^ (w * k) ≡ b % 2 ^ (w * k)
  all_lanes zero h = none a ∙ sym (none b)
  all_lanes (suc k) h =
      let top = sym (lane-bits k a) ∙ h k (omega arith) ∙ lane-bits k b in
      let below = all_lanes k (λ i l. h i (omega arith)) in
      more k a
      ∙ ap (λ (t : ℕ). t * 2 ^ (w * k) + a % 2 ^ (w * k)) top
      ∙ ap (λ (r : ℕ). b / 2 ^ (w * k) % 2 ^ w * 2 ^ (w * k) + r) below
      ∙ sym (more k b)

  pub lanes-equal : (k n : ℕ) → w * k ≡ n → a < 2 ^ n → b < 2 ^ n
      → ((i : ℕ) → i < k → bits_of (w * i + (w - 1)) (w * i) a ≡ bits_of (w * i + (w - 1)) (w * i) b) → a ≡ b
  lanes-equal k n e ha hb h =
      let m : a % 2 ^ n ≡ b % 2 ^ n = subst (λ (s : ℕ). a % 2 ^ s ≡ b % 2 ^ s) e (all_lanes k h) in
      sym (mod-eq_of_lt ha) ∙ m ∙ mod-eq_of_lt hb
