-- The gates of the bits of two numbers make the bits of their And, Or and Xor, and of the choice between them. Assumes nothing.
use mathlib.Core.Path.{◌≡◌, refl}
use mathlib.Core.Bool.{Bool, true, false}
use mathlib.Core.List.{List}
use Prim.Native.Nat.{ℕ, ◌+◌, ◌*◌, ◌^◌, ◌≤◌, ◌<◌}
use native.Mathlib.Omega.{arith}
use lib.Bits.{and_block, or_block, xor_block}
use Rattle.terms.specs.Value.{bit}
use Rattle.gates.specs.Grow.{Builds}
use Rattle.gates.specs.Graph.{truth}
use Rattle.gates_build.specs.Adds.{choose}
use Rattle.gates_words.specs.declared.bitwise.Gate.{Gate}
use Rattle.gates_words.specs.declared.bitwise.Gate.TheVariants.{And, Or, Xor}
use Rattle.gates_words.specs.Bitwise.{gate_of, bits_of, ite_of}
use Rattle.gates_words.proofs.Loops.{Step}

-- of two bits
one_bit : (kind : Gate) (p q : Bool) → bits_of kind (bit p) (bit q) ≡ bit (gate_of kind p q)
one_bit And true true = refl
one_bit And true false = refl
one_bit And false true = refl
one_bit And false false = refl
one_bit Or true true = refl
one_bit Or true false = refl
one_bit Or false true = refl
one_bit Or false false = refl
one_bit Xor true true = refl
one_bit Xor true false = refl
one_bit Xor false true = refl
one_bit Xor false false = refl

block : (kind : Gate) (k a b r s : ℕ) → r < 2 ^ k → s < 2 ^ k → bits_of kind (a * 2 ^ k + r) (b * 2 ^ k + s) ≡ bits_of kind a b * 2 ^ k + bits_of kind r s
block And k a b r s p q = and_block k a b r s p q
block Or k a b r s p q = or_block k a b r s p q
block Xor k a b r s p q = xor_block k a b r s p q

pub gate-step : (kind : Gate) → Step (λ start. gate_of kind) (λ start. bits_of kind)
gate-step kind start i x y p q lx ly =
    let ex : x + bit p * 2 ^ i ≡ bit p * 2 ^ i + x = omega arith in
    let ey : y + bit q * 2 ^ i ≡ bit q * 2 ^ i + y = omega arith in
    rw (ex, ey, block kind i (bit p) (bit q) x y lx ly, one_bit kind p q) (omega arith)

pub zero_bits : (kind : Gate) → bits_of kind 0 0 ≡ 0
zero_bits And = refl
zero_bits Or = refl
zero_bits Xor = refl

chosen-bit : (c : Bool) (i x y : ℕ) (p q : Bool) → ite_of c x y + bit (choose c p q) * 2 ^ i ≡ ite_of c (x + bit p * 2 ^ i) (y + bit q * 2 ^ i)
chosen-bit true i x y p q = refl
chosen-bit false i x y p q = refl

pub choose-step : (c : (ℕ → ℕ) → Bool) → Step (λ start. choose (c start)) (λ start. ite_of (c start))
choose-step c start i x y p q lx ly = chosen-bit (c start) i x y p q

pub zero-chosen : (c : Bool) → ite_of c 0 0 ≡ 0
zero-chosen true = refl
zero-chosen false = refl

-- a builder of fewer gates
pub at_most : {g h : List ℕ} {k r n m m' : ℕ} {f : (ℕ → ℕ) → Bool} → m ≤ m' → Builds g k h r n m f → Builds g k h r n m' f
at_most le b = record { grown = b.grown; most = omega (arith, b.most, le); under = b.under; is = b.is }

pub made_as : {g h : List ℕ} {k r n m : ℕ} (kind own : Gate) (a b : ℕ) → kind ≡ own → m ≤ 3
    → Builds g k h r n m (λ start. gate_of own (truth start g a) (truth start g b))
    → Builds g k h r n 3 (λ start. gate_of kind (truth start g a) (truth start g b))
made_as kind own a b e le d = rw e (at_most le d)
