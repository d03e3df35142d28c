-- A register's number, and what running the lanes of an instruction gives.
use Rattle.std.specs.Prelude.{Bool, cond, List, ◌≡◌, ℕ, ◌+◌, ◌*◌, ◌/◌, ◌≤◌, ◌<◌}
use Rattle.neon.specs.Run.{update}
use Rattle.neon.specs.Arm.{lane, lanes}
use Rattle.wide.specs.Number.{words}
use Rattle.wide.specs.Registers.{registers_of}
use Rattle.trees.specs.declared.NeonOp.{NeonOp}
use Rattle.saturation.specs.Saturates.{some}
use Rattle.saturation.specs.Family.{family_lane, family_beyond}
use Rattle.run_block.specs.declared.Register.{Register}
use Rattle.run_block.specs.declared.Ran.{Ran}

abbrev pub number : Register → ℕ
number x = words x.low x.high 0

-- lanes of n bits do not cross a word
abbrev pub InWord : ℕ → Type 0
InWord n = n * (64 / n) ≡ 64

-- lane j of the result reads lane j + skip of the first source, and that or one element of the second
abbrev pub second_at : Bool → (index skip j : ℕ) → ℕ
second_at element index skip j = cond element index (j + skip)

-- k lanes of n bits and their source lanes of m bits lie in 128 bits
pub record Within (n m k skip : ℕ) (element : Bool) (index : ℕ) : Type 0 where
  pub lane_in : (j : ℕ) → j < k → n * j + n ≤ 128
  pub first_in : (j : ℕ) → j < k → m * (j + skip) + m ≤ 128
  pub second_in : (j : ℕ) → j < k → m * second_at element index skip j + m ≤ 128
  pub n_word : InWord n
  pub m_word : InWord m

-- lane j of the result, and whether it saturates
abbrev pub lane_by : NeonOp → (n m skip : ℕ) → Bool → (index d a b j : ℕ) → ℕ
lane_by op n m skip element index d a b j = family_lane op n (lane n j d) (lane m (j + skip) a) (lane m (second_at element index skip j) b)

abbrev pub beyond_by : NeonOp → (n m skip : ℕ) → Bool → (index d a b j : ℕ) → Bool
beyond_by op n m skip element index d a b j = family_beyond op n (lane n j d) (lane m (j + skip) a) (lane m (second_at element index skip j) b)

-- k lanes, and whether one saturated
pub record RanLanes (n k : ℕ) (f : ℕ → ℕ) (g : ℕ → Bool) (r : Ran) : Type 0 where
  pub bits_are : words r.low r.high 0 ≡ lanes n k f
  pub saturated_is : r.saturated ≡ some k g

-- register d is x, the others are as they were
abbrev pub Written : List ℕ → List ℕ → (d x : ℕ) → Type 0
Written old new d x = (r : ℕ) → r < 32 → registers_of new r ≡ update d x (registers_of old) r
