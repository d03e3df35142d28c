-- The bits of an instruction's lanes over the whole registers d, a and b, by family.
use Rattle.std.specs.Prelude.{cond, List, [], ◌∷◌, ℕ, ◌/◌}
use Rattle.terms.specs.Expr.{Expr}
use Rattle.trees.specs.declared.NeonOp.{NeonOp}
use Rattle.trees.specs.declared.NeonOp.TheVariants.{Shift, ShiftInsert, MixedSignAdd, DoublingLong, Saturating, BitwiseUnary, AbsoluteDifference, HighNarrow}
use Rattle.trees.specs.declared.NeonShape.{NeonShape}
use Rattle.trees.specs.Arith.{kind_bits, source_lane}
use Rattle.trees.specs.Trees.{extract_lane}
use Rattle.pool.specs.declared.Node.{Node}
use Rattle.pool.specs.declared.Built.{Built}
use Rattle.pool.specs.Rules.{Valid}
use Rattle.pool.specs.Growth.{NodeIs}
use Rattle.pool_nodes.specs.Builders.{Takes, Makes}
use Rattle.lower.specs.Builds.{SourceIs, read, read_if}
use Rattle.lower_neon.specs.Family.{reads_second, reads_old}
use Rattle.saturation.specs.Bits.{no, shift_bit, mixed_sign_bit, doubling_long_bit, saturating_bit, instruction_bit}

abbrev pub family_bit : NeonOp → (n k i : ℕ) (d a b : Expr) (j : ℕ) → Expr
family_bit (Shift kind signed) n k i d a b j = shift_bit kind signed (extract_lane a n j) (extract_lane b n j) n
family_bit (ShiftInsert left shift) n k i d a b j = no
family_bit (MixedSignAdd signed) n k i d a b j = mixed_sign_bit signed (extract_lane d n j) (extract_lane a n j) n
family_bit (DoublingLong combine upper by_element) n k i d a b j =
    doubling_long_bit combine (extract_lane d n j) (extract_lane a (n / 2) (source_lane upper k j)) (extract_lane b (n / 2) (cond by_element i (source_lane upper k j))) n
family_bit (Saturating kind signed upper) n k i d a b j = saturating_bit kind (extract_lane a (kind_bits kind n) j) (extract_lane b (kind_bits kind n) j) n signed
family_bit (BitwiseUnary kind) n k i d a b j = no
family_bit (AbsoluteDifference signed accumulate) n k i d a b j = no
family_bit (HighNarrow subtract rounding upper) n k i d a b j = no

abbrev pub lane_at : NeonShape → (d a b : Expr) (j : ℕ) → Expr
lane_at s d a b j = family_bit s.op s.lane_bits s.lanes s.source_index.0 d a b j

-- a bound on the nodes of an instruction's bit: 16 lanes, with their concatenations, and four more
abbrev pub bits_most : ℕ
bits_most = 612

-- `instruction_bit`; the block's bit before it is reached
pub record BitMade (old : List ℕ) (k : ℕ) (new : List ℕ) (r : Built) (s : NeonShape) (first second d before : Node) : Type 0 where
  pub sized : Takes old k new r bits_most
  pub made : {td ta tb t : Expr} → Valid old k → SourceIs old k (read_if (reads_old s.op) d 128) td → SourceIs old k (read first 128) ta
      → SourceIs old k (read_if (reads_second s.op) second 128) tb → NodeIs old k before.0 1 t
      → Makes old k new r 1 (instruction_bit s.lanes (lane_at s td ta tb) t) (before.0 ∷ [])
