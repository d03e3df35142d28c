-- What the fields of each diagram's word hold. Assumes nothing.
use mathlib.Core.Path.{◌≡◌}
use Prim.Native.Nat.{ℕ, ◌/◌, ◌*◌, ◌+◌, ◌^◌, ◌≤◌, ◌<◌}
use native.Mathlib.Omega.{arith}
use Rattle.words_encoding.specs.Encoding.{ShiftByImmediate, ThreeSame, ThreeDifferent, TwoMiscellaneous, ByElement, TwoMiscellaneous01}
use Rattle.words_encoding.specs.Word.{word, diagram}
use Rattle.words_encoding.specs.Decode.{bits}

-- the fields that every class has
pub record Common (w Q U Rn Rd : ℕ) : Type 0 where
  pub at-Q : bits 30 30 w ≡ Q
  pub at_U : bits 29 29 w ≡ U
  pub at_n : bits 9 5 w ≡ Rn
  pub at-d : bits 4 0 w ≡ Rd
  pub fits : w < 2 ^ 32

pub record Shift (w Q U imm x Rn Rd : ℕ) : Type 0 where
  pub common : Common w Q U Rn Rd
  pub at-24 : bits 24 24 w ≡ 1
  pub at-10 : bits 10 10 w ≡ 1
  pub at-opcode : bits 15 11 w ≡ x
  pub at-imm : bits 22 16 w ≡ imm
  pub at-immh : bits 22 19 w ≡ imm / 8

pub record Same (w Q U size x m Rn Rd : ℕ) : Type 0 where
  pub common : Common w Q U Rn Rd
  pub at-24 : bits 24 24 w ≡ 0
  pub at-10 : bits 10 10 w ≡ 1
  pub at-opcode : bits 15 11 w ≡ x
  pub at_size : bits 23 22 w ≡ size
  pub at-m : bits 20 16 w ≡ m

pub record Different (w Q U size x m Rn Rd : ℕ) : Type 0 where
  pub common : Common w Q U Rn Rd
  pub at-24 : bits 24 24 w ≡ 0
  pub at-10 : bits 10 10 w ≡ 0
  pub at-11 : bits 11 11 w ≡ 0
  pub at-opcode : bits 15 12 w ≡ x
  pub at_size : bits 23 22 w ≡ size
  pub at-m : bits 20 16 w ≡ m

pub record Miscellaneous (w Q U size x Rn Rd : ℕ) : Type 0 where
  pub common : Common w Q U Rn Rd
  pub at-24 : bits 24 24 w ≡ 0
  pub at-10 : bits 10 10 w ≡ 0
  pub at-11 : bits 11 11 w ≡ 1
  pub at-opcode : bits 16 12 w ≡ x
  pub at_size : bits 23 22 w ≡ size

pub record Indexed (w Q U size x H L M Rm Rn Rd : ℕ) : Type 0 where
  pub common : Common w Q U Rn Rd
  pub at-24 : bits 24 24 w ≡ 1
  pub at-10 : bits 10 10 w ≡ 0
  pub at-opcode : bits 15 12 w ≡ x
  pub at_size : bits 23 22 w ≡ size
  pub at_H : bits 11 11 w ≡ H
  pub at-L : bits 21 21 w ≡ L
  pub at-M : bits 20 20 w ≡ M
  pub at-Rm : bits 19 16 w ≡ Rm
  pub at-m : bits 20 16 w ≡ 16 * M + Rm

module _ (w Q U size imm x H L M Rm m n d : ℕ) (hQ : Q ≤ 1) (hU : U ≤ 1) (hn : n ≤ 31) (hd : d ≤ 31) where
  pub shift : imm < 128 → x < 32 → w ≡ word (diagram ShiftByImmediate Q U size imm x H L M Rm m n d) → Shift w Q U imm x n d
  shift hi hx e = omega arith

  pub same : size ≤ 3 → m ≤ 31 → x < 32 → w ≡ word (diagram ThreeSame Q U size imm x H L M Rm m n d) → Same w Q U size x m n d
  same hs hm hx e = omega arith

  pub different : size ≤ 3 → m ≤ 31 → x < 16 → w ≡ word (diagram ThreeDifferent Q U size imm x H L M Rm m n d) → Different w Q U size x m n d
  different hs hm hx e = omega arith

  pub miscellaneous : size ≤ 3 → x < 32 → w ≡ word (diagram TwoMiscellaneous Q U size imm x H L M Rm m n d) → Miscellaneous w Q U size x n d
  miscellaneous hs hx e = omega arith

  pub miscellaneous-01 : x < 32 → w ≡ word (diagram TwoMiscellaneous01 Q U size imm x H L M Rm m n d) → Miscellaneous w Q U 1 x n d
  miscellaneous-01 hx e = omega arith

  pub indexed : size ≤ 3 → H ≤ 1 → L ≤ 1 → M ≤ 1 → Rm ≤ 15 → x < 16 → w ≡ word (diagram ByElement Q U size imm x H L M Rm m n d)
      → Indexed w Q U size x H L M Rm n d
  indexed hs hH hL hM hR hx e = omega arith
