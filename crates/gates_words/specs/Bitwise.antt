-- Words bit by bit.
use Rattle.std.specs.Prelude.{Bool, ◌&&◌, ◌||◌, cond, ℕ}
use Rattle.std.specs.Int.Bits.{bit_and, bit_or, bit_xor}
use Rattle.gates_build.specs.Adds.{differ}
use Rattle.gates_words.specs.declared.bitwise.Gate.{Gate}
use Rattle.gates_words.specs.declared.bitwise.Gate.TheVariants.{And, Or, Xor}

-- of two bits, and of the bits of two numbers
abbrev pub gate_of : Gate → Bool → Bool → Bool
gate_of And x y = x && y
gate_of Or x y = x || y
gate_of Xor x y = differ x y

abbrev pub bits_of : Gate → ℕ → ℕ → ℕ
bits_of And a b = bit_and a b
bits_of Or a b = bit_or a b
bits_of Xor a b = bit_xor a b

-- the first of two numbers if the condition holds, else the second
abbrev pub ite_of : Bool → ℕ → ℕ → ℕ
ite_of c a b = cond c a b
