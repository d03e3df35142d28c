-- The two decimal digits of a number below 100, as characters, and four such numbers in a word.
use Rattle.std.specs.Prelude.{ℕ, ◌+◌, ◌*◌, ◌/◌, ◌%◌}
use Rattle.terms.specs.Display.{digit}

-- the character of the tens is the lower byte
abbrev pub pair_of : ℕ → ℕ
pair_of x = digit (x / 10) + 256 * digit (x % 10)

-- of 4 × k to 4 × k + 3, the first lowest
unfoldable pub four_pairs : ℕ → ℕ
four_pairs k = pair_of (4 * k) + 65536 * pair_of (4 * k + 1) + 4294967296 * pair_of (4 * k + 2) + 281474976710656 * pair_of (4 * k + 3)
