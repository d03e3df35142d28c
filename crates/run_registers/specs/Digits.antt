-- Hexadecimal digits, highest first.
use Rattle.std.specs.Prelude.{Bool, true, cond, ◌&&◌, ◌||◌, List, [], ◌∷◌, ◌++◌, ℕ, zero, suc, ◌+◌, ◌*◌, ◌-◌, ◌/◌, ◌%◌, leb, get_or}
use Rattle.terms.specs.Display.{digit}

abbrev pub between : (least most b : ℕ) → Bool
between least most b = leb least b && leb b most

-- 0 to 9, a to f, A to F
abbrev pub is_hex : ℕ → Bool
is_hex b = between 48 57 b || between 97 102 b || between 65 70 b

abbrev pub hex_value : ℕ → ℕ
hex_value b = cond (between 48 57 b) (b - 48) (cond (between 97 102 b) (b - 87) (cond (between 65 70 b) (b - 55) 0))

-- the number that the k characters from `at` on show, and whether they are digits
unfoldable pub hex_at : List ℕ → (at k : ℕ) → ℕ
hex_at bs at zero = 0
hex_at bs at (suc k) = 16 * hex_at bs at k + hex_value (get_or bs (at + k) 0)

unfoldable pub all_hex : List ℕ → (at k : ℕ) → Bool
all_hex bs at zero = true
all_hex bs at (suc k) = all_hex bs at k && is_hex (get_or bs (at + k) 0)

-- the last k digits of x
unfoldable pub hex_digits : (k x : ℕ) → List ℕ
hex_digits zero x = []
hex_digits (suc k) x = hex_digits k (x / 16) ++ (digit (x % 16) ∷ [])
