-- The number that three words hold, the lowest first.
use Rattle.std.specs.Prelude.{ℕ, ◌+◌, ◌*◌}
use Rattle.wide.specs.declared.Wide.{Wide}

-- 2 ^ 64
abbrev pub base : ℕ
base = 18446744073709551616

unfoldable pub words : ℕ → ℕ → ℕ → ℕ
words low high top = low + base * (high + base * top)

abbrev pub num : Wide → ℕ
num v = words v.low v.high v.top
