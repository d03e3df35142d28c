-- What tells the trees of two nodes apart, once their operands are told apart.
use Rattle.std.specs.Prelude.{Bool, cond, List, ℕ, ◌+◌, ◌*◌, ◌/◌, ◌%◌, ◌^◌, ltb, eqb, get_or}
use Rattle.pool.specs.Node.{operand_word, word_at, kind_number}
use Rattle.pool_fields.specs.Fields.{op_a, op_b, op_c}
use Rattle.pool_operands.specs.Operands.{has_a, has_b, has_c}
use Rattle.canonical_classes.specs.declared.Key.{Key}

abbrev pub class_if : Bool → List ℕ → ℕ → ℕ
class_if there class m = cond there (get_or class m 0) 0

unfoldable pub key_of : List ℕ → List ℕ → ℕ → Key
key_of ws class n =
    let kind = kind_number ws n in
    record {
      word = get_or ws (4 * n) 0;
      a = record { 0 = class_if (has_a kind) class (op_a ws n) };
      b = record { 0 = class_if (has_b kind) class (op_b ws n) };
      c = record { 0 = class_if (has_c kind) class (op_c ws n) };
      x = word_at ws n 2;
      y = word_at ws n 3;
    }

-- the operands' classes as one number
abbrev pub operands_of : Key → ℕ
operands_of k = operand_word k.a.0 k.b.0 k.c.0

-- any function of the key would do
unfoldable pub mix_of : ℕ → ℕ
mix_of x = x % 4294967296 * 227832187 + x / 4294967296 * 251658257

unfoldable pub bucket_of : Key → ℕ
bucket_of k =
    let h = mix_of (mix_of k.word + operands_of k) in
    let g = mix_of (h + k.x % 4611686018427387904) in
    mix_of (g + k.y % 4611686018427387904) / 1048576 % 65536

-- another function of the key, by other numbers and from its words in another order
unfoldable pub other_mix_of : ℕ → ℕ
other_mix_of x = x % 4294967296 * 198491317 + x / 4294967296 * 217645199

unfoldable pub spread_of : Key → ℕ
spread_of k =
    let h = other_mix_of (other_mix_of k.y + k.x % 4611686018427387904) in
    other_mix_of (other_mix_of (h + operands_of k) + k.word % 4611686018427387904)

-- 24 bits of the spread and the key's words as one row of 280 bits: the 64 that contain `level`, and bit `level`
abbrev pub row_of : Key → ℕ → ℕ
row_of k level =
    cond (ltb level 24) (spread_of k / 68719476736)
    (cond (ltb level 88) k.x (cond (ltb level 152) k.y (cond (ltb level 216) (operands_of k) k.word)))

unfoldable pub way_of : Key → ℕ → ℕ
way_of k level = row_of k level / 2 ^ (level % 64) % 2

-- the two slots under node m
abbrev pub under : (m way : ℕ) → ℕ
under m way = 131072 + 2 * m + way

-- the slot to go on to from node m, which has another key: at first one of the second table, then one under m
unfoldable pub next_of : Key → (m level : ℕ) → ℕ
next_of k m level = cond (eqb level 0) (65536 + spread_of k / 1048576 % 65536) (under m (way_of k level))
