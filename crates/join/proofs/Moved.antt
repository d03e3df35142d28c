-- Moving every part of word 1 moves those that the kind has: the others are 0 in a node that keeps the rules. Assumes nothing.
use mathlib.Core.Path.{◌≡◌, refl, sym, ap, ◌∙◌}
use mathlib.Core.Bool.{Bool, true, false}
use mathlib.Core.List.{List}
use Prim.Native.Nat.{ℕ, ◌<◌}
use native.Mathlib.Omega.{arith}
use Rattle.pool.specs.Node.{code_of, kind_at, kind_number, word_at, a_of, b_of, c_of, operand_word}
use Rattle.pool.specs.Rules.{Valid}
use Rattle.pool_operands.specs.Operands.{has_a, has_b, has_c}
use Rattle.pool_operands.proofs.Unused.{unused, third-small}
use Rattle.join.specs.Join.{moved, moved_if, moved_word, moved_parts}
use Rattle.join.proofs.Registers.{code_at}

part : (t : Bool) (c m : ℕ) → (t ≡ false → m ≡ 0) → moved c m ≡ moved_if t c m
part true c m f = refl
part false c m f = rw (f refl)

module _ (ws : List ℕ) (count n : ℕ) (v : Valid ws count) (h : n < count) where
  abbrev Word : ℕ
  Word = word_at ws n 1

  abbrev Number : ℕ
  Number = code_of (kind_at (kind_number ws n))

  pub moved-parts : (c : ℕ) → moved_parts c Word ≡ moved_word c (kind_number ws n) Word
  moved-parts c =
      let u = unused ws count n v h in
      let a = part (has_a Number) c (a_of Word) u.a-none in
      let b = part (has_b Number) c (b_of Word) u.b-none in
      let d = part (has_c Number) c (c_of Word) u.c-none in
      (λ i. operand_word (a i) (b i) (d i)) ∙ ap (λ (kind : ℕ). moved_word c kind Word) (sym (code_at ws count n v h))

  -- word 1 has no bit above the third operand
  pub word_small : n < 65536 → Word < 281474976710656
  word_small l = omega (arith, third-small ws count n v h l)
