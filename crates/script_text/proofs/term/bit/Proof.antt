-- `bit` gives the character of bit k of two words, 0 for bit 128.
use mathlib.Core.Path.{◌≡◌, sym, ap, ◌∙◌}
use Prim.Native.Nat.{ℕ, ◌+◌, ◌/◌, ◌%◌, ◌^◌}
use native.Mathlib.Omega.{arith}
use Rattle.pool.specs.Node.{wide}
use Rattle.script_text.proofs.Bits.{low_bit, high_part, top_bit}
use borrow.Author.Rules.{rules}
use Rattle.script_text.proofs.term.bit.Statement.{statement}
use Rattle.script_text.proofs.term.bit.Tie as tie

shr-result : tie.Need-overflow_shr-result
shr-result c = search rules

add-result : tie.Need-overflow_add-result
add-result c = search rules

cast-result : tie.Need-overflow_cast-result
cast-result c = search rules

returns : tie.Need-returns-then-k-lt64
returns c =
    let a = c.args in ap (λ (x : ℕ). 48 + x) (sym (low_bit a.low a.high a.k c.if-k-lt64.true))

shr-result-2 : tie.Need-overflow_shr-result-then-k-lt128
shr-result-2 c = search rules

add-result-2 : tie.Need-overflow_add-result-then-k-lt128
add-result-2 c = search rules

cast-result-2 : tie.Need-overflow_cast-result-then-k-lt128
cast-result-2 c = search rules

returns-2 : tie.Need-returns-then-k-lt128
returns-2 c =
    let at-if1 = c in
    let at-args = c in
    let a = at-args.args in ap (λ (x : ℕ). 48 + x % 2) (sym (high_part a.low a.high a.k at-args.requires.2 at-if1.if-k-lt64.false))

returns-3 : tie.Need-returns
returns-3 c =
    let a = c.args in
    let e : a.k ≡ 128 = omega (arith, c.requires.0, c.if-k-lt128.false) in
    sym (ap (λ (k : ℕ). 48 + wide a.low a.high / 2 ^ k % 2) e ∙ ap (λ (x : ℕ). 48 + x) (top_bit a.low a.high c.requires.2 c.requires.1))

pub bit_spec : {M : Type 1} → statement M
bit_spec =
    tie.close
    (tie.spec
    shr-result
    add-result
    cast-result
    returns
    shr-result-2
    add-result-2
    cast-result-2
    returns-2
    returns-3)
