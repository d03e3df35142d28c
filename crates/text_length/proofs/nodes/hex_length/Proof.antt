-- `text_length::nodes::hex_length` meets its contract: a digit is four bits, and the highest bit is below the zeros that lead.
use native.Mathlib.Omega.{arith}
use mathlib.Core.Path.{◌≡◌, sym}
use lib.Count.{leading_le}
use Rattle.terms.specs.Display.{hexadecimal}
use Rattle.pool.specs.Node.{wide}
use Rattle.text_digits.proofs.Laws.{length-digit}
use Rattle.text_length.proofs.Hex.{word-digits, words-digits}
use borrow.Author.Rules.{rules}
use Rattle.text_length.proofs.nodes.hex_length.Statement.{statement}
use Rattle.text_length.proofs.nodes.hex_length.Tie as tie

-- the high word is 0
no-high : (c : tie.Else-high-gt0) → c.args.high ≡ 0
no-high c = omega (arith, c.if-high-gt0.false)

sub-result : tie.Need-overflow_sub-result
sub-result c = omega (arith, leading_le 64 c.args.high)

cast-result : tie.Need-overflow_cast-result
cast-result c = search rules

returns : tie.Need-returns-then-high-gt0
returns c =
    let s = c in
    words-digits s.args.low s.args.high s.ranges.low.fits c.if-high-gt0.true s.ranges.high.fits

returns-2 : tie.Need-returns-then-low-lt16
unfolding hexadecimal
returns-2 c =
    let a = c.args in
    let l = length-digit a.low a.high (omega (arith, no-high c.before, c.if-low-lt16.true)) in
    (sym l, omega arith)

sub-result-2 : tie.Need-overflow_sub-result-2
sub-result-2 c = omega (arith, leading_le 64 c.args.low)

cast-result-2 : tie.Need-overflow_cast-result-2
cast-result-2 c = search rules

returns-3 : tie.Need-returns
returns-3 c =
    let s = c in
    let z : wide s.args.low s.args.high ≡ s.args.low = omega (arith, no-high c.before) in
    let d = word-digits s.args.low (omega (arith, c.if-low-lt16.false)) s.ranges.low.fits in
    rw z (d.0, omega (arith, d.1))

pub hex_length_spec : {M : Type 1} → statement M
hex_length_spec =
    tie.close
    (tie.spec sub-result cast-result returns returns-2 sub-result-2 cast-result-2 returns-3)
