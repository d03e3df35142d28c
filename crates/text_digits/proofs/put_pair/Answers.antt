-- `put_pair` meets its contract: the two bytes are those of the number's pair.
use Rattle.std.proofs.Common.{ap, ◌∙◌, ℕ, ◌*◌, ◌/◌, ◌%◌, ◌^◌}
use Rattle.text_digits.proofs.TwoDigits.{pair-at, low_byte, high_byte, wrote-both}
use Rattle.text_digits.proofs.put_pair.Goals as goal

pub returns : goal.returns
returns c =
    let a = c.args in
    let x_bound = c.requires.x_bound in
    let pair = ap (λ (w : ℕ). w / 2 ^ (16 * (a.x % 4)) % 65536) c.pairs.ensures ∙ pair-at a.x x_bound in
    wrote-both a.buf.now a.at (ap (λ (w : ℕ). w % 256) pair ∙ low_byte a.x x_bound) (ap (λ (w : ℕ). w / 256) pair ∙ high_byte a.x x_bound)
