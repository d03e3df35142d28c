-- `bv_slt` gives `bvslt w`, from the two top bits and the unsigned test.
use Rattle.terms.specs.Value.{bvslt}
use Rattle.wide_bit_vectors.proofs.bv_slt.Goals as goal

pub returns : goal.returns
returns c = unfold bvslt in rw (c.less.ensures, c.top_bit-t.ensures, c.top_bit-s.ensures)
