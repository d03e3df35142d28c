-- `doubled_product` holds twice the product of two signed lanes, which fits 129 bits.
use native.Mathlib.Omega.{arith}
use Rattle.run_exact.proofs.Laws.{doubled-held}
use Rattle.run_exact.proofs.doubled_product.Goals as goal

pub returns : goal.returns
returns c =
    doubled-held (omega arith) (omega arith) c.signed.ensures c.signed-2.ensures c.mul.ensures c.shl.ensures
