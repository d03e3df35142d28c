-- `mul` gives `bvmul 192`: six products of words and six sums with carries, by `mul_is`.
use Rattle.wide.proofs.Products.{mul_is}
use Rattle.wide.proofs.mul.Goals as goal

pub returns : goal.returns
returns c =
    mul_is _ _ _ (record { low = c.product-x.ensures.1; high = c.add_carry-t.ensures.2; top = c.add_carry-q.ensures.2 })
    (record { sum = c.product-x.ensures.0 })
    (record { sum = c.product-y.ensures.0 })
    (record { sum = c.product-z.ensures.0 })
    (record { sum = c.add_carry-s.ensures.0 })
    (record { sum = c.add_carry-t.ensures.0 })
    (record { sum = c.add_carry-u.ensures.0 })
    (record { sum = c.product.ensures.0 })
    (record { sum = c.add_carry-v.ensures.0 })
    (record { sum = c.product-2.ensures.0 })
    (record { sum = c.add_carry-w.ensures.0 })
    (record { sum = c.product-3.ensures.0 })
    (record { sum = c.add_carry-q.ensures.0 })
