-- `product` multiplies in the order of the words.
use Rattle.gates_circuits.proofs.Rows.{product-swapped}
use Rattle.gates_circuits.proofs.products.product.Goals as goal

pub returns : goal.returns
returns c =
    product-swapped c.args.a c.args.b c.multiply-2.ensures
