-- `product` gives a * b in two words, from four products of halves; no sum of these overflows.
use Rattle.std.proofs.Common.{refl, arith}
use Rattle.wide.proofs.Products.{product_is}
use Rattle.wide.proofs.word.product.Goals as goal

pub returns : goal.returns
returns c = (product_is c.args.a c.args.b _ _ _ refl refl refl, omega arith)
