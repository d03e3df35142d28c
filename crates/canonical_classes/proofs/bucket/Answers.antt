-- `bucket` gives `bucket_of`: no sum on the way overflows a word, and the number is below 65,536.
use native.Mathlib.Omega.{arith}
use Rattle.canonical_classes.specs.Key.{bucket_of}
use Rattle.canonical_classes.proofs.bucket.Goals as goal

pub returns : goal.returns
unfolding bucket_of
returns c = (cc, omega arith)
