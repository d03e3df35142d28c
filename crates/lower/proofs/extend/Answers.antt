use Rattle.lower.proofs.Clamping.{extend-signed, extend-unsigned}
use Rattle.lower.proofs.extend.Goals as goal

pub returns-then-signed : goal.returns-then-signed
returns-then-signed c = extend-signed c.if-signed.true c.sign_ext.ensures

pub returns-else-signed : goal.returns-else-signed
returns-else-signed c = extend-unsigned c.if-signed.false c.zero_ext.ensures
