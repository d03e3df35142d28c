-- `compare` builds the comparison of the kind, by the contract of its circuit.
use Rattle.std.proofs.Common.{arith}
use Rattle.pool.specs.Node.{kinds, kind_at}
use Rattle.gates_pool.proofs.Operators.{room_as}
use Rattle.gates_pool.proofs.Comparisons.{built-as}
use Rattle.gates_pool.proofs.circuits.compare.Goals as goal

pub equal-requires : goal.equal-requires
unfolding kind_at kinds
equal-requires c = let p = c.requires.room in (room_as c.args.w _ 12 c.in-12.is p.0, p.2, p.3)

pub less-requires : goal.less-requires
unfolding kind_at kinds
less-requires c = let p = c.requires.room in (room_as c.args.w _ 13 c.in-13.is p.0, p.2, p.3)

pub signed_less-requires : goal.signed_less-requires
unfolding kind_at kinds
signed_less-requires c = let p = c.requires.room in (room_as c.args.w c.args.kind 14 (omega arith) p.0, p.2, p.3, p.1)

pub returns-in-12 : goal.returns-in-12
unfolding kind_at kinds
returns-in-12 c = built-as c.args.bits.now c.args.w _ 12 c.args.a c.args.b c.in-12.is c.equal.ensures

pub returns-in-13 : goal.returns-in-13
unfolding kind_at kinds
returns-in-13 c = built-as c.args.bits.now c.args.w _ 13 c.args.a c.args.b c.in-13.is c.less.ensures

pub returns-in_default : goal.returns-in_default
unfolding kind_at kinds
returns-in_default c = built-as c.args.bits.now c.args.w c.args.kind 14 c.args.a c.args.b (omega arith) c.signed_less.ensures
