-- `operate` makes the operator of the kind, by the contract of its circuit.
use Rattle.std.proofs.Common.{◌+◌, ◌≤◌, length, arith}
use Rattle.pool.specs.Node.{kinds, kind_at}
use Rattle.gates_circuits.proofs.Laws.{first_of, second-of}
use Rattle.gates_pool.proofs.Operators.{room_as, made_as, writes-makes}
use Rattle.gates_pool.proofs.circuits.operate.Goals as goal

pub sum-requires : goal.sum-requires
unfolding kind_at kinds
sum-requires c = let p = c.requires.room in (room_as c.args.w _ 3 c.in-3.is p.0, omega arith, p.4)

pub difference-requires : goal.difference-requires
unfolding kind_at kinds
difference-requires c = let p = c.requires.room in (room_as c.args.w _ 4 c.in-4.is p.0, omega arith, p.4)

pub product-requires : goal.product-requires
unfolding kind_at kinds
product-requires c = let p = c.requires.room in (room_as c.args.w _ 5 c.in-5.is p.0, p.1, p.4)

pub by_bit-requires : goal.by_bit-requires
unfolding kind_at kinds
by_bit-requires c =
    let p = c.requires.room in
    let inside : c.args.out + c.args.w ≤ length c.args.bits.now = omega arith in
    (room_as c.args.w _ 6 c.in-6.is p.0, inside, first_of inside p.4, second-of inside p.4)

pub by_bit-requires-in-7 : goal.by_bit-requires-in-7
unfolding kind_at kinds
by_bit-requires-in-7 c =
    let p = c.requires.room in
    let inside : c.args.out + c.args.w ≤ length c.args.bits.now = omega arith in
    (room_as c.args.w _ 7 c.in-7.is p.0, inside, first_of inside p.4, second-of inside p.4)

pub by_bit-requires-in-8 : goal.by_bit-requires-in-8
unfolding kind_at kinds
by_bit-requires-in-8 c =
    let p = c.requires.room in
    let inside : c.args.out + c.args.w ≤ length c.args.bits.now = omega arith in
    (room_as c.args.w _ 8 c.in-8.is p.0, inside, first_of inside p.4, second-of inside p.4)

pub shift_left-requires : goal.shift_left-requires
unfolding kind_at kinds
shift_left-requires c = let p = c.requires.room in (room_as c.args.w c.args.kind 9 (omega arith) p.0, p.1, p.3, p.4)

pub shift_right-requires : goal.shift_right-requires
unfolding kind_at kinds
shift_right-requires c = let p = c.requires.room in (room_as c.args.w c.args.kind 10 (omega arith) p.0, p.1, p.3, p.4)

pub shift_right_signed-requires : goal.shift_right_signed-requires
unfolding kind_at kinds
shift_right_signed-requires c = let p = c.requires.room in (room_as c.args.w c.args.kind 11 (omega arith) p.0, p.1, p.3, p.4, p.2)

pub returns-in-3 : goal.returns-in-3
unfolding kind_at kinds
returns-in-3 c = made_as _ 3 c.args.a c.args.b c.in-3.is c.sum.ensures

pub returns-in-4 : goal.returns-in-4
unfolding kind_at kinds
returns-in-4 c = made_as _ 4 c.args.a c.args.b c.in-4.is c.difference.ensures

pub returns-in-5 : goal.returns-in-5
unfolding kind_at kinds
returns-in-5 c = made_as _ 5 c.args.a c.args.b c.in-5.is c.product.ensures

pub returns-in-6 : goal.returns-in-6
unfolding kind_at kinds
returns-in-6 c =
    let inside : c.args.out + c.args.w ≤ length c.args.bits.now = omega arith in
    made_as _ 6 c.args.a c.args.b c.in-6.is (writes-makes inside c.by_bit.ensures)

pub returns-in-7 : goal.returns-in-7
unfolding kind_at kinds
returns-in-7 c =
    let inside : c.args.out + c.args.w ≤ length c.args.bits.now = omega arith in
    made_as _ 7 c.args.a c.args.b c.in-7.is (writes-makes inside c.by_bit-in-7.ensures)

pub returns-in-8 : goal.returns-in-8
unfolding kind_at kinds
returns-in-8 c =
    let inside : c.args.out + c.args.w ≤ length c.args.bits.now = omega arith in
    made_as _ 8 c.args.a c.args.b c.in-8.is (writes-makes inside c.by_bit-in-8.ensures)

pub returns-in-9 : goal.returns-in-9
unfolding kind_at kinds
returns-in-9 c = made_as _ 9 c.args.a c.args.b c.in-9.is c.shift_left.ensures

pub returns-in-10 : goal.returns-in-10
unfolding kind_at kinds
returns-in-10 c = made_as _ 10 c.args.a c.args.b c.in-10.is c.shift_right.ensures

pub returns-in_default : goal.returns-in_default
unfolding kind_at kinds
returns-in_default c = made_as c.args.kind 11 c.args.a c.args.b (omega arith) c.shift_right_signed.ensures
