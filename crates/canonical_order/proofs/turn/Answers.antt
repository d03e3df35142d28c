-- `turn` makes one turn of the walk (`Stepped`): the top of the stack gets its number, or an operand without one goes on the stack.
use Rattle.std.proofs.Common.{◌≡◌, ◌+◌, ◌-◌, ◌<◌, arith}
use Rattle.std.proofs.lemmas.Bool.Decides.{nat_tests}
use Rattle.pool_operands.proofs.Unused.{third-small}
use Rattle.canonical_order.proofs.Turns.{turn-done, turn-less, turn_more}
use Rattle.canonical_order.proofs.turn.Goals as goal

-- the top of the stack is a node of the term, and so many lie below it
pub next_open-m-requires : goal.next_open-m-requires
next_open-m-requires c =
    let v = c.requires.valid in
    let top = c.requires.walking.deep (c.args.s.depth - 1) (omega arith) in
    let below : c.from.result < c.args.root.0 + 1 = omega (arith, top) in
    (omega arith, third-small c.args.pool.now (c.args.root.0 + 1) c.from.result v.0 below (omega arith))

pub returns-then-eq : goal.returns-then-eq
returns-then-eq c =
    let a = c.args in
    let v = c.requires.valid in
    let none : c.next_open-m.result.0 ≡ 65535 = grind (arith, nat_tests) in
    turn-done a.pool.now a.class.now a.root.0 c.requires.classes v.2 v.0 (λ i. omega (arith, c.type_inv.pool i)) a.number.now
    a.order.now a.s.count a.stack.now a.s.depth c.requires.depth_nonzero c.requires.walking c.from.result c.next_open-m.result.0 c.from.ensures
    c.next_open-m.ensures none

pub overflow_cast-stack : goal.overflow_cast-stack
overflow_cast-stack c =
    let a = c.args in
    let v = c.requires.valid in
    let some : c.next_open-m.result.0 ≡ 65535 → ⊥ = grind (arith, nat_tests) in
    omega (
      arith,
      turn-less a.pool.now a.class.now a.root.0 c.requires.classes v.2 v.0 (λ i. omega (arith, c.type_inv.pool i)) a.number.now
          a.order.now a.s.count a.stack.now a.s.depth c.requires.depth_nonzero c.requires.walking c.from.result c.next_open-m.result.0
          c.from.ensures c.next_open-m.ensures some,
    )

pub returns : goal.returns
returns c =
    let a = c.args in
    let v = c.requires.valid in
    let some : c.next_open-m.result.0 ≡ 65535 → ⊥ = grind (arith, nat_tests) in
    turn_more a.pool.now a.class.now a.root.0 c.requires.classes v.2 v.0 (λ i. omega (arith, c.type_inv.pool i)) a.number.now
    a.order.now a.s.count a.stack.now a.s.depth c.requires.depth_nonzero c.requires.walking c.from.result c.next_open-m.result.0 c.from.ensures
    c.next_open-m.ensures some
