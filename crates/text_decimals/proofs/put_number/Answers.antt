-- `put_number` writes the decimal text: at each turn the places that are left take the rest.
use Rattle.std.proofs.Common.{arith, subst, ◌≡◌, ℕ, suc, ◌-◌, ◌+◌, ◌*◌, ◌≤◌, ◌<◌}
use Rattle.text_decimals.proofs.Digits.{Left, left-begin, left-step, left-skip, left-last, room-step, room-last, unit-is}
use Rattle.text_decimals.proofs.put_number.Goals as goal
use Rattle.text_decimals.proofs.put_number.Goals.{then-unit-x, else-unit-x}

pub loop-unit-init : goal.loop-unit-init
loop-unit-init c = left-begin c.args.buf.now c.args.at c.args.x c.if-x-ge100000.false

pub bounds-buf-end : goal.bounds-buf-end
bounds-buf-end c =
    let a = c.args in
    let l = c.loop-unit in
    let j = l.unit-index in
    let unit = unit-is j c.loop-unit-test.true in
    let places : 5 - j ≡ suc (4 - j) = omega arith in
    let left = subst (λ (k : ℕ). Left a.buf.now a.at a.x k l.rest l.end l.buf) places l.invariant in
    let inside = room-step (4 - j) left (subst (λ (u : ℕ). u ≤ a.x) unit c.if-unit-x.true) c.requires in
    omega (arith, inside, l.auto.buf)

pub loop-unit-preserved : goal.loop-unit-preserved
loop-unit-preserved c =
    let a = c.args in
    let l = c.loop-unit in
    let j = l.unit-index in
    let unit = unit-is j c.loop-unit-test.true in
    let places : 5 - j ≡ suc (4 - j) = omega arith in
    let fewer : 4 - j ≡ 5 - (j + 1) = omega arith in
    let left = subst (λ (k : ℕ). Left a.buf.now a.at a.x k l.rest l.end l.buf) places l.invariant in
    subst (λ (k : ℕ). Left a.buf.now a.at a.x k c.if-unit-x.rest c.if-unit-x.end c.if-unit-x.buf) fewer
    (elim c.if-unit-x.branch [
      | then-unit-x w ↦
          let p = w.place_of-place in
          rw (w.buf-is, w.rest-is, w.end-is)
          (left-step (4 - j) p.result.digit p.result.rest w.decimal_digit.result left (subst (λ (u : ℕ). u ≤ a.x) unit w.if-unit-x.true)
          (subst (λ (u : ℕ). u * p.result.digit + p.result.rest ≡ l.rest) unit p.ensures.0) (subst (λ (u : ℕ). p.result.rest < u) unit p.ensures.1)
          w.decimal_digit.ensures)
      | else-unit-x w ↦ rw (w.buf-is, w.rest-is, w.end-is) (left-skip (4 - j) left (subst (λ (u : ℕ). a.x < u) unit w.if-unit-x.false))
    ])

pub bounds-buf-end-2 : goal.bounds-buf-end-2
bounds-buf-end-2 c =
    let a = c.args in
    let l = c.loop-unit in
    let one : 5 - l.unit-index ≡ 1 = omega arith in
    let inside = room-last (subst (λ (k : ℕ). Left a.buf.now a.at a.x k l.rest l.end l.buf) one l.invariant) c.requires in
    omega (arith, inside, l.auto.buf)

pub returns : goal.returns
returns c =
    let a = c.args in
    let l = c.loop-unit in
    let one : 5 - l.unit-index ≡ 1 = omega arith in
    left-last c.decimal_digit-2.result (subst (λ (k : ℕ). Left a.buf.now a.at a.x k l.rest l.end l.buf) one l.invariant) c.decimal_digit-2.ensures
