use Rattle.std.proofs.Common.{refl, sym, arith}
use Rattle.join.proofs.Refusals.{all-passed}
use Rattle.join.proofs.Copies.{eq-at, all_done}
use Rattle.join.proofs.join.Goals as goal

pub copy_pools-requires-clause-valid : goal.copy_pools-requires-clause-valid
copy_pools-requires-clause-valid c =
    let a = c.args in
    let p = all-passed a.first.now a.c a.second.now a.d a.x a.y a.out.now (sym c.in_ok-check_join.ensures) in
    (p.second-starts.valid, p.second-starts.long, p.second-starts.enough)

pub copy_pools-requires-clause-c_in_bounds : goal.copy_pools-requires-clause-c_in_bounds
copy_pools-requires-clause-c_in_bounds c =
    let a = c.args in
    let p = all-passed a.first.now a.c a.second.now a.d a.x a.y a.out.now (sym c.in_ok-check_join.ensures) in
    (p.first-starts.long, p.first-starts.enough)

pub copy_pools-requires-clause-d_in_bounds : goal.copy_pools-requires-clause-d_in_bounds
copy_pools-requires-clause-d_in_bounds c =
    let a = c.args in
    let p = all-passed a.first.now a.c a.second.now a.d a.x a.y a.out.now (sym c.in_ok-check_join.ensures) in
    (omega (arith, p.room), omega (arith, p.room))

pub put_eq-requires-clause-c_in_bounds : goal.put_eq-requires-clause-c_in_bounds
put_eq-requires-clause-c_in_bounds c =
    let a = c.args in
    let p = all-passed a.first.now a.c a.second.now a.d a.x a.y a.out.now (sym c.in_ok-check_join.ensures) in
    (p.first-starts.long, p.second-starts.long)

pub put_eq-requires-clause-le_c : goal.put_eq-requires-clause-le_c
put_eq-requires-clause-le_c c =
    let a = c.args in
    let p = all-passed a.first.now a.c a.second.now a.d a.x a.y a.out.now (sym c.in_ok-check_join.ensures) in
    (p.first-starts.enough, p.second-starts.enough, p.x-less, p.y-less)

pub put_eq-requires-clause-d_in_bounds : goal.put_eq-requires-clause-d_in_bounds
put_eq-requires-clause-d_in_bounds c =
    let a = c.args in
    let p = all-passed a.first.now a.c a.second.now a.d a.x a.y a.out.now (sym c.in_ok-check_join.ensures) in
    (omega (arith, p.room, (c.copy_pools.ensures 0 0).long), omega (arith, p.room))

pub overflow_add-result : goal.overflow_add-result
overflow_add-result c =
    let a = c.args in
    let p = all-passed a.first.now a.c a.second.now a.d a.x a.y a.out.now (sym c.in_ok-check_join.ensures) in
    omega (arith, p.first-starts.few, p.second-starts.few)

pub overflow_sub-result : goal.overflow_sub-result
overflow_sub-result c =
    let a = c.args in
    let p = all-passed a.first.now a.c a.second.now a.d a.x a.y a.out.now (sym c.in_ok-check_join.ensures) in
    omega (arith, p.first-starts.enough)

pub overflow_add-result-2 : goal.overflow_add-result-2
overflow_add-result-2 c =
    let a = c.args in
    let p = all-passed a.first.now a.c a.second.now a.d a.x a.y a.out.now (sym c.in_ok-check_join.ensures) in
    omega (arith, p.first-starts.few, p.second-starts.few)

pub overflow_sub-result-2 : goal.overflow_sub-result-2
overflow_sub-result-2 c =
    let a = c.args in
    let p = all-passed a.first.now a.c a.second.now a.d a.x a.y a.out.now (sym c.in_ok-check_join.ensures) in
    omega (arith, p.first-starts.enough)

pub returns : goal.returns
returns c =
    let a = c.args in
    let p = all-passed a.first.now a.c a.second.now a.d a.x a.y a.out.now (sym c.in_ok-check_join.ensures) in
    all_done a.first.now a.c a.second.now a.d a.x a.y a.out.now c.in_ok-check_join.ensures refl
    (eq-at a.first.now a.c a.second.now a.d a.x a.y p.first-starts.enough p.second-starts.enough a.out.now _ _
    (omega (arith, p.room, (c.copy_pools.ensures 0 0).long)) c.put_eq.ensures (c.copy_pools.ensures a.x a.y))
