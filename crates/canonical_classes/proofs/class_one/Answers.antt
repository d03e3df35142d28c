-- `class_one` keeps `Kept` for one node more: a known tree's class, or a class of its own in the slot that `find` gave.
use Rattle.std.proofs.Common.{◌+◌, ◌-◌, sym, subst, List, ℕ, slice_set, arith}
use Rattle.canonical_classes.specs.Class.{Kept, slots_of}
use Rattle.canonical_classes.proofs.Steps.{kept_new, kept-old}
use Rattle.canonical_classes.proofs.class_one.Goals as goal

pub returns-then-link-gt0-clause-kept_2 : goal.returns-then-link-gt0-clause-kept_2
returns-then-link-gt0-clause-kept_2 c =
    let a = c.args in
    let v = c.requires.valid in
    let f = c.find-place.ensures.found (omega arith) in
    kept-old a.pool.now (a.n.0 + 1) v.0 (λ i. omega (arith, c.type_inv.pool i)) (omega arith) a.n.0 (omega arith) a.class.now (slots_of a.first.now a.second.now a.ways.now)
    c.requires.kept (c.find-place.result.link - 1) (omega (arith, f.0)) f.1

pub returns-clause-kept_2 : goal.returns-clause-kept_2
returns-clause-kept_2 c =
    let a = c.args in
    let v = c.requires.valid in
    subst (λ (l : List ℕ). Kept a.pool.now (a.n.0 + 1) (slice_set a.class.now a.n.0 a.n.0) l) (sym c.set_link.ensures.is)
    (kept_new a.pool.now (a.n.0 + 1) v.0 (λ i. omega (arith, c.type_inv.pool i)) (omega arith) a.n.0 (omega arith) a.class.now (slots_of a.first.now a.second.now a.ways.now)
    c.requires.kept c.find-place.result (omega arith) c.find-place.ensures)
