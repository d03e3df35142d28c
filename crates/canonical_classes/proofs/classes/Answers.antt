-- `classes` meets its contract: at the end each node below count has its class.
use Rattle.std.proofs.Common.{◌≡◌, ◌+◌, arith}
use Rattle.canonical_classes.proofs.Slots.{slots_long, slots-empty}
use Rattle.canonical_classes.proofs.Steps.{kept-first, valid-le}
use Rattle.canonical_classes.proofs.classes.Goals as goal

pub loop-n-init : goal.loop-n-init
loop-n-init c =
    let laid = c.requires.long.1 in
    let e = c.requires.empty in
    (laid, kept-first _ _ _ c.requires.long.0 (slots_long _ _ _ laid) (slots-empty _ _ _ laid e.0 e.1 e.2))

pub class_one-requires : goal.class_one-requires
class_one-requires c =
    let i = c.loop-n.invariant in
    record {
      valid = (valid-le c.args.pool.now (c.loop-n.n + 1) c.args.count (omega arith) c.requires.valid.0, omega arith, omega arith, i.0);
      kept = i.1;
    }

pub returns : goal.returns
returns c =
    let e : c.loop-n.n ≡ c.args.count = omega arith in
    let i = c.loop-n.invariant in
    (rw e at i.1.classes, i.0.first_long, i.0.second_long)
