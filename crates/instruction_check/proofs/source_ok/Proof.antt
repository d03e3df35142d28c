-- source_ok is `source_ok`: none if it is not wanted, else a node below the count of its width
use mathlib.Core.Path.{◌∙◌}
use Prim.Native.Nat.{◌*◌, ◌≤◌}
use lib.ListN.{length}
use Rattle.pool_check.proofs.Passed.{words-for}
use Rattle.instruction_check.proofs.Refusing.{source-none, source-full, source-half}
use Rattle.instruction_check.proofs.source_ok.Statement.{statement}
use Rattle.instruction_check.proofs.source_ok.Tie as tie

words : (c : tie.Else-not-wanted) → let a = c.args in 4 * a.count ≤ length a.pool.now
words c = let s = c in words-for s.args.pool.now s.args.count s.requires

returns : tie.Need-returns-then-not-wanted
returns c = let a = c.args in source-none a.pool.now a.count a.wanted a.full a.node.0 c.if-not-wanted.true-raw

of-width-requires : tie.Need-of_width-requires
of-width-requires c κs = words c.before

returns-2 : tie.Need-returns-then-full
returns-2 c =
    let wanted = c in
    let a = wanted.args in
    c.of_width.ensures ∙ source-full a.pool.now a.count a.wanted a.full a.node.0 wanted.if-not-wanted.false-raw c.if-full.true

of-width-requires-2 : tie.Need-of_width-requires-2
of-width-requires-2 c κs = words c.before

returns-3 : tie.Need-returns
returns-3 c =
    let narrow = c in
    let a = narrow.args in
    c.of_width-2.ensures ∙ source-half a.pool.now a.count a.wanted a.full a.node.0 narrow.if-not-wanted.false-raw narrow.if-full.false

pub source_ok_spec : {M : Type 1} → statement M
source_ok_spec = tie.close (tie.spec returns of-width-requires returns-2 of-width-requires-2 returns-3)
