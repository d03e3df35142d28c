-- sources_ok is `sources_ok` of each form with that code: the three sources as the code says
use Rattle.instruction_check.proofs.Refusing.{sources-are}
use borrow.Author.Rules.{rules}
use Rattle.instruction_check.proofs.sources_ok.Statement.{statement}
use Rattle.instruction_check.proofs.sources_ok.Tie as tie

reads-d-requires : tie.Need-reads_d-requires
reads-d-requires c κs = search rules

source-ok-requires : tie.Need-source_ok-requires
source-ok-requires c κs = search rules

first-full-requires : tie.Need-first_full-requires
first-full-requires c κs = search rules

source-ok-requires-2 : tie.Need-source_ok-requires-2
source-ok-requires-2 c κs = search rules

has-second-requires : tie.Need-has_second-requires
has-second-requires c κs = search rules

second-full-requires : tie.Need-second_full-requires
second-full-requires c κs = search rules

source-ok-requires-3 : tie.Need-source_ok-requires-3
source-ok-requires-3 c κs = search rules

returns : tie.Need-returns
returns c =
    let sf = c in
    let hs = c in
    let y = c in
    let ff = c in
    let x = c in
    let rd = c in
    let a = rd.args in
    λ o v h e q.
    sources-are a.pool.now a.count o v a.d.0 a.n.0 a.m.0 q (rd.reads_d.ensures o v h e) (ff.first_full.ensures o v h e)
    (hs.has_second.ensures o v h e) (sf.second_full.ensures o v h e) x.source_ok.ensures y.source_ok-2.ensures c.source_ok-3.ensures

pub sources_ok_spec : {M : Type 1} → statement M
sources_ok_spec =
    tie.close
    (tie.spec
    reads-d-requires
    source-ok-requires
    first-full-requires
    source-ok-requires-2
    has-second-requires
    second-full-requires
    source-ok-requires-3
    returns)
