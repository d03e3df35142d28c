-- The theorems of specs/Demand.antt: the registers of an accepted block, by their script. Assumes nothing.
use mathlib.Core.Bool.{true, not}
use mathlib.Core.List.{List}
use mathlib.Core.Option.{some}
use mathlib.Core.Path.{◌≡◌, sym, ap₂, ◌∙◌}
use Prim.Native.Nat.{ℕ}
use lib.Dec.{eqb}
use borrow.Author.Tests.{lt-ltb, eq-eqb}
use Rattle.terms.specs.Expr.{Expr}
use Rattle.terms.specs.Value.{value}
use Rattle.pool.specs.Node.{width_at}
use Rattle.pool.specs.Rules.{of_width}
use Rattle.pool.specs.Unfold.{unfold_at}
use Rattle.pool.specs.Growth.{NodeIs}
use Rattle.block_map.specs.Map.{node_of}
use Rattle.block.proofs.Equal.{registers-hold}
use Rattle.script_meaning.specs.Values.{meaning}
use Rattle.script_meaning.specs.Meaning.{script}
use Rattle.script_length.proofs.Answers.{good-nodes}
use Rattle.script_write.proofs.Means.{written-means, apart-when-holds}
use Rattle.script_blocks.specs.Demand.{RegistersChosen, DifferWhenScriptHolds, NamesHold}

may-be-chosen : (ws : List ℕ) (count n : ℕ) (t : Expr) → NodeIs ws count n 128 t → of_width ws count n 128 ≡ true
may-be-chosen ws count n t h = rw (lt-ltb n count h.under, eq-eqb (width_at ws n) 128 h.wide)

pub registers-chosen : RegistersChosen
registers-chosen old cs new a h z r r' rest l l' =
    let block = h.accepted z in
    let c = a.map.count in
    let x = node_of a.map r in
    let y = node_of a.map r' in
    good-nodes new c x y rest block.checked (may-be-chosen new c x _ (block.terms r l)) (may-be-chosen new c y _ (block.terms r' l'))

pub differ-when-script-holds : DifferWhenScriptHolds
differ-when-script-holds old cs new a h z r r' l l' buffer len out w start model m =
    apart-when-holds new a.map.count (node_of a.map r) (node_of a.map r') buffer len out w start model m (registers-hold old cs new a h z start r l)
    (registers-hold old cs new a h z start r' l')

pub names-hold : NamesHold
names-hold old cs new a h z x y buffer len out w start model m =
    let read = written-means new a.map.count x y buffer len out w start model m in (
      script read.names (not (eqb (value start (unfold_at new x)) (value start (unfold_at new y)))),
      read.meant_is,
      λ r l.
          let t = (h.accepted z).terms r l in
          read.values (node_of a.map r) t.under
          ∙ ap₂ (λ (b v : ℕ). some (meaning b v)) t.wide (sym (registers-hold old cs new a h z start r l)),
    )
