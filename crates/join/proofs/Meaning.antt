-- The theorems of specs/Meaning.antt. Assumes nothing.
use mathlib.Core.List.{List}
use mathlib.Core.Path.{◌≡◌, sym, ◌∙◌}
use Prim.Native.Nat.{ℕ, ◌≤◌}
use native.Mathlib.Omega.{arith}
use borrow.Author.Tests.{le-leb}
use Rattle.pool.specs.Node.{places}
use Rattle.join.specs.Join.{join_count, Joined, Answered}
use Rattle.join.specs.Meaning.{TermsKept, EqOfTerms, EqHolds, JoinedPasses}
use Rattle.join.proofs.Refusals.{Passed, all-passed}
use Rattle.join.proofs.Trees.{first-trees, second-trees, eq-tree, eq-value, joined-valid}

module _ (first : List ℕ) (c : ℕ) (second : List ℕ) (d x y : ℕ) (old new : List ℕ) (a : Joined) (A : Answered first c second d x y old new a) (z : a.number ≡ 0) where
  pub joined : Passed first c second d x y old
  joined = all-passed first c second d x y old (sym A.number ∙ z)

  few : join_count c d ≤ 65535
  few = omega (arith, joined.room)

pub terms-kept : TermsKept
terms-kept first c second d x y old new a A z =
    let p = joined first c second d x y old new a A z in
    let l = few first c second d x y old new a A z in
    let w = (A.done z).words in
    (first-trees first c second d x y p.first-starts p.second-starts l new w, second-trees first c second d x y p.first-starts p.second-starts l new w)

pub eq-of-terms : EqOfTerms
eq-of-terms first c second d x y old new a A z =
    let p = joined first c second d x y old new a A z in
    let l = few first c second d x y old new a A z in
    rw (A.done z).node (eq-tree first c second d x y p.first-starts p.second-starts l new (A.done z).words p.x-less p.y-less)

pub eq-holds : EqHolds
eq-holds first c second d x y old new a A z =
    let p = joined first c second d x y old new a A z in
    let l = few first c second d x y old new a A z in
    rw (A.done z).node (eq-value first c second d x y p.first-starts p.second-starts l new (A.done z).words p.x-less p.y-less)

pub joined-passes : JoinedPasses
joined-passes first c second d x y old new a A z =
    let p = joined first c second d x y old new a A z in
    let l = few first c second d x y old new a A z in
    let D = A.done z in
    let v = joined-valid first c second d x y p.first-starts p.second-starts l new D.words p.x-less p.y-less p.x-wide p.y-wide in
    rw (D.count, D.long, le-leb (join_count c d) (places old) p.room) v
