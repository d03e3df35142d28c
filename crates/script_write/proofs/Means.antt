-- What `write_script` writes, read by the standard: the theorem of specs/Demand.antt, and when the assertion holds. Assumes nothing.
use mathlib.Core.Bool.{true, not, false≢true}
use mathlib.Core.List.{List}
use mathlib.Core.Logic.{◌↔◌}
use mathlib.Core.Path.{◌≡◌, sym, ap, ◌∙◌}
use Prim.Native.Nat.{ℕ}
use lib.Dec.{eqb}
use lib.ListN.{length, take}
use borrow.Author.Tests.{eq-eqb, ne_eqb}
use Rattle.terms.specs.Value.{value}
use Rattle.pool.specs.Unfold.{unfold_at}
use Rattle.script_meaning.specs.Meaning.{script, meant}
use Rattle.script_meaning.specs.Script.{script_of}
use Rattle.script_meaning.specs.Demand.{ModelOf, Holds}
use Rattle.script_meaning.proofs.Script.{script-means}
use Rattle.script_meaning.proofs.Stays.{holds_of}
use Rattle.pool_check.proofs.Passed.{keeps, below, has_width}
use Rattle.script_length.proofs.Answers.{good}
use Rattle.script_write.specs.Answer.{write_number, Answered}
use Rattle.script_write.specs.Demand.{WrittenMeans}
use Rattle.script_write.proofs.Answers.{front-is}

-- the bytes up to the length are the script
pub written_is : (ws : List ℕ) (count a b : ℕ) (old : List ℕ) (len : ℕ) (new : List ℕ) → Answered ws count a b old 0 len new → take len new ≡ script_of ws count a b
written_is ws count a b old len new h =
    front-is (write_number ws count a b (length old)) (script_of ws count a b) old len new h.number_is h.length_is h.buffer_is

pub written-means : WrittenMeans
written-means ws count a b old len new h start model m =
    let g = good ws count a b _ (sym h.number_is) in
    let same_width_lem = has_width ws count a 128 g.first ∙ sym (has_width ws count b 128 g.second) in
    let r =
    script-means ws count (keeps ws count g.pool) a b (below ws count a 128 g.first) (below ws count b 128 g.second) same_width_lem start model m
    in
    record {
      names = r.names;
      values = r.values;
      meant_is = ap (meant model) (written_is ws count a b old len new h) ∙ r.meant_is;
    }

-- numbers that the two nodes have at a start differ exactly when the assertion holds in the start's model
pub apart-when-holds : (ws : List ℕ) (count a b : ℕ) (old : List ℕ) (len : ℕ) (new : List ℕ) → Answered ws count a b old 0 len new
    → (start : ℕ → ℕ) (model : List ℕ → ℕ) → ModelOf start model
    → {p q : ℕ} → p ≡ value start (unfold_at ws a) → q ≡ value start (unfold_at ws b)
    → (p ≡ q → ⊥) ↔ Holds model (take len new)
apart-when-holds ws count a b old len new h start model m p q =
    let read = written-means ws count a b old len new h start model m in
    let va = value start (unfold_at ws a) in
    let vb = value start (unfold_at ws b) in (
      λ differ. (script read.names (not (eqb va vb)), read.meant_is, ap not (ne_eqb va vb (λ e. differ (p ∙ e ∙ sym q)))),
      λ holds same.
          let holds-is : not (eqb va vb) ≡ true = ap holds_of (sym read.meant_is ∙ holds.1) ∙ holds.2 in
          false≢true (sym (ap not (eq-eqb va vb (sym p ∙ same ∙ q))) ∙ holds-is),
    )
