-- No cut of a cut is left in the tree of an accepted instruction: the theorem of specs/Demand.antt. Assumes nothing.
use mathlib.Core.Bool.{Bool, true, ◌&&◌}
use mathlib.Core.List.{List}
use mathlib.Core.Path.{◌≡◌, refl, sym, ap, ◌∙◌}
use Prim.Native.Nat.{ℕ}
use Rattle.facts.proofs.Tests.{and_both}
use Rattle.neon.specs.Op.{op_at, arrangement_at, view}
use Rattle.neon.specs.Form.{has_second, reads_d, first_bits, second_bits}
use Rattle.neon.proofs.Legal.{formed}
use Rattle.pool.specs.Unfold.{unfold_at}
use Rattle.pool_check.proofs.Passed.{keeps}
use Rattle.pool_check.proofs.Sound.{sound}
use Rattle.pool.specs.Rules.{Valid}
use Rattle.trees.specs.Joined.{all_joined, uncut, Source}
use Rattle.trees_value.proofs.JoinedTrees.{joined-result}
use Rattle.instruction_check.specs.Number.{source_ok}
use Rattle.instruction_check.proofs.Refusing.{source_is, passes}
use Rattle.instruction.specs.Demand.{JoinsCuts}

-- a source that is wanted
source_of : (ws : List ℕ) (count : ℕ) → Valid ws count → (wanted : Bool) (w node : ℕ) → source_ok ws count wanted w node ≡ true → wanted ≡ true
    → all_joined (uncut (unfold_at ws node)) ≡ true
    → Source (unfold_at ws node) w
source_of ws count v wanted w node ok e below =
    let s = source_is ws count wanted w node ok e in
    let t = sound ws count v node s.0 in
    record { ok = t.ok; wide = t.wide ∙ s.1; below = below }

pub joins-cuts : JoinsCuts
joins-cuts old count new r operation arrangement i d n m a z jd jn jm =
    let o = op_at operation in
    let v = arrangement_at arrangement in
    let p = passes old count operation arrangement i d n m (sym a.number ∙ z) in
    let legal = (formed operation arrangement i 0 p.form-ok).0 in
    let valid = keeps old count p.pool-ok in
    let all =
    and_both (source_ok old count (reads_d o v) (view v) d && source_ok old count true (first_bits o v) n) (source_ok old count (has_second o) (second_bits o v) m)
    p.sources-ok
    in
    let two = and_both (source_ok old count (reads_d o v) (view v) d) (source_ok old count true (first_bits o v) n) all.0 in
    ap all_joined (a.done z).is.tree
    ∙ joined-result o v i (unfold_at old d) (unfold_at old n) (unfold_at old m) legal.low legal.high
    (λ e. source_of old count valid (reads_d o v) (view v) d two.0 e (jd e))
    (source_of old count valid true (first_bits o v) n two.1 refl jn)
    (λ e. source_of old count valid (has_second o) (second_bits o v) m all.1 e (jm e))
