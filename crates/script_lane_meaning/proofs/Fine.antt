-- Every word of a script by lanes is plain, so that it is read as it was written. Assumes nothing.
use mathlib.Core.Path.{◌≡◌}
use mathlib.Core.Bool.{true}
use mathlib.Core.List.{List}
use Prim.Native.Nat.{ℕ, zero, suc, ◌+◌, ◌≤◌}
use native.Mathlib.Omega.{arith}
use Rattle.terms.specs.Display.{bytes}
use Rattle.pool.specs.Node.{cell_at, width_at}
use Rattle.pool.specs.Rules.{Valid}
use Rattle.script_meaning.specs.Sexp.{Sexp, word, Items, stop, ◌⨾◌}
use Rattle.script_meaning.specs.Script.{node_name, apply_to, term_of, assertion, defined_by, check_sat}
use Rattle.script_meaning.proofs.Reading.{fine, fine_all}
use Rattle.script_meaning.proofs.Names.{decimal-plain}
use Rattle.script_meaning.proofs.Fine.{plain-decimal, fine-sort, plain_at, fine-command, fine-declarations}
use Rattle.script_lane_meaning.specs.LaneScript.{constant, equation, equations, lane_of, lane_claim, lane_commands}

fine-equal : (n : ℕ) (t : Sexp) → fine t ≡ true → fine (assertion (apply_to (bytes "=") (word (node_name n)) t)) ≡ true
unfolding fine
fine-equal n t h = rw (decimal-plain n, h)

fine-distinct : (s t : Sexp) → fine s ≡ true → fine t ≡ true → fine_all (assertion (apply_to (bytes "distinct") s t) ⨾ check_sat ⨾ stop) ≡ true
unfolding fine
fine-distinct s t p q = rw (p, q)

module _ (ws : List ℕ) (count : ℕ) (valid : Valid ws count) where
  fine-constant : (n : ℕ) → fine (constant ws n) ≡ true
  unfolding fine
  fine-constant n = rw (decimal-plain n, fine-sort (width_at ws n))

  fine-equation : (n : ℕ) → fine (term_of ws n) ≡ true → fine (equation ws n) ≡ true
  fine-equation n h = fine-equal _ _ h

  fine-equations : (k n : ℕ) (rest : Items) → n + k ≤ count → fine_all rest ≡ true → fine_all (equations ws k n rest) ≡ true
  unfolding equations
  fine-equations zero n rest e h = h
  fine-equations (suc k) n rest e h =
      let more = fine-equations k (suc n) rest (omega arith) h in
      let second = defined_by (cell_at ws n).kind (equation ws n) (equations ws k (suc n) rest) in
      fine-command ws count valid n (constant ws n) second (omega arith) (λ _. fine-constant n)
      (fine-command ws count valid n (equation ws n) (equations ws k (suc n) rest) (omega arith) (fine-equation n) more)

  fine-lane : (hi lo n : ℕ) → fine (lane_of ws hi lo n) ≡ true
  unfolding fine
  fine-lane hi lo n = rw (plain-decimal hi, plain-decimal lo, plain_at ws count valid n)

  fine-claim : (x y hi lo : ℕ) → fine_all (lane_claim ws x y hi lo ⨾ check_sat ⨾ stop) ≡ true
  fine-claim x y hi lo = fine-distinct _ _ (fine-lane hi lo _) (fine-lane hi lo _)

  pub fine-script : (x y hi lo : ℕ) → fine_all (lane_commands ws count x y hi lo) ≡ true
  unfolding lane_commands fine
  fine-script x y hi lo = fine-declarations ws count valid 32 0 _ (fine-equations _ 0 _ (omega arith) (fine-claim x y hi lo))
