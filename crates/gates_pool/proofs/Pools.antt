-- The nodes of a pool one after the other: the gates so far, and one node more. Assumes nothing.
use mathlib.Core.Path.{refl, sym, ◌∙◌, subst}
use mathlib.Core.List.{List}
use mathlib.Core.Logic.{⊎_elim}
use Prim.Native.Nat.{ℕ, zero, suc, ◌+◌, ◌*◌, ◌≤◌, ◌<◌}
use native.Mathlib.Nat.{not-suc-le-zero, le_of_suc-le-suc, eq-or-lt_of_le}
use native.Mathlib.Numerals.{add-one}
use native.Mathlib.Omega.{arith}
use lib.ListN.{length}
use Rattle.pool.specs.Rules.{Valid}
use Rattle.text_parts.proofs.Operands.{ready_of}
use Rattle.gates.specs.Grow.{Room}
use Rattle.gates.proofs.Laws.{grown-same, grown-trans}
use Rattle.gates_pool.specs.Gates.{gates_at, gates_in, Ready, Made, Nodes}
use Rattle.gates_pool.proofs.Steps.{held_none}

gates-below : (ws : List ℕ) (count n : ℕ) → n < count → gates_in ws n + gates_at ws n ≤ gates_in ws count
unfolding gates_in
gates-below ws zero n l = absurd (not-suc-le-zero l)
gates-below ws (suc count) n l =
    ⊎_elim (λ q. subst (λ (m : ℕ). gates_in ws m + gates_at ws m ≤ gates_in ws count + gates_at ws count) (sym q) (omega arith))
    (λ h. omega (arith, gates-below ws count n h))
    (eq-or-lt_of_le (le_of_suc-le-suc l))

pub nodes-none : (ws g : List ℕ) (k : ℕ) (bits : List ℕ) → Nodes ws 0 g k bits g k bits
nodes-none ws g k bits = record { grown = grown-same g k; most = omega arith; size = refl; held = held_none ws g k bits }

module _ {ws g bits h new : List ℕ} {n j k : ℕ} (d : Nodes ws n g j bits h k new) where
  pub node-ready : (count : ℕ) → n < count → Valid ws count → 4 * count ≤ length ws → Room g j (gates_in ws count) → 129 * (count + 1) ≤ length bits
      → Ready ws n h k new
  node-ready count l v inside room places =
      let m = gates-below ws count n l in
      record {
        placed = record { node = ready_of ws count n v l inside; places = omega (arith, places, l, d.size) };
        room = record { words = omega (arith, m, d.most, room.words, d.grown.long); numbers = omega (arith, m, d.most, room.numbers) };
        held = d.held;
      }

  pub nodes-more : {h' new' : List ℕ} {k' : ℕ} → Made ws n h k new h' k' new' → Nodes ws (n + 1) g j bits h' k' new'
  unfolding gates_in
  nodes-more made =
      record {
        grown = grown-trans d.grown made.grown;
        most = rw (add-one n) (omega (arith, d.most, made.most));
        size = made.size ∙ d.size;
        held = made.held;
      }
