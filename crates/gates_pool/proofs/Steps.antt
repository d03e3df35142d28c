-- One node more: what its literals must be, and what the nodes before it keep. Assumes nothing.
use mathlib.Core.Path.{◌≡◌, sym, ap, ◌∙◌, subst}
use mathlib.Core.List.{List}
use mathlib.Core.Logic.{◌⊎◌, inl, inr, ⊎_elim}
use Prim.Native.Nat.{ℕ, zero, suc, ◌+◌, ◌*◌, ◌≤◌, ◌<◌}
use native.Mathlib.Omega.{arith}
use lib.ListN.{length, get_or}
use Rattle.facts.proofs.Numbers.{before-or-from}
use Rattle.terms.specs.Value.{value}
use Rattle.pool.specs.Node.{width_at}
use Rattle.pool.specs.Unfold.{unfold_at}
use Rattle.gates.specs.Graph.{truth}
use Rattle.gates.specs.Grow.{Grown}
use Rattle.gates.proofs.Laws.{grown-same}
use Rattle.gates_words.specs.Number.{bit_at, number}
use Rattle.gates_words.specs.Words.{Low, Puts}
use Rattle.gates_words.proofs.Sums.{sum_same}
use Rattle.gates_words.proofs.Loops.{number-kept, low-kept}
use Rattle.gates_pool.specs.Bits.{Start, literals, number_at, Held, wire_at, NoGates}
use Rattle.gates_pool.specs.Gates.{gates_at, Ready, Made}
use Rattle.gates_pool.proofs.Rules.{most}
use Rattle.gates_pool.proofs.Values.{literals-wide, wire-under, wires-number, wires-wide}

-- a node has at most 129 literals
pub few : (w : ℕ) → w ≤ 129 → literals w ≤ 129
few zero l = omega arith
few (suc w) l = l

pub held_none : (ws g : List ℕ) (k : ℕ) (bits : List ℕ) → Held ws 0 g k bits
held_none ws g k bits = record { low = λ m l. absurd (omega (arith, l)); is = λ start small m l. absurd (omega (arith, l)) }

module _ {ws : List ℕ} {n : ℕ} {g : List ℕ} {k : ℕ} {bits g' : List ℕ} {k' : ℕ} (bits' : List ℕ) (ready : Ready ws n g k bits) (grown : Grown g k g' k')
    (most-is : k' ≤ k + gates_at ws n)
    (size : length bits' ≡ length bits) (before : (p : ℕ) → p < 129 * n → get_or bits' p 0 ≡ get_or bits p 0)
    (low : Low bits' (129 * n) (literals (width_at ws n)) k')
    (is : (start : ℕ → ℕ) → Start start → number_at start ws g' bits' n ≡ value start (unfold_at ws n)) where
  -- the literals of an earlier node
  kept : (m : ℕ) → m < n → (j : ℕ) → j < literals (width_at ws m) → get_or bits' (129 * m + j) 0 ≡ get_or bits (129 * m + j) 0
  kept m l j q = before (129 * m + j) (omega (arith, few (width_at ws m) (most ws n ready.placed.node m (omega arith))))

  last : {m : ℕ} → m < n + 1 → (m < n) ⊎ (m ≡ n)
  last {m} l = ⊎_elim inl (λ q. inr (omega (arith, q, l))) (before-or-from m n)

  pub one_more : Made ws n g k bits g' k' bits'
  one_more =
      record {
        grown = grown;
        most = most-is;
        size = size;
        held =
            record {
              low = λ m l.
                  ⊎_elim (λ q. low-kept bits bits' (129 * m) (129 * m) (literals (width_at ws m)) grown.more (ready.held.low m q) (kept m q))
                  (λ q. subst (λ (x : ℕ). Low bits' (129 * x) (literals (width_at ws x)) k') (sym q) low)
                  (last l);
              is = λ start small m l.
                  ⊎_elim
                  (λ q.
                  number-kept start bits bits' (129 * m) (129 * m) (literals (width_at ws m)) grown (ready.held.low m q) (kept m q)
                  ∙ ready.held.is start small m q)
                  (λ q. subst (λ (x : ℕ). number_at start ws g' bits' x ≡ value start (unfold_at ws x)) (sym q) (is start small))
                  (last l);
            };
      }

-- a node that needs no gates
pub wired : {ws : List ℕ} {n : ℕ} {g : List ℕ} {k : ℕ} {bits bits' : List ℕ} → Ready ws n g k bits → NoGates ws n
    → Puts bits bits' (129 * n) (width_at ws n) (wire_at ws bits n) → Made ws n g k bits g k bits'
wired {ws} {n} {g} {k} {bits} {bits'} ready plain p =
    let r = ready.placed.node in
    let all = literals-wide (width_at ws n) (wires-wide ws n r g k bits ready.held plain) in
    one_more bits' ready (grown-same g k) (omega arith) p.size p.before
    (rw all (λ j l. rw (p.at j l) (wire-under ws n r g k bits ready.held plain j l)))
    (λ start small.
    ap (number start g bits' (129 * n)) all
    ∙ sum_same (bit_at start g bits' (129 * n)) (λ j. truth start g (wire_at ws bits n j)) (width_at ws n) (λ j l. ap (truth start g) (p.at j l))
    ∙ wires-number ws n r g k bits ready.held plain start small)
