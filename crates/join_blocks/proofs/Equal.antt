-- The theorems of specs/Demand.antt. Assumes nothing.
use mathlib.Core.List.{List}
use mathlib.Core.Bool.{true, ◌&&◌}
use mathlib.Core.Logic.{◌↔◌, ⊎_elim}
use mathlib.Core.Path.{◌≡◌, refl, sym, ap, ◌∙◌}
use Prim.Native.Nat.{ℕ, zero, suc, ◌≤◌, ◌<◌}
use native.Mathlib.Omega.{arith}
use native.Mathlib.Nat.{le_of_lt}
use borrow.Author.Tests.{lt-ltb, le-ltb, le-leb, eq-eqb, ne_eqb}
use Rattle.facts.proofs.Numbers.{before-or-from}
use Rattle.neon.specs.declared.Instruction.{Instruction}
use Rattle.pool.specs.Node.{bad, var, code_of, Cell, kind_number, word_at, places}
use Rattle.pool.specs.Rules.{pool_ok, of_width}
use Rattle.pool.proofs.Facts.{kind-code}
use Rattle.terms.specs.Expr.{Var}
use Rattle.block_map.specs.declared.RegisterMap.{RegisterMap}
use Rattle.block_map.specs.Map.{first_map, node_of}
use Rattle.block.specs.Block.{Accepted, VarAt}
use Rattle.block.proofs.Running.{lowered-more}
use Rattle.block.proofs.Equal.{equal-when-terms-are}
use Rattle.join.specs.Starts.{var_rule, var_rules, starts_with_registers}
use Rattle.join.specs.Join.{join_count, join_number}
use Rattle.join.proofs.Meaning.{eq-holds}
use Rattle.join_blocks.specs.Demand.{BlocksJoin, EqualWhenEqHolds}

-- ---- the pool of an accepted block begins with the registers and has no further Var

var-number : (ws : List ℕ) (r : ℕ) → VarAt ws r → kind_number ws r ≡ 1
var-number ws r v =
    let κ = ap (λ (k : Cell). k.kind) v in
    ⊎_elim (λ e. absurd (no (sym κ ∙ e))) (λ e. sym e ∙ ap code_of κ) (kind-code (kind_number ws r))
  where
    no : var ≡ bad → ⊥
    no e = let z : code_of var ≡ code_of bad = ap code_of e in omega arith

var-word : (ws : List ℕ) (r : ℕ) → VarAt ws r → word_at ws r 2 ≡ r
var-word ws r v = ap (λ (k : Cell). k.x) v

module _ {old : List ℕ} {cs : List Instruction} {new : List ℕ} {m : RegisterMap} (A : Accepted old cs new m) where
  rule-at : (n : ℕ) → n < m.count → var_rule new n ≡ true
  rule-at n h =
      ⊎_elim
      (λ l. rw (lt-ltb n 32 l, eq-eqb (kind_number new n) 1 (var-number new n (A.vars n l))) (eq-eqb (word_at new n 2) n (var-word new n (A.vars n l))))
      (λ l. rw (le-ltb n 32 l, ne_eqb (kind_number new n) 1 (A.plain n l h))) (before-or-from n 32)

  rules-to : (n : ℕ) → n ≤ m.count → var_rules new n ≡ true
  unfolding var_rules
  rules-to zero h = refl
  rules-to (suc n) h = rw (rules-to n (le_of_lt h)) (rule-at n h)

  begins : (pool_ok new m.count && starts_with_registers new m.count) ≡ true
  begins =
      let l : 32 ≤ m.count = lowered-more new first_map Var cs m A.lowered in
      rw (A.checked, le-leb 32 m.count l) (rules-to m.count (omega arith))

  chosen : (r : ℕ) → r < 32 → of_width new m.count (node_of m r) 128 ≡ true
  chosen r h = let t = A.terms r h in rw (lt-ltb (node_of m r) m.count t.under) (eq-eqb _ 128 t.wide)

-- ---- the theorems

pub blocks-join : BlocksJoin
unfolding join_number
blocks-join old cs new a A e old' cs' new' a' A' e' r r' h h' buffer out j J =
    J.number ∙ rw (begins (A.accepted e), begins (A'.accepted e'), chosen (A.accepted e) r h, chosen (A'.accepted e') r' h')

iff-trans : {A B C : Type 0} → A ↔ B → C ↔ B → A ↔ C
iff-trans p q = (λ a. q.1 (p.0 a), λ c. p.1 (q.0 c))

pub equal-when-eq-holds : EqualWhenEqHolds
equal-when-eq-holds old cs new a A e old' cs' new' a' A' e' r r' h h' buffer out j J room start =
    let c = a.map.count in
    let d = a'.map.count in
    let z : j.number ≡ 0 =
    blocks-join old cs new a A e old' cs' new' a' A' e' r r' h h' buffer out j J ∙ rw (le-leb (join_count c d) (places buffer) room) in
    iff-trans (equal-when-terms-are old cs new a A e old' cs' new' a' A' e' start r r' h h')
    (eq-holds new c new' d (node_of a.map r) (node_of a'.map r') buffer out j J z start)
