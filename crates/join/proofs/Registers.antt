-- Pools that begin with the registers: what the tests say of them. Assumes nothing.
use mathlib.Core.Path.{◌≡◌, refl, sym, ap, ◌∙◌, subst}
use mathlib.Core.Bool.{Bool, true, false, ◌&&◌, false≢true}
use mathlib.Core.List.{List}
use mathlib.Core.Logic.{⊎_elim}
use Prim.Native.Nat.{ℕ, zero, suc, ◌*◌, ◌^◌, ◌≤◌, ◌<◌}
use native.Mathlib.Omega.{arith}
use lib.Dec.{ltb, leb, eqb}
use lib.ListN.{length}
use borrow.Author.Tests.{lt-ltb, ltb-true, ltb-false, leb-true, eqb-true}
use Rattle.facts.proofs.Tests.{and_both}
use Rattle.pool.specs.Node.{Kind, var, kinds, kind_at, code_of, Cell, cell_at, word_at, kind_number, set_at}
use Rattle.pool.specs.Rules.{ok_kind, width_before, set_rule, Valid, pool_ok}
use Rattle.pool.proofs.Facts.{kind-code, valid-node, valid-set}
use Rattle.pool_check.proofs.Passed.{words-for, few, keeps}
use Rattle.join.specs.Starts.{var_rule, var_rules, starts_with_registers}

-- a pool that begins with the registers
pub record Starts (ws : List ℕ) (c : ℕ) : Type 0 where
  pub valid : Valid ws c
  pub enough : 32 ≤ c
  pub few : c ≤ 65535
  pub long : 4 * c ≤ length ws
  pub rule : (n : ℕ) → n < c → var_rule ws n ≡ true

rules-at : (ws : List ℕ) (c n : ℕ) → var_rules ws c ≡ true → n < c → var_rule ws n ≡ true
unfolding var_rules
rules-at ws zero n h l = absurd (omega arith)
rules-at ws (suc c) n h l = go (λ g. rules-at ws c n (and_both (var_rules ws c) (var_rule ws c) h).0 g) (ltb n c) refl
  where
    go : (n < c → var_rule ws n ≡ true) → (t : Bool) → ltb n c ≡ t → var_rule ws n ≡ true
    go f true e = f (ltb-true n c e)
    go f false e =
        let g : c ≤ n = ltb-false n c e in
        let q : c ≡ n = omega arith in
        subst (λ (m : ℕ). var_rule ws m ≡ true) q (and_both (var_rules ws c) (var_rule ws c) h).1

pub starts : (ws : List ℕ) (c : ℕ) → (pool_ok ws c && starts_with_registers ws c) ≡ true → Starts ws c
starts ws c h =
    let p = and_both (pool_ok ws c) (starts_with_registers ws c) h in
    let q = and_both (leb 32 c) (var_rules ws c) p.1 in
    record {
      valid = keeps ws c p.0;
      enough = leb-true 32 c q.0;
      few = few ws c p.0;
      long = words-for ws c p.0;
      rule = λ n l. rules-at ws c n q.1 l;
    }

-- a register's node
abbrev pub var_cell : ℕ → Cell
var_cell r = record { kind = var; width = 128; a = 0; b = 0; c = 0; x = r; y = 0 }

var-cell : (k : Cell) (r A B C : ℕ) → k.kind ≡ var → k.x ≡ r → ok_kind var r k A B C ≡ true → k ≡ var_cell r
var-cell k r A B C κ e h =
    let p5 = and_both (eqb k.width 128 && eqb k.a 0 && eqb k.b 0 && eqb k.c 0 && ltb k.x 32) (eqb k.y 0) h in
    let p4 = and_both (eqb k.width 128 && eqb k.a 0 && eqb k.b 0 && eqb k.c 0) (ltb k.x 32) p5.0 in
    let p3 = and_both (eqb k.width 128 && eqb k.a 0 && eqb k.b 0) (eqb k.c 0) p4.0 in
    let p2 = and_both (eqb k.width 128 && eqb k.a 0) (eqb k.b 0) p3.0 in
    let p1 = and_both (eqb k.width 128) (eqb k.a 0) p2.0 in
    let w : k.width ≡ 128 = eqb-true _ _ p1.0 in
    let a : k.a ≡ 0 = eqb-true _ _ p1.1 in
    let b : k.b ≡ 0 = eqb-true _ _ p2.1 in
    let c : k.c ≡ 0 = eqb-true _ _ p3.1 in
    let y : k.y ≡ 0 = eqb-true _ _ p5.1 in
    λ i. record { kind = κ i; width = w i; a = a i; b = b i; c = c i; x = e i; y = y i }

pub var-at : (ws : List ℕ) (c : ℕ) → Starts ws c → (r : ℕ) → r < 32 → cell_at ws r ≡ var_cell r
unfolding kind_at kinds
var-at ws c S r h =
    let rule : (eqb (kind_number ws r) 1 && eqb (word_at ws r 2) r) ≡ true = rw (lt-ltb r 32 h) at (S.rule r (omega (arith, S.enough))) in
    let p = and_both (eqb (kind_number ws r) 1) (eqb (word_at ws r 2) r) rule in
    let kn : kind_number ws r ≡ 1 = eqb-true _ _ p.0 in
    let κ : (cell_at ws r).kind ≡ var = ap kind_at kn in
    let k = cell_at ws r in
    var-cell k r (width_before ws r k.a) (width_before ws r k.b) (width_before ws r k.c) κ (eqb-true _ _ p.1)
    (subst (λ (κ : Kind). ok_kind κ r k (width_before ws r k.a) (width_before ws r k.b) (width_before ws r k.c) ≡ true) κ (valid-node ws c r S.valid (omega (arith, S.enough))))

-- its set is of itself alone
pub register-set : (ws : List ℕ) (c : ℕ) → Starts ws c → (r : ℕ) → r < 32 → set_at ws r ≡ 2 ^ r
register-set ws c S r h = valid-set ws c r S.valid (omega (arith, S.enough)) ∙ ap (set_rule ws r) (var-at ws c S r h)

-- the number of a node's kind, in a valid pool
pub code_at : (ws : List ℕ) (c n : ℕ) → Valid ws c → n < c → kind_number ws n ≡ code_of (kind_at (kind_number ws n))
code_at ws c n v h =
    let k = cell_at ws n in
    ⊎_elim
    (λ e. absurd (false≢true (subst (λ (κ : Kind). ok_kind κ n k (width_before ws n k.a) (width_before ws n k.b) (width_before ws n k.c) ≡ true) e (valid-node ws c n v h))))
    (λ e. sym e) (kind-code (kind_number ws n))
