-- What the tests and the copies of a join give. Assumes nothing.
use mathlib.Core.Path.{◌≡◌, refl, sym, ap, ◌∙◌, subst}
use mathlib.Core.Bool.{Bool, true, false, cond, ◌&&◌, ◌||◌, not, false≢true}
use mathlib.Core.List.{List}
use Prim.Native.Nat.{ℕ, zero, suc, ◌+◌, ◌≤◌, ◌<◌}
use native.Mathlib.Omega.{arith}
use native.Mathlib.Numerals.{add-one}
use lib.Dec.{ltb, leb, eqb}
use lib.ListN.{length, get_or, set, length-set}
use lib.Seq.{get_or-set_same, get_or-set_other}
use borrow.Author.Tests.{le-ltb, ltb-true, ltb-false, leb-true, le-leb}
use Rattle.facts.proofs.Tests.{and_both}
use Rattle.pool.specs.Node.{kind_number, word_at}
use Rattle.pool.specs.Rules.{pool_ok}
use Rattle.pool_check.specs.Plain.{plain_at, plain_from}
use Rattle.join.specs.Starts.{var_rule, var_rules, starts_with_registers}
use Rattle.join.specs.Join.{Half}

pub rules-none : (ws : List ℕ) → var_rules ws 0 ≡ true
unfolding var_rules
rules-none ws = refl

pub rules-more : (ws : List ℕ) (n : ℕ) → var_rules ws n ≡ true → var_rule ws n ≡ true → var_rules ws (n + 1) ≡ true
unfolding var_rules
rules-more ws n p q = rw (add-one n, p, q)

and-false : (a b : Bool) → b ≡ false → (a && b) ≡ false
and-false true b e = e
and-false false b e = refl

false-and : (a b : Bool) → a ≡ false → (a && b) ≡ false
false-and a b e = rw e

pub rules-bad : (ws : List ℕ) (n count : ℕ) → n < count → var_rule ws n ≡ false → var_rules ws count ≡ false
unfolding var_rules
rules-bad ws n zero l h = absurd (omega arith)
rules-bad ws n (suc c) l h = go (λ g. rules-bad ws n c g h) (ltb n c) refl
  where
    go : (n < c → var_rules ws c ≡ false) → (t : Bool) → ltb n c ≡ t → (var_rules ws c && var_rule ws c) ≡ false
    go f true e = false-and (var_rules ws c) (var_rule ws c) (f (ltb-true n c e))
    go f false e =
        let g : c ≤ n = ltb-false n c e in
        let q : n ≡ c = omega arith in
        and-false (var_rules ws c) (var_rule ws c) (ap (var_rule ws) (sym q) ∙ h)

never : (q : Bool) → (q ≡ true → ⊥) → false ≡ q
never true f = absurd (f refl)
never false f = refl

-- the rule of Vars and the registers are the two halves of var_rules
rule-plain : (ws : List ℕ) (n : ℕ) → var_rule ws n ≡ true → plain_at ws 32 n ≡ true
rule-plain ws n h = go (ltb n 32) h
  where
    go : (t : Bool) → cond t (eqb (kind_number ws n) 1 && eqb (word_at ws n 2) n) (not (eqb (kind_number ws n) 1)) ≡ true → (t || not (eqb (kind_number ws n) 1)) ≡ true
    go true e = refl
    go false e = e

rules-plain : (ws : List ℕ) (count : ℕ) → var_rules ws count ≡ true → plain_from ws 32 count ≡ true
unfolding var_rules plain_from
rules-plain ws zero h = refl
rules-plain ws (suc n) h =
    let p = and_both (var_rules ws n) (var_rule ws n) h in
    rw (rules-plain ws n p.0) (rule-plain ws n p.1)

plain-rule : (ws : List ℕ) (n : ℕ) → 32 ≤ n → plain_at ws 32 n ≡ true → var_rule ws n ≡ true
plain-rule ws n h e = rw (le-ltb n 32 h) (rw (le-ltb n 32 h) at e)

rules-from : (ws : List ℕ) (count : ℕ) → var_rules ws 32 ≡ true → 32 ≤ count → plain_from ws 32 count ≡ true → var_rules ws count ≡ true
unfolding var_rules plain_from
rules-from ws zero r h p = absurd (omega arith)
rules-from ws (suc n) r h p =
    let q = and_both (plain_from ws 32 n) (plain_at ws 32 n) p in
    go q.1 (λ l. rules-from ws n r l q.0) (ltb n 32) refl
  where
    go : plain_at ws 32 n ≡ true → (32 ≤ n → var_rules ws n ≡ true) → (t : Bool) → ltb n 32 ≡ t → var_rules ws (suc n) ≡ true
    go g f true e =
        let l : n < 32 = ltb-true n 32 e in
        let q : 32 ≡ suc n = omega arith in
        subst (λ (m : ℕ). var_rules ws m ≡ true) q r
    go g f false e = let l : 32 ≤ n = ltb-false n 32 e in rw (f l) (plain-rule ws n l g)

module _ (ws : List ℕ) (count : ℕ) where
  abbrev Good : Bool
  Good = pool_ok ws count && starts_with_registers ws count

  pub not-ok : (pool_ok ws count && plain_from ws 32 count) ≡ false → false ≡ Good
  not-ok e = never Good (λ h.
      let p = and_both (pool_ok ws count) (starts_with_registers ws count) h in
      let q = and_both (leb 32 count) (var_rules ws count) p.1 in
      let all : (pool_ok ws count && plain_from ws 32 count) ≡ true = rw p.0 (rules-plain ws count q.1) in
      false≢true (sym e ∙ all))

  pub too_few : count < 32 → false ≡ Good
  too_few h = never Good (λ g.
      let p = and_both (pool_ok ws count) (starts_with_registers ws count) g in
      let q : 32 ≤ count = leb-true 32 count (and_both (leb 32 count) (var_rules ws count) p.1).0 in
      omega arith)

  pub not-var : var_rules ws count ≡ false → false ≡ Good
  not-var e = sym (and-false (pool_ok ws count) (starts_with_registers ws count) (and-false (leb 32 count) (var_rules ws count) e))

  pub all-good : (pool_ok ws count && plain_from ws 32 count) ≡ true → 32 ≤ count → var_rules ws 32 ≡ true → true ≡ Good
  all-good e h r =
      let p = and_both (pool_ok ws count) (plain_from ws 32 count) e in
      sym (rw (p.0, le-leb 32 count h) (rules-from ws count r h p.1))

-- ---- copies

pub half-none : (first old : List ℕ) → Half first old old 0
half-none first old = record { long = refl; words = λ j h. absurd (omega arith); past = λ j h. refl }

pub half-more : (first old new : List ℕ) (i : ℕ) → i < length new → Half first old new i → Half first old (set new i (get_or first i 0)) (i + 1)
half-more first old new i h H =
    record {
      long = simp length-set H.long;
      words = λ j g. go j g (ltb j i) refl;
      past = λ j g. get_or-set_other new i j (get_or first i 0) 0 (omega arith) ∙ H.past j (omega arith);
    }
  where
    go : (j : ℕ) → j < i + 1 → (t : Bool) → ltb j i ≡ t → get_or (set new i (get_or first i 0)) j 0 ≡ get_or first j 0
    go j g true e = let l : j < i = ltb-true j i e in get_or-set_other new i j (get_or first i 0) 0 (omega arith) ∙ H.words j l
    go j g false e =
        let l : i ≤ j = ltb-false j i e in
        let q : j ≡ i = omega arith in
        rw q (get_or-set_same new i (get_or first i 0) 0 h)
