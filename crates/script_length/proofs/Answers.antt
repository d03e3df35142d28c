-- What `script_length` answers, by the way that it took. Assumes nothing.
use mathlib.Core.Bool.{Bool, true, false, ◌&&◌}
use mathlib.Core.List.{List}
use mathlib.Core.Path.{◌≡◌, refl, sym, ap, ◌∙◌}
use Prim.Native.Nat.{ℕ}
use native.Mathlib.Omega.{arith}
use lib.ListN.{length}
use Rattle.facts.specs.Refuse.{by_number, unless}
use Rattle.pool.specs.Rules.{pool_ok, of_width}
use Rattle.pool_check.proofs.Passed.{few}
use Rattle.text_length.proofs.Answers.{ready}
use Rattle.script_meaning.specs.Script.{script_of}
use Rattle.script_length.specs.Answer.{AllNamed, script_number, Measured}

-- ---- the tests

abbrev number : (p x y : Bool) → ℕ → ℕ
number p x y rest = unless p 1 (unless (x && y) 5 rest)

pub record Passed (p x y : Bool) : Type 0 where
  pub pool : p ≡ true
  pub first : x ≡ true
  pub second : y ≡ true

none : (p x y : Bool) (rest : ℕ) → number p x y rest ≡ 0 → Passed p x y
none true true true rest e = record { pool = refl; first = refl; second = refl }
none true true false rest e = absurd (omega (arith, e))
none true false y rest e = absurd (omega (arith, e))
none false x y rest e = absurd (omega (arith, e))

module _ (ws : List ℕ) (count a b : ℕ) where
  pub good-nodes : (rest : ℕ) → pool_ok ws count ≡ true → of_width ws count a 128 ≡ true → of_width ws count b 128 ≡ true → script_number ws count a b rest ≡ rest
  good-nodes rest h e f =
      ap (λ (p : Bool). number p (of_width ws count a 128) (of_width ws count b 128) rest) h
      ∙ ap (λ (x : Bool). number true x (of_width ws count b 128) rest) e
      ∙ ap (λ (y : Bool). number true true y rest) f

  -- no refusal: each test was passed
  abbrev pub Good : Type 0
  Good = Passed (pool_ok ws count) (of_width ws count a 128) (of_width ws count b 128)

  pub good : (rest : ℕ) → script_number ws count a b rest ≡ 0 → Good
  good rest e = none (pool_ok ws count) (of_width ws count a 128) (of_width ws count b 128) rest e

  pub past : (rest : ℕ) → Good → script_number ws count a b rest ≡ rest
  past rest g = good-nodes rest g.pool g.first g.second

module _ (ws : List ℕ) (count : ℕ) where
  pub all_named : pool_ok ws count ≡ true → AllNamed ws count
  all_named h n l = record { ready = ready ws count n h l; small = omega (arith, few ws count h) }

-- ---- the answers

module _ (ws : List ℕ) (count a b : ℕ) where
  pub measured : {l : ℕ} → script_number ws count a b 0 ≡ 0 → l ≡ length (script_of ws count a b) → Measured ws count a b 0 l
  measured {l} z e = record {
    number_is = sym z;
    length_is = e ∙ ap (λ (j : ℕ). by_number j (length (script_of ws count a b))) (sym z);
  }
