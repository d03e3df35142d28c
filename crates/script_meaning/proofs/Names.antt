-- Names of registers and nodes: each is its own, and no literal. Assumes nothing.
use mathlib.Core.Path.{◌≡◌, refl, sym, ap, ◌∙◌}
use mathlib.Core.Bool.{Bool, true, false, false≢true}
use mathlib.Core.List.{List, [], ◌∷◌}
use mathlib.Core.Option.{some, none}
use Prim.Native.Nat.{ℕ}
use lib.Dec.{eqb}
use borrow.Author.Tests.{eqb-true}
use Rattle.facts.specs.Same.{same}
use Rattle.facts.proofs.Tests.{and_both}
use Rattle.facts.proofs.Same.{same_refl, not_same}
use Rattle.terms.specs.Display.{bytes, decimal}
use Rattle.pool.specs.Node.{Kind, bad, var, const, bv, compare, ite, extract, concat, zext, sext, Cell}
use Rattle.script_meaning.specs.Read.{is_digit, is_symbolic, is_plain}
use Rattle.script_meaning.specs.Values.{all, is_among, literal, Meaning, Entry, ◌↦ᵉ◌, find}
use Rattle.script_meaning.specs.Functions.{taken}
use Rattle.script_meaning.specs.Meaning.{atom}
use Rattle.script_meaning.specs.Script.{register_name, node_name, name_by}
use Rattle.script_meaning.proofs.Numbers.{decimal-one, decimal-digits}

pub other-decimal : (j k : ℕ) → (j ≡ k → ⊥) → same (decimal j) (decimal k) ≡ false
other-decimal j k h = not_same (decimal j) (decimal k) (λ e. h (decimal-one j k e))

-- ---- finding

pub find-here : {A : Type 0} (n : List ℕ) (v : A) (env : List (Entry A)) → find (n ↦ᵉ v ∷ env) n ≡ some v
unfolding find
find-here n v env = rw (same_refl n)

pub find_past : {A : Type 0} (n m : List ℕ) (v : A) (env : List (Entry A)) → same n m ≡ false → find (n ↦ᵉ v ∷ env) m ≡ find env m
unfolding find
find_past n m v env h = rw h

-- ---- a name is no literal

literal-name : (c : ℕ) (ds : List ℕ) → eqb c 35 ≡ false → literal (c ∷ ds) ≡ none
literal-name c [] h = refl
literal-name c (d ∷ []) h = refl
literal-name c (d ∷ e ∷ ds) h = rw h

name-literal : (κ : Kind) (k : Cell) (n : ℕ) → literal (name_by κ k n) ≡ none
name-literal bad k n = literal-name 110 (decimal n) refl
name-literal var k n = literal-name 114 (decimal k.x) refl
name-literal const k n = literal-name 110 (decimal n) refl
name-literal (bv o) k n = literal-name 110 (decimal n) refl
name-literal (compare o) k n = literal-name 110 (decimal n) refl
name-literal ite k n = literal-name 110 (decimal n) refl
name-literal extract k n = literal-name 110 (decimal n) refl
name-literal concat k n = literal-name 110 (decimal n) refl
name-literal zext k n = literal-name 110 (decimal n) refl
name-literal sext k n = literal-name 110 (decimal n) refl

pub atom-name : (env : List (Entry Meaning)) (κ : Kind) (k : Cell) (n : ℕ) → atom env (name_by κ k n) ≡ find env (name_by κ k n)
atom-name env κ k n = rw (name-literal κ k n)

-- ---- a name is a symbol, and not taken

-- a decimal has no letter
letter-apart : (c : ℕ) (w ds : List ℕ) → is_digit c ≡ false → all is_digit ds ≡ true → same (c ∷ w) ds ≡ false
letter-apart c w [] h a = refl
letter-apart c w (d ∷ ds) h a = go (eqb c d) refl
  where
    go : (b : Bool) → eqb c d ≡ b → same (c ∷ w) (d ∷ ds) ≡ false
    go true e = absurd (false≢true (sym h ∙ ap is_digit (eqb-true c d e) ∙ (and_both (is_digit d) (all is_digit ds) a).0))
    go false e = rw e

pub node-free : (n : ℕ) → is_among taken (node_name n) ≡ false
unfolding taken
node-free n = rw (letter-apart 111 (bytes "t") (decimal n) refl (decimal-digits n))

pub register-free : (r : ℕ) → is_among taken (register_name r) ≡ false
unfolding taken
register-free r =
    rw (letter-apart 101 (bytes "set") (decimal r) refl (decimal-digits r), letter-apart 101 (bytes "set-assertions") (decimal r) refl (decimal-digits r))

digits-symbolic : (ds : List ℕ) → all is_digit ds ≡ true → all is_symbolic ds ≡ true
digits-symbolic [] h = refl
digits-symbolic (d ∷ ds) h = let p = and_both (is_digit d) (all is_digit ds) h in rw (p.0, digits-symbolic ds p.1)

pub decimal-symbolic : (n : ℕ) → all is_symbolic (decimal n) ≡ true
decimal-symbolic n = digits-symbolic (decimal n) (decimal-digits n)

-- ---- a name is plain

digit-plain : (c : ℕ) → is_digit c ≡ true → is_plain c ≡ true
digit-plain c h = rw h

pub digits-plain : (ds : List ℕ) → all is_digit ds ≡ true → all is_plain ds ≡ true
digits-plain [] h = refl
digits-plain (d ∷ ds) h = let p = and_both (is_digit d) (all is_digit ds) h in rw (digit-plain d p.0, digits-plain ds p.1)

pub decimal-plain : (n : ℕ) → all is_plain (decimal n) ≡ true
decimal-plain n = digits-plain (decimal n) (decimal-digits n)
