-- The tests of an instruction's refusals, in order. Assumes nothing.
use Prim.Native.Nat.{ℕ, ◌+◌, ◌-◌, ◌≤◌, ◌<◌}
use mathlib.Core.Path.{◌≡◌, refl, sym, subst, ◌∙◌}
use mathlib.Core.Bool.{Bool, true, false, not, ◌&&◌}
use mathlib.Core.List.{List}
use native.Mathlib.Omega.{arith}
use lib.Dec.{leb, eqb}
use borrow.Author.Tests.{leb-true, le-leb, lt-leb, not-true, not-false}
use Rattle.facts.specs.declared.Refusal.{Refusal}
use Rattle.facts.specs.Answer.{code}
use Rattle.facts.specs.Refuse.{unless}
use Rattle.facts.proofs.Answers.{code-positive}
use Rattle.facts.proofs.Tests.{passed}
use Rattle.neon.specs.Op.{Op, op_at, Arrangement, arrangement_at, full, bits_if}
use Rattle.neon.specs.Form.{form, has_second, reads_d, first_full, second_full, by_element, form_code_at}
use Rattle.neon.specs.Refusal.{form_number, reserve}
use Rattle.neon.proofs.Legal.{formed, form-rest, form-first}
use Rattle.neon_form.specs.Code.{OfCode}
use Rattle.neon_form.proofs.Parts.{coded}
use Rattle.pool.specs.Node.{none, width_at, places}
use Rattle.pool.specs.Rules.{pool_ok, of_width}
use Rattle.pool_check.proofs.Passed.{within-places, below, has_width}
use Rattle.instruction_check.specs.Number.{source_ok, sources_ok, instruction_number}

-- ---- one source

module _ (ws : List ℕ) (count : ℕ) (wanted full : Bool) (node : ℕ) where
  pub source-none : not wanted ≡ true → eqb node none ≡ source_ok ws count wanted (bits_if full) node
  source-none e = rw (not-true wanted e) refl

  pub source-full : not wanted ≡ false → full ≡ true → of_width ws count node 128 ≡ source_ok ws count wanted (bits_if full) node
  source-full e f = rw (not-false wanted e, f) refl

  pub source-half : not wanted ≡ false → full ≡ false → of_width ws count node 64 ≡ source_ok ws count wanted (bits_if full) node
  source-half e f = rw (not-false wanted e, f) refl

pub source_is : (ws : List ℕ) (count : ℕ) (wanted : Bool) (w node : ℕ) → source_ok ws count wanted w node ≡ true → wanted ≡ true
    → (node < count) × (width_at ws node ≡ w)
source_is ws count wanted w node h e =
    let f = subst (λ (b : Bool). source_ok ws count b w node ≡ true) e h in
    (below ws count node w f, has_width ws count node w f)

-- ---- the three of them

module _ (ws : List ℕ) (count : ℕ) (o : Op) (v : Arrangement) (d n m : ℕ) where
  pub sources-are : {f rd ff hs sf x y z : Bool} → f ≡ full v → rd ≡ reads_d o v → ff ≡ first_full (form o).lanes (full v) → hs ≡ has_second o
      → sf ≡ second_full (form o).lanes (by_element o) (full v)
      → x ≡ source_ok ws count rd (bits_if f) d
      → y ≡ source_ok ws count true (bits_if ff) n
      → z ≡ source_ok ws count hs (bits_if sf) m
      → (x && y && z) ≡ sources_ok ws count o v d n m
  sources-are e p p2 p3 p4 q q2 q3 = rw (q, q2, q3, e, p, p2, p3, p4)

-- ---- the number

module _ (ws : List ℕ) (count operation arrangement i d n m : ℕ) where
  abbrev number : ℕ
  number = instruction_number ws count operation arrangement i d n m

  abbrev sources : Bool
  sources = sources_ok ws count (op_at operation) (arrangement_at arrangement) d n m

  abbrev enough : Bool
  enough = leb (count + reserve) (places ws)

  -- what follows the form's numbers
  abbrev rest : ℕ
  rest = unless sources 5 (unless enough 6 0)

  pub number-pool : pool_ok ws count ≡ false → 1 ≡ number
  unfolding instruction_number
  number-pool e = rw e refl

  pub number-form : (r : Refusal) → pool_ok ws count ≡ true → code r ≡ form_number operation arrangement i 0 → code r ≡ number
  unfolding instruction_number
  number-form r p q = rw p (q ∙ form-first operation arrangement i rest (λ z. code-positive r (q ∙ z)))

  -- past the form
  module _ (p : pool_ok ws count ≡ true) (z : form_number operation arrangement i 0 ≡ 0) where
    number-rest : number ≡ rest
    unfolding instruction_number
    number-rest = rw p (form-rest operation arrangement i rest z)

    -- the sources, by what the code of the form tells of them
    pub sources-by : {code : ℕ} {whole b : Bool} → code ≡ form_code_at operation arrangement → whole ≡ full (arrangement_at arrangement)
        → OfCode code (λ o v. whole ≡ full v → b ≡ sources_ok ws count o v d n m)
        → sources ≡ b
    sources-by code-is full-is e =
        let k = coded operation arrangement i 0 z in sym (e (op_at operation) (arrangement_at arrangement) k.0 (code-is ∙ k.1) full-is)

    pub number-sources : sources ≡ false → 5 ≡ number
    number-sources s = rw (number-rest, s) refl

    pub number-room : sources ≡ true → places ws - count < reserve → 6 ≡ number
    number-room s h = rw (number-rest, s, lt-leb (count + reserve) (places ws) (omega (arith, h, within-places ws count p))) refl

    pub number-done : sources ≡ true → reserve ≤ places ws - count → 0 ≡ number
    number-done s h = rw (number-rest, s, le-leb (count + reserve) (places ws) (omega (arith, h, within-places ws count p))) refl

  -- an instruction that is accepted
  pub record Passed : Type 0 where
    pub pool-ok : pool_ok ws count ≡ true
    pub form-ok : form_number operation arrangement i 0 ≡ 0
    pub sources-ok : sources ≡ true
    pub room : count + reserve ≤ places ws

  pub passes : number ≡ 0 → Passed
  unfolding instruction_number
  passes e =
      let p = passed (pool_ok ws count) (λ z. omega arith) e in
      let q = formed operation arrangement i rest p.1 in
      let s = passed sources (λ z. omega arith) q.1 in
      let t = passed enough (λ z. omega arith) s.1 in
      record {
        pool-ok = p.0;
        form-ok = subst (λ (x : ℕ). form_number operation arrangement i x ≡ 0) q.1 p.1;
        sources-ok = s.0;
        room = leb-true (count + reserve) (places ws) t.0;
      }
