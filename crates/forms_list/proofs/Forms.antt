-- The list has each legal form once, and no other. Assumes nothing.
use mathlib.Core.Path.{◌≡◌, refl, sym, subst}
use mathlib.Core.Bool.{Bool, true, ◌&&◌}
use mathlib.Core.List.Memᴰ
use mathlib.Core.List.{List, [], ◌∷◌, Memᴰ}
use mathlib.Core.Logic.{⊎_elim}
use Prim.Native.Nat.{ℕ, zero, suc, ◌+◌, ◌-◌, ◌<◌}
use native.Mathlib.Nat.{eq-or-lt_of_le, le_of_suc-le-suc, not-suc-le-zero}
use native.Mathlib.Omega.{arith}
use lib.Dec.{eqb}
use borrow.Author.Tests.{eqb-true}
use Rattle.facts.proofs.Tests.{and_both}
use Rattle.neon.specs.declared.Instruction.{Instruction}
use Rattle.neon.specs.Op.{op_at, operations, arrangement_at, arrangements, bits_of_lane}
use Rattle.neon.specs.Form.{least, most}
use Rattle.neon.specs.Refusal.{record_number, Legal}
use Rattle.neon.proofs.Legal.{accepted}
use Rattle.text_series.specs.Series.{up_to}
use Rattle.forms_list.specs.Forms.{second_of, listed, immediates, forms_at, forms_of, forms, Chosen, OnlyLegal, EveryLegal, InOrder, Count}

pub count : Count
unfolding forms forms_of forms_at up_to op_at operations arrangement_at arrangements
count = refl

pub in_order : InOrder
unfolding forms forms_of forms_at up_to op_at operations arrangement_at arrangements
in_order = refl

-- ---- no other

abbrev chosen : Instruction → Bool
chosen c = eqb c.d 0 && eqb c.n 1 && eqb c.m (second_of (op_at c.operation))

good : List Instruction → Bool
good [] = true
good (c ∷ cs) = (eqb (record_number c) 0 && chosen c) && good cs

all-good : good forms ≡ true
unfolding forms forms_of forms_at up_to op_at operations arrangement_at arrangements record_number good
all-good = refl

good-one : (c : Instruction) → (eqb (record_number c) 0 && chosen c) ≡ true → Legal c × Chosen c
good-one c h =
    let p = and_both (eqb (record_number c) 0) (chosen c) h in
    let q = and_both (eqb c.d 0 && eqb c.n 1) _ p.1 in
    let r = and_both (eqb c.d 0) _ q.0 in
    (eqb-true _ _ p.0, record { d_is = eqb-true _ _ r.0; n_is = eqb-true _ _ r.1; m_is = eqb-true _ _ q.1 })

good-in : (cs : List Instruction) (c : Instruction) → good cs ≡ true → Memᴰ c cs → Legal c × Chosen c
unfolding good
good-in [] c h x = elim x [ ]
good-in (x ∷ cs) c h (Memᴰ.head e) =
    subst (λ (y : Instruction). Legal y × Chosen y) (sym e) (good-one x (and_both (eqb (record_number x) 0 && chosen x) (good cs) h).0)
good-in (x ∷ cs) c h (Memᴰ.tail m) = good-in cs c (and_both (eqb (record_number x) 0 && chosen x) (good cs) h).1 m

pub only-legal : OnlyLegal
only-legal c m = good-in forms c all-good m

-- ---- each

into : {A : Type 0} (k j : ℕ) (f : ℕ → List A) (x : A) → j < k → Memᴰ x (f j) → Memᴰ x (up_to k f)
unfolding up_to
into zero j f x h m = absurd (not-suc-le-zero h)
into (suc k) j f x h m =
    ⊎_elim (λ e. Memᴰ.append_right (up_to k f) (subst (λ (i : ℕ). Memᴰ x (f i)) e m)) (λ l. Memᴰ.append_left (f k) (into k j f x l m))
    (eq-or-lt_of_le (le_of_suc-le-suc h))

pub every-legal : EveryLegal
unfolding forms forms_of forms_at
every-legal c h e =
    let a = (accepted c h).form_of in
    let k = c.operation in
    let v = c.arrangement in
    let lo = least (op_at k) in
    let one : k - 1 + 1 ≡ k = omega (arith, a.from_one) in
    let many : immediates k v ≡ suc (most (op_at k) (bits_of_lane (arrangement_at v))) - lo = rw a.row in
    let same : c ≡ listed k v (lo + (c.i - lo)) = λ j. record {
      operation = k;
      arrangement = v;
      i = (let p : c.i ≡ lo + (c.i - lo) = omega (arith, a.low) in p) j;
      d = e.d_is j;
      n = e.n_is j;
      m = e.m_is j;
    } in
    into 67 (k - 1) (λ o. forms_of (o + 1)) c (omega (arith, a.from_one, a.to_last))
    (subst (λ (i : ℕ). Memᴰ c (forms_of i)) (sym one)
    (into 7 v (λ a. forms_at k a) c (omega (arith, a.arranged))
    (into (immediates k v) (c.i - lo) (λ j. listed k v (lo + j) ∷ []) c (omega (arith, many, a.low, a.high)) (Memᴰ.head same))))
