-- A form code taken apart: its row of immediates, and its flags. Assumes nothing.
use mathlib.Core.Path.{◌≡◌, refl, sym, ◌∙◌}
use mathlib.Core.Bool.{Bool, true, false, ◌&&◌}
use Prim.Native.Nat.{ℕ, ◌+◌, ◌-◌, ◌*◌, ◌/◌, ◌%◌, ◌≤◌}
use native.Mathlib.Omega.{arith}
use native.Mathlib.Nat.{le-div_iff_mul-le}
use lib.Dec.{eqb}
use borrow.Author.Tests.{le-leb}
use Rattle.neon.specs.Op.{Op, op_at, Arrangement, arrangement_at, is_arrangement, full}
use Rattle.neon.specs.Form.{Immediate, None, Left, Right, Element, least_of, most_of, is_element, form, has_form, has_second, reads_d, by_element, first_full, second_full, flag, immediate_code, form_code}
use Rattle.neon.specs.Form.{form_code_at}
use Rattle.neon.specs.Refusal.{form_number}
use Rattle.neon.proofs.Geometry.{immediate-le}
use Rattle.neon.proofs.Legal.{formed}

-- ---- the row

immediate-some : (i : Immediate) → 1 ≤ immediate_code i
immediate-some None = omega arith
immediate-some Left = omega arith
immediate-some Right = omega arith
immediate-some Element = omega arith

-- a flag is a bit of the code
bit : Bool → ℕ
bit true = 1
bit false = 0

flag-bit : (b : Bool) (k : ℕ) → flag b k ≡ k * bit b
unfolding bit
flag-bit true k = omega arith
flag-bit false k = omega arith

bit_le : (b : Bool) → bit b ≤ 1
unfolding bit
bit_le true = omega arith
bit_le false = omega arith

bit_is : (b : Bool) → eqb (bit b) 1 ≡ b
unfolding bit
bit_is true = refl
bit_is false = refl

-- the code of a form that there is
pub record Code (code : ℕ) (o : Op) (v : Arrangement) : Type 0 where
  pub row : code % 8 ≡ immediate_code (form o).immediate
  pub second : eqb (code / 8 % 2) 1 ≡ has_second o
  pub old : eqb (code / 16 % 2) 1 ≡ reads_d o v
  pub first : eqb (code / 32 % 2) 1 ≡ first_full (form o).lanes (full v)
  pub last : eqb (code / 64 % 2) 1 ≡ second_full (form o).lanes (by_element o) (full v)

at-bit : (x : ℕ) (b : Bool) → x ≡ bit b → eqb x 1 ≡ b
at-bit x b e = rw e (bit_is b)

split : (i s d f g : ℕ) → i ≤ 4 → s ≤ 1 → d ≤ 1 → f ≤ 1 → g ≤ 1 → (c : ℕ) → c ≡ i + 8 * s + 16 * d + 32 * f + 64 * g
    → (c % 8 ≡ i) × (c / 8 % 2 ≡ s) × (c / 16 % 2 ≡ d) × (c / 32 % 2 ≡ f) × (c / 64 % 2 ≡ g)
split i s d f g hi hs hd hf hg c e = (omega arith, omega arith, omega arith, omega arith, omega arith)

pub parts : (code : ℕ) (o : Op) (v : Arrangement) → has_form o v ≡ true → code ≡ form_code o v → Code code o v
unfolding form_code
parts code o v h e =
    let i = immediate_code (form o).immediate in
    let s = has_second o in
    let d = reads_d o v in
    let f = first_full (form o).lanes (full v) in
    let g = second_full (form o).lanes (by_element o) (full v) in
    let q : code ≡ i + 8 * bit s + 16 * bit d + 32 * bit f + 64 * bit g = e ∙ rw (h, flag-bit s 8, flag-bit d 16, flag-bit f 32, flag-bit g 64) in
    let p = split i (bit s) (bit d) (bit f) (bit g) (immediate-le (form o).immediate) (bit_le s) (bit_le d) (bit_le f) (bit_le g) code q in
    record { row = p.0; second = at-bit _ s p.1; old = at-bit _ d p.2; first = at-bit _ f p.3; last = at-bit _ g p.4 }

-- ---- the immediates of a row

pub least-right : (i : Immediate) → immediate_code i ≡ 3 → 1 ≡ least_of i
least-right None e = absurd (omega arith)
least-right Left e = absurd (omega arith)
least-right Right e = refl
least-right Element e = absurd (omega arith)

pub least_other : (i : Immediate) → (immediate_code i ≡ 3 → ⊥) → 0 ≡ least_of i
least_other None e = refl
least_other Left e = refl
least_other Right e = absurd (e refl)
least_other Element e = refl

pub most-none : (i : Immediate) (n : ℕ) → immediate_code i ≡ 1 → 0 ≡ most_of i n
most-none None n e = refl
most-none Left n e = absurd (omega arith)
most-none Right n e = absurd (omega arith)
most-none Element n e = absurd (omega arith)

pub most-left : (i : Immediate) (n : ℕ) → immediate_code i ≡ 2 → n - 1 ≡ most_of i n
most-left None n e = absurd (omega arith)
most-left Left n e = refl
most-left Right n e = absurd (omega arith)
most-left Element n e = absurd (omega arith)

pub most-right : (i : Immediate) (n : ℕ) → immediate_code i ≡ 3 → n ≡ most_of i n
most-right None n e = absurd (omega arith)
most-right Left n e = absurd (omega arith)
most-right Right n e = refl
most-right Element n e = absurd (omega arith)

pub most-element : (i : Immediate) (n : ℕ) → (immediate_code i ≡ 1 → ⊥) → (immediate_code i ≡ 2 → ⊥) → (immediate_code i ≡ 3 → ⊥) → 256 / n - 1 ≡ most_of i n
most-element None n p q r = absurd (p refl)
most-element Left n p q r = absurd (q refl)
most-element Right n p q r = absurd (r refl)
most-element Element n p q r = refl

-- the class of immediate that is an element's
pub element-row : (i : Immediate) → eqb (immediate_code i) 4 ≡ is_element i
element-row None = refl
element-row Left = refl
element-row Right = refl
element-row Element = refl

-- a lane has at most 64 bits, so there are some elements
pub quotient : (n : ℕ) → 8 ≤ n → n ≤ 64 → 1 ≤ 256 / n
quotient n l h = (le-div_iff_mul-le {k = n} {x = 1} {y = 256} (omega arith)).1 (omega arith)

-- ---- whether there is a form

code-some : (o : Op) (v : Arrangement) → has_form o v ≡ true → 1 ≤ form_code o v
unfolding form_code
code-some o v h =
    rw h
    (omega (arith, immediate-some (form o).immediate))

no_flag : (a b : Bool) (k : ℕ) → flag a k ≡ 0 → (a ≡ true → b ≡ true → 1 ≤ k) → (a && b) ≡ false
no_flag true true k e h = absurd (omega (arith, h refl refl))
no_flag true false k e h = refl
no_flag false b k e h = refl

some-flag : (a : Bool) (k : ℕ) → (flag a k ≡ 0 → ⊥) → (a ≡ true) × (k ≡ 0 → ⊥)
some-flag true k h = (refl, h)
some-flag false k h = absurd (h refl)

module _ (operation arrangement : ℕ) (l : 1 ≤ operation) (m : operation ≤ 67) where
  named : form_code_at operation arrangement ≡ flag (is_arrangement arrangement) (form_code (op_at operation) (arrangement_at arrangement))
  unfolding form_code_at
  named = rw (le-leb 1 operation l, le-leb operation 67 m)

  -- the code 0
  pub without : form_code_at operation arrangement ≡ 0 → (is_arrangement arrangement && has_form (op_at operation) (arrangement_at arrangement)) ≡ false
  without e =
      no_flag (is_arrangement arrangement) (has_form (op_at operation) (arrangement_at arrangement)) (form_code (op_at operation) (arrangement_at arrangement))
      (sym named ∙ e) (λ p q. code-some (op_at operation) (arrangement_at arrangement) q)

  -- any other
  pub with-form : (form_code_at operation arrangement ≡ 0 → ⊥)
      → (is_arrangement arrangement ≡ true) × (has_form (op_at operation) (arrangement_at arrangement) ≡ true)
      × (form_code_at operation arrangement ≡ form_code (op_at operation) (arrangement_at arrangement))
  unfolding form_code
  with-form h =
      let p = some-flag (is_arrangement arrangement) (form_code (op_at operation) (arrangement_at arrangement)) (λ e. h (named ∙ e)) in
      let q = some-flag (has_form (op_at operation) (arrangement_at arrangement)) _ p.1 in
      (p.0, q.0, named ∙ rw p.0)

-- an operation, a form and an immediate that are accepted have the code of a form that there is
pub coded : (operation arrangement i rest : ℕ) → form_number operation arrangement i rest ≡ 0
    → (has_form (op_at operation) (arrangement_at arrangement) ≡ true) × (form_code_at operation arrangement ≡ form_code (op_at operation) (arrangement_at arrangement))
coded operation arrangement i rest e =
    let f = (formed operation arrangement i rest e).0 in
    (f.row, named operation arrangement f.from_one f.to_last ∙ rw (le-leb arrangement 6 f.arranged))
