-- What the rules of a valid pool say of a node and its operands, by the number of its kind. Assumes nothing.
use mathlib.Core.Path.{◌≡◌, refl, sym, ◌∙◌, subst}
use mathlib.Core.List.{List}
use Prim.Native.Nat.{ℕ, ◌+◌, ◌-◌, ◌^◌, ◌≤◌, ◌<◌}
use native.Mathlib.Omega.{arith}
use borrow.Author.Tests.{lt-ltb}
use Rattle.terms.specs.declared.BinOp.TheVariants.{Add, Sub, Mul, And, Or, Xor, Shl, LShr, AShr}
use Rattle.terms.specs.declared.CmpOp.TheVariants.{Eq, Ult, Slt}
use Rattle.pool.specs.Node.{Kind, bv, compare, zext, kinds, kind_at, cell_at, width_at, word_at, kind_number}
use Rattle.pool.specs.Node.{wide}
use Rattle.pool.specs.Rules.{width_before}
use Rattle.pool.proofs.Facts.{valid-node, good-wide}
use Rattle.pool_check.proofs.Sound.{sound}
use Rattle.pool_fields.specs.Fields.{op_a, op_b, op_c}
use Rattle.pool_rules.proofs.Numbers.{within}
use Rattle.pool_rules.proofs.Kept.{Ok, wide-one, register, var-wide, const-wide, const_fits, bv-tests, compare-tests, ite-tests, extract-tests}
use Rattle.pool_rules.proofs.Kept.{concat-tests, zext-tests}
use Rattle.text_parts.specs.Text.{Ready}

module _ (ws : List ℕ) (n : ℕ) (r : Ready ws n) where
  abbrev A : ℕ
  A = width_before ws n (op_a ws n)

  abbrev B : ℕ
  B = width_before ws n (op_b ws n)

  abbrev C : ℕ
  C = width_before ws n (op_c ws n)

  ok_at : (κ : ℕ) → kind_number ws n ≡ κ → Ok n (cell_at ws n) A B C (kind_at κ)
  ok_at κ e = subst (λ (m : ℕ). Ok n (cell_at ws n) A B C (kind_at m)) e (valid-node ws (n + 1) n r.valid (omega arith))

  seen : {m : ℕ} → m < n → width_before ws n m ≡ width_at ws m
  seen {m} l = rw (lt-ltb m n l)

  pub most : (m : ℕ) → m ≤ n → width_at ws m ≤ 129
  most m l = let s = sound ws (n + 1) r.valid m (omega arith) in omega (arith, good-wide _ s.ok, s.wide)

  pub var-facts : kind_number ws n ≡ 1 → (word_at ws n 2 < 32) × (width_at ws n ≡ 128)
  unfolding kind_at kinds
  var-facts e = let o = ok_at 1 e in (register n (cell_at ws n) A B C o, var-wide n (cell_at ws n) A B C o)

  pub const-facts : kind_number ws n ≡ 2 → (1 ≤ width_at ws n) × (wide (word_at ws n 2) (word_at ws n 3) < 2 ^ width_at ws n)
  unfolding kind_at kinds
  const-facts e = let o = ok_at 2 e in (wide-one (width_at ws n) (const-wide n (cell_at ws n) A B C o), const_fits n (cell_at ws n) A B C o)

  pub record Extract : Type 0 where
    pub a : op_a ws n < n
    pub ordered : word_at ws n 3 ≤ word_at ws n 2
    pub inside : word_at ws n 2 < width_at ws (op_a ws n)
    pub width : width_at ws n ≡ word_at ws n 2 - word_at ws n 3 + 1

  pub extract-facts : kind_number ws n ≡ 16 → Extract
  unfolding kind_at kinds
  extract-facts e =
      let t = extract-tests n (cell_at ws n) A B C (ok_at 16 e) in
      record { a = t.0; ordered = t.1; inside = rw (seen t.0) at t.2; width = t.3 }

  pub record Concat : Type 0 where
    pub a : op_a ws n < n
    pub b : op_b ws n < n
    pub wide-a : 1 ≤ width_at ws (op_a ws n)
    pub wide-b : 1 ≤ width_at ws (op_b ws n)
    pub width : width_at ws n ≡ width_at ws (op_a ws n) + width_at ws (op_b ws n)

  pub concat-facts : kind_number ws n ≡ 17 → Concat
  unfolding kind_at kinds
  concat-facts e =
      let t = concat-tests n (cell_at ws n) A B C (ok_at 17 e) in
      record {
        a = t.1;
        b = t.2;
        wide-a = rw (seen t.1) at t.3;
        wide-b = rw (seen t.2) at t.4;
        width = omega (arith, t.5, seen t.1, seen t.2);
      }

  pub record Extend : Type 0 where
    pub a : op_a ws n < n
    pub wide-a : 1 ≤ width_at ws (op_a ws n)
    pub width : width_at ws (op_a ws n) ≤ width_at ws n

  abbrev Extends : Kind → Type 0
  Extends κ = Ok n (cell_at ws n) A B C κ → Extend

  extend-ok : Extends zext
  extend-ok o =
      let t = zext-tests n (cell_at ws n) A B C o in
      record { a = t.1; wide-a = rw (seen t.1) at t.2; width = rw (seen t.1) at t.3 }

  pub extend-facts : 18 ≤ kind_number ws n → kind_number ws n < 20 → Extend
  unfolding kinds
  extend-facts l h = within Extends 18 2 (extend-ok, (extend-ok, tt)) (kind_number ws n) l h (ok_at (kind_number ws n) refl)

  pub record Two : Type 0 where
    pub a : op_a ws n < n
    pub b : op_b ws n < n
    pub width-a : width_at ws (op_a ws n) ≡ width_at ws n
    pub width-b : width_at ws (op_b ws n) ≡ width_at ws n
    pub some : 1 ≤ width_at ws n

  abbrev Twos : Kind → Type 0
  Twos κ = Ok n (cell_at ws n) A B C κ → Two

  two_ok : (o : _) → Twos (bv o)
  two_ok o k =
      let t = bv-tests n (cell_at ws n) A B C o k in
      record {
        a = t.1;
        b = t.2;
        width-a = sym (seen t.1) ∙ t.3;
        width-b = sym (seen t.2) ∙ t.4;
        some = wide-one (width_at ws n) t.0;
      }

  pub bv-facts : 3 ≤ kind_number ws n → kind_number ws n < 12 → Two
  unfolding kinds
  bv-facts l h =
      let b = two_ok in
      within Twos 3 9 (b Add, (b Sub, (b Mul, (b And, (b Or, (b Xor, (b Shl, (b LShr, (b AShr, tt))))))))) (kind_number ws n) l h (ok_at (kind_number ws n) refl)

  pub record Compared : Type 0 where
    pub flat : width_at ws n ≡ 0
    pub a : op_a ws n < n
    pub b : op_b ws n < n
    pub some : 1 ≤ width_at ws (op_a ws n)
    pub width-b : width_at ws (op_b ws n) ≡ width_at ws (op_a ws n)

  abbrev Compares : Kind → Type 0
  Compares κ = Ok n (cell_at ws n) A B C κ → Compared

  compare-ok : (o : _) → Compares (compare o)
  compare-ok o k =
      let t = compare-tests n (cell_at ws n) A B C o k in
      record {
        flat = t.0;
        a = t.1;
        b = t.2;
        some = rw (seen t.1) at t.3;
        width-b = sym (seen t.2) ∙ t.4 ∙ seen t.1;
      }

  pub compare-facts : 12 ≤ kind_number ws n → kind_number ws n < 15 → Compared
  unfolding kinds
  compare-facts l h =
      let c = compare-ok in within Compares 12 3 (c Eq, (c Ult, (c Slt, tt))) (kind_number ws n) l h (ok_at (kind_number ws n) refl)

  pub record Choice : Type 0 where
    pub a : op_a ws n < n
    pub b : op_b ws n < n
    pub c : op_c ws n < n
    pub flat : width_at ws (op_a ws n) ≡ 0
    pub width-b : width_at ws (op_b ws n) ≡ width_at ws n
    pub width-c : width_at ws (op_c ws n) ≡ width_at ws n
    pub some : 1 ≤ width_at ws n

  pub ite-facts : kind_number ws n ≡ 15 → Choice
  unfolding kind_at kinds
  ite-facts e =
      let t = ite-tests n (cell_at ws n) A B C (ok_at 15 e) in
      record {
        a = t.1;
        b = t.2;
        c = t.3;
        flat = sym (seen t.1) ∙ t.4;
        width-b = sym (seen t.2) ∙ t.5;
        width-c = sym (seen t.3) ∙ t.6;
        some = wide-one (width_at ws n) t.0;
      }
