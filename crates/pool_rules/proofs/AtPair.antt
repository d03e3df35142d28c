-- The laws on the tests of two operands, at a node of a pool and by the number of its kind. Assumes nothing.
use mathlib.Core.Path.{◌≡◌, refl}
use mathlib.Core.Bool.{Bool, true, false, ◌&&◌, ◌||◌, and-false, or-false}
use mathlib.Core.List.{List}
use Prim.Native.Nat.{ℕ, ◌/◌, ◌≤◌, ◌<◌}
use native.Mathlib.Omega.{arith}
use lib.Bits.{bit_or}
use lib.Dec.{ltb, leb, eqb}
use borrow.Author.Tests.{ltb-true, ltb-false, lt-ltb, le-ltb, eq-eqb, ne_eqb}
use Rattle.terms.specs.declared.BinOp.{BinOp}
use Rattle.terms.specs.declared.BinOp.TheVariants.{Add, Sub, Mul, And, Or, Xor, Shl, LShr, AShr}
use Rattle.terms.specs.declared.CmpOp.{CmpOp}
use Rattle.terms.specs.declared.CmpOp.TheVariants.{Eq, Ult, Slt}
use Rattle.pool.specs.Node.{Kind, bv, compare, concat, kinds, kind_at, cell_at, set_at, word_at}
use Rattle.pool_fields.specs.Fields.{op_a, op_b, op_c}
use Rattle.pool_rules.specs.Rule.{ok_as, width_over}
use Rattle.pool_rules.proofs.Keeps.{never}
use Rattle.pool_rules.proofs.Numbers.{within}
use Rattle.pool_rules.proofs.Pairs.{bv-is, compare-is, concat-is, bv-facts, compare-facts, concat-facts}
use Rattle.pool_rules.proofs.At.{Own, w_a, w_b, w_c, s_a, s_b, s_c}

-- the kinds of two operands
pub record IsPair (j : ℕ) : Type 0 where
  pub from : 3 ≤ j
  pub below : j < 18
  pub no-ite : j ≡ 15 → ⊥
  pub no_extract : j ≡ 16 → ⊥

module _ (P : Kind → Type 0) where
  -- P of such a kind, by its number
  pub by_number : (j : ℕ) → IsPair j → (j < 12 → (o : BinOp) → P (bv o)) → (12 ≤ j → j < 15 → (o : CmpOp) → P (compare o)) → (j ≡ 17 → P concat) → P (kind_at j)
  unfolding kinds
  by_number j h f g e = go (ltb j 12) refl (ltb j 15) refl
    where
      go : (s : Bool) → ltb j 12 ≡ s → (t : Bool) → ltb j 15 ≡ t → P (kind_at j)
      go true a t b =
          let l = ltb-true j 12 a in
          within P 3 9 (f l Add, (f l Sub, (f l Mul, (f l And, (f l Or, (f l Xor, (f l Shl, (f l LShr, (f l AShr, tt))))))))) j h.from l
      go false a true b =
          let l = ltb-false j 12 a in
          let m = ltb-true j 15 b in
          within P 12 3 (g l m Eq, (g l m Ult, (g l m Slt, tt))) j l m
      go false a false b =
          let l = ltb-false j 15 b in
          let i : j ≡ 17 = omega (arith, h.below, h.no-ite, h.no_extract) in
          within P 17 1 (e i, tt) j (omega arith) (omega arith)

module _ (ws : List ℕ) (n : ℕ) where
  abbrev PairTest : Bool → ℕ → Bool
  PairTest e v =
      leb 1 (w_a ws n) && e && eqb (cell_at ws n).width v && leb (cell_at ws n).width 129 && eqb (cell_at ws n).x 0 && eqb (cell_at ws n).y 0
      && eqb (set_at ws n) (bit_or (s_a ws n) (s_b ws n))

  -- the widths of the operands may be combined
  abbrev Stand : ℕ → Bool
  Stand j = eqb (w_a ws n) (w_b ws n) || (eqb j 17 && leb 1 (w_b ws n))

  module _ (less-a : op_a ws n < n) (less-b : op_b ws n < n) (no-c : op_c ws n ≡ 0) where
    tests : (j : ℕ) → IsPair j → PairTest (Stand j) (width_over j (w_a ws n) (w_b ws n)) ≡ ok_as (kind_at j) ws n
    tests j h =
        by_number (λ κ. PairTest (Stand j) (width_over j (w_a ws n) (w_b ws n)) ≡ ok_as κ ws n) j h
        (λ l o.
        rw (ne_eqb j 17 (λ e. omega (arith, e, l)), lt-ltb j 12 l, or-false)
        (bv-is n (cell_at ws n) (w_a ws n) (w_b ws n) (w_c ws n) (set_at ws n) (s_a ws n) (s_b ws n) (s_c ws n) less-a less-b no-c o))
        (λ l m o.
        rw (ne_eqb j 17 (λ e. omega (arith, e, m)), le-ltb j 12 l, or-false)
        (compare-is n (cell_at ws n) (w_a ws n) (w_b ws n) (w_c ws n) (set_at ws n) (s_a ws n) (s_b ws n) (s_c ws n) less-a less-b no-c o))
        (λ e.
        rw (eq-eqb j 17 e)
        (concat-is n (cell_at ws n) (w_a ws n) (w_b ws n) (w_c ws n) (set_at ws n) (s_a ws n) (s_b ws n) (s_c ws n) less-a less-b no-c))

    pub pair-at : {w x y s A B SA SB v : ℕ} (j : ℕ) → IsPair j → Own ws n w x y s → A ≡ w_a ws n → B ≡ w_b ws n → SA ≡ s_a ws n → SB ≡ s_b ws n → v ≡ width_over j A B
        → (leb 1 A && (eqb A B || (eqb j 17 && leb 1 B)) && eqb w v && leb w 129 && eqb x 0 && eqb y 0 && eqb s (bit_or SA SB)) ≡ ok_as (kind_at j) ws n
    pair-at j h own eA eB fA fB e = rw (e, own.width_is, own.x-is, own.y-is, own.set_is, eA, eB, fA, fB) (tests j h)

  -- ---- what refuses such a node

  pub late-a : (j : ℕ) → IsPair j → n ≤ op_a ws n → false ≡ ok_as (kind_at j) ws n
  late-a j h l =
      by_number (λ κ. false ≡ ok_as κ ws n) j h (λ m o. simp (le-ltb (op_a ws n) n l, and-false)) (λ m i o. simp (le-ltb (op_a ws n) n l, and-false))
      (λ e. simp (le-ltb (op_a ws n) n l, and-false))

  -- B and what is above it in word 1
  late : n ≤ word_at ws n 1 / 65536 → op_b ws n < n → op_c ws n ≡ 0 → ⊥
  late l b c = omega (arith, l, b, c)

  pub late-rest : (j : ℕ) → IsPair j → n ≤ word_at ws n 1 / 65536 → false ≡ ok_as (kind_at j) ws n
  late-rest j h l =
      by_number (λ κ. false ≡ ok_as κ ws n) j h
      (λ m o.
      never _ (λ t.
      let f = bv-facts n (cell_at ws n) (w_a ws n) (w_b ws n) (w_c ws n) (set_at ws n) (s_a ws n) (s_b ws n) (s_c ws n) o t in
      late l f.less-b f.no-c))
      (λ m i o.
      never _ (λ t.
      let f = compare-facts n (cell_at ws n) (w_a ws n) (w_b ws n) (w_c ws n) (set_at ws n) (s_a ws n) (s_b ws n) (s_c ws n) o t in
      late l f.less-b f.no-c))
      (λ e.
      never _ (λ t.
      let f = concat-facts n (cell_at ws n) (w_a ws n) (w_b ws n) (w_c ws n) (set_at ws n) (s_a ws n) (s_b ws n) (s_c ws n) t in
      late l f.less-b f.no-c))
