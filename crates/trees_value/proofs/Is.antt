-- Terms that stand for integers: `Is r t w z` says that t has w bits, and that its value is z mod 2 ^ w.
-- One law for each kind of term: what the term stands for, from what its operands stand for. Assumes nothing.
use mathlib.Core.Path.{◌≡◌, refl, sym, ap, ◌∙◌}
use mathlib.Core.Bool.{Bool, true, false, cond}
use Prim.Native.Nat.{ℕ, suc, ◌-◌, ◌^◌, ◌≤◌, ◌<◌}
use native.Mathlib.Nat.{div-one}
use native.Mathlib.Omega.{arith}
use lib.Dec.{eqb}
use lib.IntN.{ℤ, pos, neg_ℤ, ◌+ℤ◌, ◌-ℤ◌, ◌*ℤ◌}
use lib.Signed.{lt_z, shr_z}
use lib.Pow.{pow_pos}
use Rattle.terms.specs.Expr.{Expr, Const, Bv, Compare, Ite, Extract, ZeroExtend, SignExtend, width}
use Rattle.terms.specs.Value.{value, bit, ite}
use Rattle.terms.specs.declared.BinOp.TheVariants.{Add, Sub, Mul, Shl, LShr, AShr}
use Rattle.terms.specs.declared.CmpOp.TheVariants.{Eq, Ult, Slt}
use Rattle.neon.specs.Arm.{wrap}
use Rattle.trees.specs.Lower.{extend}
use Rattle.trees.specs.Arith.{shift_by}
use Rattle.trees_value.proofs.Z.{neg-up, neg-dn}
use Rattle.trees_value.proofs.Wrap.{wrap-is}
use Rattle.trees_value.proofs.Bv as Bv
use Rattle.trees_value.specs.Fits.{FitsS, FitsU, Fits}

module _ (r : ℕ → ℕ) where
  pub record Is (t : Expr) (w : ℕ) (z : ℤ) : Type 0 where
    pub wide : width t ≡ w
    pub val : value r t ≡ wrap w z

  -- a term of w bits whose value is k
  pub record Has (t : Expr) (w k : ℕ) : Type 0 where
    pub wide : width t ≡ w
    pub val : value r t ≡ k

  pub has-is : {t : Expr} {w : ℕ} {z : ℤ} → Is t w z → Has t w (wrap w z)
  has-is p = record { wide = p.wide; val = p.val }

  pub has-number : {t : Expr} {w k : ℕ} → k < 2 ^ w → Is t w (pos k) → Has t w k
  has-number {w = w} {k = k} h p = record { wide = p.wide; val = p.val ∙ Bv.wrap-pos w k h }

  pub is_number : {t : Expr} {w k : ℕ} → k < 2 ^ w → Has t w k → Is t w (pos k)
  is_number {w = w} {k = k} h p = record { wide = p.wide; val = p.val ∙ sym (Bv.wrap-pos w k h) }

  -- a condition that says b
  pub record Says (t : Expr) (b : Bool) : Type 0 where
    pub val : value r t ≡ bit b

  -- a term whose number is k, as the amount of a shift
  pub record By (t : Expr) (k : ℕ) : Type 0 where
    pub val : value r t ≡ k

  pub by-const : (k w : ℕ) → By (Const k w) k
  unfolding value
  by-const k w = record { val = refl }

  pub by-is : {t : Expr} {w k : ℕ} → k < 2 ^ w → Is t w (pos k) → By t k
  by-is {w = w} {k = k} h p = record { val = p.val ∙ Bv.wrap-pos w k h }

  -- the same term for another name of the integer
  pub is_eq : {t : Expr} {w : ℕ} {x y : ℤ} → x ≡ y → Is t w x → Is t w y
  is_eq {w = w} e p = record { wide = p.wide; val = p.val ∙ ap (wrap w) e }

  pub is-const : (c w : ℕ) → c < 2 ^ w → Is (Const c w) w (pos c)
  unfolding value width
  is-const c w h = record { wide = refl; val = sym (Bv.wrap-pos w c h) }

  pub is_negative : (c w : ℕ) → 0 < c → c ≤ 2 ^ w → Is (Const (2 ^ w - c) w) w (neg_ℤ (pos c))
  unfolding value width
  is_negative c w l h =
      record {
        wide = refl;
        val = wrap-is w (neg_ℤ (pos c)) (2 ^ w - c) 0 1 (omega (arith, pow_pos w)) (omega (arith, neg-up (pos c), neg-dn (pos c)));
      }

  pub is-add : {a b : Expr} {w : ℕ} {x y : ℤ} → Is a w x → Is b w y → Is (Bv Add a b) w (x +ℤ y)
  unfolding value width
  is-add {w = w} {x = x} {y = y} p q = record { wide = p.wide; val = rw (p.wide, p.val, q.val) (Bv.add_is w x y) }

  pub is-sub : {a b : Expr} {w : ℕ} {x y : ℤ} → Is a w x → Is b w y → Is (Bv Sub a b) w (x -ℤ y)
  unfolding value width
  is-sub {w = w} {x = x} {y = y} p q = record { wide = p.wide; val = rw (p.wide, p.val, q.val) (Bv.sub_is w x y) }

  pub is_mul : {a b : Expr} {w : ℕ} {x y : ℤ} → Is a w x → Is b w y → Is (Bv Mul a b) w (x *ℤ y)
  unfolding value width
  is_mul {w = w} {x = x} {y = y} p q = record { wide = p.wide; val = rw (p.wide, p.val, q.val) (Bv.mul_is w x y) }

  -- a shift is by the number that the second operand holds, read unsigned
  pub is-shl : {a b : Expr} {w : ℕ} {x : ℤ} {k : ℕ} → Is a w x → By b k → Is (Bv Shl a b) w (x *ℤ pos (2 ^ k))
  unfolding value width
  is-shl {w = w} {x = x} {k = k} p q = record { wide = p.wide; val = rw (p.wide, p.val, q.val) (Bv.shl_is w x k) }

  pub is-lshr : {a b : Expr} {w : ℕ} {x : ℤ} {k : ℕ} → FitsU w x → Is a w x → By b k → Is (Bv LShr a b) w (shr_z x (2 ^ k))
  unfolding value width
  is-lshr {w = w} {x = x} {k = k} f p q = record { wide = p.wide; val = rw (p.wide, p.val, q.val) (Bv.lshr-is w x k f) }

  pub is-ashr : {a b : Expr} {w : ℕ} {x : ℤ} {k : ℕ} → 0 < w → FitsS w x → Is a w x → By b k → Is (Bv AShr a b) w (shr_z x (2 ^ k))
  unfolding value width
  is-ashr {w = w} {x = x} {k = k} hw f p q = record { wide = p.wide; val = rw (p.wide, p.val, q.val) (Bv.ashr-is w x k hw f) }

  pub is-zext : {a : Expr} {n w : ℕ} {x : ℤ} → n ≤ w → FitsU n x → Is a n x → Is (ZeroExtend a w) w x
  unfolding value width
  is-zext {n = n} {w = w} {x = x} h f p = record { wide = refl; val = p.val ∙ Bv.zext-is n w x h f }

  pub is-sext : {a : Expr} {n w : ℕ} {x : ℤ} → 0 < n → n ≤ w → FitsS n x → Is a n x → Is (SignExtend a w) w x
  unfolding value width
  is-sext {n = n} {w = w} {x = x} hn h f p = record { wide = refl; val = rw (p.wide, p.val) (Bv.sext-is n w x hn h f) }

  -- the n low bits stand for the same integer
  pub is_cut : {a : Expr} {w n : ℕ} {x : ℤ} → 0 < n → n ≤ w → Is a w x → Is (Extract a (n - 1) 0) n x
  unfolding value width
  is_cut {w = w} {n = n} {x = x} hn h p =
      let size : suc (n - 1 - 0) ≡ n = omega arith in
      record { wide = size; val = rw (size, p.val, div-one (wrap w x)) (Bv.cut-is w n x h) }

  pub says-slt : {a b : Expr} {w : ℕ} {x y : ℤ} → 0 < w → FitsS w x → FitsS w y → Is a w x → Is b w y → Says (Compare Slt a b) (lt_z x y)
  unfolding value
  says-slt {w = w} {x = x} {y = y} hw f g p q = record { val = rw (p.wide, p.val, q.val) (ap bit (Bv.slt-is w x y hw f g)) }

  pub says-ult : {a b : Expr} {w : ℕ} {x y : ℤ} → FitsU w x → FitsU w y → Is a w x → Is b w y → Says (Compare Ult a b) (lt_z x y)
  unfolding value
  says-ult {w = w} {x = x} {y = y} f g p q = record { val = rw (p.val, q.val) (ap bit (Bv.ult_is w x y f g)) }

  pub says_eq : {a b : Expr} {t : Bool} → eqb (value r a) (value r b) ≡ t → Says (Compare Eq a b) t
  unfolding value
  says_eq e = record { val = ap bit e }

  pick_is : (b : Bool) (w : ℕ) (x y : ℤ) → ite (bit b) (wrap w x) (wrap w y) ≡ wrap w (cond b x y)
  pick_is true w x y = refl
  pick_is false w x y = refl

  pub is-ite : {c a e : Expr} {b : Bool} {w : ℕ} {x y : ℤ} → Says c b → Is a w x → Is e w y → Is (Ite c a e) w (cond b x y)
  unfolding value width
  is-ite {b = b} {w = w} {x = x} {y = y} s p q = record { wide = p.wide; val = rw (s.val, p.val, q.val) (pick_is b w x y) }

  -- ---- by a flag: signed or unsigned
  pub is-extend : (s : Bool) {a : Expr} {n w : ℕ} {x : ℤ} → 0 < n → n ≤ w → Fits s n x → Is a n x → Is (extend a w s) w x
  is-extend true hn h f p = is-sext hn h f p
  is-extend false hn h f p = is-zext h f p

  pub is-shift : (s : Bool) {a b : Expr} {w : ℕ} {x : ℤ} {k : ℕ} → 0 < w → Fits s w x → Is a w x → By b k → Is (shift_by s a b) w (shr_z x (2 ^ k))
  is-shift true hw f p q = is-ashr hw f p q
  is-shift false hw f p q = is-lshr f p q

  -- ---- a choice whose condition is known
  pub is-then : {c a e : Expr} {w : ℕ} {x : ℤ} → Says c true → Is a w x → Is (Ite c a e) w x
  unfolding value width
  is-then {e = e} {w = w} {x = x} s p = record { wide = p.wide; val = rw (s.val, p.val) }

  pub is-else : {c a e : Expr} {w : ℕ} {x : ℤ} → Says c false → width a ≡ w → Is e w x → Is (Ite c a e) w x
  unfolding value width
  is-else {a = a} {w = w} {x = x} s h p = record { wide = h; val = rw (s.val, p.val) }
