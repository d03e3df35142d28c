-- `Fit t w` says that t keeps the pool's rules and has w bits: of each kind of term, of the clamps, and of lanes side by side. Assumes nothing.
use mathlib.Core.Path.{◌≡◌, refl, sym, ◌∙◌, subst}
use mathlib.Core.Bool.{Bool, true, false}
use Prim.Native.Nat.{ℕ, zero, suc, ◌+◌, ◌-◌, ◌*◌, ◌^◌, ◌≤◌, ◌<◌}
use native.Mathlib.Omega.{arith}
use native.Mathlib.Nat.{mul-suc}
use borrow.Author.Tests.{le-leb}
use lib.Pow.{pow_pos, pow_mono}
use Rattle.terms.specs.Expr.{Expr, Var, Const, Bv, Compare, Ite, Extract, Concat, ZeroExtend, SignExtend, width}
use Rattle.terms.specs.declared.BinOp.TheVariants.{Add, LShr, AShr}
use Rattle.terms.specs.declared.CmpOp.TheVariants.{Ult, Slt}
use Rattle.terms.specs.declared.BinOp.{BinOp}
use Rattle.terms.specs.declared.CmpOp.{CmpOp}
use Rattle.terms.specs.Rules.{Good}
use Rattle.trees.specs.Simd.{extract_collapsing, concat_lanes}
use Rattle.trees.specs.Lower.{extend}
use Rattle.trees.specs.Arith.{shift_by, plus_if}
use Rattle.trees.specs.Trees.{extract_lane, clamp}
use Rattle.trees.specs.Simd as Simd
use Rattle.trees.specs.Arith as Arith
use Rattle.trees.specs.declared.SaturateTo.TheVariants.{Signed, Unsigned, SignedToUnsigned}
use Rattle.trees.specs.declared.SaturateTo.{SaturateTo}
use Rattle.trees_value.proofs.Wrap.{half}

pub record Fit (t : Expr) (w : ℕ) : Type 0 where
  pub wide : width t ≡ w
  pub some : 0 < w
  pub ok : Good t

-- a condition that keeps the rules
pub record Test (t : Expr) : Type 0 where
  pub wide : width t ≡ 0
  pub ok : Good t

pub fit-as : {t : Expr} {v w : ℕ} → v ≡ w → Fit t v → Fit t w
fit-as {t = t} e p = subst (Fit t) e p

pub fit-const : (c w : ℕ) → 0 < w → w ≤ 129 → c < 2 ^ w → Fit (Const c w) w
unfolding width Good
fit-const c w h k l = record { wide = refl; some = h; ok = (h, k, l) }

abbrev Pair : Expr → Expr → Type 0
Pair a b = Good a × Good b × (width a ≡ width b) × (0 < width a)

pair : {a b : Expr} {w : ℕ} → Fit a w → Fit b w → Pair a b
pair p q = (p.ok, q.ok, p.wide ∙ sym q.wide, rw p.wide p.some)

pub fit-bv : (o : BinOp) {a b : Expr} {w : ℕ} → Fit a w → Fit b w → Fit (Bv o a b) w
unfolding width Good
fit-bv o p q = record { wide = p.wide; some = p.some; ok = pair p q }

pub test : (o : CmpOp) {a b : Expr} {w : ℕ} → Fit a w → Fit b w → Test (Compare o a b)
unfolding width Good
test o p q = record { wide = refl; ok = pair p q }

pub fit-ite : {c a b : Expr} {w : ℕ} → Test c → Fit a w → Fit b w → Fit (Ite c a b) w
unfolding width Good
fit-ite t p q =
    record { wide = p.wide; some = p.some; ok = (t.ok, p.ok, q.ok, t.wide, p.wide ∙ sym q.wide, rw p.wide p.some) }

fit-plain : {a : Expr} {w : ℕ} (hi lo : ℕ) → lo ≤ hi → hi < w → Fit a w → Fit (Extract a hi lo) (suc (hi - lo))
unfolding width Good
fit-plain hi lo l h p = record { wide = refl; some = omega arith; ok = (p.ok, l, rw p.wide h) }

-- of a term that keeps the rules
pub inner : {x : Expr} {w top low : ℕ} → Fit (Extract x top low) w → Fit x (width x) × (top < width x) × (w ≡ suc (top - low)) × (low ≤ top)
unfolding width Good
inner p = (record { wide = refl; some = omega (arith, p.ok.2); ok = p.ok.0 }, p.ok.2, sym p.wide, p.ok.1)

pub fit-joined : (e : Expr) {w : ℕ} (hi lo : ℕ) → lo ≤ hi → hi < w → Fit e w → Fit (extract_collapsing e hi lo) (suc (hi - lo))
fit-joined (Extract x top low) {w} hi lo l h p =
    let q = inner p in
    let fits : hi + low ≤ top = omega (arith, q.2, q.3) in
    rw (le-leb (hi + low) top fits) (fit-as (omega arith) (fit-joined x (hi + low) (lo + low) (omega arith) (omega (arith, fits, q.1)) q.0))
fit-joined (Var r) hi lo l h p = fit-plain hi lo l h p
fit-joined (Const v w') hi lo l h p = fit-plain hi lo l h p
fit-joined (Bv o a b) hi lo l h p = fit-plain hi lo l h p
fit-joined (Compare o a b) hi lo l h p = fit-plain hi lo l h p
fit-joined (Ite c a b) hi lo l h p = fit-plain hi lo l h p
fit-joined (Concat a b) hi lo l h p = fit-plain hi lo l h p
fit-joined (ZeroExtend a v) hi lo l h p = fit-plain hi lo l h p
fit-joined (SignExtend a v) hi lo l h p = fit-plain hi lo l h p

pub fit-extract : {a : Expr} {w : ℕ} (hi lo : ℕ) → lo ≤ hi → hi < w → Fit a w → Fit (extract_collapsing a hi lo) (suc (hi - lo))
fit-extract {a = a} hi lo l h p = fit-joined a hi lo l h p

pub fit_cut : {a : Expr} {w : ℕ} (n : ℕ) → 0 < n → n ≤ w → Fit a w → Fit (extract_collapsing a (n - 1) 0) n
fit_cut n h l p = fit-as (omega arith) (fit-extract (n - 1) 0 (omega arith) (omega arith) p)

pub fit-concat : {a b : Expr} {m n : ℕ} → m + n ≤ 129 → Fit a m → Fit b n → Fit (Concat a b) (m + n)
unfolding width Good
fit-concat h p q =
    record { wide = rw (p.wide, q.wide); some = omega (arith, p.some); ok = (p.ok, q.ok, rw p.wide p.some, rw q.wide q.some, rw (p.wide, q.wide) h) }

pub fit-zext : {a : Expr} {n : ℕ} (w : ℕ) → n ≤ w → w ≤ 129 → Fit a n → Fit (ZeroExtend a w) w
unfolding width Good
fit-zext w h l p = record { wide = refl; some = omega (arith, p.some); ok = (p.ok, rw p.wide p.some, rw p.wide h, l) }

pub fit-sext : {a : Expr} {n : ℕ} (w : ℕ) → n ≤ w → w ≤ 129 → Fit a n → Fit (SignExtend a w) w
unfolding width Good
fit-sext w h l p = record { wide = refl; some = omega (arith, p.some); ok = (p.ok, rw p.wide p.some, rw p.wide h, l) }

-- ---- by flags
pub fit-extend : (s : Bool) {a : Expr} {n : ℕ} (w : ℕ) → n ≤ w → w ≤ 129 → Fit a n → Fit (extend a w s) w
fit-extend true w h l p = fit-sext w h l p
fit-extend false w h l p = fit-zext w h l p

pub fit-shift : (s : Bool) {a b : Expr} {w : ℕ} → Fit a w → Fit b w → Fit (shift_by s a b) w
fit-shift true p q = fit-bv AShr p q
fit-shift false p q = fit-bv LShr p q

pub fit-plus : (t : Bool) {a : Expr} {w : ℕ} (c : ℕ) → w ≤ 129 → c < 2 ^ w → Fit a w → Fit (plus_if t a (Const c w)) w
fit-plus true {w = w} c h l p = fit-bv Add p (fit-const c w p.some h l)
fit-plus false c h l p = p

-- ---- the clamps
pub fit-clamp : (to : SaturateTo) {v : Expr} {w : ℕ} (n : ℕ) → 0 < n → n ≤ w → w ≤ 129 → Fit v w → Fit (clamp v w n to) n
unfolding Arith.clamp
fit-clamp Signed {w = w} n hn h l p =
    let m : 2 ^ n ≤ 2 ^ w = pow_mono h in
    let k : 2 ^ n ≡ 2 * 2 ^ (n - 1) = half n hn in
    let o : 0 < 2 ^ (n - 1) = pow_pos (n - 1) in
    let low = fit-const (2 ^ w - 2 ^ (n - 1)) w p.some l (omega arith) in
    let high = fit-const (2 ^ (n - 1) - 1) w p.some l (omega arith) in
    fit_cut n hn h (fit-ite (test Slt p low) low (fit-ite (test Slt high p) high p))
fit-clamp Unsigned {w = w} n hn h l p =
    let m : 2 ^ n ≤ 2 ^ w = pow_mono h in
    let high = fit-const (2 ^ n - 1) w p.some l (omega (arith, pow_pos n)) in
    fit_cut n hn h (fit-ite (test Ult high p) high p)
fit-clamp SignedToUnsigned {w = w} n hn h l p =
    let m : 2 ^ n ≤ 2 ^ w = pow_mono h in
    let none = fit-const 0 w p.some l (pow_pos w) in
    let high = fit-const (2 ^ n - 1) w p.some l (omega (arith, pow_pos n)) in
    fit_cut n hn h (fit-ite (test Slt p none) none (fit-ite (test Slt high p) high p))

-- ---- lanes
pub fit-concat-lanes : (n k : ℕ) (f : ℕ → Expr) → n * suc k ≤ 129 → ((j : ℕ) → j ≤ k → Fit (f j) n) → Fit (concat_lanes k f) (n * suc k)
unfolding concat_lanes
fit-concat-lanes n zero f h g = fit-as (omega arith) (g 0 (omega arith))
fit-concat-lanes n (suc k) f h g =
    fit-as (omega (arith, mul-suc n (suc k)))
    (fit-concat (omega (arith, mul-suc n (suc k))) (g (suc k) (omega arith)) (fit-concat-lanes n k f (omega (arith, mul-suc n (suc k))) (λ j l. g j (omega arith))))

pub fit-lane-of : (e : Expr) (w n j : ℕ) → 0 < n → n * j + n ≤ w → Fit e w → Fit (extract_lane e n j) n
unfolding Simd.extract_lane
fit-lane-of e w n j hn h p = fit-as (omega arith) (fit-joined e (n * j + n - 1) (n * j) (omega arith) (omega arith) p)
