-- The laws on a node's tests, at a node of a pool: what the code reads there decides its rules. Assumes nothing.
use mathlib.Core.Path.{◌≡◌, sym, ◌∙◌}
use mathlib.Core.Bool.{Bool, true, false, ◌&&◌, and-false, and-true, false≢true}
use mathlib.Core.List.{List}
use Prim.Native.Nat.{ℕ, ◌+◌, ◌-◌, ◌*◌, ◌^◌, ◌≤◌, ◌<◌}
use native.Mathlib.Omega.{arith}
use lib.Bits.{bit_or}
use lib.Dec.{ltb, leb, eqb}
use borrow.Author.Tests.{lt-ltb, le-ltb, lt-leb, leb-true, eqb-true, eq-eqb}
use Rattle.facts.proofs.Tests.{and_both}
use Rattle.pool.specs.Node.{var, const, ite, extract, zext, cell_at, width_at, set_at, word_at}
use Rattle.pool.specs.Rules.{width_before, set_before_block}
use Rattle.pool_fields.specs.Fields.{op_a, op_b, op_c}
use Rattle.pool_rules.specs.Rule.{ok_as}
use Rattle.pool_rules.proofs.Keeps.{never}
use Rattle.pool_rules.proofs.Singles.{unused, var-is, const-is, ite-is, extract-is, extend-is, extract-alone, extend-alone}

module _ (ws : List ℕ) (n : ℕ) where
  -- an operand that comes before n
  pub width-before : {m a A : ℕ} → a ≡ m → a < n → A ≡ width_at ws a → A ≡ width_before ws n m
  width-before {m} {a} e l h = rw (← e, lt-ltb a n l) h

  pub set_before : {m a A : ℕ} → a ≡ m → a < n → A ≡ set_at ws a → A ≡ set_before_block ws n m
  set_before {m} {a} e l h = rw (← e, lt-ltb a n l) h

  -- what is read of the node itself
  pub record Own (w x y s : ℕ) : Type 0 where
    pub width_is : w ≡ width_at ws n
    pub x-is : x ≡ word_at ws n 2
    pub y-is : y ≡ word_at ws n 3
    pub set_is : s ≡ set_at ws n

  -- the widths of its operands and their sets
  abbrev pub w_a : ℕ
  w_a = width_before ws n (op_a ws n)

  abbrev pub w_b : ℕ
  w_b = width_before ws n (op_b ws n)

  abbrev pub w_c : ℕ
  w_c = width_before ws n (op_c ws n)

  abbrev pub s_a : ℕ
  s_a = set_before_block ws n (op_a ws n)

  abbrev pub s_b : ℕ
  s_b = set_before_block ws n (op_b ws n)

  abbrev pub s_c : ℕ
  s_c = set_before_block ws n (op_c ws n)

  -- ---- the code's tests, kind by kind

  pub ite-at : {w x y s A B C SA SB SC : ℕ} → Own w x y s → op_a ws n < n → op_b ws n < n → op_c ws n < n → A ≡ w_a → B ≡ w_b → C ≡ w_c → SA ≡ s_a → SB ≡ s_b → SC ≡ s_c
      → (leb 1 w && leb w 129 && eqb x 0 && eqb y 0 && eqb A 0 && eqb B w && eqb C w && eqb s (bit_or (bit_or SA SB) SC)) ≡ ok_as ite ws n
  ite-at own a b c eA eB eC fA fB fC =
      rw (own.width_is, own.x-is, own.y-is, own.set_is, eA, eB, eC, fA, fB, fC) (ite-is n (cell_at ws n) w_a w_b w_c (set_at ws n) s_a s_b s_c a b c)

  -- one operand and nothing above it in word 1
  pub record Alone : Type 0 where
    pub less-a : op_a ws n < n
    pub no-b : op_b ws n ≡ 0
    pub no-c : op_c ws n ≡ 0

  pub extract-at : {w x y s A SA : ℕ} → Own w x y s → Alone → y ≤ x → x < A → A ≡ w_a → SA ≡ s_a → (eqb w (x - y + 1) && eqb s SA) ≡ ok_as extract ws n
  extract-at {w} {x} {y} own e lo hi eA fA =
      let lo' : word_at ws n 3 ≤ word_at ws n 2 = omega (arith, own.x-is, own.y-is) in
      let hi' : word_at ws n 2 < w_a = omega (arith, own.x-is, eA) in
      rw (own.width_is, own.x-is, own.y-is, own.set_is, fA) (extract-is n (cell_at ws n) w_a w_b w_c (set_at ws n) s_a s_b s_c e.less-a e.no-b e.no-c lo' hi')

  pub extend-at : {w x y s A SA : ℕ} → Own w x y s → Alone → A ≡ w_a → SA ≡ s_a
      → (leb 1 w && leb w 129 && eqb x 0 && eqb y 0 && leb 1 A && leb A w && eqb s SA) ≡ ok_as zext ws n
  extend-at own e eA fA =
      rw (own.width_is, own.x-is, own.y-is, own.set_is, eA, fA) (extend-is n (cell_at ws n) w_a w_b w_c (set_at ws n) s_a s_b s_c e.less-a e.no-b e.no-c)

  pub var-at : {w x y s w1 t : ℕ} → Own w x y s → x < 32 → w1 ≡ word_at ws n 1 → t ≡ 2 ^ x → (eqb w 128 && eqb w1 0 && eqb y 0 && eqb s t) ≡ ok_as var ws n
  var-at {w} {x} own l e t =
      let l' : word_at ws n 2 < 32 = omega (arith, own.x-is) in
      rw (t, own.width_is, own.x-is, own.y-is, own.set_is, e, unused (word_at ws n 1)) (var-is n (cell_at ws n) w_a w_b w_c (set_at ws n) s_a s_b s_c l')

  -- a Const: the set is above the width in w, and is 0 if w is a width
  pub const-at : {w x y : ℕ} {b : Bool} → w ≡ width_at ws n + 65536 * set_at ws n → x ≡ word_at ws n 2 → y ≡ word_at ws n 3 → (leb 1 w && leb w 129 && eqb (word_at ws n 1) 0) ≡ true
      → b ≡ ltb (x + 18446744073709551616 * y) (2 ^ w)
      → b ≡ ok_as const ws n
  const-at {w} {x} {y} {b} e ex ey h f =
      let p2 = and_both (leb 1 w && leb w 129) (eqb (word_at ws n 1) 0) h in
      let p1 = and_both (leb 1 w) (leb w 129) p2.0 in
      let most : w ≤ 129 = leb-true w 129 p1.1 in
      let no-set : set_at ws n ≡ 0 = omega (arith, e, most) in
      let same : w ≡ width_at ws n = omega (arith, e, no-set) in
      let all : (leb 1 (width_at ws n) && leb (width_at ws n) 129 && eqb (word_at ws n 1) 0 && b && eqb (set_at ws n) 0) ≡ b =
      rw (← same, p1.0, p1.1, p2.1, eq-eqb (set_at ws n) 0 no-set) (and-true b) in
      sym all ∙ rw (f, ex, ey, same, unused (word_at ws n 1)) (const-is n (cell_at ws n) w_a w_b w_c (set_at ws n) s_a s_b s_c)

  pub const-not : {w : ℕ} → w ≡ width_at ws n + 65536 * set_at ws n → (leb 1 w && leb w 129 && eqb (word_at ws n 1) 0) ≡ false → false ≡ ok_as const ws n
  const-not {w} e h =
      never _ (λ t.
      let p5 = and_both _ _ (const-is n (cell_at ws n) w_a w_b w_c (set_at ws n) s_a s_b s_c ∙ t) in
      let p4 = and_both _ _ p5.0 in
      let p3 = and_both _ _ p4.0 in
      let p2 = and_both (leb 1 (width_at ws n)) (leb (width_at ws n) 129) p3.0 in
      let same : w ≡ width_at ws n = omega (arith, e, eqb-true (set_at ws n) 0 p5.1) in
      let all : (leb 1 w && leb w 129 && eqb (word_at ws n 1) 0) ≡ true = rw (same, p2.0, p2.1) (unused (word_at ws n 1) ∙ p3.1) in
      false≢true (sym h ∙ all))

  -- ---- what refuses a node

  pub var-late : 32 ≤ word_at ws n 2 → false ≡ ok_as var ws n
  var-late h = simp (le-ltb (word_at ws n 2) 32 h, and-false)

  pub ite-late-a : n ≤ op_a ws n → false ≡ ok_as ite ws n
  ite-late-a h = simp (le-ltb (op_a ws n) n h, and-false)

  pub ite-late-b : n ≤ op_b ws n → false ≡ ok_as ite ws n
  ite-late-b h = simp (le-ltb (op_b ws n) n h, and-false)

  pub ite-late-c : n ≤ op_c ws n → false ≡ ok_as ite ws n
  ite-late-c h = simp (le-ltb (op_c ws n) n h, and-false)

  -- word 1 is the operand alone, if it is a smaller number
  pub alone : {w1 : ℕ} → w1 ≡ word_at ws n 1 → n < 65535 → w1 < n → Alone
  alone e m l =
      let h : word_at ws n 1 < n = omega (arith, e, l) in
      record { less-a = omega arith; no-b = omega arith; no-c = omega arith }

  -- and is no more than that if the rules of an Extract or of an extension hold
  not_late : n ≤ word_at ws n 1 → (op_a ws n < n) × (op_b ws n ≡ 0) × (op_c ws n ≡ 0) → ⊥
  not_late l e = omega (arith, e.0, e.1, e.2)

  pub extract-late : n ≤ word_at ws n 1 → false ≡ ok_as extract ws n
  extract-late l = never _ (λ h. not_late l (extract-alone n (cell_at ws n) w_a w_b w_c (set_at ws n) s_a s_b s_c h))

  pub extend-late : n ≤ word_at ws n 1 → false ≡ ok_as zext ws n
  extend-late l = never _ (λ h. not_late l (extend-alone n (cell_at ws n) w_a w_b w_c (set_at ws n) s_a s_b s_c h))

  pub reversed : word_at ws n 2 < word_at ws n 3 → false ≡ ok_as extract ws n
  reversed h = simp (lt-leb (word_at ws n 3) (word_at ws n 2) h, and-false)

  pub too-high : w_a ≤ word_at ws n 2 → false ≡ ok_as extract ws n
  too-high h = simp (le-ltb (word_at ws n 2) w_a h, and-false)
