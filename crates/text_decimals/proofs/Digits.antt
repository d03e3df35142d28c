-- Padded numbers, decimal numbers as these, and what is left of one whose highest digits are written. Assumes nothing.
use mathlib.Core.Path.{◌≡◌, refl, sym, ap, ap₂, ◌∙◌}
use mathlib.Core.Bool.{Bool, true, false, cond}
use mathlib.Core.List.{List, [], ◌∷◌, ◌++◌}
use Prim.Native.Nat.{ℕ, zero, suc, ◌+◌, ◌-◌, ◌*◌, ◌/◌, ◌%◌, ◌^◌, ◌≤◌, ◌<◌}
use native.Mathlib.Omega.{arith}
use native.Mathlib.Nat.{mul_comm, div-one, div-div-eq-div-mul, pow-suc, pow-le-pow_right}
use native.Mathlib.Numerals.{add-one}
use lib.Arith.{digits_div, digits_mod, mod-mul}
use lib.Dec.{ltb}
use lib.ListN.{length, get_or, set}
use lib.Seq.{sets}
use borrow.Author.Tests.{lt-ltb, le-ltb, ltb-true, ltb-false}
use Rattle.terms.specs.Display.{digit, decimal}
use Rattle.text_digits.specs.Writing.{Room, Wrote}
use Rattle.text_digits.proofs.Laws.{digits, digits-one, digits_more}

-- x below 10 ^ k as k decimal digits, zeros first
padded : (k x : ℕ) → List ℕ
padded zero x = []
padded (suc k) x = digit (x / 10 ^ k) ∷ padded k (x % 10 ^ k)

ten-pos : (k : ℕ) → 0 < 10 ^ k
ten-pos k = pow-le-pow_right {n = 10} (omega arith) {i = 0} {j = k} (omega arith)

-- the first digit and the others, as `place_of` gives them
first : (k x d r : ℕ) → 10 ^ k * d + r ≡ x → r < 10 ^ k → padded (suc k) x ≡ digit d ∷ padded k r
unfolding padded
first k x d r e h =
    let q : x ≡ d * 10 ^ k + r = sym e ∙ ap (λ (z : ℕ). z + r) (mul_comm (10 ^ k) d) in
    ap (padded (suc k)) q ∙ ap₂ (λ (y z : ℕ). digit y ∷ padded k z) (digits_div d h) (digits_mod d h)

length-padded : (k x : ℕ) → length (padded k x) ≡ k
unfolding padded
length-padded zero x = refl
length-padded (suc k) x = ap suc (length-padded k (x % 10 ^ k))

-- the last digit
last : (a b : List ℕ) (x : ℕ) → 10 ≤ x → digits 10 (x / 10) ≡ a → a ++ (digit (x % 10) ∷ []) ≡ b → digits 10 x ≡ b
last a b x h e q = digits_more 10 x (omega arith) h ∙ ap (λ (l : List ℕ). l ++ (digit (x % 10) ∷ [])) e ∙ q

-- the digits of a number over ten, and its last digit
shift : (k x : ℕ) → padded (suc k) (x / 10) ++ (digit (x % 10) ∷ []) ≡ padded (suc (suc k)) x
unfolding padded
shift zero x = ap₂ (λ (y z : ℕ). digit y ∷ digit z ∷ []) (div-one (x / 10)) (sym (div-one (x % 10)))
shift (suc k) x =
    let n = 10 ^ suc k in
    let e : 10 ^ suc (suc k) ≡ n * 10 = pow-suc 10 (suc k) in
    let y = x % 10 ^ suc (suc k) in
    let m : y ≡ (x / 10 % n) * 10 + x % 10 = ap (λ (z : ℕ). x % z) e ∙ mod-mul x (ten-pos (suc k)) (omega arith) in
    let h : x % 10 < 10 = omega arith in
    let up : y / 10 ≡ x / 10 % n = ap (λ (z : ℕ). z / 10) m ∙ digits_div (x / 10 % n) h in
    let low : y % 10 ≡ x % 10 = ap (λ (z : ℕ). z % 10) m ∙ digits_mod (x / 10 % n) h in
    let top : x / 10 / n ≡ x / 10 ^ suc (suc k) = div-div-eq-div-mul x 10 n ∙ ap (λ (z : ℕ). x / z) (mul_comm 10 n ∙ sym e) in
    ap₂ (λ (y z : ℕ). digit y ∷ (padded (suc k) z ++ (digit (x % 10) ∷ []))) top (sym up)
    ∙ ap (λ (z : ℕ). digit (x / 10 ^ suc (suc k)) ∷ (padded (suc k) (y / 10) ++ (digit z ∷ []))) (sym low)
    ∙ ap (λ (l : List ℕ). digit (x / 10 ^ suc (suc k)) ∷ l) (shift k y)

-- a number of so many digits has no zeros before it
unpadded : (k x : ℕ) → 10 ^ k ≤ x → x < 10 ^ suc k → decimal x ≡ padded (suc k) x
unfolding decimal padded
unpadded zero x h l = digits-one 10 x l ∙ ap (λ (z : ℕ). digit z ∷ []) (sym (div-one x))
unpadded (suc k) x h l =
    let e : 10 ^ suc k ≡ 10 ^ k * 10 = pow-suc 10 k in
    let f : 10 ^ suc (suc k) ≡ 10 ^ suc k * 10 = pow-suc 10 (suc k) in
    let o : 0 < 10 ^ k = ten-pos k in
    last (padded (suc k) (x / 10)) _ x (omega arith) (unpadded k (x / 10) (omega arith) (omega arith)) (shift k x)

pub size : (k x : ℕ) → 10 ^ k ≤ x → x < 10 ^ suc k → length (decimal x) ≡ suc k
size k x h l = ap length (unpadded k x h l) ∙ length-padded (suc k) x

-- ---- the digits from the highest place on

-- the digits of x that are not written yet: those of the k places that are left, of which x may have fewer
pub still : (k x rest : ℕ) → List ℕ
still k x rest = cond (ltb x (10 ^ k)) (decimal x) (padded k rest)

-- x was written into b at `at` but for k places, where `rest` is left of it
pub record Left (b : List ℕ) (at x k rest end : ℕ) (buf : List ℕ) : Type 0 where
  pub text : sets buf end (still k x rest) ≡ sets b at (decimal x)
  pub place : end + length (still k x rest) ≡ at + length (decimal x)
  pub small : rest < 10 ^ k
  pub same : x < 10 ^ k → rest ≡ x

begun : (k x rest : ℕ) → 10 ^ k ≤ x → still k x rest ≡ padded k rest
unfolding still
begun k x rest h = rw (le-ltb x (10 ^ k) h)

not-begun : (k x rest : ℕ) → x < 10 ^ k → still k x rest ≡ decimal x
unfolding still
not-begun k x rest h = rw (lt-ltb x (10 ^ k) h)

still-padded : (k x rest : ℕ) → 10 ^ k ≤ x → (x < 10 ^ suc k → rest ≡ x) → still (suc k) x rest ≡ padded (suc k) rest
still-padded k x rest h same = go (ltb x (10 ^ suc k)) refl
  where
    go : (t : Bool) → ltb x (10 ^ suc k) ≡ t → still (suc k) x rest ≡ padded (suc k) rest
    go true e =
        let l = ltb-true x (10 ^ suc k) e in
        not-begun (suc k) x rest l ∙ unpadded k x h l ∙ ap (padded (suc k)) (sym (same l))
    go false e = begun (suc k) x rest (ltb-false x (10 ^ suc k) e)

still-last : (x rest : ℕ) → (x < 10 → rest ≡ x) → still 1 x rest ≡ digit rest ∷ []
unfolding decimal padded
still-last x rest same = go (ltb x 10) refl
  where
    go : (t : Bool) → ltb x 10 ≡ t → still 1 x rest ≡ digit rest ∷ []
    go true e =
        let l = ltb-true x 10 e in
        not-begun 1 x rest l ∙ digits-one 10 x l ∙ ap (λ (z : ℕ). digit z ∷ []) (sym (same l))
    go false e = begun 1 x rest (ltb-false x 10 e) ∙ ap (λ (z : ℕ). digit z ∷ []) (div-one rest)

pub left-begin : (b : List ℕ) (at x : ℕ) → x < 100000 → Left b at x 5 x at b
left-begin b at x h =
    let e = not-begun 5 x x h in
    record { text = ap (λ (s : List ℕ). sets b at s) e; place = ap (λ (s : List ℕ). at + length s) e; small = h; same = λ l. refl }

module _ {b buf : List ℕ} {at x rest end : ℕ} where
  pub left-step : (k d r q : ℕ) → Left b at x (suc k) rest end buf → 10 ^ k ≤ x → 10 ^ k * d + r ≡ rest → r < 10 ^ k → q ≡ digit d
      → Left b at x k r (end + 1) (set buf end q)
  left-step k d r q w h e l p =
      let before = still-padded k x rest h w.same ∙ first k rest d r e l in
      let after = begun k x r h in
      let lb = ap length before in
      let la = ap length after in
      record {
        text =
            ap (λ (s : List ℕ). sets (set buf end q) (end + 1) s) after
            ∙ ap (λ (j : ℕ). sets (set buf end q) j (padded k r)) (add-one end)
            ∙ ap (λ (y : ℕ). sets (set buf end y) (suc end) (padded k r)) p
            ∙ sym (ap (λ (s : List ℕ). sets buf end s) before)
            ∙ w.text;
        place = omega (arith, lb, la, w.place);
        small = l;
        same = λ g. absurd (omega (arith, g, h));
      }

  pub left-skip : (k : ℕ) → Left b at x (suc k) rest end buf → x < 10 ^ k → Left b at x k rest end buf
  left-skip k w h =
      let p = pow-suc 10 k in
      let m : x < 10 ^ suc k = omega (arith, p, h) in
      let e = not-begun (suc k) x rest m ∙ sym (not-begun k x rest h) in
      let same = w.same m in
      let le = ap length e in
      record {
        text = sym (ap (λ (s : List ℕ). sets buf end s) e) ∙ w.text;
        place = omega (arith, le, w.place);
        small = omega (arith, same, h);
        same = λ g. same;
      }

  pub left-last : (q : ℕ) → Left b at x 1 rest end buf → q ≡ digit rest → Wrote b at (decimal x) (end + 1) (set buf end q)
  left-last q w p =
      let e = still-last x rest w.same in
      let le = ap length e in
      record {
        next_is = omega (arith, le, w.place);
        after_is = ap (λ (y : ℕ). set buf end y) p ∙ sym (ap (λ (s : List ℕ). sets buf end s) e) ∙ w.text;
      }

  -- there is room for the next digit, and for the last
  pub room-step : (k : ℕ) → Left b at x (suc k) rest end buf → 10 ^ k ≤ x → Room b at (decimal x) → end < length b
  room-step k w h r =
      let e = ap length (still-padded k x rest h w.same) in
      omega (arith, e, length-padded (suc k) rest, w.place, r.room)

  pub room-last : Left b at x 1 rest end buf → Room b at (decimal x) → end < length b
  room-last w r =
      let e = ap length (still-last x rest w.same) in
      omega (arith, e, w.place, r.room)

-- ---- the units

abbrev pub units : List ℕ
units = 10000 ∷ 1000 ∷ 100 ∷ 10 ∷ []

pub unit-is : (j : ℕ) → j < 4 → get_or units j 0 ≡ 10 ^ (4 - j)
unit-is zero h = refl
unit-is (suc zero) h = refl
unit-is (suc (suc zero)) h = refl
unit-is (suc (suc (suc zero))) h = refl
unit-is (suc (suc (suc (suc j)))) h = absurd (omega arith)
