-- The canonical words unfold to the terms of the order, and so determine the term. Assumes nothing.
use mathlib.Core.Path.{◌≡◌, refl, sym, ap, ◌∙◌}
use mathlib.Core.List.{List, [], ◌∷◌}
use Prim.Native.Nat.{ℕ, zero, suc, ◌+◌, ◌*◌, ◌/◌, ◌%◌, ◌≤◌, ◌<◌}
use native.Mathlib.Omega.{arith}
use lib.Dec.{ltb}
use lib.ListN.{length, get_or}
use borrow.Author.Tests.{lt-ltb}
use Rattle.terms.specs.declared.BinOp.{BinOp}
use Rattle.terms.specs.declared.BinOp.TheVariants.{Add, Sub, Mul, And, Or, Xor, Shl, LShr, AShr}
use Rattle.terms.specs.declared.CmpOp.{CmpOp}
use Rattle.terms.specs.declared.CmpOp.TheVariants.{Eq, Ult, Slt}
use Rattle.terms.specs.Expr.{Expr, Var, Const, Bv, Compare, Ite, Extract, Concat, ZeroExtend, SignExtend, width}
use Rattle.terms.specs.Rules.{Good}
use Rattle.terms.specs.Registers.{registers}
use Rattle.pool.specs.Node.{Kind, bad, var, const, bv, compare, ite, extract, concat, zext, sext, kinds, kind_at, bv_code, compare_code, bv_kind, compare_kind, code_of, kind_word, Cell, decode, cell_at}
use Rattle.pool.specs.Node.{kind_of, width_of, set_of, set_at, none}
use Rattle.pool.specs.Unfold.{shape, earlier, unfold_at}
use Rattle.pool.proofs.Laws.{packed, packed-set, unfold-step}
use Rattle.pool.proofs.Facts.{good-wide}
use Rattle.canonical.specs.Order.{parts, place, postorder}
use Rattle.canonical.specs.Words.{inner, cell_in, word0, word1, words_in, canonical}
use Rattle.canonical.proofs.Lists.{place-le, at_place}
use Rattle.canonical.proofs.Trees.{All, at, Before, Closed, closed-order, root, order-length, at-root}
use Rattle.canonical.proofs.Good.{good-order}

-- ---- a kind's number and the kind

kind-of-code : (κ : Kind) → kind_at (code_of κ) ≡ κ
unfolding kind_at kinds
kind-of-code bad = refl
kind-of-code var = refl
kind-of-code const = refl
kind-of-code (bv o) = bv_kind o
kind-of-code (compare o) = compare_kind o
kind-of-code ite = refl
kind-of-code extract = refl
kind-of-code concat = refl
kind-of-code zext = refl
kind-of-code sext = refl

bv-small : (o : BinOp) → bv_code o < 65536
bv-small Add = omega arith
bv-small Sub = omega arith
bv-small Mul = omega arith
bv-small And = omega arith
bv-small Or = omega arith
bv-small Xor = omega arith
bv-small Shl = omega arith
bv-small LShr = omega arith
bv-small AShr = omega arith

compare-small : (o : CmpOp) → compare_code o < 65536
compare-small Eq = omega arith
compare-small Ult = omega arith
compare-small Slt = omega arith

code-small : (κ : Kind) → code_of κ < 65536
code-small bad = omega arith
code-small var = omega arith
code-small const = omega arith
code-small (bv o) = bv-small o
code-small (compare o) = compare-small o
code-small ite = omega arith
code-small extract = omega arith
code-small concat = omega arith
code-small zext = omega arith
code-small sext = omega arith

-- ---- a node's words, read back

-- word 0 is its three parts
pub word-parts : (a : ℕ) → a ≡ kind_word (kind_of a) (width_of a) (set_of a)
word-parts a = omega arith

-- operands' numbers and the width fit their parts of a word
pub record Fits (k : Cell) : Type 0 where
  pub a-fits : k.a < 65536
  pub b-fits : k.b < 65536
  pub width_fits : k.width < 65536

pub decoded : (k : Cell) (s : ℕ) → Fits k → decode (word0 k s) (word1 k) k.x k.y ≡ k
decoded k s f =
    packed (code_of k.kind) k.width s k.a k.b k.c k.x k.y (code-small k.kind) f.width_fits f.a-fits f.b-fits
    ∙ ap (λ κ. inner κ k.width k.a k.b k.c k.x k.y) (kind-of-code k.kind)

pub cell-width : (l : List Expr) (t : Expr) → (cell_in l t).width ≡ width t
unfolding width
cell-width l (Var r) = refl
cell-width l (Const v w) = refl
cell-width l (Bv o a b) = refl
cell-width l (Compare o a b) = refl
cell-width l (Ite c a b) = refl
cell-width l (Extract a hi lo) = refl
cell-width l (Concat a b) = refl
cell-width l (ZeroExtend a w) = refl
cell-width l (SignExtend a w) = refl

module _ (l : List Expr) (short : length l ≤ none) where
  operands-fit : (t : Expr) → ((cell_in l t).a < 65536) × ((cell_in l t).b < 65536)
  operands-fit (Var r) = (omega arith, omega arith)
  operands-fit (Const v w) = (omega arith, omega arith)
  operands-fit (Bv o a b) = (omega (arith, place-le l a), omega (arith, place-le l b))
  operands-fit (Compare o a b) = (omega (arith, place-le l a), omega (arith, place-le l b))
  operands-fit (Ite c a b) = (omega (arith, place-le l c), omega (arith, place-le l a))
  operands-fit (Extract a hi lo) = (omega (arith, place-le l a), omega arith)
  operands-fit (Concat a b) = (omega (arith, place-le l a), omega (arith, place-le l b))
  operands-fit (ZeroExtend a w) = (omega (arith, place-le l a), omega arith)
  operands-fit (SignExtend a w) = (omega (arith, place-le l a), omega arith)

  fits : (t : Expr) → Good t → Fits (cell_in l t)
  fits t g =
      let o = operands-fit t in
      record { a-fits = o.0; b-fits = o.1; width_fits = omega (arith, cell-width l t, good-wide t g) }

  pub cell-of : (ts : List Expr) → All Good ts → (i : ℕ) → i < length ts → cell_at (words_in l ts) i ≡ cell_in l (at ts i)
  unfolding words_in
  cell-of [] g i h = absurd (omega arith)
  cell-of (t ∷ ts) g zero h = decoded (cell_in l t) (registers t) (fits t g.0)
  cell-of (t ∷ ts) g (suc i) h =
      let e0 : 4 * suc i ≡ suc (suc (suc (suc (4 * i)))) = omega arith in
      let e1 : 4 * suc i + 1 ≡ suc (suc (suc (suc (4 * i + 1)))) = omega arith in
      let e2 : 4 * suc i + 2 ≡ suc (suc (suc (suc (4 * i + 2)))) = omega arith in
      let e3 : 4 * suc i + 3 ≡ suc (suc (suc (suc (4 * i + 3)))) = omega arith in
      let ws = words_in l (t ∷ ts) in
      (λ j. decode (get_or ws (e0 j) 0) (get_or ws (e1 j) 0) (get_or ws (e2 j) 0) (get_or ws (e3 j) 0)) ∙ cell-of ts g.1 i (omega arith)

  -- and the set of a node is that of its term
  pub set-of : (ts : List Expr) → All Good ts → (i : ℕ) → i < length ts → set_at (words_in l ts) i ≡ registers (at ts i)
  unfolding words_in
  set-of [] g i h = absurd (omega arith)
  set-of (t ∷ ts) g zero h = packed-set (code_of (cell_in l t).kind) (cell_in l t).width (registers t) (code-small (cell_in l t).kind) (fits t g.0).width_fits
  set-of (t ∷ ts) g (suc i) h =
      let e0 : 4 * suc i ≡ suc (suc (suc (suc (4 * i)))) = omega arith in
      (λ j. set_of (get_or (words_in l (t ∷ ts)) (e0 j) 0)) ∙ set-of ts g.1 i (omega arith)

pub words-length : (l ts : List Expr) → length (words_in l ts) ≡ 4 * length ts
unfolding words_in
words-length l [] = refl
words-length l (t ∷ ts) = omega (arith, words-length l ts)

-- ---- the term of a node, over its operands' terms

module _ (l : List Expr) (i : ℕ) (u : ℕ → Expr) (f : (p : Expr) → place l p < i → u (place l p) ≡ p) where
  operand : (p : Expr) → place l p < i → earlier (ltb (place l p) i) (u (place l p)) ≡ p
  operand p h = rw (lt-ltb (place l p) i h) (f p h)

  shape-in : (t : Expr) → Before l i (parts t)
      → (let k = cell_in l t in shape k (earlier (ltb k.a i) (u k.a)) (earlier (ltb k.b i) (u k.b)) (earlier (ltb k.c i) (u k.c))) ≡ t
  shape-in (Var r) h = refl
  shape-in (Const v w) h =
      let e : v % 18446744073709551616 + 18446744073709551616 * (v / 18446744073709551616) ≡ v = omega arith in
      ap (λ n. Const n w) e
  shape-in (Bv o a b) h = λ j. Bv o (operand a h.0 j) (operand b h.1.0 j)
  shape-in (Compare o a b) h = λ j. Compare o (operand a h.0 j) (operand b h.1.0 j)
  shape-in (Ite c a b) h = λ j. Ite (operand c h.0 j) (operand a h.1.0 j) (operand b h.1.1.0 j)
  shape-in (Extract a hi lo) h = λ j. Extract (operand a h.0 j) hi lo
  shape-in (Concat a b) h = λ j. Concat (operand a h.0 j) (operand b h.1.0 j)
  shape-in (ZeroExtend a w) h = λ j. ZeroExtend (operand a h.0 j) w
  shape-in (SignExtend a w) h = λ j. SignExtend (operand a h.0 j) w

-- ---- words whose nodes are those of a list of terms, each after its operands, unfold to the terms

module _ (l : List Expr) (c : Closed l) (ws : List ℕ) (cells : (i : ℕ) → i < length l → cell_at ws i ≡ cell_in l (at l i)) where
  unfolds-below : (f i : ℕ) → i < f → i < length l → unfold_at ws i ≡ at l i
  unfolds-below zero i g h = absurd (omega arith)
  unfolds-below (suc f) i g h =
      unfold-step ws i (cell_in l (at l i)) (cells i h)
      ∙ shape-in l i (unfold_at ws)
      (λ p b. unfolds-below f (place l p) (omega arith) (omega arith) ∙ at_place l p (Var 0) (omega arith))
      (at l i) (c i h)

  pub unfolds : (i : ℕ) → i < length l → unfold_at ws i ≡ at l i
  unfolds i h = unfolds-below (suc i) i (omega arith) h

-- ---- theorems

-- the canonical pool has fewer places than there are numbers
abbrev pub Short : Expr → Type 0
Short t = length (postorder t) ≤ none

-- its node i unfolds to the i-th of the distinct subtrees
pub canonical-unfolds : (t : Expr) → Good t → Short t → (i : ℕ) → i < length (postorder t) → unfold_at (canonical t) i ≡ at (postorder t) i
unfolding canonical
canonical-unfolds t g s i h =
    let l = postorder t in
    unfolds l (closed-order t) (words_in l l) (cell-of l s l (good-order t g)) i h

-- its last node unfolds to the term
pub canonical-root : (t : Expr) → Good t → Short t → unfold_at (canonical t) (root t) ≡ t
canonical-root t g s = canonical-unfolds t g s (root t) (omega (arith, order-length t)) ∙ at-root t

pub canonical-length : (t : Expr) → length (canonical t) ≡ 4 * length (postorder t)
unfolding canonical
canonical-length t = words-length (postorder t) (postorder t)

-- equal words, equal trees
pub injective : (s t : Expr) → Good s → Good t → Short s → Short t → canonical s ≡ canonical t → s ≡ t
injective s t f g p q e =
    let n : root s ≡ root t = omega (arith, ap length e, canonical-length s, canonical-length t, order-length s, order-length t) in
    sym (canonical-root s f p) ∙ (λ j. unfold_at (e j) (n j)) ∙ canonical-root t g q
