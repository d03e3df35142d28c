-- The theorems of specs/Meaning.antt. Assumes nothing.
use mathlib.Core.Path.{◌≡◌, sym, ap, ◌∙◌, subst}
use mathlib.Core.Bool.{true}
use mathlib.Core.List.{List}
use Prim.Native.Nat.{ℕ, ◌+◌, ◌-◌, ◌*◌, ◌/◌, ◌%◌, ◌≤◌, ◌<◌}
use native.Mathlib.Omega.{arith}
use lib.Dec.{ltb, leb}
use lib.ListN.{length, get_or}
use lib.Seq.{ext_get_or}
use borrow.Author.Tests.{ltb-true, leb-true, le-leb, lt-ltb}
use Rattle.facts.proofs.Tests.{and_both, passed}
use Rattle.terms.specs.Expr.{Expr}
use Rattle.terms.specs.Rules.{Good}
use Rattle.terms.specs.Registers.{registers}
use Rattle.pool.specs.Node.{cell_at, decode, set_of, set_at, places}
use Rattle.pool.specs.Rules.{ok_pool, pool_ok}
use Rattle.pool.specs.Unfold.{unfold_at}
use Rattle.pool_check.proofs.Sound.{sound}
use Rattle.canonical.specs.Order.{postorder}
use Rattle.canonical.specs.Words.{cell_in, canonical}
use Rattle.canonical.proofs.Trees.{at, closed-order, root, order-length, at-root}
use Rattle.canonical.proofs.Words.{Short, cell-of, set-of, unfolds, canonical-length, injective}
use Rattle.canonical.proofs.Good.{good-order}
use Rattle.canonical.proofs.Valid.{ok-all}
use Rattle.canonical_write.specs.Canonise.{Canonised, trees_at, canonise_number, Answered}
use Rattle.canonical_write.specs.Meaning.{SameWords, SameWordsForSameTrees, LastIsRoot, CanonicalPasses, AgainTheSame}

-- what number 0 says
pub record Accepted (ws : List ℕ) (count top : ℕ) (out : List ℕ) : Type 0 where
  pub ok : pool_ok ws count ≡ true
  pub below : top < count
  pub fits : trees_at ws top ≤ places out

not-zero : (n : ℕ) → 0 < n → n ≡ 0 → ⊥
not-zero n h e = omega arith

pub accepted : (ws : List ℕ) (count top : ℕ) (out : List ℕ) → canonise_number ws count top out ≡ 0 → Accepted ws count top out
unfolding canonise_number
accepted ws count top out e =
    let p1 = passed (pool_ok ws count) (not-zero 1 (omega arith)) e in
    let p2 = passed (ltb top count) (not-zero 5 (omega arith)) p1.1 in
    let p3 = passed (leb (trees_at ws top) (places out)) (not-zero 6 (omega arith)) p2.1 in
    record { ok = p1.0; below = ltb-true _ _ p2.0; fits = leb-true _ _ p3.0 }

-- an answer with number 0
module _ (ws : List ℕ) (count top : ℕ) (old new : List ℕ) (a : Canonised) (A : Answered ws count top old new a) (z : a.number ≡ 0) where
  abbrev t : Expr
  t = unfold_at ws top

  is-accepted : Accepted ws count top old
  is-accepted = accepted ws count top old (sym A.number ∙ z)

  pub good : Good t
  good =
      let v = and_both (leb count (places ws)) (ok_pool ws count) is-accepted.ok in
      (sound ws count v.1 top is-accepted.below).ok

  pub short : Short t
  short = omega (arith, is-accepted.fits)

  pub count_is : a.count ≡ length (postorder t)
  count_is = (A.done z).0

  -- word by word
  pub word-is : (i : ℕ) → i < 4 * a.count → get_or new i 0 ≡ get_or (canonical t) i 0
  word-is i h =
      let e : 4 * (i / 4) + i % 4 ≡ i = omega arith in
      subst (λ (j : ℕ). get_or new j 0 ≡ get_or (canonical t) j 0) e ((A.done z).1.words (i / 4) (i % 4) (omega arith) (omega arith))

  cells : (i : ℕ) → i < length (postorder t) → cell_at new i ≡ cell_in (postorder t) (at (postorder t) i)
  unfolding canonical
  cells i h =
      (λ j.
      decode (word-is (4 * i) (omega (arith, count_is)) j) (word-is (4 * i + 1) (omega (arith, count_is)) j) (word-is (4 * i + 2) (omega (arith, count_is)) j)
      (word-is (4 * i + 3) (omega (arith, count_is)) j))
      ∙ cell-of (postorder t) short (postorder t) (good-order t good) i h

  sets : (i : ℕ) → i < length (postorder t) → set_at new i ≡ registers (at (postorder t) i)
  unfolding canonical
  sets i h = ap set_of (word-is (4 * i) (omega (arith, count_is))) ∙ set-of (postorder t) short (postorder t) (good-order t good) i h

  last-is : unfold_at new (a.count - 1) ≡ t
  last-is =
      let e : a.count - 1 ≡ root t = omega (arith, count_is, order-length t) in
      rw e (unfolds (postorder t) (closed-order t) new cells (root t) (omega (arith, order-length t)) ∙ at-root t)

  passes : pool_ok new a.count ≡ true
  passes =
      let l = (A.done z).1.long in
      let p : leb a.count (places new) ≡ true = le-leb a.count (places new) (omega (arith, count_is, l, is-accepted.fits)) in
      let q : ok_pool new a.count ≡ true = ok-all (postorder t) (closed-order t) (good-order t good) new cells sets a.count (omega (arith, count_is)) in
      rw (p, q)

  again : (old₂ new₂ : List ℕ) (b : Canonised) → Answered new a.count (a.count - 1) old₂ new₂ b → a.count ≤ places old₂ → (b.number ≡ 0) × SameWords new₂ new b a
  unfolding canonise_number
  again old₂ new₂ b B room =
      let s : trees_at new (a.count - 1) ≡ a.count = ap (λ (x : Expr). length (postorder x)) last-is ∙ sym count_is in
      let pos : 0 < a.count = omega (arith, count_is, order-length t) in
      let y : b.number ≡ 0 =
      B.number ∙ rw (passes, lt-ltb (a.count - 1) a.count (omega arith), le-leb (trees_at new (a.count - 1)) (places old₂) (omega (arith, s, room))) in
      let D = B.done y in
      let c : b.count ≡ a.count = D.0 ∙ s in
      let w : (i : ℕ) → i < 4 * b.count → get_or new₂ i 0 ≡ get_or new i 0 = λ i h.
      let e : 4 * (i / 4) + i % 4 ≡ i = omega arith in
      subst (λ (j : ℕ). get_or new₂ j 0 ≡ get_or (canonical (unfold_at new (a.count - 1))) j 0) e (D.1.words (i / 4) (i % 4) (omega arith) (omega arith))
      ∙ ap (λ (x : Expr). get_or (canonical x) i 0) last-is
      ∙ sym (word-is i (omega (arith, c))) in
      (y, (c, w))

pub last-is-root : LastIsRoot
last-is-root ws count top old new a A z = last-is ws count top old new a A z

pub canonical-passes : CanonicalPasses
canonical-passes ws count top old new a A z = passes ws count top old new a A z

pub again-the-same : AgainTheSame
again-the-same ws count top old new a A z = again ws count top old new a A z

pub same_words : SameWordsForSameTrees
same_words ws count top old new a A z ws' count' top' old' new' a' A' z' =
    let t = unfold_at ws top in
    let t' = unfold_at ws' top' in
    let c = count_is ws count top old new a A z in
    let c' = count_is ws' count' top' old' new' a' A' z' in
    let w = word-is ws count top old new a A z in
    let w' = word-is ws' count' top' old' new' a' A' z' in
    let n : length (canonical t) ≡ 4 * a.count = canonical-length t ∙ ap (λ (k : ℕ). 4 * k) (sym c) in
    let n' : length (canonical t') ≡ 4 * a'.count = canonical-length t' ∙ ap (λ (k : ℕ). 4 * k) (sym c') in (
      λ s. injective t t' (good ws count top old new a A z) (good ws' count' top' old' new' a' A' z') (short ws count top old new a A z) (short ws' count' top' old' new' a' A' z')
          (ext_get_or 0 (canonical t) (canonical t') (omega (arith, n, n', s.0)) (λ i h. sym (w i (omega (arith, n))) ∙ s.1 i (omega (arith, n)) ∙ w' i (omega (arith, n, s.0)))),
      λ e.
          let k : a.count ≡ a'.count = c ∙ ap (λ (x : Expr). length (postorder x)) e ∙ sym c' in
          (k, λ i h. w i h ∙ ap (λ (x : Expr). get_or (canonical x) i 0) e ∙ sym (w' i (omega (arith, k)))),
    )
