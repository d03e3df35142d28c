-- The nodes of a joined pool one after the other. Assumes nothing.
use mathlib.Core.Path.{◌≡◌, refl, sym, ap, ◌∙◌}
use mathlib.Core.Bool.{Bool, true, false}
use mathlib.Core.List.{List}
use Prim.Native.Nat.{ℕ, ◌+◌, ◌-◌, ◌*◌, ◌≤◌, ◌<◌}
use native.Mathlib.Omega.{arith}
use lib.Dec.{ltb}
use lib.ListN.{length, get_or, length-set}
use borrow.Author.Tests.{lt-ltb, le-ltb, ltb-true, ltb-false}
use Rattle.pool.specs.Node.{word_at, kind_number, write_node}
use Rattle.pool_operands.proofs.Written.{other, f0, f1, f2, f3, four}
use Rattle.join.specs.Join.{moved_word, moved_parts, join_count, join_word, join_number, Half, SecondAt, Answered, write_moved, write_eq}

module _ (first : List ℕ) (c : ℕ) (second : List ℕ) (d x y : ℕ) (hc : 32 ≤ c) (hd : 32 ≤ d) (old : List ℕ) where
  abbrev At : List ℕ → ℕ → Type 0
  At new n = SecondAt first c second d x y old new n

  pub first-at : (mid : List ℕ) → Half first old mid (4 * c) → At mid c
  unfolding join_word
  first-at mid H =
      record {
        long = H.long;
        words = λ m j h g. H.words (4 * m + j) (omega arith) ∙ sym (rw (lt-ltb m c h));
        past = H.past;
      }

  -- node n written
  node_at : (mid new : List ℕ) (n w0 w1 w2 w3 : ℕ) → 4 * (n + 1) ≤ length mid → new ≡ write_node mid n w0 w1 w2 w3
      → (w0 ≡ join_word first c second d x y n 0) × (w1 ≡ join_word first c second d x y n 1) × (w2 ≡ join_word first c second d x y n 2) × (w3 ≡ join_word first c second d x y n 3)
      → At mid n
      → At new (n + 1)
  node_at mid new n w0 w1 w2 w3 room e q A =
      let at_new : (i : ℕ) → get_or new i 0 ≡ get_or (write_node mid n w0 w1 w2 w3) i 0 = λ i. ap (λ (l : List ℕ). get_or l i 0) e in
      let z : 4 * n + 0 ≡ 4 * n = omega arith in
      record {
        long = ap length e ∙ (simp length-set A.long);
        words = λ m j h g. go m j h g at_new
            (at_new (4 * n + 0) ∙ ap (λ (i : ℕ). get_or (write_node mid n w0 w1 w2 w3) i 0) z ∙ f0 mid n w0 w1 w2 w3 room ∙ q.0)
            (at_new (4 * n + 1) ∙ f1 mid n w0 w1 w2 w3 room ∙ q.1) (at_new (4 * n + 2) ∙ f2 mid n w0 w1 w2 w3 room ∙ q.2) (at_new (4 * n + 3) ∙ f3 mid n w0 w1 w2 w3 room ∙ q.3)
            (ltb m n) refl;
        past = λ i h. at_new i ∙ other mid n w0 w1 w2 w3 room i (λ p. omega arith) (λ p. omega arith) (λ p. omega arith) (λ p. omega arith) ∙ A.past i (omega arith);
      }
    where
      Word : ℕ → Type 0
      Word j = get_or new (4 * n + j) 0 ≡ join_word first c second d x y n j

      go : (m j : ℕ) → m < n + 1 → j < 4 → ((i : ℕ) → get_or new i 0 ≡ get_or (write_node mid n w0 w1 w2 w3) i 0) → Word 0 → Word 1 → Word 2 → Word 3 → (t : Bool) → ltb m n ≡ t
          → get_or new (4 * m + j) 0 ≡ join_word first c second d x y m j
      go m j h g at_new a b p q true f =
          let l : m < n = ltb-true m n f in
          at_new (4 * m + j) ∙ other mid n w0 w1 w2 w3 room (4 * m + j) (λ p. omega arith) (λ p. omega arith) (λ p. omega arith) (λ p. omega arith) ∙ A.words m j l g
      go m j h g at_new a b p q false f =
          let l : n ≤ m = ltb-false m n f in
          let s : m ≡ n = omega arith in
          rw s (four Word a b p q j g)

  pub second_at : (mid new : List ℕ) (m : ℕ) → 32 ≤ m → m < d → 4 * (m + c - 32 + 1) ≤ length mid
      → moved_parts c (word_at second m 1) ≡ moved_word c (kind_number second m) (word_at second m 1)
      → new ≡ write_moved c second m mid
      → At mid (m + c - 32)
      → At new (m + 1 + c - 32)
  unfolding join_word
  second_at mid new m h l room parts e A =
      let n = m + c - 32 in
      let s : n + 32 - c ≡ m = omega arith in
      let next : m + 1 + c - 32 ≡ n + 1 = omega arith in
      let a : ltb n c ≡ false = le-ltb n c (omega arith) in
      let b : ltb n (c + d - 32) ≡ true = lt-ltb n (c + d - 32) (omega arith) in
      let z : 4 * m + 0 ≡ 4 * m = omega arith in
      rw next
      (node_at mid new n _ _ _ _ room e (sym (rw (a, b, s, z)), parts ∙ sym (rw (a, b, s)), sym (rw (a, b, s)), sym (rw (a, b, s))) A)

  pub eq-at : (mid new : List ℕ) → 4 * join_count c d ≤ length mid → new ≡ write_eq first c second d x y mid → At mid (c + d - 32) → At new (join_count c d)
  unfolding join_word
  eq-at mid new room e A =
      let n = c + d - 32 in
      let next : join_count c d ≡ n + 1 = omega arith in
      let a : ltb n c ≡ false = le-ltb n c (omega arith) in
      let b : ltb n n ≡ false = le-ltb n n (omega arith) in
      rw next (node_at mid new n _ _ _ _ (omega arith) e (sym (rw (a, b)), sym (rw (a, b)), sym (rw (a, b)), sym (rw (a, b))) A)

pub start-at : (first : List ℕ) (c : ℕ) (second : List ℕ) (d x y : ℕ) → 32 ≤ c → 32 ≤ d → (old mid : List ℕ) → Half first old mid (4 * c) → SecondAt first c second d x y mid mid c
start-at first c second d x y hc hd old mid H =
    let A = first-at first c second d x y hc hd old mid H in
    record { long = refl; words = A.words; past = λ i h. refl }

pub from-half : (first : List ℕ) (c : ℕ) (second : List ℕ) (d x y : ℕ) (old mid new : List ℕ) (n : ℕ) → c ≤ n → Half first old mid (4 * c) → SecondAt first c second d x y mid new n
    → SecondAt first c second d x y old new n
from-half first c second d x y old mid new n h H A =
    record { long = A.long ∙ H.long; words = A.words; past = λ i g. A.past i g ∙ H.past i (omega arith) }

-- ---- the answer

pub all_done : (first : List ℕ) (c : ℕ) (second : List ℕ) (d x y : ℕ) (old : List ℕ) {new : List ℕ} {n : ℕ} → n ≡ join_number first c second d x y old → n ≡ 0
    → SecondAt first c second d x y old new (join_count c d)
    → Answered first c second d x y old new (record { number = n; node = c + d - 32; count = join_count c d })
all_done first c second d x y old e z A =
    record {
      number = e;
      refused = λ f. absurd (f z);
      done = λ f. record { node = refl; count = refl; long = A.long; words = A.words; past = A.past };
    }
