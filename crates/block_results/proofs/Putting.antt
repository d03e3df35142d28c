-- The words of a block's answer: put one by one into 34 zeros, and read back. Assumes nothing.
use mathlib.Core.Path.{◌≡◌, refl, sym, ap, ◌∙◌}
use mathlib.Core.List.{List, [], ◌∷◌, ◌++◌, append_assoc, append-nil}
use Prim.Native.Nat.{ℕ, zero, suc, ◌+◌, ◌<◌}
use native.Mathlib.Nat.{add-zero, zero-add, add-suc, suc-add, le_of_suc-le-suc, not-suc-le-zero}
use native.Mathlib.Omega.{arith}
use lib.ListN.{length, get_or, set, drop, replicate, length-append, get_or-append}
use lib.Seq.{sets, sets-eq, get_or-append-add}
use Rattle.block_map.specs.declared.RegisterMap.{RegisterMap}
use Rattle.block_map.specs.Map.{node_of}
use Rattle.text_digits.proofs.Laws.{sets-append}
use Rattle.block_results.specs.Words.{nodes_of, answer_words, flagged_words}

nodes-length : (m : RegisterMap) (r k : ℕ) → length (nodes_of m r k) ≡ k
unfolding nodes_of
nodes-length m r zero = refl
nodes-length m r (suc k) = ap suc (nodes-length m (suc r) k)

nodes-more : (m : RegisterMap) (r k : ℕ) → nodes_of m r (suc k) ≡ nodes_of m r k ++ (node_of m (r + k) ∷ [])
unfolding nodes_of
nodes-more m r zero = ap (λ (j : ℕ). node_of m j ∷ []) (sym (add-zero r))
nodes-more m r (suc k) = ap (λ (l : List ℕ). node_of m r ∷ l) (nodes-more m (suc r) k ∙ ap (λ (j : ℕ). nodes_of m (suc r) k ++ (node_of m j ∷ [])) (suc-add r k ∙ sym (add-suc r k)))

put_one : (l xs : List ℕ) (k v : ℕ) → length xs ≡ k → set (sets l 0 xs) k v ≡ sets l 0 (xs ++ (v ∷ []))
put_one l xs k v e = ap (λ (j : ℕ). set (sets l 0 xs) j v) (sym e ∙ sym (zero-add (length xs))) ∙ sym (sets-append l 0 xs (v ∷ []))

-- one more register's node
pub put-node : (l : List ℕ) (m : RegisterMap) (k : ℕ) → set (sets l 0 (nodes_of m 0 k)) k (node_of m k) ≡ sets l 0 (nodes_of m 0 (k + 1))
put-node l m k =
    put_one l (nodes_of m 0 k) k (node_of m k) (nodes-length m 0 k)
    ∙ ap (λ (xs : List ℕ). sets l 0 xs)
    (ap (λ (j : ℕ). nodes_of m 0 k ++ (node_of m j ∷ [])) (sym (zero-add k)) ∙ sym (nodes-more m 0 k) ∙ ap (λ (j : ℕ). nodes_of m 0 j) (omega arith))

-- the count and the position, after the nodes of all registers
pub put_all : (m : RegisterMap) (position : ℕ) → set (set (sets (replicate 34 0) 0 (nodes_of m 0 32)) 32 m.count) 33 position ≡ answer_words m position
unfolding answer_words
put_all m position =
    let zeros : List ℕ = replicate 34 0 in
    let ns = nodes_of m 0 32 in
    let words = ns ++ (m.count ∷ position ∷ []) in
    let long : length words ≡ 34 = length-append ns (m.count ∷ position ∷ []) ∙ ap (λ (j : ℕ). j + 2) (nodes-length m 0 32) in
    ap (λ (xs : List ℕ). set xs 33 position) (put_one zeros ns 32 m.count (nodes-length m 0 32))
    ∙ put_one zeros (ns ++ (m.count ∷ [])) 33 position (length-append ns (m.count ∷ []) ∙ ap (λ (j : ℕ). j + 1) (nodes-length m 0 32))
    ∙ ap (λ (xs : List ℕ). sets zeros 0 xs) (append_assoc ns (m.count ∷ []) (position ∷ []))
    ∙ sets-eq words zeros 0 (omega (arith, long))
    ∙ ap (λ (j : ℕ). words ++ drop j zeros) (zero-add (length words) ∙ long)
    ∙ append-nil words

-- ---- the bit after them

pub answer-length : (m : RegisterMap) (position : ℕ) → length (answer_words m position) ≡ 34
unfolding answer_words
answer-length m position = length-append (nodes_of m 0 32) (m.count ∷ position ∷ []) ∙ ap (λ (j : ℕ). j + 2) (nodes-length m 0 32)

-- ---- read back

nodes-at : (m : RegisterMap) (r k j : ℕ) (after : List ℕ) → j < k → get_or (nodes_of m r k ++ after) j 0 ≡ node_of m (r + j)
unfolding nodes_of
nodes-at m r zero j after h = absurd (not-suc-le-zero h)
nodes-at m r (suc k) zero after h = rw (add-zero r)
nodes-at m r (suc k) (suc j) after h =
    nodes-at m (suc r) k j after (le_of_suc-le-suc h) ∙ ap (λ (i : ℕ). node_of m i) {x = suc r + j} {y = r + suc j} (omega arith)

-- word r of an answer is register r's node
pub answer-node : (m : RegisterMap) (position r : ℕ) → r < 32 → get_or (answer_words m position) r 0 ≡ node_of m r
unfolding answer_words
answer-node m position r h = nodes-at m 0 32 r _ h ∙ ap (node_of m) (zero-add r)

-- with a bit after them too, and word 34 is the bit's node
pub flagged-node : (m : RegisterMap) (position bit r : ℕ) → r < 32 → get_or (flagged_words m position bit) r 0 ≡ node_of m r
flagged-node m position bit r h =
    get_or-append (answer_words m position) (bit ∷ []) 0 r (omega (arith, answer-length m position)) ∙ answer-node m position r h

pub flagged-bit : (m : RegisterMap) (position bit : ℕ) → get_or (flagged_words m position bit) 34 0 ≡ bit
flagged-bit m position bit =
    ap (λ (j : ℕ). get_or (flagged_words m position bit) j 0) (sym (answer-length m position) ∙ sym (add-zero (length (answer_words m position))))
    ∙ get_or-append-add (answer_words m position) (bit ∷ []) 0 0
