-- A node's text as what comes before its left operand, that operand, and what follows it. Assumes nothing.
use mathlib.Core.Path.{◌≡◌, refl, sym, ◌∙◌}
use mathlib.Core.Bool.{Bool, true, false, cond}
use mathlib.Core.List.{List, ◌++◌, append_assoc}
use Prim.Native.Nat.{ℕ, ◌≤◌}
use native.Mathlib.Omega.{arith}
use lib.Dec.{eqb}
use borrow.Author.Tests.{eqb-true, eqb-false, eq-eqb, ne_eqb}
use Rattle.terms.specs.Display.{bytes}
use Rattle.pool.specs.Node.{kinds, kind_at, kind_number}
use Rattle.pool_fields.specs.Fields.{op_a, left_of, right_of}
use Rattle.text_digits.specs.Writing.{Room}
use Rattle.text_digits.proofs.Laws.{room-front, room_as}
use Rattle.text_operators.specs.Between.{Joined, between_text}
use Rattle.text_parts.specs.Text.{text, open_text, end_text, single, Ready}
use Rattle.text_parts.proofs.Operands.{Pair, Term, is-single, is-pair, ite-b, ite-c, pair-b, first-term}
use Rattle.text_parts.proofs.Tree.{whole-ite, whole_pair, whole-single}

-- k is the number of the node's kind
module _ (ws : List ℕ) (n k : ℕ) where
  -- of an Ite the condition and its comma are among it
  abbrev pub front : List ℕ
  front = cond (eqb k 15) (open_text k ++ (text ws (op_a ws n) ++ bytes ", ")) (open_text k)

  abbrev pub rest : List ℕ
  rest = cond (single k) (end_text ws n) (between_text k ++ (text ws (right_of ws n) ++ bytes ")"))

  pub front-choice : k ≡ 15 → front ≡ open_text k ++ (text ws (op_a ws n) ++ bytes ", ")
  front-choice e = rw (eq-eqb k 15 e)

  pub front-other : (k ≡ 15 → ⊥) → front ≡ open_text k
  front-other f = rw (ne_eqb k 15 f)

  -- room for what comes before the operands
  pub room_open : {l : List ℕ} {i : ℕ} → Room l i front → Room l i (open_text k)
  room_open {l} {i} m = go (eqb k 15) refl
    where
      go : (t : Bool) → eqb k 15 ≡ t → Room l i (open_text k)
      go true e = room-front _ (room_as (front-choice (eqb-true k 15 e)) m)
      go false e = room_as (front-other (eqb-false k 15 e)) m

pub pair-joined : {k : ℕ} → Pair k → Joined k
pair-joined b = record { from = b.from; to = b.to; no_extract = b.no_extract }

module _ (ws : List ℕ) (n : ℕ) (r : Ready ws n) (k : ℕ) (is-k : k ≡ kind_number ws n) (h : 3 ≤ k) where
  ite-here : k ≡ 15 → eqb (kind_number ws n) 15 ≡ true
  ite-here e = eq-eqb _ 15 (sym is-k ∙ e)

  none_here : (k ≡ 15 → ⊥) → eqb (kind_number ws n) 15 ≡ false
  none_here f = ne_eqb _ 15 (λ e. f (is-k ∙ e))

  whole-choice : k ≡ 15 → text ws n ≡ front ws n k ++ (text ws (left_of ws n) ++ rest ws n k)
  unfolding between_text kind_at kinds
  whole-choice e = rw (ite-here e, e) ((rw e at (whole-ite ws n r k is-k e)) ∙ sym (simp append_assoc))

  whole-other : (k ≡ 15 → ⊥) → (t : Bool) → single k ≡ t → text ws n ≡ front ws n k ++ (text ws (left_of ws n) ++ rest ws n k)
  whole-other f true s = rw (none_here f, ne_eqb k 15 f, s) (whole-single ws n r k is-k (is-single k s))
  whole-other f false s = rw (none_here f, ne_eqb k 15 f, s) (whole_pair ws n r k is-k (is-pair k h f s))

  pub whole : text ws n ≡ front ws n k ++ (text ws (left_of ws n) ++ rest ws n k)
  whole = go (eqb k 15) refl
    where
      go : (t : Bool) → eqb k 15 ≡ t → text ws n ≡ front ws n k ++ (text ws (left_of ws n) ++ rest ws n k)
      go true e = whole-choice (eqb-true k 15 e)
      go false e = whole-other (eqb-false k 15 e) (single k) refl

  pub left-term : Term ws n (left_of ws n)
  left-term = go (eqb k 15) refl
    where
      go : (t : Bool) → eqb k 15 ≡ t → Term ws n (left_of ws n)
      go true e = let f = eqb-true k 15 e in rw (ite-here f) (ite-b ws n r k is-k f)
      go false e = let f = eqb-false k 15 e in rw (none_here f) (first-term ws n r k is-k h f)

  pub right-term : single k ≡ false → Term ws n (right_of ws n)
  right-term s = go (eqb k 15) refl
    where
      go : (t : Bool) → eqb k 15 ≡ t → Term ws n (right_of ws n)
      go true e = let f = eqb-true k 15 e in rw (ite-here f) (ite-c ws n r k is-k f)
      go false e = let f = eqb-false k 15 e in rw (none_here f) (pair-b ws n r k is-k (is-pair k h f s))

  pub a-joined : single k ≡ false → Joined k
  a-joined s = go (eqb k 15) refl
    where
      go : (t : Bool) → eqb k 15 ≡ t → Joined k
      go true e = let f = eqb-true k 15 e in record { from = h; to = omega arith; no_extract = λ z. omega arith }
      go false e = pair-joined (is-pair k h (eqb-false k 15 e) s)
