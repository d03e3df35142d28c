-- What `write_term` needs. Assumes nothing.
use mathlib.Core.Bool.{true, false}
use mathlib.Core.List.{List, ◌++◌}
use mathlib.Core.Path.{◌≡◌, refl}
use Prim.Native.Nat.{ℕ}
use native.Mathlib.Omega.{arith}
use borrow.Author.Tests.{eq-eqb, ne_eqb, le-leb, lt-leb}
use denote.Ref.{MutBor, at_last}
use Rattle.terms.specs.Display.{bytes}
use Rattle.pool_fields.specs.Fields.{op_a, left_of, right_of}
use Rattle.text_digits.specs.Writing.{Room}
use Rattle.text_digits.proofs.Laws.{room-front, room-step, room_as}
use Rattle.text_operators.specs.Between.{between_text}
use Rattle.text_parts.specs.Text.{text, end_text, single}
use Rattle.text_parts.proofs.Operands.{to-nineteen, ite-a}
use Rattle.text_write.specs.Behind.{WroteBehind}
use Rattle.text_write.proofs.Behind.{behind-one, behind-then, behind_more, behind-as, behind-at}
use Rattle.text_parts.proofs.Pieces.{front, rest, front-choice, front-other, room_open, whole, left-term, right-term, a-joined}
use Rattle.text_write.proofs.write_term.Reads as write-term
use Rattle.text_write.proofs.+write_condition_write_term.Lts-write_term as write-term-lts
use Rattle.text_write.proofs.+write_condition_write_term.Lts-write_term.{then-k-eq-ITE, else-k-eq-ITE}
use Rattle.text_write.proofs.+write_condition_write_term.Proof.Writers.{write-term-at, write-term-claims}

module _ (t : ℕ) where
  abbrev Start : Type 0
  Start = write-term-lts.Start (write-term-claims t) (write-term-at t) write-term.Post

  -- a kind with operands
  abbrev Inner : Type 0
  Inner = write-term-lts.Else-k-lt-ADD (write-term-claims t) (write-term-at t) write-term.Post

  whole_is : (c : Inner) → let s = c in
      text s.args.p.now.now s.args.n.0 ≡ front s.args.p.now.now s.args.n.0 c.kind_of-k.result ++ (text s.args.p.now.now (left_of s.args.p.now.now s.args.n.0) ++ rest s.args.p.now.now s.args.n.0 c.kind_of-k.result)
  whole_is c = let s = c in whole s.args.p.now.now s.args.n.0 s.requires.1.0.0 c.kind_of-k.result c.kind_of-k.ensures c.if-k-lt-ADD.false

  text-room : (c : Inner) → let s = c in
      Room s.args.buf.now.now s.args.at (front s.args.p.now.now s.args.n.0 c.kind_of-k.result ++ (text s.args.p.now.now (left_of s.args.p.now.now s.args.n.0) ++ rest s.args.p.now.now s.args.n.0 c.kind_of-k.result))
  text-room c = room_as (whole_is c) c.requires.1.1

  -- all before the left operand is written
  abbrev Fronted : Type 0
  Fronted = write-term-lts.Joined-k-eq-ITE (write-term-claims t) (write-term-at t) write-term.Post

  front-wrote : (c : Fronted) → let s = c in
      WroteBehind s.args.buf.now s.args.at (front s.args.p.now.now s.args.n.0 c.kind_of-k.result) c.if-k-eq-ITE.i c.if-k-eq-ITE.buf
  front-wrote c =
      elim c.if-k-eq-ITE.branch [
        | then-k-eq-ITE w ↦
            behind-at w.buf-is w.i-is
            (behind-as (front-choice _ _ _ w.if-k-eq-ITE.true)
            (behind-then _ c.put_open-i.ensures (behind_more (rw w.first.ensures at w.write_condition-j.ensures) (behind-one _ w.put-i.ensures))))
        | else-k-eq-ITE w ↦ behind-at w.buf-is w.i-is (behind-as (front-other _ _ _ w.if-k-eq-ITE.false) (behind-one _ c.put_open-i.ensures))
      ]

  front-room : (c : Fronted) → let s = c in
      Room c.if-k-eq-ITE.buf.now c.if-k-eq-ITE.i (text s.args.p.now.now (left_of s.args.p.now.now s.args.n.0) ++ rest s.args.p.now.now s.args.n.0 c.kind_of-k.result)
  front-room c = room-step (front-wrote c).wrote (text-room c.before.before.before)

  -- the left operand is written
  abbrev Lefted : Type 0
  Lefted = write-term-lts.After-write_term-j (write-term-claims t) (write-term-at t) write-term.Post

  left-wrote : (c : Lefted) → let f = c in
      let s = c in
      WroteBehind f.if-k-eq-ITE.buf f.if-k-eq-ITE.i (text s.args.p.now.now (left_of s.args.p.now.now s.args.n.0)) c.write_term-j.result c.write_term-j.new.buf
  left-wrote c = rw c.left.ensures at c.write_term-j.ensures

  left-room : (c : Lefted) → let i = c in
      Room c.write_term-j.new.buf.now c.write_term-j.result (rest i.args.p.now.now i.args.n.0 i.kind_of-k.result)
  left-room c = room-step (left-wrote c).wrote (front-room c.before.before.before.before)

  -- the text, once what follows the left operand is written too
  text-wrote : (c : Lefted) {k : ℕ} {b : MutBor (List ℕ)} → let s = c in
      WroteBehind c.write_term-j.new.buf c.write_term-j.result (rest s.args.p.now.now s.args.n.0 s.kind_of-k.result) k b
      → WroteBehind s.args.buf.now s.args.at (text s.args.p.now.now s.args.n.0) k b
  text-wrote c w =
      behind-as (whole_is c.before.before.before.before.before.before.before) (behind_more (front-wrote c.before.before.before.before) (behind_more (left-wrote c) w))

  -- an only operand: an Extract's, and an extension's
  end_is : (c : Inner) → single c.kind_of-k.result ≡ true → rest c.args.p.now.now c.args.n.0 c.kind_of-k.result ≡ end_text c.args.p.now.now c.args.n.0
  end_is c s = rw s

  abbrev Range : Type 0
  Range = write-term-lts.Then-k-eq-EXTRACT (write-term-claims t) (write-term-at t) write-term.Post

  range-is : (c : Range) → single c.kind_of-k.result ≡ true
  range-is c = rw (eq-eqb _ 16 c.if-k-eq-EXTRACT.true) refl

  abbrev Extension : Type 0
  Extension = write-term-lts.Then-k-ge-ZERO_EXTEND (write-term-claims t) (write-term-at t) write-term.Post

  extension-is : (c : Extension) → single c.kind_of-k.result ≡ true
  extension-is c = rw (ne_eqb _ 16 c.if-k-eq-EXTRACT.false, le-leb 18 _ c.if-k-ge-ZERO_EXTEND.true) refl

  -- two operands
  abbrev Two : Type 0
  Two = write-term-lts.Else-k-ge-ZERO_EXTEND (write-term-claims t) (write-term-at t) write-term.Post

  two_is : (c : Two) → single c.kind_of-k.result ≡ false
  two_is c = rw (ne_eqb _ 16 c.if-k-eq-EXTRACT.false, lt-leb 18 _ c.if-k-ge-ZERO_EXTEND.false) refl

  rest-is : (c : Two) → let i = c in
      rest i.args.p.now.now i.args.n.0 i.kind_of-k.result ≡ between_text i.kind_of-k.result ++ (text i.args.p.now.now (right_of i.args.p.now.now i.args.n.0) ++ bytes ")")
  rest-is c = rw (two_is c)

  two-room : (c : Two) → let i = c in
      Room c.write_term-j.new.buf.now c.write_term-j.result
      (between_text i.kind_of-k.result ++ (text i.args.p.now.now (right_of i.args.p.now.now i.args.n.0) ++ bytes ")"))
  two-room c = room_as (rest-is c) (left-room c.before.before)

  -- what comes between them is written
  abbrev Signed : Type 0
  Signed = write-term-lts.After-put_between-l (write-term-claims t) (write-term-at t) write-term.Post

  sign-room : (c : Signed) → let s = c in
      Room c.put_between-l.new.buf c.put_between-l.result (text s.args.p.now.now (right_of s.args.p.now.now s.args.n.0) ++ bytes ")")
  sign-room c = room-step c.put_between-l.ensures (two-room c.before.before)

  -- the right operand is written
  abbrev Righted : Type 0
  Righted = write-term-lts.After-write_term-m (write-term-claims t) (write-term-at t) write-term.Post

  right-wrote : (c : Righted) → let g = c in
      let l = c in
      let s = c in
      WroteBehind (at_last l.write_term-j.new.buf g.put_between-l.new.buf) g.put_between-l.result (text s.args.p.now.now (right_of s.args.p.now.now s.args.n.0))
      c.write_term-m.result c.write_term-m.new.buf
  right-wrote c = rw c.right.ensures at c.write_term-m.ensures

  right-room : (c : Righted) → Room c.write_term-m.new.buf.now c.write_term-m.result (bytes ")")
  right-room c = room-step (right-wrote c).wrote (sign-room c.before.before.before.before)

  -- ---- the needs

  pub kind-of-requires : write-term-lts.Need-kind_of-k-requires (write-term-claims t) (write-term-at t) write-term.Post
  kind-of-requires c κs = c.requires.1.0.0.inside

  pub slice-aggregate-put-leaf : write-term-lts.Need-slice_bounds-put_leaf-end (write-term-claims t) (write-term-at t) write-term.Post
  slice-aggregate-put-leaf c = refl

  pub put-leaf-requires : write-term-lts.Need-put_leaf-requires (write-term-claims t) (write-term-at t) write-term.Post
  put-leaf-requires c κs =
      let l = c in
      let s = c in
      ((s.requires.1.0.0, l.kind_of-k.ensures, l.if-k-lt-ADD.true), s.requires.1.1)

  pub returns : write-term-lts.Need-returns-then-k-lt-ADD (write-term-claims t) (write-term-at t) write-term.Post
  returns c = behind-one _ c.put_leaf.ensures

  pub slice-aggregate-put-open : write-term-lts.Need-slice_bounds-put_open-end (write-term-claims t) (write-term-at t) write-term.Post
  slice-aggregate-put-open c = refl

  pub put-open-requires : write-term-lts.Need-put_open-i-requires (write-term-claims t) (write-term-at t) write-term.Post
  put-open-requires c κs =
      let i = c in
      let s = c in
      (i.if-k-lt-ADD.false, to-nineteen s.args.p.now.now s.args.n.0 s.requires.1.0.0 i.kind_of-k.result i.kind_of-k.ensures, room_open s.args.p.now.now s.args.n.0 i.kind_of-k.result (room-front _ (text-room c.before)))

  pub first-requires : write-term-lts.Need-first-requires (write-term-claims t) (write-term-at t) write-term.Post
  first-requires c κs = c.requires.1.0.0.inside

  -- an Ite's condition, in the space after what comes before it
  condition-room : (c : write-term-lts.Then-k-eq-ITE (write-term-claims t) (write-term-at t) write-term.Post) → let o = c in
      let s = c in
      Room o.put_open-i.new.buf o.put_open-i.result (text s.args.p.now.now (op_a s.args.p.now.now s.args.n.0) ++ bytes ", ")
  condition-room c =
      let i = c in
      room-step c.put_open-i.ensures (room_as (front-choice i.args.p.now.now i.args.n.0 i.kind_of-k.result c.if-k-eq-ITE.true) (room-front _ (text-room c.before.before.before)))

  pub write-condition-requires : write-term-lts.Need-write_condition-j-requires (write-term-claims t) (write-term-at t) write-term.Post
  write-condition-requires c κs =
      let f = c in
      let h = c in
      let i = c in
      let s = c in
      let d = ite-a s.args.p.now.now s.args.n.0 s.requires.1.0.0 i.kind_of-k.result i.kind_of-k.ensures h.if-k-eq-ITE.true in
      rw f.first.ensures (omega (arith, s.requires.0, d.before), ((d.ready, d.flat), room-front _ (condition-room c.before.before.before)))

  pub slice-aggregate-put : write-term-lts.Need-slice_bounds-put-end-then-k-eq-ITE (write-term-claims t) (write-term-at t) write-term.Post
  slice-aggregate-put c = refl

  pub put-requires : write-term-lts.Need-put-i-requires (write-term-claims t) (write-term-at t) write-term.Post
  put-requires c κs =
      let w = c in
      let f = c in
      room-step (rw f.first.ensures at w.write_condition-j.ensures).wrote (condition-room c.before.before.before.before.before.before.before)

  pub left-requires : write-term-lts.Need-left-requires (write-term-claims t) (write-term-at t) write-term.Post
  left-requires c κs = c.requires.1.0.0.inside

  pub write-term-requires : write-term-lts.Need-write_term-j-requires (write-term-claims t) (write-term-at t) write-term.Post
  write-term-requires c κs =
      let l = c in
      let f = c in
      let i = c in
      let s = c in
      let d = left-term s.args.p.now.now s.args.n.0 s.requires.1.0.0 i.kind_of-k.result i.kind_of-k.ensures i.if-k-lt-ADD.false in
      rw l.left.ensures (omega (arith, s.requires.0, d.before), ((d.ready, d.wide), room-front _ (front-room c.before.before.before)))

  pub slice-aggregate-put-end : write-term-lts.Need-slice_bounds-put_end-end (write-term-claims t) (write-term-at t) write-term.Post
  slice-aggregate-put-end c = refl

  pub put-end-requires : write-term-lts.Need-put_end-requires (write-term-claims t) (write-term-at t) write-term.Post
  put-end-requires c κs =
      let r = c in
      let i = c in
      ((i.requires.1.0.0, i.kind_of-k.ensures, range-is c.before.before), room_as (end_is c.before.before.before.before.before.before.before.before.before.before (range-is c.before.before)) (left-room c.before.before.before))

  pub returns-2 : write-term-lts.Need-returns-then-k-eq-EXTRACT (write-term-claims t) (write-term-at t) write-term.Post
  returns-2 c =
      let r = c in
      text-wrote r.before.before.before.before (behind-as (end_is c.before.before.before.before.before.before.before.before.before.before.before (range-is c.before.before.before)) (behind-one _ c.put_end.ensures))

  pub slice-aggregate-put-end-2 : write-term-lts.Need-slice_bounds-put_end-end-then-k-ge-ZERO_EXTEND (write-term-claims t) (write-term-at t) write-term.Post
  slice-aggregate-put-end-2 c = refl

  pub put-end-requires-2 : write-term-lts.Need-put_end-requires-then-k-ge-ZERO_EXTEND (write-term-claims t) (write-term-at t) write-term.Post
  put-end-requires-2 c κs =
      let e = c in
      let i = c in
      ((i.requires.1.0.0, i.kind_of-k.ensures, extension-is c.before.before), room_as (end_is c.before.before.before.before.before.before.before.before.before.before.before (extension-is c.before.before)) (left-room c.before.before.before.before))

  pub returns-3 : write-term-lts.Need-returns-then-k-ge-ZERO_EXTEND (write-term-claims t) (write-term-at t) write-term.Post
  returns-3 c =
      let e = c in
      text-wrote e.before.before.before.before.before (behind-as (end_is c.before.before.before.before.before.before.before.before.before.before.before.before (extension-is c.before.before.before)) (behind-one _ c.put_end-then-k-ge-ZERO_EXTEND.ensures))

  pub slice-aggregate-put-between : write-term-lts.Need-slice_bounds-put_between-end (write-term-claims t) (write-term-at t) write-term.Post
  slice-aggregate-put-between c = refl

  pub put-between-requires : write-term-lts.Need-put_between-l-requires (write-term-claims t) (write-term-at t) write-term.Post
  put-between-requires c κs =
      let e = c in
      let i = c in
      let s = c in
      (a-joined s.args.p.now.now s.args.n.0 s.requires.1.0.0 i.kind_of-k.result i.kind_of-k.ensures i.if-k-lt-ADD.false (two_is c.before), room-front _ (two-room c.before))

  pub right-requires : write-term-lts.Need-right-requires (write-term-claims t) (write-term-at t) write-term.Post
  right-requires c κs = c.requires.1.0.0.inside

  pub write-term-requires-2 : write-term-lts.Need-write_term-m-requires (write-term-claims t) (write-term-at t) write-term.Post
  write-term-requires-2 c κs =
      let r = c in
      let g = c in
      let i = c in
      let s = c in
      let d = right-term s.args.p.now.now s.args.n.0 s.requires.1.0.0 i.kind_of-k.result i.kind_of-k.ensures i.if-k-lt-ADD.false (two_is c.before.before.before.before.before) in
      rw r.right.ensures (omega (arith, s.requires.0, d.before), ((d.ready, d.wide), room-front _ (sign-room c.before.before.before)))

  pub slice-aggregate-put-2 : write-term-lts.Need-slice_bounds-put-end-3 (write-term-claims t) (write-term-at t) write-term.Post
  slice-aggregate-put-2 c = refl

  pub put-requires-2 : write-term-lts.Need-put-requires (write-term-claims t) (write-term-at t) write-term.Post
  put-requires-2 c κs = right-room c.before.before.before

  pub returns-4 : write-term-lts.Need-returns (write-term-claims t) (write-term-at t) write-term.Post
  returns-4 c =
      let w = c in
      let g = c in
      text-wrote g.before.before.before.before.before.before.before.before.before.before.before.before (behind-as (rest-is c.before.before.before.before.before.before.before.before.before.before) (behind-then _ g.put_between-l.ensures (behind_more (right-wrote c.before.before.before.before) (behind-one _ c.put.ensures))))
