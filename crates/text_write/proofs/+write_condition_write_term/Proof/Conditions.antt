-- What `write_condition` needs. Assumes nothing.
use mathlib.Core.List.{List, ◌++◌}
use mathlib.Core.Path.{◌≡◌, refl}
use Prim.Native.Nat.{ℕ}
use native.Mathlib.Omega.{arith}
use denote.Ref.{at_last}
use Rattle.terms.specs.Display.{bytes}
use Rattle.pool.specs.Node.{kind_number}
use Rattle.pool_fields.specs.Fields.{op_a, op_b}
use Rattle.text_digits.specs.Writing.{Room, Wrote}
use Rattle.text_digits.proofs.Laws.{room-front, room-step, room_as}
use Rattle.text_operators.specs.Between.{between_text}
use Rattle.text_parts.specs.Text.{text}
use Rattle.text_parts.proofs.Operands.{Pair, pair-a, pair-b}
use Rattle.text_parts.proofs.Tree.{a-compare, whole-compare}
use Rattle.text_write.specs.Behind.{WroteBehind}
use Rattle.text_write.proofs.Behind.{behind-one, behind-then, behind_more, behind-as}
use Rattle.text_parts.proofs.Pieces.{pair-joined}
use Rattle.text_write.proofs.write_condition.Reads as write-condition
use Rattle.text_write.proofs.+write_condition_write_term.Lts-write_condition as write-condition-lts
use Rattle.text_write.proofs.+write_condition_write_term.Proof.Writers.{write-condition-at, write-condition-claims}

-- what comes after the left operand, and after the operator
abbrev after-right : List ℕ → ℕ → List ℕ
after-right ws n = text ws (op_b ws n) ++ bytes ")"

abbrev after-left : List ℕ → ℕ → List ℕ
after-left ws n = between_text (kind_number ws n) ++ after-right ws n

module _ (t : ℕ) where
  abbrev Start : Type 0
  Start = write-condition-lts.Start (write-condition-claims t) (write-condition-at t) write-condition.Post

  abbrev Opened : Type 0
  Opened = write-condition-lts.After-put-i (write-condition-claims t) (write-condition-at t) write-condition.Post

  pair : (s : Start) → Pair (kind_number s.args.p.now.now s.args.n.0)
  pair s = a-compare s.args.p.now.now s.args.n.0 s.requires.1.0.0 _ refl s.requires.1.0.1

  whole : (s : Start) → text s.args.p.now.now s.args.n.0 ≡ bytes "(" ++ (text s.args.p.now.now (op_a s.args.p.now.now s.args.n.0) ++ after-left s.args.p.now.now s.args.n.0)
  whole s = whole-compare s.args.p.now.now s.args.n.0 s.requires.1.0.0 _ refl s.requires.1.0.1

  opened-room : (c : Opened) → let s = c in
      Room c.put-i.new.buf c.put-i.result (text s.args.p.now.now (op_a s.args.p.now.now s.args.n.0) ++ after-left s.args.p.now.now s.args.n.0)
  opened-room c = room-step c.put-i.ensures (room_as (whole c.before.before.before.before) c.requires.1.1)

  -- the left operand is written
  abbrev Lefted : Type 0
  Lefted = write-condition-lts.After-write_term-j (write-condition-claims t) (write-condition-at t) write-condition.Post

  left-wrote : (c : Lefted) → let o = c in
      let s = c in
      WroteBehind (at_last s.args.buf.now o.put-i.new.buf) o.put-i.result (text s.args.p.now.now (op_a s.args.p.now.now s.args.n.0)) c.write_term-j.result c.write_term-j.new.buf
  left-wrote c = rw c.first.ensures at c.write_term-j.ensures

  left-room : (c : Lefted) → let s = c in Room c.write_term-j.new.buf.now c.write_term-j.result (after-left s.args.p.now.now s.args.n.0)
  left-room c = room-step (left-wrote c).wrote (opened-room c.before.before.before.before)

  -- the operator is written
  abbrev Signed : Type 0
  Signed = write-condition-lts.After-put_between-l (write-condition-claims t) (write-condition-at t) write-condition.Post

  sign-wrote : (c : Signed) → let l = c in
      let s = c in
      Wrote l.write_term-j.new.buf.now l.write_term-j.result (between_text (kind_number s.args.p.now.now s.args.n.0)) c.put_between-l.result c.put_between-l.new.buf
  sign-wrote c = rw c.kind_of.ensures at c.put_between-l.ensures

  sign-room : (c : Signed) → let s = c in Room c.put_between-l.new.buf c.put_between-l.result (after-right s.args.p.now.now s.args.n.0)
  sign-room c = room-step (sign-wrote c) (left-room c.before.before.before.before)

  -- the right operand is written
  abbrev Righted : Type 0
  Righted = write-condition-lts.After-write_term-m (write-condition-claims t) (write-condition-at t) write-condition.Post

  right-wrote : (c : Righted) → let g = c in
      let l = c in
      let s = c in
      WroteBehind (at_last l.write_term-j.new.buf g.put_between-l.new.buf) g.put_between-l.result (text s.args.p.now.now (op_b s.args.p.now.now s.args.n.0)) c.write_term-m.result
      c.write_term-m.new.buf
  right-wrote c = rw c.second.ensures at c.write_term-m.ensures

  right-room : (c : Righted) → Room c.write_term-m.new.buf.now c.write_term-m.result (bytes ")")
  right-room c = room-step (right-wrote c).wrote (sign-room c.before.before.before.before)

  -- ---- the needs

  pub slice-aggregate-put : write-condition-lts.Need-slice_bounds-put-end-2 (write-condition-claims t) (write-condition-at t) write-condition.Post
  slice-aggregate-put c = refl

  pub put-requires : write-condition-lts.Need-put-i-requires (write-condition-claims t) (write-condition-at t) write-condition.Post
  put-requires c κs = let s = c in room-front _ (room_as (whole s.before.before.before) s.requires.1.1)

  pub first-requires : write-condition-lts.Need-first-requires (write-condition-claims t) (write-condition-at t) write-condition.Post
  first-requires c κs = c.requires.1.0.0.inside

  pub write-term-requires : write-condition-lts.Need-write_term-j-requires (write-condition-claims t) (write-condition-at t) write-condition.Post
  write-term-requires c κs =
      let f = c in
      let o = c in
      let s = c in
      let d = pair-a s.args.p.now.now s.args.n.0 s.requires.1.0.0 _ refl (pair s.before.before.before.before.before.before.before) in
      rw f.first.ensures (omega (arith, s.requires.0, d.before), ((d.ready, d.wide), room-front _ (opened-room c.before.before.before)))

  pub kind-of-requires : write-condition-lts.Need-kind_of-requires (write-condition-claims t) (write-condition-at t) write-condition.Post
  kind-of-requires c κs = c.requires.1.0.0.inside

  pub slice-aggregate-put-between : write-condition-lts.Need-slice_bounds-put_between-end (write-condition-claims t) (write-condition-at t) write-condition.Post
  slice-aggregate-put-between c = refl

  pub put-between-requires : write-condition-lts.Need-put_between-l-requires (write-condition-claims t) (write-condition-at t) write-condition.Post
  put-between-requires c κs =
      let k = c in
      let l = c in
      rw k.kind_of.ensures (pair-joined (pair l.before.before.before.before.before.before.before.before.before.before.before), room-front _ (left-room l.before.before.before))

  pub second-requires : write-condition-lts.Need-second-requires (write-condition-claims t) (write-condition-at t) write-condition.Post
  second-requires c κs = c.requires.1.0.0.inside

  pub write-term-requires-2 : write-condition-lts.Need-write_term-m-requires (write-condition-claims t) (write-condition-at t) write-condition.Post
  write-term-requires-2 c κs =
      let r = c in
      let g = c in
      let s = c in
      let d = pair-b s.args.p.now.now s.args.n.0 s.requires.1.0.0 _ refl (pair s.before.before.before.before.before.before.before.before.before.before.before.before.before.before.before) in
      rw r.second.ensures (omega (arith, s.requires.0, d.before), ((d.ready, d.wide), room-front _ (sign-room g.before.before.before)))

  pub slice-aggregate-put-2 : write-condition-lts.Need-slice_bounds-put-end-4 (write-condition-claims t) (write-condition-at t) write-condition.Post
  slice-aggregate-put-2 c = refl

  pub put-requires-2 : write-condition-lts.Need-put-requires (write-condition-claims t) (write-condition-at t) write-condition.Post
  put-requires-2 c κs = right-room c.before.before.before

  pub returns : write-condition-lts.Need-returns (write-condition-claims t) (write-condition-at t) write-condition.Post
  returns c =
      let r = c in
      let g = c in
      let l = c in
      let o = c in
      behind-as (whole o.before.before.before.before.before.before.before.before.before.before.before.before.before.before.before.before.before.before.before.before)
      (behind-then _ o.put-i.ensures (behind_more (left-wrote l.before.before.before.before.before.before.before.before.before.before.before.before) (behind-then _ (sign-wrote g.before.before.before.before.before.before.before.before) (behind_more (right-wrote r.before.before.before.before) (behind-one _ c.put.ensures)))))
