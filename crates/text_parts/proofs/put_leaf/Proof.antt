-- `put_leaf` meets its contract: the text of a Var or of a Const.
use mathlib.Core.Path.{◌≡◌, refl}
use Prim.Native.Nat.{ℕ}
use Rattle.terms.specs.Expr.{Var, Const}
use Rattle.terms.specs.Display.{display}
use Rattle.pool.specs.Node.{wide, width_at}
use Rattle.text_digits.proofs.Laws.{room-front, room-step, room_as, wrote_then, wrote_as}
use Rattle.text_parts.specs.Text.{text}
use Rattle.text_parts.proofs.Operands.{is-const}
use Rattle.text_parts.proofs.Tree.{whole-var, whole-const}
use borrow.Author.Rules.{rules}
use Rattle.text_parts.proofs.put_leaf.Statement.{statement}
use Rattle.text_parts.proofs.put_leaf.Tie as tie

-- a Var, whose number is read
var-is : (c : tie.After-low) → let a = c.args in text a.p.now a.n.0 ≡ display (Var c.low.result)
var-is c =
    let s = c in
    whole-var s.args.p.now s.args.n.0 s.requires.0.0 s.args.k s.requires.0.1 c.if-k-eq-VAR.true c.low.ensures

-- a Const, whose words are read
const-is : (c : tie.After-high) {w : ℕ} → let a = c.args in
    w ≡ width_at a.p.now a.n.0 → text a.p.now a.n.0 ≡ display (Const (wide c.low-2.result c.high.result) w)
const-is c e =
    let l = c in
    let s = c in
    let a = s.args in
    let const = is-const a.p.now a.n.0 s.requires.0.0 a.k s.requires.0.1 s.requires.0.2 l.if-k-eq-VAR.false in
    whole-const a.p.now a.n.0 s.requires.0.0 a.k s.requires.0.1 const l.low-2.ensures c.high.ensures e

low-requires : tie.Need-low-requires
low-requires c κs = search rules

put-numbered-requires : tie.Need-put_numbered-requires
unfolding display
put-numbered-requires c κs = let l = c in room_as (var-is c.before) l.requires.1

same_length : tie.Need-shape_of-buf-then-k-eq-VAR
same_length c = search rules

returns : tie.Need-returns-then-k-eq-VAR
unfolding display
returns c = let p = c in wrote_as (var-is c.before.before.before.before) p.put_numbered.ensures

low-requires-2 : tie.Need-low-requires-2
low-requires-2 c κs = search rules

high-requires : tie.Need-high-requires
high-requires c κs = search rules

put-value-requires : tie.Need-put_value-i-requires
unfolding display
put-value-requires c κs = let h = c in room-front _ (room_as (const-is h.before refl) h.requires.1)

width-of-requires : tie.Need-width_of-requires
width-of-requires c κs = search rules

put-numbered-requires-2 : tie.Need-put_numbered-requires-2
unfolding display
put-numbered-requires-2 c κs =
    let w = c in
    let h = c in
    room-step w.put_value-i.ensures (room_as (const-is h.before.before.before.before.before.before w.width_of.ensures.0) h.requires.1)

same-length-2 : tie.Need-shape_of-buf
same-length-2 c = search rules

returns-2 : tie.Need-returns
unfolding display
returns-2 c =
    let p = c in
    let w = c in
    wrote_as (const-is w.before.before.before.before.before.before.before.before.before w.width_of.ensures.0) (wrote_then w.put_value-i.ensures p.put_numbered-2.ensures)

pub put_leaf_spec : {M : Type 1} → statement M
put_leaf_spec =
    tie.close
    (tie.spec
    low-requires
    put-numbered-requires
    same_length
    returns
    low-requires-2
    high-requires
    put-value-requires
    width-of-requires
    put-numbered-requires-2
    same-length-2
    returns-2)
