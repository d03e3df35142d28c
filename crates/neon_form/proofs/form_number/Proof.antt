-- form_number is `form_number`: 2, 3 and 4 by its tests in order, and 0 past them all
use native.Mathlib.Omega.{arith}
use mathlib.Core.Path.{◌≡◌, sym, ap, ◌∙◌}
use mathlib.Core.Bool.{true, cond, ◌&&◌}
use lib.Dec.{leb}
use Prim.Native.Nat.{ℕ}
use borrow.Author.Tests.{lt-leb, le-leb, leb-true}
use Rattle.neon.specs.Op.{Op, op_at, is_operation, Arrangement, arrangement_at, is_arrangement, bits_of_lane}
use Rattle.neon.specs.Form.{least, most, has_form, form_code, form_code_at}
use Rattle.neon.specs.Refusal.{form_number}
use Rattle.neon.proofs.Geometry.{sized}
use Rattle.neon_form.proofs.Parts.{without, with-form}
use borrow.Author.Rules.{rules}
use Rattle.neon_form.proofs.form_number.Statement.{statement}
use Rattle.neon_form.proofs.form_number.Tie as tie

-- ---- the places past each test, and what is known there

-- one of the 67 operations
abbrev op : tie.Else-operation-gt67 → Op
op c = op_at c.args.operation

abbrev arrangement : tie.Else-operation-gt67 → Arrangement
arrangement c = arrangement_at c.args.arrangement

known : (c : tie.Else-operation-gt67) → is_operation c.args.operation ≡ true
known c = rw (le-leb 1 c.args.operation c.if-operation-lt1.false, le-leb c.args.operation 67 c.if-operation-gt67.false)

-- with a form of that arrangement
formed : (c : tie.Else-code-eq0) → let a = c.args in (is_arrangement a.arrangement ≡ true) × (has_form (op c.before.before) (arrangement c.before.before) ≡ true)
    × (form_code_at a.operation a.arrangement ≡ form_code (op c.before.before) (arrangement c.before.before))
formed c =
    let o = c in
    with-form _ _ o.if-operation-lt1.false o.if-operation-gt67.false (λ z. c.if-code-eq0.false (c.form_code-code.ensures ∙ z))

left : (c : tie.Else-code-eq0) → let a = c.args in
    form_number a.operation a.arrangement a.i 0
    ≡ cond (leb (least (op c.before.before)) a.i && leb a.i (most (op c.before.before) (bits_of_lane (arrangement c.before.before)))) 0 4
left c = rw (known c.before.before, (formed c).0, (formed c).1)

-- the ends of its immediates
least-is : (c : tie.After-least_immediate) → c.least_immediate.result ≡ least (op c.before.before.before)
least-is c = let f = formed c.before in c.least_immediate.ensures _ _ f.1 (c.form_code-code.ensures ∙ f.2)

most-is : (c : tie.After-most_immediate) → let o = c in c.most_immediate.result ≡ most (op c.before.before.before.before.before.before) (bits_of_lane (arrangement c.before.before.before.before.before.before))
most-is c =
    let k = c in
    let f = formed c.before.before.before.before in
    c.most_immediate.ensures _ _ f.1 (k.form_code-code.ensures ∙ f.2) ∙ ap (λ (n : ℕ). most (op c.before.before.before.before.before.before) n) c.lane_bits.ensures

-- ---- the needs

returns : tie.Need-returns-then-operation-lt1
returns c = rw (lt-leb 1 c.args.operation c.if-operation-lt1.true)

returns-2 : tie.Need-returns-then-operation-gt67
returns-2 c =
    let n = c.args.operation in
    rw (le-leb 1 n c.if-operation-lt1.false, lt-leb n 67 c.if-operation-gt67.true)

form-code-requires : tie.Need-form_code-code-requires
form-code-requires c κs = search rules

returns-3 : tie.Need-returns-then-code-eq0
returns-3 c =
    let o = c in
    rw (known c.before.before, without _ _ o.if-operation-lt1.false o.if-operation-gt67.false (sym c.form_code-code.ensures ∙ c.if-code-eq0.true))

least-immediate-requires : tie.Need-least_immediate-requires
least-immediate-requires c κs = search rules

returns-4 : tie.Need-returns-then-i-least_immediate
returns-4 c =
    let o = c in
    rw (left c.before.before, lt-leb (least (op c.before.before.before.before)) o.args.i (omega (arith, c.if-i-least_immediate.true, least-is c.before)))

lane-bits-requires : tie.Need-lane_bits-requires
lane-bits-requires c κs = leb-true _ 6 (formed c.before.before).0

most-immediate-requires : tie.Need-most_immediate-requires
most-immediate-requires c κs =
    let w = sized (arrangement c.before.before.before.before.before) in
    (omega (arith, c.lane_bits.ensures, w.eight), omega (arith, c.lane_bits.ensures, w.most))

-- the immediate is not below its least: the last test decides
last : (c : tie.After-most_immediate) → let a = c.args in
    form_number a.operation a.arrangement a.i 0 ≡ cond (leb a.i c.most_immediate.result) 0 4
last c =
    let l = c in
    let o = c in
    let i = o.args.i in
    rw (left c.before.before.before.before, le-leb (least (op c.before.before.before.before.before.before)) i (omega (arith, c.if-i-least_immediate.false, least-is c.before.before.before))) (ap (λ (n : ℕ). cond (leb i n) 0 4) (sym (most-is c)))

returns-5 : tie.Need-returns-then-most_immediate-i
returns-5 c = rw (last c.before, lt-leb _ _ c.if-most_immediate-i.true)

returns-6 : tie.Need-returns
returns-6 c = rw (last c.before, le-leb _ _ c.if-most_immediate-i.false)

pub form_number_spec : {M : Type 1} → statement M
form_number_spec =
    tie.close
    (tie.spec
    returns
    returns-2
    form-code-requires
    returns-3
    least-immediate-requires
    returns-4
    lane-bits-requires
    most-immediate-requires
    returns-5
    returns-6)
