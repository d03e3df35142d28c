-- `run_lines::put_line` meets its contract.
use mathlib.Core.Path.{◌≡◌, sym, ap}
use native.Mathlib.Omega.{arith}
use Prim.Native.Nat.{◌+◌, ◌≤◌}
use lib.ListN.{length}
use Rattle.text_digits.proofs.Laws.{wrote_then, wrote_as, wrote-length}
use Rattle.text_digits.proofs.Lengths.{register-short}
use Rattle.run_lines.proofs.Texts.{mark-length}
use Rattle.run_block.specs.Lanes.{number}
use Rattle.run_registers.proofs.Digits.{digits-length}
use Rattle.run_lines.specs.Output.{mark}
use borrow.Author.Rules.{rules}
use Rattle.run_lines.proofs.put_line.Statement.{statement}
use Rattle.run_lines.proofs.put_line.Tie as tie

-- ---- places, and how far the line has come there, in a buffer of the same length

from-digits : (c : tie.After-put_register-a) → let a = c.args in
    (c.put_register-a.result ≡ a.at + 32) × (length c.put_register-a.new.buf ≡ length a.buf.now)
from-digits c =
    let w = c.put_register-a.ensures in
    (omega (arith, w.next_is, digits-length 32 (number c.args.new)), wrote-length w)

from-blank : (c : tie.After-put-b) → let a = c.args in (c.put-b.result ≡ a.at + 34) × (length c.put-b.new.buf ≡ length a.buf.now)
from-blank c =
    let w = c.put-b.ensures in
    let f = from-digits c.before.before.before.before.before.before in
    (omega (arith, f.0, w.next_is), omega (arith, f.1, wrote-length w))

from-name : (c : tie.After-put_decimal-c) → let a = c.args in (c.put_decimal-c.result ≤ a.at + 36) × (length c.put_decimal-c.new.buf ≡ length a.buf.now)
from-name c =
    let w = c.put_decimal-c.ensures in
    let f = from-blank c.before.before.before.before in
    (omega (arith, f.0, w.next_is, register-short c.args.r c.requires.0), omega (arith, f.1, wrote-length w))

from-mark : (c : tie.After-put_mark-e) → let a = c.args in (c.put_mark-e.result ≤ a.at + 38) × (length c.put_mark-e.new.buf ≡ length a.buf.now)
from-mark c =
    let w = c.put_mark-e.ensures in
    let f = from-name c.before.before.before.before.before in
    (omega (arith, f.0, w.next_is, mark-length c.is_same.result), omega (arith, f.1, wrote-length w))

-- ---- needs

put-register-requires : tie.Need-put_register-a-requires
put-register-requires c κs = search rules

put-requires : tie.Need-put-b-requires
put-requires c κs =
    let d = c in
    let f = from-digits c.before.before.before.before.before in
    record { room = omega (arith, f.0, f.1, d.requires.1) }

put-decimal-requires : tie.Need-put_decimal-c-requires
put-decimal-requires c κs =
    let b = c in
    let s = c in
    let f = from-blank c.before.before.before in
    record { room = omega (arith, f.0, f.1, register-short s.args.r s.requires.0, s.requires.1) }

is-same-requires : tie.Need-is_same-requires
is-same-requires c κs = search rules

put-mark-requires : tie.Need-put_mark-e-requires
put-mark-requires c κs =
    let n = c in
    let f = from-name c.before.before.before.before in
    omega (arith, f.0, f.1, n.requires.1)

put-requires-2 : tie.Need-put-requires
put-requires-2 c κs =
    let m = c in
    let f = from-mark c.before.before.before.before.before in
    record { room = omega (arith, f.0, f.1, m.requires.1) }

same_length : tie.Need-shape_of-buf
same_length c = search rules

returns : tie.Need-returns
returns c =
    let e = c in
    let m = c in
    let n = c in
    let b = c in
    let marked = wrote_as (ap mark (sym m.is_same.ensures)) m.put_mark-e.ensures in (
      wrote_then b.put_register-a.ensures (wrote_then b.put-b.ensures (wrote_then n.put_decimal-c.ensures (wrote_then marked e.put.ensures))),
      omega (arith, (from-mark c.before.before.before.before.before.before.before.before).0, e.put.ensures.next_is),
    )

pub put_line_spec : {M : Type 1} → statement M
put_line_spec =
    tie.close
    (tie.spec
    put-register-requires
    put-requires
    put-decimal-requires
    is-same-requires
    put-mark-requires
    put-requires-2
    same_length
    returns)
