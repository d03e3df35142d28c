-- `words_run::put_name` meets its contract: a position has at most 20 digits.
use mathlib.Core.Path.{◌≡◌}
use native.Mathlib.Omega.{arith}
use Prim.Native.Nat.{◌+◌, ◌≤◌}
use lib.ListN.{length}
use Rattle.text_digits.proofs.Laws.{wrote_then, wrote-length}
use Rattle.words_run.proofs.Texts.{word-short}
use borrow.Author.Rules.{rules}
use Rattle.words_run.proofs.put_name.Statement.{statement}
use Rattle.words_run.proofs.put_name.Tie as tie

-- ---- places, and how far the text has come there, in a buffer of the same length

from_front : (c : tie.After-put-a) → let a = c.args in (c.put-a.result ≡ a.at + 12) × (length c.put-a.new.buf ≡ length a.out.now)
from_front c = let w = c.put-a.ensures in (omega (arith, w.next_is), wrote-length w)

from-middle : (c : tie.After-put_decimal-b) → let a = c.args in
    (c.put_decimal-b.result ≤ a.at + 32) × (length c.put_decimal-b.new.buf ≡ length a.out.now)
from-middle c =
    let w = c.put_decimal-b.ensures in
    let f = from_front c.before.before.before.before in
    let s = c in
    (omega (arith, f.0, w.next_is, word-short s.args.j (omega arith)), omega (arith, f.1, wrote-length w))

-- ---- needs

put-requires : tie.Need-put-a-requires
put-requires c κs = search rules

put-decimal-requires : tie.Need-put_decimal-b-requires
put-decimal-requires c κs =
    let b = c in
    let f = from_front c.before.before.before in
    let s = c in
    record { room = omega (arith, f.0, f.1, s.requires, word-short s.args.j (omega arith)) }

put-requires-2 : tie.Need-put-requires
put-requires-2 c κs =
    let d = c in
    let f = from-middle c.before.before.before.before.before in
    record { room = omega (arith, f.0, f.1, d.requires) }

same_length : tie.Need-shape_of-out
same_length c = search rules

returns : tie.Need-returns
returns c =
    let e = c in
    let d = c in
    let b = c in
    (wrote_then b.put-a.ensures (wrote_then d.put_decimal-b.ensures e.put.ensures), omega (arith, (from-middle c.before.before.before.before.before.before.before.before).0, e.put.ensures.next_is))

pub put_name_spec : {M : Type 1} → statement M
put_name_spec =
    tie.close
    (tie.spec
    put-requires
    put-decimal-requires
    put-requires-2
    same_length
    returns)
