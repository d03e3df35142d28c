use mathlib.Core.Path.{◌≡◌, sym, ap, subst}
use Prim.Native.Nat.{ℕ, ◌/◌}
use native.Mathlib.Omega.{arith}
use lib.ListN.{length}
use Rattle.text_digits.specs.Writing.{Wrote}
use Rattle.text_digits.proofs.Laws.{wrote_as, room_as}
use Rattle.text_series.specs.Series.{up_to}
use Rattle.text_series.proofs.Texts.{room_next, wrote-next, wrote-first}
use Rattle.words_encoding.specs.Decode.{decode}
use Rattle.words_lists.specs.Words.{flat, records_in}
use Rattle.words_lists.proofs.put_records.Invariants.{rows}
use Rattle.words_lists.proofs.put_records.Goals as goal

pub loop-j-init : goal.loop-j-init
loop-j-init c = wrote-first (rows c.args.bytes.now) c.args.records.now 0

pub put_record-end-requires : goal.put_record-end-requires
unfolding records_in
put_record-end-requires c =
    let bs = c.args.bytes.now in
    room_as (ap (λ (x : ℕ). flat (decode x)) (sym c.word_at.ensures)) (room_next (rows bs) (length bs / 4) c.loop-j.j (omega arith) c.requires c.loop-j.invariant)

pub loop-j-preserved : goal.loop-j-preserved
loop-j-preserved c =
    wrote-next (rows c.args.bytes.now) c.loop-j.j c.loop-j.invariant (wrote_as (ap (λ (x : ℕ). flat (decode x)) (sym c.word_at.ensures)) c.put_record-end.ensures)

pub returns : goal.returns
unfolding records_in
returns c =
    let a = c.args in
    let e : c.loop-j.j ≡ length a.bytes.now / 4 = omega arith in
    subst (λ (j : ℕ). Wrote a.records.now 0 (up_to j (rows a.bytes.now)) c.loop-j.end c.loop-j.records) e c.loop-j.invariant
