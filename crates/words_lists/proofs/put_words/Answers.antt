use mathlib.Core.Path.{◌≡◌, sym, ap, ◌∙◌, subst}
use Prim.Native.Nat.{ℕ, ◌/◌, ◌<◌, ◌^◌}
use native.Mathlib.Omega.{arith}
use lib.ListN.{length}
use Rattle.text_digits.specs.Writing.{Wrote}
use Rattle.text_digits.proofs.Laws.{wrote_as}
use Rattle.block_record_check.specs.Record.{record_at}
use Rattle.text_series.specs.Series.{up_to}
use Rattle.text_series.proofs.Texts.{room_next, wrote-next, wrote-first}
use Rattle.words_encoding.specs.Word.{encode}
use Rattle.words_encoding.proofs.Back.{word_fits}
use Rattle.words_lists.specs.Words.{word_bytes, words_in}
use Rattle.words_lists.proofs.put_words.Invariants.{rows}
use Rattle.words_lists.proofs.put_words.Goals as goal

pub loop-j-init : goal.loop-j-init
loop-j-init c = wrote-first (rows c.args.records.now) c.args.bytes.now 0

pub overflow_cast-w : goal.overflow_cast-w
overflow_cast-w c =
    let fs = c.args.records.now in
    let fits : encode (record_at fs c.loop-j.j) < 2 ^ 32 = word_fits (record_at fs c.loop-j.j) (c.requires.all_good c.loop-j.j (omega arith)) in
    let is : c.encode_word-w.result ≡ encode (record_at fs c.loop-j.j) = c.encode_word-w.ensures ∙ ap encode c.record_at-c.ensures in
    omega (arith, fits, is)

pub put_word-end-requires : goal.put_word-end-requires
unfolding words_in
put_word-end-requires c =
    let fs = c.args.records.now in
    (room_next (rows fs) (length fs / 6) c.loop-j.j (omega arith) c.requires.room c.loop-j.invariant).room

pub loop-j-preserved : goal.loop-j-preserved
loop-j-preserved c =
    wrote-next (rows c.args.records.now) c.loop-j.j c.loop-j.invariant
    (wrote_as (ap word_bytes (sym (c.encode_word-w.ensures ∙ ap encode c.record_at-c.ensures))) c.put_word-end.ensures)

pub returns : goal.returns
unfolding words_in
returns c =
    let a = c.args in
    let e : c.loop-j.j ≡ length a.records.now / 6 = omega arith in
    subst (λ (j : ℕ). Wrote a.bytes.now 0 (up_to j (rows a.records.now)) c.loop-j.end c.loop-j.bytes) e c.loop-j.invariant
