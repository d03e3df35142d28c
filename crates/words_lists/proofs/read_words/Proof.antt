-- `words_lists::read_words` meets its contract: a bad word, a broken one, a short list, or all records.
use mathlib.Core.Path.{◌≡◌}
use Prim.Native.Nat.{◌*◌}
use native.Mathlib.Omega.{arith}
use lib.ListN.{length}
use Rattle.words_lists.specs.Words.{whole_words, records_in}
use Rattle.words_lists.proofs.Answers.{bad-word, broken-word, short-list, no-refusal, records-length, refused, written}
use borrow.Author.Rules.{rules}
use Rattle.words_lists.proofs.read_words.Statement.{statement}
use Rattle.words_lists.proofs.read_words.Tie as tie

-- ---- places: from where all words are good back to their count and to the entry; from where the list takes all of them

-- the records of the words, six numbers each
size : (e : tie.Else-good-count) → let bs = e.args.bytes.now in length (records_in bs) ≡ 6 * whole_words bs
size e =
    let w = e.good_words-good in
    records-length e.args.bytes.now w.result w.ensures e.if-good-count.false

-- ---- needs

good-words-requires : tie.Need-good_words-good-requires
good-words-requires c κs = search rules

returns : tie.Need-returns-then-good-count
returns c =
    let g = c in
    let a = g.args in
    let w = g.good_words-good in
    refused a.bytes.now a.records.now 11 w.result (bad-word a.bytes.now (length a.records.now) w.result w.ensures c.if-good-count.true)

returns-2 : tie.Need-returns-then-bytes-gt0
returns-2 c =
    let e = c in
    let a = e.args in
    let w = e.good_words-good in
    refused a.bytes.now a.records.now 11 _
    (broken-word a.bytes.now (length a.records.now) w.result w.ensures e.if-good-count.false c.if-bytes-gt0.true)

mul-if3 : tie.Need-overflow_mul-count
mul-if3 c = search rules

returns-3 : tie.Need-returns-then-records-count
returns-3 c =
    let e = c in
    let a = e.args in
    let w = e.good_words-good in
    refused a.bytes.now a.records.now 8 0
    (short-list a.bytes.now (length a.records.now) w.result w.ensures e.if-good-count.false (omega (arith, c.if-bytes-gt0.false)) c.if-records-count.true)

put-records-requires : tie.Need-put_records-requires
put-records-requires c κs =
    let t = c in
    record { room = omega (arith, size c.before.before.before, t.if-records-count.false) }

same_length : tie.Need-shape_of-records
same_length c = search rules

returns-4 : tie.Need-returns
returns-4 c =
    let p = c in
    let t = c in
    let e = c in
    let a = e.args in
    let w = e.good_words-good in
    written a.bytes.now
    (no-refusal a.bytes.now (length a.records.now) w.result w.ensures e.if-good-count.false (omega (arith, t.if-bytes-gt0.false)) t.if-records-count.false)
    (omega (arith, size c.before.before.before.before.before.before, t.if-records-count.false)) p.put_records.ensures

pub read_words_spec : {M : Type 1} → statement M
read_words_spec =
    tie.close
    (tie.spec
    good-words-requires
    returns
    returns-2
    mul-if3
    returns-3
    put-records-requires
    same_length
    returns-4)
