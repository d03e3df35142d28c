-- `words_lists::write_words` meets its contract: a bad record, too few bytes, or all words.
use Rattle.std.proofs.Common.{length, sym, arith}
use Rattle.facts.proofs.Answers.{code-positive}
use Rattle.words_lists.proofs.Answers.{words-length, all-good, short-bytes, all_fit, record-refused, bytes-refused, words-written}
use Rattle.words_lists.proofs.write_words.Goals as goal

pub returns-in-Err : goal.returns-in-Err
returns-in-Err c =
    let a = c.args in
    let r = c.in-Err.ensures in
    rw c.from.ensures (record-refused a.records.now a.bytes.now _ _ r.0 r.1 (omega (arith, code-positive c.in-Err.refused.refusal)))

pub returns-then-bytes-count : goal.returns-then-bytes-count
returns-then-bytes-count c =
    let a = c.args in
    bytes-refused a.records.now a.bytes.now (short-bytes a.records.now (length a.bytes.now) (sym c.in_default.ensures.0) c.if-bytes-count.true)

pub put_words-requires : goal.put_words-requires
put_words-requires c =
    let a = c.args in
    record {
      all_good = all-good a.records.now (sym c.in_default.ensures.0);
      room = record { room = omega (arith, words-length a.records.now, c.if-bytes-count.false) };
    }

pub returns : goal.returns
returns c =
    let a = c.args in
    words-written a.records.now
    (all_fit a.records.now (length a.bytes.now) (sym c.in_default.ensures.0) c.if-bytes-count.false)
    (omega (arith, words-length a.records.now, c.if-bytes-count.false)) c.put_words.ensures
