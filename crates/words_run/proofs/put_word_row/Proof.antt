-- `words_run::put_word_row` meets its contract.
use mathlib.Core.Bool.{true, false}
use mathlib.Core.Path.{◌≡◌, sym, ◌∙◌}
use native.Mathlib.Omega.{arith}
use borrow.Author.Rules.{rules}
use borrow.Author.Tests.{not-true, not-false}
use Rattle.text_digits.proofs.Laws.{wrote_then, wrote_none}
use Rattle.words_encoding.specs.Decode.{decode}
use Rattle.words_lists.specs.Words.{is_record}
use Rattle.words_run.proofs.put_word_row.Statement.{statement}
use Rattle.words_run.proofs.put_word_row.Tie as tie

foreign : (c : tie.Then-not-is_record) → is_record (decode c.args.w) ≡ false
foreign c = let r = c.is_record in sym r.ensures ∙ not-true r.result c.if-not-is_record.true-raw

legal : (c : tie.Else-not-is_record) → is_record (decode c.args.w) ≡ true
legal c = let r = c.is_record in sym r.ensures ∙ not-false r.result c.if-not-is_record.false-raw

is-record-requires : tie.Need-is_record-requires
is-record-requires c κs = search rules

put-name-requires : tie.Need-put_name-a-requires
put-name-requires c κs = search rules

put-foreign-requires : tie.Need-put_foreign-requires
put-foreign-requires c κs = search rules

same_length : tie.Need-shape_of-out-then-not-is_record
same_length c = search rules

returns : tie.Need-returns-then-not-is_record
returns c =
    let f = c in
    let n = c in
    let t = c in
    (rw (foreign c.before.before.before.before.before.before.before.before) (wrote_then n.put_name-a.ensures.0 f.put_foreign.ensures.0), omega (arith, n.put_name-a.ensures.1, f.put_foreign.ensures.1))

returns-2 : tie.Need-returns-then-refusals
returns-2 c =
    let a = c.args in
    (rw (legal c.before, c.if-refusals.true) (wrote_none a.out.now a.at), omega arith)

list-word-requires : tie.Need-list_word-requires
list-word-requires c κs = search rules

same-length-2 : tie.Need-shape_of-out
same-length-2 c = search rules

returns-3 : tie.Need-returns
returns-3 c =
    let l = c in
    let e = c in
    (rw (legal c.before.before.before.before.before, e.if-refusals.false) l.list_word.ensures.0, omega (arith, l.list_word.ensures.1))

pub put_word_row_spec : {M : Type 1} → statement M
put_word_row_spec =
    tie.close
    (tie.spec
    is-record-requires
    put-name-requires
    put-foreign-requires
    same_length
    returns
    returns-2
    list-word-requires
    same-length-2
    returns-3)
