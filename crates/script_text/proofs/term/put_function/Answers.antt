-- `put_function` writes the function of each kind from 3 on: the bytes of each arm are the name of that kind's function.
use Rattle.std.proofs.Common.{◌≡◌, ℕ, ap, arith}
use Rattle.text_digits.proofs.Laws.{room_as, wrote_as}
use Rattle.pool.specs.Node.{kind_at, kinds}
use Rattle.script_meaning.specs.Script.{function_of}
use Rattle.script_text.proofs.Spelling.{last-kind}
use Rattle.script_text.proofs.term.put_function.Goals as goal

-- the name that is due, by a kind's number
named : {k : ℕ} (y : ℕ) → k ≡ y → function_of (kind_at k) ≡ function_of (kind_at y)
named y e = ap (λ (k : ℕ). function_of (kind_at k)) e

-- each arm's key is the kind whose function is due

pub put-requires : goal.put-requires
unfolding kind_at kinds
put-requires c = room_as (named 3 c.in-3.is) c.requires.room

pub returns-in-3 : goal.returns-in-3
unfolding kind_at kinds
returns-in-3 c = wrote_as (named 3 c.in-3.is) c.put.ensures

pub put-requires-in-4 : goal.put-requires-in-4
unfolding kind_at kinds
put-requires-in-4 c = room_as (named 4 c.in-4.is) c.requires.room

pub returns-in-4 : goal.returns-in-4
unfolding kind_at kinds
returns-in-4 c = wrote_as (named 4 c.in-4.is) c.put-in-4.ensures

pub put-requires-in-5 : goal.put-requires-in-5
unfolding kind_at kinds
put-requires-in-5 c = room_as (named 5 c.in-5.is) c.requires.room

pub returns-in-5 : goal.returns-in-5
unfolding kind_at kinds
returns-in-5 c = wrote_as (named 5 c.in-5.is) c.put-in-5.ensures

pub put-requires-in-6 : goal.put-requires-in-6
unfolding kind_at kinds
put-requires-in-6 c = room_as (named 6 c.in-6.is) c.requires.room

pub returns-in-6 : goal.returns-in-6
unfolding kind_at kinds
returns-in-6 c = wrote_as (named 6 c.in-6.is) c.put-in-6.ensures

pub put-requires-in-7 : goal.put-requires-in-7
unfolding kind_at kinds
put-requires-in-7 c = room_as (named 7 c.in-7.is) c.requires.room

pub returns-in-7 : goal.returns-in-7
unfolding kind_at kinds
returns-in-7 c = wrote_as (named 7 c.in-7.is) c.put-in-7.ensures

pub put-requires-in-8 : goal.put-requires-in-8
unfolding kind_at kinds
put-requires-in-8 c = room_as (named 8 c.in-8.is) c.requires.room

pub returns-in-8 : goal.returns-in-8
unfolding kind_at kinds
returns-in-8 c = wrote_as (named 8 c.in-8.is) c.put-in-8.ensures

pub put-requires-in-9 : goal.put-requires-in-9
unfolding kind_at kinds
put-requires-in-9 c = room_as (named 9 c.in-9.is) c.requires.room

pub returns-in-9 : goal.returns-in-9
unfolding kind_at kinds
returns-in-9 c = wrote_as (named 9 c.in-9.is) c.put-in-9.ensures

pub put-requires-in-10 : goal.put-requires-in-10
unfolding kind_at kinds
put-requires-in-10 c = room_as (named 10 c.in-10.is) c.requires.room

pub returns-in-10 : goal.returns-in-10
unfolding kind_at kinds
returns-in-10 c = wrote_as (named 10 c.in-10.is) c.put-in-10.ensures

pub put-requires-in-11 : goal.put-requires-in-11
unfolding kind_at kinds
put-requires-in-11 c = room_as (named 11 c.in-11.is) c.requires.room

pub returns-in-11 : goal.returns-in-11
unfolding kind_at kinds
returns-in-11 c = wrote_as (named 11 c.in-11.is) c.put-in-11.ensures

pub put-requires-in-12 : goal.put-requires-in-12
unfolding kind_at kinds
put-requires-in-12 c = room_as (named 12 c.in-12.is) c.requires.room

pub returns-in-12 : goal.returns-in-12
unfolding kind_at kinds
returns-in-12 c = wrote_as (named 12 c.in-12.is) c.put-in-12.ensures

pub put-requires-in-13 : goal.put-requires-in-13
unfolding kind_at kinds
put-requires-in-13 c = room_as (named 13 c.in-13.is) c.requires.room

pub returns-in-13 : goal.returns-in-13
unfolding kind_at kinds
returns-in-13 c = wrote_as (named 13 c.in-13.is) c.put-in-13.ensures

pub put-requires-in-14 : goal.put-requires-in-14
unfolding kind_at kinds
put-requires-in-14 c = room_as (named 14 c.in-14.is) c.requires.room

pub returns-in-14 : goal.returns-in-14
unfolding kind_at kinds
returns-in-14 c = wrote_as (named 14 c.in-14.is) c.put-in-14.ensures

pub put-requires-in-15 : goal.put-requires-in-15
unfolding kind_at kinds
put-requires-in-15 c = room_as (named 15 c.in-15.is) c.requires.room

pub returns-in-15 : goal.returns-in-15
unfolding kind_at kinds
returns-in-15 c = wrote_as (named 15 c.in-15.is) c.put-in-15.ensures

pub put-requires-in-16 : goal.put-requires-in-16
unfolding kind_at kinds
put-requires-in-16 c = room_as (named 16 c.in-16.is) c.requires.room

pub returns-in-16 : goal.returns-in-16
unfolding kind_at kinds
returns-in-16 c = wrote_as (named 16 c.in-16.is) c.put-in-16.ensures

pub put-requires-in-17 : goal.put-requires-in-17
unfolding kind_at kinds
put-requires-in-17 c = room_as (named 17 c.in-17.is) c.requires.room

pub returns-in-17 : goal.returns-in-17
unfolding kind_at kinds
returns-in-17 c = wrote_as (named 17 c.in-17.is) c.put-in-17.ensures

pub put-requires-in-18 : goal.put-requires-in-18
unfolding kind_at kinds
put-requires-in-18 c = room_as (named 18 c.in-18.is) c.requires.room

pub returns-in-18 : goal.returns-in-18
unfolding kind_at kinds
returns-in-18 c = wrote_as (named 18 c.in-18.is) c.put-in-18.ensures

-- past the arms of 3 to 18 it is 19

pub put-requires-in_default : goal.put-requires-in_default
unfolding kind_at kinds
put-requires-in_default c = room_as (named 19 (last-kind c.args.k (omega arith) c.requires.le_k.1)) c.requires.room

pub returns-in_default : goal.returns-in_default
unfolding kind_at kinds
returns-in_default c = wrote_as (named 19 (last-kind c.args.k (omega arith) c.requires.le_k.1)) c.put-in_default.ensures
