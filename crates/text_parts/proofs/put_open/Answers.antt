-- `put_open` writes what comes before the operands, by the kind.
use Rattle.std.proofs.Common.{◌≡◌, ℕ, ◌≤◌, ◌<◌, ap, arith}
use Rattle.pool.specs.Node.{kind_at, kinds}
use Rattle.text_parts.specs.Text.{open_text}
use Rattle.text_digits.proofs.Laws.{room_as, wrote_none, wrote_as}
use Rattle.text_parts.proofs.Tree.{bracket}
use Rattle.text_parts.proofs.put_open.Goals as goal

-- what is none of 3 to 18
signed : {k : ℕ} → 19 ≤ k → k < 20 → k ≡ 19
signed l h = omega arith

-- an operator

pub put-requires : goal.put-requires
put-requires c = room_as (bracket c.requires.0 c.if-k-lt-ITE.true) c.requires.2

pub returns-then-k-lt-ITE : goal.returns-then-k-lt-ITE
returns-then-k-lt-ITE c = wrote_as (bracket c.requires.0 c.if-k-lt-ITE.true) c.put.ensures

-- an Extract

pub returns-then-k-eq-EXTRACT : goal.returns-then-k-eq-EXTRACT
unfolding open_text kind_at kinds
returns-then-k-eq-EXTRACT c = rw c.if-k-eq-EXTRACT.true (wrote_none c.args.buf.now c.args.at)

-- what has a name: each arm's key is the kind whose text is due

pub put-requires-in-15 : goal.put-requires-in-15
unfolding open_text kind_at kinds
put-requires-in-15 c = room_as (ap open_text c.in-15.is) c.requires.2

pub returns-in-15 : goal.returns-in-15
unfolding open_text kind_at kinds
returns-in-15 c = wrote_as (ap open_text c.in-15.is) c.put-in-15.ensures

pub put-requires-in-17 : goal.put-requires-in-17
unfolding open_text kind_at kinds
put-requires-in-17 c = room_as (ap open_text c.in-17.is) c.requires.2

pub returns-in-17 : goal.returns-in-17
unfolding open_text kind_at kinds
returns-in-17 c = wrote_as (ap open_text c.in-17.is) c.put-in-17.ensures

pub put-requires-in-18 : goal.put-requires-in-18
unfolding open_text kind_at kinds
put-requires-in-18 c = room_as (ap open_text c.in-18.is) c.requires.2

pub returns-in-18 : goal.returns-in-18
unfolding open_text kind_at kinds
returns-in-18 c = wrote_as (ap open_text c.in-18.is) c.put-in-18.ensures

pub put-requires-in_default : goal.put-requires-in_default
unfolding open_text kind_at kinds
put-requires-in_default c = room_as (ap open_text (signed (omega arith) c.requires.1)) c.requires.2

pub returns-in_default : goal.returns-in_default
unfolding open_text kind_at kinds
returns-in_default c = wrote_as (ap open_text (signed (omega arith) c.requires.1)) c.put-in_default.ensures
