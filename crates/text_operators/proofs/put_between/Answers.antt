-- `put_between` writes each kind's operator, or the comma of an Ite or a Concat.
use Rattle.std.proofs.Common.{◌≡◌, ℕ, ◌≤◌, ap, arith}
use mathlib.Core.Logic.{⊎_elim}
use native.Mathlib.Nat.{eq-or-lt_of_le}
use Rattle.pool.specs.Node.{kind_at, kinds}
use Rattle.terms.specs.Display.{bytes}
use Rattle.text_digits.proofs.Laws.{room_as, wrote_as}
use Rattle.text_operators.specs.Between.{Joined, between_text}
use Rattle.text_operators.proofs.put_between.Goals as goal

-- what is none of 9 to 14 is an Ite or a Concat
a-comma : {k : ℕ} → Joined k → 15 ≤ k → between_text k ≡ bytes ", "
unfolding between_text kind_at kinds
a-comma {k} p l = ⊎_elim (λ e. rw (← e)) (λ h. let e : k ≡ 17 = omega (arith, p.to, p.no_extract) in rw e) (eq-or-lt_of_le l)

pub put-requires-in-9 : goal.put-requires-in-9
unfolding between_text kind_at kinds
put-requires-in-9 c = room_as (ap between_text c.in-9.is) c.requires.1

pub put-requires-in-10 : goal.put-requires-in-10
unfolding between_text kind_at kinds
put-requires-in-10 c = room_as (ap between_text c.in-10.is) c.requires.1

pub put-requires-in-11 : goal.put-requires-in-11
unfolding between_text kind_at kinds
put-requires-in-11 c = room_as (ap between_text c.in-11.is) c.requires.1

pub put-requires-in-12 : goal.put-requires-in-12
unfolding between_text kind_at kinds
put-requires-in-12 c = room_as (ap between_text c.in-12.is) c.requires.1

pub put-requires-in-13 : goal.put-requires-in-13
unfolding between_text kind_at kinds
put-requires-in-13 c = room_as (ap between_text c.in-13.is) c.requires.1

pub put-requires-in-14 : goal.put-requires-in-14
unfolding between_text kind_at kinds
put-requires-in-14 c = room_as (ap between_text c.in-14.is) c.requires.1

pub put-requires-in_default : goal.put-requires-in_default
put-requires-in_default c = room_as (a-comma c.requires.0 (omega arith)) c.requires.1

pub returns-in-9 : goal.returns-in-9
unfolding between_text kind_at kinds
returns-in-9 c = wrote_as (ap between_text c.in-9.is) c.put-in-9.ensures

pub returns-in-10 : goal.returns-in-10
unfolding between_text kind_at kinds
returns-in-10 c = wrote_as (ap between_text c.in-10.is) c.put-in-10.ensures

pub returns-in-11 : goal.returns-in-11
unfolding between_text kind_at kinds
returns-in-11 c = wrote_as (ap between_text c.in-11.is) c.put-in-11.ensures

pub returns-in-12 : goal.returns-in-12
unfolding between_text kind_at kinds
returns-in-12 c = wrote_as (ap between_text c.in-12.is) c.put-in-12.ensures

pub returns-in-13 : goal.returns-in-13
unfolding between_text kind_at kinds
returns-in-13 c = wrote_as (ap between_text c.in-13.is) c.put-in-13.ensures

pub returns-in-14 : goal.returns-in-14
unfolding between_text kind_at kinds
returns-in-14 c = wrote_as (ap between_text c.in-14.is) c.put-in-14.ensures

pub returns-in_default : goal.returns-in_default
returns-in_default c = wrote_as (a-comma c.requires.0 (omega arith)) c.put-in_default.ensures
