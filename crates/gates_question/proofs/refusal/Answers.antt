use Rattle.std.proofs.Common.{◌≡◌, ℕ, List, true, sym, ◌∙◌, arith}
use Rattle.std.proofs.lemmas.Result.{err_from_is_err_and}
use Rattle.facts.proofs.Answers.{code-positive}
use Rattle.pool.specs.Rules.{pool_ok}
use Rattle.gates_question.specs.Question.{RoomIs, gates_of_two, places_of_two}
use Rattle.gates_question.proofs.Refusals.{both_ok, bad-pools, bad-a, bad-b, not-in-order, too-high, short-graph, too_many, short-places, none-refused}
use Rattle.gates_question.proofs.refusal.Goals as goal

-- both pools are good, and the room is what they need
record Good (ws : List ℕ) (n : ℕ) (ws' : List ℕ) (m gates places : ℕ) : Type 0 where
  first : pool_ok ws n ≡ true
  second : pool_ok ws' m ≡ true
  gates-are : gates ≡ gates_of_two ws n ws' m
  places-are : places ≡ places_of_two n m

good : (ws : List ℕ) (n : ℕ) (ws' : List ℕ) (m gates places : ℕ) → RoomIs ws n ws' m (record { number = 0; gates = gates; places = places })
    → Good ws n ws' m gates places
good ws n ws' m gates places r =
    let p = both_ok ws n ws' m (sym r.number_is) in
    record {
      first = p.0;
      second = p.1;
      gates-are = r.gates_is;
      places-are = r.places_is;
    }

pub returns-then-not-of_width : goal.returns-then-not-of_width
returns-then-not-of_width c =
    let a = c.args in
    let g = good a.first.now a.n a.second.now a.m _ _ c.in_ok-room.ensures in
    bad-a a.first.now a.n a.second.now a.m a.a.0 a.b.0 a.hi a.lo a.graph a.bits g.first g.second (sym c.of_width.ensures ∙ c.if-not-of_width.true)

pub returns-then-not-of_width-2 : goal.returns-then-not-of_width-2
returns-then-not-of_width-2 c =
    let a = c.args in
    let g = good a.first.now a.n a.second.now a.m _ _ c.in_ok-room.ensures in
    bad-b a.first.now a.n a.second.now a.m a.a.0 a.b.0 a.hi a.lo a.graph a.bits g.first g.second (sym c.of_width.ensures ∙ c.if-not-of_width.false) (sym c.of_width-2.ensures ∙ c.if-not-of_width-2.true)

pub returns-then-hi-lo : goal.returns-then-hi-lo
returns-then-hi-lo c =
    let a = c.args in
    let g = good a.first.now a.n a.second.now a.m _ _ c.in_ok-room.ensures in
    not-in-order a.first.now a.n a.second.now a.m a.a.0 a.b.0 a.hi a.lo a.graph a.bits g.first g.second (sym c.of_width.ensures ∙ c.if-not-of_width.false)
    (sym c.of_width-2.ensures ∙ c.if-not-of_width-2.false) c.if-hi-lo.true

pub returns-then-hi-gt127 : goal.returns-then-hi-gt127
returns-then-hi-gt127 c =
    let a = c.args in
    let g = good a.first.now a.n a.second.now a.m _ _ c.in_ok-room.ensures in
    too-high a.first.now a.n a.second.now a.m a.a.0 a.b.0 a.hi a.lo a.graph a.bits g.first g.second (sym c.of_width.ensures ∙ c.if-not-of_width.false)
    (sym c.of_width-2.ensures ∙ c.if-not-of_width-2.false) c.if-hi-lo.false (omega (arith, c.if-hi-gt127.true))

pub returns-then-graph-room : goal.returns-then-graph-room
returns-then-graph-room c =
    let a = c.args in
    let g = good a.first.now a.n a.second.now a.m _ _ c.in_ok-room.ensures in
    short-graph a.first.now a.n a.second.now a.m a.a.0 a.b.0 a.hi a.lo a.graph a.bits g.first g.second (sym c.of_width.ensures ∙ c.if-not-of_width.false)
    (sym c.of_width-2.ensures ∙ c.if-not-of_width-2.false) c.if-hi-lo.false (omega (arith, c.if-hi-gt127.false)) (omega (arith, g.gates-are, c.if-graph-room.true))

pub returns-then-room-gt2147479551 : goal.returns-then-room-gt2147479551
returns-then-room-gt2147479551 c =
    let a = c.args in
    let g = good a.first.now a.n a.second.now a.m _ _ c.in_ok-room.ensures in
    too_many a.first.now a.n a.second.now a.m a.a.0 a.b.0 a.hi a.lo a.graph a.bits g.first g.second (sym c.of_width.ensures ∙ c.if-not-of_width.false)
    (sym c.of_width-2.ensures ∙ c.if-not-of_width-2.false) c.if-hi-lo.false (omega (arith, c.if-hi-gt127.false)) (omega (arith, g.gates-are, c.if-graph-room.false))
    (omega (arith, g.gates-are, c.if-room-gt2147479551.true))

pub returns-then-bits-room : goal.returns-then-bits-room
returns-then-bits-room c =
    let a = c.args in
    let g = good a.first.now a.n a.second.now a.m _ _ c.in_ok-room.ensures in
    short-places a.first.now a.n a.second.now a.m a.a.0 a.b.0 a.hi a.lo a.graph a.bits g.first g.second (sym c.of_width.ensures ∙ c.if-not-of_width.false)
    (sym c.of_width-2.ensures ∙ c.if-not-of_width-2.false) c.if-hi-lo.false (omega (arith, c.if-hi-gt127.false)) (omega (arith, g.gates-are, c.if-graph-room.false))
    (omega (arith, g.gates-are, c.if-room-gt2147479551.false)) (omega (arith, g.places-are, c.if-bits-room.true))

pub returns : goal.returns
returns c =
    let a = c.args in
    let g = good a.first.now a.n a.second.now a.m _ _ c.in_ok-room.ensures in
    none-refused a.first.now a.n a.second.now a.m a.a.0 a.b.0 a.hi a.lo a.graph a.bits g.first g.second (sym c.of_width.ensures ∙ c.if-not-of_width.false)
    (sym c.of_width-2.ensures ∙ c.if-not-of_width-2.false) c.if-hi-lo.false (omega (arith, c.if-hi-gt127.false)) (omega (arith, g.gates-are, c.if-graph-room.false))
    (omega (arith, g.gates-are, c.if-room-gt2147479551.false)) (omega (arith, g.places-are, c.if-bits-room.false))

pub returns-in_err-room : goal.returns-in_err-room
returns-in_err-room c =
    let a = c.args in
    let p = err_from_is_err_and c.from_residual.result c.from_residual.ensures.1 in
    rw (p.1, p.2)
    (bad-pools a.first.now a.n a.second.now a.m a.a.0 a.b.0 a.hi a.lo a.graph a.bits c.in_err-room.ensures.number_is (code-positive c.in_err-room.field-0.0))
