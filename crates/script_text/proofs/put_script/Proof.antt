-- `put_script` writes the whole script, in the four parts of `script-lines`.
use Rattle.text_digits.proofs.Laws.{room-front, room-step, room_as, wrote_then, wrote_as}
use Rattle.script_text.proofs.Whole.{script-lines}
use borrow.Author.Rules.{rules}
use Rattle.script_text.proofs.put_script.Statement.{statement}
use Rattle.script_text.proofs.put_script.Tie as tie

-- ---- places

-- ---- needs

put-requires : tie.Need-put-i-requires
put-requires c κs =
    let st = c in
    (room-front _ (room_as (script-lines st.args.p.now st.args.count st.args.x.0 st.args.y.0) st.requires.1))

put-declarations-requires : tie.Need-put_declarations-j-requires
put-declarations-requires c κs =
    let at-put = c in
    let st = c in
    (room-front _ (room-step at-put.put-i.ensures
    (room_as (script-lines st.args.p.now st.args.count st.args.x.0 st.args.y.0) st.requires.1)))

put-definitions-requires : tie.Need-put_definitions-l-requires
put-definitions-requires c κs =
    let at-put-declarations = c in
    let at-put = c in
    let st = c in (
      st.requires.0.0,
      (room-front _ (room-step at-put-declarations.put_declarations-j.ensures (room-step at-put.put-i.ensures
          (room_as (script-lines st.args.p.now st.args.count st.args.x.0 st.args.y.0) st.requires.1)))),
    )

put-claim-requires : tie.Need-put_claim-requires
put-claim-requires c κs =
    let at-put-definitions = c in
    let at-put-declarations = c in
    let at-put = c in
    let st = c in (
      (st.requires.0.1, st.requires.0.2),
      (room-step at-put-definitions.put_definitions-l.ensures
          (room-step at-put-declarations.put_declarations-j.ensures (room-step at-put.put-i.ensures
          (room_as (script-lines st.args.p.now st.args.count st.args.x.0 st.args.y.0) st.requires.1)))),
    )

same_length : tie.Need-shape_of-buf
same_length c = search rules

returns : tie.Need-returns
returns c =
    let at-put-claim = c in
    let at-put-definitions = c in
    let at-put-declarations = c in
    let at-put = c in
    let st = c in
    wrote_as (script-lines st.args.p.now st.args.count st.args.x.0 st.args.y.0) (wrote_then at-put.put-i.ensures
    (wrote_then at-put-declarations.put_declarations-j.ensures
    (wrote_then at-put-definitions.put_definitions-l.ensures at-put-claim.put_claim.ensures)))

pub put_script_spec : {M : Type 1} → statement M
put_script_spec =
    tie.close
    (tie.spec
    put-requires
    put-declarations-requires
    put-definitions-requires
    put-claim-requires
    same_length
    returns)
