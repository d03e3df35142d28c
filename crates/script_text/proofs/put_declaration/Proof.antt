-- `put_declaration` writes the line that declares a register.
use Rattle.text_digits.proofs.Laws.{room-front, room-step, room_as, wrote_then, wrote_as}
use Rattle.script_text.proofs.Whole.{declaration-is}
use borrow.Author.Rules.{rules}
use Rattle.script_text.proofs.put_declaration.Statement.{statement}
use Rattle.script_text.proofs.put_declaration.Tie as tie

-- ---- places

-- ---- needs

put-requires : tie.Need-put-i-requires
put-requires c κs =
    let st = c in
    (room-front _ (room_as (declaration-is st.args.r) st.requires))

put-register-name-requires : tie.Need-put_register_name-j-requires
put-register-name-requires c κs =
    let at-put = c in
    let st = c in
    (room-front _ (room-step at-put.put-i.ensures (room_as (declaration-is st.args.r) st.requires)))

put-requires-2 : tie.Need-put-requires
put-requires-2 c κs =
    let at-put-register-name = c in
    let at-put = c in
    let st = c in
    (room-step at-put-register-name.put_register_name-j.ensures (room-step at-put.put-i.ensures
    (room_as (declaration-is st.args.r) st.requires)))

same_length : tie.Need-shape_of-buf
same_length c = search rules

returns : tie.Need-returns
returns c =
    let at-put2 = c in
    let at-put-register-name = c in
    let at-put = c in
    let st = c in
    wrote_as (declaration-is st.args.r) (wrote_then at-put.put-i.ensures
    (wrote_then at-put-register-name.put_register_name-j.ensures at-put2.put.ensures))

pub put_declaration_spec : {M : Type 1} → statement M
put_declaration_spec =
    tie.close
    (tie.spec
    put-requires
    put-register-name-requires
    put-requires-2
    same_length
    returns)
