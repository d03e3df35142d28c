-- `put_name` writes a node's name: its register's for a Var, else its own.
use Rattle.text_digits.proofs.Laws.{room_as, wrote_as}
use mathlib.Core.Path.{◌≡◌, sym, ap, ◌∙◌}
use Rattle.script_meaning.specs.Script.{register_name, node_name, name_of}
use Rattle.script_text.proofs.Spelling.{register-named, node-named}
use borrow.Author.Rules.{rules}
use Rattle.script_text.proofs.term.put_name.Statement.{statement}
use Rattle.script_text.proofs.term.put_name.Tie as tie

-- ---- places: the entry from where the kind is read, and the name by the kind

register : (c : tie.After-low) → let a = c.args in name_of a.p.now a.n.0 ≡ register_name c.low.result
register c =
    let v = c in
    let a = v.args in
    register-named a.p.now a.n.0 (sym v.kind_of.ensures ∙ v.if-kind_of-eq-VAR.true) ∙ ap register_name (sym c.low.ensures)

own : (c : tie.Else-kind_of-eq-VAR) → let a = c.args in name_of a.p.now a.n.0 ≡ node_name a.n.0
own c = let a = c.args in node-named a.p.now a.n.0 (λ e. c.if-kind_of-eq-VAR.false (c.kind_of.ensures ∙ e))

-- ---- needs

kind-of-requires : tie.Need-kind_of-requires
kind-of-requires c κs = search rules

low-requires : tie.Need-low-requires
low-requires c κs = search rules

put-register-name-requires : tie.Need-put_register_name-requires
put-register-name-requires c κs =
    let l = c in
    room_as (register c.before) l.requires.1

same_length : tie.Need-shape_of-buf-then-kind_of-eq-VAR
same_length c = search rules

returns : tie.Need-returns-then-kind_of-eq-VAR
returns c =
    let p = c in
    wrote_as (register c.before.before.before.before) p.put_register_name.ensures

put-node-name-requires : tie.Need-put_node_name-requires
put-node-name-requires c κs =
    let o = c in
    room_as (own c.before) o.requires.1

same-length-2 : tie.Need-shape_of-buf
same-length-2 c = search rules

returns-2 : tie.Need-returns
returns-2 c =
    let q = c in
    wrote_as (own c.before.before.before.before) q.put_node_name.ensures

pub put_name_spec : {M : Type 1} → statement M
put_name_spec =
    tie.close
    (tie.spec
    kind-of-requires
    low-requires
    put-register-name-requires
    same_length
    returns
    put-node-name-requires
    same-length-2
    returns-2)
