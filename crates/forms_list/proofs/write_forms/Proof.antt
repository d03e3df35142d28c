-- `forms_list::write_forms` meets its contract: the lines of all forms fill the buffer.
use mathlib.Core.Path.{◌≡◌, ◌∙◌}
use native.Mathlib.Omega.{arith}
use lib.ListN.{length}
use Rattle.text_series.proofs.Texts.{filled}
use Rattle.forms_list.specs.Texts.{forms_text}
use Rattle.forms_list.proofs.Lines.{text-is, text-length}
use Rattle.forms_list.proofs.write_forms.Statement.{statement}
use Rattle.forms_list.proofs.write_forms.Tie as tie

put-forms-requires : tie.Need-put_forms-requires
put-forms-requires c κs = record { room = omega (arith, text-length) }

returns : tie.Need-returns
returns c =
    let a = c.args in
    let fits : length forms_text ≡ length a.buffer.now = omega (arith, text-length) in
    filled forms_text fits c.put_forms.ensures ∙ text-is

pub write_forms_spec : {M : Type 1} → statement M
write_forms_spec = tie.close (tie.spec put-forms-requires returns)
