use mathlib.Core.Path.{ap, ◌∙◌, refl}
use native.Mathlib.Omega.{arith}
use Rattle.line_fields.specs.Fields.{fields}
use Rattle.text_series.proofs.Texts.{wrote-copied}
use Rattle.line_routine.specs.Routine.{line_at}
use Rattle.line_routine.proofs.Answers.{part-is}
use Rattle.line_routine.proofs.put_fields.Goals as goal

pub returns : goal.returns
returns c =
    let a = c.args in
    wrote-copied a.records.now a.at _ _ (fields (line_at a.bytes.now a.j)) _
    (c.copy_from_slice.ensures.after ∙ c.fields_of.ensures ∙ ap fields (part-is a.bytes.now _ a.j refl)) (omega arith) refl (omega arith)
