-- The bytes of a pool's script, read by the standard at a start: the theorem of specs/Demand.antt. Assumes nothing.
use mathlib.Core.Path.{◌≡◌, refl, ap, ◌∙◌}
use mathlib.Core.Option.{Option, some}
use Rattle.script_meaning.specs.Sexp.{Items, ◌⨾◌}
use Rattle.script_meaning.specs.Values.{and_then}
use Rattle.script_meaning.specs.Meaning.{begun, meant}
use Rattle.script_meaning.specs.Script.{set_logic, declarations, definitions, commands_of, script_of}
use Rattle.script_meaning.specs.Demand.{ScriptMeans}
use Rattle.script_meaning.proofs.Reading.{read-lines}
use Rattle.script_meaning.proofs.Fine.{fine-script}
use Rattle.script_meaning.proofs.Run.{claim, run-script}

pub script-means : ScriptMeans
unfolding meant script_of commands_of
script-means ws count valid x y hx hy w start model m =
    let r = run-script ws count valid start model x y hx hy w m.fits m.gives in
    let all-defined : commands_of ws count x y ≡ set_logic ⨾ declarations 32 0 (definitions ws count 0 (claim ws count valid start model x y)) = refl in
    record {
      names = r.names;
      values = r.values;
      meant_is = ap (λ (o : Option Items). and_then o (λ xs. begun model xs)) (read-lines _ (fine-script ws count valid x y) ∙ ap some all-defined) ∙ r.ran;
    }
