-- What a whole run writes, by its calls. Assumes nothing.
use mathlib.Core.List.{List, ◌++◌}
use mathlib.Core.Path.{◌≡◌, ap, ◌∙◌}
use Prim.Native.Nat.{ℕ}
use lib.ListN.{take}
use Rattle.line_run.specs.Going.{answers}
use Rattle.line_run.specs.Run.{Run, RunWritesOutput}

run-answers : {p : ℕ} {held : List ℕ} {len : ℕ} {input written : List ℕ} → Run p held len input written → written ≡ answers p held len input
run-answers (Run.piece s from rest r held' out' g h) = ap (λ (z : List ℕ). take r.output out' ++ z) (run-answers h) ∙ g.same rest
run-answers (Run.last k out' e) = e.same

pub run-writes-output : RunWritesOutput
run-writes-output p held input written h = run-answers h
