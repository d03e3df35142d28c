-- What a form code says: it holds for every form that has the code.
use Rattle.std.specs.Prelude.{true, ◌≡◌, ℕ}
use Rattle.neon.specs.Op.{Op, Arrangement}
use Rattle.neon.specs.Form.{has_form, form_code}

abbrev pub OfCode : ℕ → (Op → Arrangement → Type 0) → Type 0
OfCode code P = (o : Op) (v : Arrangement) → has_form o v ≡ true → code ≡ form_code o v → P o v
