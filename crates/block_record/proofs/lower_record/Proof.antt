-- `lower_record` meets its contract: the reads, the form and the widening are the step of `Steps`.
use native.Mathlib.Omega.{arith}
use mathlib.Core.Path.{◌≡◌, refl, ◌∙◌}
use Prim.Native.Nat.{ℕ, ◌+◌}
use Rattle.neon.specs.declared.Instruction.{Instruction}
use Rattle.neon.specs.Op.{Op, op_at, Arrangement, arrangement_at}
use Rattle.neon.specs.Refusal.{most_nodes, Legal}
use Rattle.neon.proofs.Legal.{accepted}
use Rattle.pool.specs.Growth.{Room}
use Rattle.neon_form.specs.Code.{OfCode}
use Rattle.neon_form.proofs.Parts.{coded}
use Rattle.neon.specs.Form.{form_code_at}
use Rattle.block_reads.proofs.Reading.{read_more, read-most, read_flags, widen-flag}
use Rattle.block_record_check.specs.Record.{instruction}
use Rattle.block_record_check.proofs.Refusals.{form-legal}
use Rattle.block_record.proofs.Recording.{recorded, registers-in, nodes-in}
use borrow.Author.Rules.{rules}
use Rattle.block_record.proofs.lower_record.Statement.{statement}
use Rattle.block_record.proofs.lower_record.Tie as tie

-- ---- what the form code says holds of the form

says : {P : Op → Arrangement → Type 0} {code : ℕ} (c : Instruction) → Legal c → code ≡ form_code_at c.operation c.arrangement → OfCode code P
    → P (op_at c.operation) (arrangement_at c.arrangement)
says c l e h =
    let k = coded c.operation c.arrangement c.i 0 (form-legal c l) in
    h (op_at c.operation) (arrangement_at c.arrangement) k.0 (e ∙ k.1)

-- ---- the room that is left after each call

after_first : (c : tie.After-read_if-first) → Room c.read_if-first.new.pool c.read_if-first.result.count (most_nodes + 3)
after_first c = omega (arith, c.requires.0, read-most c.read_if-first.ensures, c.read_if-first.ensures.long)

after-second : (c : tie.After-read_if-second) → Room c.read_if-second.new.pool c.read_if-second.result.count (most_nodes + 2)
after-second c =
    let first = c.before.before.before.before.before.before.before in
    omega (arith, after_first first, read-most c.read_if-second.ensures, c.read_if-second.ensures.long)

after-old : (c : tie.After-read_if-old) → Room c.read_if-old.new.pool c.read_if-old.result.count (most_nodes + 1)
after-old c =
    let second = c.before.before.before.before.before.before in
    omega (arith, after-second second, read-most c.read_if-old.ensures, c.read_if-old.ensures.long)

after-result : (c : tie.After-lower_form-result) → Room c.lower_form-result.new.pool c.lower_form-result.result.count 1
after-result c = omega (arith, after-old c.before.before.before.before.before.before.before, c.lower_form-result.ensures.sized)

-- ---- the calls

form-code-requires : tie.Need-form_code-code-requires
form-code-requires c κs = search rules

is-full-requires : tie.Need-is_full-full-requires
is-full-requires c κs =
    let a = c.args in
    (accepted (instruction a.operation a.arrangement a.i a.d a.n a.m) c.requires.1.1).form_of.arranged

first-full-requires : tie.Need-first_full-requires
first-full-requires c κs = search rules

get-requires : tie.Need-get-requires
get-requires c κs =
    let a = c.args in
    omega (arith, registers-in (instruction a.operation a.arrangement a.i a.d a.n a.m) c.requires.1.1)

read-if-requires : tie.Need-read_if-first-requires
read-if-requires c κs =
    let a = c.args in (
      omega (arith, c.requires.0),
      omega (arith, nodes-in a.map c.requires.1.0 (instruction a.operation a.arrangement a.i a.d a.n a.m) c.requires.1.1, c.get.ensures),
    )

has-second-requires : tie.Need-has_second-requires
has-second-requires c κs = search rules

second-full-requires : tie.Need-second_full-requires
second-full-requires c κs = search rules

get-requires-2 : tie.Need-get-requires-2
get-requires-2 c κs =
    let a = c.args in
    omega (arith, registers-in (instruction a.operation a.arrangement a.i a.d a.n a.m) c.requires.1.1)

read-if-requires-2 : tie.Need-read_if-second-requires
read-if-requires-2 c κs =
    let a = c.args in
    let nodes = nodes-in a.map c.requires.1.0 (instruction a.operation a.arrangement a.i a.d a.n a.m) c.requires.1.1 in (
      omega (arith, after_first c.before.before.before.before.before.before),
      omega (arith, nodes, c.get-2.ensures, read_more c.read_if-first.ensures),
    )

reads-d-requires : tie.Need-reads_d-requires
reads-d-requires c κs = search rules

get-requires-3 : tie.Need-get-requires-3
get-requires-3 c κs =
    let a = c.args in
    omega (arith, registers-in (instruction a.operation a.arrangement a.i a.d a.n a.m) c.requires.1.1)

read-if-requires-3 : tie.Need-read_if-old-requires
read-if-requires-3 c κs =
    let a = c.args in
    let nodes = nodes-in a.map c.requires.1.0 (instruction a.operation a.arrangement a.i a.d a.n a.m) c.requires.1.1 in (
      omega (arith, after-second c.before.before.before.before.before),
      omega (arith, nodes, c.get-3.ensures, read_more c.read_if-second.ensures, read_more c.read_if-first.ensures),
    )

lower-form-requires : tie.Need-lower_form-result-requires
lower-form-requires c κs =
    let a = c.args in
    let r = instruction a.operation a.arrangement a.i a.d a.n a.m in
    let l = c.requires.1.1 in
    let e = c.form_code-code.ensures in
    let last = read_more c.read_if-old.ensures in (
      omega (arith, after-old c.before.before.before.before.before.before),
      (
        form-legal r l,
        (
          omega (arith, c.read_if-first.ensures.under refl, read_more c.read_if-second.ensures, last),
          λ u. omega (arith, c.read_if-second.ensures.under (says r l e c.has_second.ensures ∙ u), last),
          λ u. c.read_if-old.ensures.under (says r l e c.reads_d.ensures ∙ u),
        ),
      ),
    )

widen-requires : tie.Need-widen-wide-requires
widen-requires c κs = (after-result c.before.before.before.before, c.lower_form-result.ensures.sized.under)

set-requires : tie.Need-set-requires
set-requires c κs =
    let a = c.args in
    omega (arith, registers-in (instruction a.operation a.arrangement a.i a.d a.n a.m) c.requires.1.1)

same_length : tie.Need-shape_of-pool
same_length c =
    omega (
      arith,
      c.read_if-first.ensures.long,
      c.read_if-second.ensures.long,
      c.read_if-old.ensures.long,
      c.lower_form-result.ensures.sized,
      c.widen-wide.ensures.sized,
    )

returns : tie.Need-returns
returns c =
    let a = c.args in
    let r = instruction a.operation a.arrangement a.i a.d a.n a.m in
    let l = c.requires.1.1 in
    let e = c.form_code-code.ensures in
    let in32 = registers-in r l in
    let full = c.is_full-full.ensures in
    rw c.set.ensures
    (recorded a.map c.requires.1.0 r in32.0 in32.1 in32.2 (op_at a.operation) (arrangement_at a.arrangement) refl refl
    c.get.ensures c.get-2.ensures c.get-3.ensures
    (read_flags refl (says r l e c.first_full.ensures) c.read_if-first.ensures)
    (read_flags (says r l e c.has_second.ensures) (says r l e c.second_full.ensures) c.read_if-second.ensures)
    (read_flags (says r l e c.reads_d.ensures) full c.read_if-old.ensures)
    c.lower_form-result.ensures (widen-flag full c.widen-wide.ensures))

pub lower_record_spec : {M : Type 1} → statement M
lower_record_spec =
    tie.close
    (tie.spec
    form-code-requires
    is-full-requires
    first-full-requires
    get-requires
    read-if-requires
    has-second-requires
    second-full-requires
    get-requires-2
    read-if-requires-2
    reads-d-requires
    get-requires-3
    read-if-requires-3
    lower-form-requires
    widen-requires
    set-requires
    same_length
    returns)
