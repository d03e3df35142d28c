-- `neon::form_code` meets its contract. The words of its table are the rule's codes, which antt computes at each of the 469 places.
use mathlib.Core.Path.{◌≡◌, ap, ◌∙◌}
use mathlib.Core.Bool.{Bool, true, false, ◌&&◌}
use mathlib.Core.List.{List}
use Prim.Native.Nat.{ℕ, suc, ◌+◌, ◌-◌, ◌*◌, ◌/◌, ◌%◌, ◌^◌, ◌≤◌, ◌<◌}
use native.Mathlib.Omega.{arith}
use lib.ListN.{get_or}
use borrow.Author.Rules.{rules}
use borrow.Author.Tests.{lt-leb, le-leb}
use Rattle.neon.specs.Op.{Op, operations, op_at, Arrangement, full, arrangements, arrangement_at, is_operation, is_arrangement}
use Rattle.neon.specs.Form.{form, has_form, has_second, reads_d, by_element, first_full, second_full, flag, immediate_code, form_code, form_code_at}
use Rattle.neon.specs.Arm.{lane, lanes}
use Rattle.neon.proofs.Geometry.{immediate-le}
use Rattle.neon.proofs.Lanes.{lane-of-lanes}
use Rattle.facts.proofs.Table.{tabulate, entry}
use Rattle.neon.proofs.form_code.Statement.{statement}
use Rattle.neon.proofs.form_code.Tie as tie

-- a code is a byte
flag-le : (b : Bool) (k : ℕ) → flag b k ≤ k
flag-le true k = omega arith
flag-le false k = omega arith

code_lt : (o : Op) (v : Arrangement) → form_code o v < 2 ^ 8
unfolding form_code
code_lt o v =
    let l = (form o).lanes in
    let code : ℕ = immediate_code (form o).immediate + flag (has_second o) 8 + flag (reads_d o v) 16 + flag (first_full l (full v)) 32 + flag (second_full l (by_element o) (full v)) 64 in
    omega (
      arith,
      flag-le (has_form o v) code,
      immediate-le (form o).immediate,
      flag-le (has_second o) 8,
      flag-le (reads_d o v) 16,
      flag-le (first_full l (full v)) 32,
      flag-le (second_full l (by_element o) (full v)) 64,
    )

code-at-lt : (o a : ℕ) → form_code_at o a < 2 ^ 8
unfolding form_code_at
code-at-lt o a = omega (arith, flag-le (is_operation o && is_arrangement a) (form_code (op_at o) (arrangement_at a)), code_lt (op_at o) (arrangement_at a))

-- the word of operation k + 1
word : ℕ → ℕ
word k = lanes 8 7 (form_code_at (suc k))

table : List ℕ
table = tabulate word 0 67

table-code : (o a : ℕ) → 1 ≤ o → o ≤ 67 → a ≤ 6 → get_or table (o - 1) 0 / 2 ^ (8 * a) % 256 ≡ form_code_at o a
unfolding table word lane
table-code o a l m h =
    ap (λ (x : ℕ). x / 2 ^ (8 * a) % 256) (entry word 67 (o - 1) (omega arith))
    ∙ lane-of-lanes 8 7 (form_code_at (suc (o - 1))) (code-at-lt (suc (o - 1))) a (omega arith)
    ∙ ap (λ (k : ℕ). form_code_at k a) (omega arith)

returns : tie.Need-returns-then-operation-lt1
unfolding form_code_at
returns c = rw (lt-leb 1 c.args.operation c.if-operation-lt1.true)

returns-2 : tie.Need-returns-then-operation-gt67
unfolding form_code_at
returns-2 c =
    rw (
      le-leb 1 c.args.operation c.if-operation-lt1.false,
      lt-leb c.args.operation 67 c.if-operation-gt67.true,
    )

returns-3 : tie.Need-returns-then-arrangement-gt6
unfolding form_code_at
returns-3 c =
    rw (
      le-leb 1 c.args.operation c.if-operation-lt1.false,
      le-leb c.args.operation 67 c.if-operation-gt67.false,
      lt-leb c.args.arrangement 6 c.if-arrangement-gt6.true,
    )

mul-result : tie.Need-offset_bounds-k
mul-result c = search rules

array-read-result : tie.Need-bounds-k
array-read-result c = search rules

mul-result-2 : tie.Need-overflow_mul-result
mul-result-2 c = search rules

shr-result : tie.Need-overflow_shr-result
shr-result c = search rules

returns-4 : tie.Need-returns
unfolding table tabulate word lanes form_code_at form_code op_at operations arrangement_at arrangements
returns-4 c =
    table-code c.args.operation c.args.arrangement c.if-operation-lt1.false
    c.if-operation-gt67.false c.if-arrangement-gt6.false

pub form_code_spec : {M : Type 1} → statement M
form_code_spec =
    tie.close (tie.spec returns returns-2 returns-3 mul-result array-read-result mul-result-2 shr-result returns-4)
