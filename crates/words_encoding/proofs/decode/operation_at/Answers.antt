-- `words_encoding::decode::operation_at` meets its contract. The bytes of its table are the rule's, which antt computes at each of the 320 places.
use mathlib.Core.Path.{◌≡◌, sym, ap, ◌∙◌, subst}
use mathlib.Core.List.{List}
use Prim.Native.Nat.{ℕ, ◌+◌, ◌*◌, ◌/◌, ◌%◌, ◌^◌, ◌≤◌, ◌<◌}
use native.Mathlib.Omega.{arith}
use lib.ListN.{get_or}
use Rattle.facts.proofs.Table.{tabulate, entry}
use Rattle.neon.specs.Op.{operations, op_at}
use Rattle.neon.specs.Arm.{lane, lanes}
use Rattle.neon.proofs.Lanes.{lane-of-lanes}
use Rattle.words_encoding.specs.Decode.{bits, class_at, opcode_at, operation_of, operation_at}
use Rattle.words_encoding.specs.Parts.{key_of}
use Rattle.words_encoding.proofs.Lookup.{rule, rule-lt, looked-up, operation-le}
use Rattle.words_encoding.proofs.decode.operation_at.Goals as goal

-- the word with entries 8r to 8r + 7
word : ℕ → ℕ
word r = lanes 8 8 (λ j. rule 0 (8 * r + j))

table : List ℕ
table = tabulate word 0 40

at-le : (w : ℕ) → operation_at w ≤ 67
unfolding operation_at
at-le w = operation-le (class_at w) (bits 30 30 w) (bits 29 29 w) (opcode_at (class_at w) w) 67

found : (w c k : ℕ) → c ≡ class_at w → c ≤ 4 → k ≡ key_of c w → k < 64 → get_or table (8 * c + k / 8) 0 / 2 ^ (8 * (k % 8)) % 256 ≡ operation_at w
unfolding table word lane
found w c k e h q l =
    let r = 8 * c + k / 8 in
    let place : 8 * r + k % 8 ≡ 64 * c + k = omega arith in
    ap (λ (x : ℕ). x / 2 ^ (8 * (k % 8)) % 256) (entry word 40 r (omega arith))
    ∙ lane-of-lanes 8 8 (λ j. rule 0 (8 * r + j)) (λ j. rule-lt (8 * r + j)) (k % 8) (omega arith)
    ∙ ap (rule 0) place
    ∙ looked-up w c k e h q l

pub returns : goal.returns
unfolding table tabulate word lanes operation_of op_at operations
returns c =
    let w = c.args.w in
    let a = c.class_at-class in
    let k = c.key-at in
    let at : ℕ = get_or table (8 * a.result + k.result / 8) 0 / 2 ^ (8 * (k.result % 8)) % 256 in
    let e : at ≡ operation_at w = found w a.result k.result a.ensures.0 a.ensures.1 k.ensures.0 k.ensures.1 in
    (e, subst (λ (x : ℕ). x ≤ 67) (sym e) (at-le w))
