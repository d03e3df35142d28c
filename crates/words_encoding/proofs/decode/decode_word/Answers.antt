-- `words_encoding::decode::decode_word` meets its contract: the fields are read one after the other, and the word is made again.
use mathlib.Core.Path.{◌≡◌, sym, ap, ◌∙◌}
use Prim.Native.Nat.{ℕ, ◌%◌, ◌≤◌}
use native.Mathlib.Omega.{arith}
use Rattle.neon.specs.declared.Instruction.{Instruction}
use Rattle.neon.specs.Op.{op_at, arrangement_at}
use Rattle.neon.specs.Form.{form}
use Rattle.block_record_check.specs.Record.{instruction}
use Rattle.neon_form.proofs.Parts.{with-form}
use Rattle.words_encoding.specs.Encoding.{encoding}
use Rattle.words_encoding.specs.Decode.{bits, operation_at, size_at, arrangement_of, immediate_at, second_at, fields_of}
use Rattle.words_encoding.proofs.Lookup.{class-is}
use Rattle.words_encoding.proofs.Decoding.{legal, not_legal, refused, read_as, other_word, no-operation, no-form, all-fields}
use Rattle.words_encoding.proofs.decode.decode_word.Goals as goal
use Rattle.words_encoding.proofs.decode.decode_word.Goals.{After-arrangement_of-arrangement, After-second_at-m}

-- ---- what was read

record Arranged (w k a : ℕ) : Type 0 where
  some : 1 ≤ k
  most : k ≤ 67
  operation-is : k ≡ operation_at w
  arrangement-is : a ≡ arrangement_of (form (op_at k)).lanes (bits 30 30 w) (size_at (encoding (op_at k)).class w)

arranged : (c : After-arrangement_of-arrangement) → Arranged c.args.w c.operation_at-operation.result c.arrangement_of-arrangement.result
arranged c =
    let o = op_at c.operation_at-operation.result in
    record {
      some = omega (arith, c.if-operation-eq0.false);
      most = c.operation_at-operation.ensures.1;
      operation-is = c.operation_at-operation.ensures.0;
      arrangement-is = c.arrangement_of-arrangement.ensures.0 ∙ ap (λ (s : ℕ). arrangement_of (form o).lanes (bits 30 30 c.args.w) s) c.size_at.ensures.0;
    }

abbrev read : After-second_at-m → Instruction
read c =
    instruction c.operation_at-operation.result c.arrangement_of-arrangement.result c.immediate_at-i.result (c.args.w % 32) (bits 9 5 c.args.w) c.second_at-m.result

fields : (c : After-second_at-m) → Arranged c.args.w c.operation_at-operation.result c.arrangement_of-arrangement.result → fields_of c.args.w ≡ read c
fields c g =
    let k = c.operation_at-operation.result in
    let a = c.arrangement_of-arrangement.result in
    let o = op_at k in
    let v = arrangement_at a in
    let f = with-form k a g.some g.most (λ z. c.if-code-eq0.false (c.form_code-code.ensures ∙ z)) in
    let code = c.form_code-code.ensures ∙ f.2 in
    all-fields c.args.w k a g.operation-is g.arrangement-is c.immediate_at-i.result c.second_at-m.result
    (c.immediate_at-i.ensures o v f.1 code ∙ ap (λ (n : ℕ). immediate_at (form o).immediate n c.args.w) c.lane_bits-bits.ensures)
    (c.second_at-m.ensures o v f.1 code ∙ ap (λ (n : ℕ). second_at o n c.args.w) c.lane_bits-bits.ensures)

pub returns-then-operation-eq0 : goal.returns-then-operation-eq0
returns-then-operation-eq0 c = no-operation c.args.w (sym c.operation_at-operation.ensures.0 ∙ c.if-operation-eq0.true)

pub size_at-requires : goal.size_at-requires
size_at-requires c = (
  omega (arith, c.if-operation-eq0.false),
  c.operation_at-operation.ensures.1,
  c.class_at.ensures.0 ∙ class-is c.args.w c.operation_at-operation.result (omega (arith, c.if-operation-eq0.false)) c.operation_at-operation.ensures.0,
)

pub returns-then-code-eq0 : goal.returns-then-code-eq0
returns-then-code-eq0 c =
    let g = arranged (goal.at.returns-then-code-eq0 c).After-arrangement_of-arrangement in
    no-form c.args.w c.operation_at-operation.result c.arrangement_of-arrangement.result g.operation-is g.arrangement-is g.some g.most
    (sym c.form_code-code.ensures ∙ c.if-code-eq0.true)

pub returns-then-is_err : goal.returns-then-is_err
returns-then-is_err c =
    let s = (goal.at.returns-then-is_err c).After-second_at-m in
    let g = arranged (goal.at.returns-then-is_err c).After-arrangement_of-arrangement in
    refused c.args.w (read s) (fields s g) (not_legal (read s) c.record_number.result c.record_number.ensures c.if-is_err.ensures.value)

pub returns-then-encode_word-w : goal.returns-then-encode_word-w
returns-then-encode_word-w c =
    let s = (goal.at.returns-then-encode_word-w c).After-second_at-m in
    let g = arranged (goal.at.returns-then-encode_word-w c).After-arrangement_of-arrangement in
    read_as c.args.w (read s) (fields s g) (legal (read s) c.record_number.result c.record_number.ensures c.if-is_err.ensures.value)
    (sym c.encode_word.ensures ∙ c.if-encode_word-w.true)

pub returns-else-encode_word-w : goal.returns-else-encode_word-w
returns-else-encode_word-w c =
    let s = (goal.at.returns-else-encode_word-w c).After-second_at-m in
    let g = arranged (goal.at.returns-else-encode_word-w c).After-arrangement_of-arrangement in
    other_word c.args.w (read s) (fields s g) (λ z. c.if-encode_word-w.false (c.encode_word.ensures ∙ z))
