-- The measures of the two writers, and what they ask and ensure within the cycle. Assumes nothing.
use Prim.Native.Nat.{ℕ, ◌<◌}
use borrow.Fn.Kinds.{In}
use borrow.Fn.PlainCycle.{Measures, is, falls, and}
use Rattle.text_write.proofs.write_condition.Reads as write-condition
use Rattle.text_write.proofs.write_condition.Kinds as write-condition-kinds
use Rattle.text_write.proofs.+write_condition_write_term.Lts-write_condition as write-condition-lts
use Rattle.text_write.proofs.write_term.Reads as write-term
use Rattle.text_write.proofs.write_term.Kinds as write-term-kinds
use Rattle.text_write.proofs.+write_condition_write_term.Lts-write_term as write-term-lts
use Rattle.text_digits.proofs.put.Reads as put_reads
use Rattle.pool_fields.proofs.first.Reads as first_reads
use Rattle.pool.proofs.words.kind_of.Reads as kind-of-reads
use Rattle.pool_fields.proofs.left.Reads as left-reads
use Rattle.pool_fields.proofs.right.Reads as right-reads
use Rattle.pool_fields.proofs.second.Reads as second_reads
use Rattle.text_operators.proofs.put_between.Reads as put-between-reads
use Rattle.text_parts.proofs.put_end.Reads as put-end-reads
use Rattle.text_parts.proofs.put_leaf.Reads as put-leaf-reads
use Rattle.text_parts.proofs.put_open.Reads as put-open-reads

abbrev pub μ-write-condition : Measures 4 write-condition-kinds.ps ℕ
μ-write-condition κs a = a.1.0.0

abbrev pub μ-write-term : Measures 4 write-term-kinds.ps ℕ
μ-write-term κs a = a.1.0.0

abbrev pub write-condition-at : ℕ → In 4 write-condition-kinds.ps
write-condition-at t =
    and
    4
    write-condition-kinds.ps
    (is 4 write-condition-kinds.ps μ-write-condition t)
    write-condition.Pre

abbrev pub write-condition-below : ℕ → In 4 write-condition-kinds.ps
write-condition-below t =
    and
    4
    write-condition-kinds.ps
    (falls 4 write-condition-kinds.ps ◌<◌ μ-write-condition t)
    write-condition.Pre

abbrev pub write-term-at : ℕ → In 4 write-term-kinds.ps
write-term-at t =
    and 4 write-term-kinds.ps (is 4 write-term-kinds.ps μ-write-term t) write-term.Pre

abbrev pub write-term-below : ℕ → In 4 write-term-kinds.ps
write-term-below t =
    and 4 write-term-kinds.ps (falls 4 write-term-kinds.ps ◌<◌ μ-write-term t) write-term.Pre

-- what the functions that `write_condition` calls ask and ensure
abbrev pub write-condition-claims : ℕ → write-condition-lts.Claims
write-condition-claims t = (
  put_reads.Asked,
  put_reads.Learnt,
  first_reads.Asked,
  first_reads.Learnt,
  write-term-below t,
  write-term.Post,
  kind-of-reads.Asked,
  kind-of-reads.Learnt,
  put-between-reads.Asked,
  put-between-reads.Learnt,
  second_reads.Asked,
  second_reads.Learnt,
)

-- what the functions that `write_term` calls ask and ensure
abbrev pub write-term-claims : ℕ → write-term-lts.Claims
write-term-claims t = (
  kind-of-reads.Asked,
  kind-of-reads.Learnt,
  put-leaf-reads.Asked,
  put-leaf-reads.Learnt,
  put-open-reads.Asked,
  put-open-reads.Learnt,
  first_reads.Asked,
  first_reads.Learnt,
  write-condition-below t,
  write-condition.Post,
  put_reads.Asked,
  put_reads.Learnt,
  left-reads.Asked,
  left-reads.Learnt,
  write-term-below t,
  write-term.Post,
  put-end-reads.Asked,
  put-end-reads.Learnt,
  put-between-reads.Asked,
  put-between-reads.Learnt,
  right-reads.Asked,
  right-reads.Learnt,
)
