-- The cycle of the two writers: the node number falls at every call. Assumes nothing.
mod Writers
mod Conditions
mod Terms
use Rattle.text_write.proofs.write_condition.Reads as write-condition
use Rattle.text_write.proofs.+write_condition_write_term.Lts-write_condition as write-condition-lts
use Rattle.text_write.proofs.write_term.Reads as write-term
use Rattle.text_write.proofs.+write_condition_write_term.Lts-write_term as write-term-lts
use Rattle.text_write.proofs.+write_condition_write_term.{statement}
use Rattle.text_write.proofs.+write_condition_write_term.Tie.{close}
use Rattle.text_write.proofs.+write_condition_write_term.Proof.Writers.{μ-write-condition, μ-write-term, write-condition-at, write-term-at, write-condition-claims, write-term-claims}
use Rattle.text_write.proofs.+write_condition_write_term.Proof.Conditions as condition
use Rattle.text_write.proofs.+write_condition_write_term.Proof.Terms as term

pub +write_condition_write_term_spec : {M : Type 1} → statement M
+write_condition_write_term_spec =
    close μ-write-condition μ-write-term
    (λ t.
    write-condition-lts.spec (write-condition-claims t) (write-condition-at t) write-condition.Post
    (condition.slice-aggregate-put t)
    (condition.put-requires t)
    (condition.first-requires t)
    (condition.write-term-requires t)
    (condition.kind-of-requires t)
    (condition.slice-aggregate-put-between t)
    (condition.put-between-requires t)
    (condition.second-requires t)
    (condition.write-term-requires-2 t)
    (condition.slice-aggregate-put-2 t)
    (condition.put-requires-2 t)
    (condition.returns t))
    λ t.
    write-term-lts.spec (write-term-claims t) (write-term-at t) write-term.Post
    (term.kind-of-requires t)
    (term.slice-aggregate-put-leaf t)
    (term.put-leaf-requires t)
    (term.returns t)
    (term.slice-aggregate-put-open t)
    (term.put-open-requires t)
    (term.first-requires t)
    (term.write-condition-requires t)
    (term.slice-aggregate-put t)
    (term.put-requires t)
    (term.left-requires t)
    (term.write-term-requires t)
    (term.slice-aggregate-put-end t)
    (term.put-end-requires t)
    (term.returns-2 t)
    (term.slice-aggregate-put-end-2 t)
    (term.put-end-requires-2 t)
    (term.returns-3 t)
    (term.slice-aggregate-put-between t)
    (term.put-between-requires t)
    (term.right-requires t)
    (term.write-term-requires-2 t)
    (term.slice-aggregate-put-2 t)
    (term.put-requires-2 t)
    (term.returns-4 t)
