-- `words_encoding::fixed` meets its contract. The words of its table are the rule's, which antt computes at each of the 67 places.
use mathlib.Core.Path.{◌≡◌, sym, ap, ◌∙◌, subst}
use mathlib.Core.List.{List}
use Prim.Native.Nat.{ℕ, suc, ◌-◌, ◌<◌}
use native.Mathlib.Omega.{arith}
use lib.ListN.{get_or}
use Rattle.words_encoding.proofs.Sum.{fixed-fits}
use Rattle.facts.proofs.Table.{tabulate, entry}
use Rattle.neon.specs.Op.{operations, op_at}
use Rattle.words_encoding.specs.Parts.{fixed_of}
use Rattle.words_encoding.proofs.encode.fixed.Goals as goal

word : ℕ → ℕ
word k = fixed_of (op_at (suc k))

table : List ℕ
table = tabulate word 0 67

pub returns : goal.returns
unfolding table tabulate word fixed_of op_at operations
returns c =
    let k = c.args.operation in
    let one : suc (k - 1) ≡ k = omega arith in
    let e : get_or table (k - 1) 0 ≡ fixed_of (op_at k) = entry word 67 (k - 1) (omega arith) ∙ ap (λ (j : ℕ). fixed_of (op_at j)) one in
    (e, subst (λ (x : ℕ). x < 2147483648) (sym e) (fixed-fits k c.requires.0 c.requires.1))
