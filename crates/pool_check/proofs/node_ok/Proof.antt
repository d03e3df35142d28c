-- node_ok is ok_node with the rule of Vars: each kind has its rules
use mathlib.Core.Bool.{Bool, ◌&&◌}
use mathlib.Core.List.{List}
use mathlib.Core.Path.{◌≡◌, refl, sym, ◌∙◌}
use Prim.Native.Nat.{ℕ}
use native.Mathlib.Omega.{arith}
use Rattle.pool.specs.Node.{kind_at, kinds}
use Rattle.pool.specs.Rules.{ok_node}
use Rattle.pool_rules.specs.Rule.{ok_as}
use Rattle.pool_check.specs.Plain.{plain_at}
use Rattle.pool_check.proofs.Nodes.{by_number, extension, no_kind, no-var, a-var}
use borrow.Author.Rules.{rules}
use Rattle.pool_check.proofs.node_ok.Statement.{statement}
use Rattle.pool_check.proofs.node_ok.Tie as tie

-- ---- the kind, and the answer for one that is no Var

module _ (c : tie.After-kind_of-kind) where
  abbrev ws : List ℕ
  ws = c.args.pool.now

  abbrev plain : ℕ
  plain = c.args.plain.0

  abbrev n : ℕ
  n = c.args.n.0

  abbrev kind : ℕ
  kind = c.kind_of-kind.result

  other : {r : Bool} → (kind ≡ 1 → ⊥) → r ≡ ok_as (kind_at kind) ws n → r ≡ (ok_node ws n && plain_at ws plain n)
  other f h = no-var ws plain n c.kind_of-kind.ensures f (by_number ws n c.kind_of-kind.ensures h)

  named : {k : ℕ} {r : Bool} → kind ≡ k → (k ≡ 1 → ⊥) → r ≡ ok_as (kind_at k) ws n → r ≡ (ok_node ws n && plain_at ws plain n)
  named e f h = no-var ws plain n c.kind_of-kind.ensures (λ q. f (sym e ∙ q)) (by_number ws n (sym e ∙ c.kind_of-kind.ensures) h)

-- ---- the calls and the answers

kind-of-requires : tie.Need-kind_of-kind-requires
kind-of-requires c κs = search rules

const-ok-requires : tie.Need-const_ok-requires
const-ok-requires c κs = search rules

returns : tie.Need-returns-then-kind-eq-CONST
unfolding kind_at kinds
returns c = named c.before.before c.if-kind-eq-CONST.true (λ e. omega (arith, e)) c.const_ok.ensures

extract-ok-requires : tie.Need-extract_ok-requires
extract-ok-requires c κs = search rules

returns-2 : tie.Need-returns-then-kind-eq-EXTRACT
unfolding kind_at kinds
returns-2 c = named c.before.before.before c.if-kind-eq-EXTRACT.true (λ e. omega (arith, e)) c.extract_ok.ensures

ite-ok-requires : tie.Need-ite_ok-requires
ite-ok-requires c κs = search rules

returns-3 : tie.Need-returns-then-kind-eq-ITE
unfolding kind_at kinds
returns-3 c = named c.before.before.before.before c.if-kind-eq-ITE.true (λ e. omega (arith, e)) c.ite_ok.ensures

extend-ok-requires : tie.Need-extend_ok-requires
extend-ok-requires c κs = search rules

returns-4 : tie.Need-returns-then-kind-le-SIGN_EXTEND
returns-4 c =
    let k : tie.After-kind_of-kind = c.before.before.before.before.before.before in
    other k (λ e. omega (arith, e, c.if-kind-ge-ZERO_EXTEND.true))
    (c.extend_ok.ensures ∙ extension (ws k) (n k) (kind k) c.if-kind-ge-ZERO_EXTEND.true c.if-kind-le-SIGN_EXTEND.true)

returns-5 : tie.Need-returns-then-kind-ge-ZERO_EXTEND
returns-5 c =
    let k : tie.After-kind_of-kind = c.before.before.before.before.before in
    other k (λ e. omega (arith, e, c.if-kind-le-SIGN_EXTEND.false)) (no_kind (ws k) (n k) (kind k) c.if-kind-le-SIGN_EXTEND.false)

pair-ok-requires : tie.Need-pair_ok-requires
pair-ok-requires c κs = search rules

returns-6 : tie.Need-returns-then-kind-eq-CONCAT
returns-6 c = named c.before.before.before.before.before.before c.if-kind-eq-CONCAT.true (λ e. omega (arith, e)) c.pair_ok.ensures

var-ok-requires : tie.Need-var_ok-requires
var-ok-requires c κs = search rules

returns-7 : tie.Need-returns-then-kind-eq-VAR
unfolding kind_at kinds
returns-7 c =
    let ws = c.args.pool.now in
    let n = c.args.n.0 in
    a-var ws c.args.plain.0 n c.kind_of-kind.ensures c.if-kind-eq-VAR.true
    (by_number ws n (sym c.if-kind-eq-VAR.true ∙ c.kind_of-kind.ensures) c.var_ok.ensures)

returns-8 : tie.Need-returns-then-kind-lt-ADD
unfolding kind_at kinds
returns-8 c = named c.before.before.before.before.before.before.before {k = 0} (omega arith) (λ e. omega (arith, e)) refl

pair-ok-requires-2 : tie.Need-pair_ok-requires-2
pair-ok-requires-2 c κs = search rules

returns-9 : tie.Need-returns
returns-9 c = other c.before.before.before.before.before.before.before (λ e. omega (arith, e, c.if-kind-lt-ADD.false)) c.pair_ok-2.ensures

pub node_ok_spec : {M : Type 1} → statement M
node_ok_spec =
    tie.close
    (tie.spec
    kind-of-requires
    const-ok-requires
    returns
    extract-ok-requires
    returns-2
    ite-ok-requires
    returns-3
    extend-ok-requires
    returns-4
    returns-5
    pair-ok-requires
    returns-6
    var-ok-requires
    returns-7
    returns-8
    pair-ok-requires-2
    returns-9)
