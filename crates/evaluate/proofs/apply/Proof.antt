-- `apply` gives `node_value` of each kind from 3 on but Ite, by the contract of the operation that it calls.
use mathlib.Core.Path.{◌≡◌, sym, ap, ◌∙◌, subst}
use Prim.Native.Nat.{ℕ, suc, ◌+◌, ◌*◌, ◌^◌, ◌≤◌, ◌<◌}
use native.Mathlib.Omega.{arith}
use native.Mathlib.Nat.{lt_of_lt_of_le}
use lib.Arith.{digits_lt}
use lib.Pow.{pow-add, pow_mono}
use Rattle.terms.specs.Value.{bit}
use Rattle.pool.specs.Node.{kind_at, kinds}
use borrow.Author.Rules.{rules}
use Rattle.evaluate.proofs.apply.Statement.{statement}
use Rattle.evaluate.proofs.apply.Tie as tie

next : (n : ℕ) {k : ℕ} → n ≤ k → (k ≡ n → ⊥) → suc n ≤ k
next n l h = omega arith

last : (c : tie.In_default) → c.args.k ≡ 19
last c =
    let k = c.args.k in
    let r = c.in_default.in_default-own.rest in
    let r8 : 9 ≤ k =
    next 8 (next 7 (next 6 (next 5 (next 4 (next 3 c.requires.1 r.0.0.0.0.0.0.0.0.0.0.0.0.0.0.1) r.0.0.0.0.0.0.0.0.0.0.0.0.0.1)
    r.0.0.0.0.0.0.0.0.0.0.0.0.1) r.0.0.0.0.0.0.0.0.0.0.0.1) r.0.0.0.0.0.0.0.0.0.0.1) r.0.0.0.0.0.0.0.0.0.1 in
    let r13 : 14 ≤ k =
    next 13 (next 12 (next 11 (next 10 (next 9 r8 r.0.0.0.0.0.0.0.0.1) r.0.0.0.0.0.0.0.1) r.0.0.0.0.0.0.1) r.0.0.0.0.0.1) r.0.0.0.0.1 in
    let r18 : 19 ≤ k = next 18 (next 17 (next 16 (next 15 (next 14 r13 r.0.0.0.1) c.requires.3) r.0.0.1) r.0.1) r.1 in
    omega (arith, c.requires.2)

joined-lt : (a b wa wb : ℕ) → wa + wb ≤ 129 → a < 2 ^ wa → b < 2 ^ wb → a * 2 ^ wb + b < 2 ^ 192
joined-lt a b wa wb h l m =
    lt_of_lt_of_le (subst (λ (x : ℕ). a * 2 ^ wb + b < x) (sym (pow-add 2 wa wb)) (digits_lt l m)) (pow_mono {j = 192} (omega arith))

bv-add-requires : tie.Need-bv_add-requires
unfolding kind_at kinds
bv-add-requires c κs = let q = rw c.in-3.is at c.requires.0 in (omega (arith, q.1))

bv-sub-requires : tie.Need-bv_sub-requires
unfolding kind_at kinds
bv-sub-requires c κs = let q = rw c.in-4.is at c.requires.0 in (omega (arith, q.1), q.3)

bv-mul-requires : tie.Need-bv_mul-requires
unfolding kind_at kinds
bv-mul-requires c κs = let q = rw c.in-5.is at c.requires.0 in (omega (arith, q.1))

and-requires : tie.Need-and-requires
and-requires c κs = search rules

or-requires : tie.Need-or-requires
or-requires c κs = search rules

xor-requires : tie.Need-xor-requires
xor-requires c κs = search rules

bv-shl-requires : tie.Need-bv_shl-requires
unfolding kind_at kinds
bv-shl-requires c κs = let q = rw c.in-9.is at c.requires.0 in (omega (arith, q.1))

bv-lshr-requires : tie.Need-bv_lshr-requires
unfolding kind_at kinds
bv-lshr-requires c κs = let q = rw c.in-10.is at c.requires.0 in (omega (arith, q.1), q.2)

bv-ashr-requires : tie.Need-bv_ashr-requires
unfolding kind_at kinds
bv-ashr-requires c κs = let q = rw c.in-11.is at c.requires.0 in (q.0, omega (arith, q.1), q.2)

equal-requires : tie.Need-equal-requires
equal-requires c κs = search rules

bit-requires : tie.Need-bit-requires
bit-requires c κs = search rules

less-requires : tie.Need-less-requires
less-requires c κs = search rules

bit-requires-2 : tie.Need-bit-requires-in-13
bit-requires-2 c κs = search rules

bv-slt-requires : tie.Need-bv_slt-requires
unfolding kind_at kinds
bv-slt-requires c κs = let q = rw c.in-14.is at c.requires.0 in (q.0, omega (arith, q.1))

bit-requires-3 : tie.Need-bit-requires-in-14
bit-requires-3 c κs = search rules

bv-extract-requires : tie.Need-bv_extract-requires
unfolding kind_at kinds
bv-extract-requires c κs = let q = rw c.in-16.is at c.requires.0 in (q.0, omega (arith, q.1))

bv-concat-requires : tie.Need-bv_concat-requires
unfolding kind_at kinds
bv-concat-requires c κs = let q = rw c.in-17.is at c.requires.0 in (omega (arith, q.0), joined-lt _ _ _ _ q.0 q.1 q.2)

bv-sext-requires : tie.Need-bv_sext-requires
unfolding kind_at kinds
bv-sext-requires c κs = let q = rw (last c) at c.requires.0 in (q.0, q.1, omega (arith, q.2), q.3)

returns : tie.Need-returns-in-3
unfolding kind_at kinds
returns c = rw c.in-3.is c.bv_add.ensures

returns-2 : tie.Need-returns-in-4
unfolding kind_at kinds
returns-2 c = rw c.in-4.is c.bv_sub.ensures

returns-3 : tie.Need-returns-in-5
unfolding kind_at kinds
returns-3 c = rw c.in-5.is c.bv_mul.ensures

returns-4 : tie.Need-returns-in-6
unfolding kind_at kinds
returns-4 c = rw c.in-6.is c.and.ensures

returns-5 : tie.Need-returns-in-7
unfolding kind_at kinds
returns-5 c = rw c.in-7.is c.or.ensures

returns-6 : tie.Need-returns-in-8
unfolding kind_at kinds
returns-6 c = rw c.in-8.is c.xor.ensures

returns-7 : tie.Need-returns-in-9
unfolding kind_at kinds
returns-7 c = rw c.in-9.is c.bv_shl.ensures

returns-8 : tie.Need-returns-in-10
unfolding kind_at kinds
returns-8 c = rw c.in-10.is c.bv_lshr.ensures

returns-9 : tie.Need-returns-in-11
unfolding kind_at kinds
returns-9 c = rw c.in-11.is c.bv_ashr.ensures

returns-10 : tie.Need-returns-in-12
unfolding kind_at kinds
returns-10 c = rw c.in-12.is (c.bit.ensures ∙ ap bit c.equal.ensures)

returns-11 : tie.Need-returns-in-13
unfolding kind_at kinds
returns-11 c = rw c.in-13.is (c.bit-in-13.ensures ∙ ap bit c.less.ensures)

returns-12 : tie.Need-returns-in-14
unfolding kind_at kinds
returns-12 c = rw c.in-14.is (c.bit-in-14.ensures ∙ ap bit c.bv_slt.ensures)

returns-13 : tie.Need-returns-in-16
unfolding kind_at kinds
returns-13 c = rw c.in-16.is c.bv_extract.ensures

returns-14 : tie.Need-returns-in-17
unfolding kind_at kinds
returns-14 c = rw c.in-17.is c.bv_concat.ensures

returns-15 : tie.Need-returns-in-18
unfolding kind_at kinds
returns-15 c = rw c.in-18.is

returns-16 : tie.Need-returns-in_default
unfolding kind_at kinds
returns-16 c = rw (last c.before) c.bv_sext.ensures

pub apply_spec : {M : Type 1} → statement M
apply_spec =
    tie.close
    (tie.spec
    bv-add-requires
    bv-sub-requires
    bv-mul-requires
    and-requires
    or-requires
    xor-requires
    bv-shl-requires
    bv-lshr-requires
    bv-ashr-requires
    equal-requires
    bit-requires
    less-requires
    bit-requires-2
    bv-slt-requires
    bit-requires-3
    bv-extract-requires
    bv-concat-requires
    bv-sext-requires
    returns
    returns-2
    returns-3
    returns-4
    returns-5
    returns-6
    returns-7
    returns-8
    returns-9
    returns-10
    returns-11
    returns-12
    returns-13
    returns-14
    returns-15
    returns-16)
