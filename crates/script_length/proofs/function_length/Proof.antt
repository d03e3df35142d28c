-- `function_length` gives the length of the function of each kind from 3 on.
use mathlib.Core.Path.{sym, ap}
use native.Mathlib.Omega.{arith}
use Prim.Native.Nat.{ℕ}
use lib.ListN.{length}
use Rattle.pool.specs.Node.{kind_at, kinds}
use Rattle.script_meaning.specs.Script.{function_of}
use Rattle.script_text.proofs.Spelling.{last-kind}
use Rattle.script_length.proofs.function_length.Statement.{statement}
use Rattle.script_length.proofs.function_length.Tie as tie

returns : tie.Need-returns-in-3
unfolding kind_at kinds
returns c = (sym (ap (λ (k : ℕ). length (function_of (kind_at k))) {y = 3} c.in-3.is), omega arith)

returns-2 : tie.Need-returns-in-4
unfolding kind_at kinds
returns-2 c = (sym (ap (λ (k : ℕ). length (function_of (kind_at k))) {y = 4} c.in-4.is), omega arith)

returns-3 : tie.Need-returns-in-5
unfolding kind_at kinds
returns-3 c = (sym (ap (λ (k : ℕ). length (function_of (kind_at k))) {y = 5} c.in-5.is), omega arith)

returns-4 : tie.Need-returns-in-6
unfolding kind_at kinds
returns-4 c = (sym (ap (λ (k : ℕ). length (function_of (kind_at k))) {y = 6} c.in-6.is), omega arith)

returns-5 : tie.Need-returns-in-7
unfolding kind_at kinds
returns-5 c = (sym (ap (λ (k : ℕ). length (function_of (kind_at k))) {y = 7} c.in-7.is), omega arith)

returns-6 : tie.Need-returns-in-8
unfolding kind_at kinds
returns-6 c = (sym (ap (λ (k : ℕ). length (function_of (kind_at k))) {y = 8} c.in-8.is), omega arith)

returns-7 : tie.Need-returns-in-9
unfolding kind_at kinds
returns-7 c = (sym (ap (λ (k : ℕ). length (function_of (kind_at k))) {y = 9} c.in-9.is), omega arith)

returns-8 : tie.Need-returns-in-10
unfolding kind_at kinds
returns-8 c = (sym (ap (λ (k : ℕ). length (function_of (kind_at k))) {y = 10} c.in-10.is), omega arith)

returns-9 : tie.Need-returns-in-11
unfolding kind_at kinds
returns-9 c = (sym (ap (λ (k : ℕ). length (function_of (kind_at k))) {y = 11} c.in-11.is), omega arith)

returns-10 : tie.Need-returns-in-12
unfolding kind_at kinds
returns-10 c = (sym (ap (λ (k : ℕ). length (function_of (kind_at k))) {y = 12} c.in-12.is), omega arith)

returns-11 : tie.Need-returns-in-13
unfolding kind_at kinds
returns-11 c = (sym (ap (λ (k : ℕ). length (function_of (kind_at k))) {y = 13} c.in-13.is), omega arith)

returns-12 : tie.Need-returns-in-14
unfolding kind_at kinds
returns-12 c = (sym (ap (λ (k : ℕ). length (function_of (kind_at k))) {y = 14} c.in-14.is), omega arith)

returns-13 : tie.Need-returns-in-15
unfolding kind_at kinds
returns-13 c = (sym (ap (λ (k : ℕ). length (function_of (kind_at k))) {y = 15} c.in-15.is), omega arith)

returns-14 : tie.Need-returns-in-16
unfolding kind_at kinds
returns-14 c = (sym (ap (λ (k : ℕ). length (function_of (kind_at k))) {y = 16} c.in-16.is), omega arith)

returns-15 : tie.Need-returns-in-17
unfolding kind_at kinds
returns-15 c = (sym (ap (λ (k : ℕ). length (function_of (kind_at k))) {y = 17} c.in-17.is), omega arith)

returns-16 : tie.Need-returns-in-18
unfolding kind_at kinds
returns-16 c = (sym (ap (λ (k : ℕ). length (function_of (kind_at k))) {y = 18} c.in-18.is), omega arith)

returns-17 : tie.Need-returns-in_default
unfolding kind_at kinds
returns-17 c =
    (sym (ap (λ (k : ℕ). length (function_of (kind_at k))) {x = c.args.k} {y = 19} (last-kind c.args.k (omega arith) c.requires.1)), omega arith)

pub function_length_spec : {M : Type 1} → statement M
function_length_spec =
    tie.close
    (tie.spec
    returns
    returns-2
    returns-3
    returns-4
    returns-5
    returns-6
    returns-7
    returns-8
    returns-9
    returns-10
    returns-11
    returns-12
    returns-13
    returns-14
    returns-15
    returns-16
    returns-17)
