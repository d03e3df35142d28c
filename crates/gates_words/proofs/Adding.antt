-- The adder of words, a full adder a turn: the low bits of the sum and the carry out of them. Assumes nothing.
use mathlib.Core.Path.{◌≡◌}
use mathlib.Core.Bool.{Bool, true, false}
use mathlib.Core.List.{List}
use Prim.Native.Nat.{ℕ, ◌+◌, ◌*◌, ◌^◌, ◌<◌}
use native.Mathlib.Nat.{pow-suc}
use native.Mathlib.Numerals.{add-one}
use native.Mathlib.Omega.{arith}
use lib.ListN.{length, get_or}
use Rattle.terms.specs.Value.{bit}
use Rattle.gates.specs.Graph.{truth}
use Rattle.gates.specs.Grow.{Under}
use Rattle.gates_build.specs.declared.Made.{Made}
use Rattle.gates_build.specs.Adds.{differ, most}
use Rattle.gates_words.specs.Number.{sum, bit_at, number}
use Rattle.gates_words.specs.Words.{Operand}
use Rattle.gates_words.specs.Adds.{PutsSum, Adds}
use Rattle.gates_words.proofs.Sums.{sum-next}
use Rattle.gates_words.proofs.Loops.{run_none, run_more, number_more, place-truth}

-- the column of a sum: its bit and its carry
times : (p : ℕ) (x y z : Bool) → bit (differ (differ x y) z) * p + bit (most x y z) * (p * 2) ≡ bit x * p + bit y * p + bit z * p
times p true true true = omega arith
times p true true false = omega arith
times p true false true = omega arith
times p true false false = omega arith
times p false true true = omega arith
times p false true false = omega arith
times p false false true = omega arith
times p false false false = omega arith

pub adds_none : (g : List ℕ) (k : ℕ) (bits : List ℕ) (r : Made) (a b out : ℕ) → Under r.literal k → r.count ≡ k
    → Adds g k bits g r bits a b r.literal out 0
unfolding sum
adds_none g k bits r a b out u e =
    record { run = rw e (run_none g k bits out); carry_under = omega (arith, u, e); is = λ start. omega arith }

next-column : (p n a b c : ℕ) (x y z : Bool) → n + bit z * p ≡ a + b + c
    → n + bit (differ (differ x y) z) * p + bit (most x y z) * (p * 2) ≡ a + bit x * p + (b + bit y * p) + c
next-column p n a b c x y z e = omega (arith, times p x y z)

pub adds-more : {g bits h new h' new' : List ℕ} {k out i : ℕ} {r r' : Made} {a b carry w : ℕ} → Adds g k bits h r new a b carry out i
    → out + i < length bits → i < w → Operand bits a out w k → Operand bits b out w k
    → PutsSum h r.count new h' r' new' (out + i) (get_or new (a + i) 0) (get_or new (b + i) 0) r.literal
    → Adds g k bits h' r' new' a b carry out (i + 1)
adds-more {g} {bits} {h} {new} {h'} {new'} {out = out} {i = i} {r = r} {a = a} {b = b} {carry = carry} e inside l oa ob p =
    record {
      run = run_more e.run inside p.0 (omega arith);
      carry_under = p.1.under;
      is = λ start.
          let x = place-truth e.run start oa l in
          let y = place-truth e.run start ob l in
          let z = truth start h r.literal in
          rw (
            number_more e.run inside p.0 start,
            p.1.is start,
            sum-next (bit_at start g bits a) i,
            sum-next
                (bit_at start g bits b) i,
            x,
            y,
            add-one i,
            pow-suc 2 i,
          )
          (next-column (2 ^ i) (number start h new out i) (number start g bits a i) (number start g bits b i) (bit (truth start g carry))
          (bit_at start g bits a i)
          (bit_at start g bits b i) z (e.is start));
    }
