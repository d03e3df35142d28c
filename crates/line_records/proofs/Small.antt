-- The numbers of a legal record fit their columns, and its line has 25 bytes. Assumes nothing.
use mathlib.Core.Path.{◌≡◌}
use mathlib.Core.Bool.{Bool, true, false, cond}
use Prim.Native.Nat.{◌<◌}
use native.Mathlib.Omega.{arith}
use lib.ListN.{length}
use Rattle.neon.specs.declared.Instruction.{Instruction}
use Rattle.neon.specs.Op.{Op, op_at, Arrangement, B8, B16, H4, H8, S2, S4, D2, arrangement_at, bits_of_lane}
use Rattle.neon.specs.Form.{Immediate, None, Left, Right, Element, most_of, form, has_second, most}
use Rattle.neon.specs.Refusal.{Legal, most_m, short_element}
use Rattle.neon.proofs.Geometry.{sized}
use Rattle.neon.proofs.Legal.{accepted}
use Rattle.line_columns.proofs.Characters.{columns-are}
use Rattle.line_records.specs.Line.{line}

most-of : (K : Immediate) (v : Arrangement) → most_of K (bits_of_lane v) < 10000
most-of None v = omega arith
most-of Left v = omega (arith, (sized v).most)
most-of Right v = omega (arith, (sized v).most)
most-of Element B8 = omega arith
most-of Element B16 = omega arith
most-of Element H4 = omega arith
most-of Element H8 = omega arith
most-of Element S2 = omega arith
most-of Element S4 = omega arith
most-of Element D2 = omega arith

pub most-small : (o : Op) (v : Arrangement) → most o (bits_of_lane v) < 10000
most-small o v = most-of (form o).immediate v

second-small : (o : Op) (v : Arrangement) → most_m o v < 10000
second-small o v = go (has_second o) (short_element o v)
  where
    go : (s e : Bool) → cond s (cond e 15 31) 0 < 10000
    go true true = omega arith
    go true false = omega arith
    go false e = omega arith

pub record Small (c : Instruction) : Type 0 where
  pub operation-small : c.operation < 10000
  pub arrangement-small : c.arrangement < 10000
  pub i-small : c.i < 10000
  pub d_small : c.d < 10000
  pub n-small : c.n < 10000
  pub m-small : c.m < 10000

pub small : (c : Instruction) → Legal c → Small c
small c h =
    let a = accepted c h in
    let f = a.form_of in
    let o = op_at c.operation in
    let v = arrangement_at c.arrangement in
    record {
      operation-small = omega (arith, f.to_last);
      arrangement-small = omega (arith, f.arranged);
      i-small = omega (arith, f.high, most-small o v);
      d_small = omega (arith, a.at-d);
      n-small = omega (arith, a.at_n);
      m-small = omega (arith, a.at-m, second-small o v);
    }

pub line-length : (c : Instruction) → Legal c → length (line c) ≡ 25
line-length c h =
    let s = small c h in
    rw (
      columns-are c.operation s.operation-small,
      columns-are c.arrangement s.arrangement-small,
      columns-are c.i s.i-small,
      columns-are c.d s.d_small,
      columns-are c.n s.n-small,
      columns-are c.m s.m-small,
    )
