-- A record with its saturation bit, from what its calls do. Assumes nothing.
use Prim.Native.Nat.{ℕ, ◌≤◌}
use mathlib.Core.Path.{◌≡◌, sym, subst, ◌∙◌}
use mathlib.Core.List.{List}
use native.Mathlib.Omega.{arith}
use Rattle.neon.specs.declared.Instruction.{Instruction}
use Rattle.neon.specs.Refusal.{Legal}
use Rattle.pool.specs.declared.Node.{Node}
use Rattle.pool.specs.declared.Built.{Built}
use Rattle.pool.specs.Growth.{NodeIs}
use Rattle.pool.proofs.Laws.{is-kept, reach-kept, grown-trans}
use Rattle.block_map.specs.declared.RegisterMap.{RegisterMap}
use Rattle.block_map.specs.Map.{node_of}
use Rattle.block_record.specs.Step.{MapOk, Steps}
use Rattle.block_record.proofs.Recording.{registers-in}
use Rattle.saturation.specs.Bits.{record_bit}
use Rattle.saturation_record.specs.Record.{RecordBit}
use Rattle.saturation_step.specs.Step.{raised, Flags}

pub raised-ok : (m : RegisterMap) (k : ℕ) → m.count ≤ k → MapOk m → MapOk (raised m k)
raised-ok m k h o = record { size = o.size; below = λ r l. omega (arith, o.below r l, h) }

pub flags : {w0 w1 w2 : List ℕ} (m : RegisterMap) (before : Node) (c : Instruction) {r : Built} {after : RegisterMap} {d first second : Node}
    → MapOk m
    → Legal c
    → d.0 ≡ node_of m c.d
    → first.0 ≡ node_of m c.n
    → second.0 ≡ node_of m c.m
    → RecordBit w0 m.count w1 r c.operation c.arrangement c.i d first second before
    → Steps w1 (raised m r.count) w2 after c
    → Flags w0 m before w2 (record { map = after; bit = r.node }) c
unfolding record_bit
flags {w0} {w1} {w2} m before c {r} {after} {d} {first} {second} ok l ed en em e1 e2 =
    let in_map = registers-in c l in
    record {
      long = e2.long ∙ e1.sized.long;
      most = omega (arith, e1.sized, e2.most);
      map_ok = e2.map_ok;
      under = omega (arith, e1.sized.under, e2.more);
      made = λ {t} {b} v x y.
          let m1 = e1.made v (subst (λ (n : ℕ). NodeIs w0 m.count n 128 (t c.d)) (sym ed) (x c.d in_map.0))
          (subst (λ (n : ℕ). NodeIs w0 m.count n 128 (t c.n)) (sym en) (x c.n in_map.1))
          (subst (λ (n : ℕ). NodeIs w0 m.count n 128 (t c.m)) (sym em) (x c.m in_map.2)) y in
          let m2 = e2.made {t = t} m1.valid (λ q h. is-kept m1.grown (x q h)) in
          record {
            grown = grown-trans m1.grown m2.grown;
            valid = m2.valid;
            is = m2.is;
            bit_is = is-kept m2.grown m1.is;
            earlier = reach-kept m2.grown m1.is.under m1.ins_reached.0;
            middle = r.count;
            map_is = e2.map_is;
            added =
                record {
                  from = e1.sized.more;
                  bits = λ q h k. reach-kept m2.grown m1.is.under (m1.all q h k);
                  added = m2.added;
                  most = omega (arith, e1.sized, e2.most);
                };
          };
    }
