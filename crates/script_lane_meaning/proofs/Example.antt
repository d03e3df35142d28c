-- A script by lanes, byte for byte, of the pool whose script S-1's example is. Assumes nothing.
use mathlib.Core.Path.{◌≡◌, refl}
use mathlib.Core.List.{List, ◌++◌}
use Prim.Native.Nat.{ℕ}
use Rattle.terms.specs.Display.{bytes, decimal, digits_to}
use Rattle.pool.specs.Node.{kind_at, kinds}
use Rattle.script_meaning.specs.Sexp.{show, show_lines}
use Rattle.script_meaning.specs.Script.{binary, declarations}
use Rattle.script_meaning.proofs.Example.{pool}
use Rattle.script_lane_meaning.specs.LaneScript.{equations, lane_commands, lane_script_of}

abbrev written : List ℕ
written =
    bytes "(set-logic QF_BV)\n"
    ++ bytes "(declare-const r0 (_ BitVec 128))\n"
    ++ bytes "(declare-const r1 (_ BitVec 128))\n"
    ++ bytes "(declare-const r2 (_ BitVec 128))\n"
    ++ bytes "(declare-const r3 (_ BitVec 128))\n"
    ++ bytes "(declare-const r4 (_ BitVec 128))\n"
    ++ bytes "(declare-const r5 (_ BitVec 128))\n"
    ++ bytes "(declare-const r6 (_ BitVec 128))\n"
    ++ bytes "(declare-const r7 (_ BitVec 128))\n"
    ++ bytes "(declare-const r8 (_ BitVec 128))\n"
    ++ bytes "(declare-const r9 (_ BitVec 128))\n"
    ++ bytes "(declare-const r10 (_ BitVec 128))\n"
    ++ bytes "(declare-const r11 (_ BitVec 128))\n"
    ++ bytes "(declare-const r12 (_ BitVec 128))\n"
    ++ bytes "(declare-const r13 (_ BitVec 128))\n"
    ++ bytes "(declare-const r14 (_ BitVec 128))\n"
    ++ bytes "(declare-const r15 (_ BitVec 128))\n"
    ++ bytes "(declare-const r16 (_ BitVec 128))\n"
    ++ bytes "(declare-const r17 (_ BitVec 128))\n"
    ++ bytes "(declare-const r18 (_ BitVec 128))\n"
    ++ bytes "(declare-const r19 (_ BitVec 128))\n"
    ++ bytes "(declare-const r20 (_ BitVec 128))\n"
    ++ bytes "(declare-const r21 (_ BitVec 128))\n"
    ++ bytes "(declare-const r22 (_ BitVec 128))\n"
    ++ bytes "(declare-const r23 (_ BitVec 128))\n"
    ++ bytes "(declare-const r24 (_ BitVec 128))\n"
    ++ bytes "(declare-const r25 (_ BitVec 128))\n"
    ++ bytes "(declare-const r26 (_ BitVec 128))\n"
    ++ bytes "(declare-const r27 (_ BitVec 128))\n"
    ++ bytes "(declare-const r28 (_ BitVec 128))\n"
    ++ bytes "(declare-const r29 (_ BitVec 128))\n"
    ++ bytes "(declare-const r30 (_ BitVec 128))\n"
    ++ bytes "(declare-const r31 (_ BitVec 128))\n"
    ++ bytes "(declare-const n32 (_ BitVec 64))\n"
    ++ bytes "(assert (= n32 ((_ extract 63 0) r1)))\n"
    ++ bytes "(declare-const n33 (_ BitVec 64))\n"
    ++ bytes "(assert (= n33 #b0000000000000000000000000000000000000000000000000000000000000001))\n"
    ++ bytes "(declare-const n34 (_ BitVec 64))\n"
    ++ bytes "(assert (= n34 (bvlshr n32 n33)))\n"
    ++ bytes "(declare-const n35 (_ BitVec 64))\n"
    ++ bytes "(assert (= n35 ((_ extract 127 64) r1)))\n"
    ++ bytes "(declare-const n36 Bool)\n"
    ++ bytes "(assert (= n36 (bvult n32 n35)))\n"
    ++ bytes "(declare-const n37 (_ BitVec 64))\n"
    ++ bytes "(assert (= n37 (ite n36 n34 n35)))\n"
    ++ bytes "(declare-const n38 (_ BitVec 128))\n"
    ++ bytes "(assert (= n38 ((_ sign_extend 64) n37)))\n"
    ++ bytes "(declare-const n39 (_ BitVec 128))\n"
    ++ bytes "(assert (= n39 ((_ zero_extend 64) n34)))\n"
    ++ bytes "(declare-const n40 (_ BitVec 128))\n"
    ++ bytes "(assert (= n40 (concat n37 n34)))\n"
    ++ bytes "(declare-const n41 (_ BitVec 3))\n"
    ++ bytes "(assert (= n41 #b101))\n"
    ++ bytes "(declare-const n42 Bool)\n"
    ++ bytes "(assert (= n42 (= n38 n39)))\n"
    ++ bytes "(declare-const n43 (_ BitVec 128))\n"
    ++ bytes "(assert (= n43 (ite n42 n40 n38)))\n"
    ++ bytes "(assert (distinct ((_ extract 127 120) n43) ((_ extract 127 120) r0)))\n"
    ++ bytes "(check-sat)\n"

example : lane_script_of pool 44 43 0 127 120 ≡ written
unfolding pool lane_script_of lane_commands declarations equations show_lines show binary decimal digits_to kind_at kinds
example = refl
