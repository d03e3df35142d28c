-- A script, byte for byte. Assumes nothing.
use mathlib.Core.Path.{◌≡◌, refl}
use mathlib.Core.Bool.{true}
use mathlib.Core.List.{List, [], ◌∷◌, ◌++◌}
use Prim.Native.Nat.{ℕ}
use Rattle.terms.specs.Display.{bytes, decimal, digits_to}
use Rattle.pool.specs.Node.{kind_at, kinds}
use Rattle.pool.specs.Rules.{ok_pool, pool_ok}
use Rattle.script_meaning.specs.Sexp.{show, show_lines}
use Rattle.script_meaning.specs.Script.{binary, declarations, definitions, commands_of, script_of}

unfoldable pub pool : List ℕ
pool =
    4303355905 ∷ 0 ∷ 0 ∷ 0 ∷ 8598323201 ∷ 0 ∷ 1 ∷ 0 ∷ 17188257793 ∷ 0 ∷ 2 ∷ 0 ∷ 34368126977 ∷ 0 ∷ 3 ∷ 0 ∷ 68727865345 ∷ 0 ∷ 4 ∷ 0
    ∷ 137447342081 ∷ 0 ∷ 5 ∷ 0 ∷ 274886295553 ∷ 0 ∷ 6 ∷ 0 ∷ 549764202497 ∷ 0 ∷ 7 ∷ 0 ∷ 1099520016385 ∷ 0 ∷ 8 ∷ 0
    ∷ 2199031644161 ∷ 0 ∷ 9 ∷ 0 ∷ 4398054899713 ∷ 0 ∷ 10 ∷ 0 ∷ 8796101410817 ∷ 0 ∷ 11 ∷ 0 ∷ 17592194433025 ∷ 0 ∷ 12 ∷ 0
    ∷ 35184380477441 ∷ 0 ∷ 13 ∷ 0 ∷ 70368752566273 ∷ 0 ∷ 14 ∷ 0 ∷ 140737496743937 ∷ 0 ∷ 15 ∷ 0 ∷ 281474985099265 ∷ 0 ∷ 16 ∷ 0
    ∷ 562949961809921 ∷ 0 ∷ 17 ∷ 0 ∷ 1125899915231233 ∷ 0 ∷ 18 ∷ 0 ∷ 2251799822073857 ∷ 0 ∷ 19 ∷ 0
    ∷ 4503599635759105 ∷ 0 ∷ 20 ∷ 0 ∷ 9007199263129601 ∷ 0 ∷ 21 ∷ 0 ∷ 18014398517870593 ∷ 0 ∷ 22 ∷ 0
    ∷ 36028797027352577 ∷ 0 ∷ 23 ∷ 0 ∷ 72057594046316545 ∷ 0 ∷ 24 ∷ 0 ∷ 144115188084244481 ∷ 0 ∷ 25 ∷ 0
    ∷ 288230376160100353 ∷ 0 ∷ 26 ∷ 0 ∷ 576460752311812097 ∷ 0 ∷ 27 ∷ 0 ∷ 1152921504615235585 ∷ 0 ∷ 28 ∷ 0
    ∷ 2305843009222082561 ∷ 0 ∷ 29 ∷ 0 ∷ 4611686018435776513 ∷ 0 ∷ 30 ∷ 0 ∷ 9223372036863164417 ∷ 0 ∷ 31 ∷ 0
    ∷ 8594128912 ∷ 1 ∷ 63 ∷ 0 ∷ 4194306 ∷ 0 ∷ 1 ∷ 0 ∷ 8594128906 ∷ 2162720 ∷ 0 ∷ 0 ∷ 8594128912 ∷ 1 ∷ 127 ∷ 64
    ∷ 8589934605 ∷ 2293792 ∷ 0 ∷ 0 ∷ 8594128911 ∷ 150326083620 ∷ 0 ∷ 0 ∷ 8598323219 ∷ 37 ∷ 0 ∷ 0 ∷ 8598323218 ∷ 34 ∷ 0 ∷ 0
    ∷ 8598323217 ∷ 2228261 ∷ 0 ∷ 0 ∷ 196610 ∷ 0 ∷ 5 ∷ 0 ∷ 8589934604 ∷ 2555942 ∷ 0 ∷ 0 ∷ 8598323215 ∷ 163211378730 ∷ 0 ∷ 0 ∷ []

-- it passes the pool check
fine : pool_ok pool 44 ≡ true
unfolding pool ok_pool kind_at kinds
fine = refl

-- cuts, a shift, a comparison, choices, extensions, constants, an equation
abbrev written : List ℕ
written =
    bytes "(set-logic QF_BV)\n"
    ++ bytes "(declare-const r0 (_ BitVec 128))\n"
    ++ bytes "(declare-const r1 (_ BitVec 128))\n"
    ++ bytes "(declare-const r2 (_ BitVec 128))\n"
    ++ bytes "(declare-const r3 (_ BitVec 128))\n"
    ++ bytes "(declare-const r4 (_ BitVec 128))\n"
    ++ bytes "(declare-const r5 (_ BitVec 128))\n"
    ++ bytes "(declare-const r6 (_ BitVec 128))\n"
    ++ bytes "(declare-const r7 (_ BitVec 128))\n"
    ++ bytes "(declare-const r8 (_ BitVec 128))\n"
    ++ bytes "(declare-const r9 (_ BitVec 128))\n"
    ++ bytes "(declare-const r10 (_ BitVec 128))\n"
    ++ bytes "(declare-const r11 (_ BitVec 128))\n"
    ++ bytes "(declare-const r12 (_ BitVec 128))\n"
    ++ bytes "(declare-const r13 (_ BitVec 128))\n"
    ++ bytes "(declare-const r14 (_ BitVec 128))\n"
    ++ bytes "(declare-const r15 (_ BitVec 128))\n"
    ++ bytes "(declare-const r16 (_ BitVec 128))\n"
    ++ bytes "(declare-const r17 (_ BitVec 128))\n"
    ++ bytes "(declare-const r18 (_ BitVec 128))\n"
    ++ bytes "(declare-const r19 (_ BitVec 128))\n"
    ++ bytes "(declare-const r20 (_ BitVec 128))\n"
    ++ bytes "(declare-const r21 (_ BitVec 128))\n"
    ++ bytes "(declare-const r22 (_ BitVec 128))\n"
    ++ bytes "(declare-const r23 (_ BitVec 128))\n"
    ++ bytes "(declare-const r24 (_ BitVec 128))\n"
    ++ bytes "(declare-const r25 (_ BitVec 128))\n"
    ++ bytes "(declare-const r26 (_ BitVec 128))\n"
    ++ bytes "(declare-const r27 (_ BitVec 128))\n"
    ++ bytes "(declare-const r28 (_ BitVec 128))\n"
    ++ bytes "(declare-const r29 (_ BitVec 128))\n"
    ++ bytes "(declare-const r30 (_ BitVec 128))\n"
    ++ bytes "(declare-const r31 (_ BitVec 128))\n"
    ++ bytes "(define-fun n32 () (_ BitVec 64) ((_ extract 63 0) r1))\n"
    ++ bytes "(define-fun n33 () (_ BitVec 64) #b0000000000000000000000000000000000000000000000000000000000000001)\n"
    ++ bytes "(define-fun n34 () (_ BitVec 64) (bvlshr n32 n33))\n"
    ++ bytes "(define-fun n35 () (_ BitVec 64) ((_ extract 127 64) r1))\n"
    ++ bytes "(define-fun n36 () Bool (bvult n32 n35))\n"
    ++ bytes "(define-fun n37 () (_ BitVec 64) (ite n36 n34 n35))\n"
    ++ bytes "(define-fun n38 () (_ BitVec 128) ((_ sign_extend 64) n37))\n"
    ++ bytes "(define-fun n39 () (_ BitVec 128) ((_ zero_extend 64) n34))\n"
    ++ bytes "(define-fun n40 () (_ BitVec 128) (concat n37 n34))\n"
    ++ bytes "(define-fun n41 () (_ BitVec 3) #b101)\n"
    ++ bytes "(define-fun n42 () Bool (= n38 n39))\n"
    ++ bytes "(define-fun n43 () (_ BitVec 128) (ite n42 n40 n38))\n"
    ++ bytes "(assert (distinct n43 r0))\n"
    ++ bytes "(check-sat)\n"

example : script_of pool 44 43 0 ≡ written
unfolding pool script_of commands_of declarations definitions show_lines show binary decimal digits_to kind_at kinds
example = refl
