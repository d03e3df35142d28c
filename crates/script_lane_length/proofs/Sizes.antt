-- How long the lines of a script by lanes are. Assumes nothing.
use mathlib.Core.Path.{◌≡◌, refl, ap, ◌∙◌}
use mathlib.Core.List.{List, ◌++◌}
use Prim.Native.Nat.{ℕ, ◌+◌}
use native.Mathlib.Numerals.{add-one}
use native.Mathlib.Omega.{arith}
use lib.ListN.{length, length-append}
use Rattle.terms.specs.Display.{bytes, decimal}
use Rattle.pool.specs.Node.{kind_number, width_at}
use Rattle.text_series.specs.Series.{up_to}
use Rattle.script_meaning.specs.Sexp.{show}
use Rattle.script_meaning.specs.Script.{node_name, sort_by, term_of}
use Rattle.script_text.specs.Lines.{declaration_line}
use Rattle.script_length.proofs.Sizes.{size-declarations, claimed}
use Rattle.script_lane_meaning.specs.LaneScript.{lane_of, lane_script_of}
use Rattle.script_lane_text.specs.Lines.{constant_line, equation_line, lines_at, lane_lines}
use Rattle.script_lane_text.proofs.Spelling.{constant-is, equation-is, lanes-are, lines-with, script-lines}

declared : (a b : List ℕ) → length (bytes "(declare-const " ++ (a ++ (bytes " " ++ (b ++ bytes ")\n")))) ≡ length a + length b + 18
declared a b = simp length-append (omega arith)

asserted : (a b : List ℕ) → length (bytes "(assert (= " ++ (a ++ (bytes " " ++ (b ++ bytes "))\n")))) ≡ length a + length b + 15
asserted a b = simp length-append (omega arith)

size-constant : (n w : ℕ) → length (constant_line n w) ≡ length (decimal n) + length (show (sort_by w)) + 19
size-constant n w = ap length (constant-is n w) ∙ declared (node_name n) (show (sort_by w)) ∙ omega arith

size-equation : (ws : List ℕ) (n : ℕ) → length (equation_line ws n) ≡ length (decimal n) + length (show (term_of ws n)) + 16
size-equation ws n = ap length (equation-is ws n) ∙ asserted (node_name n) (show (term_of ws n)) ∙ omega arith

pub size-lines : (ws : List ℕ) (n k w : ℕ) → k ≡ kind_number ws n → (k ≡ 1 → ⊥) → w ≡ width_at ws n
    → length (lines_at ws n) ≡ length (decimal n) + length (decimal n) + length (show (sort_by w)) + length (show (term_of ws n)) + 35
size-lines ws n k w q f e =
    omega (
      arith,
      ap length (lines-with ws n k w q f e),
      length-append (constant_line n w) (equation_line ws n),
      size-constant n w,
      size-equation ws n,
    )

pub next-lines : (ws : List ℕ) (n : ℕ) → length (up_to (n + 1) (lines_at ws)) ≡ length (up_to n (lines_at ws)) + length (lines_at ws n)
unfolding up_to
next-lines ws n = rw (add-one n) (length-append (up_to n (lines_at ws)) (lines_at ws n))

pub no_lines : (ws : List ℕ) → length (up_to 0 (lines_at ws)) ≡ 0
unfolding up_to
no_lines ws = refl

size-lanes : (ws : List ℕ) (x y hi lo : ℕ) → length (lane_lines ws x y hi lo) ≡ length (show (lane_of ws hi lo x)) + length (show (lane_of ws hi lo y)) + 34
size-lanes ws x y hi lo = ap length (lanes-are ws x y hi lo) ∙ claimed (show (lane_of ws hi lo x)) (show (lane_of ws hi lo y))

pub size-script : (ws : List ℕ) (count x y hi lo : ℕ)
    → length (lane_script_of ws count x y hi lo)
    ≡ length (up_to count (lines_at ws)) + (length (show (lane_of ws hi lo x)) + length (show (lane_of ws hi lo y)) + 34) + 1128
size-script ws count x y hi lo =
    let declared = up_to 32 declaration_line in
    let lines = up_to count (lines_at ws) in
    let claim = lane_lines ws x y hi lo in
    omega (
      arith,
      size-declarations,
      size-lanes ws x y hi lo,
      ap length (script-lines ws count x y hi lo),
      length-append (bytes "(set-logic QF_BV)\n") (declared ++ (lines ++ claim)),
      length-append declared (lines ++ claim),
      length-append lines claim,
    )
