-- The lines of a script by lanes, in the pieces in which they are written. Assumes nothing.
use mathlib.Core.Path.{◌≡◌, sym, ap, ◌∙◌}
use mathlib.Core.List.{List, [], ◌++◌, append_assoc}
use Prim.Native.Nat.{ℕ, zero, suc, ◌+◌}
use native.Mathlib.Nat.{add-zero, zero-add, add-suc, suc-add}
use Rattle.terms.specs.Display.{bytes}
use Rattle.pool.specs.Node.{Kind, width_at, kind_at, kind_number, cell_at}
use Rattle.text_series.specs.Series.{up_to}
use Rattle.script_meaning.specs.Sexp.{Items, stop, ◌⨾◌, show, show_lines}
use Rattle.script_meaning.specs.Script.{node_name, sort_by, term_of, defined_by, check_sat}
use Rattle.script_text.specs.Lines.{line_by, declaration_line}
use Rattle.script_text.proofs.Spelling.{kind-one, not-one, line_other}
use Rattle.script_text.proofs.Whole.{lines-by, declarations-lines, declared}
use Rattle.script_lane_meaning.specs.LaneScript.{constant, equation, equations, lane_of, lane_claim, lane_commands, lane_script_of}
use Rattle.script_lane_text.specs.Lines.{constant_line, equation_line, lines_at, lane_lines}

pub constant-is : (n w : ℕ) → constant_line n w ≡ bytes "(declare-const " ++ (node_name n ++ (bytes " " ++ (show (sort_by w) ++ bytes ")\n")))
constant-is n w = declared (node_name n) (sort_by w)

pub equation-is : (ws : List ℕ) (n : ℕ) → equation_line ws n ≡ bytes "(assert (= " ++ (node_name n ++ (bytes " " ++ (show (term_of ws n) ++ bytes "))\n")))
unfolding show
equation-is ws n = simp append_assoc

pub lanes-are : (ws : List ℕ) (x y hi lo : ℕ)
    → lane_lines ws x y hi lo ≡ bytes "(assert (distinct " ++ (show (lane_of ws hi lo x) ++ (bytes " " ++ (show (lane_of ws hi lo y) ++ bytes "))\n(check-sat)\n")))
unfolding show
lanes-are ws x y hi lo = simp append_assoc

-- ---- a node's lines

module _ (ws : List ℕ) (n : ℕ) where
  pub no_lines : kind_number ws n ≡ 1 → lines_at ws n ≡ []
  unfolding lines_at
  no_lines e = ap (λ (κ : Kind). line_by κ (show (constant ws n) ++ bytes "\n") ++ line_by κ (equation_line ws n)) (kind-one (kind_number ws n) e)

  pub lines-with : (k w : ℕ) → k ≡ kind_number ws n → (k ≡ 1 → ⊥) → w ≡ width_at ws n → lines_at ws n ≡ constant_line n w ++ equation_line ws n
  unfolding lines_at
  lines-with k w q f e =
      let v = not-one (kind_number ws n) (λ z. f (q ∙ z)) in
      let κ = kind_at (kind_number ws n) in
      ap (λ (s : List ℕ). s ++ line_by κ (equation_line ws n)) (line_other κ (show (constant ws n) ++ bytes "\n") v)
      ∙ ap (λ (s : List ℕ). (show (constant ws n) ++ bytes "\n") ++ s) (line_other κ (equation_line ws n) v)
      ∙ ap (λ (w : ℕ). constant_line n w ++ equation_line ws n) (sym e)

-- ---- the whole

module _ (ws : List ℕ) (rest : Items) where
  node_lines : (k n : ℕ) → show_lines (equations ws (suc k) n rest) ≡ lines_at ws n ++ show_lines (equations ws k (suc n) rest)
  unfolding equations lines_at
  node_lines k n =
      let κ = (cell_at ws n).kind in
      let more = equations ws k (suc n) rest in
      let first = line_by κ (show (constant ws n) ++ bytes "\n") in
      lines-by κ (constant ws n) (defined_by κ (equation ws n) more)
      ∙ ap (λ (s : List ℕ). first ++ s) (lines-by κ (equation ws n) more)
      ∙ sym (append_assoc first (line_by κ (equation_line ws n)) (show_lines more))

  equations-from : (k n : ℕ) → up_to n (lines_at ws) ++ show_lines (equations ws k n rest) ≡ up_to (n + k) (lines_at ws) ++ show_lines rest
  unfolding up_to
  equations-from zero n = unfold equations in rw (add-zero n)
  equations-from (suc k) n =
      ap (λ (s : List ℕ). up_to n (lines_at ws) ++ s) (node_lines k n)
      ∙ sym (append_assoc (up_to n (lines_at ws)) (lines_at ws n) (show_lines (equations ws k (suc n) rest)))
      ∙ equations-from k (suc n)
      ∙ ap (λ (j : ℕ). up_to j (lines_at ws) ++ show_lines rest) (suc-add n k ∙ sym (add-suc n k))

  equations-lines : (k : ℕ) → show_lines (equations ws k 0 rest) ≡ up_to k (lines_at ws) ++ show_lines rest
  unfolding up_to
  equations-lines k = equations-from k 0 ∙ ap (λ (j : ℕ). up_to j (lines_at ws) ++ show_lines rest) (zero-add k)

-- a first line, 32 declarations, two lines for each node that is no Var, and the last two
pub script-lines : (ws : List ℕ) (count x y hi lo : ℕ)
    → lane_script_of ws count x y hi lo ≡ bytes "(set-logic QF_BV)\n" ++ (up_to 32 declaration_line ++ (up_to count (lines_at ws) ++ lane_lines ws x y hi lo))
unfolding lane_script_of lane_commands show_lines show
script-lines ws count x y hi lo =
    let claim = lane_claim ws x y hi lo ⨾ check_sat ⨾ stop in
    ap (λ (s : List ℕ). bytes "(set-logic QF_BV)\n" ++ s)
    (declarations-lines (equations ws count 0 claim) 32 ∙ ap (λ (s : List ℕ). up_to 32 declaration_line ++ s) (equations-lines ws claim count))
