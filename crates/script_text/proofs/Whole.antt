-- A script as its lines, one after the other. Assumes nothing.
use mathlib.Core.Path.{◌≡◌, refl, sym, ap, ◌∙◌}
use mathlib.Core.List.{List, ◌++◌, append_assoc}
use Prim.Native.Nat.{ℕ, zero, suc, ◌+◌}
use native.Mathlib.Nat.{add-zero, zero-add, add-suc, suc-add}
use Rattle.terms.specs.Display.{bytes, decimal, digits_to}
use Rattle.pool.specs.Node.{Kind, bad, var, const, bv, compare, ite, extract, concat, zext, sext, cell_at}
use Rattle.text_series.specs.Series.{up_to}
use Rattle.script_meaning.specs.Sexp.{Sexp, Items, stop, ◌⨾◌, show, show_lines}
use Rattle.script_meaning.specs.Script.{register_name, name_of, sort_by, apply2, declare_const, assertion, check_sat, definition, defined_by, definitions, declarations, commands_of, script_of}
use native.Mathlib.Omega.{arith}
use Rattle.script_text.proofs.Chunks.{long-sort}
use Rattle.script_text.specs.Lines.{line_by, line_at, declaration, declaration_line, claim_lines}

pub lines-by : (κ : Kind) (d : Sexp) (xs : Items) → show_lines (defined_by κ d xs) ≡ line_by κ (show d ++ bytes "\n") ++ show_lines xs
unfolding show_lines
lines-by bad d xs = sym (append_assoc (show d) (bytes "\n") (show_lines xs))
lines-by var d xs = refl
lines-by const d xs = sym (append_assoc (show d) (bytes "\n") (show_lines xs))
lines-by (bv o) d xs = sym (append_assoc (show d) (bytes "\n") (show_lines xs))
lines-by (compare o) d xs = sym (append_assoc (show d) (bytes "\n") (show_lines xs))
lines-by ite d xs = sym (append_assoc (show d) (bytes "\n") (show_lines xs))
lines-by extract d xs = sym (append_assoc (show d) (bytes "\n") (show_lines xs))
lines-by concat d xs = sym (append_assoc (show d) (bytes "\n") (show_lines xs))
lines-by zext d xs = sym (append_assoc (show d) (bytes "\n") (show_lines xs))
lines-by sext d xs = sym (append_assoc (show d) (bytes "\n") (show_lines xs))

module _ (ws : List ℕ) (rest : Items) where
  definitions-from : (k n : ℕ) → up_to n (line_at ws) ++ show_lines (definitions ws k n rest) ≡ up_to (n + k) (line_at ws) ++ show_lines rest
  unfolding definitions up_to line_at
  definitions-from zero n = rw (add-zero n)
  definitions-from (suc k) n =
      ap (λ (s : List ℕ). up_to n (line_at ws) ++ s) (lines-by (cell_at ws n).kind (definition ws n) (definitions ws k (suc n) rest))
      ∙ sym (append_assoc (up_to n (line_at ws)) (line_by (cell_at ws n).kind (show (definition ws n) ++ bytes "\n")) (show_lines (definitions ws k (suc n) rest)))
      ∙ definitions-from k (suc n)
      ∙ ap (λ (j : ℕ). up_to j (line_at ws) ++ show_lines rest) (suc-add n k ∙ sym (add-suc n k))

  definitions-lines : (k : ℕ) → show_lines (definitions ws k 0 rest) ≡ up_to k (line_at ws) ++ show_lines rest
  unfolding up_to
  definitions-lines k = definitions-from k 0 ∙ ap (λ (j : ℕ). up_to j (line_at ws) ++ show_lines rest) (zero-add k)

declarations-from : (rest : Items) (k r : ℕ) → up_to r declaration_line ++ show_lines (declarations k r rest) ≡ up_to (r + k) declaration_line ++ show_lines rest
unfolding declarations up_to show_lines
declarations-from rest zero r = rw (add-zero r)
declarations-from rest (suc k) r =
    ap (λ (s : List ℕ). up_to r declaration_line ++ s) (sym (append_assoc (show (declaration r)) (bytes "\n") (show_lines (declarations k (suc r) rest))))
    ∙ sym (append_assoc (up_to r declaration_line) (declaration_line r) (show_lines (declarations k (suc r) rest)))
    ∙ declarations-from rest k (suc r)
    ∙ ap (λ (j : ℕ). up_to j declaration_line ++ show_lines rest) (suc-add r k ∙ sym (add-suc r k))

pub declarations-lines : (rest : Items) (k : ℕ) → show_lines (declarations k 0 rest) ≡ up_to k declaration_line ++ show_lines rest
unfolding up_to
declarations-lines rest k = declarations-from rest k 0 ∙ ap (λ (j : ℕ). up_to j declaration_line ++ show_lines rest) (zero-add k)

-- the whole text: a first line, 32 declarations, a line for each node that is no Var, and the last two
pub script-lines : (ws : List ℕ) (count x y : ℕ)
    → script_of ws count x y ≡ bytes "(set-logic QF_BV)\n" ++ (up_to 32 declaration_line ++ (up_to count (line_at ws) ++ claim_lines ws x y))
unfolding script_of commands_of show_lines show
script-lines ws count x y =
    let claim = assertion (apply2 (bytes "distinct") (name_of ws x) (name_of ws y)) ⨾ check_sat ⨾ stop in
    ap (λ (s : List ℕ). bytes "(set-logic QF_BV)\n" ++ s)
    (declarations-lines (definitions ws count 0 claim) 32 ∙ ap (λ (s : List ℕ). up_to 32 declaration_line ++ s) (definitions-lines ws claim count))

all-bits : decimal 128 ≡ bytes "128"
unfolding decimal digits_to
all-bits = refl

pub declared : (n : List ℕ) (s : Sexp) → show (declare_const n s) ++ bytes "\n" ≡ bytes "(declare-const " ++ (n ++ (bytes " " ++ (show s ++ bytes ")\n")))
unfolding show
declared n s = simp append_assoc

pub declaration-is : (r : ℕ) → declaration_line r ≡ bytes "(declare-const " ++ (register_name r ++ bytes " (_ BitVec 128))\n")
declaration-is r =
    let sort : show (sort_by 128) ≡ bytes "(_ BitVec 128)" =
    long-sort 128 (λ e. omega arith) ∙ ap (λ (d : List ℕ). bytes "(_ BitVec " ++ (d ++ bytes ")")) all-bits in
    declared (register_name r) (sort_by 128)
    ∙ ap (λ (s : List ℕ). bytes "(declare-const " ++ (register_name r ++ (bytes " " ++ (s ++ bytes ")\n")))) sort

pub claim-is : (ws : List ℕ) (x y : ℕ) → claim_lines ws x y ≡ bytes "(assert (distinct " ++ (name_of ws x ++ (bytes " " ++ (name_of ws y ++ bytes "))\n(check-sat)\n")))
unfolding show
claim-is ws x y = simp append_assoc
