-- What a node's name is, by its kind's number. Assumes nothing.
use mathlib.Core.Path.{◌≡◌, refl, sym, ap, ◌∙◌}
use mathlib.Core.Bool.{Bool, true, false, false≢true}
use mathlib.Core.List.{List, [], ◌++◌}
use mathlib.Core.Logic.{⊎_elim}
use Prim.Native.Nat.{ℕ, suc, ◌≤◌, ◌<◌}
use native.Mathlib.Nat.{eq-or-lt_of_le}
use native.Mathlib.Omega.{arith}
use Rattle.terms.specs.Display.{bytes}
use Rattle.pool.specs.Node.{Kind, bad, var, const, bv, compare, ite, extract, concat, zext, sext, width_at, kind_at, kinds, kind_number, word_at, code_of, cell_at}
use Rattle.pool.proofs.Facts.{kind-code}
use Rattle.script_meaning.specs.Sexp.{show}
use Rattle.script_meaning.specs.Script.{register_name, node_name, name_by, name_of, sort_by, term_of, definition}
use Rattle.script_text.specs.Lines.{line_by, line_at}
use Rattle.script_text.proofs.Chunks.{line}
use Rattle.script_meaning.proofs.Vars.{is_var, is-var, name-other}

pub kind-one : (k : ℕ) → k ≡ 1 → kind_at k ≡ var
unfolding kind_at kinds
kind-one k e = rw e

pub not-one : (k : ℕ) → (k ≡ 1 → ⊥) → is_var (kind_at k) ≡ false
not-one k f = go (is_var (kind_at k)) refl
  where
    go : (b : Bool) → is_var (kind_at k) ≡ b → is_var (kind_at k) ≡ false
    go false e = e
    go true e =
        let v : kind_at k ≡ var = is-var (kind_at k) e in
        absurd
        (⊎_elim (λ z. let q : ◌≡◌ {A = ℕ} 0 1 = ap code_of (sym z ∙ v) in omega arith) (λ z. f (sym z ∙ ap code_of v)) (kind-code k))

module _ (ws : List ℕ) (n : ℕ) where
  pub register-named : kind_number ws n ≡ 1 → name_of ws n ≡ register_name (word_at ws n 2)
  register-named e = ap (λ (κ : Kind). name_by κ (cell_at ws n) n) (kind-one (kind_number ws n) e)

  pub node-named : (kind_number ws n ≡ 1 → ⊥) → name_of ws n ≡ node_name n
  node-named f = name-other (cell_at ws n).kind (cell_at ws n) n (not-one (kind_number ws n) f)

pub above : (k j : ℕ) → j ≤ k → (k ≡ j → ⊥) → suc j ≤ k
above k j h f = ⊎_elim (λ e. absurd (f (sym e))) (λ l. l) (eq-or-lt_of_le h)

pub last-kind : (k : ℕ) → 19 ≤ k → k < 20 → k ≡ 19
last-kind k h l = omega arith

-- ---- the line of a node

pub line_other : (κ : Kind) (s : List ℕ) → is_var κ ≡ false → line_by κ s ≡ s
line_other bad s h = refl
line_other var s h = absurd (false≢true (sym h))
line_other const s h = refl
line_other (bv o) s h = refl
line_other (compare o) s h = refl
line_other ite s h = refl
line_other extract s h = refl
line_other concat s h = refl
line_other zext s h = refl
line_other sext s h = refl

module _ (ws : List ℕ) (n : ℕ) where
  pub no_line : kind_number ws n ≡ 1 → line_at ws n ≡ []
  unfolding line_at
  no_line e = ap (λ (κ : Kind). line_by κ (show (definition ws n) ++ bytes "\n")) (kind-one (kind_number ws n) e)

  pub line_of : (kind_number ws n ≡ 1 → ⊥)
      → line_at ws n ≡ bytes "(define-fun " ++ (node_name n ++ (bytes " () " ++ (show (sort_by (width_at ws n)) ++ (bytes " " ++ (show (term_of ws n) ++ bytes ")\n")))))
  unfolding line_at
  line_of f =
      line_other (kind_at (kind_number ws n)) (show (definition ws n) ++ bytes "\n") (not-one (kind_number ws n) f)
      ∙ line (node_name n) (sort_by (width_at ws n)) (term_of ws n)

  pub line-with : (k w : ℕ) → k ≡ kind_number ws n → (k ≡ 1 → ⊥) → w ≡ width_at ws n
      → line_at ws n ≡ bytes "(define-fun " ++ (node_name n ++ (bytes " () " ++ (show (sort_by w) ++ (bytes " " ++ (show (term_of ws n) ++ bytes ")\n")))))
  line-with k w q f e =
      line_of (λ z. f (q ∙ z))
      ∙ ap (λ (w : ℕ). bytes "(define-fun " ++ (node_name n ++ (bytes " () " ++ (show (sort_by w) ++ (bytes " " ++ (show (term_of ws n) ++ bytes ")\n")))))) (sym e)
