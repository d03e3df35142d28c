-- How long the parts of a script are. Assumes nothing.
use mathlib.Core.Path.{◌≡◌, refl, sym, ap, ◌∙◌, subst}
use mathlib.Core.List.{List, ◌++◌}
use Prim.Native.Nat.{ℕ, ◌+◌, ◌<◌}
use native.Mathlib.Numerals.{add-one}
use native.Mathlib.Omega.{arith}
use lib.ListN.{length, length-append}
use Rattle.terms.specs.Display.{bytes, decimal, digits_to}
use Rattle.pool.specs.Node.{kind_number, width_at, word_at}
use Rattle.text_parts.proofs.Operands.{ready_of}
use Rattle.text_series.specs.Series.{up_to}
use Rattle.script_meaning.specs.Sexp.{show, show_all, show_more}
use Rattle.script_meaning.proofs.Numbers.{binary-length}
use Rattle.script_meaning.specs.Script.{binary, name_of, sort_by, apply1, apply2, apply3, index1, index2, term_of, script_of}
use Rattle.script_text.specs.Lines.{line_at, declaration_line, claim_lines}
use Rattle.script_text.proofs.Chunks.{applied-2, applied-3, indexed-1, indexed-2, short-sort, long-sort}
use Rattle.script_text.proofs.Spelling.{register-named, node-named, line-with}
use Rattle.script_text.proofs.Whole.{script-lines, claim-is}
use Rattle.script_length.specs.Answer.{Named}

-- ---- pieces

pub size-2 : (f a b : List ℕ) → length (show (apply2 f a b)) ≡ length f + length a + length b + 4
size-2 f a b = omega (arith, simp length-append at (ap length (applied-2 f a b)))

pub size-3 : (a b c : List ℕ) → length (show (apply3 (bytes "ite") a b c)) ≡ length a + length b + length c + 8
size-3 a b c = omega (arith, simp length-append at (ap length (applied-3 (bytes "ite") a b c)))

pub size-cut : (a : List ℕ) (i j : ℕ) → length (show (apply1 (index2 (bytes "extract") i j) a)) ≡ length (decimal i) + length (decimal j) + length a + 16
size-cut a i j = omega (arith, simp length-append at (ap length (indexed-2 (bytes "extract") a i j)))

pub size-extension : (f a : List ℕ) (i : ℕ) → length (show (apply1 (index1 f i) a)) ≡ length f + length (decimal i) + length a + 8
size-extension f a i = omega (arith, simp length-append at (ap length (indexed-1 f a i)))

pub size-bool : (w : ℕ) → w ≡ 0 → length (show (sort_by w)) ≡ 4
size-bool w e = ap length (short-sort w e)

pub size-vector : (w : ℕ) → (w ≡ 0 → ⊥) → length (show (sort_by w)) ≡ length (decimal w) + 11
size-vector w f = omega (arith, simp length-append at (ap length (long-sort w f)))

pub size-constant : (w v : ℕ) → length (bytes "#b" ++ binary w v) ≡ w + 2
size-constant w v = omega (arith, binary-length w v, length-append (bytes "#b") (binary w v))

-- ---- names and lines

module _ (ws : List ℕ) (n : ℕ) where
  pub size-register : kind_number ws n ≡ 1 → length (name_of ws n) ≡ length (decimal (word_at ws n 2)) + 1
  size-register e = omega (arith, simp length-append at (ap length (register-named ws n e)))

  pub size-node : (kind_number ws n ≡ 1 → ⊥) → length (name_of ws n) ≡ length (decimal n) + 1
  size-node f = omega (arith, simp length-append at (ap length (node-named ws n f)))

  pub size-line : (k w : ℕ) → k ≡ kind_number ws n → (k ≡ 1 → ⊥) → w ≡ width_at ws n
      → length (line_at ws n) ≡ length (decimal n) + length (show (sort_by w)) + length (show (term_of ws n)) + 20
  size-line k w q f e = omega (arith, simp length-append at (ap length (line-with ws n k w q f e)))

-- ---- operands

named : {ws : List ℕ} {n m : ℕ} → Named ws n → m < n → Named ws m
named {ws} {n} {m} r l = record {
  ready = ready_of ws (n + 1) m r.ready.valid (omega arith) (omega (arith, r.ready.inside));
  small = omega (arith, r.small);
}

pub named-as : {ws : List ℕ} {n m j : ℕ} → Named ws n → m < n → j ≡ m → Named ws j
named-as {ws} r l e = subst (λ (z : ℕ). Named ws z) (sym e) (named r l)

-- ---- the whole

pub next-line : (ws : List ℕ) (n : ℕ) → length (up_to (n + 1) (line_at ws)) ≡ length (up_to n (line_at ws)) + length (line_at ws n)
unfolding up_to
next-line ws n = rw (add-one n) (length-append (up_to n (line_at ws)) (line_at ws n))

pub no_lines : (ws : List ℕ) → length (up_to 0 (line_at ws)) ≡ 0
unfolding up_to
no_lines ws = refl

pub size-declarations : length (up_to 32 declaration_line) ≡ 1110
unfolding up_to decimal digits_to show show_all show_more
size-declarations = refl

pub claimed : (a b : List ℕ) → length (bytes "(assert (distinct " ++ (a ++ (bytes " " ++ (b ++ bytes "))\n(check-sat)\n")))) ≡ length a + length b + 34
claimed a b = simp length-append (omega arith)

size-claim : (ws : List ℕ) (x y : ℕ) → length (claim_lines ws x y) ≡ length (name_of ws x) + length (name_of ws y) + 34
size-claim ws x y = ap length (claim-is ws x y) ∙ claimed (name_of ws x) (name_of ws y)

pub size-script : (ws : List ℕ) (count x y : ℕ)
    → length (script_of ws count x y) ≡ length (up_to count (line_at ws)) + (length (name_of ws x) + length (name_of ws y) + 34) + 1128
size-script ws count x y =
    let declared = up_to 32 declaration_line in
    let lines = up_to count (line_at ws) in
    let claim = claim_lines ws x y in
    omega (
      arith,
      size-declarations,
      size-claim ws x y,
      ap length (script-lines ws count x y),
      length-append (bytes "(set-logic QF_BV)\n") (declared ++ (lines ++ claim)),
      length-append declared (lines ++ claim),
      length-append lines claim,
    )
