-- `term_length` gives the length of a node's term, by its kind, at most 131.
use mathlib.Core.Path.{sym, ap, ◌∙◌}
use native.Mathlib.Omega.{arith}
use Prim.Native.Nat.{ℕ, ◌-◌, ◌≤◌}
use mathlib.Core.List.{List}
use lib.ListN.{length}
use Rattle.terms.specs.Display.{bytes}
use Rattle.pool.specs.Node.{kind_at, width_at, word_at, wide}
use Rattle.script_meaning.specs.Sexp.{Sexp, show}
use Rattle.script_meaning.specs.Script.{name_of, function_of, apply1, apply2, apply3, index1, index2}
use Rattle.script_text.proofs.Nodes.{constant, three-of, cut_of, two-of, extension-of, extension-term, kind-below}
use Rattle.text_parts.proofs.Operands.{range_small, width_small}
use Rattle.script_length.proofs.Sizes.{named-as, size-constant}
use borrow.Author.Rules.{rules}
use Rattle.script_length.proofs.term_length.Statement.{statement}
use Rattle.script_length.proofs.term_length.Tie as tie

-- ---- the node that is measured, and places: where its kind is known, and the entry from there

abbrev ws : tie.Start → List ℕ
ws s = s.args.p.now

abbrev n : tie.Start → ℕ
n s = s.args.n.0

abbrev k : tie.Start → ℕ
k s = s.args.k

from-three : (c : tie.After-second-then-k-lt-ZERO_EXTEND) → 3 ≤ k c.before.before.before.before.before.before.before
from-three c = omega (arith, c.requires.2, c.if-k-eq-CONST.false)

-- ---- needs

width-of-requires : tie.Need-width_of-requires
width-of-requires c κs = search rules

add-result : tie.Need-overflow_add-result
add-result c = search rules

returns : tie.Need-returns-then-k-eq-CONST
returns c =
    let b = c in
    let s = c in
    let h = constant (ws c.before.before.before) (n c.before.before.before) s.requires.0.ready (k c.before.before.before) s.requires.1 b.if-k-eq-CONST.true in
    let e = c.width_of.ensures.0 in
    let z = ap length h.1 ∙ size-constant (width_at (ws c.before.before.before) (n c.before.before.before)) (wide (word_at (ws c.before.before.before) (n c.before.before.before) 2) (word_at (ws c.before.before.before) (n c.before.before.before) 3)) in
    (omega (arith, e, z), omega (arith, e, h.0))

first-requires : tie.Need-first-requires
first-requires c κs = search rules

second-requires : tie.Need-second-requires
second-requires c κs = search rules

third-requires : tie.Need-third-requires
third-requires c κs = search rules

three-length-requires : tie.Need-three_length-requires
three-length-requires c κs =
    let s = c in
    let R = s.requires.0 in
    let t = three-of (ws c.before.before.before.before.before.before) (n c.before.before.before.before.before.before) R.ready (k c.before.before.before.before.before.before) s.requires.1 c.if-k-eq-ITE.true in
    (named-as R t.0 c.first.ensures, named-as R t.1 c.second.ensures, named-as R t.2 c.third.ensures)

returns-2 : tie.Need-returns-then-k-eq-ITE
returns-2 c =
    let All-three = c in
    let s = c in
    let t = three-of (ws c.before.before.before.before.before.before.before) (n c.before.before.before.before.before.before.before) s.requires.0.ready (k c.before.before.before.before.before.before.before) s.requires.1 All-three.if-k-eq-ITE.true in (
      c.three_length.ensures.0 ∙ (λ j. length (show (apply3 (bytes "ite") (name_of (ws c.before.before.before.before.before.before.before) (All-three.first.ensures j)) (name_of (ws c.before.before.before.before.before.before.before) (All-three.second.ensures j))
          (name_of (ws c.before.before.before.before.before.before.before) (All-three.third.ensures j))))) ∙ sym (ap (λ (u : Sexp). length (show u)) t.3),
      c.three_length.ensures.1,
    )

cut-hi-requires : tie.Need-cut_hi-hi-requires
cut-hi-requires c κs = search rules

cut-lo-requires : tie.Need-cut_lo-lo-requires
cut-lo-requires c κs = search rules

first-requires-2 : tie.Need-first-requires-then-k-eq-EXTRACT
first-requires-2 c κs = search rules

cut-length-requires : tie.Need-cut_length-requires
cut-length-requires c κs =
    let s = c in
    let R = s.requires.0 in
    let i = c.if-k-eq-EXTRACT.true in
    let small = range_small (ws c.before.before.before.before.before.before.before) (n c.before.before.before.before.before.before.before) R.ready (k c.before.before.before.before.before.before.before) s.requires.1 i in (
      named-as R (cut_of (ws c.before.before.before.before.before.before.before) (n c.before.before.before.before.before.before.before) R.ready (k c.before.before.before.before.before.before.before) s.requires.1 i).0 c.first-then-k-eq-EXTRACT.ensures,
      omega (arith, c.cut_hi-hi.ensures, small.0),
      omega (arith, c.cut_lo-lo.ensures, small.1),
    )

returns-3 : tie.Need-returns-then-k-eq-EXTRACT
returns-3 c =
    let bits = c in
    let s = c in
    let t = cut_of (ws c.before.before.before.before.before.before.before.before) (n c.before.before.before.before.before.before.before.before) s.requires.0.ready (k c.before.before.before.before.before.before.before.before) s.requires.1 bits.if-k-eq-EXTRACT.true in (
      c.cut_length.ensures.0 ∙ (λ j. length (show (apply1 (index2 (bytes "extract") (bits.cut_hi-hi.ensures j) (bits.cut_lo-lo.ensures j)) (name_of (ws c.before.before.before.before.before.before.before.before)
          (bits.first-then-k-eq-EXTRACT.ensures j))))) ∙ sym (ap (λ (u : Sexp). length (show u)) t.1),
      c.cut_length.ensures.1,
    )

first-requires-3 : tie.Need-first-requires-then-k-lt-ZERO_EXTEND
first-requires-3 c κs = search rules

second-requires-2 : tie.Need-second-requires-then-k-lt-ZERO_EXTEND
second-requires-2 c κs = search rules

two-length-requires : tie.Need-two_length-requires
two-length-requires c κs =
    let s = c in
    let R = s.requires.0 in
    let l = from-three c in
    let t = two-of (ws c.before.before.before.before.before.before.before) (n c.before.before.before.before.before.before.before) R.ready (k c.before.before.before.before.before.before.before) s.requires.1 l c.if-k-lt-ZERO_EXTEND.true c.if-k-eq-ITE.false c.if-k-eq-EXTRACT.false in
    (l, kind-below (ws c.before.before.before.before.before.before.before) (n c.before.before.before.before.before.before.before) R.ready (k c.before.before.before.before.before.before.before) s.requires.1, named-as R t.less-a c.first-then-k-lt-ZERO_EXTEND.ensures, named-as R t.less-b c.second-then-k-lt-ZERO_EXTEND.ensures)

returns-4 : tie.Need-returns-then-k-lt-ZERO_EXTEND
returns-4 c =
    let both = c in
    let s = c in
    let l = from-three c.before in
    let t = two-of (ws c.before.before.before.before.before.before.before.before) (n c.before.before.before.before.before.before.before.before) s.requires.0.ready (k c.before.before.before.before.before.before.before.before) s.requires.1 l both.if-k-lt-ZERO_EXTEND.true both.if-k-eq-ITE.false both.if-k-eq-EXTRACT.false in (
      c.two_length.ensures.0 ∙ (λ j. length (show (apply2 (function_of (kind_at (k c.before.before.before.before.before.before.before.before))) (name_of (ws c.before.before.before.before.before.before.before.before) (both.first-then-k-lt-ZERO_EXTEND.ensures j)) (name_of (ws c.before.before.before.before.before.before.before.before)
          (both.second-then-k-lt-ZERO_EXTEND.ensures j))))) ∙ sym (ap (λ (u : Sexp). length (show u)) t.term_is),
      c.two_length.ensures.1,
    )

width-of-requires-2 : tie.Need-width_of-requires-2
width-of-requires-2 c κs = search rules

first-requires-4 : tie.Need-first-requires-2
first-requires-4 c κs = search rules

width-of-requires-3 : tie.Need-width_of-requires-3
width-of-requires-3 c κs =
    let s = c in
    let h = extension-of (ws c.before.before.before.before.before.before.before) (n c.before.before.before.before.before.before.before) s.requires.0.ready (k c.before.before.before.before.before.before.before) s.requires.1 c.if-k-lt-ZERO_EXTEND.false in
    omega (arith, c.first-2.ensures, h.less-a, s.requires.0.ready.inside)

sub_by : tie.Need-overflow_sub-by
sub_by c =
    let f = c in
    let a = c in
    let h = extension-of (ws c.before.before.before.before.before.before.before.before) (n c.before.before.before.before.before.before.before.before) a.requires.0.ready (k c.before.before.before.before.before.before.before.before) a.requires.1 f.if-k-lt-ZERO_EXTEND.false in
    let e = c.width_of-3.ensures.0 ∙ ap (width_at (ws c.before.before.before.before.before.before.before.before)) f.first-2.ensures in
    omega (arith, e, f.width_of-2.ensures.0, h.longer)

first-requires-5 : tie.Need-first-requires-3
first-requires-5 c κs = search rules

extension-length-requires : tie.Need-extension_length-requires
extension-length-requires c κs =
    let f = c in
    let s = c in
    let R = s.requires.0 in
    let l = f.if-k-lt-ZERO_EXTEND.false in
    let h = extension-of (ws c.before.before.before.before.before.before.before.before.before) (n c.before.before.before.before.before.before.before.before.before) R.ready (k c.before.before.before.before.before.before.before.before.before) s.requires.1 l in
    let w = width_small (ws c.before.before.before.before.before.before.before.before.before) (n c.before.before.before.before.before.before.before.before.before) R.ready (k c.before.before.before.before.before.before.before.before.before) s.requires.1 in
    (omega (arith, l), kind-below (ws c.before.before.before.before.before.before.before.before.before) (n c.before.before.before.before.before.before.before.before.before) R.ready (k c.before.before.before.before.before.before.before.before.before) s.requires.1, named-as R h.less-a c.first-3.ensures, omega (arith, f.width_of-2.ensures.0, w))

returns-5 : tie.Need-returns
returns-5 c =
    let operand = c in
    let f = c in
    let s = c in
    let e = operand.width_of-3.ensures.0 ∙ ap (width_at (ws c.before.before.before.before.before.before.before.before.before.before)) f.first-2.ensures in
    let g = f.width_of-2.ensures.0 in (
      c.extension_length.ensures.0 ∙ (λ j. length (show (apply1 (index1 (function_of (kind_at (k c.before.before.before.before.before.before.before.before.before.before))) (g j - e j)) (name_of (ws c.before.before.before.before.before.before.before.before.before.before) (operand.first-3.ensures j))))) ∙ sym (ap
          (λ (u : Sexp). length (show u)) (extension-term (ws c.before.before.before.before.before.before.before.before.before.before) (n c.before.before.before.before.before.before.before.before.before.before) s.requires.0.ready (k c.before.before.before.before.before.before.before.before.before.before) s.requires.1 f.if-k-lt-ZERO_EXTEND.false)),
      c.extension_length.ensures.1,
    )

pub term_length_spec : {M : Type 1} → statement M
term_length_spec =
    tie.close
    (tie.spec
    width-of-requires
    add-result
    returns
    first-requires
    second-requires
    third-requires
    three-length-requires
    returns-2
    cut-hi-requires
    cut-lo-requires
    first-requires-2
    cut-length-requires
    returns-3
    first-requires-3
    second-requires-2
    two-length-requires
    returns-4
    width-of-requires-2
    first-requires-4
    width-of-requires-3
    sub_by
    first-requires-5
    extension-length-requires
    returns-5)
