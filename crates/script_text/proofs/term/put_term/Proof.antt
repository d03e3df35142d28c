-- `put_term` writes the term of a node, by its kind. For each kind the text is said once, over what was read of the node.
use Rattle.text_digits.proofs.Laws.{room_as, wrote_as}
use mathlib.Core.List.{List, ◌++◌}
use mathlib.Core.Path.{◌≡◌, sym, ap, ◌∙◌}
use Prim.Native.Nat.{ℕ, ◌-◌, ◌≤◌}
use native.Mathlib.Omega.{arith}
use Rattle.terms.specs.Display.{bytes}
use Rattle.pool.specs.Node.{kind_at, width_at, word_at, wide}
use Rattle.script_meaning.specs.Sexp.{show}
use Rattle.script_meaning.specs.Script.{binary, name_of, term_of, function_of, apply1, apply2, apply3, index1, index2}
use Rattle.pool_fields.specs.Fields.{op_a, op_b}
use Rattle.script_text.proofs.Nodes.{Two, Extends, constant, three-of, cut_of, two-of, extension-of, extension-term, kind-below}
use borrow.Author.Rules.{rules}
use Rattle.script_text.proofs.term.put_term.Statement.{statement}
use Rattle.script_text.proofs.term.put_term.Tie as tie

from-three : (k : ℕ) → 2 ≤ k → (k ≡ 2 → ⊥) → 3 ≤ k
from-three k h f = omega arith

abbrev pool : tie.Start → List ℕ
pool s = s.args.p.now

abbrev node : tie.Start → ℕ
node s = s.args.n.0

-- the text that is due
abbrev due : tie.Start → List ℕ
due s = show (term_of (pool s) (node s))

-- ---- a Const: words and width are read

is-2 : (c : tie.After-width_of) → let s = c in
    (width_at (pool c.before.before.before.before.before.before) (node c.before.before.before.before.before.before) ≤ 129) × (due c.before.before.before.before.before.before ≡ bytes "#b" ++ binary (width_at (pool c.before.before.before.before.before.before) (node c.before.before.before.before.before.before)) (wide (word_at (pool c.before.before.before.before.before.before) (node c.before.before.before.before.before.before) 2) (word_at (pool c.before.before.before.before.before.before) (node c.before.before.before.before.before.before) 3)))
is-2 c = let s = c in constant (pool c.before.before.before.before.before.before) (node c.before.before.before.before.before.before) s.requires.0.0 s.args.k s.requires.0.1 c.if-k-eq-CONST.true

text-2 : (c : tie.After-width_of) → due c.before.before.before.before.before.before ≡ bytes "#b" ++ binary c.width_of.result (wide c.low.result c.high.result)
text-2 c = (is-2 c).1 ∙ (λ j. bytes "#b" ++ binary (sym c.width_of.ensures.0 j) (wide (sym c.low.ensures j) (sym c.high.ensures j)))

low-requires : tie.Need-low-requires
low-requires c κs = search rules

high-requires : tie.Need-high-requires
high-requires c κs = search rules

width-of-requires : tie.Need-width_of-requires
width-of-requires c κs = search rules

put-constant-requires : tie.Need-put_constant-requires
put-constant-requires c κs =
    let read = c in
    (omega (arith, read.width_of.ensures.0, (is-2 c.before).0), room_as (text-2 c.before) read.requires.1)

same_length : tie.Need-shape_of-buf-then-k-eq-CONST
same_length c = search rules

returns : tie.Need-returns-then-k-eq-CONST
returns c = wrote_as (text-2 c.before.before.before.before) c.put_constant.ensures

-- ---- an Ite: the operands are read

text-15 : (c : tie.After-third) → let s = c in
    due c.before.before.before.before.before.before.before ≡ show (apply3 (bytes "ite") (name_of (pool c.before.before.before.before.before.before.before) c.first.result.0) (name_of (pool c.before.before.before.before.before.before.before) c.second.result.0) (name_of (pool c.before.before.before.before.before.before.before) c.third.result.0))
text-15 c =
    let s = c in
    let h = three-of (pool c.before.before.before.before.before.before.before) (node c.before.before.before.before.before.before.before) s.requires.0.0 s.args.k s.requires.0.1 c.if-k-eq-ITE.true in
    ap show (h.3 ∙ (λ j. apply3 (bytes "ite") (name_of (pool c.before.before.before.before.before.before.before) (sym c.first.ensures j)) (name_of (pool c.before.before.before.before.before.before.before) (sym c.second.ensures j))
    (name_of (pool c.before.before.before.before.before.before.before) (sym c.third.ensures j))))

first-requires : tie.Need-first-requires
first-requires c κs = search rules

second-requires : tie.Need-second-requires
second-requires c κs = search rules

third-requires : tie.Need-third-requires
third-requires c κs = search rules

put-three-requires : tie.Need-put_three-requires
put-three-requires c κs =
    let three = c in
    let s = c in
    let r = s.requires.0.0 in
    let h = three-of (pool c.before.before.before.before.before.before.before.before) (node c.before.before.before.before.before.before.before.before) r s.args.k s.requires.0.1 three.if-k-eq-ITE.true in (
      (
        omega (arith, three.first.ensures, h.0, r.inside),
        omega (arith, three.second.ensures, h.1, r.inside),
        omega (arith, three.third.ensures, h.2, r.inside),
      ),
      room_as (text-15 c.before) s.requires.1,
    )

same-length-2 : tie.Need-shape_of-buf-then-k-eq-ITE
same-length-2 c = search rules

returns-2 : tie.Need-returns-then-k-eq-ITE
returns-2 c = wrote_as (text-15 c.before.before.before.before) c.put_three.ensures

-- ---- an Extract: the operand and both bits are read

text-16 : (c : tie.After-first-then-k-eq-EXTRACT) → let s = c in
    due c.before.before.before.before.before.before.before.before ≡ show (apply1 (index2 (bytes "extract") c.cut_hi-hi.result.0 c.cut_lo-lo.result.0) (name_of (pool c.before.before.before.before.before.before.before.before) c.first-then-k-eq-EXTRACT.result.0))
text-16 c =
    let s = c in
    let h = cut_of (pool c.before.before.before.before.before.before.before.before) (node c.before.before.before.before.before.before.before.before) s.requires.0.0 s.args.k s.requires.0.1 c.if-k-eq-EXTRACT.true in
    ap show (h.1 ∙ (λ j. apply1 (index2 (bytes "extract") (sym c.cut_hi-hi.ensures j) (sym c.cut_lo-lo.ensures j)) (name_of (pool c.before.before.before.before.before.before.before.before) (sym c.first-then-k-eq-EXTRACT.ensures j))))

cut-hi-requires : tie.Need-cut_hi-hi-requires
cut-hi-requires c κs = search rules

cut-lo-requires : tie.Need-cut_lo-lo-requires
cut-lo-requires c κs = search rules

first-requires-2 : tie.Need-first-requires-then-k-eq-EXTRACT
first-requires-2 c κs = search rules

put-cut-requires : tie.Need-put_cut-requires
put-cut-requires c κs =
    let cut = c in
    let s = c in
    let r = s.requires.0.0 in
    let h = cut_of (pool c.before.before.before.before.before.before.before.before.before) (node c.before.before.before.before.before.before.before.before.before) r s.args.k s.requires.0.1 cut.if-k-eq-EXTRACT.true in
    (omega (arith, cut.first-then-k-eq-EXTRACT.ensures, h.0, r.inside), room_as (text-16 c.before) s.requires.1)

same-length-3 : tie.Need-shape_of-buf-then-k-eq-EXTRACT
same-length-3 c = search rules

returns-3 : tie.Need-returns-then-k-eq-EXTRACT
returns-3 c = wrote_as (text-16 c.before.before.before.before) c.put_cut.ensures

-- ---- two operands, which are read

module _ (c : tie.After-second-then-k-lt-ZERO_EXTEND) where
  abbrev two-if : tie.Then-k-lt-ZERO_EXTEND
  two-if = c.before.before

  abbrev two-entry : tie.Start
  two-entry = two-if.before.before.before.before.before.before

  two_from : 3 ≤ two-entry.args.k
  two_from = from-three two-entry.args.k two-entry.requires.0.2 two-if.before.before.before.if-k-eq-CONST.false

  two_is : let s = two-entry in let ws = pool s in
      Two (node s) (op_a ws (node s)) (op_b ws (node s)) (term_of ws (node s)) (apply2 (function_of (kind_at s.args.k)) (name_of ws (op_a ws (node s))) (name_of ws (op_b ws (node s))))
  two_is =
      let s = two-entry in
      two-of (pool s) (node s) s.requires.0.0 s.args.k s.requires.0.1 two_from two-if.if-k-lt-ZERO_EXTEND.true two-if.before.before.if-k-eq-ITE.false two-if.before.if-k-eq-EXTRACT.false

  two-text : let s = two-entry in
      due s ≡ show (apply2 (function_of (kind_at s.args.k)) (name_of (pool s) c.before.first-then-k-lt-ZERO_EXTEND.result.0) (name_of (pool s) c.second-then-k-lt-ZERO_EXTEND.result.0))
  two-text =
      let s = two-entry in
      ap show (two_is.term_is ∙ (λ j. apply2 (function_of (kind_at s.args.k)) (name_of (pool s) (sym c.before.first-then-k-lt-ZERO_EXTEND.ensures j)) (name_of (pool s) (sym c.second-then-k-lt-ZERO_EXTEND.ensures j))))

first-requires-3 : tie.Need-first-requires-then-k-lt-ZERO_EXTEND
first-requires-3 c κs = search rules

second-requires-2 : tie.Need-second-requires-then-k-lt-ZERO_EXTEND
second-requires-2 c κs = search rules

put-two-requires : tie.Need-put_two-requires
put-two-requires c κs =
    let two = c.before in
    let s = c in
    let r = s.requires.0.0 in (
      (
        two_from two,
        kind-below (pool (two-entry two)) (node (two-entry two)) r s.args.k s.requires.0.1,
        omega (arith, two.first-then-k-lt-ZERO_EXTEND.ensures, (two_is two).less-a, r.inside),
        omega (arith, two.second-then-k-lt-ZERO_EXTEND.ensures, (two_is two).less-b, r.inside),
      ),
      room_as (two-text two) s.requires.1,
    )

same-length-4 : tie.Need-shape_of-buf-then-k-lt-ZERO_EXTEND
same-length-4 c = search rules

returns-4 : tie.Need-returns-then-k-lt-ZERO_EXTEND
returns-4 c = wrote_as (two-text c.before.before.before.before) c.put_two.ensures

-- ---- an extension

extends : (c : tie.Else-k-lt-ZERO_EXTEND) → let s = c in Extends (pool c.before.before.before.before.before.before) (node c.before.before.before.before.before.before) s.requires.0.0 s.args.k s.requires.0.1 (kind_at s.args.k)
extends c = let s = c in extension-of (pool c.before.before.before.before.before.before) (node c.before.before.before.before.before.before) s.requires.0.0 s.args.k s.requires.0.1 c.if-k-lt-ZERO_EXTEND.false

-- the width is read, then the operand's, then the operand again
narrow : (c : tie.After-width_of-3) → let s = c in c.width_of-3.result ≡ width_at (pool c.before.before.before.before.before.before.before.before.before) (op_a (pool c.before.before.before.before.before.before.before.before.before) (node c.before.before.before.before.before.before.before.before.before))
narrow c = c.width_of-3.ensures.0 ∙ ap (width_at (pool c.before.before.before.before.before.before.before.before.before)) c.first-2.ensures

text-18 : (c : tie.After-first-3) → let w = c in let s = c in
    due c.before.before.before.before.before.before.before.before.before.before ≡ show (apply1 (index1 (function_of (kind_at s.args.k)) (w.width_of-2.result - w.width_of-3.result)) (name_of (pool c.before.before.before.before.before.before.before.before.before.before) c.first-3.result.0))
text-18 c =
    let w = c in
    let s = c in
    ap show (extension-term (pool c.before.before.before.before.before.before.before.before.before.before) (node c.before.before.before.before.before.before.before.before.before.before) s.requires.0.0 s.args.k s.requires.0.1 w.if-k-lt-ZERO_EXTEND.false
    ∙ (λ j. apply1 (index1 (function_of (kind_at s.args.k)) (sym w.width_of-2.ensures.0 j - sym (narrow c.before) j)) (name_of (pool c.before.before.before.before.before.before.before.before.before.before) (sym c.first-3.ensures j))))

width-of-requires-2 : tie.Need-width_of-requires-2
width-of-requires-2 c κs = search rules

first-requires-4 : tie.Need-first-requires-2
first-requires-4 c κs = search rules

width-of-requires-3 : tie.Need-width_of-requires-3
width-of-requires-3 c κs =
    let e = c in
    omega (arith, c.first-2.ensures, (extends c.before.before).less-a, e.requires.0.0.inside)

sub_by : tie.Need-overflow_sub-by
sub_by c = omega (arith, narrow c, c.width_of-2.ensures.0, (extends c.before.before.before).longer)

first-requires-5 : tie.Need-first-requires-3
first-requires-5 c κs = search rules

put-extension-requires : tie.Need-put_extension-requires
put-extension-requires c κs =
    let again = c in
    let e = c in
    let s = c in
    let r = s.requires.0.0 in (
      (omega (arith, e.if-k-lt-ZERO_EXTEND.false), kind-below (pool c.before.before.before.before.before.before.before.before.before.before.before) (node c.before.before.before.before.before.before.before.before.before.before.before) r s.args.k s.requires.0.1, omega (arith, again.first-3.ensures, (extends c.before.before.before.before.before).less-a, r.inside)),
      room_as (text-18 c.before) s.requires.1,
    )

same-length-5 : tie.Need-shape_of-buf
same-length-5 c = search rules

returns-5 : tie.Need-returns
returns-5 c = wrote_as (text-18 c.before.before.before.before) c.put_extension.ensures

pub put_term_spec : {M : Type 1} → statement M
put_term_spec =
    tie.close
    (tie.spec
    low-requires
    high-requires
    width-of-requires
    put-constant-requires
    same_length
    returns
    first-requires
    second-requires
    third-requires
    put-three-requires
    same-length-2
    returns-2
    cut-hi-requires
    cut-lo-requires
    first-requires-2
    put-cut-requires
    same-length-3
    returns-3
    first-requires-3
    second-requires-2
    put-two-requires
    same-length-4
    returns-4
    width-of-requires-2
    first-requires-4
    width-of-requires-3
    sub_by
    first-requires-5
    put-extension-requires
    same-length-5
    returns-5)
