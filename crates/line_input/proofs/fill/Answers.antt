-- `line_input::fill`: what a read gave stands after what was there, and so do the bytes that the reader lost.
use Rattle.std.proofs.Common.{◌≡◌, ℕ, ◌+◌, ◌-◌, ◌≤◌, List, ◌++◌, rules, arith, length, take, drop, sym, ap, ◌∙◌, subst, length-take-le}
use Rattle.std.proofs.Math.Seq.{take-append-add, drop-append-le}
use Rattle.std.proofs.lemmas.List.{take-append-le}
use Rattle.std.proofs.lemmas.Slice.{take-put_mid_below}
use Rattle.std.specs.Io.KnownBytes.{Consumes}
use Rattle.std.proofs.KnownBytes.{Consumes-trans}
use borrow.Rule.Slice.PartMut.{put_mid, post_of}
use Rattle.line_input.proofs.fill.Goals as goal

-- the first bytes of a buffer, of which `have` were there and n were read behind them
read_behind : (have room n : ℕ) (xs ys : List ℕ) → have ≤ length xs → n ≤ length ys → take (have + n) (put_mid have room xs ys) ≡ take have xs ++ take n ys
read_behind have room n xs ys within fits =
    ap (λ k. take (k + n) (put_mid have room xs ys)) (sym (length-take-le have xs within))
    ∙ take-append-add (take have xs) (ys ++ post_of have room xs) n
    ∙ ap (λ l. take have xs ++ l) (take-append-le n ys (post_of have room xs) fits)

-- the same from a place `from` on
after_from : (from have room n : ℕ) (xs ys : List ℕ) → from ≤ have → have ≤ length xs → n ≤ length ys
    → drop from (take (have + n) (put_mid have room xs ys)) ≡ drop from (take have xs) ++ take n ys
after_from from have room n xs ys low within fits =
    ap (drop from) (read_behind have room n xs ys within fits)
    ∙ drop-append-le from (take have xs) (take n ys) (omega (arith, low, length-take-le have xs within))

pub loop-have-preserved : goal.loop-have-preserved
loop-have-preserved g c =
    let i = c.loop-have.invariant in
    let room = length c.loop-have.input - c.loop-have.have in
    let same = after_from c.args.from c.loop-have.have room c.in-Ok.n c.loop-have.input c.read.new.buf i.1 i.0 c.in-Ok.ensures.bound.0 in (
      search rules,
      search rules,
      take-put_mid_below _ _ _ _ _ i.1 i.0 ∙ i.2,
      subst (Consumes _ _) (sym same) (Consumes-trans _ _ _ _ _ i.3 c.in-Ok.ensures.bytes.0),
    )
