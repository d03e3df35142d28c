-- The start and the end of the walk. Assumes nothing.
use mathlib.Core.Path.{◌≡◌, sym, ap, ◌∙◌, subst}
use mathlib.Core.List.{List, []}
use Prim.Native.Nat.{ℕ, ◌+◌, ◌≤◌, ◌<◌}
use native.Mathlib.Omega.{arith}
use lib.ListN.{length, get_or, set, length-set}
use lib.Seq.{get_or-set_same}
use Rattle.terms.specs.Expr.{Expr}
use Rattle.pool.specs.Unfold.{unfold_at}
use Rattle.canonical.specs.Order.{postorder}
use Rattle.canonical.proofs.Trees.{visit}
use Rattle.canonical_classes.specs.Class.{Classes, Long}
use Rattle.canonical_order.specs.Walk.{listed, pending, AllNone, Done, Walking, Numbered}
use Rattle.canonical_order.proofs.Lists.{listed-length, none-all}

pub started : (ws class : List ℕ) (root : ℕ) → Classes ws (root + 1) class → root < 65535 → (number order stack : List ℕ) → Long number → Long order → Long stack → AllNone number
    → Walking ws class root number order 0 (set stack 0 (get_or class root 0)) 1
unfolding pending listed postorder
started ws class root C small number order stack ln lo ls f =
    let r = get_or class root 0 in
    let le : r ≤ root = C.first root (omega arith) in
    let e : get_or (set stack 0 r) 0 0 ≡ r = get_or-set_same stack 0 r 0 (omega (arith, ls)) in
    record {
      number_long = ln;
      order_long = lo;
      stack_long = simp length-set ls;
      few = omega (arith, none-all number (root + 1) (λ m h. f m (omega arith)));
      done = λ m h s. absurd (s (f m (omega arith)));
      node = λ j h. absurd (omega arith);
      deep = λ i h. let z : i ≡ 0 = omega arith in rw (z, e) (omega arith);
      falling = λ i j h g. absurd (omega arith);
      waits = λ i h.
          let z : i ≡ 0 = omega arith in
          rw (z, e) (C.one r root (omega arith) (omega arith) (C.tree root (omega arith)), f r (omega arith));
      left = ap (λ (x : ℕ). visit [] (unfold_at ws x)) e ∙ ap (visit []) (C.tree root (omega arith));
    }

pub ended : (ws class : List ℕ) (root : ℕ) (number order : List ℕ) (k : ℕ) (stack : List ℕ) → Walking ws class root number order k stack 0 → Numbered ws class root number order k
unfolding pending
ended ws class root number order k stack W =
    record {
      count = sym (listed-length ws order k) ∙ ap length W.left;
      few = omega (arith, W.few);
      terms = W.left;
      node = W.node;
      done = λ m h s. subst (λ (l : List Expr). Done ws class number l m) W.left (W.done m h s);
    }
