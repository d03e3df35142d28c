-- A read of a register and the widening of a result, in each of their cases. Assumes nothing.
use Prim.Native.Nat.{ℕ, ◌+◌, ◌≤◌, ◌<◌}
use mathlib.Core.Path.{◌≡◌, refl, sym, ap, subst, ◌∙◌}
use mathlib.Core.Bool.{Bool, true, false, false≢true}
use mathlib.Core.List.{List, [], ◌∷◌}
use native.Mathlib.Omega.{arith}
use native.Mathlib.Nat.{not-le_of_lt, lt_trans}
use Rattle.neon.specs.Op.{bits_if}
use Rattle.terms.specs.Expr.{Expr}
use Rattle.trees.specs.Block.{widen_tree}
use Rattle.trees.specs.Trees.{read_tree}
use Rattle.pool.specs.declared.Node.{Node}
use Rattle.pool.specs.declared.Built.{Built}
use Rattle.pool_nodes.specs.Builders.{MadeZeroExtend}
use Rattle.lower_simd.specs.Cut.{MadeCut}
use Rattle.pool.proofs.Laws.{grown-refl, width-kept, unfold-kept}
use Rattle.pool.specs.Growth.{Grown}
use Rattle.pool.proofs.Steps.{stay}
use Rattle.lower.specs.Builds.{Builds1}
use Rattle.block_reads.specs.Reads.{LowHalf, half_read, Reads}

-- ---- a read

half-whole : (used : Bool) → half_read used true ≡ 0
half-whole true = refl
half-whole false = refl

half-most : (used whole : Bool) → half_read used whole ≤ 1
half-most true true = omega arith
half-most true false = omega arith
half-most false whole = omega arith

module _ {old : List ℕ} {k : ℕ} {new : List ℕ} {r : Built} {used whole : Bool} {register : Node} (h : Reads old k new r used whole register) where
  pub read_more : k ≤ r.count
  read_more = omega (arith, h.next)

  pub read-most : r.count ≤ k + 1
  read-most = omega (arith, h.next, half-most used whole)

module _ {ws : List ℕ} {k : ℕ} {r : Built} {used whole : Bool} {register : Node} (e : r.count ≡ k) where
  -- no node is added
  pub read_none : used ≡ false → Reads ws k ws r used whole register
  read_none q =
      record {
        long = refl;
        next = rw q (omega (arith, e));
        under = λ p. absurd (false≢true (sym q ∙ p));
        made = λ v h. record {
          grown = rw e (grown-refl ws k);
          valid = rw e v;
          is = λ p. absurd (false≢true (sym q ∙ p));
          halves = λ x l g. absurd (not-le_of_lt g (omega (arith, e)));
        };
      }

  pub read_whole : whole ≡ true → r.node.0 ≡ register.0 → register.0 < k → Reads ws k ws r used whole register
  read_whole q f b =
      record {
        long = refl;
        next = rw q (omega (arith, e, half-whole used));
        under = λ p. omega (arith, e, f, b);
        made = λ v h. record {
          grown = rw e (grown-refl ws k);
          valid = rw e v;
          is = λ p. rw (q, e, f) h;
          halves = λ x l g. absurd (not-le_of_lt g (omega (arith, e)));
        };
      }

pub read-half : {old : List ℕ} {k : ℕ} {new : List ℕ} {r : Built} {used whole : Bool} {register : Node} → used ≡ true → whole ≡ false
    → MadeCut old k new r register 63 0
    → Reads old k new r used whole register
read-half {old} {k} {new} {r} {register = register} u q d =
    record {
      long = d.sized.long;
      next = rw (u, q) d.next;
      under = λ p. d.sized.under;
      made = λ {t} v h.
          let x = d.made {u = 64} v (omega arith) refl h in
          record {
            grown = x.grown;
            valid = x.valid;
            is = λ p. rw q x.is;
            halves = λ y l g.
                let e : r.node.0 ≡ y = omega (arith, d.next, d.at) in
                subst (λ (z : ℕ). LowHalf new register.0 z) e
                (record {
                  after = omega (arith, d.at, h.under);
                  wide = x.is.wide;
                  tree = x.is.tree ∙ ap (λ (s : Expr). read_tree false s) (sym (unfold-kept x.grown register.0 h.under ∙ h.tree));
                });
          };
    }

-- a read stays while the pool grows
pub half-kept : {a b : List ℕ} {k k' : ℕ} → Grown a k b k' → {register y : ℕ} → y ≡ register → (x : ℕ) → x < k → LowHalf a y x → LowHalf b register x
half-kept g {register} {y} q x l h =
    rw (← q)
    (record {
      after = h.after;
      wide = width-kept g x l ∙ h.wide;
      tree = unfold-kept g x l ∙ h.tree ∙ ap (λ (s : Expr). read_tree false s) (sym (unfold-kept g y (lt_trans h.after l)));
    })

-- ---- the widening

pub widen_none : {ws : List ℕ} {k : ℕ} {r : Built} {whole : Bool} {a : Node} → whole ≡ true → a.0 < k → r.node.0 ≡ a.0 → r.count ≡ k
    → Builds1 ws k ws r 1 a (bits_if whole) 128 (widen_tree whole) (a.0 ∷ [])
widen_none q b e f = rw q (record { sized = omega (arith, b, e, f); made = λ v x. rw (e, f) (stay v x) })

pub widen-some : {old : List ℕ} {k : ℕ} {new : List ℕ} {r : Built} {whole : Bool} {a : Node} → whole ≡ false → MadeZeroExtend old k new r a 128
    → Builds1 old k new r 1 a (bits_if whole) 128 (widen_tree whole) (a.0 ∷ [])
widen-some q d = rw q (record { sized = omega (arith, d.sized); made = λ v x. d.made v (omega arith) (omega arith) (omega arith) x })

-- ---- flags that are known by an equation

pub read_flags : {old : List ℕ} {k : ℕ} {new : List ℕ} {r : Built} {used used' whole whole' : Bool} {register : Node} → used ≡ used' → whole ≡ whole'
    → Reads old k new r used whole register
    → Reads old k new r used' whole' register
read_flags p q h = rw (← p, ← q) h

pub widen-flag : {old : List ℕ} {k : ℕ} {new : List ℕ} {r : Built} {whole whole' : Bool} {a : Node} → whole ≡ whole'
    → Builds1 old k new r 1 a (bits_if whole) 128 (widen_tree whole) (a.0 ∷ [])
    → Builds1 old k new r 1 a (bits_if whole') 128 (widen_tree whole') (a.0 ∷ [])
widen-flag q h = rw (← q) h
