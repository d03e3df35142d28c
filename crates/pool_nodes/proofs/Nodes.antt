-- What a push of each kind makes, and so each constructor. Assumes nothing.
use Prim.Native.Nat.{ℕ, ◌+◌, ◌-◌, ◌^◌, ◌%◌, ◌≤◌, ◌<◌}
use mathlib.Core.Path.{◌≡◌, refl}
use mathlib.Core.List.{List, [], ◌∷◌}
use native.Mathlib.Omega.{arith}
use lib.Dec.{ltb}
use lib.Bits.{bit_or}
use borrow.Author.Tests.{lt-ltb, le-leb, eq-eqb}
use Rattle.terms.specs.declared.BinOp.{BinOp}
use Rattle.terms.specs.declared.BinOp.TheVariants.{Add, Sub, Mul, And, Or, Xor, Shl, LShr, AShr}
use Rattle.terms.specs.declared.CmpOp.{CmpOp}
use Rattle.terms.specs.declared.CmpOp.TheVariants.{Eq, Ult, Slt}
use Rattle.terms.specs.Expr.{Expr, Var, Const, Bv, Compare, Ite, Extract, Concat, ZeroExtend, SignExtend}
use Rattle.pool.specs.declared.Node.{Node}
use Rattle.pool.specs.declared.Built.{Built}
use Rattle.pool.specs.Node.{Kind, var, const, bv, compare, ite, extract, concat, zext, sext, kinds, kind_at, bv_code, compare_code, bv_kind, compare_kind, kind_word, operand_word, wide, width_at, set_at}
use Rattle.pool.specs.Rules.{width_before, Valid}
use Rattle.pool.specs.Unfold.{earlier, unfold_at}
use Rattle.pool.specs.Growth.{NodeIs, Room, Made}
use Rattle.pool_nodes.specs.Builders.{union_at, Writes, MadeVar, MadeConst, MadeBv, MadeCompare, MadeIte, MadeExtract, MadeConcat, MadeZeroExtend, MadeSignExtend}
use Rattle.pool.proofs.Laws.{Appended, appended, packed, packed-kind, packed-set, made_of, sized_of}

-- an operand, as the rules and the term of a node see it
seen : {ws : List ℕ} {k n w : ℕ} {t : Expr} → NodeIs ws k n w t → width_before ws k n ≡ w
seen {k = k} {n = n} h = rw (lt-ltb n k h.under) h.wide

term : {ws : List ℕ} {k n w : ℕ} {t : Expr} → NodeIs ws k n w t → earlier (ltb n k) (unfold_at ws n) ≡ t
term {k = k} {n = n} h = rw (lt-ltb n k h.under) h.tree

module _ {old new : List ℕ} {k r k' : ℕ} where
  pub made-var : {x : ℕ} → Appended old k new r k' (record { kind = var; width = 128; a = 0; b = 0; c = 0; x = x; y = 0 }) (2 ^ x) → Valid old k → x < 32
      → Made old k new r k' 128 (Var x) []
  made-var p v h = made_of p v (rw (lt-ltb _ _ h)) refl tt

  pub made-const : {w x y : ℕ} → Appended old k new r k' (record { kind = const; width = w; a = 0; b = 0; c = 0; x = x; y = y }) 0 → Valid old k → 1 ≤ w → w ≤ 129
      → wide x y < 2 ^ w
      → Made old k new r k' w (Const (wide x y) w) []
  made-const p v l m h = made_of p v (rw (le-leb _ _ l, le-leb _ _ m, lt-ltb _ _ h)) refl tt

  pub made-bv : (o : BinOp) {a b w w' : ℕ} {ta tb : Expr} → Appended old k new r k' (record { kind = bv o; width = w'; a = a; b = b; c = 0; x = 0; y = 0 }) (union_at old a b) → w' ≡ w
      → Valid old k → 1 ≤ w → w ≤ 129 → NodeIs old k a w ta → NodeIs old k b w tb
      → Made old k new r k' w (Bv o ta tb) (a ∷ b ∷ [])
  made-bv o {a} {b} {w} {w'} p q v l m ha hb =
      rw (← term ha, ← term hb, ← q)
      (made_of p v (rw (seen ha, seen hb, q, le-leb _ _ l, le-leb _ _ m, lt-ltb a k ha.under, lt-ltb b k hb.under, eq-eqb w w refl))
      (rw (lt-ltb a k ha.under, lt-ltb b k hb.under)) (ha.under, (hb.under, tt)))

  pub made-compare : (o : CmpOp) {a b w : ℕ} {ta tb : Expr} → Appended old k new r k' (record { kind = compare o; width = 0; a = a; b = b; c = 0; x = 0; y = 0 }) (union_at old a b)
      → Valid old k → 1 ≤ w
      → NodeIs old k a w ta → NodeIs old k b w tb
      → Made old k new r k' 0 (Compare o ta tb) (a ∷ b ∷ [])
  made-compare o {a} {b} {w} p v l ha hb =
      rw (← term ha, ← term hb)
      (made_of p v (rw (seen ha, seen hb, le-leb _ _ l, lt-ltb a k ha.under, lt-ltb b k hb.under, eq-eqb w w refl)) (rw (lt-ltb a k ha.under, lt-ltb b k hb.under))
      (ha.under, (hb.under, tt)))

  pub made-ite : {a b c w w' : ℕ} {ta tb tc : Expr} → Appended old k new r k' (record { kind = ite; width = w'; a = a; b = b; c = c; x = 0; y = 0 }) (bit_or (union_at old a b) (set_at old c))
      → w' ≡ w → Valid old k → 1 ≤ w
      → w ≤ 129 → NodeIs old k a 0 ta → NodeIs old k b w tb → NodeIs old k c w tc
      → Made old k new r k' w (Ite ta tb tc) (a ∷ b ∷ c ∷ [])
  made-ite {a} {b} {c} {w} p q v l m ha hb hc =
      rw (← term ha, ← term hb, ← term hc, ← q)
      (made_of p v
      (rw (seen ha, seen hb, seen hc, q, le-leb _ _ l, le-leb _ _ m, lt-ltb a k ha.under, lt-ltb b k hb.under, lt-ltb c k hc.under, eq-eqb w w refl))
      (rw (lt-ltb a k ha.under, lt-ltb b k hb.under, lt-ltb c k hc.under)) (ha.under, (hb.under, (hc.under, tt))))

  pub made-extract : {a w hi lo w' : ℕ} {ta : Expr} → Appended old k new r k' (record { kind = extract; width = w'; a = a; b = 0; c = 0; x = hi; y = lo }) (set_at old a) → w' ≡ hi - lo + 1
      → Valid old k → lo ≤ hi → hi < w → NodeIs old k a w ta
      → Made old k new r k' (hi - lo + 1) (Extract ta hi lo) (a ∷ [])
  made-extract {a} {w} {hi} {lo} p q v l m ha =
      rw (← term ha, ← q)
      (made_of p v (rw (seen ha, q, le-leb _ _ l, lt-ltb _ _ m, lt-ltb a k ha.under, eq-eqb (hi - lo + 1) (hi - lo + 1) refl)) (rw (lt-ltb a k ha.under)) (ha.under, tt))

  pub made-concat : {a b w u w' : ℕ} {ta tb : Expr} → Appended old k new r k' (record { kind = concat; width = w'; a = a; b = b; c = 0; x = 0; y = 0 }) (union_at old a b) → w' ≡ w + u
      → Valid old k → 1 ≤ w → 1 ≤ u → w + u ≤ 129 → NodeIs old k a w ta → NodeIs old k b u tb
      → Made old k new r k' (w + u) (Concat ta tb) (a ∷ b ∷ [])
  made-concat {a} {b} {w} {u} p q v l l' m ha hb =
      let z : 1 ≤ w + u = omega arith in
      rw (← term ha, ← term hb, ← q)
      (made_of p v
      (rw (seen ha, seen hb, q, le-leb _ _ z, le-leb _ _ l, le-leb _ _ l', le-leb _ _ m, lt-ltb a k ha.under, lt-ltb b k hb.under, eq-eqb (w + u) (w + u) refl))
      (rw (lt-ltb a k ha.under, lt-ltb b k hb.under)) (ha.under, (hb.under, tt)))

  pub made_zext : {a w to : ℕ} {ta : Expr} → Appended old k new r k' (record { kind = zext; width = to; a = a; b = 0; c = 0; x = 0; y = 0 }) (set_at old a) → Valid old k → 1 ≤ w → w ≤ to
      → to ≤ 129 → NodeIs old k a w ta
      → Made old k new r k' to (ZeroExtend ta to) (a ∷ [])
  made_zext {a} {w} {to} p v l l' m ha =
      let z : 1 ≤ to = omega arith in
      rw (← term ha) (made_of p v (rw (seen ha, le-leb _ _ z, le-leb _ _ l, le-leb _ _ l', le-leb _ _ m, lt-ltb a k ha.under)) (rw (lt-ltb a k ha.under)) (ha.under, tt))

  pub made_sext : {a w to : ℕ} {ta : Expr} → Appended old k new r k' (record { kind = sext; width = to; a = a; b = 0; c = 0; x = 0; y = 0 }) (set_at old a) → Valid old k → 1 ≤ w → w ≤ to
      → to ≤ 129 → NodeIs old k a w ta
      → Made old k new r k' to (SignExtend ta to) (a ∷ [])
  made_sext {a} {w} {to} p v l l' m ha =
      let z : 1 ≤ to = omega arith in
      rw (← term ha) (made_of p v (rw (seen ha, le-leb _ _ z, le-leb _ _ l, le-leb _ _ l', le-leb _ _ m, lt-ltb a k ha.under)) (rw (lt-ltb a k ha.under)) (ha.under, tt))

-- ---- what the constructors say, from the words that they write

-- their numbers are those of no Var
bv-code : (o : BinOp) → (3 ≤ bv_code o) × (bv_code o ≤ 11)
bv-code Add = omega arith
bv-code Sub = omega arith
bv-code Mul = omega arith
bv-code And = omega arith
bv-code Or = omega arith
bv-code Xor = omega arith
bv-code Shl = omega arith
bv-code LShr = omega arith
bv-code AShr = omega arith

compare-code : (o : CmpOp) → (12 ≤ compare_code o) × (compare_code o ≤ 14)
compare-code Eq = omega arith
compare-code Ult = omega arith
compare-code Slt = omega arith

module _ {old : List ℕ} {k : ℕ} {new : List ℕ} {r : Built} (m : Room old k 1) where
  -- the node that packed words make; a Var is among the first 32
  node_of : {code w s a b c x y : ℕ} {kind : Kind} → code < 65536 → (32 ≤ k → code ≡ 1 → ⊥) → w < 65536 → a < 65536 → b < 65536 → kind_at code ≡ kind
      → Writes old k new r (kind_word code w s) (operand_word a b c) x y
      → Appended old k new r.node.0 r.count (record { kind = kind; width = w; a = a; b = b; c = c; x = x; y = y }) s
  node_of {code} {w} {s} {a} {b} {c} {x} {y} h v g i j q p =
      appended m p (rw (packed-kind code w s h) v) (rw (← q) (packed code w s a b c x y h g i j)) (packed-set code w s h g)

  pub var-built : {register set w0 : ℕ} → k < 32 → set ≡ 2 ^ register → w0 ≡ kind_word 1 128 set → Writes old k new r w0 0 register 0 → MadeVar old k new r register
  unfolding kind_at kinds
  var-built {register} l g e p =
      let q : Writes old k new r (kind_word 1 128 (2 ^ register)) 0 register 0 = rw (e, g) at p in
      let n = node_of {code = 1} {w = 128} {a = 0} {b = 0} {c = 0} (omega arith) (λ f e. omega arith) (omega arith) (omega arith) (omega arith) refl q in
      record { words = q; sized = sized_of n; made = λ v h. made-var n v h }

  pub const-built : {lo hi w w0 : ℕ} → w ≤ 129 → w0 ≡ kind_word 2 w 0 → Writes old k new r w0 0 lo hi → MadeConst old k new r lo hi w
  unfolding kind_at kinds
  const-built {lo} {hi} {w} g e p =
      let q : Writes old k new r (kind_word 2 w 0) 0 lo hi = rw e at p in
      let n = node_of {code = 2} {w = w} {s = 0} {a = 0} {b = 0} {c = 0} (omega arith) (λ f e. omega (arith, e)) (omega arith) (omega arith) (omega arith) refl q in
      record { words = q; sized = sized_of n; made = λ v l m e h. rw (← e) (made-const n v l m (rw e h)) }

  module _ {a b : Node} (ha : a.0 < k) (hb : b.0 < k) where
    pub bv-built : {o : BinOp} {code w set w0 w1 : ℕ} → code ≡ bv_code o → w ≡ width_at old a.0 % 256 → set ≡ union_at old a.0 b.0 → w0 ≡ kind_word code w set → w1 ≡ operand_word a.0 b.0 0
        → Writes old k new r w0 w1 0 0
        → MadeBv old k new r o a b
    bv-built {o} {w = w} c d g e f p =
        let q : Writes old k new r (kind_word (bv_code o) (width_at old a.0 % 256) (union_at old a.0 b.0)) (operand_word a.0 b.0 0) 0 0 = rw (e, f, c, d, g) at p in
        let n = node_of {c = 0} (omega (arith, bv-code o)) (λ f e. omega (arith, bv-code o, e)) (omega arith) (omega (arith, m.numbers)) (omega (arith, m.numbers)) (bv_kind o) q in
        record { words = q; sized = sized_of n; made = λ v l h ia ib. made-bv o n (omega (arith, ia.wide)) v l h ia ib }

    pub compare-built : {o : CmpOp} {code set w0 w1 : ℕ} → code ≡ compare_code o → set ≡ union_at old a.0 b.0 → w0 ≡ kind_word code 0 set → w1 ≡ operand_word a.0 b.0 0
        → Writes old k new r w0 w1 0 0
        → MadeCompare old k new r o a b
    compare-built {o} c g e f p =
        let q : Writes old k new r (kind_word (compare_code o) 0 (union_at old a.0 b.0)) (operand_word a.0 b.0 0) 0 0 = rw (e, f, c, g) at p in
        let n = node_of {w = 0} {c = 0} (omega (arith, compare-code o)) (λ f e. omega (arith, compare-code o, e)) (omega arith)
        (omega (arith, m.numbers)) (omega (arith, m.numbers)) (compare_kind o) q in
        record { words = q; sized = sized_of n; made = λ v l ia ib. made-compare o n v l ia ib }

    pub concat-built : {w u set w0 w1 : ℕ} → w ≡ width_at old a.0 % 256 → u ≡ width_at old b.0 % 256 → set ≡ union_at old a.0 b.0 → w0 ≡ kind_word 17 (w + u) set
        → w1 ≡ operand_word a.0 b.0 0
        → Writes old k new r w0 w1 0 0
        → MadeConcat old k new r a b
    unfolding kind_at kinds
    concat-built c d g e f p =
        let q : Writes old k new r (kind_word 17 (width_at old a.0 % 256 + width_at old b.0 % 256) (union_at old a.0 b.0)) (operand_word a.0 b.0 0) 0 0 = rw (e, f, c, d, g) at p in
        let n = node_of {code = 17} {c = 0} (omega arith) (λ f e. omega (arith, e)) (omega arith) (omega (arith, m.numbers)) (omega (arith, m.numbers)) refl q in
        record { words = q; sized = sized_of n; made = λ v l l' e h ia ib. rw (← e) (made-concat n (omega (arith, ia.wide, ib.wide)) v l l' (omega arith) ia ib) }

    pub ite-built : {c : Node} {w set w0 w1 : ℕ} → w ≡ width_at old b.0 % 256 → set ≡ bit_or (union_at old a.0 b.0) (set_at old c.0) → w0 ≡ kind_word 15 w set
        → w1 ≡ operand_word a.0 b.0 c.0 → Writes old k new r w0 w1 0 0
        → MadeIte old k new r a b c
    unfolding kind_at kinds
    ite-built {c} d g e f p =
        let q : Writes old k new r (kind_word 15 (width_at old b.0 % 256) (bit_or (union_at old a.0 b.0) (set_at old c.0))) (operand_word a.0 b.0 c.0) 0 0 = rw (e, f, d, g) at p in
        let n = node_of {code = 15} {c = c.0} (omega arith) (λ f e. omega (arith, e)) (omega arith) (omega (arith, m.numbers)) (omega (arith, m.numbers)) refl q in
        record { words = q; sized = sized_of n; made = λ v l h ia ib ic. made-ite n (omega (arith, ib.wide)) v l h ia ib ic }

  module _ {a : Node} (ha : a.0 < k) where
    pub extract-built : {hi lo set w0 w1 : ℕ} → lo ≤ hi → hi < 129 → set ≡ set_at old a.0 → w0 ≡ kind_word 16 (hi - lo + 1) set → w1 ≡ operand_word a.0 0 0
        → Writes old k new r w0 w1 hi lo → MadeExtract old k new r a hi lo
    unfolding kind_at kinds
    extract-built {hi} {lo} l top g e f p =
        let q : Writes old k new r (kind_word 16 (hi - lo + 1) (set_at old a.0)) (operand_word a.0 0 0) hi lo = rw (e, f, g) at p in
        let n = node_of {code = 16} {b = 0} {c = 0} (omega arith) (λ f e. omega (arith, e)) (omega arith) (omega (arith, m.numbers)) (omega arith) refl q in
        record { words = q; sized = sized_of n; made = λ v h e ia. rw (← e) (made-extract n refl v l h ia) }

    pub zext-built : {to set w0 w1 : ℕ} → to ≤ 129 → set ≡ set_at old a.0 → w0 ≡ kind_word 18 to set → w1 ≡ operand_word a.0 0 0 → Writes old k new r w0 w1 0 0 → MadeZeroExtend old k new r a to
    unfolding kind_at kinds
    zext-built {to} top g e f p =
        let q : Writes old k new r (kind_word 18 to (set_at old a.0)) (operand_word a.0 0 0) 0 0 = rw (e, f, g) at p in
        let n = node_of {code = 18} {b = 0} {c = 0} (omega arith) (λ f e. omega (arith, e)) (omega arith) (omega (arith, m.numbers)) (omega arith) refl q in
        record { words = q; sized = sized_of n; made = λ v l l' h ia. made_zext n v l l' h ia }

    pub sext-built : {to set w0 w1 : ℕ} → to ≤ 129 → set ≡ set_at old a.0 → w0 ≡ kind_word 19 to set → w1 ≡ operand_word a.0 0 0 → Writes old k new r w0 w1 0 0 → MadeSignExtend old k new r a to
    unfolding kind_at kinds
    sext-built {to} top g e f p =
        let q : Writes old k new r (kind_word 19 to (set_at old a.0)) (operand_word a.0 0 0) 0 0 = rw (e, f, g) at p in
        let n = node_of {code = 19} {b = 0} {c = 0} (omega arith) (λ f e. omega (arith, e)) (omega arith) (omega (arith, m.numbers)) (omega arith) refl q in
        record { words = q; sized = sized_of n; made = λ v l l' h ia. made_sext n v l l' h ia }
