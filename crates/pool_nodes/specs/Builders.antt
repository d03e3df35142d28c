-- What each constructor of a node says: `words`, the four words that it writes; `sized`, the numbers, whatever the pool holds; and
-- `made`, of a valid pool and operands of known widths and terms.
use Rattle.std.specs.Prelude.{List, [], ◌∷◌, ◌≡◌, ℕ, ◌+◌, ◌-◌, ◌%◌, ◌^◌, ◌≤◌, ◌<◌}
use Rattle.std.specs.Int.Bits.{bit_or}
use Rattle.terms.specs.declared.BinOp.{BinOp}
use Rattle.terms.specs.declared.CmpOp.{CmpOp}
use Rattle.terms.specs.Expr.{Expr, Var, Const, Bv, Compare, Ite, Extract, Concat, ZeroExtend, SignExtend}
use Rattle.pool.specs.declared.Node.{Node}
use Rattle.pool.specs.declared.Built.{Built}
use Rattle.pool.specs.Node.{bv_code, compare_code, kind_word, operand_word, width_at, set_at, wide}
use Rattle.pool.specs.Rules.{Valid}
use Rattle.pool.specs.Growth.{NodeIs, Pushed, Sized, Made}

-- the registers beneath either of two nodes
abbrev pub union_at : List ℕ → (a b : ℕ) → ℕ
union_at ws a b = bit_or (set_at ws a) (set_at ws b)

module _ (old : List ℕ) (k : ℕ) (new : List ℕ) (r : Built) where
  abbrev pub Writes : (w0 w1 w2 w3 : ℕ) → Type 0
  Writes w0 w1 w2 w3 = Pushed old k new r.node.0 r.count w0 w1 w2 w3

  abbrev pub Takes : ℕ → Type 0
  Takes m = Sized old k new r.node.0 r.count m

  abbrev pub Makes : ℕ → Expr → List ℕ → Type 0
  Makes w t ins = Made old k new r.node.0 r.count w t ins

  pub record MadeVar (register : ℕ) : Type 0 where
    pub words : Writes (kind_word 1 128 (2 ^ register)) 0 register 0
    pub sized : Takes 1
    pub made : Valid old k → register < 32 → Makes 128 (Var register) []

  pub record MadeConst (lo hi w : ℕ) : Type 0 where
    pub words : Writes (kind_word 2 w 0) 0 lo hi
    pub sized : Takes 1
    pub made : {v : ℕ} → Valid old k → 1 ≤ w → w ≤ 129 → wide lo hi ≡ v → v < 2 ^ w → Makes w (Const v w) []

  pub record MadeBv (o : BinOp) (a b : Node) : Type 0 where
    pub words : Writes (kind_word (bv_code o) (width_at old a.0 % 256) (union_at old a.0 b.0)) (operand_word a.0 b.0 0) 0 0
    pub sized : Takes 1
    pub made : {w : ℕ} {ta tb : Expr} → Valid old k → 1 ≤ w → w ≤ 129 → NodeIs old k a.0 w ta → NodeIs old k b.0 w tb
        → Makes w (Bv o ta tb) (a.0 ∷ b.0 ∷ [])

  pub record MadeCompare (o : CmpOp) (a b : Node) : Type 0 where
    pub words : Writes (kind_word (compare_code o) 0 (union_at old a.0 b.0)) (operand_word a.0 b.0 0) 0 0
    pub sized : Takes 1
    pub made : {w : ℕ} {ta tb : Expr} → Valid old k → 1 ≤ w → NodeIs old k a.0 w ta → NodeIs old k b.0 w tb
        → Makes 0 (Compare o ta tb) (a.0 ∷ b.0 ∷ [])

  pub record MadeIte (a b c : Node) : Type 0 where
    pub words : Writes (kind_word 15 (width_at old b.0 % 256) (bit_or (union_at old a.0 b.0) (set_at old c.0))) (operand_word a.0 b.0 c.0) 0 0
    pub sized : Takes 1
    pub made : {w : ℕ} {ta tb tc : Expr} → Valid old k → 1 ≤ w → w ≤ 129 → NodeIs old k a.0 0 ta → NodeIs old k b.0 w tb → NodeIs old k c.0 w tc
        → Makes w (Ite ta tb tc) (a.0 ∷ b.0 ∷ c.0 ∷ [])

  pub record MadeExtract (a : Node) (hi lo : ℕ) : Type 0 where
    pub words : Writes (kind_word 16 (hi - lo + 1) (set_at old a.0)) (operand_word a.0 0 0) hi lo
    pub sized : Takes 1
    pub made : {w u : ℕ} {ta : Expr} → Valid old k → hi < w → hi - lo + 1 ≡ u → NodeIs old k a.0 w ta → Makes u (Extract ta hi lo) (a.0 ∷ [])

  pub record MadeConcat (a b : Node) : Type 0 where
    pub words : Writes (kind_word 17 (width_at old a.0 % 256 + width_at old b.0 % 256) (union_at old a.0 b.0)) (operand_word a.0 b.0 0) 0 0
    pub sized : Takes 1
    pub made : {w u s : ℕ} {ta tb : Expr} → Valid old k → 1 ≤ w → 1 ≤ u → w + u ≡ s → s ≤ 129 → NodeIs old k a.0 w ta → NodeIs old k b.0 u tb
        → Makes s (Concat ta tb) (a.0 ∷ b.0 ∷ [])

  pub record MadeZeroExtend (a : Node) (to : ℕ) : Type 0 where
    pub words : Writes (kind_word 18 to (set_at old a.0)) (operand_word a.0 0 0) 0 0
    pub sized : Takes 1
    pub made : {w : ℕ} {ta : Expr} → Valid old k → 1 ≤ w → w ≤ to → to ≤ 129 → NodeIs old k a.0 w ta → Makes to (ZeroExtend ta to) (a.0 ∷ [])

  pub record MadeSignExtend (a : Node) (to : ℕ) : Type 0 where
    pub words : Writes (kind_word 19 to (set_at old a.0)) (operand_word a.0 0 0) 0 0
    pub sized : Takes 1
    pub made : {w : ℕ} {ta : Expr} → Valid old k → 1 ≤ w → w ≤ to → to ≤ 129 → NodeIs old k a.0 w ta → Makes to (SignExtend ta to) (a.0 ∷ [])
