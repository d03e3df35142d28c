-- What a builder of terms says: `sized`, of the numbers, whatever the pool holds; and `made`, of a valid pool and operands of known
-- widths and terms. m is the most nodes that it adds, w the width of its answer, and `ins` lists the operands that the answer reaches.
use Rattle.std.specs.Prelude.{Bool, true, false, List, [], ◌∷◌, ◌≡◌, ℕ, ◌*◌, ◌≤◌, ◌<◌}
use Rattle.terms.specs.Expr.{Expr}
use Rattle.pool.specs.declared.Node.{Node}
use Rattle.pool.specs.declared.Built.{Built}
use Rattle.pool.specs.Rules.{Valid}
use Rattle.pool.specs.Growth.{NodeIs}
use Rattle.pool_nodes.specs.Builders.{Takes, Makes}
use Rattle.trees.specs.Lower.{extend}

-- a source of an instruction: whether it is read, its node, and its width
pub record Source : Type 0 where
  pub used : Bool
  pub node : ℕ
  pub width : ℕ

abbrev pub read : Node → ℕ → Source
read n w = record { used = true; node = n.0; width = w }

abbrev pub read_if : Bool → Node → ℕ → Source
read_if b n w = record { used = b; node = n.0; width = w }

abbrev pub unread : Source
unread = record { used = false; node = 0; width = 0 }

-- a source that is read has its width and unfolds to t
abbrev pub SourceIs : List ℕ → ℕ → Source → Expr → Type 0
SourceIs ws c s t = s.used ≡ true → NodeIs ws c s.node s.width t

-- a source that is read is below the count
abbrev pub Below : Source → ℕ → Type 0
Below s c = s.used ≡ true → s.node < c

-- a list of the node, if it is used
abbrev pub list_if : Bool → ℕ → List ℕ
list_if true n = n ∷ []
list_if false n = []

-- the width of new lanes, with as many bits of the old destination below them if they are kept
abbrev pub with_lower : Bool → ℕ → ℕ
with_lower true bits = bits * 2
with_lower false bits = bits

module _ (old : List ℕ) (k : ℕ) (new : List ℕ) (r : Built) where
  -- over one operand, and over two
  pub record Builds1 (m : ℕ) (a : Node) (wa w : ℕ) (t : Expr → Expr) (ins : List ℕ) : Type 0 where
    pub sized : Takes old k new r m
    pub made : {ta : Expr} → Valid old k → NodeIs old k a.0 wa ta → Makes old k new r w (t ta) ins

  pub record Builds2 (m : ℕ) (a : Node) (wa : ℕ) (b : Node) (wb w : ℕ) (t : Expr → Expr → Expr) (ins : List ℕ) : Type 0 where
    pub sized : Takes old k new r m
    pub made : {ta tb : Expr} → Valid old k → NodeIs old k a.0 wa ta → NodeIs old k b.0 wb tb → Makes old k new r w (t ta tb) ins

  -- over one operand, and a second if it is used
  pub record BuildsIf (m : ℕ) (a : Node) (wa : ℕ) (used : Bool) (b : Node) (wb w : ℕ) (t : Expr → Expr → Expr) : Type 0 where
    pub sized : Takes old k new r m
    pub made : {ta tb : Expr} → Valid old k → NodeIs old k a.0 wa ta → (used ≡ true → NodeIs old k b.0 wb tb)
        → Makes old k new r w (t ta tb) (a.0 ∷ list_if used b.0)

  -- over one operand, and a cut of a second if it is used: the cut may be taken from below that one
  pub record BuildsCut (m : ℕ) (a : Node) (wa : ℕ) (used : Bool) (b : Node) (wb w : ℕ) (t : Expr → Expr → Expr) : Type 0 where
    pub sized : Takes old k new r m
    pub made : {ta tb : Expr} → Valid old k → NodeIs old k a.0 wa ta → (used ≡ true → NodeIs old k b.0 wb tb)
        → Makes old k new r w (t ta tb) (a.0 ∷ [])

  -- over the sources of an instruction: the old destination, the first source and the second
  pub record Lowers (m w : ℕ) (d first second : Source) (t : Expr → Expr → Expr → Expr) (ins : List ℕ) : Type 0 where
    pub sized : Takes old k new r m
    pub made : {td ta tb : Expr} → Valid old k → SourceIs old k d td → SourceIs old k first ta → SourceIs old k second tb
        → Makes old k new r w (t td ta tb) ins

  -- `extend`, at any width w of the operand
  pub record MadeExtend (value : Node) (to : ℕ) (signed : Bool) : Type 0 where
    pub sized : Takes old k new r 1
    pub made : {w : ℕ} {t : Expr} → Valid old k → 1 ≤ w → w ≤ to → to ≤ 129 → NodeIs old k value.0 w t
        → Makes old k new r to (extend t to signed) (value.0 ∷ [])
