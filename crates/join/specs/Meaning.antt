-- What a joined pool means (document 02, S-11): the theorems, of any answer that the contract allows. proofs/Meaning.antt proves them.
use Rattle.std.specs.Prelude.{true, List, ◌↔◌, ◌≡◌, ℕ, ◌<◌}
use Rattle.terms.specs.declared.CmpOp.TheVariants.{Eq}
use Rattle.terms.specs.Expr.{Compare}
use Rattle.terms.specs.Value.{value}
use Rattle.pool.specs.Rules.{pool_ok}
use Rattle.pool.specs.Unfold.{unfold_at}
use Rattle.join.specs.Join.{moved, Joined, Answered}

-- P of every two pools that are joined, and of the third
abbrev pub WhenJoined : ((first : List ℕ) (c : ℕ) (second : List ℕ) (d x y : ℕ) (new : List ℕ) (a : Joined) → Type 0) → Type 0
WhenJoined P =
    (first : List ℕ) (c : ℕ) (second : List ℕ) (d x y : ℕ) (old new : List ℕ) (a : Joined) → Answered first c second d x y old new a → a.number ≡ 0
    → P first c second d x y new a

-- every term keeps its unfolded tree: the first pool's under its number, the second's under its new one
abbrev pub TermsKept : Type 0
TermsKept =
    WhenJoined (λ first c second d x y new a.
    ((n : ℕ) → n < c → unfold_at new n ≡ unfold_at first n) × ((m : ℕ) → m < d → unfold_at new (moved c m) ≡ unfold_at second m))

-- the answer's node is the Eq of the two chosen terms
abbrev pub EqOfTerms : Type 0
EqOfTerms = WhenJoined (λ first c second d x y new a. unfold_at new a.node ≡ Compare Eq (unfold_at first x) (unfold_at second y))

-- and holds at a start exactly when the two are equal there
abbrev pub EqHolds : Type 0
EqHolds =
    WhenJoined (λ first c second d x y new a.
    (start : ℕ → ℕ) → (value start (unfold_at new a.node) ≡ 1) ↔ (value start (unfold_at first x) ≡ value start (unfold_at second y)))

-- the third pool passes the check
abbrev pub JoinedPasses : Type 0
JoinedPasses = WhenJoined (λ first c second d x y new a. pool_ok new a.count ≡ true)
