-- What a canonical pool means (document 02, S-13): the theorems, of any answers that the contract allows. proofs/Meaning.antt proves them.
use Rattle.std.specs.Prelude.{true, List, ◌↔◌, ◌≡◌, ℕ, ◌-◌, ◌*◌, ◌≤◌, ◌<◌, get_or}
use Rattle.pool.specs.Node.{places}
use Rattle.pool.specs.Rules.{pool_ok}
use Rattle.pool.specs.Unfold.{unfold_at}
use Rattle.canonical_write.specs.Canonise.{Canonised, Answered}

-- P of every root that is canonised
abbrev pub OfRoot : ((ws : List ℕ) (root : ℕ) (new : List ℕ) (a : Canonised) → Type 0) → Type 0
OfRoot P = (ws : List ℕ) (count root : ℕ) (old new : List ℕ) (a : Canonised) → Answered ws count root old new a → a.number ≡ 0 → P ws root new a

-- as many nodes, and the same words
abbrev pub SameWords : (new new' : List ℕ) (a a' : Canonised) → Type 0
SameWords new new' a a' = (a.count ≡ a'.count) × ((i : ℕ) → i < 4 * a.count → get_or new i 0 ≡ get_or new' i 0)

-- two roots give equal words exactly when they unfold to the same tree
abbrev pub SameWordsForSameTrees : Type 0
SameWordsForSameTrees = OfRoot (λ ws root new a. OfRoot (λ ws' root' new' a'. SameWords new new' a a' ↔ (unfold_at ws root ≡ unfold_at ws' root')))

-- the last node unfolds to the root's tree
abbrev pub LastIsRoot : Type 0
LastIsRoot = OfRoot (λ ws root new a. unfold_at new (a.count - 1) ≡ unfold_at ws root)

-- the canonical pool passes the check
abbrev pub CanonicalPasses : Type 0
CanonicalPasses = OfRoot (λ ws root new a. pool_ok new a.count ≡ true)

-- canonising its last node again changes nothing: with as much room it is done, and the words are the same
abbrev pub AgainTheSame : Type 0
AgainTheSame =
    OfRoot (λ ws root new a.
    (old₂ new₂ : List ℕ) (b : Canonised) → Answered new a.count (a.count - 1) old₂ new₂ b → a.count ≤ places old₂
    → (b.number ≡ 0) × SameWords new₂ new b a)
