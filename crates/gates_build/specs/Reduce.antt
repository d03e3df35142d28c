-- Two literals in place of two others with the same conjunction.
use Rattle.std.specs.Prelude.{◌&&◌, List, ◌⊎◌, ◌≡◌, ℕ, ◌≤◌}
use Rattle.gates.specs.Graph.{truth, flip, inverted}
use Rattle.gates.specs.Grow.{Under}

-- p and q, the smaller one first, are a and b
abbrev pub Ordered : (a b p q : ℕ) → Type 0
Ordered a b p q = (p ≤ q) × (((p ≡ a) × (q ≡ b)) ⊎ ((p ≡ b) × (q ≡ a)))

-- at every start p and q hold exactly when a and b do
pub record Same (g : List ℕ) (k a b p q : ℕ) : Type 0 where
  pub ordered : p ≤ q
  pub under : Under q k
  pub is : (start : ℕ → ℕ) → (truth start g p && truth start g q) ≡ (truth start g a && truth start g b)

-- b is a literal of a gate with the operands x and y
pub record GateOf (g : List ℕ) (k b x y : ℕ) : Type 0 where
  pub under : Under b k
  pub left : Under x k
  pub right : Under y k
  pub is : (start : ℕ → ℕ) → truth start g b ≡ flip (inverted b) (truth start g x && truth start g y)

-- p and q for a and such a literal b, of every graph
pub record Absorbs (a b x y p q : ℕ) : Type 0 where
  pub same : {g : List ℕ} {k : ℕ} → Under a k → GateOf g k b x y → Same g k a b p q
