-- A pool that grows: what is kept, what is new, and from where a new node is reached.
use mathlib.Core.List.{List, [], ◌∷◌, Memᴰ}
use Rattle.std.specs.Prelude.{◌≡◌, ℕ, ◌+◌, ◌*◌, ◌≤◌, ◌<◌, length, get_or}
use Rattle.terms.specs.Expr.{Expr}
use Rattle.pool.specs.Node.{Kind, bad, var, const, bv, compare, ite, extract, concat, zext, sext, Cell, cell_at, kind_number, width_at, write_node, none}
use Rattle.pool.specs.Rules.{Valid}
use Rattle.pool.specs.Unfold.{unfold_at}

-- ---- reaching

abbrev pub operands_of : Kind → Cell → List ℕ
operands_of bad k = []
operands_of var k = []
operands_of const k = []
operands_of (bv o) k = k.a ∷ k.b ∷ []
operands_of (compare o) k = k.a ∷ k.b ∷ []
operands_of ite k = k.a ∷ k.b ∷ k.c ∷ []
operands_of extract k = k.a ∷ []
operands_of concat k = k.a ∷ k.b ∷ []
operands_of zext k = k.a ∷ []
operands_of sext k = k.a ∷ []

abbrev pub operands : Cell → List ℕ
operands k = operands_of k.kind k

-- m is reached from r: it is r, or an operand of a node that is reached
pub data Reach (ws : List ℕ) (r : ℕ) : ℕ → Type 0 where
  here : Reach ws r r
  down : {p m : ℕ} → Reach ws r p → m < p → Memᴰ m (operands (cell_at ws p)) → Reach ws r m

abbrev pub AllReached : List ℕ → ℕ → List ℕ → Type 0
AllReached ws r [] = Unit {0}
AllReached ws r (m ∷ ms) = Reach ws r m × AllReached ws r ms

-- ---- growth

-- from old with k nodes to new with k': the words before node k and those from node k' on are as they were, and no node between them is a Var
-- but among the first 32, where a block has its registers
pub record Grown (old : List ℕ) (k : ℕ) (new : List ℕ) (k' : ℕ) : Type 0 where
  pub long : length new ≡ length old
  pub more : k ≤ k'
  pub below : (i : ℕ) → i < 4 * k → get_or new i 0 ≡ get_or old i 0
  pub above : (i : ℕ) → 4 * k' ≤ i → get_or new i 0 ≡ get_or old i 0
  pub plain : (n : ℕ) → 32 ≤ n → k ≤ n → n < k' → kind_number new n ≡ 1 → ⊥

-- node n, of count c, has width w and unfolds to t
pub record NodeIs (ws : List ℕ) (c n w : ℕ) (t : Expr) : Type 0 where
  pub under : n < c
  pub wide : width_at ws n ≡ w
  pub tree : unfold_at ws n ≡ t

-- room for m nodes after the first k
pub record Room (ws : List ℕ) (k m : ℕ) : Type 0 where
  pub words : 4 * (k + m) ≤ length ws
  pub numbers : k + m ≤ none

-- the four words of node k are written, and nothing else
pub record Pushed (old : List ℕ) (k : ℕ) (new : List ℕ) (r k' : ℕ) (w0 w1 w2 w3 : ℕ) : Type 0 where
  pub at : r ≡ k
  pub next : k' ≡ k + 1
  pub words : new ≡ write_node old k w0 w1 w2 w3

-- what a builder of at most m nodes says of the numbers, whatever the pool holds: its answer r is below the new count k'
pub record Sized (old : List ℕ) (k : ℕ) (new : List ℕ) (r k' m : ℕ) : Type 0 where
  pub long : length new ≡ length old
  pub more : k ≤ k'
  pub most : k' ≤ k + m
  pub under : r < k'

-- what a builder makes of a valid pool: it grows and stays valid, r has width w and unfolds to t, and every new node and every node of
-- `ins` is reached from r
pub record Made (old : List ℕ) (k : ℕ) (new : List ℕ) (r k' w : ℕ) (t : Expr) (ins : List ℕ) : Type 0 where
  pub grown : Grown old k new k'
  pub valid : Valid new k'
  pub is : NodeIs new k' r w t
  pub all : (m : ℕ) → k ≤ m → m < k' → Reach new r m
  pub ins_reached : AllReached new r ins
