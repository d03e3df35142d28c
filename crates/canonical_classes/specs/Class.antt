-- The class of a node: the first node with the same tree; and the slots by which the first nodes are found.
use Rattle.std.specs.Prelude.{List, ◌++◌, ◌≡◌, ℕ, suc, ◌+◌, ◌-◌, ◌*◌, ◌≤◌, ◌<◌, length, get_or, set}
use Rattle.pool.specs.Unfold.{unfold_at}
use Rattle.canonical_classes.specs.declared.Key.{Key}
use Rattle.canonical_classes.specs.declared.Place.{Place}
use Rattle.canonical_classes.specs.Key.{key_of, bucket_of, under, next_of}

-- the classes of the nodes below n
pub record Classes (ws : List ℕ) (n : ℕ) (class : List ℕ) : Type 0 where
  pub first : (m : ℕ) → m < n → get_or class m 0 ≤ m
  pub tree : (m : ℕ) → m < n → unfold_at ws (get_or class m 0) ≡ unfold_at ws m
  pub one : (m p : ℕ) → m < n → p < n → unfold_at ws m ≡ unfold_at ws p → get_or class m 0 ≡ get_or class p 0

-- a slot has a link: 0, or one more than a node. Each table has 65,536 slots, and each node two: the search for a key goes from its bucket in the
-- first table to its bucket in the second, and on from a node with another key by the next bit
abbrev pub slots_of : (first second ways : List ℕ) → List ℕ
slots_of first second ways = first ++ (second ++ ways)

-- the search for the key k, from slot s on, meets node j
pub data On (slots : List ℕ) (k : Key) : (s level j : ℕ) → Type 0 where
  here : {s level j : ℕ} → get_or slots s 0 ≡ suc j → On slots k s level j
  there : {s level m j : ℕ} → get_or slots s 0 ≡ suc m → On slots k (next_of k m level) (suc level) j → On slots k s level j

-- the search for the key k comes to slot s
pub data Comes (slots : List ℕ) (k : Key) : (s level : ℕ) → Type 0 where
  start : {s level : ℕ} → s ≡ bucket_of k → level ≡ 0 → Comes slots k s level
  on : {t l m s level : ℕ} → Comes slots k t l → get_or slots t 0 ≡ suc m → s ≡ next_of k m l → level ≡ suc l → Comes slots k s level

abbrev pub Reached : List ℕ → Key → ℕ → Type 0
Reached slots k s = (level : ℕ) × Comes slots k s level

-- a node has one link at most
abbrev pub Once : List ℕ → Type 0
Once slots = (s t m : ℕ) → get_or slots s 0 ≡ suc m → get_or slots t 0 ≡ suc m → s ≡ t

-- no link yet
abbrev pub Empty : List ℕ → Type 0
Empty slots = (s : ℕ) → get_or slots s 0 ≡ 0

-- links to nodes below n
abbrev pub Low : List ℕ → ℕ → Type 0
Low slots n = (s : ℕ) → get_or slots s 0 ≤ n

-- from a node to later ones
abbrev pub Rises : List ℕ → Type 0
Rises slots = (m way : ℕ) → way < 2 → 0 < get_or slots (under m way) 0 → m + 1 < get_or slots (under m way) 0

-- each link of the one list is in the other
abbrev pub Holds : (slots new : List ℕ) → Type 0
Holds slots new = (s m : ℕ) → get_or slots s 0 ≡ suc m → get_or new s 0 ≡ suc m

-- the answer of the search for the key of node n: a node that has it, or none on the way; then the slot is free, and with a link to n the way
-- leads to n
pub record Found (ws class slots : List ℕ) (n : ℕ) (r : Place) : Type 0 where
  pub found : 0 < r.link → (r.link ≤ n) × (key_of ws class (r.link - 1) ≡ key_of ws class n)
  pub missed : r.link ≡ 0 → let k = key_of ws class n in (j : ℕ) → On slots k (bucket_of k) 0 j → key_of ws class j ≡ k → ⊥
  pub free : r.link ≡ 0 → get_or slots r.slot 0 ≡ 0
  pub slot_less : r.slot < 131072 + 2 * n
  pub comes : r.link ≡ 0 → Reached slots (key_of ws class n) r.slot
  pub leads : r.link ≡ 0 → let k = key_of ws class n in (new : List ℕ) → Holds slots new → get_or new r.slot 0 ≡ suc n → On new k (bucket_of k) 0 n

-- a place for each number
abbrev pub Long : List ℕ → Type 0
Long l = length l ≡ 65536

-- both tables, and two slots per node
pub record Laid (first second ways : List ℕ) : Type 0 where
  pub first_long : Long first
  pub second_long : Long second
  pub ways_long : length ways ≡ 131072

-- slot s has got the link to node n
pub record Linked (first second ways : List ℕ) (s n : ℕ) (first' second' ways' : List ℕ) : Type 0 where
  pub laid : Laid first' second' ways'
  pub is : slots_of first' second' ways' ≡ set (slots_of first second ways) s (n + 1)

-- the classes of the nodes below n, and each node that is the first of its class on the way of its key; each node with a link has one, in a slot of its own key
pub record Kept (ws : List ℕ) (n : ℕ) (class slots : List ℕ) : Type 0 where
  pub class_long : Long class
  pub slots_long : length slots ≡ 262144
  pub classes : Classes ws n class
  pub low : Low slots n
  pub rises : Rises slots
  pub once : Once slots
  pub own : (s m : ℕ) → get_or slots s 0 ≡ suc m → Reached slots (key_of ws class m) s
  pub ways : (m : ℕ) → m < n → get_or class m 0 ≡ m → let k = key_of ws class m in On slots k (bucket_of k) 0 m

-- the search for the key of node n meets no more than 281 nodes: one that has another key is met at a level below 280
abbrev pub Bounded : (ws : List ℕ) (n : ℕ) (class slots : List ℕ) → Type 0
Bounded ws n class slots =
    let k = key_of ws class n in
    (s level j : ℕ) → Comes slots k s level → get_or slots s 0 ≡ suc j → (key_of ws class j ≡ k → ⊥) → level < 280
