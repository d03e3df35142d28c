-- A run of builders: the nodes that it has made so far, each with its width and term, and which of them still want a node above them. Assumes nothing.
use Prim.Native.Nat.{ℕ, zero, suc, ◌≤◌, ◌<◌}
use mathlib.Core.Path.{◌≡◌, refl, sym, ◌∙◌, subst}
use mathlib.Core.Bool.{Bool, true, false, ◌&&◌, not}
use mathlib.Core.List.{List, [], ◌∷◌}
use mathlib.Core.Logic.{⊎_elim, ◌⊎◌, inl, inr}
use native.Mathlib.Nat.{not-le_of_lt}
use lib.Dec.{T}
use Rattle.facts.proofs.Numbers.{before-or-from}
use Rattle.terms.specs.Expr.{Expr}
use Rattle.pool.specs.Rules.{Valid}
use Rattle.pool.specs.Growth.{Reach, AllReached, Grown, NodeIs, Made}
use Rattle.pool.proofs.Laws.{grown-refl, grown-trans, is-kept, reach-kept, reach-trans}

-- a node of the run; `live` while nothing is known to be above it
pub record Entry : Type 0 where
  pub node : ℕ
  pub width : ℕ
  pub term : Expr
  pub live : Bool

abbrev pub entry : ℕ → ℕ → Expr → Bool → Entry
entry n w t b = record { node = n; width = w; term = t; live = b }

-- a node that the answer has to reach, and one that it need not
abbrev pub given : ℕ → ℕ → Expr → Entry
given n w t = entry n w t true

abbrev pub spare : ℕ → ℕ → Expr → Entry
spare n w t = entry n w t false

abbrev pub All : List ℕ → ℕ → List Entry → Type 0
All ws c [] = Unit {0}
All ws c (e ∷ l) = NodeIs ws c e.node e.width e.term × All ws c l

-- with the flag of entry j, or of each of some entries, down
abbrev pub clear : ℕ → List Entry → List Entry
clear j [] = []
clear zero (e ∷ l) = entry e.node e.width e.term false ∷ l
clear (suc j) (e ∷ l) = e ∷ clear j l

abbrev pub clears : List ℕ → List Entry → List Entry
clears [] l = l
clears (j ∷ js) l = clear j (clears js l)

abbrev pub node_at : List Entry → ℕ → ℕ
node_at [] j = 0
node_at (e ∷ l) zero = e.node
node_at (e ∷ l) (suc j) = node_at l j

abbrev pub picks : List Entry → List ℕ → List ℕ
picks l [] = []
picks l (j ∷ js) = node_at l j ∷ picks l js

abbrev pub node_if : Bool → ℕ → List ℕ → List ℕ
node_if true n l = n ∷ l
node_if false n l = l

abbrev pub live_nodes : List Entry → List ℕ
live_nodes [] = []
live_nodes (e ∷ l) = node_if e.live e.node (live_nodes l)

-- m is reached from an entry whose flag is up
abbrev pub Lives : List ℕ → List Entry → ℕ → Type 0
Lives ws [] m = ⊥
Lives ws (e ∷ l) m = (T e.live × Reach ws e.node m) ⊎ Lives ws l m

abbrev pub AllLive : List ℕ → List Entry → List ℕ → Type 0
AllLive ws l [] = Unit {0}
AllLive ws l (m ∷ ms) = Lives ws l m × AllLive ws l ms

abbrev pub quiet : List Entry → Bool
quiet [] = true
quiet (e ∷ l) = not e.live && quiet l

pub record St (old : List ℕ) (k : ℕ) (ins : List ℕ) (ws : List ℕ) (c : ℕ) (l : List Entry) : Type 0 where
  pub grown : Grown old k ws c
  pub valid : Valid ws c
  pub env : All ws c l
  pub live : (m : ℕ) → k ≤ m → m < c → Lives ws l m
  pub inputs : AllLive ws l ins

-- ---- what a step keeps

all-kept : {a b : List ℕ} {k k' : ℕ} → Grown a k b k' → (l : List Entry) → All a k l → All b k' l
all-kept g [] h = tt
all-kept g (e ∷ l) h = (is-kept g h.0, all-kept g l h.1)

all-clear : (ws : List ℕ) (c j : ℕ) (l : List Entry) → All ws c l → All ws c (clear j l)
all-clear ws c j [] h = tt
all-clear ws c zero (e ∷ l) h = h
all-clear ws c (suc j) (e ∷ l) h = (h.0, all-clear ws c j l h.1)

all-clears : (ws : List ℕ) (c : ℕ) (js : List ℕ) (l : List Entry) → All ws c l → All ws c (clears js l)
all-clears ws c [] l h = h
all-clears ws c (j ∷ js) l h = all-clear ws c j (clears js l) (all-clears ws c js l h)

node-clear : (i : ℕ) (l : List Entry) (j : ℕ) → node_at (clear i l) j ≡ node_at l j
node-clear i [] j = refl
node-clear zero (e ∷ l) zero = refl
node-clear zero (e ∷ l) (suc j) = refl
node-clear (suc i) (e ∷ l) zero = refl
node-clear (suc i) (e ∷ l) (suc j) = node-clear i l j

node-clears : (js : List ℕ) (l : List Entry) (j : ℕ) → node_at (clears js l) j ≡ node_at l j
node-clears [] l j = refl
node-clears (i ∷ js) l j = node-clear i (clears js l) j ∙ node-clears js l j

lives-kept : {a b : List ℕ} {k k' : ℕ} → Grown a k b k' → (l : List Entry) (m : ℕ) → All a k l → Lives a l m → Lives b l m
lives-kept g [] m h x = x
lives-kept g (e ∷ l) m h x = ⊎_elim (λ y. inl (y.0, reach-kept g h.0.under y.1)) (λ y. inr (lives-kept g l m h.1 y)) x

lives-clear : (ws : List ℕ) (r j : ℕ) (l : List Entry) (m : ℕ) → Reach ws r (node_at l j) → Lives ws l m → Reach ws r m ⊎ Lives ws (clear j l) m
lives-clear ws r j [] m h x = absurd x
lives-clear ws r zero (e ∷ l) m h x = ⊎_elim (λ y. inl (reach-trans h y.1)) (λ y. inr (inr y)) x
lives-clear ws r (suc j) (e ∷ l) m h x = ⊎_elim (λ y. inr (inl y)) (λ y. ⊎_elim inl (λ z. inr (inr z)) (lives-clear ws r j l m h y)) x

lives-clears : (ws : List ℕ) (r : ℕ) (js : List ℕ) (l : List Entry) (m : ℕ) → AllReached ws r (picks l js) → Lives ws l m → Reach ws r m ⊎ Lives ws (clears js l) m
lives-clears ws r [] l m h x = inr x
lives-clears ws r (j ∷ js) l m h x =
    ⊎_elim inl (λ y. lives-clear ws r j (clears js l) m (rw (node-clears js l j) h.0) y) (lives-clears ws r js l m h.1 x)

all_live : (ws ws' : List ℕ) (l l' : List Entry) (ms : List ℕ) → ((m : ℕ) → Lives ws l m → Lives ws' l' m) → AllLive ws l ms → AllLive ws' l' ms
all_live ws ws' l l' [] f h = tt
all_live ws ws' l l' (m ∷ ms) f h = (f m h.0, all_live ws ws' l l' ms f h.1)

-- ---- the run

live-next : (ws : List ℕ) (l : List Entry) (e : Entry) (b : Bool) (ms : List ℕ) → e.live ≡ b → AllLive ws (e ∷ l) ms → AllLive ws (e ∷ l) (node_if b e.node ms)
live-next ws l e true ms q h = (inl (subst (λ (b : Bool). T b) (sym q) tt, Reach.here), h)
live-next ws l e false ms q h = h

live-self : (ws : List ℕ) (l : List Entry) → AllLive ws l (live_nodes l)
live-self ws [] = tt
live-self ws (e ∷ l) = live-next ws l e e.live (live_nodes l) refl (all_live ws ws l (e ∷ l) (live_nodes l) (λ m x. inr x) (live-self ws l))

-- it begins with nodes of the pool, of which the answer has to reach those whose flag is up
pub start : {ws : List ℕ} {k : ℕ} → Valid ws k → (l : List Entry) → All ws k l → St ws k (live_nodes l) ws k l
start {ws} {k} v l h =
    record { grown = grown-refl ws k; valid = v; env = h; live = λ m p q. absurd (not-le_of_lt q p); inputs = live-self ws l }

-- one builder more, over the entries js
pub step : {old : List ℕ} {k : ℕ} {ins ws : List ℕ} {c : ℕ} {l : List Entry} → St old k ins ws c l → (js : List ℕ) {ws' : List ℕ} {r c' w : ℕ} {t : Expr}
    → Made ws c ws' r c' w t (picks l js)
    → St old k ins ws' c' (entry r w t true ∷ clears js l)
step {old} {k} {ins} {ws} {c} {l} s js {ws'} {r} {c'} {w} {t} d =
    record {
      grown = grown-trans s.grown d.grown;
      valid = d.valid;
      env = (d.is, all-clears ws' c' js l (all-kept d.grown l s.env));
      live = λ m p q. ⊎_elim (λ x. on m (s.live m p x)) (λ x. inl (tt, d.all m x q)) (before-or-from m c);
      inputs = all_live ws ws' l (entry r w t true ∷ clears js l) ins on s.inputs;
    }
  where
    on : (m : ℕ) → Lives ws l m → Lives ws' (entry r w t true ∷ clears js l) m
    on m x = ⊎_elim (λ y. inl (tt, y)) inr (lives-clears ws' r js l m d.ins_reached (lives-kept d.grown l m s.env x))

down-flag : (b c : Bool) → T (not b && c) → (T b → ⊥) × T c
down-flag true c h = absurd h
down-flag false c h = (λ x. x, h)

-- it ends when only the last entry's flag is up
pub finish : {old : List ℕ} {k : ℕ} {ins ws : List ℕ} {c : ℕ} {e : Entry} {l : List Entry} → St old k ins ws c (e ∷ l) → T (quiet l)
    → Made old k ws e.node c e.width e.term ins
finish {old} {k} {ins} {ws} {c} {e} {l} s q =
    record {
      grown = s.grown;
      valid = s.valid;
      is = s.env.0;
      all = λ m p h. top m (s.live m p h);
      ins_reached = tops ins s.inputs;
    }
  where
    none : (l : List Entry) → T (quiet l) → (m : ℕ) → Lives ws l m → ⊥
    none [] q m x = x
    none (e ∷ l) q m x = ⊎_elim (λ y. (down-flag e.live (quiet l) q).0 y.0) (λ y. none l (down-flag e.live (quiet l) q).1 m y) x

    top : (m : ℕ) → Lives ws (e ∷ l) m → Reach ws e.node m
    top m x = ⊎_elim (λ y. y.1) (λ y. absurd (none l q m y)) x

    tops : (ms : List ℕ) → AllLive ws (e ∷ l) ms → AllReached ws e.node ms
    tops [] h = tt
    tops (m ∷ ms) h = (top m h.0, tops ms h.1)

-- what is made, with nothing said of the inputs
pub forget : {old : List ℕ} {k : ℕ} {new : List ℕ} {r k' w : ℕ} {t : Expr} {ins : List ℕ} → Made old k new r k' w t ins → Made old k new r k' w t []
forget d = record { grown = d.grown; valid = d.valid; is = d.is; all = d.all; ins_reached = tt }

-- a node that is there already
pub stay : {ws : List ℕ} {k n w : ℕ} {t : Expr} → Valid ws k → NodeIs ws k n w t → Made ws k ws n k w t (n ∷ [])
stay {ws} {k} v h = record { grown = grown-refl ws k; valid = v; is = h; all = λ m p q. absurd (not-le_of_lt q p); ins_reached = (Reach.here, tt) }
