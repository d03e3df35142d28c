-- A run of builders, whatever the pool holds: how far it has grown, and that its nodes are below the count. Assumes nothing.
use Prim.Native.Nat.{ℕ, ◌+◌, ◌≤◌, ◌<◌}
use mathlib.Core.Path.{◌≡◌, refl}
use mathlib.Core.List.{List, [], ◌∷◌}
use native.Mathlib.Omega.{arith}
use native.Mathlib.Nat.{lt_of_lt_of_le}
use lib.ListN.{length}
use Rattle.pool.specs.Growth.{Sized}

abbrev pub AllBelow : List ℕ → ℕ → Type 0
AllBelow [] c = Unit {0}
AllBelow (n ∷ l) c = (n < c) × AllBelow l c

all-below : (l : List ℕ) {c c' : ℕ} → c ≤ c' → AllBelow l c → AllBelow l c'
all-below [] h b = tt
all-below (n ∷ l) h b = (lt_of_lt_of_le b.0 h, all-below l h b.1)

-- from the pool `old` with k nodes, if `Given` holds, to ws with c nodes, at most m of them new
pub record Run (Given : Type 0) (old : List ℕ) (k : ℕ) (ws : List ℕ) (c m : ℕ) (nodes : List ℕ) : Type 0 where
  pub given : Given
  pub long : length ws ≡ length old
  pub more : k ≤ c
  pub most : c ≤ k + m
  pub below : AllBelow nodes c

pub both : {A B : Type 0} → A → B → A × B
both a b = (a, b)

-- it begins with nodes of the pool
module _ {Given : Type 0} (g : Given) (ws : List ℕ) (k : ℕ) (nodes : List ℕ) where
  abbrev pub Begun : Type 0
  Begun = Run Given ws k ws k 0 nodes

  pub begun : AllBelow nodes k → Begun
  begun b = record { given = g; long = refl; more = omega arith; most = omega arith; below = b }

-- one builder more
module _ {Given : Type 0} {old : List ℕ} {k : ℕ} {ws : List ℕ} {c m : ℕ} {nodes : List ℕ} {ws' : List ℕ} {r c' n : ℕ} where
  abbrev pub Next : Run Given old k ws c m nodes → Sized ws c ws' r c' n → Type 0
  Next l s = Run Given old k ws' c' (m + n) (r ∷ nodes)

  pub next : (l : Run Given old k ws c m nodes) (s : Sized ws c ws' r c' n) → Next l s
  next l s =
      record {
        given = l.given;
        long = omega (arith, l.long, s.long);
        more = omega (arith, l.more, s.more);
        most = omega (arith, l.most, s.most);
        below = (s.under, all-below nodes s.more l.below);
      }
