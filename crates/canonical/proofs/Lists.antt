-- Places in a list of terms, and lists to which terms are added. Assumes nothing.
use mathlib.Core.Path.{◌≡◌, refl, sym, ap, ◌∙◌, subst}
use mathlib.Core.Bool.{Bool, true, false}
use mathlib.Core.List.{List, [], ◌∷◌, ◌++◌}
use Prim.Native.Nat.{ℕ, suc, ◌≤◌, ◌<◌}
use native.Mathlib.Omega.{arith}
use lib.Dec.{ltb}
use lib.ListN.{length, get_or, length-append}
use borrow.Author.Tests.{lt-ltb, le-ltb, ltb-true, ltb-false}
use Rattle.terms.specs.Expr.{Expr}
use Rattle.canonical.specs.Same.{same}
use Rattle.canonical.specs.Order.{place, add, add_all, In, AllIn}

-- ---- places

abbrev step : (x t : Expr) → ℕ → Dec (x ≡ t) → ℕ
step x t n (yes e) = 0
step x t n (no e) = suc n

place-step : (x : Expr) (l : List Expr) (t : Expr) → place (x ∷ l) t ≡ step x t (place l t) (same x t)
unfolding place
place-step x l t = go (same x t)
  where
    go : (s : Dec (x ≡ t)) → elim s as (λ _. ℕ) [ yes e ↦ 0 | no e ↦ suc (place l t) ] ≡ step x t (place l t) s
    go (yes e) = refl
    go (no e) = refl

-- what is shown of 0 if x is t, and of one more if it is not, holds of the place
by_place : (P : ℕ → Type 0) (x : Expr) (l : List Expr) (t : Expr) → (x ≡ t → P 0) → ((x ≡ t → ⊥) → P (suc (place l t))) → P (place (x ∷ l) t)
by_place P x l t f g = subst P (sym (place-step x l t)) (go (same x t))
  where
    go : (s : Dec (x ≡ t)) → P (step x t (place l t) s)
    go (yes e) = f e
    go (no e) = g e

pub place-le : (l : List Expr) (t : Expr) → place l t ≤ length l
unfolding place
place-le [] t = omega arith
place-le (x ∷ l) t = by_place (λ n. n ≤ length (x ∷ l)) x l t (λ e. omega arith) (λ e. omega (arith, place-le l t))

pub at_place : (l : List Expr) (t d : Expr) → In l t → get_or l (place l t) d ≡ t
at_place [] t d h = absurd (omega arith)
at_place (x ∷ l) t d h =
    by_place (λ n. n < length (x ∷ l) → get_or (x ∷ l) n d ≡ t) x l t (λ e h. e) (λ e h. at_place l t d (omega arith)) h

pub place-append : (l m : List Expr) (t : Expr) → In l t → place (l ++ m) t ≡ place l t
place-append [] m t h = absurd (omega arith)
place-append (x ∷ l) m t h =
    by_place (λ n. n < length (x ∷ l) → place (x ∷ (l ++ m)) t ≡ n) x l t
    (λ e h. by_place (λ n. n ≡ 0) x (l ++ m) t (λ e. refl) (λ f. absurd (f e)))
    (λ f h. by_place (λ n. n ≡ suc (place l t)) x (l ++ m) t (λ e. absurd (f e)) (λ e. ap suc (place-append l m t (omega arith))))
    h

-- a new term's place is the end
pub place-new : (l : List Expr) (t : Expr) → length l ≤ place l t → place (l ++ (t ∷ [])) t ≡ length l
unfolding place
place-new [] t h = by_place (λ n. n ≡ 0) t [] t (λ e. refl) (λ f. absurd (f refl))
place-new (x ∷ l) t h =
    by_place (λ n. length (x ∷ l) ≤ n → place (x ∷ (l ++ (t ∷ []))) t ≡ length (x ∷ l)) x l t
    (λ e h. absurd (omega arith))
    (λ f h. by_place (λ n. n ≡ suc (length l)) x (l ++ (t ∷ [])) t (λ e. absurd (f e)) (λ e. ap suc (place-new l t (omega arith))))
    h

-- ---- adding

pub add-old : (l : List Expr) (t : Expr) → In l t → add l t ≡ l
unfolding add
add-old l t h = rw (lt-ltb (place l t) (length l) h)

pub add-new : (l : List Expr) (t : Expr) → length l ≤ place l t → add l t ≡ l ++ (t ∷ [])
unfolding add
add-new l t h = rw (le-ltb (place l t) (length l) h)

-- what holds of l if t is in it, and of l with t after it if it is not, holds of l with t added
pub by-add : (P : List Expr → Type 0) (l : List Expr) (t : Expr) → (In l t → P l) → (length l ≤ place l t → P (l ++ (t ∷ []))) → P (add l t)
by-add P l t f g = go (ltb (place l t) (length l)) refl
  where
    go : (s : Bool) → ltb (place l t) (length l) ≡ s → P (add l t)
    go true e = let h = ltb-true _ _ e in subst P (sym (add-old l t h)) (f h)
    go false e = let h = ltb-false _ _ e in subst P (sym (add-new l t h)) (g h)

pub in-add : (l : List Expr) (t : Expr) → In (add l t) t
in-add l t = by-add (λ m. In m t) l t (λ h. h) (λ h. rw (place-new l t h) (omega (arith, length-append l (t ∷ []))))

-- what is in l stays where it is
pub record Kept (l m : List Expr) : Type 0 where
  pub stays : (t : Expr) → In l t → place m t ≡ place l t
  pub longer : length l ≤ length m

pub kept_refl : (l : List Expr) → Kept l l
kept_refl l = record { stays = λ t h. refl; longer = omega arith }

pub kept_in : {l m : List Expr} → Kept l m → (t : Expr) → In l t → In m t
kept_in k t h = omega (arith, k.stays t h, k.longer)

pub kept_trans : {l m n : List Expr} → Kept l m → Kept m n → Kept l n
kept_trans k j = record { stays = λ t h. j.stays t (kept_in k t h) ∙ k.stays t h; longer = omega (arith, k.longer, j.longer) }

pub kept-add : (l : List Expr) (t : Expr) → Kept l (add l t)
kept-add l t =
    by-add (λ m. Kept l m) l t (λ h. kept_refl l)
    (λ h. record { stays = λ s i. place-append l (t ∷ []) s i; longer = omega (arith, length-append l (t ∷ [])) })

pub kept-all : (l ts : List Expr) → Kept l (add_all l ts)
unfolding add_all
kept-all l [] = kept_refl l
kept-all l (t ∷ ts) = kept_trans (kept-add l t) (kept-all (add l t) ts)

pub all_append : (l ts us : List Expr) → add_all l (ts ++ us) ≡ add_all (add_all l ts) us
unfolding add_all
all_append l [] us = refl
all_append l (t ∷ ts) us = all_append (add l t) ts us

pub all-kept : {l m : List Expr} → Kept l m → (ts : List Expr) → AllIn l ts → AllIn m ts
all-kept k [] h = tt
all-kept k (t ∷ ts) h = (kept_in k t h.0, all-kept k ts h.1)

pub in_all : (l ts : List Expr) → AllIn (add_all l ts) ts
unfolding add_all
in_all l [] = tt
in_all l (t ∷ ts) = (kept_in (kept-all (add l t) ts) t (in-add l t), in_all (add l t) ts)

pub all_old : (l ts : List Expr) → AllIn l ts → add_all l ts ≡ l
unfolding add_all
all_old l [] h = refl
all_old l (t ∷ ts) h = rw (add-old l t h.0) (all_old l ts h.1)
