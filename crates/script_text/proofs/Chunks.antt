-- The spelling of a script's lines in the pieces in which it is written. Assumes nothing.
use mathlib.Core.Path.{◌≡◌, refl}
use mathlib.Core.List.{List, ◌++◌, append_assoc}
use Prim.Native.Nat.{ℕ, zero, suc}
use Rattle.terms.specs.Display.{bytes, decimal}
use Rattle.script_meaning.specs.Sexp.{Sexp, show}
use Rattle.script_meaning.specs.Script.{apply1, apply2, apply3, index1, index2, sort_by, define_fun}

pub vector-sort : (w : ℕ) → show (sort_by (suc w)) ≡ bytes "(_ BitVec " ++ (decimal (suc w) ++ bytes ")")
unfolding show
vector-sort w = simp append_assoc

pub applied-2 : (f a b : List ℕ) → show (apply2 f a b) ≡ bytes "(" ++ (f ++ (bytes " " ++ (a ++ (bytes " " ++ (b ++ bytes ")")))))
unfolding show
applied-2 f a b = simp append_assoc

pub applied-3 : (f a b c : List ℕ) → show (apply3 f a b c) ≡ bytes "(" ++ (f ++ (bytes " " ++ (a ++ (bytes " " ++ (b ++ (bytes " " ++ (c ++ bytes ")")))))))
unfolding show
applied-3 f a b c = simp append_assoc

pub indexed-1 : (f a : List ℕ) (i : ℕ) → show (apply1 (index1 f i) a) ≡ bytes "((_ " ++ (f ++ (bytes " " ++ (decimal i ++ (bytes ") " ++ (a ++ bytes ")")))))
unfolding show
indexed-1 f a i = simp append_assoc

pub indexed-2 : (f a : List ℕ) (i j : ℕ)
    → show (apply1 (index2 f i j) a) ≡ bytes "((_ " ++ (f ++ (bytes " " ++ (decimal i ++ (bytes " " ++ (decimal j ++ (bytes ") " ++ (a ++ bytes ")")))))))
unfolding show
indexed-2 f a i j = simp append_assoc

pub line : (n : List ℕ) (s t : Sexp)
    → show (define_fun n s t) ++ bytes "\n" ≡ bytes "(define-fun " ++ (n ++ (bytes " () " ++ (show s ++ (bytes " " ++ (show t ++ bytes ")\n")))))
unfolding show
line n s t = simp append_assoc

pub short-sort : (w : ℕ) → w ≡ 0 → show (sort_by w) ≡ bytes "Bool"
unfolding show
short-sort w e = rw e

pub long-sort : (w : ℕ) → (w ≡ 0 → ⊥) → show (sort_by w) ≡ bytes "(_ BitVec " ++ (decimal w ++ bytes ")")
long-sort zero f = absurd (f refl)
long-sort (suc w) f = vector-sort w
