-- A copy of a node, its operands under other numbers. Assumes nothing.
use mathlib.Core.Path.{◌≡◌, refl}
use mathlib.Core.Bool.{true, false, ◌&&◌}
use Prim.Native.Nat.{ℕ, ◌+◌, ◌-◌, ◌^◌}
use lib.Bits.{bit_or}
use lib.Dec.{ltb, leb, eqb}
use Rattle.pool.specs.Node.{Kind, bad, var, const, bv, compare, ite, extract, concat, zext, sext, code_of, Cell, wide}
use Rattle.pool.specs.Rules.{wide_is_ok, ok_kind, set_over}
use Rattle.pool_operands.specs.Operands.{has_a, has_b, has_c}
use Rattle.pool_operands.proofs.ByKind.{bv-a, bv-b, bv-c, cmp-a, cmp-b, cmp-c}

-- a copy of a node keeps the rules if the node does: its operands are earlier and have the widths that they had
pub ok-copy : (κ : Kind) (m n : ℕ) (l k : Cell) (A' B' C' A B C : ℕ) → l.width ≡ k.width → l.x ≡ k.x → l.y ≡ k.y
    → (has_a (code_of κ) ≡ true → (ltb l.a m ≡ ltb k.a n) × (A' ≡ A))
    → (has_a (code_of κ) ≡ false → l.a ≡ k.a)
    → (has_b (code_of κ) ≡ true → (ltb l.b m ≡ ltb k.b n) × (B' ≡ B))
    → (has_b (code_of κ) ≡ false → l.b ≡ k.b)
    → (has_c (code_of κ) ≡ true → (ltb l.c m ≡ ltb k.c n) × (C' ≡ C))
    → (has_c (code_of κ) ≡ false → l.c ≡ k.c)
    → ok_kind κ m l A' B' C' ≡ ok_kind κ n k A B C
ok-copy bad m n l k A' B' C' A B C W X Y fa ga fb gb fc gc = refl
ok-copy var m n l k A' B' C' A B C W X Y fa ga fb gb fc gc = λ i. eqb (W i) 128 && eqb (ga refl i) 0 && eqb (gb refl i) 0 && eqb (gc refl i) 0 && ltb (X i) 32 && eqb (Y i) 0
ok-copy const m n l k A' B' C' A B C W X Y fa ga fb gb fc gc = λ i. wide_is_ok (W i) && eqb (ga refl i) 0 && eqb (gb refl i) 0 && eqb (gc refl i) 0 && ltb (wide (X i) (Y i)) (2 ^ W i)
ok-copy (bv o) m n l k A' B' C' A B C W X Y fa ga fb gb fc gc =
    λ i. wide_is_ok (W i) && (fa (bv-a o)).0 i && (fb (bv-b o)).0 i && eqb (gc (bv-c o) i) 0 && eqb (X i) 0 && eqb (Y i) 0 && eqb ((fa (bv-a o)).1 i) (W i) && eqb ((fb (bv-b o)).1 i) (W i)
ok-copy (compare o) m n l k A' B' C' A B C W X Y fa ga fb gb fc gc =
    λ i. eqb (W i) 0 && (fa (cmp-a o)).0 i && (fb (cmp-b o)).0 i && eqb (gc (cmp-c o) i) 0 && eqb (X i) 0 && eqb (Y i) 0 && leb 1 ((fa (cmp-a o)).1 i)
    && eqb ((fb (cmp-b o)).1 i) ((fa (cmp-a o)).1 i)
ok-copy ite m n l k A' B' C' A B C W X Y fa ga fb gb fc gc =
    λ i. wide_is_ok (W i) && (fa refl).0 i && (fb refl).0 i && (fc refl).0 i && eqb (X i) 0 && eqb (Y i) 0 && eqb ((fa refl).1 i) 0 && eqb ((fb refl).1 i) (W i) && eqb ((fc refl).1 i) (W i)
ok-copy extract m n l k A' B' C' A B C W X Y fa ga fb gb fc gc =
    λ i. (fa refl).0 i && eqb (gb refl i) 0 && eqb (gc refl i) 0 && leb (Y i) (X i) && ltb (X i) ((fa refl).1 i) && eqb (W i) (X i - Y i + 1)
ok-copy concat m n l k A' B' C' A B C W X Y fa ga fb gb fc gc =
    λ i. wide_is_ok (W i) && (fa refl).0 i && (fb refl).0 i && eqb (gc refl i) 0 && eqb (X i) 0 && eqb (Y i) 0 && leb 1 ((fa refl).1 i) && leb 1 ((fb refl).1 i)
    && eqb (W i) ((fa refl).1 i + (fb refl).1 i)
ok-copy zext m n l k A' B' C' A B C W X Y fa ga fb gb fc gc =
    λ i. wide_is_ok (W i) && (fa refl).0 i && eqb (gb refl i) 0 && eqb (gc refl i) 0 && eqb (X i) 0 && eqb (Y i) 0 && leb 1 ((fa refl).1 i) && leb ((fa refl).1 i) (W i)
ok-copy sext m n l k A' B' C' A B C W X Y fa ga fb gb fc gc =
    λ i. wide_is_ok (W i) && (fa refl).0 i && eqb (gb refl i) 0 && eqb (gc refl i) 0 && eqb (X i) 0 && eqb (Y i) 0 && leb 1 ((fa refl).1 i) && leb ((fa refl).1 i) (W i)

-- and the set: over the sets of the operands that its kind has
pub set-copy : (κ : Kind) (x' x A' A B' B C' C : ℕ) → x' ≡ x → (has_a (code_of κ) ≡ true → A' ≡ A) → (has_b (code_of κ) ≡ true → B' ≡ B) → (has_c (code_of κ) ≡ true → C' ≡ C)
    → set_over κ x' A' B' C' ≡ set_over κ x A B C
set-copy bad x' x A' A B' B C' C X f g h = refl
set-copy var x' x A' A B' B C' C X f g h = λ i. 2 ^ X i
set-copy const x' x A' A B' B C' C X f g h = refl
set-copy (bv o) x' x A' A B' B C' C X f g h = λ i. bit_or (f (bv-a o) i) (g (bv-b o) i)
set-copy (compare o) x' x A' A B' B C' C X f g h = λ i. bit_or (f (cmp-a o) i) (g (cmp-b o) i)
set-copy ite x' x A' A B' B C' C X f g h = λ i. bit_or (bit_or (f refl i) (g refl i)) (h refl i)
set-copy extract x' x A' A B' B C' C X f g h = f refl
set-copy concat x' x A' A B' B C' C X f g h = λ i. bit_or (f refl i) (g refl i)
set-copy zext x' x A' A B' B C' C X f g h = f refl
set-copy sext x' x A' A B' B C' C X f g h = f refl
