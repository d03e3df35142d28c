-- Two pools in one graph: what the second leaves of the first, and if the literals of both are. Assumes nothing.
use mathlib.Core.Path.{◌≡◌, sym, ap, ◌∙◌}
use mathlib.Core.List.{List, ◌++◌}
use Prim.Native.Nat.{ℕ, zero, suc, ◌+◌, ◌-◌, ◌*◌, ◌≤◌, ◌<◌}
use native.Mathlib.Omega.{arith}
use lib.ListN.{length, get_or, take, drop, length-drop, get_or-append}
use lib.Seq.{get_or-append-add, get_or-take, get_or-drop, length-take-le}
use borrow.Rule.Slice.PartMut.{put_mid, post_of, same_len_mid}
use Rattle.pool.specs.Node.{width_at}
use Rattle.text_parts.proofs.Operands.{ready_of}
use Rattle.gates.specs.Grow.{Grown, Room}
use Rattle.gates.proofs.Laws.{grown-same, grown-trans}
use Rattle.gates_words.proofs.Loops.{number-kept, low-kept}
use Rattle.gates_pool.specs.Bits.{literals, Held}
use Rattle.gates_pool.specs.Gates.{gates_in, Nodes}
use Rattle.gates_pool.proofs.Bounds.{gates-few}
use Rattle.gates_pool.proofs.Rules.{most}
use Rattle.gates_pool.proofs.Steps as steps
use Rattle.gates_question.specs.Build.{Pool, Ready, Both}

-- the gates of a pool, as a number of 64 bits
pub gates-bound : (ws : List ℕ) (count : ℕ) → Pool ws count → (n : ℕ) → n ≤ count → gates_in ws n ≤ 166410 * n
unfolding gates_in
gates-bound ws count p zero l = omega arith
gates-bound ws count p (suc n) l =
    omega (arith, gates-bound ws count p n (omega arith), gates-few ws n (ready_of ws count n p.valid l p.words))

-- nodes stay what they are while the graph grows and their literals stay if they are
pub held_kept : {ws g g' bits bits' : List ℕ} {n k k' : ℕ} → Pool ws n → Held ws n g k bits → Grown g k g' k'
    → ((p : ℕ) → p < 129 * n → get_or bits' p 0 ≡ get_or bits p 0) → Held ws n g' k' bits'
held_kept {ws} {g} {g'} {bits} {bits'} {n} {k} {k'} pool h grown same =
    record {
      low = λ m l. low-kept bits bits' (129 * m) (129 * m) (literals (width_at ws m)) grown.more (h.low m l) (kept m l);
      is = λ start small m l.
          number-kept start bits bits' (129 * m) (129 * m) (literals (width_at ws m)) grown (h.low m l) (kept m l) ∙ h.is start small m l;
    }
  where
    kept : (m : ℕ) → m < n → (j : ℕ) → j < literals (width_at ws m) → get_or bits' (129 * m + j) 0 ≡ get_or bits (129 * m + j) 0
    kept m l j q =
        let r = ready_of ws n m pool.valid l pool.words in
        same (129 * m + j) (omega (arith, steps.few (width_at ws m) (most ws m r m (omega arith))))

-- a part from place a on is back in its list
module _ (a : ℕ) (xs ys : List ℕ) (inside : a ≤ length xs) where
  abbrev whole : List ℕ
  whole = put_mid a (length xs - a) xs ys

  before-is : (p : ℕ) → p < a → get_or whole p 0 ≡ get_or xs p 0
  before-is p l =
      get_or-append (take a xs) (ys ++ post_of a (length xs - a) xs) 0 p (omega (arith, length-take-le a xs inside)) ∙ get_or-take a xs p 0 l

  from_is : (p : ℕ) → p < length ys → get_or (drop a whole) p 0 ≡ get_or ys p 0
  from_is p l =
      get_or-drop a whole p 0
      ∙ ap (λ (m : ℕ). get_or whole (m + p) 0) (sym (length-take-le a xs inside))
      ∙ get_or-append-add (take a xs) (ys ++ post_of a (length xs - a) xs) p 0
      ∙ get_or-append ys (post_of a (length xs - a) xs) 0 p l

module _ {ws ws' g bits : List ℕ} {n m : ℕ} (r : Ready ws n ws' m g bits) where
  pub first-room : Room g 0 (gates_in ws n)
  first-room = record { words = omega (arith, r.room.words); numbers = omega (arith, r.room.numbers) }

  module _ {g₁ bits₁ : List ℕ} {k : ℕ} (d : Nodes ws n g 0 bits g₁ k bits₁) where
    abbrev at : ℕ
    at = 129 * n

    pub at-inside : 129 * (n + (m + 1)) ≤ length bits₁
    at-inside = omega (arith, d.size, r.places)

    abbrev part : List ℕ
    part = take (length bits₁ - at) (drop at bits₁)

    part-long : length part ≡ length bits₁ - at
    part-long = length-take-le (length bits₁ - at) (drop at bits₁) (omega (arith, length-drop at bits₁))

    pub second-room : Room g₁ k (gates_in ws' m)
    second-room =
        record { words = omega (arith, r.room.words, d.most, d.grown.long); numbers = omega (arith, r.room.numbers, d.most) }

    pub second-places : 129 * (m + 1) ≤ length part
    second-places = omega (arith, part-long, at-inside)

    pub both-made : {g₂ ys : List ℕ} {l : ℕ} → Nodes ws' m g₁ k part g₂ l ys
        → Both ws n ws' m g bits g₂ l (put_mid at (length bits₁ - at) bits₁ ys)
    both-made {g₂} {ys} {l} e =
        let inside : at ≤ length bits₁ = omega (arith, at-inside) in
        record {
          grown = grown-trans d.grown e.grown;
          most = omega (arith, d.most, e.most);
          size = same_len_mid at (length bits₁ - at) bits₁ ys e.size ∙ d.size;
          first = held_kept r.first d.held e.grown (before-is at bits₁ ys inside);
          second =
              held_kept r.second e.held (grown-same g₂ l)
              (λ p q. from_is at bits₁ ys inside p (omega (arith, q, e.size, second-places)));
        }
