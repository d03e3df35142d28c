-- The theorems of specs/Demand.antt. Assumes nothing.
use mathlib.Core.Bool.{Bool, true, false, false≢true}
use mathlib.Core.List.{List}
use mathlib.Core.Path.{◌≡◌, refl, sym, ap, ◌∙◌, subst}
use Prim.Native.Nat.{ℕ, zero, suc, ◌+◌, ◌-◌, ◌*◌, ◌^◌, ◌<◌}
use native.Mathlib.Omega.{arith}
use lib.Dec.{eqb}
use borrow.Author.Tests.{eqb-true, eq-eqb}
use Rattle.terms.specs.Value.{value}
use Rattle.neon.specs.declared.Instruction.{Instruction}
use Rattle.neon.specs.Run.{arm_run}
use Rattle.pool.specs.Unfold.{unfold_at}
use Rattle.block_map.specs.Map.{node_of}
use Rattle.block.specs.Block.{BlockAnswer}
use Rattle.block.specs.Block as block
use Rattle.block.proofs.Equal.{registers-hold, registers-fit}
use Rattle.join.specs.Join.{moved, Joined}
use Rattle.join.specs.Join as join
use Rattle.join.proofs.Meaning.{terms-kept}
use Rattle.script_lane_meaning.specs.Demand.{bits_of, lane_at}
use Rattle.script_lane_write.proofs.Means.{lane-written-means}
use Rattle.script_equal.specs.Demand.{Unmet, Start, EqualWhenNoLaneIsMet, DifferWhereALaneIsMet}
use Rattle.script_equal.proofs.Lanes.{lanes-equal}

-- equality of numbers is decided
not-apart : (a b : ℕ) → ((a ≡ b → ⊥) → ⊥) → a ≡ b
not-apart a b f = go (eqb a b) refl
  where
    go : (t : Bool) → eqb a b ≡ t → a ≡ b
    go true e = eqb-true a b e
    go false e = absurd (f (λ q. false≢true (sym e ∙ eq-eqb a b q)))

-- a lane whose script is not met is equal in both nodes
pub lane-equal : (ws : List ℕ) (count x y hi lo : ℕ) → Unmet ws count x y hi lo → (start : ℕ → ℕ) → Start start → lane_at ws start hi lo x ≡ lane_at ws start hi lo y
lane-equal ws count x y hi lo u start bits =
    let read = lane-written-means ws count x y hi lo u.buffer u.len u.out u.written start bits in
    not-apart _ _ (λ differ. let m = read.met.1 differ in u.unmet m.0 m.2)

pub some_bits : (w k : ℕ) → w * k ≡ 128 → 0 < w
some_bits zero k e = absurd (omega arith)
some_bits (suc w) k e = omega arith

module _ (old : List ℕ) (cs : List Instruction) (new : List ℕ) (a : BlockAnswer) (A : block.Answered old cs new a) (z : a.number ≡ 0)
    (old' : List ℕ) (cs' : List Instruction) (new' : List ℕ) (a' : BlockAnswer) (A' : block.Answered old' cs' new' a') (z' : a'.number ≡ 0)
    (r r' : ℕ) (buffer out : List ℕ) (j : Joined)
    (joined : join.Answered new a.map.count new' a'.map.count (node_of a.map r) (node_of a'.map r') buffer out j) (e : j.number ≡ 0) (start : ℕ → ℕ) where
  -- the registers' nodes in the joined pool have the registers' values
  pub first-is : (q : ℕ) → q < 32 → arm_run cs start q ≡ value start (unfold_at out (node_of a.map q))
  first-is q l =
      let kept = (terms-kept new a.map.count new' a'.map.count (node_of a.map r) (node_of a'.map r') buffer out j joined e).0 in
      registers-hold old cs new a A z start q l ∙ sym (ap (value start) (kept (node_of a.map q) ((A.accepted z).terms q l).under))

  pub second_is : (q : ℕ) → q < 32 → arm_run cs' start q ≡ value start (unfold_at out (moved a.map.count (node_of a'.map q)))
  second_is q l =
      let kept = (terms-kept new a.map.count new' a'.map.count (node_of a.map r) (node_of a'.map r') buffer out j joined e).1 in
      registers-hold old' cs' new' a' A' z' start q l ∙ sym (ap (value start) (kept (node_of a'.map q) ((A'.accepted z').terms q l).under))

pub equal-when-no-lane-is-met : EqualWhenNoLaneIsMet
equal-when-no-lane-is-met old cs new a A z old' cs' new' a' A' z' r r' h h' buffer out j joined e q q' l l' w k p unmet start bits =
    let x = node_of a.map q in
    let y = moved a.map.count (node_of a'.map q') in
    let vx = first-is old cs new a A z old' cs' new' a' A' z' r r' buffer out j joined e start q l in
    let vy = second_is old cs new a A z old' cs' new' a' A' z' r r' buffer out j joined e start q' l' in
    let fx = subst (λ (v : ℕ). v < 2 ^ 128) vx (registers-fit old cs new a A z start bits q l) in
    let fy = subst (λ (v : ℕ). v < 2 ^ 128) vy (registers-fit old' cs' new' a' A' z' start bits q' l') in
    vx
    ∙ lanes-equal w (value start (unfold_at out x)) (value start (unfold_at out y)) (some_bits w k p) k 128 p fx fy
    (λ i g. lane-equal out j.count x y (w * i + (w - 1)) (w * i) (unmet i (omega (arith, g))) start bits)
    ∙ sym vy

pub differ-where-a-lane-is-met : DifferWhereALaneIsMet
differ-where-a-lane-is-met old cs new a A z old' cs' new' a' A' z' r r' h h' buffer out j joined e q q' l l' hi lo buf len text written start model m holds same =
    let x = node_of a.map q in
    let y = moved a.map.count (node_of a'.map q') in
    let vx = first-is old cs new a A z old' cs' new' a' A' z' r r' buffer out j joined e start q l in
    let vy = second_is old cs new a A z old' cs' new' a' A' z' r r' buffer out j joined e start q' l' in
    let read = lane-written-means out j.count x y hi lo buf len text written start m.fits in
    read.met.0 (model, m, holds) (ap (bits_of hi lo) (sym vx ∙ same ∙ vy))
