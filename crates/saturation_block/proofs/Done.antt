-- The refusals of a block with its saturation bit, and the answer of the whole from its start and its run. Assumes nothing.
use mathlib.Core.Path.{◌≡◌, refl, sym, subst, ◌∙◌}
use mathlib.Core.List.{List}
use Prim.Native.Nat.{ℕ, ◌+◌, ◌*◌, ◌/◌, ◌≤◌, ◌<◌}
use native.Mathlib.Omega.{arith}
use native.Mathlib.Nat.{min-le_left, min-le_right, le-min}
use lib.ListN.{length}
use borrow.Author.Tests.{le-leb, lt-leb}
use Rattle.terms.specs.Expr.{Var}
use Rattle.neon.specs.declared.Instruction.{Instruction}
use Rattle.neon.specs.Refusal.{AllLegal}
use Rattle.pool.specs.Node.{none, places, places_in}
use Rattle.pool.specs.Growth.{Room, Grown}
use Rattle.pool.proofs.Laws.{grown-trans, cell-kept, is-kept}
use Rattle.block_map.specs.declared.RegisterMap.{RegisterMap}
use Rattle.block_map.specs.Map.{first_map}
use Rattle.block_check.specs.Records.{records_of}
use Rattle.block_check.proofs.Refusals.{from-length, legal-by, size-legal}
use Rattle.block_record.specs.Step.{MapOk, MapIs}
use Rattle.block.proofs.Running.{first-ok}
use Rattle.saturation.specs.Bits.{no}
use Rattle.saturation_step.specs.declared.Flagged.{Flagged}
use Rattle.saturation_step.specs.Step.{flag_reserve}
use Rattle.saturation_step.proofs.Stepping.{raised-ok}
use Rattle.saturation_run.specs.Run.{FlagLowered, FlagStarted, FlagRuns}
use Rattle.saturation_block.specs.Size.{most_flagged, flag_places, flag_size, flag_refusal}
use Rattle.saturation_block.specs.Block.{Accepted}

-- ---- the size

module _ (words count : ℕ) where
  pub too_long : most_flagged < count → 8 ≡ flag_size (places_in words) count
  unfolding flag_size
  too_long h = rw (lt-leb count most_flagged h)

  pub no_room : count ≤ most_flagged → words / 4 < flag_places count → 6 ≡ flag_size (places_in words) count
  unfolding flag_size
  no_room h l = rw (le-leb count most_flagged h, lt-leb (flag_places count) (places_in words) (omega (arith, min-le_left (words / 4) none)))

  pub has_room : count ≤ most_flagged → flag_places count ≤ words / 4 → 0 ≡ flag_size (places_in words) count
  unfolding flag_size
  has_room h l = rw (le-leb count most_flagged h, le-leb (flag_places count) (places_in words) (le-min l (omega arith)))

-- a block that is accepted: its records fit and are accepted
pub record FlagLegal (p : ℕ) (cs : List Instruction) : Type 0 where
  pub few : length cs ≤ most_flagged
  pub fits : flag_places (length cs) ≤ p
  pub legal : AllLegal cs

pub flag-legal : (p : ℕ) (cs : List Instruction) → (flag_refusal p cs).number ≡ 0 → FlagLegal p cs
unfolding flag_refusal flag_size
flag-legal p cs e =
    let l = legal-by _ cs e in
    let s = size-legal (length cs) most_flagged (flag_places (length cs)) p l.0 in
    record { few = s.0; fits = s.1; legal = l.1 }

-- ---- the whole

-- what an accepted block of flat records has
pub record Fits (ws flat : List ℕ) : Type 0 where
  pub room : Room ws 0 (33 + flag_reserve * (length flat / 6))
  pub placed : flag_places (length (records_of flat)) ≤ places ws
  pub legal : AllLegal (records_of flat)

pub fits : (ws flat : List ℕ) {n : ℕ} → n ≡ (flag_refusal (places ws) (records_of flat)).number → n ≤ 0 → Fits ws flat
fits ws flat e h =
    let b = flag-legal (places ws) (records_of flat) (omega (arith, e, h)) in
    let l : flag_places (length flat / 6) ≤ places ws = rw (from-length flat 0 (length flat / 6)) at b.fits in
    record { room = omega (arith, l, min-le_left (length ws / 4) none, min-le_right (length ws / 4) none); placed = b.fits; legal = b.legal }

-- the start has a map and a bit
pub started-ok : {w0 w1 : List ℕ} {f : Flagged} → FlagStarted w0 w1 f → MapOk f.map × (f.bit.0 < f.map.count) × (f.map.count ≡ 33)
started-ok {f = f} s =
    let e : f.map.count ≡ 33 = rw s.map_is refl in
    (rw s.map_is (raised-ok first_map 33 (omega arith) first-ok), omega (arith, e, s.bit_at), e)

pub all_done : {w0 w1 w2 : List ℕ} {f f' : Flagged} {cs : List Instruction} → flag_places (length cs) ≤ places w0 → FlagStarted w0 w1 f → FlagRuns w1 f w2 f' cs
    → Accepted w0 cs w2 f'.map f'.bit.0
all_done {w0} {w1} {w2} {f} {f'} {cs} l s r =
    let at : f.map.count ≡ 33 = rw s.map_is refl in
    let d = r.made {t = Var} {b = no} (rw at s.valid) (subst (λ (m : RegisterMap). MapIs w1 m Var) (sym s.map_is) s.is) (rw (at, s.bit_at) s.bit_is) in
    let g : Grown w1 33 w2 f'.map.count = rw at at d.grown in
    let all = grown-trans s.grown g in
    let long : length w2 ≡ length w0 = all.long in
    record {
      terms = d.is;
      bit_is = d.bit_is;
      checked = rw (long, le-leb f'.map.count (places w0) (omega (arith, r.most, at, l)), d.valid);
      long = long;
      past = all.above;
      vars = λ x h. cell-kept g x (omega arith) ∙ s.vars x h;
      plain = λ n f h. all.plain n f (omega arith) h;
      zero_is = is-kept g s.bit_is;
      zero_reached = rw s.bit_at at d.earlier;
      lowered = subst (λ (m : RegisterMap). FlagLowered w2 f'.bit.0 m Var cs f'.map) s.map_is d.lowered;
    }
