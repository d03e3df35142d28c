-- A routine that was read into a list for 85 records, handed on as a block. Assumes nothing.
use mathlib.Core.Bool.{Bool, true, false}
use mathlib.Core.List.{List}
use mathlib.Core.Path.{◌≡◌, refl, sym, ap, ◌∙◌}
use Prim.Native.Nat.{ℕ, ◌*◌, ◌/◌, ◌≤◌, ◌<◌}
use native.Mathlib.Omega.{arith}
use lib.Dec.{eqb, leb}
use lib.ListN.{length, take, drop}
use lib.Seq.{take_at}
use borrow.Author.Tests.{eqb-false, leb-true, leb-false}
use Rattle.neon.specs.Refusal.{Refusal, refusal}
use Rattle.block_check.specs.Records.{records_of}
use Rattle.block_check.proofs.Refusals.{from-length}
use Rattle.block_check.specs.declared.ListAnswer.{ListAnswer}
use Rattle.line_routine.specs.Routine.{line_count, lines_refusal, read_refusal, numbers_in, routine_of, routine_refusal, LinesRead}
use Rattle.line_routine.proofs.Answers.{numbers-length}

module _ (bs : List ℕ) where
  pub routine-length : length (routine_of bs) ≡ line_count bs
  routine-length = from-length (numbers_in bs) 0 (length (numbers_in bs) / 6) ∙ omega (arith, numbers-length bs)

  module _ (block : Refusal) (long : 85 < length (routine_of bs) → block ≡ refusal 8 0) where
    -- what refuses the reading refuses the routine; else the block says
    abbrev Ways : Type 0
    Ways =
        (0 < (read_refusal bs 510).number → routine_refusal bs block ≡ read_refusal bs 510)
        × ((read_refusal bs 510).number ≡ 0 → (routine_refusal bs block ≡ block) × (6 * line_count bs ≤ 510))

    by_lines : (b : Bool) → eqb (lines_refusal bs).number 0 ≡ b → (d : Bool) → leb (6 * line_count bs) 510 ≡ d → Ways
    unfolding read_refusal routine_refusal
    by_lines true q true l = rw (q, l) (λ h. absurd (omega arith), λ e. (refl, leb-true (6 * line_count bs) 510 l))
    by_lines true q false l =
        let n = leb-false (6 * line_count bs) 510 l in
        rw (q, l) (λ h. long (omega (arith, routine-length)), λ e. absurd (omega (arith, e)))
    by_lines false q d l = rw q (λ h. refl, λ e. absurd (eqb-false (lines_refusal bs).number 0 q e))

    ways : Ways
    ways = by_lines (eqb (lines_refusal bs).number 0) refl (leb (6 * line_count bs) 510) refl

    module _ {old records : List ℕ} (r : ListAnswer) (size : length old ≡ 510) (h : LinesRead bs old r records) where
      number_by : r.number ≡ (read_refusal bs 510).number
      number_by = h.number_is ∙ ap (λ (k : ℕ). (read_refusal bs k).number) size

      position-by : r.position ≡ (read_refusal bs 510).position
      position-by = h.position_is ∙ ap (λ (k : ℕ). (read_refusal bs k).position) size

      pub lines-refused : 0 < r.number → (r.number ≡ (routine_refusal bs block).number) × (r.position ≡ (routine_refusal bs block).position)
      lines-refused z =
          let e = ways.0 (omega (arith, number_by)) in
          (number_by ∙ sym (ap (λ (x : Refusal). x.number) e), position-by ∙ sym (ap (λ (x : Refusal). x.position) e))

      module _ (passed : r.number ≤ 0) where
        pub block-is : routine_refusal bs block ≡ block
        block-is = (ways.1 (omega (arith, number_by))).0

        count_by : r.count ≡ line_count bs
        count_by = let z : (read_refusal bs (length old)).number ≡ 0 = omega (arith, h.number_is) in rw z at h.count_is

        pub count_fits : 6 * r.count ≤ 510
        count_fits = omega (arith, count_by, (ways.1 (omega (arith, number_by))).1)

        -- the records that are handed on
        pub records-are : records_of (take (6 * r.count) records) ≡ routine_of bs
        records-are =
            let z : (read_refusal bs (length old)).number ≡ 0 = omega (arith, h.number_is) in
            let l = rw z at h.list_is in
            ap records_of (ap (take (6 * r.count)) l ∙ take_at (numbers_in bs) (drop (length (numbers_in bs)) old) (6 * r.count) (omega (arith, count_by, numbers-length bs)))
