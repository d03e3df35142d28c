-- What a routine on a start answers, by the way that it took. Assumes nothing.
use mathlib.Core.Bool.{Bool, true, false}
use mathlib.Core.List.{List}
use mathlib.Core.Path.{◌≡◌, refl, sym, ap, ◌∙◌}
use Prim.Native.Nat.{ℕ, ◌*◌, ◌-◌, ◌≤◌, ◌<◌}
use native.Mathlib.Omega.{arith}
use lib.Dec.{eqb, leb}
use lib.ListN.{length, take, drop, length-drop}
use lib.Seq.{sets, take_all}
use borrow.Author.Tests.{eq-eqb, ne_eqb, le-leb, lt-leb}
use Rattle.neon.specs.Refusal.{Refusal, refusal}
use Rattle.block_check.specs.Records.{records_of}
use Rattle.text_digits.specs.Writing.{Wrote}
use Rattle.text_digits.proofs.Laws.{wrote_none, wrote_as}
use Rattle.text_series.proofs.Places.{rows_eq}
use Rattle.text_series.proofs.Texts.{filled}
use Rattle.wide.specs.Registers.{registers_of}
use Rattle.saturation.specs.Saturates.{saturates_run}
use Rattle.neon.specs.Run.{arm_run}
use Rattle.run_block.specs.Run.{run_refusal, RunAnswered, FlagAnswered}
use Rattle.block_check.specs.declared.ListAnswer.{ListAnswer}
use Rattle.line_routine.specs.Routine.{routine_of, LinesRead}
use Rattle.line_routine.proofs.Blocks as blocks
use Rattle.line_routine.proofs.Blocks.{count_fits, block-is, records-are}
use Rattle.run_registers.specs.declared.Start.{Start}
use Rattle.run_registers.specs.Start.{start_refusal, start_words, rest_of, StartRead}
use Rattle.run_registers.proofs.Starts.{start-length}
use Rattle.run_lines.specs.declared.Written.{Written}
use Rattle.run_lines.specs.Output.{register_line, registers_text, after_text, text_by, rest_refusal, rest_text, start_of, run_number, run_output, RanRest, RunWritten}

-- ---- a text that is not written

pub nothing : (x : Refusal) (text out : List ℕ) (len : ℕ) → 0 < x.number → len ≡ 0 → Wrote out 0 (text_by x text) len out
nothing x text out len h e =
    let f : eqb x.number 0 ≡ false = ne_eqb x.number 0 (λ z. omega (arith, z, h)) in
    rw (f, e) (wrote_none out 0)

pub something : (x : Refusal) {text out out' : List ℕ} {len : ℕ} → x.number ≡ 0 → Wrote out 0 text len out' → Wrote out 0 (text_by x text) len out'
something x e w = rw (eq-eqb x.number 0 e) w

-- ---- the routine

module _ (rest : List ℕ) where
  long : 85 < length (routine_of rest) → run_refusal (routine_of rest) ≡ refusal 8 0
  long h = rw (lt-leb (length (routine_of rest)) 85 h)

  module _ {old records : List ℕ} (r : ListAnswer) (size : length old ≡ 510) (h : LinesRead rest old r records) where
    pub lines_fit : r.number ≤ 0 → 6 * r.count ≤ 510
    lines_fit = count_fits rest (run_refusal (routine_of rest)) long r size h

    module _ (start out : List ℕ) where
      refused : (n p : ℕ) → 0 < n → (n ≡ (rest_refusal rest).number) × (p ≡ (rest_refusal rest).position) → (w : Written)
          → (w.number ≡ n) × (w.position ≡ p) × (w.in_start ≡ false) × (w.length ≡ 0) → RanRest start rest out w out
      refused n p z e w q =
          record {
            number_is = q.0 ∙ e.0;
            position_is = q.1 ∙ e.1;
            in_start_is = q.2;
            wrote = nothing (rest_refusal rest) _ out w.length (omega (arith, e)) q.3;
            length_in = omega (arith, q.3);
          }

      pub lines-refused : 0 < r.number → (w : Written) → (w.number ≡ r.number) × (w.position ≡ r.position) × (w.in_start ≡ false) × (w.length ≡ 0)
          → RanRest start rest out w out
      lines-refused z = refused r.number r.position z (blocks.lines-refused rest (run_refusal (routine_of rest)) long r size h z)

      module _ (passed : r.number ≤ 0) {number position : ℕ} {new : List ℕ}
          (ran : RunAnswered start (records_of (take (6 * r.count) records)) number position new) where
        same : records_of (take (6 * r.count) records) ≡ routine_of rest
        same = records-are rest (run_refusal (routine_of rest)) long r size h passed

        block : rest_refusal rest ≡ run_refusal (records_of (take (6 * r.count) records))
        block = block-is rest (run_refusal (routine_of rest)) long r size h passed ∙ sym (ap run_refusal same)

        by_number : number ≡ (rest_refusal rest).number
        by_number = ran.number_is ∙ sym (ap (λ (x : Refusal). x.number) block)

        by-position : position ≡ (rest_refusal rest).position
        by-position = ran.position_is ∙ sym (ap (λ (x : Refusal). x.position) block)

        pub block_refused : 0 < number → (w : Written) → (w.number ≡ number) × (w.position ≡ position) × (w.in_start ≡ false) × (w.length ≡ 0)
            → RanRest start rest out w out
        block_refused z = refused number position z (by_number, by-position)

        text : (saturated : Bool) → number ≤ 0 → FlagAnswered start (records_of (take (6 * r.count) records)) number saturated
            → rest_text (registers_of start) rest ≡ after_text (registers_of start) (registers_of new) saturated
        unfolding rest_text registers_text
        text saturated z flag =
            let zero_is : number ≡ 0 = omega arith in
            let cs = routine_of rest in
            let rows = rows_eq 32 (λ j. register_line j (registers_of start j) (arm_run cs (registers_of start) j)) (λ j. register_line j (registers_of start j) (registers_of new j))
            (λ j l. ap (register_line j (registers_of start j)) (sym (ran.ran zero_is j l ∙ ap (λ (x : List _). arm_run x (registers_of start) j) same)))
            in
            let f : saturated ≡ saturates_run cs (registers_of start) = flag.ran zero_is ∙ ap (λ (x : List _). saturates_run x (registers_of start)) same in
            rw (rows, ← f)

        pub block-ran : {out' : List ℕ} {len : ℕ} (saturated : Bool) → number ≤ 0 → FlagAnswered start (records_of (take (6 * r.count) records)) number saturated
            → Wrote out 0 (after_text (registers_of start) (registers_of new) saturated) len out' → len ≤ 1536
            → RanRest start rest out (record { number = number; position = position; in_start = false; length = len }) out'
        block-ran saturated z flag w n =
            record {
              number_is = by_number;
              position_is = by-position;
              in_start_is = refl;
              wrote = something (rest_refusal rest) (omega (arith, by_number)) (wrote_as (text saturated z flag) w);
              length_in = n;
            }

-- ---- the whole input

-- a part of a text, from some place to its end
part-is : (bs : List ℕ) (n : ℕ) → take (length bs - n) (drop n bs) ≡ drop n bs
part-is bs n = take_all (length bs - n) (drop n bs) (omega (arith, length-drop n bs))

module _ (input out : List ℕ) where
  pub too_long : 65536 < length input → (w : Written) → (w.number ≡ 8) × (w.position ≡ 0) × (w.in_start ≡ false) × (w.length ≡ 0)
      → RunWritten input out w out
  unfolding run_number run_output
  too_long h w q =
      let f : leb (length input) 65536 ≡ false = lt-leb (length input) 65536 h in
      record {
        number_is = rw f q.0;
        position_is = rw f q.1;
        in_start_is = rw f q.2;
        wrote = rw f (nothing (refusal 8 0) (rest_text (start_of input) (rest_of input)) out w.length (omega arith) q.3);
        length_in = omega (arith, q.3);
      }

  module _ (fits : length input ≤ 65536) {old words : List ℕ} (s : Start) (read : StartRead input old s words) where
    here : leb (length input) 65536 ≡ true
    here = le-leb (length input) 65536 fits

    pub start-refused : 0 < s.number → (w : Written) → (w.number ≡ s.number) × (w.position ≡ s.position) × (w.in_start ≡ true) × (w.length ≡ 0)
        → RunWritten input out w out
    unfolding run_number run_output
    start-refused z w q =
        let f : eqb (start_refusal input).number 0 ≡ false = ne_eqb (start_refusal input).number 0 (λ e. omega (arith, e, z, read.number_is)) in
        record {
          number_is = rw (here, f) (q.0 ∙ read.number_is);
          position_is = rw (here, f) (q.1 ∙ read.position_is);
          in_start_is = rw (here, f) q.2;
          wrote = rw (here, f) (nothing (start_refusal input) (rest_text (start_of input) (rest_of input)) out w.length (omega (arith, read.number_is)) q.3);
          length_in = omega (arith, q.3);
        }

    words_are : length old ≡ 64 → (start_refusal input).number ≡ 0 → words ≡ start_words input 32
    words_are size z =
        let w : words ≡ sets old 0 (start_words input 32) = rw (eq-eqb (start_refusal input).number 0 z) at read.words_are in
        let n = start-length input 32 in
        filled (start_words input 32) (omega (arith, n, size)) (record { next_is = refl; after_is = w })

    pub start-read : length old ≡ 64 → s.number ≤ 0 → {out' : List ℕ} {w : Written} → RanRest words (take (length input - s.next) (drop s.next input)) out w out'
        → RunWritten input out w out'
    unfolding run_number run_output
    start-read size z {out'} {w} r =
        let zero_is : s.number ≡ 0 = omega arith in
        let e : (start_refusal input).number ≡ 0 = omega (arith, read.number_is) in
        let f : eqb (start_refusal input).number 0 ≡ true = eq-eqb (start_refusal input).number 0 e in
        let rest = read.next_is zero_is in
        let u = rw (words_are size e, part-is input s.next, rest) at r in
        record {
          number_is = rw (here, f) u.number_is;
          position_is = rw (here, f) u.position_is;
          in_start_is = rw (here, f) u.in_start_is;
          wrote = rw (here, f) u.wrote;
          length_in = u.length_in;
        }
