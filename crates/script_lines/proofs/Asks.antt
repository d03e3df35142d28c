-- What is answered to a routine and two registers, by the way that it took. Assumes nothing.
use mathlib.Core.Bool.{Bool, true, false, ◌&&◌, ◌||◌, false≢true}
use mathlib.Core.List.{List}
use mathlib.Core.Path.{◌≡◌, refl, sym, ◌∙◌, subst}
use Prim.Native.Nat.{ℕ, ◌*◌, ◌≤◌, ◌<◌}
use native.Mathlib.Omega.{arith}
use lib.Dec.{leb, ltb}
use lib.ListN.{length, take}
use borrow.Author.Tests.{le-leb, lt-leb, leb-true, le-ltb, ltb-false}
use Rattle.facts.specs.Refuse.{by_number, unless}
use Rattle.neon.specs.declared.Instruction.{Instruction}
use Rattle.neon.specs.Refusal.{Refusal, refusal, size_number, block_refusal}
use Rattle.pool.specs.Node.{places}
use Rattle.pool.specs.Rules.{pool_ok, of_width}
use Rattle.script_meaning.specs.Script.{script_of}
use Rattle.block_map.specs.Map.{node_of}
use Rattle.block_check.specs.Records.{records_of}
use Rattle.block.specs.Block.{BlockAnswer}
use Rattle.block.specs.Block as block
use Rattle.script_write.specs.Answer as scripts
use Rattle.block_check.specs.declared.ListAnswer.{ListAnswer}
use Rattle.line_routine.specs.Routine.{routine_of, routine_refusal, LinesRead}
use Rattle.line_routine.proofs.Blocks as blocks
use Rattle.line_routine.proofs.Blocks.{count_fits, block-is, records-are}
use Rattle.script_lines.specs.declared.Given.{Given}
use Rattle.script_lines.specs.Output.{asked_refusal, ScriptGiven}

-- ---- a script that is written fits

fits_by : (p c l : Bool) (n room : ℕ) → (l ≡ true → n ≤ room) → by_number (unless p 1 (unless c 5 (unless l 9 0))) n ≤ room
fits_by true true true n room h = h refl
fits_by true true false n room h = omega arith
fits_by true false l n room h = omega arith
fits_by false c l n room h = omega arith

script-fits : {ws : List ℕ} {count x y : ℕ} {old : List ℕ} {n len : ℕ} {new : List ℕ} → scripts.Answered ws count x y old n len new → len ≤ length old
script-fits {ws} {count} {x} {y} {old} s =
    let size = length (script_of ws count x y) in
    omega
    (arith, s.length_is, fits_by (pool_ok ws count) (of_width ws count x 128 && of_width ws count y 128) (leb size (length old)) size (length old) (leb-true size (length old)))

-- ---- the two registers

over : (a b : ℕ) → (ltb 31 a || ltb 31 b) ≡ true → (leb a 31 && leb b 31) ≡ false
over a b h = go (leb a 31) refl (leb b 31) refl
  where
    go : (x : Bool) → leb a 31 ≡ x → (y : Bool) → leb b 31 ≡ y → (leb a 31 && leb b 31) ≡ false
    go true p true q = absurd (false≢true (rw (le-ltb 31 a (leb-true a 31 p), le-ltb 31 b (leb-true b 31 q)) at h))
    go true p false q = rw (p, q)
    go false p y q = rw p

pub within : (a b : ℕ) → (ltb 31 a || ltb 31 b) ≡ false → (a ≤ 31) × (b ≤ 31)
within a b h = go (ltb 31 a) refl (ltb 31 b) refl
  where
    go : (x : Bool) → ltb 31 a ≡ x → (y : Bool) → ltb 31 b ≡ y → (a ≤ 31) × (b ≤ 31)
    go true p y q = absurd (false≢true (sym (rw p at h)))
    go false p true q = absurd (false≢true (sym (rw (p, q) at h)))
    go false p false q = (ltb-false 31 a p, ltb-false 31 b q)

module _ (input : List ℕ) (a b : ℕ) (pool old : List ℕ) where
  abbrev asked : Refusal
  asked = asked_refusal input a b (places pool)

  abbrev block_of : Refusal
  block_of = block_refusal (places pool) (routine_of input)

  -- ---- a refusal

  pub given-refused : (n p : ℕ) → 0 < n → (n ≡ asked.number) × (p ≡ asked.position) → (w : Given) → (w.number ≡ n) × (w.position ≡ p) × (w.length ≡ 0)
      → {pool' : List ℕ} → pool' ≡ pool → ScriptGiven input a b pool old w pool' old
  given-refused n p z e w q kept =
      record {
        refused = λ y. record { number_is = q.0 ∙ e.0; position_is = q.1 ∙ e.1; length_is = q.2; pool_kept = kept; buffer_kept = refl };
        asked = λ y. absurd (omega (arith, y, e, z));
        length_in = omega (arith, q.2);
      }

  pub no-registers : (ltb 31 a || ltb 31 b) ≡ true → (7 ≡ asked.number) × (0 ≡ asked.position)
  unfolding asked_refusal
  no-registers h = rw (over a b h) (refl, refl)

  module _ (in-a : a ≤ 31) (in_b : b ≤ 31) where
    pub long-input : 65536 < length input → (8 ≡ asked.number) × (0 ≡ asked.position)
    unfolding asked_refusal
    long-input h = rw (le-leb a 31 in-a, le-leb b 31 in_b, lt-leb (length input) 65536 h) (refl, refl)

    module _ (fits : length input ≤ 65536) where
      routine : asked ≡ routine_refusal input block_of
      unfolding asked_refusal
      routine = rw (le-leb a 31 in-a, le-leb b 31 in_b, le-leb (length input) 65536 fits)

      long : 85 < length (routine_of input) → block_of ≡ refusal 8 0
      unfolding block_refusal size_number
      long h = rw (lt-leb (length (routine_of input)) 85 h)

      module _ {none records : List ℕ} (r : ListAnswer) (size : length none ≡ 510) (h : LinesRead input none r records) where
        pub lines-refused : 0 < r.number → (r.number ≡ asked.number) × (r.position ≡ asked.position)
        lines-refused z = rw routine (blocks.lines-refused input block_of long r size h z)

        pub lines_fit : r.number ≤ 0 → 6 * r.count ≤ 510
        lines_fit = count_fits input block_of long r size h

        module _ (passed : r.number ≤ 0) {pool' : List ℕ} (answer : BlockAnswer)
            (lowered : block.Answered pool (records_of (take (6 * r.count) records)) pool' answer) where
          same : block.Answered pool (routine_of input) pool' answer
          same = subst (λ (cs : List Instruction). block.Answered pool cs pool' answer) (records-are input block_of long r size h passed) lowered

          by_block : asked ≡ block_of
          by_block = routine ∙ block-is input block_of long r size h passed

          pub block_refused : (answer.number ≡ asked.number) × (answer.position ≡ asked.position)
          block_refused = rw by_block (same.number, same.position)

          pub pool_kept : 0 < answer.number → pool' ≡ pool
          pool_kept z = (same.refused (λ e. omega (arith, e, z))).1

          pub given-asked : answer.number ≤ 0 → {x y n len : ℕ} {new : List ℕ} → x ≡ node_of answer.map a → y ≡ node_of answer.map b
              → scripts.Answered pool' answer.map.count x y old n len new
              → (w : Given) → (w.number ≡ n) × (w.position ≡ 0) × (w.length ≡ len)
              → ScriptGiven input a b pool old w pool' new
          given-asked z ex ey s w q =
              record {
                refused = λ y. absurd (omega (arith, y, block_refused, z));
                asked =
                    λ _.
                    record { answer = answer; lowered = same; accepted = omega arith; script = rw (q.0, q.2) (rw (ex, ey) at s); position_is = q.1 };
                length_in = omega (arith, q.2, script-fits s);
              }
