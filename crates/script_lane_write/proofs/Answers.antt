-- What `write_lane_script` answers, by the way that it took. Assumes nothing.
use mathlib.Core.Bool.{Bool, true, false, ◌&&◌}
use mathlib.Core.List.{List}
use mathlib.Core.Path.{◌≡◌, refl, sym, ap, ◌∙◌}
use Prim.Native.Nat.{ℕ, ◌≤◌, ◌<◌}
use native.Mathlib.Omega.{arith}
use lib.ListN.{length}
use borrow.Author.Tests.{le-leb, lt-leb}
use Rattle.facts.specs.Refuse.{by_number, list_by, unless}
use Rattle.facts.proofs.Refused.{zero-beside, old-kept}
use Rattle.pool.specs.Rules.{pool_ok, of_width}
use Rattle.text_digits.specs.Writing.{Wrote}
use Rattle.text.proofs.Answers.{in-front}
use Rattle.script_lane_meaning.specs.LaneScript.{lane_script_of}
use Rattle.script_lane_length.specs.Answer.{is_cut, lane_number}
use Rattle.script_lane_length.proofs.Answers.{Fine, past_all}
use Rattle.script_lane_write.specs.Answer.{write_number, LaneAnswered}

-- a refusal that needs no buffer is that whatever the buffer's
kept : (pool nodes cut : Bool) (rest : ℕ) → 0 < unless pool 1 (unless nodes 5 (unless cut 5 0))
    → unless pool 1 (unless nodes 5 (unless cut 5 0)) ≡ unless pool 1 (unless nodes 5 (unless cut 5 rest))
kept true true true rest h = absurd (omega arith)
kept true true false rest h = refl
kept true false cut rest h = refl
kept false nodes cut rest h = refl

module _ (ws : List ℕ) (count a b hi lo : ℕ) where
  abbrev text : List ℕ
  text = lane_script_of ws count a b hi lo

  pub short : (room : ℕ) → Fine ws count a b hi lo → room < length text → write_number ws count a b hi lo room ≡ 9
  short room g s = past_all ws count a b hi lo _ g ∙ rw (lt-leb (length text) room s)

  pub fits : (room : ℕ) → Fine ws count a b hi lo → length text ≤ room → write_number ws count a b hi lo room ≡ 0
  fits room g s = past_all ws count a b hi lo _ g ∙ rw (le-leb (length text) room s)

  pub refused : {k : ℕ} (old : List ℕ) → k ≡ lane_number ws count a b hi lo 0 → 0 < k → LaneAnswered ws count a b hi lo old k 0 old
  refused {k} old e h =
      let nodes : Bool = of_width ws count a 128 && of_width ws count b 128 in
      let w : k ≡ write_number ws count a b hi lo (length old) = e ∙ kept (pool_ok ws count) nodes (is_cut hi lo) _ (rw e at h) in
      record {
        number_is = w;
        length_is = sym (zero-beside k (length text) h) ∙ ap (λ (j : ℕ). by_number j (length text)) w;
        buffer_is = sym (old-kept k text old h) ∙ ap (λ (j : ℕ). list_by j text old) w;
      }

  pub written : {old new : List ℕ} {len end : ℕ} → write_number ws count a b hi lo (length old) ≡ 0 → length text ≤ length old → len ≡ length text
      → Wrote old 0 text end new
      → LaneAnswered ws count a b hi lo old 0 len new
  written {old} e h l w = record {
    number_is = sym e;
    length_is = l ∙ ap (λ (j : ℕ). by_number j (length text)) (sym e);
    buffer_is = in-front w h ∙ ap (λ (j : ℕ). list_by j text old) (sym e);
  }
