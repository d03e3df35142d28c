-- What `lane_script_length` answers, by the way that it took. Assumes nothing.
use mathlib.Core.Bool.{Bool, true, false}
use mathlib.Core.List.{List}
use mathlib.Core.Path.{◌≡◌, refl, sym, ap, ◌∙◌}
use Prim.Native.Nat.{ℕ, ◌≤◌, ◌<◌}
use native.Mathlib.Omega.{arith}
use lib.Dec.{ltb, leb}
use lib.ListN.{length}
use borrow.Author.Tests.{lt-ltb, le-leb, ltb-true, leb-true}
use Rattle.facts.specs.Refuse.{by_number, unless}
use Rattle.facts.proofs.Tests.{and_both}
use Rattle.script_length.proofs.Answers.{Good, good, past}
use Rattle.script_lane_meaning.specs.LaneScript.{lane_script_of}
use Rattle.script_lane_length.specs.Answer.{is_cut, lane_number, LaneMeasured}

-- ---- the cut

pub cut-is : (hi lo : ℕ) → lo ≤ hi → hi < 128 → is_cut hi lo ≡ true
cut-is hi lo h l = rw (le-leb lo hi h, lt-ltb hi 128 l)

-- ---- the number

unless-zero : (c : Bool) (rest : ℕ) → unless c 5 rest ≡ 0 → c ≡ true
unless-zero true rest e = refl
unless-zero false rest e = absurd (omega arith)

module _ (ws : List ℕ) (count a b hi lo : ℕ) where
  -- no refusal: each test was passed
  pub record Fine : Type 0 where
    pub nodes : Good ws count a b
    pub order : lo ≤ hi
    pub under : hi < 128

  pub fine : (rest : ℕ) → lane_number ws count a b hi lo rest ≡ 0 → Fine
  fine rest e =
      let g = good ws count a b (unless (is_cut hi lo) 5 rest) e in
      let cut = unless-zero (is_cut hi lo) rest (sym (past ws count a b (unless (is_cut hi lo) 5 rest) g) ∙ e) in
      let both = and_both (leb lo hi) (ltb hi 128) cut in
      record { nodes = g; order = leb-true lo hi both.0; under = ltb-true hi 128 both.1 }

  pub past_all : (rest : ℕ) → Fine → lane_number ws count a b hi lo rest ≡ rest
  past_all rest f =
      past ws count a b (unless (is_cut hi lo) 5 rest) f.nodes ∙ ap (λ (t : Bool). unless t 5 rest) (cut-is hi lo f.order f.under)

  -- ---- the answers

  pub measured : {l : ℕ} → lane_number ws count a b hi lo 0 ≡ 0 → l ≡ length (lane_script_of ws count a b hi lo) → LaneMeasured ws count a b hi lo 0 l
  measured {l} z e = record {
    number_is = sym z;
    length_is = e ∙ ap (λ (j : ℕ). by_number j (length (lane_script_of ws count a b hi lo))) (sym z);
  }
