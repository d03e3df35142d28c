-- The bytes of a pool's script by lanes, read by the standard at a start: the theorem of specs/Demand.antt. Assumes nothing.
use mathlib.Core.Path.{◌≡◌, refl, sym, ap, ◌∙◌}
use mathlib.Core.Bool.{Bool, true, false, not, false≢true}
use mathlib.Core.List.{List, []}
use mathlib.Core.Option.{Option, some}
use Prim.Native.Nat.{ℕ, suc, ◌-◌, ◌≤◌, ◌<◌}
use native.Mathlib.Omega.{arith}
use lib.Dec.{eqb}
use borrow.Author.Tests.{lt-ltb, le-leb, eq-eqb, ne_eqb}
use Rattle.terms.specs.Value.{value, bit}
use Rattle.terms.specs.Display.{bytes}
use Rattle.pool.specs.Node.{cell_at, width_at}
use Rattle.pool.specs.Rules.{Valid}
use Rattle.pool.specs.Unfold.{unfold_at}
use Rattle.script_meaning.specs.Sexp.{Items, stop, ◌⨾◌}
use Rattle.script_meaning.specs.Values.{and_then, Meaning, meaning, find}
use Rattle.script_meaning.specs.Functions.{functions, indexed, cut, distinct, applied, applied_at}
use Rattle.script_meaning.specs.Meaning.{term, commands, Script, script, done, run, begun, meant}
use Rattle.script_meaning.specs.Script.{name_of, set_logic, check_sat, declarations}
use Rattle.script_meaning.specs.Demand.{ModelOf, Holds}
use Rattle.script_meaning.proofs.Reading.{read-lines}
use Rattle.script_meaning.proofs.Vars.{is_var, is-var, name-other}
use Rattle.script_meaning.proofs.Terms.{two-terms, indexed-2}
use Rattle.script_meaning.proofs.Commands.{assert-step}
use Rattle.script_meaning.proofs.Registers.{Names, nothing, AllDeclared, declare}
use Rattle.script_meaning.proofs.Nodes.{Defined, before, atom-is, is-register}
use Rattle.script_meaning.proofs.Stays.{holds_of}
use Rattle.script_lane_meaning.specs.LaneScript.{equations, lane_of, lanes_differ, lane_claim, lane_commands, lane_script_of}
use Rattle.script_lane_meaning.specs.Demand.{lane_at, LaneScriptMeans}
use Rattle.script_lane_meaning.proofs.Values.{value-fits, pool_model, model-register, model-node}
use Rattle.script_lane_meaning.proofs.Fine.{fine-script}
use Rattle.script_lane_meaning.proofs.Run.{Right, meet, force}

module _ (ws : List ℕ) (count : ℕ) (valid : Valid ws count) (x y : ℕ) (hx : x < count) (hy : y < count) (wx : width_at ws x ≡ 128) (wy : width_at ws y ≡ 128)
    (hi lo : ℕ) (h : lo ≤ hi) (g : hi < 128) (start : ℕ → ℕ) where
  abbrev differ : Bool
  differ = not (eqb (lane_at ws start hi lo x) (lane_at ws start hi lo y))

  abbrev claim : Items
  claim = lane_claim ws x y hi lo ⨾ check_sat ⨾ stop

  abbrev script-bytes : List ℕ
  script-bytes = lane_script_of ws count x y hi lo

  -- ---- the assertion

  lane-reads : (env : Names) (n : ℕ) → Defined ws count valid start env count → n < count → width_at ws n ≡ 128
      → term (lane_of ws hi lo n) env ≡ some (meaning (suc (hi - lo)) (lane_at ws start hi lo n))
  unfolding find indexed applied_at
  lane-reads env n d l w =
      let name-is = atom-is ws count valid start env n (d.named n l) in
      indexed-2 env (bytes "extract") (name_of ws n) hi lo cut (meaning (width_at ws n) (value start (unfold_at ws n))) refl name-is
      ∙ rw (le-leb lo hi h, w, lt-ltb hi 128 g)

  claim-reads : (env : Names) → Defined ws count valid start env count → term (lanes_differ ws x y hi lo) env ≡ some (meaning 0 (bit differ))
  unfolding find functions applied
  claim-reads env d =
      let cut_of : ℕ → Meaning = λ n. meaning (suc (hi - lo)) (lane_at ws start hi lo n) in
      two-terms env (bytes "distinct") (lane_of ws hi lo x) (lane_of ws hi lo y) distinct (cut_of x) (cut_of y) refl (lane-reads env x d hx wx) (lane-reads env y d hy wy)
      ∙ rw (eq-eqb (suc (hi - lo)) (suc (hi - lo)) refl)

  claimed : (model : List ℕ → ℕ) (env : Names) → Defined ws count valid start env count → run model claim (script env true) ≡ some (script env differ)
  unfolding run find commands done
  claimed model env d =
      ap (λ (o : Option Script). and_then o (λ s. run model (check_sat ⨾ stop) s)) (assert-step model env true (lanes_differ ws x y hi lo) differ (claim-reads env d))

  -- ---- the whole script

  meant-from : (model : List ℕ → ℕ) → meant model script-bytes ≡ run model (declarations 32 0 (equations ws count 0 claim)) (script [] true)
  unfolding meant lane_script_of lane_commands
  meant-from model =
      let all-equations : lane_commands ws count x y hi lo ≡ set_logic ⨾ declarations 32 0 (equations ws count 0 claim) = refl in
      ap (λ (o : Option Items). and_then o (λ xs. begun model xs)) (read-lines _ (fine-script ws count valid x y hi lo) ∙ ap some all-equations)

  record Ran (model : List ℕ → ℕ) : Type 0 where
    names : Names
    values : (n : ℕ) → n < count → find names (name_of ws n) ≡ some (meaning (width_at ws n) (value start (unfold_at ws n)))
    meant_is : meant model script-bytes ≡ some (script names differ)

  module _ (model : List ℕ → ℕ) (m : ModelOf start model) where
    registers : AllDeclared start model m.fits m.gives 32 0 [] (equations ws count 0 claim)
    registers = declare start model m.fits m.gives 32 0 [] (equations ws count 0 claim) (omega arith) (nothing start)

    first : Defined ws count valid start registers.names 0
    first = before ws count valid start registers.names registers.declared

    -- if the model has the nodes' values
    ran : Right ws count valid start model → Ran model
    ran right =
        let b = meet ws count valid start model (λ n l. value-fits start m.fits ws count n valid l) right count 0 registers.names claim (omega arith) first in
        record { names = b.names; values = b.known.named; meant_is = meant-from model ∙ registers.ran ∙ b.ran ∙ claimed model b.names b.known }

    -- if all assertions hold
    right : Holds model script-bytes → Right ws count valid start model
    right (s, e, t) n l v =
        force ws count valid start model s t count 0 registers.names claim (omega arith) first (sym (meant-from model ∙ registers.ran) ∙ e) n (omega arith) l v

    forced : Holds model script-bytes → (n : ℕ) → n < count → model (name_of ws n) ≡ value start (unfold_at ws n)
    unfolding value
    forced holds n l = go (is_var (cell_at ws n).kind) refl
      where
        go : (b : Bool) → is_var (cell_at ws n).kind ≡ b → model (name_of ws n) ≡ value start (unfold_at ws n)
        go true v =
            let r = is-register ws count valid start n l (is-var (cell_at ws n).kind v) in
            ap model r.named-so ∙ m.gives (cell_at ws n).x r.one_of ∙ sym (ap (value start) r.tree)
        go false v = ap model (name-other (cell_at ws n).kind (cell_at ws n) n v) ∙ right holds n l v

    apart : Holds model script-bytes → lane_at ws start hi lo x ≡ lane_at ws start hi lo y → ⊥
    apart (s, e, t) same =
        let holds-is : differ ≡ true = ap holds_of (sym (ran (right (s, e, t))).meant_is ∙ e) ∙ t in
        false≢true (sym (ap not (eq-eqb (lane_at ws start hi lo x) (lane_at ws start hi lo y) same)) ∙ holds-is)

pub lane-script-means : LaneScriptMeans
lane-script-means ws count valid x y hx hy wx wy hi lo h g start bits =
    let model = pool_model ws start in
    let of_start : ModelOf start model = record { fits = bits; gives = λ r l. model-register ws start r } in
    let r = ran ws count valid x y hx hy wx wy hi lo h g start model of_start (λ n l v. model-node ws start n) in
    let vx = lane_at ws start hi lo x in
    let vy = lane_at ws start hi lo y in
    record {
      solved = record { model = model; of_start = of_start; names = r.names; values = r.values; meant_is = r.meant_is };
      forced = forced ws count valid x y hx hy wx wy hi lo h g start;
      met = (
        λ met. apart ws count valid x y hx hy wx wy hi lo h g start met.0 met.1 met.2,
        λ differ. (model, of_start, (script r.names (not (eqb vx vy)), r.meant_is, ap not (ne_eqb vx vy differ))),
      );
    }
