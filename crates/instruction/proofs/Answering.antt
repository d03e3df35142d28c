-- What an accepted instruction leaves, from its lowering. Assumes nothing.
use Prim.Native.Nat.{ℕ, ◌+◌, ◌≤◌, ◌<◌}
use mathlib.Core.Path.{◌≡◌, refl, sym, ap}
use mathlib.Core.Bool.{Bool, true, ◌&&◌}
use mathlib.Core.List.{List, []}
use native.Mathlib.Omega.{arith}
use lib.ListN.{length}
use borrow.Author.Tests.{le-leb}
use Rattle.facts.proofs.Tests.{and_both}
use Rattle.neon.specs.Op.{Op, Arrangement, op_at, arrangement_at, view}
use Rattle.neon.specs.Form.{has_second, reads_d, first_bits, second_bits}
use Rattle.neon.specs.Refusal.{reserve, most_nodes, form_number}
use Rattle.trees.specs.Trees.{result_tree}
use Rattle.pool.specs.declared.Node.{Node}
use Rattle.pool.specs.declared.Built.{Built}
use Rattle.pool.specs.Node.{width_at, places, places_in}
use Rattle.pool.specs.Rules.{ok_pool, pool_ok}
use Rattle.pool.specs.Unfold.{unfold_at}
use Rattle.pool.specs.Growth.{NodeIs, Room}
use Rattle.pool_check.proofs.Passed.{keeps}
use Rattle.lower.specs.Builds.{Lowers, Below, read, read_if}
use Rattle.instruction_check.specs.Number.{source_ok, instruction_number}
use Rattle.instruction.specs.Lowering.{Answers}
use Rattle.instruction_check.proofs.Refusing.{Passed, passes, source_is}

module _ (ws : List ℕ) (count operation arrangement i : ℕ) (d n m : Node) (h : instruction_number ws count operation arrangement i d.0 n.0 m.0 ≡ 0) where
  abbrev o : Op
  o = op_at operation

  abbrev v : Arrangement
  v = arrangement_at arrangement

  abbrev p : Passed ws count operation arrangement i d.0 n.0 m.0
  p = passes ws count operation arrangement i d.0 n.0 m.0 h

  abbrev d-ok : Bool
  d-ok = source_ok ws count (reads_d o v) (view v) d.0

  abbrev n-ok : Bool
  n-ok = source_ok ws count true (first_bits o v) n.0

  abbrev m-ok : Bool
  m-ok = source_ok ws count (has_second o) (second_bits o v) m.0

  d_is : reads_d o v ≡ true → (d.0 < count) × (width_at ws d.0 ≡ view v)
  d_is e = source_is ws count (reads_d o v) (view v) d.0 (and_both d-ok n-ok (and_both (d-ok && n-ok) m-ok p.sources-ok).0).0 e

  n_is : (n.0 < count) × (width_at ws n.0 ≡ first_bits o v)
  n_is = source_is ws count true (first_bits o v) n.0 (and_both d-ok n-ok (and_both (d-ok && n-ok) m-ok p.sources-ok).0).1 refl

  m_is : has_second o ≡ true → (m.0 < count) × (width_at ws m.0 ≡ second_bits o v)
  m_is e = source_is ws count (has_second o) (second_bits o v) m.0 (and_both (d-ok && n-ok) m-ok p.sources-ok).1 e

  room : Room ws count most_nodes
  room = omega (arith, p.room)

  -- what the lowering of a form asks
  pub asked : Room ws count most_nodes × ((form_number operation arrangement i 0 ≡ 0)
      × ((n.0 < count) × Below (read_if (has_second o) m 0) count × Below (read_if (reads_d o v) d 0) count))
  asked = (room, (p.form-ok, (n_is.0, λ e. (m_is e).0, λ e. (d_is e).0)))

  node-is : (x w : ℕ) → (x < count) × (width_at ws x ≡ w) → NodeIs ws count x w (unfold_at ws x)
  node-is x w q = record { under = q.0; wide = q.1; tree = refl }

  -- a pool that grew within its places passes the check
  checked : (new : List ℕ) (k : ℕ) → length new ≡ length ws → k ≤ count + reserve → ok_pool new k ≡ true → pool_ok new k ≡ true
  checked new k e l q =
      let same : places new ≡ places ws = ap places_in e in
      rw (le-leb k (places new) (omega (arith, same, p.room, l)), q) refl

  pub lowered : {new : List ℕ} {r : Built}
      → Lowers ws count new r most_nodes (view v) (read_if (reads_d o v) d (view v)) (read n (first_bits o v)) (read_if (has_second o) m (second_bits o v))
      (result_tree o v i) []
      → Answers ws count new (record { number = 0; node = r.node.0; count = r.count }) operation arrangement i d.0 n.0 m.0
  lowered {new} {r} e =
      let made = e.made (keeps ws count p.pool-ok) (λ u. node-is d.0 (view v) (d_is u)) (λ u. node-is n.0 (first_bits o v) n_is) (λ u. node-is m.0 (second_bits o v) (m_is u)) in
      let most : r.count ≤ count + reserve = omega (arith, e.sized) in
      record {
        number = sym h;
        done = λ z.
            record {
              is = made.is;
              grown = made.grown;
              most = most;
              checked = checked new r.count made.grown.long most made.valid;
              reached = made.all;
            };
        refused = λ f. absurd (f refl);
      }
