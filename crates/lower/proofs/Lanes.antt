-- The loop over lanes, one law for every family: what the lanes 0 to i - 1 make, with lane i put above them. Assumes nothing.
use Prim.Native.Nat.{ℕ, suc, ◌+◌, ◌-◌, ◌*◌, ◌≤◌, ◌<◌}
use mathlib.Core.Path.{◌≡◌, refl, ap, subst, ◌∙◌}
use mathlib.Core.Bool.{Bool, true, false, false≢true}
use mathlib.Core.List.{List, [], ◌∷◌}
use native.Mathlib.Omega.{arith}
use native.Mathlib.Nat.{mul-one, mul-le-mul_left, one-le-mul}
use Rattle.terms.specs.Expr.{Expr, Concat}
use Rattle.pool.specs.declared.Node.{Node}
use Rattle.pool.specs.declared.Built.{Built}
use Rattle.pool.specs.Growth.{Grown, Reach, AllReached, Made}
use Rattle.pool_nodes.specs.Builders.{MadeConcat}
use Rattle.lower_simd.specs.Cut.{MadeCut, MadeLane}
use Rattle.pool.proofs.Laws.{is-kept, reach-kept, reach-trans, grown-trans}
use Rattle.pool.proofs.Steps.{start, step, finish, forget, stay, given, spare}
use Rattle.trees.specs.Simd.{concat_lanes}
use Rattle.trees.specs.Trees.{keep_lower}
use Rattle.lower.specs.Lanes.{Plan}
use Rattle.lower.specs.Builds.{Source, SourceIs, read_if, unread, with_lower, BuildsCut, Lowers}

-- a source stays what it is while the pool grows
pub source-kept : {a b : List ℕ} {k k' : ℕ} {s : Source} {t : Expr} → Grown a k b k' → SourceIs a k s t → SourceIs b k' s t
source-kept g f u = is-kept g (f u)

pub all-kept : {a b : List ℕ} {k k' r : ℕ} → Grown a k b k' → r < k → (ms : List ℕ) → AllReached a r ms → AllReached b r ms
all-kept g l [] h = tt
all-kept g l (m ∷ ms) h = (reach-kept g l h.0, all-kept g l ms h.1)

pub all-trans : {ws : List ℕ} {r p : ℕ} → Reach ws r p → (ms : List ℕ) → AllReached ws p ms → AllReached ws r ms
all-trans h [] x = tt
all-trans h (m ∷ ms) x = (reach-trans h x.0, all-trans h ms x.1)

-- a lane of so many bits, by their other name
pub lane_of : {w0 w1 : List ℕ} {k : ℕ} {r : Built} {value : Node} {bits m j : ℕ} → bits ≡ m → MadeLane w0 k w1 r value bits j → MadeLane w0 k w1 r value m j
lane_of e d = rw (← e) d

-- the lanes 0 to i - 1, each of so many bits and at most m nodes with its concatenation
module _ (old : List ℕ) (k : ℕ) (new : List ℕ) (r : Built) where
  abbrev pub LanesTo : (m bits : ℕ) (d first second : Source) (lane : Expr → Expr → Expr → ℕ → Expr) (ins : List ℕ) → ℕ → Type 0
  LanesTo m bits d first second lane ins i =
      Lowers old k new r (m * i) (bits * i) d first second (λ td ta tb. concat_lanes (i - 1) (lane td ta tb)) ins

-- the lanes 0 to i - 1 of a family
abbrev pub MakesTo : (old : List ℕ) (k : ℕ) (new : List ℕ) (r : Built) (p : Plan) → ℕ → Type 0
MakesTo old k new r p i = LanesTo old k new r (p.nodes + 1) p.bits p.d p.first p.second p.tree p.ins i

concat-next : (i : ℕ) (f : ℕ → Expr) → 1 ≤ i → concat_lanes (i + 1 - 1) f ≡ Concat (f i) (concat_lanes (i - 1) f)
unfolding concat_lanes
concat-next i f h =
    ap (λ (j : ℕ). concat_lanes j f) {x = i + 1 - 1} {y = suc (i - 1)} (omega arith) ∙ ap (λ (j : ℕ). Concat (f j) (concat_lanes (i - 1) f)) (omega arith)

module _ (lane : Expr → Expr → Expr → ℕ → Expr) {m n bits : ℕ} {d first second : Source} {ins : List ℕ} {k : ℕ} where
  pub lanes-first : {w0 w1 : List ℕ} {r : Built} {j : ℕ} → j ≡ 0 → n ≤ m → Lowers w0 k w1 r n bits d first second (λ td ta tb. lane td ta tb j) ins
      → LanesTo w0 k w1 r m bits d first second lane ins 1
  unfolding concat_lanes
  lanes-first {w0} {w1} {r} {j} z h e =
      rw (mul-one m, mul-one bits)
      (record {
        sized = omega (arith, e.sized);
        made = λ {td} {ta} {tb} v x y w. subst (λ (i : ℕ). Made w0 k w1 r.node.0 r.count bits (lane td ta tb i) ins) z (e.made v x y w);
      })

  pub lanes-more : {w0 w1 w2 w3 : List ℕ} {r1 r2 r3 : Built} {i lanes : ℕ} {also : List ℕ} → 1 ≤ bits → 1 ≤ i → i < lanes → bits * lanes ≤ 128 → n + 1 ≤ m
      → LanesTo w0 k w1 r1 m bits d first second lane ins i
      → Lowers w1 r1.count w2 r2 n bits d first second (λ td ta tb. lane td ta tb i) also
      → MadeConcat w2 r2.count w3 r3 r2.node r1.node
      → LanesTo w0 k w3 r3 m bits d first second lane ins (i + 1)
  lanes-more {w0} {w1} {w2} {w3} {r1} {r2} {r3} {i} {lanes} lb li lh lw lm e1 e2 e3 =
      let some : 1 ≤ bits * i = one-le-mul lb li in
      let total : bits + bits * i ≡ bits * (i + 1) = omega arith in
      let most : bits * (i + 1) ≤ 129 = omega (arith, mul-le-mul_left bits lh) in
      record {
        sized = omega (arith, e1.sized, e2.sized, e3.sized);
        made = λ {td} {ta} {tb} v x y z.
            let m1 = e1.made v x y z in
            let s1 = step (start v [] tt) [] (forget m1) in
            let m2 = e2.made s1.valid (source-kept m1.grown x) (source-kept m1.grown y) (source-kept m1.grown z) in
            let s2 = step s1 [] (forget m2) in
            let m3 = e3.made {s = bits * (i + 1)} s2.valid lb some total most s2.env.0 s2.env.1.0 in
            let m = finish (step s2 (0 ∷ 1 ∷ []) m3) tt in
            rw (concat-next i (lane td ta tb) li)
            (record {
              grown = m.grown;
              valid = m.valid;
              is = m.is;
              all = m.all;
              ins_reached = all-trans m3.ins_reached.1.0 ins (all-kept (grown-trans m2.grown m3.grown) m1.is.under ins m1.ins_reached);
            });
      }

-- a lane lies within the lanes' bits
pub lane-fits : (bits i lanes : ℕ) {w : ℕ} → i < lanes → bits * lanes ≤ w → bits * i + bits ≤ w
lane-fits bits i lanes h l = omega (arith, mul-le-mul_left bits h)

-- ---- the lower half of the old destination

pub keep-yes : {w0 w1 w2 : List ℕ} {k : ℕ} {r1 r2 : Built} {upper : Bool} {new d : Node} (n lanes : ℕ)
    → 1 ≤ n * lanes
    → n * lanes ≤ 64
    → upper ≡ true
    → MadeCut w0 k w1 r1 d (n * lanes - 1) 0
    → MadeConcat w1 r1.count w2 r2 new r1.node
    → BuildsCut w0 k w2 r2 2 new (n * lanes) upper d (n * lanes * 2) (with_lower upper (n * lanes)) (λ v x. keep_lower upper v x n lanes)
keep-yes {new = new} {d = d} n lanes l m q e1 e2 =
    rw q
    (record {
      sized = omega (arith, e1.sized, e2.sized);
      made = λ {ta} {tb} v x y.
          let s0 = start v (given new.0 (n * lanes) ta ∷ spare d.0 (n * lanes * 2) tb ∷ []) (x, (y refl, tt)) in
          let s1 = step s0 [] (e1.made {u = n * lanes} s0.valid (omega arith) (omega arith) s0.env.1.0) in
          finish (step s1 (1 ∷ 0 ∷ []) (e2.made {s = n * lanes * 2} s1.valid l l (omega arith) (omega arith) s1.env.1.0 s1.env.0)) tt;
    })

pub keep-no : {ws : List ℕ} {k : ℕ} {r : Built} {upper : Bool} {new d : Node} (n lanes : ℕ) → upper ≡ false → new.0 < k → r.node.0 ≡ new.0 → r.count ≡ k
    → BuildsCut ws k ws r 2 new (n * lanes) upper d (n * lanes * 2) (with_lower upper (n * lanes)) (λ v x. keep_lower upper v x n lanes)
keep-no n lanes q b e f = rw q (record { sized = omega (arith, b, e, f); made = λ v x y. rw (e, f) (stay v x) })

-- lanes that are made, and what is kept below them
pub kept-below : {w0 w1 w2 : List ℕ} {k m : ℕ} {r1 r2 : Built} {first second : Source} {d : Node} {t : Expr → Expr → Expr → Expr} (upper : Bool) (n lanes : ℕ)
    → Lowers w0 k w1 r1 m (n * lanes) unread first second t []
    → BuildsCut w1 r1.count w2 r2 2 r1.node (n * lanes) upper d (n * lanes * 2) (with_lower upper (n * lanes)) (λ v x. keep_lower upper v x n lanes)
    → Lowers w0 k w2 r2 (m + 2) (with_lower upper (n * lanes)) (read_if upper d (n * lanes * 2)) first second (λ td ta tb. keep_lower upper (t td ta tb) td n lanes) []
kept-below upper n lanes e1 e2 =
    record {
      sized = omega (arith, e1.sized, e2.sized);
      made = λ {td} {ta} {tb} v x y z.
          let m1 = e1.made {td = td} v (λ u. absurd (false≢true u)) y z in
          let s1 = step (start v [] tt) [] m1 in
          finish (step s1 (0 ∷ []) (e2.made s1.valid s1.env.0 (source-kept m1.grown x))) tt;
    }
