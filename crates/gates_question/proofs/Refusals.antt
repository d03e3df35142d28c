-- The numbers of a question: what a test that fails gives, and what 0 says. Assumes nothing.
use mathlib.Core.Path.{◌≡◌, refl, sym, ◌∙◌}
use mathlib.Core.Bool.{Bool, true, false, ◌&&◌}
use mathlib.Core.List.{List}
use Prim.Native.Nat.{ℕ, ◌≤◌, ◌<◌}
use native.Mathlib.Omega.{arith}
use lib.Dec.{leb, ltb}
use borrow.Author.Tests.{leb-true, ltb-true, le-leb, lt-leb, lt-ltb, le-ltb}
use Rattle.facts.specs.Refuse.{unless}
use Rattle.facts.proofs.Tests.{and_both, passed}
use Rattle.pool.specs.Node.{width_at}
use Rattle.pool.specs.Rules.{pool_ok, of_width}
use Rattle.pool_check.proofs.Passed.{words-for, few, keeps, below, has_width}
use Rattle.gates_question.specs.Question.{gates_of_two, places_of_two, most_gates, pools_number, question_number}
use Rattle.gates_question.specs.Build.{Pool}

not-zero : (n : ℕ) → 0 < n → n ≡ 0 → ⊥
not-zero n h e = omega arith

-- a refusal of a pool is the same whatever follows
same-refusal : (p q : Bool) (rest : ℕ) → (unless p 1 (unless q 1 0) ≡ 0 → ⊥) → unless p 1 (unless q 1 0) ≡ unless p 1 (unless q 1 rest)
same-refusal false q rest h = refl
same-refusal true false rest h = refl
same-refusal true true rest h = absurd (h refl)

pub pool-of : (ws : List ℕ) (count : ℕ) → pool_ok ws count ≡ true → Pool ws count
pool-of ws count e = record { valid = keeps ws count e; words = words-for ws count e; few = few ws count e }

module _ (ws : List ℕ) (n : ℕ) (ws' : List ℕ) (m : ℕ) where
  pub bad-first : pool_ok ws n ≡ false → 1 ≡ pools_number ws n ws' m 0
  bad-first e = sym (rw e)

  pub bad-second : pool_ok ws n ≡ true → pool_ok ws' m ≡ false → 1 ≡ pools_number ws n ws' m 0
  bad-second p e = sym (rw (p, e))

  pub none-bad : pool_ok ws n ≡ true → pool_ok ws' m ≡ true → 0 ≡ pools_number ws n ws' m 0
  none-bad p q = sym (rw (p, q))

  pub both_ok : {rest : ℕ} → pools_number ws n ws' m rest ≡ 0 → (pool_ok ws n ≡ true) × (pool_ok ws' m ≡ true) × (rest ≡ 0)
  both_ok e =
      let p = passed (pool_ok ws n) (not-zero 1 (omega arith)) e in
      let q = passed (pool_ok ws' m) (not-zero 1 (omega arith)) p.1 in
      (p.0, q.0, q.1)

  module _ (a b hi lo graph bits : ℕ) where
    abbrev Number : ℕ → Type 0
    Number k = k ≡ question_number ws n a ws' m b hi lo graph bits

    pub bad-pools : {k : ℕ} → k ≡ pools_number ws n ws' m 0 → (k ≡ 0 → ⊥) → Number k
    unfolding question_number
    bad-pools e h = e ∙ same-refusal (pool_ok ws n) (pool_ok ws' m) _ (λ z. h (e ∙ z))

    module _ (p : pool_ok ws n ≡ true) (q : pool_ok ws' m ≡ true) where
      pub bad-a : of_width ws n a 128 ≡ false → Number 5
      unfolding question_number
      bad-a e = sym (rw (p, q, e))

      module _ (x : of_width ws n a 128 ≡ true) where
        pub bad-b : of_width ws' m b 128 ≡ false → Number 5
        unfolding question_number
        bad-b e = sym (rw (p, q, x, e))

        module _ (y : of_width ws' m b 128 ≡ true) where
          pub not-in-order : hi < lo → Number 13
          unfolding question_number
          not-in-order h = sym (rw (p, q, x, y, lt-leb lo hi h))

          module _ (o : lo ≤ hi) where
            pub too-high : 127 < hi → Number 13
            unfolding question_number
            too-high h = sym (rw (p, q, x, y, le-leb lo hi o, le-ltb hi 128 h))

            module _ (t : hi ≤ 127) where
              inside : ltb hi 128 ≡ true
              inside = lt-ltb hi 128 (omega arith)

              pub short-graph : graph < gates_of_two ws n ws' m → Number 6
              unfolding question_number
              short-graph h = sym (rw (p, q, x, y, le-leb lo hi o, inside, lt-leb (gates_of_two ws n ws' m) graph h))

              module _ (r : gates_of_two ws n ws' m ≤ graph) where
                pub too_many : most_gates < gates_of_two ws n ws' m → Number 6
                unfolding question_number
                too_many h =
                    sym
                    (rw (p, q, x, y, le-leb lo hi o, inside, le-leb (gates_of_two ws n ws' m) graph r, lt-leb (gates_of_two ws n ws' m) most_gates h))

                module _ (f : gates_of_two ws n ws' m ≤ most_gates) where
                  pub short-places : bits < places_of_two n m → Number 6
                  unfolding question_number
                  short-places h =
                      sym
                      (rw (
                        p,
                        q,
                        x,
                        y,
                        le-leb lo hi o,
                        inside,
                        le-leb (gates_of_two ws n ws' m) graph r,
                        le-leb (gates_of_two ws n ws' m) most_gates f,
                        lt-leb
                            (places_of_two n m) bits h,
                      ))

                  pub none-refused : places_of_two n m ≤ bits → Number 0
                  unfolding question_number
                  none-refused h =
                      sym
                      (rw (
                        p,
                        q,
                        x,
                        y,
                        le-leb lo hi o,
                        inside,
                        le-leb (gates_of_two ws n ws' m) graph r,
                        le-leb (gates_of_two ws n ws' m) most_gates f,
                        le-leb
                            (places_of_two n m) bits h,
                      ))

    -- what number 0 says
    pub record Passed : Type 0 where
      pub first : Pool ws n
      pub second : Pool ws' m
      pub a-less : a < n
      pub b-less : b < m
      pub a-wide : width_at ws a ≡ 128
      pub b-wide : width_at ws' b ≡ 128
      pub ordered : lo ≤ hi
      pub inside-128 : hi < 128
      pub gates : gates_of_two ws n ws' m ≤ graph
      pub few-gates : gates_of_two ws n ws' m ≤ most_gates
      pub places : places_of_two n m ≤ bits

    pub all-passed : question_number ws n a ws' m b hi lo graph bits ≡ 0 → Passed
    unfolding question_number
    all-passed e =
        let r = both_ok e in
        let x = passed (of_width ws n a 128) (not-zero 5 (omega arith)) r.2 in
        let y = passed (of_width ws' m b 128) (not-zero 5 (omega arith)) x.1 in
        let o = passed (leb lo hi && ltb hi 128) (not-zero 13 (omega arith)) y.1 in
        let order = and_both (leb lo hi) (ltb hi 128) o.0 in
        let s = passed (leb (gates_of_two ws n ws' m) graph && leb (gates_of_two ws n ws' m) most_gates && leb (places_of_two n m) bits)
        (not-zero 6 (omega arith)) o.1 in
        let three = and_both (leb (gates_of_two ws n ws' m) graph && leb (gates_of_two ws n ws' m) most_gates) (leb (places_of_two n m) bits) s.0 in
        let two = and_both (leb (gates_of_two ws n ws' m) graph) (leb (gates_of_two ws n ws' m) most_gates) three.0 in
        record {
          first = pool-of ws n r.0;
          second = pool-of ws' m r.1;
          a-less = below ws n a 128 x.0;
          b-less = below ws' m b 128 y.0;
          a-wide = has_width ws n a 128 x.0;
          b-wide = has_width ws' m b 128 y.0;
          ordered = leb-true _ _ order.0;
          inside-128 = ltb-true _ _ order.1;
          gates = leb-true _ _ two.0;
          few-gates = leb-true _ _ two.1;
          places = leb-true _ _ three.1;
        }
