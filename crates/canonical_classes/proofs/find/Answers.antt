-- `find` gives the node with the same key, or the free slot where the search for that key ends (`Found`).
use Rattle.std.proofs.Common.{◌≡◌, sym, ap, ◌∙◌, subst, List, ℕ, suc, ◌+◌, ◌-◌, ◌*◌, ◌≤◌, ◌<◌, length, get_or, false, arith}
use Rattle.pool.specs.Rules.{Valid}
use Rattle.pool_fields.specs.Fields.{op_c}
use Rattle.pool_operands.proofs.Unused.{third-small}
use Rattle.canonical_classes.specs.declared.Key.{Key}
use Rattle.canonical_classes.specs.Key.{key_of, bucket_of}
use Rattle.canonical_classes.specs.Class.{On, Reached, Holds, slots_of}
use Rattle.canonical_classes.proofs.Search.{same_key, comes-less, search-first, search-next, search-none, keys-same, next-rises, falls}
use Rattle.canonical_classes.proofs.find.Goals as goal

-- a node up to n may be read
readable : (ws : List ℕ) (n m : ℕ) → Valid ws (n + 1) → 4 * (n + 1) ≤ length ws → n < 65535 → m ≤ n → (4 * m + 3 < length ws) × (op_c ws m < 65536)
readable ws n m v l h g = (omega arith, third-small ws (n + 1) m v (omega arith) (omega arith))

pub key_of-k-requires : goal.key_of-k-requires
key_of-k-requires c =
    let v = c.requires.valid in
    readable c.args.pool.now c.args.n.0 c.args.n.0 v.0 v.1 v.2 (omega arith)

pub loop-link-init : goal.loop-link-init
loop-link-init c =
    let a = c.args in (
      c.link_at-link.ensures.0,
      rw c.bucket-slot.ensures.0 (search-first a.pool.now a.class.now (slots_of a.first.now a.second.now a.ways.now) c.key_of-k.result),
    )

pub key_of-requires : goal.key_of-requires
key_of-requires c =
    let v = c.requires.valid in
    let low = c.requires.low.0 c.loop-link.slot in
    readable c.args.pool.now c.args.n.0 (c.loop-link.link - 1) v.0 v.1 v.2 (omega (arith, c.loop-link.invariant.0, low))

pub returns-then-eq : goal.returns-then-eq
returns-then-eq c =
    let a = c.args in
    let low = c.requires.low.0 c.loop-link.slot in
    let no : c.loop-link.link ≡ 0 → ⊥ = λ z. omega (arith, z, c.loop-link-test.true) in
    record {
      found = λ h. (
        omega (arith, c.loop-link.invariant.0, low),
        sym c.key_of.ensures.0 ∙ keys-same _ _ (sym c.eq.ensures ∙ c.if-eq.true) ∙ c.key_of-k.ensures.0,
      );
      missed = λ z. absurd (no z);
      free = λ z. absurd (no z);
      slot_less = comes-less (slots_of a.first.now a.second.now a.ways.now) a.n.0 c.requires.low.0 c.key_of-k.result c.loop-link.invariant.1.comes;
      comes = λ z. absurd (no z);
      leads = λ z. absurd (no z);
    }

pub loop-link-smaller : goal.loop-link-smaller
loop-link-smaller c =
    let a = c.args in
    let slots = slots_of a.first.now a.second.now a.ways.now in
    let l = c.loop-link in
    let k = c.key_of-k.result in
    let v = c.requires.valid in
    let low = c.requires.low.0 l.slot in
    let e = c.link_at-link-in-loop-link.ensures.0 ∙ ap (λ (i : ℕ). get_or slots i 0) c.next-slot.ensures.0 in
    falls l.level l.link c.link_at-link-in-loop-link.result c.loop-link-test.true (omega (arith, l.invariant.0, low, v.2))
    (λ h g. omega (arith, e, next-rises slots c.requires.low.1 k (l.link - 1) l.level h (omega (arith, g, e)), c.loop-link-test.true))

pub loop-link-preserved : goal.loop-link-preserved
loop-link-preserved c =
    let a = c.args in
    let slots = slots_of a.first.now a.second.now a.ways.now in
    let l = c.loop-link in
    let k = c.key_of-k.result in
    let m = l.link - 1 in
    let here : get_or slots l.slot 0 ≡ suc m = omega (arith, l.invariant.0, c.loop-link-test.true) in
    let differs : same_key (key_of a.pool.now a.class.now m) k ≡ false =
    sym (c.eq.ensures ∙ ap (λ (x : Key). same_key x k) c.key_of.ensures.0) ∙ c.if-eq.false in (
      c.link_at-link-in-loop-link.ensures.0,
      rw c.next-slot.ensures.0 (search-next a.pool.now a.class.now slots k c.requires.low.1 l.slot l.level m here differs l.invariant.1),
    )

pub returns : goal.returns
returns c =
    let a = c.args in
    let slots = slots_of a.first.now a.second.now a.ways.now in
    let l = c.loop-link in
    let k = c.key_of-k.result in
    let e = c.key_of-k.ensures.0 in
    let z : get_or slots l.slot 0 ≡ 0 = omega (arith, l.invariant.0, c.loop-link-test.false) in
    record {
      found = λ h. absurd (omega (arith, h, c.loop-link-test.false));
      missed = λ q.
          subst (λ (k : Key). (j : ℕ) → On slots k (bucket_of k) 0 j → key_of a.pool.now a.class.now j ≡ k → ⊥) e
          (search-none a.pool.now a.class.now slots k l.slot l.level z l.invariant.1);
      free = λ q. z;
      slot_less = comes-less slots a.n.0 c.requires.low.0 k l.invariant.1.comes;
      comes = λ q. subst (λ (k : Key). Reached slots k l.slot) e (l.level, l.invariant.1.comes);
      leads = λ q.
          subst (λ (k : Key). (new : List ℕ) → Holds slots new → get_or new l.slot 0 ≡ suc a.n.0 → On new k (bucket_of k) 0 a.n.0) e
          (λ new h f. l.invariant.1.back new h a.n.0 (On.here f));
    }
