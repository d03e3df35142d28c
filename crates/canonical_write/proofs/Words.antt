-- The words of a node of the canonical pool, from a node with the same tree. Assumes nothing.
use mathlib.Core.Path.{◌≡◌, refl, sym, ap, ◌∙◌}
use mathlib.Core.Bool.{Bool, true, false, cond}
use mathlib.Core.List.{List, [], ◌∷◌}
use Prim.Native.Nat.{ℕ, zero, suc, ◌+◌, ◌*◌, ◌≤◌, ◌<◌}
use native.Mathlib.Omega.{arith}
use lib.ListN.{length, get_or, length-set}
use Rattle.terms.specs.Expr.{Expr, Var, Const, Bv, Compare, Ite, Extract, Concat, ZeroExtend, SignExtend}
use Rattle.terms.specs.Registers.{registers}
use Rattle.pool.specs.Node.{Kind, bad, var, const, bv, compare, ite, extract, concat, zext, sext, kind_word, operand_word, code_of, Cell, cell_at, width_at, kind_number, word_at, write_node}
use Rattle.pool_fields.specs.Fields.{op_a, op_b, op_c}
use Rattle.pool.specs.Rules.{Valid}
use Rattle.pool.specs.Unfold.{shape_of, unfold_at}
use Rattle.canonical.specs.Order.{place, postorder}
use Rattle.canonical.specs.Words.{cell_in, word0, word1, words_in, canonical}
use Rattle.canonical.proofs.Trees.{at}
use Rattle.canonical.proofs.Words.{cell-width, word-parts}
use Rattle.pool_operands.proofs.ByKind.{bv-a, bv-b, bv-c, cmp-a, cmp-b, cmp-c}
use Rattle.pool_operands.specs.Operands.{has_a, has_b, has_c}
use Rattle.canonical_classes.specs.Class.{Classes}
use Rattle.canonical_classes.proofs.Keys.{NodeRead, node-read, kind_in}
use Rattle.pool_operands.proofs.Written.{other, f0, f1, f2, f3, four}
use Rattle.canonical_order.specs.Walk.{Set, Done, Numbered}
use Rattle.canonical_order.proofs.Lists.{listed_at}
use Rattle.canonical_write.specs.Canonise.{number_if, new_operands, OneMore}

-- ---- the parts of a cell that do not go by the list

kind-any : (l : List Expr) (t : Expr) → (cell_in l t).kind ≡ (cell_in [] t).kind
kind-any l (Var r) = refl
kind-any l (Const v w) = refl
kind-any l (Bv o a b) = refl
kind-any l (Compare o a b) = refl
kind-any l (Ite c a b) = refl
kind-any l (Extract a hi lo) = refl
kind-any l (Concat a b) = refl
kind-any l (ZeroExtend a w) = refl
kind-any l (SignExtend a w) = refl

x-any : (l : List Expr) (t : Expr) → (cell_in l t).x ≡ (cell_in [] t).x
x-any l (Var r) = refl
x-any l (Const v w) = refl
x-any l (Bv o a b) = refl
x-any l (Compare o a b) = refl
x-any l (Ite c a b) = refl
x-any l (Extract a hi lo) = refl
x-any l (Concat a b) = refl
x-any l (ZeroExtend a w) = refl
x-any l (SignExtend a w) = refl

y-any : (l : List Expr) (t : Expr) → (cell_in l t).y ≡ (cell_in [] t).y
y-any l (Var r) = refl
y-any l (Const v w) = refl
y-any l (Bv o a b) = refl
y-any l (Compare o a b) = refl
y-any l (Ite c a b) = refl
y-any l (Extract a hi lo) = refl
y-any l (Concat a b) = refl
y-any l (ZeroExtend a w) = refl
y-any l (SignExtend a w) = refl

-- the operands' places
abbrev if_at : Bool → ℕ → ℕ
if_at b x = cond b x 0

operands_of : (l : List Expr) (κ : Kind) (k : Cell) (A B C : Expr)
    → word1 (cell_in l (shape_of κ k A B C)) ≡ operand_word (if_at (has_a (code_of κ)) (place l A)) (if_at (has_b (code_of κ)) (place l B)) (if_at (has_c (code_of κ)) (place l C))
operands_of l bad k A B C = refl
operands_of l var k A B C = refl
operands_of l const k A B C = refl
operands_of l (bv o) k A B C = λ i. operand_word (if_at (sym (bv-a o) i) (place l A)) (if_at (sym (bv-b o) i) (place l B)) (if_at (sym (bv-c o) i) (place l C))
operands_of l (compare o) k A B C = λ i. operand_word (if_at (sym (cmp-a o) i) (place l A)) (if_at (sym (cmp-b o) i) (place l B)) (if_at (sym (cmp-c o) i) (place l C))
operands_of l ite k A B C = refl
operands_of l extract k A B C = refl
operands_of l concat k A B C = refl
operands_of l zext k A B C = refl
operands_of l sext k A B C = refl

-- ---- the words of the list

pub record NodeWords (ws : List ℕ) (n : ℕ) (k : Cell) (s : ℕ) : Type 0 where
  pub w0 : get_or ws (4 * n + 0) 0 ≡ word0 k s
  pub w1 : get_or ws (4 * n + 1) 0 ≡ word1 k
  pub w2 : get_or ws (4 * n + 2) 0 ≡ k.x
  pub w3 : get_or ws (4 * n + 3) 0 ≡ k.y

pub words_of : (l ts : List Expr) (i : ℕ) → i < length ts → NodeWords (words_in l ts) i (cell_in l (at ts i)) (registers (at ts i))
unfolding words_in
words_of l [] i h = absurd (omega arith)
words_of l (t ∷ ts) zero h = record { w0 = refl; w1 = refl; w2 = refl; w3 = refl }
words_of l (t ∷ ts) (suc i) h =
    let r = words_of l ts i (omega arith) in
    let ws = words_in l (t ∷ ts) in
    let e : (j : ℕ) → 4 * suc i + j ≡ suc (suc (suc (suc (4 * i + j)))) = λ j. omega arith in
    record {
      w0 = ap (λ (z : ℕ). get_or ws z 0) (e 0) ∙ r.w0;
      w1 = ap (λ (z : ℕ). get_or ws z 0) (e 1) ∙ r.w1;
      w2 = ap (λ (z : ℕ). get_or ws z 0) (e 2) ∙ r.w2;
      w3 = ap (λ (z : ℕ). get_or ws z 0) (e 3) ∙ r.w3;
    }

-- ---- a node that is numbered

module _ (ws class : List ℕ) (root : ℕ) (v : Valid ws (root + 1)) (bounded : (i : ℕ) → get_or ws i 0 < 18446744073709551616) (C : Classes ws (root + 1) class)
    (number order : List ℕ) (k : ℕ) (N : Numbered ws class root number order k) (j : ℕ) (h : j < k) where
  abbrev n : ℕ
  n = get_or order j 0

  abbrev L : List Expr
  L = postorder (unfold_at ws root)

  n-le : n ≤ root
  n-le = (N.node j h).0

  tree_is : at L j ≡ unfold_at ws n
  tree_is = ap (λ (l : List Expr). at l j) (sym N.terms) ∙ listed_at ws order k j h

  done : Done ws class number L n
  done = N.done n n-le (N.node j h).1

  read : NodeRead ws n
  read = node-read ws (root + 1) v bounded n (omega (arith, n-le))

  -- an operand's number is its tree's place
  operand : (m : ℕ) → m < n → Set number (get_or class m 0) → get_or number (get_or class m 0) 0 ≡ place L (unfold_at ws m)
  operand m g s =
      (N.done (get_or class m 0) (omega (arith, C.first m (omega (arith, n-le)), n-le)) s).number_is ∙ ap (place L) (C.tree m (omega (arith, n-le)))

  if-same : (b : Bool) (x y : ℕ) → (b ≡ true → x ≡ y) → if_at b x ≡ if_at b y
  if-same true x y f = f refl
  if-same false x y f = refl

  new-operands : new_operands ws class number n ≡ word1 (cell_in L (at L j))
  unfolding new_operands
  new-operands =
      let c = cell_at ws n in
      let kn = kind_number ws n in
      let code : (f : ℕ → Bool) → f kn ≡ true → f (code_of (kind_in ws n)) ≡ true = λ f e. rw (← read.code) e in
      let ea : if_at (has_a kn) (get_or number (get_or class c.a 0) 0) ≡ if_at (has_a kn) (place L (unfold_at ws c.a)) =
      if-same (has_a kn) _ _ (λ e. operand c.a (read.less.a-less (code has_a e)) (done.ready.a_set e)) in
      let eb : if_at (has_b kn) (get_or number (get_or class c.b 0) 0) ≡ if_at (has_b kn) (place L (unfold_at ws c.b)) =
      if-same (has_b kn) _ _ (λ e. operand c.b (read.less.b-less (code has_b e)) (done.ready.b_set e)) in
      let ec : if_at (has_c kn) (get_or number (get_or class c.c 0) 0) ≡ if_at (has_c kn) (place L (unfold_at ws c.c)) =
      if-same (has_c kn) _ _ (λ e. operand c.c (read.less.c-less (code has_c e)) (done.ready.c_set e)) in
      (λ i. operand_word (ea i) (eb i) (ec i))
      ∙ ap (λ (z : ℕ). operand_word (if_at (has_a z) (place L (unfold_at ws c.a))) (if_at (has_b z) (place L (unfold_at ws c.b))) (if_at (has_c z) (place L (unfold_at ws c.c)))) read.code
      ∙ sym (operands_of L (kind_in ws n) c (unfold_at ws c.a) (unfold_at ws c.b) (unfold_at ws c.c))
      ∙ ap (λ (t : Expr). word1 (cell_in L t)) (sym read.tree ∙ sym tree_is)

  new-word0 : get_or ws (4 * n) 0 ≡ word0 (cell_in L (at L j)) (registers (at L j))
  new-word0 =
      let t = unfold_at ws n in
      let e : kind_number ws n ≡ code_of (cell_in L t).kind =
      read.code ∙ ap code_of (read.kind-is ∙ sym (kind-any L t)) in
      let w : width_at ws n ≡ (cell_in L t).width = sym read.wide_is ∙ sym (cell-width L t) in
      word-parts (get_or ws (4 * n) 0) ∙ (λ i. kind_word (e i) (w i) (read.set_is i)) ∙ ap (λ (s : Expr). word0 (cell_in L s) (registers s)) (sym tree_is)

  new-word2 : word_at ws n 2 ≡ (cell_in L (at L j)).x
  new-word2 = read.x-is ∙ sym (x-any L (unfold_at ws n)) ∙ ap (λ (s : Expr). (cell_in L s).x) (sym tree_is)

  new-word3 : word_at ws n 3 ≡ (cell_in L (at L j)).y
  new-word3 = read.y-is ∙ sym (y-any L (unfold_at ws n)) ∙ ap (λ (s : Expr). (cell_in L s).y) (sym tree_is)

  pub new-words : let c = cell_in L (at L j) in (get_or ws (4 * n) 0 ≡ word0 c (registers (at L j))) × (new_operands ws class number n ≡ word1 c) × (word_at ws n 2 ≡ c.x) × (word_at ws n 3 ≡ c.y)
  new-words = (new-word0, new-operands, new-word2, new-word3)

-- ---- four words written

-- the four words of the canonical pool's node j, written there
pub one_more : (ws : List ℕ) (root j : ℕ) (old new : List ℕ) (w0 w1 x y : ℕ) → j < length (postorder (unfold_at ws root)) → 4 * (j + 1) ≤ length old → new ≡ write_node old j w0 w1 x y
    → (let L = postorder (unfold_at ws root) in let c = cell_in L (at L j) in (w0 ≡ word0 c (registers (at L j))) × (w1 ≡ word1 c) × (x ≡ c.x) × (y ≡ c.y))
    → OneMore ws root j old new
unfolding canonical
one_more ws root j old new w0 w1 x y h room e q =
    let L = postorder (unfold_at ws root) in
    let r = words_of L L j h in
    let at_new : (i : ℕ) → get_or new i 0 ≡ get_or (write_node old j w0 w1 x y) i 0 = λ i. ap (λ (l : List ℕ). get_or l i 0) e in
    let zero_is : 4 * j + 0 ≡ 4 * j = omega arith in
    record {
      long = ap length e ∙ simp length-set;
      word = λ i g. four P (at_new (4 * j + 0) ∙ ap (λ (z : ℕ). get_or (write_node old j w0 w1 x y) z 0) zero_is ∙ f0 old j w0 w1 x y room ∙ q.0 ∙ sym r.w0)
          (at_new (4 * j + 1) ∙ f1 old j w0 w1 x y room ∙ q.1 ∙ sym r.w1) (at_new (4 * j + 2) ∙ f2 old j w0 w1 x y room ∙ q.2 ∙ sym r.w2)
          (at_new (4 * j + 3) ∙ f3 old j w0 w1 x y room ∙ q.3 ∙ sym r.w3) i g;
      before = λ i g. at_new i ∙ other old j w0 w1 x y room i (λ z. omega arith) (λ z. omega arith) (λ z. omega arith) (λ z. omega arith);
      past = λ i g. at_new i ∙ other old j w0 w1 x y room i (λ z. omega arith) (λ z. omega arith) (λ z. omega arith) (λ z. omega arith);
    }
  where
    P : ℕ → Type 0
    P i = get_or new (4 * j + i) 0 ≡ get_or (words_in (postorder (unfold_at ws root)) (postorder (unfold_at ws root))) (4 * j + i) 0

-- word 1 from its parts
pub operands-made : (ws class number : List ℕ) (n kind : ℕ) (p q r : Bool) (a b c x y z : ℕ) → kind ≡ kind_number ws n → p ≡ has_a kind → q ≡ has_b kind → r ≡ has_c kind
    → a ≡ op_a ws n
    → b ≡ op_b ws n
    → c ≡ op_c ws n
    → x ≡ number_if p class number a
    → y ≡ number_if q class number b
    → z ≡ number_if r class number c
    → operand_word x y z ≡ new_operands ws class number n
unfolding new_operands
operands-made ws class number n kind p q r a b c x y z ek ep eq er ea eb ec fx fy fz =
    let hp : p ≡ has_a (kind_number ws n) = ep ∙ ap has_a ek in
    let hq : q ≡ has_b (kind_number ws n) = eq ∙ ap has_b ek in
    let hr : r ≡ has_c (kind_number ws n) = er ∙ ap has_c ek in
    let gx = fx ∙ (λ i. number_if (hp i) class number (ea i)) in
    let gy = fy ∙ (λ i. number_if (hq i) class number (eb i)) in
    let gz = fz ∙ (λ i. number_if (hr i) class number (ec i)) in
    λ i. operand_word (gx i) (gy i) (gz i)
