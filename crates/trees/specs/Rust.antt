-- The Rust's own trees: its functions with its cutter. The tree of this port is the Rust's with one rewrite (document 02, S-8): `join_cuts`.
use Rattle.std.specs.Prelude.{List, ◌≡◌, ℕ, ◌≤◌}
use Rattle.terms.specs.Expr.{Expr, Var, Const, Bv, Compare, Ite, Extract, Concat, ZeroExtend, SignExtend}
use Rattle.terms.specs.Value.{value}
use Rattle.neon.specs.declared.Instruction.{Instruction}
use Rattle.neon.specs.Op.{Op, Arrangement, bits_of_lane}
use Rattle.neon.specs.Form.{least, most}
use Rattle.neon.specs.Arm.{arm_result}
use Rattle.neon.specs.Run.{arm_run}
use Rattle.neon.specs.Refusal.{AllLegal}
use Rattle.trees.specs.Simd.{rust, extract_collapsing}
use Rattle.trees.specs.Neon as Neon
use Rattle.trees.specs.Block as Block
use Rattle.trees.specs.Trees.{result_tree, tree_run}

-- the tree of an instruction, and the terms of the registers after a block
abbrev pub rust_tree : Op → Arrangement → (i : ℕ) (d first second : Expr) → Expr
rust_tree = Neon.result_tree rust

abbrev pub rust_run : List Instruction → (ℕ → Expr) → ℕ → Expr
rust_run = Block.tree_run rust

-- the rewrite: each cut of a term is made again, by the cutter that joins
unfoldable pub join_cuts : Expr → Expr
join_cuts (Extract a hi lo) = extract_collapsing (join_cuts a) hi lo
join_cuts (Var r) = Var r
join_cuts (Const v w) = Const v w
join_cuts (Bv o a b) = Bv o (join_cuts a) (join_cuts b)
join_cuts (Compare o a b) = Compare o (join_cuts a) (join_cuts b)
join_cuts (Ite c a b) = Ite (join_cuts c) (join_cuts a) (join_cuts b)
join_cuts (Concat a b) = Concat (join_cuts a) (join_cuts b)
join_cuts (ZeroExtend a w) = ZeroExtend (join_cuts a) w
join_cuts (SignExtend a w) = SignExtend (join_cuts a) w

-- the tree of this port is the Rust's with that rewrite, and nothing else: for every form, immediate and source; and for every block
abbrev pub RustRewritten : Type 0
RustRewritten = (o : Op) (v : Arrangement) (i : ℕ) (d a b : Expr) → join_cuts (rust_tree o v i d a b) ≡ result_tree o v i (join_cuts d) (join_cuts a) (join_cuts b)

abbrev pub RustRunRewritten : Type 0
RustRunRewritten = (cs : List Instruction) (r : ℕ) → join_cuts (rust_run cs Var r) ≡ tree_run cs Var r

-- the Rust's trees have Arm's values too: at every start, the tree of an instruction over any sources, and every register after a block
abbrev pub RustIsArm : Type 0
RustIsArm =
    (start : ℕ → ℕ) (o : Op) (v : Arrangement) (i : ℕ) (d a b : Expr) → least o ≤ i → i ≤ most o (bits_of_lane v)
    → value start (rust_tree o v i d a b) ≡ arm_result o v i (value start d) (value start a) (value start b)

abbrev pub RustRunIsArm : Type 0
RustRunIsArm = (start : ℕ → ℕ) (cs : List Instruction) → AllLegal cs → (r : ℕ) → value start (rust_run cs Var r) ≡ arm_run cs start r
