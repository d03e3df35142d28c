-- The script of a pool (document 02, S-1).
use Rattle.std.specs.Prelude.{List, [], ◌∷◌, ◌++◌, ℕ, zero, suc, ◌+◌, ◌-◌, ◌/◌, ◌%◌, ◌^◌}
use Rattle.terms.specs.declared.BinOp.{BinOp}
use Rattle.terms.specs.declared.BinOp.TheVariants.{Add, Sub, Mul, And, Or, Xor, Shl, LShr, AShr}
use Rattle.terms.specs.declared.CmpOp.{CmpOp}
use Rattle.terms.specs.declared.CmpOp.TheVariants.{Eq, Ult, Slt}
use Rattle.terms.specs.Display.{bytes, decimal}
use Rattle.pool.specs.Node.{Kind, bad, var, const, bv, compare, ite, extract, concat, zext, sext, Cell, cell_at, width_at, wide}
use Rattle.script_meaning.specs.Sexp.{Sexp, word, list, Items, stop, ◌⨾◌, show_lines}

-- v as w binary digits, the most significant first
unfoldable pub binary : ℕ → ℕ → List ℕ
binary zero v = []
binary (suc w) v = (48 + v / 2 ^ w % 2) ∷ binary w v

abbrev pub register_name : ℕ → List ℕ
register_name r = bytes "r" ++ decimal r

abbrev pub node_name : ℕ → List ℕ
node_name n = bytes "n" ++ decimal n

-- a Var is its register
abbrev pub name_by : Kind → Cell → ℕ → List ℕ
name_by bad k n = node_name n
name_by var k n = register_name k.x
name_by const k n = node_name n
name_by (bv o) k n = node_name n
name_by (compare o) k n = node_name n
name_by ite k n = node_name n
name_by extract k n = node_name n
name_by concat k n = node_name n
name_by zext k n = node_name n
name_by sext k n = node_name n

abbrev pub name_of : List ℕ → ℕ → List ℕ
name_of ws n = name_by (cell_at ws n).kind (cell_at ws n) n

abbrev pub operator : BinOp → List ℕ
operator Add = bytes "bvadd"
operator Sub = bytes "bvsub"
operator Mul = bytes "bvmul"
operator And = bytes "bvand"
operator Or = bytes "bvor"
operator Xor = bytes "bvxor"
operator Shl = bytes "bvshl"
operator LShr = bytes "bvlshr"
operator AShr = bytes "bvashr"

abbrev pub comparison : CmpOp → List ℕ
comparison Eq = bytes "="
comparison Ult = bytes "bvult"
comparison Slt = bytes "bvslt"

-- the function of a kind
abbrev pub function_of : Kind → List ℕ
function_of bad = []
function_of var = []
function_of const = []
function_of (bv o) = operator o
function_of (compare o) = comparison o
function_of ite = bytes "ite"
function_of extract = bytes "extract"
function_of concat = bytes "concat"
function_of zext = bytes "zero_extend"
function_of sext = bytes "sign_extend"

-- (f a), (f s t), (f a b), (f a b c)
abbrev pub apply1 : Sexp → List ℕ → Sexp
apply1 f a = list (f ⨾ word a ⨾ stop)

abbrev pub apply_to : List ℕ → Sexp → Sexp → Sexp
apply_to f s t = list (word f ⨾ s ⨾ t ⨾ stop)

abbrev pub apply2 : List ℕ → List ℕ → List ℕ → Sexp
apply2 f a b = apply_to f (word a) (word b)

abbrev pub apply3 : List ℕ → List ℕ → List ℕ → List ℕ → Sexp
apply3 f a b c = list (word f ⨾ word a ⨾ word b ⨾ word c ⨾ stop)

-- (_ f i), (_ f i j)
abbrev pub index1 : List ℕ → ℕ → Sexp
index1 f i = list (word (bytes "_") ⨾ word f ⨾ word (decimal i) ⨾ stop)

abbrev pub index2 : List ℕ → ℕ → ℕ → Sexp
index2 f i j = list (word (bytes "_") ⨾ word f ⨾ word (decimal i) ⨾ word (decimal j) ⨾ stop)

-- the term of a node over the names a, b, c of its operands; m is the width of A
abbrev pub term_by : Kind → Cell → (m : ℕ) → (a b c : List ℕ) → Sexp
term_by bad k m a b c = word []
term_by var k m a b c = word []
term_by const k m a b c = word (bytes "#b" ++ binary k.width (wide k.x k.y))
term_by (bv o) k m a b c = apply2 (operator o) a b
term_by (compare o) k m a b c = apply2 (comparison o) a b
term_by ite k m a b c = apply3 (bytes "ite") a b c
term_by extract k m a b c = apply1 (index2 (bytes "extract") k.x k.y) a
term_by concat k m a b c = apply2 (bytes "concat") a b
term_by zext k m a b c = apply1 (index1 (bytes "zero_extend") (k.width - m)) a
term_by sext k m a b c = apply1 (index1 (bytes "sign_extend") (k.width - m)) a

abbrev pub term_of : List ℕ → ℕ → Sexp
term_of ws n = let k = cell_at ws n in term_by k.kind k (width_at ws k.a) (name_of ws k.a) (name_of ws k.b) (name_of ws k.c)

-- Bool, or (_ BitVec w)
abbrev pub sort_by : ℕ → Sexp
sort_by zero = word (bytes "Bool")
sort_by (suc w) = index1 (bytes "BitVec") (suc w)

abbrev pub declare_const : List ℕ → Sexp → Sexp
declare_const n s = list (word (bytes "declare-const") ⨾ word n ⨾ s ⨾ stop)

abbrev pub assertion : Sexp → Sexp
assertion t = list (word (bytes "assert") ⨾ t ⨾ stop)

abbrev pub define_fun : List ℕ → Sexp → Sexp → Sexp
define_fun n s t = list (word (bytes "define-fun") ⨾ word n ⨾ list stop ⨾ s ⨾ t ⨾ stop)

-- a Var has no definition
abbrev pub defined_by : Kind → Sexp → Items → Items
defined_by bad d xs = d ⨾ xs
defined_by var d xs = xs
defined_by const d xs = d ⨾ xs
defined_by (bv o) d xs = d ⨾ xs
defined_by (compare o) d xs = d ⨾ xs
defined_by ite d xs = d ⨾ xs
defined_by extract d xs = d ⨾ xs
defined_by concat d xs = d ⨾ xs
defined_by zext d xs = d ⨾ xs
defined_by sext d xs = d ⨾ xs

-- the width in a node's sort
abbrev pub sort_width : List ℕ → ℕ → ℕ
sort_width ws n = width_at ws n

abbrev pub definition : List ℕ → ℕ → Sexp
definition ws n = define_fun (node_name n) (sort_by (sort_width ws n)) (term_of ws n)

-- the definitions of k nodes from node n on, and what follows them
unfoldable pub definitions : List ℕ → (k n : ℕ) → Items → Items
definitions ws zero n rest = rest
definitions ws (suc k) n rest = defined_by (cell_at ws n).kind (definition ws n) (definitions ws k (suc n) rest)

-- the declarations of k registers from register r on
unfoldable pub declarations : (k r : ℕ) → Items → Items
declarations zero r rest = rest
declarations (suc k) r rest = declare_const (register_name r) (sort_by 128) ⨾ declarations k (suc r) rest

-- the first command and the last
abbrev pub set_logic : Sexp
set_logic = list (word (bytes "set-logic") ⨾ word (bytes "QF_BV") ⨾ stop)

abbrev pub check_sat : Sexp
check_sat = list (word (bytes "check-sat") ⨾ stop)

unfoldable pub commands_of : List ℕ → (count x y : ℕ) → Items
commands_of ws count x y =
    set_logic
    ⨾ declarations 32 0
    (definitions ws count 0
    (assertion (apply2 (bytes "distinct") (name_of ws x) (name_of ws y)) ⨾ check_sat ⨾ stop))

-- the bytes of the script that asks whether nodes x and y differ
unfoldable pub script_of : List ℕ → (count x y : ℕ) → List ℕ
script_of ws count x y = show_lines (commands_of ws count x y)
