-- Scripts that SMT-LIB 2.6 refuses, and so does the reader: each has one fault. Beside them scripts with none, which it reads. All are computed.
use Rattle.std.specs.Prelude.{Bool, true, ◌&&◌, not, List, [], ◌∷◌, ◌++◌, ◌≡◌, ℕ}
use Rattle.terms.specs.Display.{bytes}
use Rattle.script_meaning.specs.Values.{is_none}
use Rattle.script_meaning.specs.Meaning.{meant}

-- after the logic, a Bool a, vectors x of 8 bits and y of 4
abbrev pub after : List ℕ → List ℕ
after command = bytes "(set-logic QF_BV) (declare-const a Bool) (declare-const x (_ BitVec 8)) (declare-const y (_ BitVec 4)) " ++ command

abbrev pub right_commands : List (List ℕ)
right_commands =
    bytes "" ∷ bytes "(check-sat)" ∷ bytes "(assert a)" ∷ bytes "(assert (= x #b00000111))" ∷ bytes "(assert (distinct a a))"
    ∷ bytes "(assert (bvult y y))" ∷ bytes "(define-fun z () (_ BitVec 8) (bvadd x x))" ∷ bytes "(define-fun z () Bool (bvslt x (concat y y)))"
    ∷ bytes "(define-fun z () (_ BitVec 8) (ite a x x))" ∷ bytes "(define-fun z () (_ BitVec 4) ((_ extract 7 4) x))"
    ∷ bytes "(define-fun z () (_ BitVec 8) ((_ zero_extend 4) y))" ∷ bytes "(declare-const assertion Bool) (assert assertion)" ∷ []

abbrev pub wrong_commands : List (List ℕ)
wrong_commands =
    -- sorts that do not agree
    bytes "(assert (= x y))" ∷ bytes "(assert (= a x))" ∷ bytes "(assert (distinct x y))" ∷ bytes "(assert (bvult x y))" ∷ bytes "(assert (bvslt y x))"
    ∷ bytes "(assert (= x (bvadd x y)))" ∷ bytes "(assert (= x (ite a x y)))" ∷ bytes "(define-fun z () (_ BitVec 4) x)" ∷ bytes "(define-fun z () Bool x)"
    -- a Bool for a vector, and a vector for a Bool
    ∷ bytes "(assert (bvadd a a))" ∷ bytes "(assert (bvult a a))" ∷ bytes "(assert (= x (concat y a)))" ∷ bytes "(assert (= x (ite x x x)))"
    ∷ bytes "(assert (= x ((_ zero_extend 7) a)))" ∷ bytes "(assert (= x ((_ sign_extend 7) a)))" ∷ bytes "(assert (= x ((_ extract 0 0) a)))"
    ∷ bytes "(assert x)"
    -- a name that is given twice, or stands for nothing
    ∷ bytes "(declare-const x (_ BitVec 8))" ∷ bytes "(define-fun a () Bool a)" ∷ bytes "(define-fun z () Bool a) (declare-const z Bool)"
    ∷ bytes "(assert b)" ∷ bytes "(assert z) (define-fun z () Bool a)" ∷ bytes "(define-fun z () Bool z)" ∷ bytes "(assert (f a))"
    -- no name: a reserved word, a command, a function of the theories, a word that begins with a digit, a solver's name
    ∷ bytes "(declare-const let Bool)" ∷ bytes "(declare-const _ Bool)" ∷ bytes "(declare-const ! Bool)" ∷ bytes "(declare-const BINARY Bool)"
    ∷ bytes "(declare-const assert Bool)" ∷ bytes "(define-fun bvadd () Bool a)" ∷ bytes "(declare-const bvnot Bool)" ∷ bytes "(declare-const true Bool)"
    ∷ bytes "(declare-const = Bool)" ∷ bytes "(declare-const 1a Bool)" ∷ bytes "(declare-const @a Bool)" ∷ bytes "(declare-const .a Bool)"
    ∷ bytes "(declare-const #b1 Bool)"
    -- literals and numerals
    ∷ bytes "(assert (= x #b))" ∷ bytes "(assert (= x #b00000002))" ∷ bytes "(assert (= x b00000000))" ∷ bytes "(assert (= x 7))"
    ∷ bytes "(declare-const z (_ BitVec 007))" ∷ bytes "(declare-const z (_ BitVec 0))" ∷ bytes "(declare-const z (_ BitVec x))"
    ∷ bytes "(assert (= y ((_ extract 3 00) x)))"
    -- bits past the width, in the wrong order, too few or too many indices and terms
    ∷ bytes "(assert (= x ((_ extract 8 1) x)))" ∷ bytes "(assert (= y ((_ extract 0 3) x)))" ∷ bytes "(assert (= x ((_ extract 7) x)))"
    ∷ bytes "(assert (= x ((_ extract 7 0 0) x)))" ∷ bytes "(assert (= x (extract 7 0 x)))" ∷ bytes "(assert (= x ((_ zero_extend) x)))"
    ∷ bytes "(assert (= x))"
    ∷ bytes "(assert (bvult x))" ∷ bytes "(assert (= x (ite a x)))" ∷ bytes "(assert (= x ()))" ∷ bytes "(assert ())" ∷ bytes "(assert (a))"
    -- commands
    ∷ bytes "(assert)" ∷ bytes "(assert a a)" ∷ bytes "(check-sat a)" ∷ bytes "(declare-const z)" ∷ bytes "(declare-const (z) Bool)"
    ∷ bytes "(declare-const z Int)"
    ∷ bytes "(declare-const z (BitVec 8))" ∷ bytes "(define-fun z () Bool)" ∷ bytes "(define-fun z Bool a)" ∷ bytes "(hello)" ∷ bytes "()" ∷ bytes "a"
    ∷ bytes "(set-logic QF_BV)"
    -- brackets and characters
    ∷ bytes "(assert a" ∷ bytes "(assert a))" ∷ bytes ")" ∷ bytes "(" ∷ bytes "(assert [a])" ∷ bytes "(assert {a})" ∷ bytes "(assert a,a)"
    ∷ bytes "(assert 'a)" ∷ []

-- no logic, another one, or not first
abbrev pub wrong_begun : List (List ℕ)
wrong_begun =
    bytes "(check-sat)" ∷ bytes "(declare-const a Bool) (assert a)" ∷ bytes "(declare-const a Bool) (set-logic QF_BV)" ∷ bytes "(set-logic)"
    ∷ bytes "(set-logic QF_BVX) (check-sat)" ∷ bytes "(set-logic qf_bv) (check-sat)" ∷ bytes "(set-logic QF_BV QF_BV) (check-sat)"
    ∷ bytes "set-logic QF_BV" ∷ []

-- in the model in which every constant is 0
unfoldable pub is_read : List ℕ → Bool
is_read cs = not (is_none (meant (λ n. 0) cs))

unfoldable pub every : (List ℕ → Bool) → List (List ℕ) → Bool
every f [] = true
every f (c ∷ cs) = f c && every f cs

abbrev pub RightRead : Type 0
RightRead = every (λ c. is_read (after c)) right_commands ≡ true

abbrev pub WrongRefused : Type 0
WrongRefused = (every (λ c. not (is_read (after c))) wrong_commands && every (λ c. not (is_read c)) wrong_begun) ≡ true
