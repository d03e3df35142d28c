-- A word of each class, read back: its fields tell the class, the opcode, the size, the immediate and the registers. Assumes nothing.
use mathlib.Core.Path.{◌≡◌, refl}
use mathlib.Core.Bool.{Bool, true, false, cond, ◌&&◌, false≢true}
use Prim.Native.Nat.{ℕ, ◌+◌, ◌-◌, ◌*◌, ◌/◌, ◌≤◌, ◌<◌}
use native.Mathlib.Omega.{arith}
use lib.Dec.{eqb}
use borrow.Author.Tests.{lt-ltb, le-ltb}
use Rattle.neon.specs.Op.{Arrangement, B8, B16, H4, H8, S2, S4, D2, bits_of_lane, full}
use Rattle.neon.specs.Form.{Lanes, Same, Narrow, Long, Immediate, None, Left, Right, Element, least_of, most_of, is_element}
use Rattle.neon.proofs.Geometry.{sized}
use Rattle.words_encoding.specs.Encoding.{Class, ShiftByImmediate, ThreeSame, ThreeDifferent, TwoMiscellaneous, ByElement, TwoMiscellaneous01}
use Rattle.terms.specs.Value.{bit}
use Rattle.words_encoding.specs.Word.{word, diagram, Qof, size, size_of, immhb, Hof, Lof, Mof, Rmof}
use Rattle.words_encoding.specs.Decode.{bits, class_number, class_at, opcode_at, upper_is, size_of_immh, size_at, immediate_at}
use Rattle.words_encoding.proofs.Fields.{Common, shift, same, different, miscellaneous, miscellaneous-01, indexed}
use Rattle.words_encoding.proofs.Operations.{is_none, is_shift, immediate_is, second_operand_is, opcode_bits, size_back}

-- ---- immediates

none-back : (K : Immediate) (b i w : ℕ) → is_none K ≡ true → i ≤ most_of K b → immediate_at K b w ≡ i
none-back None b i w h l = omega arith
none-back Left b i w h l = absurd (false≢true h)
none-back Right b i w h l = absurd (false≢true h)
none-back Element b i w h l = absurd (false≢true h)

shift-range : (K : Immediate) (b i : ℕ) → is_shift K ≡ true → 1 ≤ b → least_of K ≤ i → i ≤ most_of K b → (b ≤ immhb K b i) × (immhb K b i < 2 * b)
shift-range None b i h p l m = absurd (false≢true h)
shift-range Left b i h p l m = omega arith
shift-range Right b i h p l m = omega arith
shift-range Element b i h p l m = absurd (false≢true h)

shift_back : (K : Immediate) (b i w : ℕ) → is_shift K ≡ true → 1 ≤ b → least_of K ≤ i → i ≤ most_of K b → bits 22 16 w ≡ immhb K b i → immediate_at K b w ≡ i
shift_back None b i w h p l m e = absurd (false≢true h)
shift_back Left b i w h p l m e = omega arith
shift_back Right b i w h p l m e = omega arith
shift_back Element b i w h p l m e = absurd (false≢true h)

immh-size : (v : Arrangement) (x : ℕ) → bits_of_lane v ≤ x → x < 2 * bits_of_lane v → size_of_immh (x / 8) ≡ size_of v
immh-size B8 x l h = rw (lt-ltb (x / 8) 2 (omega arith))
immh-size B16 x l h = rw (lt-ltb (x / 8) 2 (omega arith))
immh-size H4 x l h = rw (le-ltb (x / 8) 2 (omega arith), lt-ltb (x / 8) 4 (omega arith))
immh-size H8 x l h = rw (le-ltb (x / 8) 2 (omega arith), lt-ltb (x / 8) 4 (omega arith))
immh-size S2 x l h = rw (le-ltb (x / 8) 2 (omega arith), le-ltb (x / 8) 4 (omega arith), lt-ltb (x / 8) 8 (omega arith))
immh-size S4 x l h = rw (le-ltb (x / 8) 2 (omega arith), le-ltb (x / 8) 4 (omega arith), lt-ltb (x / 8) 8 (omega arith))
immh-size D2 x l h = rw (le-ltb (x / 8) 2 (omega arith), le-ltb (x / 8) 4 (omega arith), le-ltb (x / 8) 8 (omega arith))

size-le : (v : Arrangement) → size_of v ≤ 3
size-le B8 = omega arith
size-le B16 = omega arith
size-le H4 = omega arith
size-le H8 = omega arith
size-le S2 = omega arith
size-le S4 = omega arith
size-le D2 = omega arith

size_fits : (l : Lanes) (v : Arrangement) → size l v ≤ 3
size_fits Same v = size-le v
size_fits Narrow v = size-le v
size_fits (Long u) v = omega (arith, size-le v)

bit_le : (b : Bool) → bit b ≤ 1
bit_le true = omega arith
bit_le false = omega arith

pub Q-fits : (l : Lanes) (v : Arrangement) → Qof l v ≤ 1
Q-fits Same v = bit_le (full v)
Q-fits Narrow v = bit_le (full v)
Q-fits (Long u) v = bit_le u

pub Q-upper : (l : Lanes) (v : Arrangement) → upper_is l (Qof l v) ≡ true
Q-upper Same v = refl
Q-upper Narrow v = refl
Q-upper (Long true) v = refl
Q-upper (Long false) v = refl

-- ---- a word of each class, read back

-- the second source that a word of the class names, at lanes of b bits
abbrev pub second : Class → Bool → ℕ → ℕ → ℕ
second cl s b w = cond s (cond (eqb (class_number cl) 3 && eqb b 32) (bits 19 16 w) (bits 20 16 w)) 0

pub record ReadBack (cl : Class) (l : Lanes) (K : Immediate) (s : Bool) (v : Arrangement) (w U x i d n m : ℕ) : Type 0 where
  pub class-is : class_at w ≡ class_number cl
  pub opcode-is : opcode_at (class_number cl) w ≡ x
  pub common : Common w (Qof l v) U n d
  pub size_is : size_at cl w ≡ size_back cl l v
  pub i-is : immediate_at K (bits_of_lane v) w ≡ i
  pub m_is : second cl s (bits_of_lane v) w ≡ m

-- an element's number and register
element-back : (K : Immediate) (v : Arrangement) (w i m : ℕ) → is_element K ≡ true → 32 ≤ bits_of_lane v → i ≤ most_of K (bits_of_lane v) → m ≤ cond (eqb (bits_of_lane v) 32) 15 31
    → bits 11 11 w ≡ Hof (bits_of_lane v) i → bits 21 21 w ≡ Lof (bits_of_lane v) i → bits 20 20 w ≡ Mof (bits_of_lane v) i m → bits 19 16 w ≡ Rmof (bits_of_lane v) m
    → bits 20 16 w ≡ 16 * Mof (bits_of_lane v) i m + Rmof (bits_of_lane v) m
    → (immediate_at K (bits_of_lane v) w ≡ i) × (second ByElement true (bits_of_lane v) w ≡ m)
element-back None v w i m h g hi hm eH eL eM eR e = absurd (false≢true h)
element-back Left v w i m h g hi hm eH eL eM eR e = absurd (false≢true h)
element-back Right v w i m h g hi hm eH eL eM eR e = absurd (false≢true h)
element-back Element B8 w i m h g hi hm eH eL eM eR e = absurd (omega arith)
element-back Element B16 w i m h g hi hm eH eL eM eR e = absurd (omega arith)
element-back Element H4 w i m h g hi hm eH eL eM eR e = absurd (omega arith)
element-back Element H8 w i m h g hi hm eH eL eM eR e = absurd (omega arith)
element-back Element S2 w i m h g hi hm eH eL eM eR e = omega arith
element-back Element S4 w i m h g hi hm eH eL eM eR e = omega arith
element-back Element D2 w i m h g hi hm eH eL eM eR e = omega arith

element-fits : (K : Immediate) (v : Arrangement) (i m : ℕ) → is_element K ≡ true → 32 ≤ bits_of_lane v → i ≤ most_of K (bits_of_lane v) → m ≤ cond (eqb (bits_of_lane v) 32) 15 31
    → (Hof (bits_of_lane v) i ≤ 1) × (Lof (bits_of_lane v) i ≤ 1) × (Mof (bits_of_lane v) i m ≤ 1) × (Rmof (bits_of_lane v) m ≤ 15)
element-fits None v i m h g hi hm = absurd (false≢true h)
element-fits Left v i m h g hi hm = absurd (false≢true h)
element-fits Right v i m h g hi hm = absurd (false≢true h)
element-fits Element B8 i m h g hi hm = absurd (omega arith)
element-fits Element B16 i m h g hi hm = absurd (omega arith)
element-fits Element H4 i m h g hi hm = absurd (omega arith)
element-fits Element H8 i m h g hi hm = absurd (omega arith)
element-fits Element S2 i m h g hi hm = omega arith
element-fits Element S4 i m h g hi hm = omega arith
element-fits Element D2 i m h g hi hm = omega arith

-- the largest m of a class
abbrev pub most : Class → ℕ → ℕ
most cl b = cond (second_operand_is cl) (cond (eqb (class_number cl) 3 && eqb b 32) 15 31) 0

module _ (l : Lanes) (K : Immediate) (v : Arrangement) (w U x i d n m : ℕ) (hU : U ≤ 1) (hn : n ≤ 31) (hd : d ≤ 31) (low : least_of K ≤ i) (high : i ≤ most_of K (bits_of_lane v)) where
  abbrev made : Class → ℕ
  made cl = let b = bits_of_lane v in word (diagram cl (Qof l v) U (size l v) (immhb K b i) x (Hof b i) (Lof b i) (Mof b i m) (Rmof b m) m n d)

  pub read_back : (cl : Class) → immediate_is cl K ≡ true → x < opcode_bits cl → m ≤ most cl (bits_of_lane v) → (cl ≡ ByElement → 32 ≤ bits_of_lane v) → w ≡ made cl
      → ReadBack cl l K (second_operand_is cl) v w U x i d n m
  read_back ShiftByImmediate h hx hm g e =
      let b = bits_of_lane v in
      let r = shift-range K b i h (omega (arith, (sized v).eight)) low high in
      let f = shift w (Qof l v) U (size l v) (immhb K b i) x (Hof b i) (Lof b i) (Mof b i m) (Rmof b m) m n d (Q-fits l v) hU hn hd (omega (arith, (sized v).most, r)) hx e in
      record {
        class-is = rw (f.at-24, f.at-10);
        opcode-is = f.at-opcode;
        common = f.common;
        size_is = rw f.at-immh (immh-size v (immhb K b i) r.0 r.1);
        i-is = shift_back K b i w h (omega (arith, (sized v).eight)) low high f.at-imm;
        m_is = omega arith;
      }
  read_back ThreeSame h hx hm g e =
      let b = bits_of_lane v in
      let f = same w (Qof l v) U (size l v) (immhb K b i) x (Hof b i) (Lof b i) (Mof b i m) (Rmof b m) m n d (Q-fits l v) hU hn hd (size_fits l v) hm hx e in
      record {
        class-is = rw (f.at-24, f.at-10);
        opcode-is = f.at-opcode;
        common = f.common;
        size_is = f.at_size;
        i-is = none-back K b i w h high;
        m_is = f.at-m;
      }
  read_back ThreeDifferent h hx hm g e =
      let b = bits_of_lane v in
      let f = different w (Qof l v) U (size l v) (immhb K b i) x (Hof b i) (Lof b i) (Mof b i m) (Rmof b m) m n d (Q-fits l v) hU hn hd (size_fits l v) hm hx e in
      record {
        class-is = rw (f.at-24, f.at-10, f.at-11);
        opcode-is = f.at-opcode;
        common = f.common;
        size_is = f.at_size;
        i-is = none-back K b i w h high;
        m_is = f.at-m;
      }
  read_back TwoMiscellaneous h hx hm g e =
      let b = bits_of_lane v in
      let f = miscellaneous w (Qof l v) U (size l v) (immhb K b i) x (Hof b i) (Lof b i) (Mof b i m) (Rmof b m) m n d (Q-fits l v) hU hn hd (size_fits l v) hx e in
      record {
        class-is = rw (f.at-24, f.at-10, f.at-11);
        opcode-is = f.at-opcode;
        common = f.common;
        size_is = f.at_size;
        i-is = none-back K b i w h high;
        m_is = omega arith;
      }
  read_back ByElement h hx hm g e =
      let b = bits_of_lane v in
      let k = element-fits K v i m h (g refl) high hm in
      let f = indexed w (Qof l v) U (size l v) (immhb K b i) x (Hof b i) (Lof b i) (Mof b i m) (Rmof b m) m n d (Q-fits l v) hU hn hd (size_fits l v) k.0 k.1 k.2 k.3 hx e in
      let r = element-back K v w i m h (g refl) high hm f.at_H f.at-L f.at-M f.at-Rm f.at-m in
      record {
        class-is = rw (f.at-24, f.at-10);
        opcode-is = f.at-opcode;
        common = f.common;
        size_is = f.at_size;
        i-is = r.0;
        m_is = r.1;
      }
  read_back TwoMiscellaneous01 h hx hm g e =
      let b = bits_of_lane v in
      let f = miscellaneous-01 w (Qof l v) U (size l v) (immhb K b i) x (Hof b i) (Lof b i) (Mof b i m) (Rmof b m) m n d (Q-fits l v) hU hn hd hx e in
      record {
        class-is = rw (f.at-24, f.at-10, f.at-11);
        opcode-is = f.at-opcode;
        common = f.common;
        size_is = refl;
        i-is = none-back K b i w h high;
        m_is = omega arith;
      }
