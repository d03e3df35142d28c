-- The forms of each operation, after the Arm Architecture Reference Manual (document 01, "Forms"): its source lanes, immediates,
-- arrangements and the registers that it reads.
use Rattle.std.specs.Prelude.{Bool, true, false, cond, ◌&&◌, ◌||◌, ℕ, ◌+◌, ◌-◌, ◌*◌, ◌/◌, leb, eqb}
use Rattle.neon.specs.Op.{Op, op_at, is_operation, Arrangement, arrangement_at, is_arrangement, bits_of_lane, full, bits_if}

-- a source lane has the result's bits; twice as many; or half as many, from the lower or the upper lanes
pub data Lanes : Type 0 where
  Same Narrow : Lanes
  Long : (upper : Bool) → Lanes

-- the immediate i: 0; 0 to n - 1; 1 to n; the number of the second source's one element
pub data Immediate : Type 0 where
  None Left Right Element : Immediate

-- all; all but 2D; 4H 8H 2S 4S; 4S 2D; 8B 16B
pub data Class : Type 0 where
  Every Not2D From4HTo4S From4S Bytes : Class

-- the registers that are read
pub data Reads : Type 0 where
  N NM DN DNM : Reads

pub record Form : Type 0 where
  pub lanes : Lanes
  pub immediate : Immediate
  pub class : Class
  pub reads : Reads

abbrev pub row : Lanes → Immediate → Class → Reads → Form
row l i c r = record { lanes = l; immediate = i; class = c; reads = r }

abbrev pub form : Op → Form
form Op.SHL = row Same Left Every N
form Op.SQSHLI = row Same Left Every N
form Op.UQSHLI = row Same Left Every N
form Op.SQSHLU = row Same Left Every N
form Op.SSHR = row Same Right Every N
form Op.USHR = row Same Right Every N
form Op.SRSHR = row Same Right Every N
form Op.URSHR = row Same Right Every N
form Op.SSHL = row Same None Every NM
form Op.USHL = row Same None Every NM
form Op.SRSHL = row Same None Every NM
form Op.URSHL = row Same None Every NM
form Op.SQSHL = row Same None Every NM
form Op.UQSHL = row Same None Every NM
form Op.SQRSHL = row Same None Every NM
form Op.UQRSHL = row Same None Every NM
form Op.SLI = row Same Left Every DN
form Op.SRI = row Same Right Every DN
form Op.SQADD = row Same None Every NM
form Op.UQADD = row Same None Every NM
form Op.SQSUB = row Same None Every NM
form Op.UQSUB = row Same None Every NM
form Op.SHADD = row Same None Not2D NM
form Op.UHADD = row Same None Not2D NM
form Op.SRHADD = row Same None Not2D NM
form Op.URHADD = row Same None Not2D NM
form Op.SQXTN = row Narrow None Not2D N
form Op.UQXTN = row Narrow None Not2D N
form Op.SQXTUN = row Narrow None Not2D N
form Op.SHRN = row Narrow Right Not2D N
form Op.RSHRN = row Narrow Right Not2D N
form Op.SQSHRN = row Narrow Right Not2D N
form Op.SQRSHRN = row Narrow Right Not2D N
form Op.UQSHRN = row Narrow Right Not2D N
form Op.UQRSHRN = row Narrow Right Not2D N
form Op.SQSHRUN = row Narrow Right Not2D N
form Op.SQRSHRUN = row Narrow Right Not2D N
form Op.SQABS = row Same None Every N
form Op.SQNEG = row Same None Every N
form Op.SQDMULH = row Same None From4HTo4S NM
form Op.SQRDMULH = row Same None From4HTo4S NM
form Op.SQDMULL = row (Long false) None From4S NM
form Op.SQDMLAL = row (Long false) None From4S DNM
form Op.SQDMLSL = row (Long false) None From4S DNM
form Op.SQDMULL2 = row (Long true) None From4S NM
form Op.SQDMLAL2 = row (Long true) None From4S DNM
form Op.SQDMLSL2 = row (Long true) None From4S DNM
form Op.SQDMULLE = row (Long false) Element From4S NM
form Op.SQDMLALE = row (Long false) Element From4S DNM
form Op.SQDMLSLE = row (Long false) Element From4S DNM
form Op.SQDMULL2E = row (Long true) Element From4S NM
form Op.SQDMLAL2E = row (Long true) Element From4S DNM
form Op.SQDMLSL2E = row (Long true) Element From4S DNM
form Op.SUQADD = row Same None Every DN
form Op.USQADD = row Same None Every DN
form Op.SABD = row Same None Not2D NM
form Op.UABD = row Same None Not2D NM
form Op.SABA = row Same None Not2D DNM
form Op.UABA = row Same None Not2D DNM
form Op.CNT = row Same None Bytes N
form Op.CLZ = row Same None Not2D N
form Op.CLS = row Same None Not2D N
form Op.RBIT = row Same None Bytes N
form Op.ADDHN = row Narrow None Not2D NM
form Op.RADDHN = row Narrow None Not2D NM
form Op.SUBHN = row Narrow None Not2D NM
form Op.RSUBHN = row Narrow None Not2D NM

abbrev pub in_class : Class → Arrangement → Bool
in_class Every v = true
in_class Not2D v = leb (bits_of_lane v) 32
in_class From4HTo4S v = leb 16 (bits_of_lane v) && leb (bits_of_lane v) 32
in_class From4S v = leb 32 (bits_of_lane v) && full v
in_class Bytes v = eqb (bits_of_lane v) 8

abbrev pub has_form : Op → Arrangement → Bool
has_form o v = in_class (form o).class v

abbrev pub least_of : Immediate → ℕ
least_of None = 0
least_of Left = 0
least_of Right = 1
least_of Element = 0

-- an element has n / 2 bits of the register's 128
abbrev pub most_of : Immediate → ℕ → ℕ
most_of None n = 0
most_of Left n = n - 1
most_of Right n = n
most_of Element n = 256 / n - 1

abbrev pub is_element : Immediate → Bool
is_element None = false
is_element Left = false
is_element Right = false
is_element Element = true

abbrev pub by_element : Op → Bool
by_element o = is_element (form o).immediate

abbrev pub least : Op → ℕ
least o = least_of (form o).immediate

abbrev pub most : Op → ℕ → ℕ
most o n = most_of (form o).immediate n

-- whether m is read, and d
abbrev pub m_in : Reads → Bool
m_in N = false
m_in NM = true
m_in DN = false
m_in DNM = true

abbrev pub d_in : Reads → Bool
d_in N = false
d_in NM = false
d_in DN = true
d_in DNM = true

abbrev pub has_second : Op → Bool
has_second o = m_in (form o).reads

abbrev pub is_narrow : Lanes → Bool
is_narrow Same = false
is_narrow Narrow = true
is_narrow (Long u) = false

-- a narrowing "2" form keeps half of d
abbrev pub reads_d : Op → Arrangement → Bool
reads_d o v = d_in (form o).reads || is_narrow (form o).lanes && full v

-- whether the first source is read at 128 bits, and the second; d is read at the view
abbrev pub first_full : Lanes → Bool → Bool
first_full Same whole = whole
first_full Narrow whole = true
first_full (Long u) whole = u

abbrev pub second_full : Lanes → (element : Bool) → Bool → Bool
second_full Same e whole = whole
second_full Narrow e whole = true
second_full (Long u) e whole = u || e

abbrev pub first_bits : Op → Arrangement → ℕ
first_bits o v = bits_if (first_full (form o).lanes (full v))

abbrev pub second_bits : Op → Arrangement → ℕ
second_bits o v = bits_if (second_full (form o).lanes (by_element o) (full v))

-- the bits of a source lane
abbrev pub source_bits : Lanes → ℕ → ℕ
source_bits Same n = n
source_bits Narrow n = n * 2
source_bits (Long u) n = n / 2

-- the bits that are made: 64 if the lanes narrow, else the view
abbrev pub made_bits : Lanes → Bool → ℕ
made_bits l whole = cond (is_narrow l) 64 (bits_if whole)

abbrev pub lane_count : Op → Arrangement → ℕ
lane_count o v = made_bits (form o).lanes (full v) / bits_of_lane v

-- the lane of the first source, and of the second, that goes into lane j of the k lanes of the result
abbrev pub first_lane : Lanes → ℕ → ℕ → ℕ
first_lane Same k j = j
first_lane Narrow k j = j
first_lane (Long u) k j = cond u (j + k) j

abbrev pub second_lane : Lanes → (element : Bool) → ℕ → ℕ → ℕ → ℕ
second_lane Same e k i j = j
second_lane Narrow e k i j = j
second_lane (Long u) e k i j = cond e i (cond u (j + k) j)

abbrev pub flag : Bool → ℕ → ℕ
flag b k = cond b k 0

abbrev pub immediate_code : Immediate → ℕ
immediate_code None = 1
immediate_code Left = 2
immediate_code Right = 3
immediate_code Element = 4

-- one byte for each operation and arrangement, 0 if there is no such form
unfoldable pub form_code : Op → Arrangement → ℕ
form_code o v =
    flag (has_form o v)
    (immediate_code (form o).immediate + flag (has_second o) 8 + flag (reads_d o v) 16 + flag (first_full (form o).lanes (full v)) 32
    + flag (second_full (form o).lanes (by_element o) (full v)) 64)

-- by number, 0 if a number names nothing
unfoldable pub form_code_at : ℕ → ℕ → ℕ
form_code_at operation arrangement = flag (is_operation operation && is_arrangement arrangement) (form_code (op_at operation) (arrangement_at arrangement))
