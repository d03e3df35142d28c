-- What is proved of words and records, in proofs/Back.antt: each legal record has one word, and a word one record or none.
use Rattle.std.specs.Prelude.{◌↔◌, ◌≡◌, ℕ, ◌<◌, ◌^◌, Some}
use Rattle.neon.specs.declared.Instruction.{Instruction}
use Rattle.neon.specs.Refusal.{Legal}
use Rattle.words_encoding.specs.Word.{encode}
use Rattle.words_encoding.specs.Decode.{decode}

-- a word is decoded to a record exactly when that record is legal and has that word: each bit that the record does not carry is then what
-- the diagram of its class fixes
abbrev pub DecodedWhere : Type 0
DecodedWhere = (w : ℕ) (c : Instruction) → (decode w ≡ Some c) ↔ (Legal c × (encode c ≡ w))

-- going and returning
abbrev pub DecodeEncode : Type 0
DecodeEncode = (c : Instruction) → Legal c → decode (encode c) ≡ Some c

-- no two legal records have one word
abbrev pub OneWord : Type 0
OneWord = (c c' : Instruction) → Legal c → Legal c' → encode c ≡ encode c' → c ≡ c'

abbrev pub WordFits : Type 0
WordFits = (c : Instruction) → Legal c → encode c < 2 ^ 32
