-- Sample words: for each operation two lines of the project's list of words, which two assemblers made, for each element of 16 bits three more, and
-- words beside them that encode no form of ours. They check the encodings against Arm's; the theorems of Inverse.antt say only that going and
-- returning agree.
use Rattle.std.specs.Prelude.{Bool, true, false, ◌&&◌, List, [], ◌∷◌, ◌≡◌, ℕ, eqb, Option, Some, None}
use Rattle.neon.specs.declared.Instruction.{Instruction}
use Rattle.block_record_check.specs.Record.{instruction}
use Rattle.words_encoding.specs.Word.{encode}
use Rattle.words_encoding.specs.Decode.{decode}

pub record Sample : Type 0 where
  pub word : ℕ
  pub record_is : Instruction

infix 70 ◌is◌
abbrev pub ◌is◌ : ℕ → Instruction → Sample
w is c = record { word = w; record_is = c }

abbrev pub samples : List Sample
samples =
    0x0f0f55e2 is instruction 1 0 7 2 15 0 ∷
    0x4f5a579d is instruction 1 6 26 29 28 0 ∷
    0x0f0f76bc is instruction 2 0 7 28 21 0 ∷
    0x4f5077a6 is instruction 2 6 16 6 29 0 ∷
    0x2f0f75b7 is instruction 3 0 7 23 13 0 ∷
    0x6f61779b is instruction 3 6 33 27 28 0 ∷
    0x2f0c65e1 is instruction 4 0 4 1 15 0 ∷
    0x6f616759 is instruction 4 6 33 25 26 0 ∷
    0x0f080741 is instruction 5 0 8 1 26 0 ∷
    0x4f4e06d6 is instruction 5 6 50 22 22 0 ∷
    0x2f09063c is instruction 6 0 7 28 17 0 ∷
    0x6f570755 is instruction 6 6 41 21 26 0 ∷
    0x0f092721 is instruction 7 0 7 1 25 0 ∷
    0x4f7c25be is instruction 7 6 4 30 13 0 ∷
    0x2f0926d1 is instruction 8 0 7 17 22 0 ∷
    0x6f4c278f is instruction 8 6 52 15 28 0 ∷
    0x0e3b44ee is instruction 9 0 0 14 7 27 ∷
    0x4ef74756 is instruction 9 6 0 22 26 23 ∷
    0x2e3647f1 is instruction 10 0 0 17 31 22 ∷
    0x6efc46ca is instruction 10 6 0 10 22 28 ∷
    0x0e395650 is instruction 11 0 0 16 18 25 ∷
    0x4eeb5645 is instruction 11 6 0 5 18 11 ∷
    0x2e3c571c is instruction 12 0 0 28 24 28 ∷
    0x6ef9575a is instruction 12 6 0 26 26 25 ∷
    0x0e304e78 is instruction 13 0 0 24 19 16 ∷
    0x4eec4d59 is instruction 13 6 0 25 10 12 ∷
    0x2e3c4dbc is instruction 14 0 0 28 13 28 ∷
    0x6eeb4fb7 is instruction 14 6 0 23 29 11 ∷
    0x0e395e8e is instruction 15 0 0 14 20 25 ∷
    0x4eff5d3e is instruction 15 6 0 30 9 31 ∷
    0x2e395ddf is instruction 16 0 0 31 14 25 ∷
    0x6efe5ed5 is instruction 16 6 0 21 22 30 ∷
    0x2f0f54c2 is instruction 17 0 7 2 6 0 ∷
    0x6f71569f is instruction 17 6 49 31 20 0 ∷
    0x2f0845b6 is instruction 18 0 8 22 13 0 ∷
    0x6f614719 is instruction 18 6 31 25 24 0 ∷
    0x0e3e0fbd is instruction 19 0 0 29 29 30 ∷
    0x4ef00e1e is instruction 19 6 0 30 16 16 ∷
    0x2e370f90 is instruction 20 0 0 16 28 23 ∷
    0x6ef20fca is instruction 20 6 0 10 30 18 ∷
    0x0e3e2f9a is instruction 21 0 0 26 28 30 ∷
    0x4ef52e78 is instruction 21 6 0 24 19 21 ∷
    0x2e2f2f7c is instruction 22 0 0 28 27 15 ∷
    0x6efa2f9b is instruction 22 6 0 27 28 26 ∷
    0x0e3907f1 is instruction 23 0 0 17 31 25 ∷
    0x4ebc061f is instruction 23 5 0 31 16 28 ∷
    0x2e3e06b7 is instruction 24 0 0 23 21 30 ∷
    0x6eba0737 is instruction 24 5 0 23 25 26 ∷
    0x0e2e17c8 is instruction 25 0 0 8 30 14 ∷
    0x4ea3175f is instruction 25 5 0 31 26 3 ∷
    0x2e2d179c is instruction 26 0 0 28 28 13 ∷
    0x6eb8171a is instruction 26 5 0 26 24 24 ∷
    0x0e21491d is instruction 27 0 0 29 8 0 ∷
    0x4ea14a77 is instruction 27 5 0 23 19 0 ∷
    0x2e2149be is instruction 28 0 0 30 13 0 ∷
    0x6ea14bd7 is instruction 28 5 0 23 30 0 ∷
    0x2e212bb3 is instruction 29 0 0 19 29 0 ∷
    0x6ea12b3b is instruction 29 5 0 27 25 0 ∷
    0x0f09850c is instruction 30 0 7 12 8 0 ∷
    0x4f2587cb is instruction 30 5 27 11 30 0 ∷
    0x0f088fe7 is instruction 31 0 8 7 31 0 ∷
    0x4f218fff is instruction 31 5 31 31 31 0 ∷
    0x0f0b9451 is instruction 32 0 5 17 2 0 ∷
    0x4f2c973e is instruction 32 5 20 30 25 0 ∷
    0x0f099fe6 is instruction 33 0 7 6 31 0 ∷
    0x4f209fb2 is instruction 33 5 32 18 29 0 ∷
    0x2f089731 is instruction 34 0 8 17 25 0 ∷
    0x6f2597f8 is instruction 34 5 27 24 31 0 ∷
    0x2f0a9f0b is instruction 35 0 6 11 24 0 ∷
    0x6f3f9e7d is instruction 35 5 1 29 19 0 ∷
    0x2f0886dc is instruction 36 0 8 28 22 0 ∷
    0x6f3b87f6 is instruction 36 5 5 22 31 0 ∷
    0x2f088dcf is instruction 37 0 8 15 14 0 ∷
    0x6f228fba is instruction 37 5 30 26 29 0 ∷
    0x0e207bde is instruction 38 0 0 30 30 0 ∷
    0x4ee079d6 is instruction 38 6 0 22 14 0 ∷
    0x2e207a7e is instruction 39 0 0 30 19 0 ∷
    0x6ee07b19 is instruction 39 6 0 25 24 0 ∷
    0x0e7bb6bc is instruction 40 2 0 28 21 27 ∷
    0x4ebcb734 is instruction 40 5 0 20 25 28 ∷
    0x2e7cb574 is instruction 41 2 0 20 11 28 ∷
    0x6eb2b7b5 is instruction 41 5 0 21 29 18 ∷
    0x0e76d339 is instruction 42 5 0 25 25 22 ∷
    0x0eb4d31b is instruction 42 6 0 27 24 20 ∷
    0x0e7b9316 is instruction 43 5 0 22 24 27 ∷
    0x0eb59395 is instruction 43 6 0 21 28 21 ∷
    0x0e7bb3bb is instruction 44 5 0 27 29 27 ∷
    0x0eb4b33d is instruction 44 6 0 29 25 20 ∷
    0x4e7dd3ef is instruction 45 5 0 15 31 29 ∷
    0x4ebdd3d0 is instruction 45 6 0 16 30 29 ∷
    0x4e7592dd is instruction 46 5 0 29 22 21 ∷
    0x4ebb9378 is instruction 46 6 0 24 27 27 ∷
    0x4e73b39b is instruction 47 5 0 27 28 19 ∷
    0x4ebfb3ae is instruction 47 6 0 14 29 31 ∷
    0x0f7ebba2 is instruction 48 5 7 2 29 14 ∷
    0x0fb8bb35 is instruction 48 6 3 21 25 24 ∷
    0x0f753843 is instruction 49 5 7 3 2 5 ∷
    0x0fba331c is instruction 49 6 1 28 24 26 ∷
    0x0f757ab1 is instruction 50 5 7 17 21 5 ∷
    0x0f9d7add is instruction 50 6 2 29 22 29 ∷
    0x4f7bbb4d is instruction 51 5 7 13 26 11 ∷
    0x4fb8b2bd is instruction 51 6 1 29 21 24 ∷
    0x4f763a69 is instruction 52 5 7 9 19 6 ∷
    0x4f9d3bdb is instruction 52 6 2 27 30 29 ∷
    0x4f7e7b6c is instruction 53 5 7 12 27 14 ∷
    0x4fbb7b2d is instruction 53 6 3 13 25 27 ∷
    0x0e203bd6 is instruction 54 0 0 22 30 0 ∷
    0x4ee03bdf is instruction 54 6 0 31 30 0 ∷
    0x2e203b9a is instruction 55 0 0 26 28 0 ∷
    0x6ee03b1d is instruction 55 6 0 29 24 0 ∷
    0x0e317713 is instruction 56 0 0 19 24 17 ∷
    0x4eb5762f is instruction 56 5 0 15 17 21 ∷
    0x2e2a779d is instruction 57 0 0 29 28 10 ∷
    0x6eba75dd is instruction 57 5 0 29 14 26 ∷
    0x0e377ff6 is instruction 58 0 0 22 31 23 ∷
    0x4ebd7eb8 is instruction 58 5 0 24 21 29 ∷
    0x2e3a7eb0 is instruction 59 0 0 16 21 26 ∷
    0x6ebf7fb9 is instruction 59 5 0 25 29 31 ∷
    0x0e205aff is instruction 60 0 0 31 23 0 ∷
    0x4e205bba is instruction 60 1 0 26 29 0 ∷
    0x2e204bde is instruction 61 0 0 30 30 0 ∷
    0x6ea04a9d is instruction 61 5 0 29 20 0 ∷
    0x0e204b99 is instruction 62 0 0 25 28 0 ∷
    0x4ea04b75 is instruction 62 5 0 21 27 0 ∷
    0x2e605bde is instruction 63 0 0 30 30 0 ∷
    0x6e605bff is instruction 63 1 0 31 31 0 ∷
    0x0e3c4179 is instruction 64 0 0 25 11 28 ∷
    0x4ebf41b5 is instruction 64 5 0 21 13 31 ∷
    0x2e344339 is instruction 65 0 0 25 25 20 ∷
    0x6ebc43b1 is instruction 65 5 0 17 29 28 ∷
    0x0e2d623e is instruction 66 0 0 30 17 13 ∷
    0x4ebf607a is instruction 66 5 0 26 3 31 ∷
    0x2e37629f is instruction 67 0 0 31 20 23 ∷
    0x6eba60fd is instruction 67 5 0 29 7 26 ∷
    -- an element of 16 bits by each bit of its index alone, H:L:M
    0x0f51b260 is instruction 48 5 1 0 19 1 ∷
    0x0f62b020 is instruction 48 5 2 0 1 2 ∷
    0x0f40bbc6 is instruction 48 5 4 6 30 0 ∷
    0x0f523020 is instruction 49 5 1 0 1 2 ∷
    0x0f623020 is instruction 49 5 2 0 1 2 ∷
    0x0f423820 is instruction 49 5 4 0 1 2 ∷
    0x0f527020 is instruction 50 5 1 0 1 2 ∷
    0x0f627020 is instruction 50 5 2 0 1 2 ∷
    0x0f40788b is instruction 50 5 4 11 4 0 ∷
    0x4f52b020 is instruction 51 5 1 0 1 2 ∷
    0x4f62b020 is instruction 51 5 2 0 1 2 ∷
    0x4f41b8dc is instruction 51 5 4 28 6 1 ∷
    0x4f5032bb is instruction 52 5 1 27 21 0 ∷
    0x4f613116 is instruction 52 5 2 22 8 1 ∷
    0x4f423820 is instruction 52 5 4 0 1 2 ∷
    0x4f527020 is instruction 53 5 1 0 1 2 ∷
    0x4f627020 is instruction 53 5 2 0 1 2 ∷
    0x4f407999 is instruction 53 5 4 25 12 0 ∷
    []

-- words that encode none
abbrev pub others : List ℕ
others =
    0x2e205820 ∷  -- mvn v0.8b, v1.8b: RBIT with size 00
    0x2ea05820 ∷  -- RBIT with size 10
    0x0e605820 ∷  -- CNT with size 01
    0x4ee20420 ∷  -- SHADD at 2D
    0x0ee24420 ∷  -- SSHL at 1D
    0x0f005420 ∷  -- orr v0.2s, #1, lsl #16: SHL with immh 0000
    0x0f405420 ∷  -- SHL at 1D
    0x0f408420 ∷  -- SHRN from lanes of 128 bits
    0x0e22d020 ∷  -- SQDMULL with size 00
    0x0ee2d020 ∷  -- SQDMULL with size 11
    0x0e22b420 ∷  -- SQDMULH with size 00
    0x4ee2b420 ∷  -- SQDMULH with size 11
    0x0ee14820 ∷  -- SQXTN with size 11
    0x0f02b020 ∷  -- SQDMULL by an element, with size 00
    0x0fc2b020 ∷  -- SQDMULL by an element, with size 11
    0x0f42c020 ∷  -- sqdmulh v0.4h, v1.4h, v2.h[0]
    0x0e228420 ∷  -- add v0.8b, v1.8b, v2.8b
    0x0e20d420 ∷  -- fadd v0.2s, v1.2s, v0.2s
    0x5ee24420 ∷  -- sshl d0, d1, d2
    0x8e224420 ∷  -- SSHL with bit 31 set
    0x0e024420 ∷  -- SSHL with bit 21 clear
    0xd65f03c0 ∷  -- ret
    0x00000000 ∷  -- udf #0
    []

-- ---- the theorem, which proofs/Samples.antt computes

abbrev pub is_record : Option Instruction → Instruction → Bool
is_record (Some c) e =
    eqb c.operation e.operation && eqb c.arrangement e.arrangement && eqb c.i e.i && eqb c.d e.d && eqb c.n e.n && eqb c.m e.m
is_record None e = false

abbrev pub is_nothing : Option Instruction → Bool
is_nothing (Some c) = false
is_nothing None = true

-- each record has that word, and each word that record
unfoldable pub both_ways : List Sample → Bool
both_ways [] = true
both_ways (s ∷ ss) = eqb (encode s.record_is) s.word && is_record (decode s.word) s.record_is && both_ways ss

unfoldable pub none_of_ours : List ℕ → Bool
none_of_ours [] = true
none_of_ours (w ∷ ws) = is_nothing (decode w) && none_of_ours ws

abbrev pub SamplesHold : Type 0
SamplesHold = (both_ways samples ≡ true) × (none_of_ours others ≡ true)
