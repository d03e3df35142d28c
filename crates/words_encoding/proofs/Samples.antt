-- The sample words are computed to hold. Assumes nothing.
use mathlib.Core.Path.{refl}
use Rattle.neon.specs.Op.{op_at, operations, arrangement_at, arrangements}
use Rattle.neon.specs.Refusal.{record_number}
use Rattle.words_encoding.specs.Word.{encode_of}
use Rattle.words_encoding.specs.Decode.{operation_of, operation_at, fields_of, decode}
use Rattle.words_encoding.specs.Samples.{both_ways, none_of_ours, SamplesHold}

pub samples-hold : SamplesHold
unfolding both_ways none_of_ours encode_of decode fields_of operation_at operation_of record_number op_at operations arrangement_at arrangements
samples-hold = (refl, refl)
