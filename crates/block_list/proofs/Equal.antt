-- Demand 3, of every answer, pool and map that the lowering of a list of records can leave. Assumes nothing.
use Rattle.block.proofs.Equal as block
use Rattle.block_list.specs.Lent.{answer}
use Rattle.block_list.specs.Demand.{RegistersHold, EqualWhenTermsAre, RefusedWhole, RegistersFit}

pub registers-hold : RegistersHold
registers-hold old cs new a m h z = block.registers-hold old cs new (answer a m) h z

pub equal-when-terms-are : EqualWhenTermsAre
equal-when-terms-are old cs new a m h z old' cs' new' a' m' h' z' =
    block.equal-when-terms-are old cs new (answer a m) h z old' cs' new' (answer a' m') h' z'

pub refused-whole : RefusedWhole
refused-whole old cs new a m h = block.refused-whole old cs new (answer a m) h

pub registers-fit : RegistersFit
registers-fit old cs new a m h z = block.registers-fit old cs new (answer a m) h z
