-- No legal record adds more than 768 nodes: record_nodes is 764. Assumes nothing.
use native.Mathlib.Omega.{arith}
use Rattle.block_record.specs.Bound.{RecordAdds}

pub record-adds : RecordAdds
record-adds old m new m' c l s = omega (arith, s.most)
