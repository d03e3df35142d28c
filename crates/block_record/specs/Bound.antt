-- The nodes of one record: one bound for all legal forms together (document 02, S-9).
use Rattle.std.specs.Prelude.{List, ℕ, ◌+◌, ◌≤◌}
use Rattle.neon.specs.declared.Instruction.{Instruction}
use Rattle.neon.specs.Refusal.{Legal}
use Rattle.block_map.specs.declared.RegisterMap.{RegisterMap}
use Rattle.block_record.specs.Step.{Steps}

-- no legal record adds more than 768 nodes, its reads of registers and the widening of its result among them, whatever the pool holds
abbrev pub RecordAdds : Type 0
RecordAdds =
    (old : List ℕ) (m : RegisterMap) (new : List ℕ) (m' : RegisterMap) (c : Instruction) → Legal c → Steps old m new m' c → m'.count ≤ m.count + 768
