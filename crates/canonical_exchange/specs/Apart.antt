-- Two neighbouring instructions that may be exchanged (document 02, S-13): neither writes a register that the other reads or writes.
use Rattle.std.specs.Prelude.{Bool, ◌&&◌, ◌||◌, not, ℕ, eqb}
use Rattle.neon.specs.declared.Instruction.{Instruction}
use Rattle.neon.specs.Op.{op_at, arrangement_at}
use Rattle.neon.specs.Form.{has_second, reads_d}

-- whether a record reads register r: n, m if there is a second source, and d if the form reads it
abbrev pub reads_register : Instruction → ℕ → Bool
reads_register c r =
    let o = op_at c.operation in
    eqb r c.n || (has_second o && eqb r c.m || reads_d o (arrangement_at c.arrangement) && eqb r c.d)

abbrev pub apart : Instruction → Instruction → Bool
apart a b = not (eqb a.d b.d) && (not (reads_register a b.d) && not (reads_register b a.d))
