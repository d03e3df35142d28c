use Rattle.std.proofs.Common.{◌≡◌, ◌+◌}
use lib.Seq.{sets}
use Rattle.pool.specs.Node.{wide}
use Rattle.script_meaning.specs.Script.{binary}
use Rattle.script_text.proofs.term.put_binary.Given as goal

-- the digits of the k low bits are still to be written
abbrev pub invariant-loop-k : goal.invariant-loop-k
invariant-loop-k l = record {
  rest : sets l.buf l.i (binary l.k (wide l.low l.high)) ≡ sets l.fn.buf l.at (binary l.width (wide l.low l.high));
  place : l.i + l.k ≡ l.at + l.width;
}
