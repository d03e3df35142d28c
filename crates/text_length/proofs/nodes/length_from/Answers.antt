-- `text_length::nodes::length_from` meets its contract: the nodes before one that is ready are ready
use native.Mathlib.Omega.{arith}
use Rattle.text_length.proofs.Kept.{ready-to}
use Rattle.text_length.proofs.nodes.length_from.Goals as goal

pub known_length-requires-clause-ready : goal.known_length-requires-clause-ready
known_length-requires-clause-ready c = ready-to (omega arith) c.requires.ready
