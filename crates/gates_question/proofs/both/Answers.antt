use Rattle.gates_question.proofs.Build.{both-made}
use Rattle.gates_question.proofs.both.Goals as goal

pub returns : goal.returns
returns c = both-made c.requires c.nodes-made.ensures c.nodes.ensures
