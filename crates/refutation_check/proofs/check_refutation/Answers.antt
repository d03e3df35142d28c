use Rattle.std.proofs.Common.{sym, ◌∙◌, arith}
use Rattle.refutation_check.proofs.Answers.{count_fits}
use Rattle.refutation_check.proofs.check_refutation.Goals as goal

pub overflow_add-variables : goal.overflow_add-variables
overflow_add-variables c = omega (arith, count_fits c.args.graph.now c.args.count (sym c.graph_check.ensures ∙ c.if-not-graph_check.false), c.well_formed)

pub overflow_mul-limit : goal.overflow_mul-limit
overflow_mul-limit c = omega (arith, count_fits c.args.graph.now c.args.count (sym c.graph_check.ensures ∙ c.if-not-graph_check.false), c.well_formed)
