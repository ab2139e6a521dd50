-- A script is followed with undos or without.
use Rattle.std.proofs.Common.{◌∙◌, ap}
use Rattle.doc_tree.specs.Kinds.{is_document}
use Rattle.doc_tree.specs.Table.{Contents}
use Rattle.sch_commands.specs.Telling.{by_plan}
use Rattle.sch_commands.proofs.following.follow_session.Goals as goal

pub write_states-requires-clause-costs : goal.write_states-requires-clause-costs
write_states-requires-clause-costs g c = rw c.tree.ensures at (c.script_has_cost.ensures (by_plan c.args.session.plan))

pub script_has_cost-requires-clause-document : goal.script_has_cost-requires-clause-document
script_has_cost-requires-clause-document g c = ap (λ (tree : Contents). is_document tree.nodes) c.tree.ensures ∙ c.laws.ensures.document
