use Rattle.std.proofs.Common.{◌∙◌, sym}
use Rattle.xp_typed_tree.specs.TypedView.{pattern_step_seen}
use Rattle.xp_outcome.specs.Evaluation.{done}
use Rattle.xp_outcome.proofs.Runs.{ran_alike, ran_done}
use Rattle.xslt_match.specs.Names.{places_from}
use Rattle.xslt_match.proofs.NameReads.{names_looked_at, no_names_looked_at}
use Rattle.xslt_match.proofs.names.Standing.read_names.Goals as goal

pub returns-then-is_by_name : goal.returns-then-is_by_name
returns-then-is_by_name c = λ count.
    let T = c.args.tree.now.nodes in
    let step = pattern_step_seen c.args.step.now in
    let places = places_from T c.args.self.now.higher c.args.self.now.node in
    ran_alike (names_looked_at T step.axis step.test places (done tt) (sym c.is_by_name.ensures ∙ c.if-is_by_name.true)) (c.read_places.ensures count)

pub returns-else-is_by_name : goal.returns-else-is_by_name
returns-else-is_by_name c = λ count.
    let T = c.args.tree.now.nodes in
    let step = pattern_step_seen c.args.step.now in
    let places = places_from T c.args.self.now.higher c.args.self.now.node in
    ran_alike (no_names_looked_at T step.axis step.test places (done tt) (sym c.is_by_name.ensures ∙ c.if-is_by_name.false)) (ran_done tt _ _)
