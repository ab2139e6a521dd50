use Rattle.std.proofs.Common.{◌∙◌, ap, map}
use Rattle.xp_outcome.specs.Cells.{names_on}
use Rattle.xp_outcome.specs.Evaluation.{all_reading, cell, done}
use Rattle.xp_outcome.proofs.Runs.{ran_alike, ran_done}
use Rattle.xslt_match.specs.Names.{places_from}
use Rattle.xslt_match.proofs.NameReads.{no_reads}
use Rattle.xslt_match.proofs.names.Standing.read_places.Goals as goal

pub returns-in-Some : goal.returns-in-Some
returns-in-Some c = λ count.
    let T = c.args.tree.now.nodes in
    ran_alike (ap (λ o. all_reading (map cell (names_on T c.args.axis (places_from T c.args.self.now.higher o))) (done tt)) c.in-Some.is) (c.read_from.ensures count)

pub returns-in-None : goal.returns-in-None
returns-in-None c = λ count.
    let T = c.args.tree.now.nodes in
    ran_alike
    (ap (λ o. all_reading (map cell (names_on T c.args.axis (places_from T c.args.self.now.higher o))) (done tt)) c.in-None.is ∙ no_reads (done tt))
    (ran_done tt _ _)
