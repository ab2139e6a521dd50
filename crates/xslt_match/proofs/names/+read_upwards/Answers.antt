use Rattle.std.proofs.Common.{◌∙◌, ap, map, sym}
use Rattle.xp_outcome.specs.Cells.{names_on}
use Rattle.xp_outcome.specs.Evaluation.{all_reading, cell, done}
use Rattle.xp_outcome.specs.Running.{no_memory}
use Rattle.xp_outcome.proofs.Runs.{ran_alike, ran_done}
use Rattle.xp_meaning.proofs.Exits.{exit_alloc}
use Rattle.xslt_match.proofs.NameReads.{no_reads, read_err, read_ok, upwards}
use Rattle.xslt_match.proofs.names.+read_upwards.Goals as goal

pub returns-in_err-read_name : goal.returns-in_err-read_name
returns-in_err-read_name t c = λ count.
    exit_alloc _ c.from_residual.result c.from_residual.ensures.1
    (ran_alike (upwards c.args.tree.now.nodes c.args.axis c.args.m) (read_err _ tt _ no_memory (c.in_err-read_name.ensures count)))

pub returns-in-Some : goal.returns-in-Some
returns-in-Some t c = λ count.
    let T = c.args.tree.now.nodes in
    let above_it = c.laws.ensures.ways_up.ancestors_at c.args.m c.in-Some.parent (sym c.parent.ensures ∙ c.in-Some.is) in
    ran_alike (upwards T c.args.axis c.args.m)
    (read_ok _ tt _ (c.in_ok-read_name.ensures count)
    (ran_alike (ap (λ ns. all_reading (map cell (names_on T c.args.axis ns)) (done tt)) above_it) (c.read_upwards.ensures count)))

pub returns-in-None : goal.returns-in-None
returns-in-None t c = λ count.
    let T = c.args.tree.now.nodes in
    let none = c.laws.ensures.ways_up.no_ancestors c.args.m (sym c.parent.ensures ∙ c.in-None.is) in
    ran_alike (upwards T c.args.axis c.args.m)
    (read_ok _ tt _ (c.in_ok-read_name.ensures count)
    (ran_alike (ap (λ ns. all_reading (map cell (names_on T c.args.axis ns)) (done tt)) none ∙ no_reads (done tt)) (ran_done tt _ _)))
