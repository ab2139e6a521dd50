use Rattle.std.proofs.Common.{◌∙◌, ap, sym}
use Rattle.doc_tree.specs.cell.Cell.TheVariants.{Name}
use Rattle.xp_outcome.specs.Evaluation.{all_reading, cell, done}
use Rattle.xp_outcome.proofs.Runs.{ran_alike, ran_done}
use Rattle.xslt_match.proofs.NameReads.{added, name-alone, no-name, no_reads}
use Rattle.xslt_match.proofs.names.read_name.Goals as goal

pub returns-then-not-has_principal : goal.returns-then-not-has_principal
returns-then-not-has_principal c = λ count.
    ran_alike (ap (λ rs. all_reading rs (done tt)) (no-name c.args.tree.now.nodes c.args.axis c.args.m (sym c.has_principal.ensures ∙ c.if-not-has_principal.true)) ∙ no_reads (done tt))
    (ran_done tt _ _)

pub returns : goal.returns
returns c =
    added (cell (Name c.args.m)) _ c.add.result (name-alone c.args.tree.now.nodes c.args.axis c.args.m (sym c.has_principal.ensures ∙ c.if-not-has_principal.false))
    c.add.ensures.noted c.add.ensures.unchanged
