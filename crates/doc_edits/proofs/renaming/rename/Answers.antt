-- Names grow by the new one at most.
use Rattle.std.proofs.Common.{◌∙◌}
use Rattle.doc_edits.proofs.NamingLemmas.{names-grow}
use Rattle.doc_edits.proofs.renaming.rename.Goals as goal

pub returns-clause-names : goal.returns-clause-names
returns-clause-names c =
    let grown = names-grow _ _ _ _ c.in_ok-name.ensures.numbered in
    (grown.0, c.put_name.ensures.names ∙ grown.1)
