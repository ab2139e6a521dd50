-- The context and the subject apart.
use Rattle.std.proofs.Common.{[], ◌∷◌, ◌++◌, Some, ap, ◌∙◌, option_map}
use Rattle.std.specs.Prelude.{codes}
use Rattle.sch_flat.specs.FlatDocument.{element}
use Rattle.sch_flat.specs.FlatSize.{size_of}
use Rattle.sch_flat.proofs.KnownLemmas.{blank_is, known, known_optional}
use Rattle.sch_flat.proofs.known_sizes.rule_size.Goals as goal

pub returns : goal.returns
returns c = λ value subject events is also held.
    let labels = c.args.labels in
    let before = (codes "id", labels.id.now) ∷ [] in
    let last = (codes "role", labels.role.now) ∷ (codes "flag", labels.flag.now) ∷ [] in
    let after = (codes "subject", option_map (λ _. []) subject) ∷ last in
    let blank = c.blank.ensures ∙ blank_is c.args.subject_len subject also in
    known_optional (codes "sch:rule") (codes "subject") subject (before ++ (codes "context", Some value) ∷ []) last events _ _ _ _ _
    also c.unwrap_or.ensures
    (known (codes "sch:rule") (codes "context") value before after events _ _ _ _
    is
    (c.element_size.ensures events held
    ∙ ap (λ its. size_of (element (codes "sch:rule") (before ++ (codes "context", Some []) ∷ (codes "subject", its) ∷ last) events)) blank)
    c.text_size.ensures c.plus.ensures)
    c.text_size-2.ensures c.plus-2.ensures
