-- The test and the subject apart.
use Rattle.std.proofs.Common.{[], ◌∷◌, ◌++◌, Some, ap, ◌∙◌, option_map}
use Rattle.std.specs.Prelude.{codes, option_copied}
use Rattle.sch_flat.specs.FlatDocument.{assertion_name, element}
use Rattle.sch_texts.specs.Ids.{id_list}
use Rattle.sch_flat.specs.FlatSize.{size_of}
use Rattle.sch_flat.proofs.KnownLemmas.{blank_is, known, known_optional}
use Rattle.sch_flat.proofs.known_sizes.assertion_size.Goals as goal

pub returns : goal.returns
returns c = λ value subject events is also held.
    let assertion = c.args.assertion.now in
    let before = (codes "id", assertion.id) ∷ [] in
    let last =
    (codes "role", assertion.role)
    ∷ (codes "flag", assertion.flag)
    ∷ (codes "diagnostics", id_list assertion.diagnostics)
    ∷ (codes "properties", id_list assertion.properties) ∷ [] in
    let after = (codes "subject", option_map (λ _. []) subject) ∷ last in
    let blank = c.blank.ensures ∙ blank_is c.args.subject_len subject also in
    known_optional (assertion_name assertion.report) (codes "subject") subject (before ++ (codes "test", Some value) ∷ []) last events _ _ _ _ _
    also c.unwrap_or.ensures
    (known (assertion_name assertion.report) (codes "test") value before after events _ _ _ _
    is
    (c.element_size.ensures events held
    ∙ ap (λ name. size_of (element name (before ++ (codes "test", Some []) ∷ (codes "subject", option_copied c.blank.result) ∷ last) events)) c.name_of.ensures
    ∙ ap (λ its. size_of (element (assertion_name assertion.report) (before ++ (codes "test", Some []) ∷ (codes "subject", its) ∷ last) events)) blank)
    c.text_size.ensures c.plus.ensures)
    c.text_size-2.ensures c.plus-2.ensures
