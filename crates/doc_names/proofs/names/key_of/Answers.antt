-- Each word is given its number while the words grow.
use Rattle.doc_names.proofs.NameLemmas.{key-of, extends-same, extends-then, numbered-extends}
use Rattle.doc_names.proofs.names.key_of.Goals as goal

pub returns-in_err-prefix_number-clause-extended : goal.returns-in_err-prefix_number-clause-extended
returns-in_err-prefix_number-clause-extended c = extends-same _ _ c.in_err-prefix_number.ensures.unchanged

pub returns-in_err-local_number-clause-extended : goal.returns-in_err-local_number-clause-extended
returns-in_err-local_number-clause-extended c =
    extends-then _ _ _ (numbered-extends _ _ _ _ c.in_ok-prefix_number.ensures.numbered)
    (extends-same _ _ c.in_err-local_number.ensures.unchanged)

pub returns-in_err-uri_number-clause-extended : goal.returns-in_err-uri_number-clause-extended
returns-in_err-uri_number-clause-extended c =
    extends-then _ _ _ (numbered-extends _ _ _ _ c.in_ok-prefix_number.ensures.numbered)
    (extends-then _ _ _ (numbered-extends _ _ _ _ c.in_ok-local_number.ensures.numbered)
    (extends-same _ _ c.in_err-uri_number.ensures.unchanged))

pub returns-clause-spells : goal.returns-clause-spells
returns-clause-spells c =
    key-of _ _ _ _ _ _ _ _ _ _ c.in_ok-prefix_number.ensures.numbered c.in_ok-local_number.ensures.numbered
    c.in_ok-uri_number.ensures.numbered

pub returns-clause-extended : goal.returns-clause-extended
returns-clause-extended c =
    extends-then _ _ _ (numbered-extends _ _ _ _ c.in_ok-prefix_number.ensures.numbered)
    (extends-then _ _ _ (numbered-extends _ _ _ _ c.in_ok-local_number.ensures.numbered)
    (numbered-extends _ _ _ _ c.in_ok-uri_number.ensures.numbered))
