-- The document of the expansion is read again, by itself.
use Rattle.sch_cli_laws.proofs.WholeSchemas.{expansions-stay, validate-alike}
use Rattle.sch_cli_laws.proofs.laws.whole_schemas_stay.Goals as goal

pub returns : goal.returns
returns c = record {
  expand = expansions-stay c.documents_have_trees.ensures c.one_inclusion.ensures c.scoped_trees_are_made.ensures c.expansions_are_documents.ensures
      c.expansion_is_accepted_again.ensures c.flat_texts_have_no_fault.ensures c.plans_need_no_places.ensures;
  validate = validate-alike c.documents_have_trees.ensures c.one_inclusion.ensures c.scoped_trees_are_made.ensures c.expansions_are_documents.ensures
      c.expansion_is_accepted_again.ensures c.flat_texts_have_no_fault.ensures c.plans_need_no_places.ensures;
}
