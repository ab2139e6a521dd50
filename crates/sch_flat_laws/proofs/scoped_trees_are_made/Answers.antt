-- By what stands at each node.
use Rattle.doc_tree.specs.Scope.{Decl, scope_at}
use Rattle.doc_tree.specs.Table.{Content, root, element, attribute, text, comment, instruction, content_of}
use Rattle.std.proofs.Common.{List, Option, None, Some}
use Rattle.name_scopes.specs.Scoping.{ContentInScope}
use Rattle.sch_flat_laws.specs.Accepted.{MadeContent}
use Rattle.sch_flat_laws.proofs.scoped_trees_are_made.Goals as goal

made-content : (scope : List Decl) (content : Option Content) → ContentInScope scope content → MadeContent content
made-content scope None here = tt
made-content scope (Some root) here = tt
made-content scope (Some (element its decls)) here = tt
made-content scope (Some (attribute its value)) here = here.made
made-content scope (Some (text characters)) here = here
made-content scope (Some (comment characters)) here = here
made-content scope (Some (instruction its body)) here = here.made

pub returns : goal.returns
returns c = λ T in_scope n. made-content (scope_at T n) (content_of T n) (in_scope n)
