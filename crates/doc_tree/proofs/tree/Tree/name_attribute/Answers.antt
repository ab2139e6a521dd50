-- The namespace is the one that was copied.
use Rattle.std.proofs.Common.{◌≡◌, ℕ, List, sym, ap, ◌∙◌, subst}
use Rattle.doc_table.specs.Table.{Contents, Name}
use Rattle.doc_edits.specs.Changes.{renamed}
use Rattle.doc_edits.specs.Fitting.{MayRename}
use Rattle.doc_tree.specs.Scope.{namespace_or_none}
use Rattle.doc_tree.proofs.tree.Tree.name_attribute.Goals as goal

uri-is : (c : goal.After-as_str) → c.as_str.result.now ≡ namespace_or_none c.args.self.now.nodes c.args.n c.args.prefix.now
uri-is c = c.as_str.ensures ∙ (c.in_ok-uri.ensures ∙ c.attribute_uri.ensures)

pub rename-requires-clause-may : goal.rename-requires-clause-may
rename-requires-clause-may c =
    let given : List ℕ → Name = λ uri. record { prefix = c.args.prefix.now; local = c.args.local.now; uri = uri } in
    subst (λ (t : Contents). MayRename t.nodes c.args.a (given c.as_str.result.now)) (sym c.self.view_is)
    (subst (λ (uri : List ℕ). MayRename c.args.self.now.nodes c.args.a (given uri)) (sym (uri-is c)) c.requires)

pub returns-clause-renamed : goal.returns-clause-renamed
returns-clause-renamed c =
    let given : List ℕ → Name = λ uri. record { prefix = c.args.prefix.now; local = c.args.local.now; uri = uri } in
    c.in_ok-rename.ensures.renamed
    ∙ (ap (λ (t : Contents). renamed t.nodes c.args.a (given c.as_str.result.now)) c.self.view_is
    ∙ ap (λ (uri : List ℕ). renamed c.args.self.now.nodes c.args.a (given uri)) (c.as_str.ensures ∙ (c.in_ok-uri.ensures ∙ c.attribute_uri.ensures)))
