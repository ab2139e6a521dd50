-- The nearest declaration stands at the node, or it is the nearest one from its parent.
use Rattle.std.proofs.Common.{◌≡◌, sym, ap, ◌∙◌, None, Some}
use Rattle.std.specs.List.{flat_map}
use Rattle.std.specs.Option.{option_copied}
use Rattle.doc_table.specs.Table.{decls_of}
use Rattle.doc_table.specs.Walks.{ancestors}
use Rattle.doc_tree.specs.Scope.{first_declared, scope_at}
use Rattle.doc_tree.proofs.ScopeLemmas.{first-in, first-behind}
use Rattle.doc_tree.proofs.tree.Tree.+nearest.Goals as goal

pub returns-in-Some : goal.returns-in-Some
returns-in-Some t c =
    let found : first_declared (decls_of c.args.self.now.nodes c.args.n) c.args.prefix.now ≡ Some c.in-Some.uri.now =
    ap (λ l. first_declared l c.args.prefix.now) (sym c.decls.ensures) ∙ (sym c.declared.ensures ∙ ap option_copied c.in-Some.is) in
    sym (first-in (decls_of c.args.self.now.nodes c.args.n) (flat_map (decls_of c.args.self.now.nodes) (ancestors c.args.self.now.nodes c.args.n)) c.args.prefix.now c.in-Some.uri.now found)

pub returns-in-Some-parent : goal.returns-in-Some-parent
returns-in-Some-parent t c =
    let none : first_declared (decls_of c.args.self.now.nodes c.args.n) c.args.prefix.now ≡ None =
    ap (λ l. first_declared l c.args.prefix.now) (sym c.decls.ensures) ∙ (sym c.declared.ensures ∙ ap option_copied c.in_default.is) in
    c.nearest.ensures
    ∙ (sym (first-behind (decls_of c.args.self.now.nodes c.args.n) (scope_at c.args.self.now.nodes c.in-Some-parent.parent) c.args.prefix.now none)
    ∙ ap (λ l. first_declared l c.args.prefix.now) (sym (c.laws.ensures.scopes.under c.args.n c.in-Some-parent.parent (sym c.parent.ensures ∙ c.in-Some-parent.is))))
