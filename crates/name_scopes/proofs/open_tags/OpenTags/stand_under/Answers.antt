-- The declarations around the fragment are counted.
use Rattle.std.proofs.Common.{◌≡◌, ◌++◌, [], List, length, ap, ◌∙◌, append-nil}
use Rattle.doc_tree.specs.Scope.{Decl, scope_at}
use Rattle.name_scopes.proofs.PieceTests.{stands-start}
use Rattle.name_scopes.proofs.open_tags.OpenTags.stand_under.Goals as goal

pub returns : goal.returns
returns c =
    let around : List Decl = scope_at c.args.tree.now.nodes c.args.parent in
    let counted : c.len.result ≡ length around =
    c.len.ensures ∙ ap (λ (l : List Decl). length l) (c.in_ok-declare_above.ensures ∙ (ap (λ (l : List Decl). around ++ l) c.requires.scope_is ∙ append-nil around)) in
    stands-start [] c.args.self.now _ c.requires around c.len.result c.in_ok-declare_above.ensures c.in_ok-push.ensures.items counted
