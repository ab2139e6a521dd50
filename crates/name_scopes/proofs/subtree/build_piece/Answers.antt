-- An element, or one event alone.
use Rattle.std.proofs.Common.{◌≡◌, ◌∷◌, [], List, subst, sym, ap, ◌∙◌, false}
use Rattle.std.specs.Prelude.{IfOk, Result, Ok, Err}
use Rattle.pyx_core.specs.declared.event.Event.{Event}
use Rattle.doc_tree.specs.Scope.{Decl, scope_at}
use Rattle.doc_tree.specs.Table.{Contents}
use Rattle.name_scopes.specs.inner.Piece.{IsPiece, is_start}
use Rattle.name_scopes.proofs.PieceFront.{alone, same-first}
use Rattle.name_scopes.proofs.subtree.build_piece.Goals as goal

answered : {E : Type 0} (r : Result Contents E) (around : List Decl) (e : Event) (events : List Event) → events ≡ e ∷ [] → IfOk r (λ piece. (a : List Decl) → IsPiece a (e ∷ []) piece.nodes) → IfOk r (λ piece. IsPiece around events piece.nodes)
answered (Ok piece) around e events is h = subst (λ (l : List Event). IsPiece around l piece.nodes) (sym is) (h around)
answered (Err x) around e events is h = tt

pub returns-else-is_start : goal.returns-else-is_start
returns-else-is_start c =
    let same : c.index-events-0-else-is_start.result ≡ c.index-events-0.result =
    same-first (scope_at c.args.tree.now.nodes c.args.parent) c.args.events.now c.requires c.index-events-0-else-is_start.result c.index-events-0.result c.index-events-0-else-is_start.is c.index-events-0.is in
    let no_start : is_start c.index-events-0-else-is_start.result ≡ false = ap is_start same ∙ (sym c.is_start.ensures ∙ c.if-is_start.false) in
    answered c.load_leaf.result (scope_at c.args.tree.now.nodes c.args.parent) c.index-events-0-else-is_start.result c.args.events.now
    (alone (scope_at c.args.tree.now.nodes c.args.parent) c.args.events.now c.requires c.index-events-0-else-is_start.result c.index-events-0-else-is_start.is no_start) c.load_leaf.ensures
