-- By what a watch keeps.
use Rattle.std.proofs.Common.{◌≡◌, ◌⊎◌, ◌≤◌, true, length, Some, IfSome, subst}
use Rattle.std.specs.Prelude.{◌↔◌, IsNone, slice_get}
use Rattle.xp_typed_tree.specs.TypedTree.{TypedTree}
use Rattle.xp_watch.specs.Kept.{is_stale}
use Rattle.xp_watch.specs.Watched.{watched}
use Rattle.xp_watch.specs.Watching.{Watching}
use Rattle.xp_watch.specs.inner.Held.{held_by}
use Rattle.xp_watch.proofs.WatchLemmas.{value_none, value_watched}
use Rattle.xp_watch.proofs.watch.Watch.value.Goals as goal

pub returns-clause-none : goal.returns-clause-none
returns-clause-none c =
    let inside = c.self.inside in
    subst (λ (s : Watching). IsNone c.value.result ↔ ((length s.expressions ≤ c.args.k) ⊎ (is_stale s.kept c.args.k ≡ true))) c.self.view_is
    (value_none inside.tree.nodes inside.list (held_by inside.kept) c.self.invariant.keeps c.args.k c.value.result c.value.ensures)

pub returns-clause-watched : goal.returns-clause-watched
returns-clause-watched c =
    let inside = c.self.inside in
    subst (λ (s : Watching). IfSome c.value.result (λ given. (expr : TypedTree) → slice_get s.expressions c.args.k ≡ Some expr →
    given.now ≡ (watched s.tree.nodes expr).answer)) c.self.view_is
    (value_watched inside.tree.nodes inside.list (held_by inside.kept) c.self.invariant.keeps c.args.k c.value.result c.value.ensures)
