-- Expressions that are watched over a tree: the tree as it stands, and what is kept of each.
use Rattle.std.specs.Prelude.{List}
use Rattle.doc_tree.specs.Table.{Contents}
use Rattle.xp_typed_tree.specs.TypedTree.{TypedTree}
use Rattle.xp_watch.specs.Kept.{Kept}

pub record Watching : Type 0 where
  pub tree : Contents
  pub expressions : List TypedTree
  pub kept : Kept
