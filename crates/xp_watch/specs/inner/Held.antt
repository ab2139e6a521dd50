-- What a watch keeps: its tree is a document with the pair cap of a lone tree, each expression has its places, and what is kept is right.
use Rattle.std.specs.Prelude.{◌≡◌, true}
use Rattle.doc_tree.specs.Kinds.{is_document}
use Rattle.doc_tree.specs.limits.TheConstants.{MAX_LIVE_NODES}
use Rattle.xp_watch.specs.declared.kept.KeptWatches.{KeptWatches}
use Rattle.xp_watch.specs.declared.watch.Watch.TheInside.{Inside}
use Rattle.xp_watch.specs.Kept.{Kept}
use Rattle.xp_watch.specs.inner.Refreshing.{Keeps}
use Rattle.xp_watch.specs.Watching.{Watching}

-- what is kept, place by place
abbrev pub held_by : KeptWatches → Kept
held_by kept = record { values = kept.values.items; reads = kept.reads.entries }

abbrev pub watching : Inside → Watching
watching watch = record { tree = watch.tree; expressions = watch.list; kept = held_by watch.kept }

pub record Stands (watch : Inside) : Type 0 where
  pub document : is_document watch.tree.nodes ≡ true
  pub cap : watch.tree.pair_cap ≡ MAX_LIVE_NODES
  pub keeps : Keeps watch.tree.nodes watch.list (held_by watch.kept)
