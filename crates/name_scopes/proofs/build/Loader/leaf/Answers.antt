-- A node more, under the innermost element.
use Rattle.std.proofs.Common.{refl, arith, [], length}
use Rattle.std.proofs.lemmas.Bool.{le-leb, lt-leb}
use Rattle.doc_tree.specs.limits.TheConstants.{MAX_LIVE_NODES}
use Rattle.doc_tree.specs.Walks.{order}
use Rattle.name_scopes.proofs.StepLemmas.{builds-receives}
use Rattle.name_scopes.proofs.LeafLemmas.{leaf-fits, leaf-full, leaf-bytes, leaf-room, loads-leaf}
use Rattle.name_scopes.proofs.build.Loader.leaf.Goals as goal

pub returns-then-live_nodes-ge-MAX_LIVE_NODES : goal.returns-then-live_nodes-ge-MAX_LIVE_NODES
returns-then-live_nodes-ge-MAX_LIVE_NODES c = λ taken place standing loads comes.
    leaf-full [] taken place standing c.args.self.now.tree.nodes c.args.self.now.place loads.builds c.args.event.now c.requires.leaf
    (le-leb MAX_LIVE_NODES (length (order c.args.self.now.tree.nodes)) (omega (arith, c.live_nodes.ensures)))

pub append_leaf-requires-clause-receives : goal.append_leaf-requires-clause-receives
append_leaf-requires-clause-receives c =
    builds-receives [] c.requires.ready.0 c.requires.ready.1.0 c.requires.ready.1.1.0 c.args.self.now.tree.nodes c.args.self.now.place c.requires.ready.1.1.1.0.builds

pub append_leaf-requires-clause-fits : goal.append_leaf-requires-clause-fits
append_leaf-requires-clause-fits c =
    leaf-fits [] c.requires.ready.0 c.requires.ready.1.0 c.requires.ready.1.1.0 c.args.self.now.tree.nodes c.args.self.now.place c.requires.ready.1.1.1.0.builds c.args.event.now c.requires.leaf c.requires.ready.1.1.1.1.fits

pub append_leaf-requires-clause-room : goal.append_leaf-requires-clause-room
append_leaf-requires-clause-room c = lt-leb MAX_LIVE_NODES (length (order c.args.self.now.tree.nodes)) (omega (arith, c.live_nodes.ensures))

pub append_leaf-requires-clause-little : goal.append_leaf-requires-clause-little
append_leaf-requires-clause-little c =
    omega (arith, c.requires.ready.1.1.1.0.builds.tells.little, c.requires.ready.1.1.1.1.little, leaf-bytes c.args.event.now c.requires.leaf)

pub returns : goal.returns
returns c = λ taken place standing loads comes. (
  leaf-room [] taken place standing c.args.self.now.tree.nodes c.args.self.now.place loads.builds c.args.event.now c.requires.leaf
      (lt-leb MAX_LIVE_NODES (length (order c.args.self.now.tree.nodes)) (omega (arith, c.live_nodes.ensures))),
  loads-leaf taken place standing c.args.self.now _ c.in_ok-append_leaf.field-0 c.args.event.now c.requires.leaf comes.fits c.laws.ensures.ways_up c.laws.ensures.well_formed c.laws.ensures.scopes
      c.in_ok-append_leaf.ensures refl refl loads,
)
