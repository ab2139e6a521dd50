-- A node more, under the innermost element.
use Rattle.std.proofs.Common.{refl}
use Rattle.name_scopes.proofs.StepLemmas.{builds-receives}
use Rattle.name_scopes.proofs.LeafLemmas.{leaf-fits}
use Rattle.name_scopes.proofs.PieceSteps.{leaf-few, leaf-little, put-leaf}
use Rattle.name_scopes.proofs.build.Loader.put_leaf.Goals as goal

pub append_leaf-requires-clause-receives : goal.append_leaf-requires-clause-receives
append_leaf-requires-clause-receives c =
    let r = c.requires.ready in
    builds-receives r.0 r.1.0 r.1.1.0 r.1.1.1.0 c.args.self.now.tree.nodes c.args.self.now.place r.1.1.1.1.0.builds

pub append_leaf-requires-clause-fits : goal.append_leaf-requires-clause-fits
append_leaf-requires-clause-fits c =
    let r = c.requires.ready in
    leaf-fits r.0 r.1.0 r.1.1.0 r.1.1.1.0 c.args.self.now.tree.nodes c.args.self.now.place r.1.1.1.1.0.builds c.args.event.now c.requires.leaf r.1.1.1.1.1.fits

pub append_leaf-requires-clause-room : goal.append_leaf-requires-clause-room
append_leaf-requires-clause-room c =
    let r = c.requires.ready in
    leaf-few r.0 r.1.0 r.1.1.0 r.1.1.1.0 c.args.self.now r.1.1.1.1.0 c.args.event.now c.requires.leaf r.1.1.1.1.1

pub append_leaf-requires-clause-little : goal.append_leaf-requires-clause-little
append_leaf-requires-clause-little c =
    let r = c.requires.ready in
    leaf-little r.0 r.1.0 r.1.1.0 r.1.1.1.0 c.args.self.now r.1.1.1.1.0 c.args.event.now c.requires.leaf r.1.1.1.1.1

pub returns : goal.returns
returns c = λ around taken place standing loads comes.
    put-leaf around taken place standing c.args.self.now loads c.args.event.now c.requires.leaf comes _ c.in_ok-append_leaf.field-0 c.laws.ensures.ways_up c.laws.ensures.well_formed c.laws.ensures.scopes c.in_ok-append_leaf.ensures refl refl
