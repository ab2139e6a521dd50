-- Each event leads the tree on.
use Rattle.std.proofs.Common.{[], refl}
use Rattle.name_scopes.proofs.LeafLemmas.{some-parent, loads-end}
use Rattle.name_scopes.proofs.build.Loader.take.Goals as goal

pub end-requires : goal.end-requires
end-requires c =
    let ready = rw c.in-End.is at c.requires in
    some-parent [] ready.0 ready.1.0 ready.1.1.0 c.args.self.now.tree.nodes c.args.self.now.place ready.1.1.1.0.builds c.in-End.name c.laws.ensures.ways_up ready.1.1.1.1.fits

pub returns-in-End : goal.returns-in-End
returns-in-End c = λ taken place standing loads comes.
    let is = rw c.in-End.is at comes in
    rw c.in-End.is (
      refl,
      loads-end taken place standing c.args.self.now _ _ _ c.in-End.name c.laws.ensures.ways_up c.end.ensures.place is.fits refl c.end.ensures.scope c.end.ensures.tree refl loads,
    )

pub returns-in-Start : goal.returns-in-Start
returns-in-Start c = λ taken place standing loads comes.
    let is = rw c.in-Start.is at comes in
    let done = rw (c.as_str.ensures, c.as_slice.ensures) at c.start.ensures in
    rw c.in-Start.is (done taken place standing loads is)
