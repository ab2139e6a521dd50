-- Each event leads the piece on.
use Rattle.name_scopes.proofs.LeafLemmas.{some-parent}
use Rattle.name_scopes.proofs.PieceSteps.{put-end}
use Rattle.name_scopes.proofs.build.Loader.put.Goals as goal

pub end-requires : goal.end-requires
end-requires c =
    let r = rw c.in-End.is at c.requires in
    some-parent r.0 r.1.0 r.1.1.0 r.1.1.1.0 c.args.self.now.tree.nodes c.args.self.now.place r.1.1.1.1.0.builds c.in-End.name c.laws.ensures.ways_up r.1.1.1.1.1.fits

pub returns-in-End : goal.returns-in-End
returns-in-End c = λ around taken place standing loads comes.
    let is = rw c.in-End.is at comes in
    rw c.in-End.is (put-end around taken place standing c.args.self.now loads c.end.new.self c.in-End.name c.laws.ensures.ways_up is c.end.ensures.tree c.end.ensures.place c.end.ensures.scope)

pub returns-in-Start : goal.returns-in-Start
returns-in-Start c = rw c.in-Start.is (rw (c.as_str.ensures, c.as_slice.ensures) at c.put_start.ensures)
