-- A kid of an element that counts.
use Rattle.sch_source.proofs.CountLemmas.{kid_stands}
use Rattle.sch_source.proofs.source.Source.notes.Goals as goal

pub push_notes-requires : goal.push_notes-requires
push_notes-requires c =
    kid_stands c.args.self.now.tree.now.nodes c.laws.ensures.well_formed c.laws.ensures.ways_up c.args.n c.loop-kid.kid-index c.kid-item.result c.kids-kid-items.result.now
    c.requires c.kids-kid-items.ensures c.kid-item.is c.loop-kid-test.true
