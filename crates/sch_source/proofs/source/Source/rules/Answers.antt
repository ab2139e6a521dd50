-- A kid of an element that counts.
use Rattle.sch_source.proofs.CountLemmas.{kid_stands}
use Rattle.sch_source.proofs.source.Source.rules.Goals as goal

pub push_rule-requires : goal.push_rule-requires
push_rule-requires c =
    kid_stands c.args.self.now.tree.now.nodes c.laws.ensures.well_formed c.laws.ensures.ways_up c.args.n c.loop-kid.kid-index c.kid-item.result c.kids-kid-items.result.now
    c.requires c.kids-kid-items.ensures c.kid-item.is c.loop-kid-test.true
