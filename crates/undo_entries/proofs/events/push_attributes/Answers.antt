-- Each of them is an attribute.
use Rattle.doc_write.proofs.PartLemmas.{mem-at}
use Rattle.undo_entries.proofs.events.push_attributes.Goals as goal

pub push_attribute-requires : goal.push_attribute-requires
push_attribute-requires c = c.requires c.a-item.result (mem-at c.args.nodes.now c.loop-a.a-index c.a-item.result c.a-item.is c.loop-a-test.true)
