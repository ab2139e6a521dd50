-- All parts were read, and the characters at the end are a part.
use Rattle.std.specs.List.{flat_map}
use Rattle.doc_tree.specs.Walks.{below}
use Rattle.sch_rules.specs.RawSchema.{part_at}
use Rattle.sch_source.proofs.MessageLemmas.{message-end}
use Rattle.sch_source.proofs.source.Source.message.Goals as goal

pub returns : goal.returns
returns c =
    message-end (record { alloc = c.args.self.now.alloc; parts = c.new.result; text = c.new-2.result }) c.push_parts.new.message c.flush.new.self
    (flat_map (part_at c.args.self.now.tree.now.nodes) (below c.args.self.now.tree.now.nodes c.args.n))
    c.new.ensures c.new-2.ensures.bytes c.in_ok-push_parts.ensures c.in_ok-flush.ensures
