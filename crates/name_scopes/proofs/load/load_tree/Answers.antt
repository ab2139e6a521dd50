-- What was taken is the whole document; the pair cap is none of its nodes.
use Rattle.std.proofs.Common.{ap, ◌∙◌}
use Rattle.doc_tree.specs.Table.{Contents}
use Rattle.name_scopes.proofs.LoadSteps.{taken-good, taken-loaded}
use Rattle.name_scopes.proofs.load.load_tree.Goals as goal

pub returns-in-Ok-clause-good : goal.returns-in-Ok-clause-good
returns-in-Ok-clause-good c = taken-good c.args.bytes.now c.read_document-read.new.loader (rw c.in-Ok.is at c.read_document-read.ensures.taken)

pub returns-in-Ok-clause-loaded : goal.returns-in-Ok-clause-loaded
returns-in-Ok-clause-loaded c =
    taken-loaded c.args.bytes.now c.read_document-read.new.loader c.set_pair_cap.new.self.nodes c.events_nest.ensures
    (ap (λ (t : Contents). t.nodes) c.set_pair_cap.ensures ∙ ap (λ (t : Contents). t.nodes) c.into_tree-tree.ensures)
    c.laws.ensures.ways_up c.laws.ensures.well_formed (rw c.in-Ok.is at c.read_document-read.ensures.taken)

pub returns-in-Err-clause-refused : goal.returns-in-Err-clause-refused
returns-in-Err-clause-refused c = rw c.in-Err.is at c.read_document-read.ensures.refused
