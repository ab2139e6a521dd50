-- What is gone to is what the command touched.
use Rattle.kept_reads.proofs.TouchedLemmas.{attributes_marked, below_marked, named_marked, said_marked}
use Rattle.kept_reads.proofs.kept_reads.KeptReads.mark.Goals as goal

pub returns-in-Said : goal.returns-in-Said
returns-in-Said c =
    said_marked c.args.at.now.tree.now.nodes c.args.at.now.width c.args.self.now c.mark_said.new.self c.args.at.now.touched.now c.in-Said.node
    c.in-Said.is_text c.in-Said.is c.mark_said.ensures

pub returns-in-Attributes : goal.returns-in-Attributes
returns-in-Attributes c =
    attributes_marked c.args.at.now.tree.now.nodes c.args.at.now.width c.args.self.now c.mark_readers.new.self c.args.at.now.touched.now
    c.in-Attributes.element c.in-Attributes.is c.mark_readers.ensures

pub returns-in-Below : goal.returns-in-Below
returns-in-Below c =
    below_marked c.args.at.now.tree.now.nodes c.args.at.now.width c.args.self.now c.mark_below.new.self c.args.at.now.touched.now c.in-Below.parent
    c.in-Below.left c.in-Below.is c.mark_below.ensures

pub returns-in-Named : goal.returns-in-Named
returns-in-Named c =
    named_marked c.args.at.now.tree.now.nodes c.args.at.now.width c.args.self.now c.mark_named.new.self c.args.at.now.touched.now
    c.in-Named.node c.in-Named.is c.mark_named.ensures
