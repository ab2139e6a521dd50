-- An element ends with its name.
use Rattle.doc_write.proofs.ContentLemmas.{element-closes}
use Rattle.doc_write.proofs.tree.write_end.Goals as goal

pub returns : goal.returns
returns g c =
    rw (element-closes c.args.tree.now.nodes c.args.n c.requires, c.name_of-name.ensures.name)
    (rw (c.prefix_of.ensures, c.local_of.ensures) at c.write_end_tag.ensures)
