-- The kid at the first place.
use Rattle.std.proofs.Common.{ap, ◌∙◌}
use Rattle.std.specs.Prelude.{slice_index_or}
use Rattle.doc_table.specs.Table.{kids_of}
use Rattle.doc_tree.proofs.InsertLemmas.{first-top}
use Rattle.doc_tree.proofs.tree.Tree.top.Goals as goal

pub returns : goal.returns
returns c =
    first-top c.args.self.now.nodes c.index-kids-0.result c.requires
    (c.index-kids-0.is ∙ ap (λ ks. slice_index_or ks 0 c.index-kids-0.result) (c.kids.ensures ∙ ap (kids_of c.args.self.now.nodes) c.root.ensures))
