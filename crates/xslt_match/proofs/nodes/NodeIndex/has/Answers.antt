use Rattle.std.proofs.Common.{List, ℕ, ◌∙◌, ap₂}
use Rattle.doc_tree.specs.Lists.{mem}
use Rattle.xslt_match.proofs.Indexed.{any_is}
use Rattle.xslt_match.proofs.nodes.NodeIndex.has.Goals as goal

pub returns : goal.returns
returns c = c.contains.ensures ∙ any_is c.index.result c.self.inside.numbers.keys ∙ ap₂ (λ (i : ℕ) (ks : List ℕ). mem i ks) c.index.ensures.value c.self.view_is
