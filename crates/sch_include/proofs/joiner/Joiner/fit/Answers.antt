-- The document element is a node, and no tree is larger than a tree may be.
use Rattle.std.proofs.Common.{arith}
use Rattle.sch_include.proofs.WalkLemmas.{below-bound, element-lives, text-bound}
use Rattle.sch_include.proofs.joiner.Joiner.fit.Goals as goal

pub count_below-requires : goal.count_below-requires
count_below-requires c = element-lives c.args.tree.now.nodes c.laws-2.ensures.ordered c.laws-2.ensures.ways_up c.document_element-element.result c.document_element-element.ensures

pub overflow_add-nodes : goal.overflow_add-nodes
overflow_add-nodes c =
    let T = c.args.tree.now.nodes in
    let n = c.document_element-element.result in
    omega (
      arith,
      c.requires.few,
      c.count_below.ensures,
      below-bound T c.laws-2.ensures.ordered n c.laws-2.ensures.well_formed (element-lives T c.laws-2.ensures.ordered c.laws-2.ensures.ways_up n c.document_element-element.ensures),
    )

pub text_below-requires : goal.text_below-requires
text_below-requires c = element-lives c.args.tree.now.nodes c.laws-2.ensures.ordered c.laws-2.ensures.ways_up c.document_element-element.result c.document_element-element.ensures

pub overflow_add-text : goal.overflow_add-text
overflow_add-text c =
    let T = c.args.tree.now.nodes in
    let n = c.document_element-element.result in
    omega (
      arith,
      c.requires.little,
      c.text_below.ensures,
      text-bound T c.laws-2.ensures.ordered n c.laws-2.ensures.well_formed (element-lives T c.laws-2.ensures.ordered c.laws-2.ensures.ways_up n c.document_element-element.ensures),
    )
