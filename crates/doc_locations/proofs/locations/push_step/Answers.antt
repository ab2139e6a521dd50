-- The place is that among the siblings of the node's kind.
use Rattle.std.proofs.Common.{◌∙◌, Some, codes, ap, refl}
use Rattle.doc_tree.specs.kind.Kind.TheVariants.{Element, Text, Comment, Pi}
use Rattle.doc_locations.proofs.LocationLemmas.{kid_step_is}
use Rattle.doc_locations.proofs.locations.push_step.Goals as goal

pub returns-in-Element : goal.returns-in-Element
returns-in-Element c =
    let kind = c.kind.ensures ∙ ap Some c.in-Element.is in
    kid_step_is c.push_kid_step.result c.args.tree.now.nodes c.args.n _ Element (codes "*") _ _ kind refl (c.place_of.ensures Element kind refl) c.push_kid_step.ensures

pub returns-in-Text : goal.returns-in-Text
returns-in-Text c =
    let kind = c.kind.ensures ∙ ap Some c.in-Text.is in
    kid_step_is c.push_kid_step-in-Text.result c.args.tree.now.nodes c.args.n _ Text (codes "text()") _ _ kind refl (c.place_of-in-Text.ensures Text kind refl) c.push_kid_step-in-Text.ensures

pub returns-in-Comment : goal.returns-in-Comment
returns-in-Comment c =
    let kind = c.kind.ensures ∙ ap Some c.in-Comment.is in
    kid_step_is c.push_kid_step-in-Comment.result c.args.tree.now.nodes c.args.n _ Comment (codes "comment()") _ _ kind refl (c.place_of-in-Comment.ensures Comment kind refl) c.push_kid_step-in-Comment.ensures

pub returns-in-Pi : goal.returns-in-Pi
returns-in-Pi c =
    let kind = c.kind.ensures ∙ ap Some c.in-Pi.is in
    kid_step_is c.push_kid_step-in-Pi.result c.args.tree.now.nodes c.args.n _ Pi (codes "processing-instruction()") _ _ kind refl (c.place_of-in-Pi.ensures Pi kind refl) c.push_kid_step-in-Pi.ensures
