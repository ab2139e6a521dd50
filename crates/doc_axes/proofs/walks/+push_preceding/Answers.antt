-- What precedes a node is what precedes its parent, and all below the kids before it.
use Rattle.std.proofs.Common.{◌≡◌, ◌++◌, List, ℕ, sym, ap, ap₂, subst, ◌∙◌, append_assoc, append-nil}
use Rattle.doc_tree.specs.declared.axes.Axis.TheVariants.{Preceding}
use Rattle.doc_tree.specs.Lists.{Distinct}
use Rattle.doc_tree.specs.Table.{kids_of}
use Rattle.doc_axes.specs.Axes.{axis_order}
use Rattle.doc_axes.specs.Plain.{plain_below}
use Rattle.doc_axes.specs.Siblings.{kids_before}
use Rattle.doc_axes.proofs.AxisLemmas.{kid-is_plain}
use Rattle.doc_axes.proofs.SiblingLemmas.{before_in}
use Rattle.doc_axes.proofs.StepLemmas.{preceding_step, no_preceding}
use Rattle.doc_axes.proofs.walks.+push_preceding.Goals as goal

pub kids_before-requires : goal.kids_before-requires
kids_before-requires t c = subst Distinct (sym c.kids.ensures) (c.laws.ensures.well_formed.kids_once c.in-Some.parent)

pub push_each_plain-requires : goal.push_each_plain-requires
push_each_plain-requires t c = λ m h.
    let kids = c.kids.result.now in
    kid-is_plain c.args.tree.now.nodes c.laws.ensures.well_formed c.laws.ensures.ordered c.laws.ensures.ways_up c.laws.ensures.nested c.in-Some.parent m
    (rw c.kids.ensures at (before_in m c.args.n kids (rw c.kids_before.ensures at h)))

pub returns-in_ok-push_each_plain : goal.returns-in_ok-push_each_plain
returns-in_ok-push_each_plain t c =
    let table = c.args.tree.now.nodes in
    let up : List ℕ = axis_order table Preceding c.in-Some.parent in
    let before : c.kids_before.result.now ≡ kids_before c.args.n (kids_of table c.in-Some.parent) = c.kids_before.ensures ∙ ap (kids_before c.args.n) c.kids.ensures in
    c.in_ok-push_each_plain.ensures
    ∙ (ap₂ (λ l ks. l ++ plain_below table ks) c.in_ok-push_preceding.ensures before
    ∙ (append_assoc c.args.list.now up (plain_below table (kids_before c.args.n (kids_of table c.in-Some.parent)))
    ∙ ap (λ l. c.args.list.now ++ l)
    (sym (preceding_step table c.laws.ensures.well_formed c.laws.ensures.ordered c.laws.ensures.ways_up c.laws.ensures.nested c.args.n c.in-Some.parent (sym c.parent.ensures ∙ c.in-Some.is)))))

pub returns-in_default : goal.returns-in_default
returns-in_default t c =
    sym (ap (λ l. c.args.list.now ++ l)
    (no_preceding c.args.tree.now.nodes c.laws.ensures.well_formed c.laws.ensures.ordered c.laws.ensures.ways_up c.laws.ensures.nested c.args.n c.requires (sym c.parent.ensures ∙ c.in_default.is))
    ∙ append-nil c.args.list.now)
