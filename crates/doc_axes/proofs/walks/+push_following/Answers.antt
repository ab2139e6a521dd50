-- What follows a node is all below the kids after it, and what follows its parent.
use Rattle.std.proofs.Common.{◌≡◌, ◌++◌, List, ℕ, sym, ap, subst, ◌∙◌, append_assoc, append-nil}
use Rattle.doc_tree.specs.declared.axes.Axis.TheVariants.{Following}
use Rattle.doc_tree.specs.Lists.{Distinct}
use Rattle.doc_tree.specs.Table.{kids_of}
use Rattle.doc_axes.specs.Axes.{axis_order}
use Rattle.doc_axes.specs.Plain.{plain_below}
use Rattle.doc_axes.specs.Siblings.{kids_behind}
use Rattle.doc_axes.proofs.AxisLemmas.{kid-is_plain}
use Rattle.doc_axes.proofs.SiblingLemmas.{behind_in}
use Rattle.doc_axes.proofs.StepLemmas.{following_step, no_following}
use Rattle.doc_axes.proofs.walks.+push_following.Goals as goal

pub kids_behind-requires : goal.kids_behind-requires
kids_behind-requires t c = subst Distinct (sym c.kids.ensures) (c.laws.ensures.well_formed.kids_once c.in-Some.parent)

pub push_each_plain-requires : goal.push_each_plain-requires
push_each_plain-requires t c = λ m h.
    let kids = c.kids.result.now in
    kid-is_plain c.args.tree.now.nodes c.laws.ensures.well_formed c.laws.ensures.ordered c.laws.ensures.ways_up c.laws.ensures.nested c.in-Some.parent m
    (rw c.kids.ensures at (behind_in m c.args.n kids (rw c.kids_behind.ensures at h)))

pub returns-in_ok-push_following : goal.returns-in_ok-push_following
returns-in_ok-push_following t c =
    let table = c.args.tree.now.nodes in
    let up : List ℕ = axis_order table Following c.in-Some.parent in
    let behind : c.kids_behind.result.now ≡ kids_behind c.args.n (kids_of table c.in-Some.parent) = c.kids_behind.ensures ∙ ap (kids_behind c.args.n) c.kids.ensures in
    c.in_ok-push_following.ensures
    ∙ (ap (λ l. l ++ up) c.in_ok-push_each_plain.ensures
    ∙ (append_assoc c.args.list.now (plain_below table c.kids_behind.result.now) up
    ∙ ap (λ l. c.args.list.now ++ l) (ap (λ ks. plain_below table ks ++ up) behind
    ∙ sym (following_step table c.laws.ensures.well_formed c.laws.ensures.ordered c.laws.ensures.ways_up c.laws.ensures.nested c.args.n c.in-Some.parent (sym c.parent.ensures ∙ c.in-Some.is)))))

pub returns-in_default : goal.returns-in_default
returns-in_default t c =
    sym (ap (λ l. c.args.list.now ++ l)
    (no_following c.args.tree.now.nodes c.laws.ensures.well_formed c.laws.ensures.ordered c.laws.ensures.ways_up c.laws.ensures.nested c.args.n c.requires (sym c.parent.ensures ∙ c.in_default.is))
    ∙ append-nil c.args.list.now)
