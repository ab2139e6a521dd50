-- Each axis by the lemma on it.
use Rattle.std.proofs.Common.{◌∙◌, sym, ap}
use Rattle.doc_tree.specs.Table.{Table}
use Rattle.doc_tree.specs.Laws.{WellFormed, Ordered, HasWaysUp}
use Rattle.doc_tree.specs.Order.{Nested}
use Rattle.doc_axes.specs.Axes.{backwards, kids_beside}
use Rattle.doc_axes.specs.Siblings.{kids_before}
use Rattle.doc_axes.proofs.SubLists.{backwards-twice}
use Rattle.doc_axes.proofs.AxisLemmas.{kid-is_plain, child_axis, attribute_axis, self_axis, parent_axis, no_parent, ancestor_axis, ancestor_or_self_axis, descendant_axis, descendant_or_self_axis}
use Rattle.doc_axes.proofs.SiblingLemmas.{following_siblings, preceding_siblings}
use Rattle.doc_axes.proofs.StepLemmas.{no_following, no_preceding, following_step, preceding_step}
use Rattle.doc_axes.proofs.laws.axes_by_cells.Goals as goal

pub returns : goal.returns
returns c =
    let T : Table = c.args.tree.now.nodes in
    let form : WellFormed T = c.laws.ensures.well_formed in
    let ord : Ordered T = c.laws.ensures.ordered in
    let up : HasWaysUp T = c.laws.ensures.ways_up in
    let nest : Nested T = c.laws.ensures.nested in
    record {
      child = λ n live. sym (child_axis T form ord up nest n live);
      attribute = λ n live. sym (attribute_axis T form ord up nest n live);
      descendant = λ n live. sym (descendant_axis T form ord up nest n live);
      descendant_or_self = λ n live. sym (descendant_or_self_axis T form ord up nest n live);
      plain_kids = λ n k h. kid-is_plain T form ord up nest n k h;
      following_sibling = λ n. sym (following_siblings T form ord up nest n);
      preceding_sibling = λ n.
          sym (backwards-twice _) ∙ (ap backwards (sym (preceding_siblings T form ord up nest n)) ∙ backwards-twice (kids_before n (kids_beside T n)));
      parent = λ n p e. sym (parent_axis T form ord up nest n p e);
      no_parent = λ n e. sym (no_parent T form ord up nest n e);
      ancestor = λ n live. sym (ancestor_axis T form ord up nest n live);
      ancestor_or_self = λ n live. sym (ancestor_or_self_axis T form ord up nest n live);
      self = λ n live. sym (self_axis T form ord up nest n live);
      following = λ n p e. following_step T form ord up nest n p e;
      preceding = λ n p e. preceding_step T form ord up nest n p e;
      none_following = λ n live e. no_following T form ord up nest n live e;
      none_preceding = λ n live e. no_preceding T form ord up nest n live e;
    }
