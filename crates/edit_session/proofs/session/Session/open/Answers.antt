-- The tree is the same document with the plan's pair cap, and nothing is kept.
use Rattle.std.proofs.Common.{◌∙◌, ℕ, ◌≤◌, length, ap, subst, sym}
use Rattle.doc_tree.specs.Kinds.{is_document}
use Rattle.doc_tree.specs.Table.{Contents}
use Rattle.doc_tree.specs.Walks.{order}
use Rattle.kept_units.specs.Keeping.{seen_in}
use Rattle.edit_session.proofs.PairLemmas.{under-cap}
use Rattle.edit_session.proofs.UnitLemmas.{runs-all}
use Rattle.edit_session.proofs.session.Session.open.Goals as goal

pub invariant_of-result : goal.invariant_of-result
invariant_of-result c = record {
  sound = c.requires.sound;
  typed = c.patterns_are_typed.ensures;
  document = ap (λ (tree : Contents). is_document tree.nodes) c.set_pair_cap.ensures ∙ c.requires.document;
  cap = ap (λ (tree : Contents). tree.pair_cap) c.set_pair_cap.ensures ∙ c.pair_cap_for.ensures;
  within =
      subst (λ (tree : Contents). length (order tree.nodes) ≤ tree.pair_cap) (sym c.set_pair_cap.ensures)
      (subst (λ (cap : ℕ). length (order c.args.tree.nodes) ≤ cap) (sym c.pair_cap_for.ensures)
      (under-cap c.pair_cap_is_for_pairs.ensures c.args.plan (length (order c.args.tree.nodes)) c.laws.ensures.well_formed.few_nodes
      (sym c.has_too_many_pairs.ensures ∙ c.if-has_too_many_pairs.false)));
  held = c.in-Ok.ensures.held _;
  keeps = c.in-Ok.ensures.keeps _;
}

pub returns-clause-unrun : goal.returns-clause-unrun
returns-clause-unrun c = runs-all c.args.plan c.args.tree.nodes (seen_in c.in-Ok.kept) c.in-Ok.ensures.stale
