-- The kids of its kind before it are those before its place.
use Rattle.std.proofs.Common.{◌≡◌, ℕ, ◌+◌, suc, List, take, Some, sym, ap, ◌∙◌, arith}
use Rattle.std.specs.Prelude.{count_by}
use Rattle.doc_tree.specs.Kinds.{is_kind}
use Rattle.doc_tree.specs.Lists.{place_in}
use Rattle.doc_tree.specs.Table.{kids_of, kind_of, parent_of}
use Rattle.undo_entries.proofs.TreeLemmas.{step-is}
use Rattle.undo_entries.proofs.paths.step_to.Goals as goal

pub returns : goal.returns
returns c =
    let up : parent_of c.args.tree.now.nodes c.args.n ≡ Some c.in_ok-parent.parent = sym c.parent.ensures ∙ c.in_ok-parent.was in
    let is : kind_of c.args.tree.now.nodes c.args.n ≡ Some c.in_ok-kind.kind = sym c.kind_of.ensures ∙ c.in_ok-kind.was in
    let before : c.front-before.result.now ≡ take (place_in c.args.n (kids_of c.args.tree.now.nodes c.in_ok-parent.parent)) (kids_of c.args.tree.now.nodes c.in_ok-parent.parent) =
    c.front-before.ensures.those
    ∙ (ap (λ i. take i c.kids-kids.result.now) c.place_in.ensures.place ∙ ap (λ (ns : List ℕ). take (place_in c.args.n ns) ns) c.kids-kids.ensures.those) in
    let next : c.count_of_kind.result + 1 ≡ suc c.count_of_kind.result = omega arith in
    step-is c.args.tree.now.nodes c.args.n c.in_ok-parent.parent c.in_ok-kind.kind (c.count_of_kind.result + 1) up is
    (next ∙ ap suc (c.count_of_kind.ensures.count ∙ ap (count_by (λ k. is_kind c.in_ok-kind.kind (kind_of c.args.tree.now.nodes k))) before))
