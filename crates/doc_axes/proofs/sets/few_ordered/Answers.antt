-- One node, which is listed where it lives.
use Rattle.std.proofs.Common.{◌≡◌, ℕ, ◌<◌, [], ◌∷◌, ◌++◌, sym, ap, ◌∙◌, length}
use Rattle.std.proofs.lemmas.List.{nil_from_length}
use Rattle.doc_axes.specs.Sets.{in_order}
use Rattle.doc_axes.proofs.NodeSets.{one_live, one_dead, none_in_order, one_alone}
use Rattle.doc_axes.proofs.sets.few_ordered.Goals as goal
use Rattle.doc_axes.proofs.sets.few_ordered.Goals.{in-Some+then-contains+in_ok-push, in-Some+else-contains, in_default}

pub returns : goal.returns
returns c =
    let T = c.args.tree.now.nodes in
    let ord = c.laws.ensures.ordered in
    let few : length c.args.nodes.now < 2 = c.requires in
    elim c.match-split_first.branch [
      | in-Some+then-contains+in_ok-push w ↦
          let n : ℕ = w.in-Some.n.now in
          let one : c.args.nodes.now ≡ n ∷ [] = one_alone n w.in-Some.field-0-1.now c.args.nodes.now w.in-Some.ensures.cases.0 few in
          w.list-is ∙ (w.in_ok-push.ensures.pushed ∙ (ap (λ l. l ++ n ∷ []) c.new-list.ensures
          ∙ sym (ap (in_order T) one ∙ one_live T ord n (sym w.contains.ensures ∙ w.if-contains.true))))
      | in-Some+else-contains w ↦
          let n : ℕ = w.in-Some.n.now in
          let one : c.args.nodes.now ≡ n ∷ [] = one_alone n w.in-Some.field-0-1.now c.args.nodes.now w.in-Some.ensures.cases.0 few in
          w.list-is ∙ (c.new-list.ensures ∙ sym (ap (in_order T) one ∙ one_dead T ord n (sym w.contains.ensures ∙ w.if-contains.false)))
      | in_default w ↦
          w.list-is ∙ (c.new-list.ensures ∙ sym (ap (in_order T) (nil_from_length c.args.nodes.now w.in_default.ensures.cases) ∙ none_in_order T ord))
    ]
