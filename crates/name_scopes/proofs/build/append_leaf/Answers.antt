-- The new node holds what the event says.
use Rattle.std.proofs.Common.{ap, ap₂, ◌∙◌, subst}
use Rattle.doc_tree.specs.Table.{Content, instruction}
use Rattle.doc_tree.specs.Growth.{Grew}
use Rattle.name_scopes.specs.QNames.{unprefixed}
use Rattle.name_scopes.proofs.NumberLemmas.{numbered-is}
use Rattle.name_scopes.proofs.build.append_leaf.Goals as goal
use Rattle.name_scopes.proofs.build.append_leaf.Goals.{in-Chars, in-Pi+in_ok-id-in-Pi, in-Comment}

pub returns : goal.returns
returns c = elim c.match-event.branch [
  | in-Chars w ↦ rw w.in-Chars.is (rw (c.in_ok-n.ensures, w.node-is, w.tree-is, w.as_str.ensures) at c.append_node.ensures.grew)
  | in-Pi+in_ok-id-in-Pi w ↦ rw w.in-Pi.is
      (subst (λ (content : Content). Grew c.args.tree.now.nodes c.append_node.new.self.nodes c.args.parent c.in_ok-n.n content)
      (ap₂ instruction (numbered-is w.name_id.new.self.names w.in_ok-id-in-Pi.id _ w.in_ok-id-in-Pi.ensures.numbered.given ∙ ap unprefixed w.as_str-in-Pi.ensures) w.as_str-in-Pi-2.ensures)
      (rw (c.in_ok-n.ensures, w.node-is, w.tree-is, w.in_ok-id-in-Pi.ensures.nodes) at c.append_node.ensures.grew))
  | in-Comment w ↦ rw w.in-Comment.is (rw (c.in_ok-n.ensures, w.node-is, w.tree-is, w.as_str-in-Comment.ensures) at c.append_node.ensures.grew)
]
