-- Each kind of leaf has its copy.
use Rattle.std.proofs.Common.{ℕ, refl, sym, ◌∙◌, subst}
use Rattle.std.specs.Prelude.{IfOk}
use Rattle.doc_tree.specs.Growth.{Grew}
use Rattle.doc_tree.specs.Table.{Table, comment, instruction, numbered, text}
use Rattle.sch_include.proofs.CopyLemmas.{comment-copied, instruction-copied, leaf-refused, text-copied}
use Rattle.sch_include.proofs.copy.copy_leaf.Goals as goal
use Rattle.sch_include.proofs.copy.copy_leaf.Goals.{then-is_kind, else-is_kind+then-is_kind-2, else-is_kind+else-is_kind-2+in_ok-name}

pub unlimited-requires : goal.unlimited-requires
unlimited-requires c = elim c.if-is_kind.branch [
  | then-is_kind w ↦ leaf-refused c.args.tree.now.nodes c.args.parent c.args.source.now.nodes c.args.n c.requires.takes c.args.tree.now.nodes w.append_node-appended.result c.if-is_kind.appended (text w.value.result.now) refl w.appended-is w.value.ensures (λ F. refl) w.append_node-appended.ensures.refused
  | else-is_kind+then-is_kind-2 w ↦ leaf-refused c.args.tree.now.nodes c.args.parent c.args.source.now.nodes c.args.n c.requires.takes c.args.tree.now.nodes w.append_node.result c.if-is_kind.appended (comment w.value-then-is_kind-2.result.now) refl w.appended-is w.value-then-is_kind-2.ensures (λ F. refl) w.append_node.ensures.refused
  | else-is_kind+else-is_kind-2+in_ok-name w ↦
      leaf-refused c.args.tree.now.nodes c.args.parent c.args.source.now.nodes c.args.n c.requires.takes w.copy_name.new.tree.nodes w.append_node-else-is_kind-2.result c.if-is_kind.appended (instruction (numbered w.copy_name.new.tree.names w.in_ok-name.name) w.value-else-is_kind-2.result.now)
      w.in_ok-name.ensures.nodes w.appended-is w.value-else-is_kind-2.ensures (λ F. refl) w.append_node-else-is_kind-2.ensures.refused
]

pub returns-clause-copied : goal.returns-clause-copied
returns-clause-copied c = elim c.if-is_kind.branch [
  | then-is_kind w ↦ rw w.tree-is
      (text-copied c.args.tree.now.nodes w.append_node-appended.new.self.nodes c.args.parent c.args.source.now.nodes c.args.n c.laws-2.ensures.well_formed c.requires.takes w.append_node-appended.result c.if-is_kind.appended c.unlimited.result w.appended-is c.unlimited.ensures
      w.value.result.now w.value.ensures (sym c.is_kind.ensures ∙ w.if-is_kind.true) w.append_node-appended.ensures.grew)
  | else-is_kind+then-is_kind-2 w ↦ rw w.tree-is
      (comment-copied c.args.tree.now.nodes w.append_node.new.self.nodes c.args.parent c.args.source.now.nodes c.args.n c.laws-2.ensures.well_formed c.requires.takes w.append_node.result c.if-is_kind.appended c.unlimited.result w.appended-is c.unlimited.ensures
      w.value-then-is_kind-2.result.now w.value-then-is_kind-2.ensures (sym w.is_kind-else-is_kind.ensures ∙ w.if-is_kind-2.true) w.append_node.ensures.grew)
  | else-is_kind+else-is_kind-2+in_ok-name w ↦ rw w.tree-is
      (instruction-copied c.args.tree.now.nodes w.append_node-else-is_kind-2.new.self.nodes c.args.parent c.args.source.now.nodes c.args.n c.laws-2.ensures.well_formed c.requires.takes w.append_node-else-is_kind-2.result c.if-is_kind.appended c.unlimited.result w.appended-is c.unlimited.ensures
      (numbered w.copy_name.new.tree.names w.in_ok-name.name) w.value-else-is_kind-2.result.now w.value-else-is_kind-2.ensures c.requires.leaf (sym c.is_kind.ensures ∙ w.if-is_kind.false) (sym w.is_kind-else-is_kind.ensures ∙ w.if-is_kind-2.false)
      w.in_ok-name.ensures.name
      (subst (λ (F : Table). IfOk w.append_node-else-is_kind-2.result (λ (k : ℕ). Grew F w.append_node-else-is_kind-2.new.self.nodes c.args.parent k (instruction (numbered w.copy_name.new.tree.names w.in_ok-name.name) w.value-else-is_kind-2.result.now)))
      w.in_ok-name.ensures.nodes w.append_node-else-is_kind-2.ensures.grew))
]

pub returns-clause-cap : goal.returns-clause-cap
returns-clause-cap c = elim c.if-is_kind.branch [
  | then-is_kind w ↦ rw w.tree-is w.append_node-appended.ensures.cap
  | else-is_kind+then-is_kind-2 w ↦ rw w.tree-is w.append_node.ensures.cap
  | else-is_kind+else-is_kind-2+in_ok-name w ↦ rw w.tree-is (w.append_node-else-is_kind-2.ensures.cap ∙ w.in_ok-name.ensures.cap)
]
