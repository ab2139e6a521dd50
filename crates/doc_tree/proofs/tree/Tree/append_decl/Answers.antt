-- A declaration changes neither kids nor names.
use Rattle.doc_tree.proofs.AlikeLemmas.{counted_after_declaring}
use Rattle.doc_tree.proofs.tree.Tree.append_decl.Goals as goal

pub invariant_of-self : goal.invariant_of-self
invariant_of-self c = (
  c.append_decl.ensures.sound,
  counted_after_declaring c.self.inside.bare c.append_decl.new.self c.args.element (c.args.prefix.now, c.args.uri.now) c.self.inside.alike.items c.append_decl.result
      c.append_decl.ensures.declared c.append_decl.ensures.unchanged c.self.invariant.1,
)
