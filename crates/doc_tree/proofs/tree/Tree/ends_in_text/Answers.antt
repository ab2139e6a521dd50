-- The last of the nodes by its place.
use Rattle.std.proofs.Common.{sym, ap, ◌∙◌}
use Rattle.std.specs.Option.{option_copied}
use Rattle.doc_tree.proofs.RefusalLemmas.{last-text}
use Rattle.doc_tree.proofs.tree.Tree.ends_in_text.Goals as goal

pub returns-in-Some : goal.returns-in-Some
returns-in-Some c =
    c.is_kind.ensures ∙ last-text c.args.self.now.nodes c.args.nodes.now c.in-Some.n.now (sym c.last.ensures.value ∙ ap option_copied c.in-Some.is)
