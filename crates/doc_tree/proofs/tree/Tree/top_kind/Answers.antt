-- A kid lives, and is of a kind that can be one.
use Rattle.std.proofs.Common.{ap, sym, ◌∙◌}
use Rattle.doc_table.specs.Kinds.{can_be_kid}
use Rattle.doc_table.specs.Lists.{mem}
use Rattle.doc_table.specs.Table.{kids_of, kind_of}
use Rattle.doc_tree.proofs.InsertLemmas.{lone-kid, lone-mem}
use Rattle.doc_tree.proofs.tree.Tree.top_kind.Goals as goal

pub kind-requires : goal.kind-requires
kind-requires c =
    c.laws.ensures.ways_up.kid_live 0 c.top.result (ap (λ n. mem n (kids_of c.args.self.now.nodes 0)) c.top.ensures ∙ lone-mem c.args.self.now.nodes c.requires)

pub returns-clause-kid : goal.returns-clause-kid
returns-clause-kid c =
    ap can_be_kid (sym c.kind.ensures ∙ ap (kind_of c.args.self.now.nodes) c.top.ensures) ∙ lone-kid c.args.self.now.nodes c.laws.ensures.well_formed c.requires
