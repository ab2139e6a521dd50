-- Nothing speaks against the value.
use Rattle.std.proofs.Common.{◌∙◌, sym, subst}
use Rattle.doc_table.specs.Table.{Contents}
use Rattle.doc_edits.specs.Fitting.{MaySay}
use Rattle.doc_tree.proofs.AttributeLemmas.{may-say}
use Rattle.doc_tree.proofs.tree.Tree.put_attribute.Goals as goal

pub say-requires-clause-may : goal.say-requires-clause-may
say-requires-clause-may c =
    subst (λ (t : Contents). MaySay t.nodes c.in-Some.a c.args.value.now) (sym c.self.view_is)
    (may-say c.args.self.now c.args.n c.args.prefix.now c.args.local.now c.args.value.now c.requires.free
    c.laws.ensures.well_formed c.laws.ensures.ways_up c.in-Some.a (sym c.requires.found ∙ c.in-Some.is))
