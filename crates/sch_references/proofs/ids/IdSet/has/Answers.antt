-- A name is found where one is kept with the same bytes.
use Rattle.std.proofs.Common.{ap, ◌∙◌}
use Rattle.sch_references.specs.References.{is_among}
use Rattle.sch_references.proofs.IdLemmas.{among-kept}
use Rattle.sch_references.proofs.ids.IdSet.has.Goals as goal

pub returns : goal.returns
returns c = c.contains.ensures ∙ among-kept c.args.name.now c.self.inside.ids.keys ∙ ap (λ ids. is_among ids c.args.name.now) c.self.view_is
