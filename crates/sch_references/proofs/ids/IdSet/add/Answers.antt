-- An id that is kept already adds nothing.
use Rattle.std.proofs.Common.{◌∷◌, [], map, ap, ap₂, ◌∙◌, string_bytes}
use Rattle.sch_references.specs.References.{is_among}
use Rattle.sch_references.specs.inner.KnownIds.{with_ids}
use Rattle.sch_references.proofs.IdLemmas.{among-inserted}
use Rattle.sch_references.proofs.ids.IdSet.add.Goals as goal

pub returns : goal.returns
returns c =
    ap (λ keys. is_among (map string_bytes keys)) c.in_ok-insert_full.ensures.keys
    ∙ among-inserted c.in_ok-id.id c.self.inside.ids.keys
    ∙ ap₂ (λ ids id. with_ids (is_among ids) (id ∷ [])) c.self.view_is c.in_ok-id.ensures.ok
