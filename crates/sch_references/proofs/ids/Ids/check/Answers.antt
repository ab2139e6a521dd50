-- The head, the phases, then the patterns.
use Rattle.std.proofs.Common.{◌∷◌, [], ◌++◌, List, sym, ap, ◌∙◌}
use Rattle.std.specs.List.{flat_map}
use Rattle.sch_references.specs.Places.{Place}
use Rattle.sch_references.specs.References.{Known, head_place, pattern_places, phase_places}
use Rattle.sch_references.specs.inner.KnownIds.{known_by}
use Rattle.sch_references.specs.inner.Onto.{onto}
use Rattle.sch_references.proofs.OntoLemmas.{onto-append}
use Rattle.sch_references.proofs.ids.Ids.check.Goals as goal

pub returns : goal.returns
returns c =
    let known : Known = known_by c.args.self.now in
    let head : List Place = head_place known c.args.schema.now.head ∷ [] in
    let phases : List Place = flat_map (phase_places known) c.args.schema.now.phases in
    let patterns : List Place = flat_map (pattern_places known c.args.self.now.rules) c.args.schema.now.patterns in
    c.in_ok-check_patterns.ensures
    ∙ ap (λ xs. onto c.check_phases.new.first (flat_map (pattern_places known c.args.self.now.rules) xs)) c.as_slice-2.ensures
    ∙ ap (λ f. onto f patterns) (
    c.in_ok-check_phases.ensures
    ∙ ap (λ xs. onto c.check_head.new.first (flat_map (phase_places known) xs)) c.as_slice.ensures
    ∙ ap (λ f. onto f phases) c.in_ok-check_head.ensures)
    ∙ sym (onto-append c.args.first.now head (phases ++ patterns) ∙ onto-append (onto c.args.first.now head) phases patterns)
