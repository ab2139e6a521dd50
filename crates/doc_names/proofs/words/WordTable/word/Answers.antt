-- The word at a place, or none past the end.
use Rattle.std.proofs.Common.{[], sym, ap, ◌∙◌}
use Rattle.std.specs.Option.{option_copied}
use Rattle.std.specs.String.{string_bytes}
use Rattle.doc_names.proofs.NumberLemmas.{map-some, map-none}
use Rattle.doc_names.proofs.words.WordTable.word.Goals as goal

pub returns-in-Some : goal.returns-in-Some
returns-in-Some c =
    let found = sym c.get_index.ensures.key ∙ ap option_copied c.in-Some.is in
    rw (← c.self.view_is) (c.as_str.ensures.value
    ∙ sym (map-some string_bytes c.self.inside.words.keys c.args.number [] c.in-Some.word.now found))

pub returns-in-None : goal.returns-in-None
returns-in-None c =
    let none = sym c.get_index.ensures.key ∙ ap option_copied c.in-None.is in
    rw (← c.self.view_is) (sym (map-none string_bytes c.self.inside.words.keys c.args.number [] none))
