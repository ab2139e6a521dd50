-- The name with a number is the one that its key spells.
use Rattle.std.proofs.Common.{refl, sym, ap, ◌∙◌}
use Rattle.std.specs.Option.{option_copied}
use Rattle.doc_names.proofs.NameLemmas.{numbered-some, numbered-none}
use Rattle.doc_names.proofs.names.NameTable.local.Goals as goal

pub returns-in-Some : goal.returns-in-Some
returns-in-Some c =
    let found = sym (rw c.index.ensures at c.get_index.ensures.key) ∙ ap option_copied c.in-Some.is in
    rw (← c.self.view_is, numbered-some c.self.inside.words c.self.inside.keys.keys c.args.name c.in-Some.key.now found)
    c.word.ensures

pub returns-in-None : goal.returns-in-None
returns-in-None c =
    let none = sym (rw c.index.ensures at c.get_index.ensures.key) ∙ ap option_copied c.in-None.is in
    rw (← c.self.view_is, numbered-none c.self.inside.words c.self.inside.keys.keys c.args.name none) refl
