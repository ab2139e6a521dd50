-- A name that was numbered in vain is forgotten again.
use Rattle.std.proofs.Common.{◌≡◌, length, sym, ap, ◌∙◌, subst}
use Rattle.doc_table.specs.inner.Parts.{Parts, IsSound}
use Rattle.doc_edits.proofs.CopyLemmas.{grows-same}
use Rattle.doc_edits.proofs.NamingLemmas.{cut-parts, names-grow}
use Rattle.doc_edits.proofs.gaining.gain.Goals as goal

pub returns-in-Ok-clause-names : goal.returns-in-Ok-clause-names
returns-in-Ok-clause-names c =
    let grown = names-grow _ _ _ _ c.in_ok-name.ensures.numbered in
    (grown.0, c.gain_named.ensures.names ∙ grown.1)

back : (c : goal.After-cut) →
    record { nodes = c.bare-2.inside.nodes.items; names = c.cut.new.self; live = c.bare-2.inside.live; text_bytes = c.bare-2.inside.text_bytes; pair_cap = c.bare-2.inside.pair_cap } ≡ c.args.bare.now
back c =
    cut-parts c.args.bare.now c.name_id.new.self c.bare-2.inside.nodes.items c.bare-2.inside.names c.cut.new.self c.bare-2.inside.live c.bare-2.inside.text_bytes c.bare-2.inside.pair_cap
    c.len-known.result (c.bare-2.view_is ∙ c.in-Err.ensures.unchanged) c.name_id.ensures.kept (names-grow _ _ _ _ c.in_ok-name.ensures.numbered)
    (c.len-known.ensures ∙ ap (λ (parts : Parts). length parts.names) c.bare.view_is) c.cut.ensures

pub returns-in-Err-clause-sound : goal.returns-in-Err-clause-sound
returns-in-Err-clause-sound c = subst IsSound (sym (back c)) c.requires.sound

pub returns-in-Err-clause-names : goal.returns-in-Err-clause-names
returns-in-Err-clause-names c = grows-same _ _ (ap (λ (parts : Parts). parts.names) (back c))

pub returns-in-Err-clause-unchanged : goal.returns-in-Err-clause-unchanged
returns-in-Err-clause-unchanged c = back c
