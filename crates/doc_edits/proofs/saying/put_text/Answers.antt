-- A sound table with another text is sound, and says it.
use Rattle.std.proofs.Common.{◌≡◌, ◌+◌, ◌-◌, ◌≤◌, length, ap}
use Rattle.doc_table.specs.inner.Parts.{table_of}
use Rattle.doc_table.specs.inner.Sound.{Sound}
use Rattle.doc_table.specs.inner.Views.{table_seen}
use Rattle.doc_table.specs.Table.{value_of}
use Rattle.doc_edits.specs.Changes.{said}
use Rattle.doc_edits.proofs.KeptSayingLemmas.{saying-sound, value-short}
use Rattle.doc_edits.proofs.saying.put_text.Goals as goal

pub overflow_sub-bare : goal.overflow_sub-bare
overflow_sub-bare c =
    let short : length (value_of (table_of c.args.bare.now) c.args.n) ≤ c.bare.inside.text_bytes =
    value-short c.args.bare.now c.bare.inside.names c.bare.inside.nodes.items c.bare.inside.live c.bare.inside.text_bytes c.bare.inside.pair_cap c.args.n c.args.text
    c.bare.view_is c.requires.sound c.requires.may in
    rw c.value-old_length.ensures short

outcome : (c : goal.After-replace_text) →
    Sound c.replace_text.new.nodes.items c.bare.inside.names c.bare.inside.live
    (c.bare.inside.text_bytes - length c.value-old_length.result.now + length c.as_str-new_length.result.now)
    × (table_seen c.bare.inside.names c.replace_text.new.nodes.items ≡ said (table_of c.args.bare.now) c.args.n c.args.text)
outcome c =
    saying-sound c.args.bare.now c.bare.inside.names c.bare.inside.nodes.items c.bare.inside.live c.bare.inside.text_bytes c.bare.inside.pair_cap c.args.n c.args.text
    c.bare.view_is c.requires.sound c.requires.may c.replace_text.new.nodes.items (length c.value-old_length.result.now) (length c.as_str-new_length.result.now)
    c.replace_text.ensures (ap length c.value-old_length.ensures) (ap length c.as_str-new_length.ensures)

pub returns-clause-sound : goal.returns-clause-sound
returns-clause-sound c = (outcome c).0

pub returns-clause-said : goal.returns-clause-said
returns-clause-said c = (outcome c).1
