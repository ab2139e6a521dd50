-- A sound table with another name is sound, and has it.
use Rattle.std.proofs.Common.{◌≡◌}
use Rattle.doc_table.specs.inner.Parts.{table_of}
use Rattle.doc_table.specs.inner.Sound.{Sound}
use Rattle.doc_table.specs.inner.Views.{table_seen}
use Rattle.doc_table.specs.Table.{numbered}
use Rattle.doc_edits.specs.Changes.{renamed}
use Rattle.doc_edits.proofs.KeptNameLemmas.{renaming-sound}
use Rattle.doc_edits.proofs.renaming.put_name.Goals as goal

outcome : (c : goal.After-replace_name) →
    Sound c.replace_name.new.nodes.items c.bare.inside.names c.bare.inside.live c.bare.inside.text_bytes
    × (table_seen c.bare.inside.names c.replace_name.new.nodes.items ≡ renamed (table_of c.args.bare.now) c.args.n (numbered c.args.bare.now.names c.args.name))
outcome c =
    renaming-sound c.args.bare.now c.bare.inside.names c.bare.inside.nodes.items c.bare.inside.live c.bare.inside.text_bytes c.bare.inside.pair_cap c.args.n c.args.name
    c.bare.view_is c.requires.sound c.requires.known c.requires.may c.replace_name.new.nodes.items c.replace_name.ensures

pub returns-clause-sound : goal.returns-clause-sound
returns-clause-sound c = (outcome c).0

pub returns-clause-renamed : goal.returns-clause-renamed
returns-clause-renamed c = (outcome c).1
