-- A table stays sound with a name more, and shows the same nodes.
use Rattle.doc_table.proofs.SoundLemmas.{named}
use Rattle.doc_table.proofs.bare.Bare.name_id.Goals as goal

pub returns-clause-sound : goal.returns-clause-sound
returns-clause-sound c =
    (named c.args.self.now c.self.inside.nodes.items c.self.inside.names c.number.new.self _ c.self.inside.live c.self.inside.text_bytes c.self.inside.pair_cap c.number.result
    c.self.view_is c.number.ensures.numbered c.number.ensures.unchanged c.requires.sound).0

pub returns-clause-nodes : goal.returns-clause-nodes
returns-clause-nodes c =
    (named c.args.self.now c.self.inside.nodes.items c.self.inside.names c.number.new.self _ c.self.inside.live c.self.inside.text_bytes c.self.inside.pair_cap c.number.result
    c.self.view_is c.number.ensures.numbered c.number.ensures.unchanged c.requires.sound).1
