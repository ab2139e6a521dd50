-- The root alone is a sound tree.
use Rattle.doc_table.proofs.SoundLemmas.{sound_alone}
use Rattle.doc_table.proofs.bare.Bare.new.Goals as goal

pub returns-clause-sound : goal.returns-clause-sound
returns-clause-sound c = rw (c.in_ok-push.ensures.items, c.new-nodes.ensures.items, c.new.ensures, c.new-2.ensures) (sound_alone c.new-3.result)
