-- Edit by edit, since a unit that read no touched cell gives and reads the same.
use Rattle.kept_state.proofs.EditLemmas as lemma
use Rattle.kept_state.proofs.laws.edits_keep.Goals as goal

pub returns : goal.returns
returns c =
    lemma.edits_keep c.units_are_local.ensures.given c.units_stand.ensures.change c.edits_touch_held_alike.ensures c.held_stays_alike.ensures.held
    c.units_read_live_cells.ensures.reads
