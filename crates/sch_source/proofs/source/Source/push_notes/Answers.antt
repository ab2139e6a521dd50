-- A kid of an element that counts.
use Rattle.std.proofs.Common.{sym, ap, ◌∙◌}
use Rattle.sch_rules.specs.Words.{is_word}
use Rattle.sch_source.proofs.CountLemmas.{kid_stands, word_counts}
use Rattle.sch_source.proofs.source.Source.push_notes.Goals as goal

pub push_note-requires : goal.push_note-requires
push_note-requires c =
    kid_stands c.args.self.now.tree.now.nodes c.laws.ensures.well_formed c.laws.ensures.ways_up c.args.n c.loop-kid.kid-index c.kid-item.result c.kids-kid-items.result.now
    (word_counts c.args.self.now.tree.now.nodes c.args.n c.args.group c.requires
    (ap (is_word c.args.group) (sym c.word_at.ensures) ∙ sym c.is_word.ensures ∙ c.if-not-is_word.false))
    c.kids-kid-items.ensures c.kid-item.is c.loop-kid-test.true
