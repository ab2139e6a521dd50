-- An element of the schema counts.
use Rattle.std.proofs.Common.{sym, ap, ◌∙◌}
use Rattle.sch_rules.specs.declared.word.Word.TheVariants as word
use Rattle.sch_rules.specs.Words.{is_word}
use Rattle.sch_source.proofs.CountLemmas.{word_counts}
use Rattle.sch_source.proofs.source.Source.push_rule.Goals as goal

pub rule-requires : goal.rule-requires
rule-requires c =
    word_counts c.args.self.now.tree.now.nodes c.args.n word.Rule c.requires
    (ap (is_word word.Rule) (sym c.word_at.ensures) ∙ sym c.is_word.ensures ∙ c.if-is_word.true)
