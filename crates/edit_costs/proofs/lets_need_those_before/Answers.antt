-- By the slots that an expression names, each of which is one of a let before it.
use Rattle.std.proofs.Common.{ap}
use Rattle.xp_typed_tree.specs.Slots.{slots_in}
use Rattle.xp_outcome.specs.Evaluation.{behind, visit}
use Rattle.xp_meaning.specs.Evaluation.{meaning}
use Rattle.sch_locality_laws.specs.Messages.{alone}
use Rattle.edit_costs.proofs.BeforeLemmas.{agree-below, own-below, reads-before}
use Rattle.edit_costs.proofs.lets_need_those_before.Goals as goal

pub returns : goal.returns
unfolding behind visit
returns c = record {
  same = λ plan T L M slot t sound there same. ap visit
      (c.meaning_needs_slots_alone.ensures T L M t.expr (alone 0) (agree-below slot L M (slots_in t.expr) same (own-below plan slot t sound there)));
  reads = λ plan T L slot t sound there. reads-before slot (slots_in t.expr) (meaning T L t.expr (alone 0)).reads (own-below plan slot t sound there)
      (c.lets_read_are_named.ensures T L t.expr (alone 0));
}
