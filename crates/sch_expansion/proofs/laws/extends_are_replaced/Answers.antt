use Rattle.sch_references.specs.Extends.{abstract_rules}
use Rattle.sch_expansion.proofs.LevelLemmas.{extends-replaced}
use Rattle.sch_expansion.proofs.laws.extends_are_replaced.Goals as goal

pub returns : goal.returns
returns c = extends-replaced (abstract_rules c.args.schema.now) c.args.rules.now c.requires
