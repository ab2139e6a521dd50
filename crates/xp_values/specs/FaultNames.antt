-- The names of the faults of an evaluation.
use Rattle.std.specs.Prelude.{ℕ, List, codes}
use Rattle.xp_values.specs.declared.values.EvalFault.{EvalFault}
use Rattle.xp_values.specs.declared.values.EvalFault.TheVariants.{NotWhole, NumberRange, TextLimit}

abbrev pub fault_name : EvalFault → List ℕ
fault_name NotWhole = codes "NotWhole"
fault_name NumberRange = codes "NumberRange"
fault_name TextLimit = codes "TextLimit"
