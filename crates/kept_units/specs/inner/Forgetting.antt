-- What is kept once those that read a let with another outcome are forgotten.
use Rattle.std.specs.Prelude.{◌≡◌, ◌<◌, List, Bool, length}
use Rattle.sch_compiled.specs.declared.plan.Plan.{Plan}
use Rattle.kept_reads.specs.Forgetting.{ForgetsReaders}
use Rattle.kept_units.specs.declared.kept_units.KeptUnits.{KeptUnits}

-- the nodes under patterns
pub record ForgetsPairs (flags : List Bool) (plan : Plan) (old new : KeptUnits) : Type 0 where
  pub lets : new.lets ≡ old.lets
  pub let_reads : new.let_reads ≡ old.let_reads
  pub found : new.found ≡ old.found
  pub reads : 0 < length plan.patterns → ForgetsReaders flags (length plan.patterns) old.reads new.reads
  pub none : length plan.patterns ≡ 0 → new.reads ≡ old.reads

-- all units
pub record ForgetsAll (flags : List Bool) (plan : Plan) (old new : KeptUnits) : Type 0 where
  pub lets : new.lets ≡ old.lets
  pub let_reads : ForgetsReaders flags 1 old.let_reads new.let_reads
  pub found : new.found ≡ old.found
  pub reads : 0 < length plan.patterns → ForgetsReaders flags (length plan.patterns) old.reads new.reads
  pub none : length plan.patterns ≡ 0 → new.reads ≡ old.reads
