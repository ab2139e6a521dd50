-- The sizes of both.
use Rattle.std.proofs.Common.{◌∙◌}
use Rattle.sch_flat.proofs.SizeLemmas.{size_then}
use Rattle.sch_flat.proofs.size.FlatSize.then.Goals as goal

pub returns : goal.returns
returns c = λ events more h k. c.plus.ensures ∙ size_then events more _ _ h k
