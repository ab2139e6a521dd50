use Rattle.std.proofs.Common.{◌∙◌, sym, eqb-true}
use Rattle.std.proofs.lemmas.List.{nil_from_length}
use Rattle.xp_eval.proofs.candidates.is_plain.Goals as goal

pub returns : goal.returns
returns c = λ h. sym c.as_slice.ensures.value ∙ nil_from_length c.as_slice.result.now (eqb-true _ 0 (sym c.is_empty.ensures ∙ h))
