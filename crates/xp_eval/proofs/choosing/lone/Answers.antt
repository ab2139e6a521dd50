use Rattle.std.proofs.Common.{◌∷◌, ◌∙◌, ap, sym, eqb-true}
use Rattle.std.proofs.lemmas.List.{nil_from_length}
use Rattle.xp_eval.proofs.choosing.lone.Goals as goal

pub returns-then-is_empty : goal.returns-then-is_empty
returns-then-is_empty g c =
    c.in-Some.ensures.cases.0 ∙ ap (λ es. c.in-Some.first.now ∷ es) (nil_from_length c.in-Some.rest.now (eqb-true _ 0 (sym c.is_empty.ensures ∙ c.if-is_empty.true)))
