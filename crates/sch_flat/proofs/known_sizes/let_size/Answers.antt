-- The value apart.
use Rattle.std.proofs.Common.{[], ◌∷◌, Some}
use Rattle.std.specs.Prelude.{codes}
use Rattle.sch_flat.proofs.KnownLemmas.{known}
use Rattle.sch_flat.proofs.known_sizes.let_size.Goals as goal

pub returns : goal.returns
returns c = λ value is.
    known (codes "sch:let") (codes "value") value ((codes "name", Some c.args.name.now) ∷ []) [] [] _ _ _ _
    is (c.element_size.ensures [] c.none.ensures) c.text_size.ensures c.plus.ensures
