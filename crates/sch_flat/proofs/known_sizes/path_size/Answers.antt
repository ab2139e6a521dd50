-- The path apart.
use Rattle.std.proofs.Common.{[]}
use Rattle.std.specs.Prelude.{codes}
use Rattle.sch_flat.proofs.KnownLemmas.{known}
use Rattle.sch_flat.proofs.known_sizes.path_size.Goals as goal

pub returns : goal.returns
returns c = λ value is.
    known (codes "sch:name") (codes "path") value [] [] [] _ _ _ _
    is (c.element_size.ensures [] c.none.ensures) c.text_size.ensures c.plus.ensures
