-- Such a table shows a forest, so that it is a tree's.
use Rattle.doc_table.specs.inner.Sound.{Formed}
use Rattle.doc_table.proofs.DeclareLemmas.{has-scopes}
use Rattle.doc_table.proofs.Forests.{formed-of}
use Rattle.doc_table.proofs.TreeLaws.{ordered, walks, ways-up}
use Rattle.doc_table.proofs.laws.well_formed_is_enough.Goals as goal

pub returns : goal.returns
returns c = λ T form. let f : Formed T = formed-of T form in (ordered T f, ways-up T f, walks T f, has-scopes T f)
