-- A document under a plan: its tree as it stands, and what is kept of its units.
use Rattle.std.specs.Prelude.{◌≡◌, true, false}
use Rattle.doc_tree.specs.Table.{Contents, Table}
use Rattle.sch_compiled.specs.declared.plan.Plan.{Plan}
use Rattle.kept_units.specs.Kept.{Kept}
use Rattle.kept_units.specs.Keeping.{Held, seen}
use Rattle.edit_session.specs.declared.refusal.OpenRefusal.{OpenRefusal}
use Rattle.edit_session.specs.declared.refusal.OpenRefusal.TheVariants.{TooManyPairs, Memory}
use Rattle.edit_session.specs.Pairs.{has_too_many_pairs}

pub record Standing : Type 0 where
  pub plan : Plan
  pub tree : Contents
  pub kept : Held

-- what is kept of each unit
abbrev pub seen_by : Standing → Kept
seen_by standing = seen standing.kept

-- why a document is not opened under a plan: there are too many pairs; memory is asked where there are not
abbrev pub RefusesOpening : Plan → Table → OpenRefusal → Type 0
RefusesOpening plan T TooManyPairs = has_too_many_pairs plan T ≡ true
RefusesOpening plan T Memory = has_too_many_pairs plan T ≡ false
