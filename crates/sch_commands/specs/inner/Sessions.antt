-- Documents that are followed: what is told of each, and what its next state is to evaluate.
use Rattle.std.specs.Prelude.{◌≡◌, ℕ}
use Rattle.doc_tree.specs.Table.{Contents}
use Rattle.sch_undo.specs.Costs as units
use Rattle.sch_undo.specs.Running.{IsFresh, to_run}
use Rattle.edit_script.specs.Script.{Script}
use Rattle.edit_script.specs.declared.command.Command.{Command as Edit}
use Rattle.sch_undo.specs.Standing.{Standing, seen_by}
use Rattle.xp_watch.specs.Costs as watches
use Rattle.xp_watch.specs.Kept as kept
use Rattle.xp_watch.specs.Watching.{Watching}
use Rattle.sch_commands.specs.Telling.{Telling, by_plan, by_watches, edit_cost}
use Rattle.sch_commands.specs.inner.Scripts.{EditsCost}

-- what is told of a document, its tree as it stands, and the visits of what its next state evaluates
pub record Document : Type 0 where
  pub telling : Telling
  pub tree : Contents
  pub next : ℕ

-- nothing was evaluated of what is told of it
abbrev pub IsUnevaluated : Document → Type 0
IsUnevaluated at = at.next ≡ at.telling.first_cost at.tree.nodes

-- a command made the later document of it, of which the rest is as it was
abbrev pub LeavesDirty : Document → Edit → Document → Type 0
LeavesDirty at command later = later.next ≡ edit_cost at.telling at.tree.nodes command later.tree.nodes

-- the visits for the states behind the commands of a script
abbrev pub ScriptCost : Document → Script → ℕ → Type 0
ScriptCost at script cost = EditsCost at.telling at.tree.nodes script cost

-- there are such
abbrev pub HasCost : Document → Script → Type 0
HasCost at script = (cost : ℕ) × ScriptCost at script cost

-- the visits of the units that the next report of a session runs
abbrev pub next_cost : Standing → ℕ
next_cost session = units.cost_of session.plan session.tree.nodes (to_run session.plan session.tree.nodes (seen_by session))

-- the document of a session
abbrev pub document_of : Standing → Document
document_of session = record { telling = by_plan session.plan; tree = session.tree; next = next_cost session }

-- all of its units are as the document has them
abbrev pub IsEvaluated : Standing → Type 0
IsEvaluated session = IsFresh session.plan session.tree.nodes (seen_by session)

-- the visits of the stale ones of watched expressions
abbrev pub stale_cost : Watching → ℕ
stale_cost watch = watches.cost_of watch.tree.nodes watch.expressions (kept.stale_watches watch.kept watch.expressions)

-- the document of watched expressions
abbrev pub document_watched : Watching → Document
document_watched watch = record { telling = by_watches watch.expressions; tree = watch.tree; next = stale_cost watch }

-- all of them are as the document has them
abbrev pub IsWatched : Watching → Type 0
IsWatched watch = kept.IsFresh watch.tree.nodes watch.expressions watch.kept
