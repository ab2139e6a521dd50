-- What the next report of a session runs: all units at first, and behind a command those that it left dirty.
use Rattle.std.proofs.Common.{◌∙◌, ◌≡◌, ap, sym, subst}
use Rattle.doc_tree.specs.Table.{Contents, Table}
use Rattle.edit_script.specs.declared.command.Command.{Command}
use Rattle.edit_commands.specs.Touched.{touched_by}
use Rattle.sch_compiled.specs.declared.plan.Plan.{Plan}
use Rattle.sch_undo.specs.Costs.{cost_of}
use Rattle.sch_undo.specs.Dirty.{dirty_units}
use Rattle.sch_undo.specs.Units.{units_of}
use Rattle.sch_undo.specs.Running.{IsFresh, to_run}
use Rattle.sch_undo.specs.Standing.{Standing, seen_by}
use Rattle.sch_commands.specs.inner.Sessions.{IsEvaluated, IsUnevaluated, LeavesDirty, document_of}

-- none was evaluated when it was opened, so the first report costs the visits of all units
pub unevaluated-opened : (plan : Plan) (tree : Contents) (session : Standing) → session.plan ≡ plan → session.tree.nodes ≡ tree.nodes →
    to_run plan tree.nodes (seen_by session) ≡ units_of plan tree.nodes → IsUnevaluated (document_of session)
unevaluated-opened plan tree session plans nodes unrun = ap (cost_of session.plan session.tree.nodes)
    (subst (λ (p : Plan). to_run p session.tree.nodes (seen_by session) ≡ units_of p session.tree.nodes) (sym plans)
    (subst (λ (T : Table). to_run plan T (seen_by session) ≡ units_of plan T) (sym nodes) unrun))

-- a report leaves all units done
pub evaluated-as : (before after : Standing) → after.plan ≡ before.plan → after.tree ≡ before.tree → IsFresh before.plan before.tree.nodes (seen_by after) → IsEvaluated after
evaluated-as before after plans trees fresh =
    subst (λ (p : Plan). IsFresh p after.tree.nodes (seen_by after)) (sym plans) (subst (λ (tree : Contents). IsFresh before.plan tree.nodes (seen_by after)) (sym trees) fresh)

-- a command left so many units dirty of a document that was evaluated
abbrev pub RunsDirty : Plan → Table → Command → Standing → Type 0
RunsDirty plan T command session = to_run plan session.tree.nodes (seen_by session) ≡ dirty_units plan T session.tree.nodes (touched_by T command)

-- so the report behind it costs the visits of these
pub leaves-dirty : (before : Standing) (command : Command) (after : Standing) → after.plan ≡ before.plan → RunsDirty before.plan before.tree.nodes command after →
    LeavesDirty (document_of before) command (document_of after)
leaves-dirty before command after plans dirty =
    ap (λ (p : Plan). cost_of p after.tree.nodes (to_run p after.tree.nodes (seen_by after))) plans ∙ ap (cost_of before.plan after.tree.nodes) dirty
