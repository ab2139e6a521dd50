-- What is told of a document that commands edit: the state of it under a plan, or what watched expressions give.
use Rattle.std.specs.Prelude.{ℕ, Bool, List, [], if◌then◌else◌}
use Rattle.doc_tree.specs.cell.Cell.{Cell}
use Rattle.doc_tree.specs.Table.{Contents, Table}
use Rattle.doc_tree.specs.limits.TheConstants.{MAX_LIVE_NODES}
use Rattle.edit_script.specs.declared.command.Command.{Command as Edit}
use Rattle.edit_commands.specs.Touched.{touched_by}
use Rattle.sch_compiled.specs.declared.plan.Plan.{Plan}
use Rattle.sch_undo.specs.Costs as units
use Rattle.sch_undo.specs.Dirty.{dirty_units}
use Rattle.sch_undo.specs.Units.{units_of}
use Rattle.sch_undo.specs.Pairs.{pair_cap_for}
use Rattle.sch_undo.specs.State as session
use Rattle.sch_undo.specs.shown.Shown.{Shown}
use Rattle.sch_undo.specs.shown.Shown.TheVariants.{Clean, Fault}
use Rattle.xp_typed_tree.specs.TypedTree.{TypedTree}
use Rattle.xp_watch.specs.Costs as watches
use Rattle.xp_watch.specs.Watched.{dirty_watches, watches_of}
use Rattle.watch_out.specs.Lines.{shows_fault, watch_text}

-- how many nodes may live in the document; by its tree the text of its state, what that shows, and the visits of all that it tells; and
-- by the trees before and behind commands, and the cells that these touched, the visits of what is to be evaluated anew
pub record Telling : Type 0 where
  pub pair_cap : ℕ
  pub text : Table → List ℕ
  pub shows : Table → Shown
  pub first_cost : Table → ℕ
  pub cost_anew : Table → (Cell → Bool) → Table → ℕ

-- a document in which so many nodes may live as what is told of it allows; no reason depends on names
abbrev pub under : Telling → Table → Contents
under telling T = record { nodes = T; names = []; pair_cap = telling.pair_cap }

-- the visits of what is to be evaluated anew behind a command that made U of T
abbrev pub edit_cost : Telling → Table → Edit → Table → ℕ
edit_cost telling T command U = telling.cost_anew T (touched_by T command) U

-- by a plan: the visits of all units, and for the state of U, which commands made of T, of those that are new, or whose reads they touched
abbrev pub by_plan : Plan → Telling
by_plan plan = record {
  pair_cap = pair_cap_for plan;
  text = λ T. session.state_text plan T;
  shows = λ T. session.shows plan T;
  first_cost = λ T. units.cost_of plan T (units_of plan T);
  cost_anew = λ T touched U. units.cost_of plan U (dirty_units plan T U touched);
}

-- what watched expressions show, by whether one of them meets a fault
abbrev pub shown_of : Bool → Shown
shown_of faulted = if faulted then Fault else Clean

-- by watched expressions: the visits of all, and behind commands of those whose reads they touched
abbrev pub by_watches : List TypedTree → Telling
by_watches exprs = record {
  pair_cap = MAX_LIVE_NODES;
  text = λ T. watch_text T exprs;
  shows = λ T. shown_of (shows_fault T exprs);
  first_cost = λ T. watches.cost_of T exprs (watches_of exprs);
  cost_anew = λ T touched U. watches.cost_of U exprs (dirty_watches T touched exprs);
}
