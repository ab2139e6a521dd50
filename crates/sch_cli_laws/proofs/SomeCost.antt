-- A run that comes to its end has visits.
use Rattle.std.proofs.Common.{◌≡◌, ℕ, ◌+◌, List, [], ◌∷◌, take, Option, None, Some, refl}
use Rattle.sch_io.specs.Files.{Files}
use Rattle.doc_tree.specs.Table.{Table}
use Rattle.edit_script.specs.Undos as item
use Rattle.sch_cli.specs.shown.Shown.{Shown}
use Rattle.sch_words.specs.Commands.{Command, tell, expand, validate, follow, measure, summarize, watch, command_of}
use Rattle.sch_words.specs.declared.status.Status.TheVariants.{Usage}
use Rattle.sch_stops.specs.Output.{Output, stopped, usage_line}
use Rattle.sch_loading.specs.Loading.{Expanding, Reporting}
use Rattle.sch_loading.specs.Stages.{Is, Stage, Then, goes, halts}
use Rattle.sch_loading.proofs.StageLemmas.{through}
use Rattle.sch_cli.specs.Telling.{Telling, by_plan, by_watches, edit_cost, under}
use Rattle.sch_cli.specs.Behaviours.{Any, Making, Measures, Opening, OpeningAll, States, StatesCost, WatchingAll, behaviour}
use Rattle.sch_cli.specs.Following.{Earlier, Follows, comes_to_end, earlier_of, edits, has_no_history, items_of, lacks_numbers, refuses, stops_at, then_shown, undoes}
use Rattle.sch_cli.specs.Output.{expanded, notice_output, state, summed_up}
use Rattle.sch_cli.specs.Steps.{EditsCost, at_a_fault, at_the_end, of_edited, of_lacking, of_none, of_refused, of_undone}
use Rattle.sch_cli.proofs.WayLemmas.{touches}
use Rattle.sch_cli_laws.specs.Decided.{SomeCost}

-- what is written for the commands and undos of a script has visits
module _ (telling : Telling) (undos : ℕ) where
  follows-cost : (T : Table) (backs : List Earlier) (number : ℕ) (seen : Shown) (items : item.Items) (output : Output) → Follows telling undos T backs number seen items output →
      (cost : ℕ) × EditsCost telling undos T backs items cost
  follows-cost T backs number seen _ _ (comes_to_end _ _ _ _) = (0, at_the_end T backs)
  follows-cost T backs number seen _ _ (stops_at _ _ _ _ fault) = (0, at_a_fault T backs fault)
  follows-cost T backs number seen _ _ (refuses _ _ _ _ command reason rest output some follows) =
      let later = follows-cost T backs (number + 1) seen rest output follows in (later.0, of_refused T backs command reason rest later.0 some later.1)
  follows-cost T backs number seen _ _ (edits _ U _ _ _ command rest output none makes follows) =
      let later = follows-cost U (take undos (earlier_of T command ∷ backs)) (number + 1) (then_shown seen (telling.shows U)) rest output follows in
      (edit_cost telling T command U + later.0, of_edited T U backs command rest later.0 none makes later.1)
  follows-cost T _ number seen _ _ (undoes _ U back backs _ _ rest output taken follows) =
      let later = follows-cost U backs (number + 1) (then_shown seen (telling.shows U)) rest output follows in
      let cells = touches (under telling T) (under telling U) back.commands taken.done in
      (telling.cost_anew T cells.0 U + later.0, of_undone T U back backs cells.0 rest later.0 taken cells.1 later.1)
  follows-cost T _ number seen _ _ (lacks_numbers _ back backs _ _ rest output less follows) =
      let later = follows-cost T (back ∷ backs) (number + 1) seen rest output follows in (later.0, of_lacking T back backs rest later.0 less later.1)
  follows-cost T _ number seen _ _ (has_no_history _ _ _ rest output follows) =
      let later = follows-cost T [] (number + 1) seen rest output follows in (later.0, of_none T rest later.0 later.1)

  states-cost : (T : Table) (bytes : List ℕ) (output : Output) → States telling undos T bytes output → (cost : ℕ) × StatesCost telling undos T bytes cost
  states-cost T bytes output states =
      let later = follows-cost T [] 1 (telling.shows T) (items_of undos bytes) states.0 states.1 in (telling.first_cost T + later.0, (later.0, later.1, refl))

-- behind stages that make a value ready
visited : {A : Type 0} (ready : Stage A) (outputs : A → Output → Type 0) (visits : A → ℕ → Type 0) → ((value : A) (output : Output) → outputs value output → (cost : ℕ) × visits value cost) →
    (opened : List (List ℕ)) (output : Output) → Then ready (λ value. Any (outputs value)) opened (goes output) → (cost : ℕ) × Then ready (λ value. Any (visits value)) opened (goes cost)
visited ready outputs visits each opened output stages =
    let first = through ready (λ value. Any (outputs value)) opened output stages in
    let cost = each first.value first.goes_on.1 first.goes_on.2 in (
      cost.0,
      record {
        between = goes first.value;
        before = first.before;
        after = first.after;
        begins = first.begins;
        goes_on = (first.goes_on.0, cost.0, cost.1, refl);
        in_order = first.in_order;
      },
    )

written : (ready : Stage Output) (opened : List (List ℕ)) (output : Output) → Then ready (λ written. Any (λ output. output ≡ written)) opened (goes output) →
    (cost : ℕ) × Then ready (λ written. Any (λ (cost : ℕ). cost ≡ 0)) opened (goes cost)
written ready = visited ready (λ written output. output ≡ written) (λ written cost. cost ≡ 0) (λ written output is. (0, refl))

asked-cost : (files : Files) (asked : Option Command) (opened : List (List ℕ)) (output : Output) → (behaviour asked).ends files opened (goes output) →
    (cost : ℕ) × (behaviour asked).costs files opened (goes cost)
asked-cost files None = written (Is (halts (stopped Usage usage_line)))
asked-cost files (Some (tell notice)) = written (Is (goes (notice_output notice)))
asked-cost files (Some (expand schema)) = written (Then (Expanding files schema) (λ flat. Is (goes (expanded flat))))
asked-cost files (Some (summarize report)) = written (Then (Reporting files report) (λ said. Is (goes (summed_up said))))
asked-cost files (Some (validate phase schema document)) =
    visited (Opening files phase schema document) (λ at output. output ≡ state at.plan at.tree) (λ at cost. cost ≡ (by_plan at.plan).first_cost at.tree)
    (λ at output is. ((by_plan at.plan).first_cost at.tree, refl))
asked-cost files (Some (follow undos phase schema document script)) =
    visited (OpeningAll files phase schema document script) (λ at. States (by_plan at.treed.plan) undos at.treed.tree at.script) (λ at. StatesCost (by_plan at.treed.plan) undos at.treed.tree at.script)
    (λ at. states-cost (by_plan at.treed.plan) undos at.treed.tree at.script)
asked-cost files (Some (watch named document script)) =
    visited (WatchingAll files named document script) (λ at. States (by_watches at.watched.expressions) 0 at.watched.tree at.script)
    (λ at. StatesCost (by_watches at.watched.expressions) 0 at.watched.tree at.script) (λ at. states-cost (by_watches at.watched.expressions) 0 at.watched.tree at.script)
asked-cost files (Some (measure items)) =
    visited (Making items) (λ at. Measures at.treed.plan at.treed.tree at.script) (λ at. StatesCost (by_plan at.treed.plan) 0 at.treed.tree at.script)
    (λ at output measures. states-cost (by_plan at.treed.plan) 0 at.treed.tree at.script measures.followed measures.states)

pub some-cost : SomeCost
some-cost words files = asked-cost files (command_of words)
