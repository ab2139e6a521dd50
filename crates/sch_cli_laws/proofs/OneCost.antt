-- The words and the files decide the visits.
use Rattle.std.proofs.Common.{◌≡◌, ℕ, ◌+◌, Bool, ◌||◌, List, [], ◌∷◌, ◌++◌, take, Option, None, Some, refl, sym, ap, ap₂, ◌∙◌, subst, subst₂, arith}
use Rattle.sch_io.specs.Files.{Files}
use Rattle.doc_tree.specs.cell.Cell.{Cell}
use Rattle.doc_tree.specs.Table.{Table}
use Rattle.edit_command_laws.specs.OneEdit.{OneEdit}
use Rattle.edit_commands.specs.Commands.{IsEdited}
use Rattle.edit_commands.specs.Touched.{touched_by}
use Rattle.edit_script.specs.Undos as item
use Rattle.edit_script.specs.declared.command.Command.{Command as Edit}
use Rattle.name_scopes.specs.ScopedTree.{OneTree}
use Rattle.sch_include.specs.Included.{OneInclusion}
use Rattle.sch_plan.specs.OnePlan.{OnePlan}
use Rattle.sch_words.specs.Commands.{Command, tell, expand, validate, follow, measure, summarize, watch, command_of}
use Rattle.sch_words.specs.declared.status.Status.TheVariants.{Usage}
use Rattle.sch_stops.specs.Output.{Output, stopped, usage_line}
use Rattle.sch_loading.specs.Loading.{Expanding, Reporting}
use Rattle.sch_loading.specs.Stages.{Is, Stage, Then, goes, halts}
use Rattle.sch_loading.proofs.StageLemmas.{Single, one-by, one-is, one-then}
use Rattle.sch_cli.specs.Following.{Earlier, earlier_of, items_of}
use Rattle.sch_cli.specs.Telling.{Telling, by_plan, by_watches, edit_cost}
use Rattle.sch_cli.specs.InTurn.{TouchesInTurn, none as no_cells, then as more_cells}
use Rattle.watch_lines_laws.specs.Reading.{OneReading}
use Rattle.sch_cli.specs.Behaviours.{Any, Making, Opening, OpeningAll, StatesCost, WatchingAll, behaviour}
use Rattle.sch_cli.specs.Output.{expanded, notice_output, summed_up}
use Rattle.sch_cli.specs.Steps.{EditsCost, at_a_fault, at_the_end, of_edited, of_lacking, of_none, of_refused, of_undone}
use Rattle.sch_cli_laws.proofs.OneOutput.{one-expanding, one-making, one-opening, one-opening-all, one-reporting, one-watching-all}
use Rattle.sch_cli_laws.specs.Decided.{OneCost}
use Rattle.sch_cli.proofs.ScriptCases.{refused-or-none}

-- the last of some commands, and those before it
none-last : (commands : List Edit) (command : Edit) → [] ≡ commands ++ command ∷ [] → ⊥
none-last [] command same = cc
none-last (first ∷ commands) command same = cc

last-same : (commands others : List Edit) (command other : Edit) → commands ++ command ∷ [] ≡ others ++ other ∷ [] → (commands ≡ others) × (command ≡ other)
last-same [] [] command other same = let first : command ≡ other = cc in (refl, first)
last-same [] (more ∷ others) command other same = let left : [] ≡ others ++ other ∷ [] = cc in absurd (none-last others other left)
last-same (first ∷ commands) [] command other same = let left : commands ++ command ∷ [] ≡ [] = cc in absurd (none-last commands command (sym left))
last-same (first ∷ commands) (more ∷ others) command other same =
    let heads : first ≡ more = cc in
    let tails : commands ++ command ∷ [] ≡ others ++ other ∷ [] = cc in
    let rest = last-same commands others command other tails in
    (ap (λ (c : Edit). c ∷ commands) heads ∙ ap (λ (cs : List Edit). more ∷ cs) rest.0, rest.1)

module _ (one_edit : OneEdit) where
  -- commands in turn make one table, and touch the same cells
  one-touched : (T U V : Table) (commands others : List Edit) (touched cells : Cell → Bool) → commands ≡ others → TouchesInTurn T commands U touched → TouchesInTurn T others V cells →
      (V ≡ U) × (cells ≡ touched)
  one-touched T _ _ _ _ _ _ same no_cells no_cells = (refl, refl)
  one-touched T _ _ _ _ _ _ same no_cells (more_cells others other V W cells more so) = absurd (none-last others other same)
  one-touched T _ _ _ _ _ _ same (more_cells commands command U X touched before makes) no_cells = absurd (none-last commands command (sym same))
  one-touched T _ _ _ _ _ _ same (more_cells commands command U X touched before makes) (more_cells others other V W cells more so) =
      let last = last-same commands others command other same in
      let ready = one-touched T U V commands others touched cells last.0 before more in
      let made : IsEdited U command W = subst₂ (λ (Y : Table) (c : Edit). IsEdited Y c W) ready.0 (sym last.1) so in (
        one_edit U W X command made makes,
        ap (λ (t : Cell → Bool). (λ (c : Cell). t c || touched_by V other c)) ready.1
            ∙ ap₂ (λ (Y : Table) (e : Edit). (λ (c : Cell). touched c || touched_by Y e c)) ready.0 (sym last.1),
      )

module _ (one_edit : OneEdit) (telling : Telling) (undos : ℕ) where
  one-edits-cost : (T : Table) (backs : List Earlier) (items : item.Items) (a b : ℕ) → EditsCost telling undos T backs items a → EditsCost telling undos T backs items b → a ≡ b
  one-edits-cost T backs _ _ _ (at_the_end _ _) (at_the_end _ _) = refl
  one-edits-cost T backs _ _ _ (at_a_fault _ _ fault) (at_a_fault _ _ _) = refl
  one-edits-cost T backs _ _ _ (of_refused _ _ command reason rest a some costs) (of_refused _ _ _ _ _ b so other) = one-edits-cost T backs rest a b costs other
  one-edits-cost T backs _ _ _ (of_refused _ _ command reason rest a some costs) (of_edited _ V _ _ _ b none makes other) = absurd (refused-or-none some none)
  one-edits-cost T backs _ _ _ (of_edited _ U _ command rest a none makes costs) (of_refused _ _ _ _ _ b some other) = absurd (refused-or-none some none)
  one-edits-cost T backs _ _ _ (of_edited _ U _ command rest a none makes costs) (of_edited _ V _ _ _ b free made other) =
      let trees : V ≡ U = one_edit T V U command made makes in
      ap (λ (n : ℕ). edit_cost telling T command U + n) (one-edits-cost U (take undos (earlier_of T command ∷ backs)) rest a b costs
      (subst (λ (X : Table). EditsCost telling undos X (take undos (earlier_of T command ∷ backs)) rest b) trees other))
      ∙ ap (λ (X : Table). edit_cost telling T command X + b) (sym trees)
  one-edits-cost T _ _ _ _ (of_undone _ U back backs touched rest a taken cells costs) (of_undone _ V _ _ others _ b so same other) =
      let one = one-touched one_edit T U V back.commands back.commands touched others refl cells same in
      ap (λ (n : ℕ). telling.cost_anew T touched U + n) (one-edits-cost U backs rest a b costs (subst (λ (X : Table). EditsCost telling undos X backs rest b) one.0 other))
      ∙ ap₂ (λ (t : Cell → Bool) (X : Table). telling.cost_anew T t X + b) (sym one.1) (sym one.0)
  one-edits-cost T _ _ _ _ (of_undone _ U back backs touched rest a taken cells costs) (of_lacking _ _ _ _ b less other) = absurd (omega (arith, less, taken.enough))
  one-edits-cost T _ _ _ _ (of_lacking _ back backs rest a less costs) (of_undone _ V _ _ others _ b taken same other) = absurd (omega (arith, less, taken.enough))
  one-edits-cost T _ _ _ _ (of_lacking _ back backs rest a less costs) (of_lacking _ _ _ _ b so other) = one-edits-cost T (back ∷ backs) rest a b costs other
  one-edits-cost T _ _ _ _ (of_none _ rest a costs) (of_none _ _ b other) = one-edits-cost T [] rest a b costs other

  one-states-cost : (T : Table) (bytes : List ℕ) (a b : ℕ) → StatesCost telling undos T bytes a → StatesCost telling undos T bytes b → a ≡ b
  one-states-cost T bytes a b p q =
      p.2 ∙ ap (λ (n : ℕ). telling.first_cost T + n) (one-edits-cost T [] (items_of undos bytes) p.0 q.0 p.1 q.1) ∙ sym q.2

module _ (one_tree : OneTree) (one_inclusion : OneInclusion) (one_plan : OnePlan) (one_edit : OneEdit) (one_reading : OneReading) (files : Files) where
  visited : {A : Type 0} (ready : Stage A) (visits : A → ℕ → Type 0) → Single ready → ((value : A) (a b : ℕ) → visits value a → visits value b → a ≡ b) → Single (Then ready (λ value. Any (visits value)))
  visited ready visits one each = one-then ready (λ value. Any (visits value)) one (λ value. one-by (visits value) goes (each value))

  written : (ready : Stage Output) → Single ready → Single (Then ready (λ written. Any (λ (cost : ℕ). cost ≡ 0)))
  written ready one = visited ready (λ written cost. cost ≡ 0) one (λ written a b p q. p ∙ sym q)

  one-costs : (asked : Option Command) → Single ((behaviour asked).costs files)
  one-costs None = written (Is (halts (stopped Usage usage_line))) (one-is (halts (stopped Usage usage_line)))
  one-costs (Some (tell notice)) = written (Is (goes (notice_output notice))) (one-is (goes (notice_output notice)))
  one-costs (Some (expand schema)) =
      written (Then (Expanding files schema) (λ flat. Is (goes (expanded flat))))
      (one-then (Expanding files schema) (λ flat. Is (goes (expanded flat))) (one-expanding one_tree one_inclusion one_plan one_edit files schema) (λ flat. one-is (goes (expanded flat))))
  one-costs (Some (summarize report)) =
      written (Then (Reporting files report) (λ said. Is (goes (summed_up said))))
      (one-then (Reporting files report) (λ said. Is (goes (summed_up said))) (one-reporting one_tree one_inclusion one_plan one_edit files report) (λ said. one-is (goes (summed_up said))))
  one-costs (Some (validate phase schema document)) =
      visited (Opening files phase schema document) (λ at cost. cost ≡ (by_plan at.plan).first_cost at.tree) (one-opening one_tree one_inclusion one_plan one_edit files phase schema document) (λ at a b p q. p ∙ sym q)
  one-costs (Some (follow undos phase schema document script)) =
      visited (OpeningAll files phase schema document script) (λ at. StatesCost (by_plan at.treed.plan) undos at.treed.tree at.script)
      (one-opening-all one_tree one_inclusion one_plan one_edit files phase schema document script) (λ at. one-states-cost one_edit (by_plan at.treed.plan) undos at.treed.tree at.script)
  one-costs (Some (watch named document script)) =
      visited (WatchingAll files named document script) (λ at. StatesCost (by_watches at.watched.expressions) 0 at.watched.tree at.script)
      (one-watching-all one_tree one_inclusion one_plan one_edit files one_reading named document script)
      (λ at. one-states-cost one_edit (by_watches at.watched.expressions) 0 at.watched.tree at.script)
  one-costs (Some (measure items)) =
      visited (Making items) (λ at. StatesCost (by_plan at.treed.plan) 0 at.treed.tree at.script) (one-making one_tree one_inclusion one_plan one_edit items)
      (λ at. one-states-cost one_edit (by_plan at.treed.plan) 0 at.treed.tree at.script)

pub one-cost : OneTree → OneInclusion → OnePlan → OneEdit → OneReading → OneCost
one-cost one_tree one_inclusion one_plan one_edit one_reading words files a b p q =
    let same : goes a ≡ goes b = (one-costs one_tree one_inclusion one_plan one_edit one_reading files (command_of words) p.0 q.0 (goes a) (goes b) p.1 q.1 tt tt).1 in cc
