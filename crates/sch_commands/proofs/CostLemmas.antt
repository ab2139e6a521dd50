-- The commands of a script have their visits.
use Rattle.std.proofs.Common.{◌≡◌, ◌⊎◌, inl, inr, ℕ, ◌+◌, true, List, [], ◌∷◌, Option, None, Some, refl, ap, sym, subst}
use Rattle.std.specs.Prelude.{All}
use Rattle.std.proofs.lemmas.List.Elements.{All-head, All-tail}
use Rattle.doc_tree.specs.Kinds.{is_document}
use Rattle.doc_tree.specs.Laws.{WellFormed}
use Rattle.doc_tree.specs.Table.{Contents, Table}
use Rattle.doc_tree.specs.declared.refusal.EditRefusal.{EditRefusal}
use Rattle.edit_script.specs.Script.{Script, onto}
use Rattle.edit_script.specs.WellFormed.{WellFormedCommand}
use Rattle.edit_script.specs.declared.command.Command.{Command}
use Rattle.edit_script.specs.declared.fault.ScriptFault.{ScriptFault}
use Rattle.edit_commands.specs.Commands.{IsEdited, command_refusal}
use Rattle.edit_command_laws.specs.OneEdit.{OneEdit}
use Rattle.edit_command_laws.specs.SomeEdit.{EditsMakeTrees}
use Rattle.edit_command_laws.specs.TreesKept.{EditsKeepTrees}
use Rattle.sch_commands.specs.Telling.{Telling, edit_cost, under}
use Rattle.sch_commands.specs.inner.Scripts.{EditsCost, at_a_fault, at_the_end, of_edited, of_refused}
use Rattle.sch_commands.specs.inner.Sessions.{Document, HasCost}
use Rattle.sch_commands.proofs.ScriptCases.{CostsEdited, CostsRefused, costs-onto, refused-or-none}

-- a script by its parts
abbrev script_with : List Command → Option ScriptFault → Script
script_with commands fault = record { commands = commands; fault = fault }

-- what it costs does not depend on how a place is told
pub costs_same : (telling other : Telling) (T U : Table) (script rest : Script) (cost : ℕ) → telling ≡ other → T ≡ U → script ≡ rest → EditsCost telling T script cost → EditsCost other U rest cost
costs_same telling other T U script rest cost tellings trees scripts costs =
    subst (λ (s : Script). EditsCost other U s cost) scripts
    (subst (λ (X : Table). EditsCost other X script cost) trees
    (subst (λ (p : Telling). EditsCost p T script cost) tellings costs))

-- nor that there are such visits
pub costs_as : (at later : Document) (script left : Script) → later.telling ≡ at.telling → later.tree ≡ at.tree → left ≡ script → HasCost at script → HasCost later left
costs_as at later script left tellings trees scripts costs =
    (costs.0, costs_same at.telling later.telling at.tree.nodes later.tree.nodes script left costs.0 (sym tellings) (ap (λ (tree : Contents). tree.nodes) (sym trees)) (sym scripts) costs.1)

module _ (telling : Telling) where
  -- each command is refused, or makes a document
  module _ (makes_trees : EditsMakeTrees) (keeps_trees : EditsKeepTrees) where
    some_cost : (commands : List Command) (fault : Option ScriptFault) (T : Table) → WellFormed T → is_document T ≡ true → All WellFormedCommand commands →
        (cost : ℕ) × EditsCost telling T (script_with commands fault) cost
    some_cost [] None T tree document formed = (0, at_the_end T)
    some_cost [] (Some fault) T tree document formed = (0, at_a_fault T fault)
    some_cost (command ∷ commands) fault T tree document formed =
        by (command_refusal (under telling T) command) refl (λ U kept. some_cost commands fault U kept.0 kept.1 (All-tail WellFormedCommand command commands formed))
      where
        by : (o : Option EditRefusal) → command_refusal (under telling T) command ≡ o →
            ((U : Table) → WellFormed U × (is_document U ≡ true) → (cost : ℕ) × EditsCost telling U (script_with commands fault) cost) →
            (cost : ℕ) × EditsCost telling T (script_with (command ∷ commands) fault) cost
        by (Some reason) some behind =
            let later = behind T (tree, document) in
            (later.0, of_refused T command reason (script_with commands fault) later.0 some later.1)
        by None none behind =
            let made = makes_trees (under telling T) command tree (All-head WellFormedCommand command commands formed) none in
            let later = behind made.0 (keeps_trees (under telling T) command made.0 tree document none made.1) in
            (edit_cost telling T command made.0 + later.0, of_edited T made.0 command (script_with commands fault) later.0 none made.1 later.1)

    pub has_cost : (script : Script) (T : Table) → WellFormed T → is_document T ≡ true → All WellFormedCommand script.commands → (cost : ℕ) × EditsCost telling T script cost
    has_cost script = some_cost script.commands script.fault

  -- what comes behind a command has visits too: of a refused one
  pub past_refused : (T : Table) (command : Command) (reason : EditRefusal) (rest : Script) → command_refusal (under telling T) command ≡ Some reason →
      (cost : ℕ) × EditsCost telling T (onto command rest) cost → (cost : ℕ) × EditsCost telling T rest cost
  past_refused T command reason rest some costs = by (costs-onto telling T command rest costs.0 costs.1)
    where
      by : CostsRefused telling T command rest costs.0 ⊎ CostsEdited telling T command rest costs.0 → (cost : ℕ) × EditsCost telling T rest cost
      by (inl found) = (costs.0, found.costs)
      by (inr found) = absurd (refused-or-none some found.free)

  -- and of an accepted one
  pub past_edited : OneEdit → (T U : Table) (command : Command) (rest : Script) → command_refusal (under telling T) command ≡ None → IsEdited T command U →
      (cost : ℕ) × EditsCost telling T (onto command rest) cost → (cost : ℕ) × EditsCost telling U rest cost
  past_edited one_edit T U command rest none makes costs = by (costs-onto telling T command rest costs.0 costs.1)
    where
      by : CostsRefused telling T command rest costs.0 ⊎ CostsEdited telling T command rest costs.0 → (cost : ℕ) × EditsCost telling U rest cost
      by (inl found) = absurd (refused-or-none found.refused none)
      by (inr found) = (found.later, subst (λ (X : Table). EditsCost telling X rest found.later) (one_edit T found.made U command found.makes makes) found.costs)
