-- What holds of a command at its node holds of the command.
use Rattle.std.proofs.Common.{◌≡◌, ℕ, List, None, Some, sym, ap, ◌∙◌, subst}
use Rattle.std.specs.Prelude.{Result, Ok, Err, IfErr, IfOk, OnErr, OnOk}
use Rattle.doc_tree.specs.cell.Cell.{Cell}
use Rattle.doc_tree.specs.Table.{Contents}
use Rattle.doc_edit_laws.specs.Along.{Edit}
use Rattle.name_scopes.specs.Scoping.{InScope}
use Rattle.edit_script.specs.declared.command.Command.{Command}
use Rattle.edit_script.specs.declared.command.PathStep.{PathStep}
use Rattle.edit_commands.specs.declared.refusal.ApplyError.{ApplyError}
use Rattle.edit_commands.specs.declared.refusal.ApplyError.TheVariants.{Refused, Memory}
use Rattle.edit_commands.specs.declared.touched.Touched.{Touched}
use Rattle.edit_commands.specs.Commands.{IsEdited, MayWantMemoryWhere, RefusesCommand, command_refusal, path_of, refusal_where}
use Rattle.edit_commands.specs.Paths.{node_named}
use Rattle.edit_commands.specs.Touched.{holds_cell, touched_by, touched_where}
use Rattle.edit_commands.specs.inner.Done.{Done, NotDone}

-- a command by its path
module _ (before after : Contents) (n : ℕ) (command : Command) (by_path : List PathStep → Command) (path : List PathStep) (is : command ≡ by_path path) where
  pub done-by : (result : Result Touched ApplyError) → IfOk result (λ touched. (steps : List PathStep) → Done before after (by_path steps) n touched) → IfOk result (Done before after command n)
  done-by (Ok touched) h = subst (λ (c : Command). Done before after c n touched) (sym is) (h path)
  done-by (Err e) h = tt

-- a command whose path names the node
module _ (before after : Contents) (n : ℕ) (command : Command) (named : node_named before.nodes (path_of command) ≡ Some n) where
  pub within : (result : Result Touched ApplyError) → IfOk result (Done before after command n) → OnOk result (command_refusal before command ≡ None)
  within (Ok touched) h = ap (refusal_where before command) named ∙ h.within
  within (Err e) h = tt

  pub edited : (result : Result Touched ApplyError) → IfOk result (Done before after command n) → OnOk result (IsEdited before.nodes command after.nodes)
  edited (Ok touched) h = record { node = n; named = named; edited = h.edited }
  edited (Err e) h = tt

  pub holds : (result : Result Touched ApplyError) → IfOk result (Done before after command n) →
      IfOk result (λ touched. (c : Cell) → holds_cell after.nodes touched c ≡ touched_by before.nodes command c)
  holds (Ok touched) h = λ c. h.holds c ∙ ap (λ o. touched_where before.nodes command o c) (sym named)
  holds (Err e) h = tt

  pub edit : (result : Result Touched ApplyError) → IfOk result (Done before after command n) → OnOk result (Edit before.nodes after.nodes (touched_by before.nodes command))
  edit (Ok touched) h = subst (λ o. Edit before.nodes after.nodes (touched_where before.nodes command o)) (sym named) h.edit
  edit (Err e) h = tt

  pub scope : (result : Result Touched ApplyError) → IfOk result (Done before after command n) → IfErr result (NotDone before after command n) → InScope before.nodes → InScope after.nodes
  scope (Ok touched) h g s = h.scope s
  scope (Err e) h g s = subst (λ (t : Contents). InScope t.nodes) (sym g.unchanged) s

  pub refused : (result : Result Touched ApplyError) → IfErr result (NotDone before after command n) → IfErr result (RefusesCommand before command)
  refused (Ok touched) g = tt
  refused (Err (Refused found)) g = ap (refusal_where before command) named ∙ g.refused
  refused (Err Memory) g = subst (λ o. MayWantMemoryWhere before command o) (sym named) g.refused

  pub unchanged : (result : Result Touched ApplyError) → IfErr result (NotDone before after command n) → OnErr result (after ≡ before)
  unchanged (Ok touched) g = tt
  unchanged (Err e) g = g.unchanged
