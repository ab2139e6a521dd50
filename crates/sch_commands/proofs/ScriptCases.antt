-- What comes of a script that begins with a command, by whether a reason speaks against the command.
use Rattle.std.proofs.Common.{◌≡◌, ◌⊎◌, inl, inr, ℕ, ◌+◌, List, [], ◌∷◌, ◌++◌, Option, None, Some, refl, sym, ap, ◌∙◌, subst}
use Rattle.doc_tree.specs.Table.{Table}
use Rattle.doc_tree.specs.declared.refusal.EditRefusal.{EditRefusal}
use Rattle.edit_script.specs.Script.{Script, nothing, onto, stops}
use Rattle.edit_script.specs.declared.command.Command.{Command}
use Rattle.edit_script.specs.declared.fault.ScriptFault.{ScriptFault}
use Rattle.edit_commands.specs.Commands.{IsEdited, command_refusal}
use Rattle.sch_undo.specs.shown.Shown.{Shown}
use Rattle.sch_stops.specs.EditLines.{edit_line, refused_line}
use Rattle.sch_stops.specs.Output.{Output}
use Rattle.sch_commands.specs.Telling.{Telling, edit_cost, under}
use Rattle.sch_commands.specs.Following.{then_shown}
use Rattle.sch_commands.specs.Output.{in_front}
use Rattle.sch_commands.specs.inner.Scripts.{EditsCost, Follows, at_a_fault, at_the_end, comes_to_end, edits, of_edited, of_refused, refuses, stops_at}

-- a script is at its end, or has a fault, or a command comes first
pub ends-or-stops : (fault : ScriptFault) → nothing ≡ stops fault → ⊥
ends-or-stops fault same = let faults : None ≡ Some fault = ap (λ (s : Script). s.fault) same in cc

pub ends-or-goes : (command : Command) (rest : Script) → nothing ≡ onto command rest → ⊥
ends-or-goes command rest same = let commands : [] ≡ command ∷ rest.commands = ap (λ (s : Script). s.commands) same in cc

pub stops-or-goes : (fault : ScriptFault) (command : Command) (rest : Script) → stops fault ≡ onto command rest → ⊥
stops-or-goes fault command rest same = let commands : [] ≡ command ∷ rest.commands = ap (λ (s : Script). s.commands) same in cc

pub command-same : (command other : Command) (rest more : Script) → onto command rest ≡ onto other more → (command ≡ other) × (rest ≡ more)
command-same command other rest more same =
    let commands : command ∷ rest.commands ≡ other ∷ more.commands = ap (λ (s : Script). s.commands) same in
    let first : command ≡ other = cc in
    let others : rest.commands ≡ more.commands = cc in
    let faults : rest.fault ≡ more.fault = ap (λ (s : Script). s.fault) same in
    (first, ap (λ (cs : List Command). record { commands = cs; fault = rest.fault }) others ∙ ap (λ (f : Option ScriptFault). record { commands = more.commands; fault = f }) faults)

pub refused-same : {o : Option EditRefusal} {a b : EditRefusal} → o ≡ Some a → o ≡ Some b → a ≡ b
refused-same p q = cc

pub refused-or-none : {o : Option EditRefusal} {a : EditRefusal} → o ≡ Some a → o ≡ None → ⊥
refused-or-none p q = cc

module _ (telling : Telling) where
  -- what is written behind a command that is refused, or done
  pub record WritesRefused (T : Table) (number : ℕ) (seen : Shown) (command : Command) (rest : Script) (output : Output) : Type 0 where
    pub reason : EditRefusal
    pub later : Output
    pub refused : command_refusal (under telling T) command ≡ Some reason
    pub follows : Follows telling T (number + 1) seen rest later
    pub is : output ≡ in_front (refused_line number reason) later

  pub record WritesEdited (T : Table) (number : ℕ) (seen : Shown) (command : Command) (rest : Script) (output : Output) : Type 0 where
    pub made : Table
    pub later : Output
    pub free : command_refusal (under telling T) command ≡ None
    pub makes : IsEdited T command made
    pub follows : Follows telling made (number + 1) (then_shown seen (telling.shows made)) rest later
    pub is : output ≡ in_front (edit_line number ++ telling.text made) later

  abbrev Writes : Table → ℕ → Shown → Command → Script → Output → Type 0
  Writes T number seen command rest output = WritesRefused T number seen command rest output ⊎ WritesEdited T number seen command rest output

  follows-behind : (T : Table) (number : ℕ) (seen : Shown) (command : Command) (rest script : Script) (output : Output) → script ≡ onto command rest → Follows telling T number seen script output →
      Writes T number seen command rest output
  follows-behind T number seen command rest _ _ same (comes_to_end _ _ _) = absurd (ends-or-goes command rest same)
  follows-behind T number seen command rest _ _ same (stops_at _ _ _ fault) = absurd (stops-or-goes fault command rest same)
  follows-behind T number seen command rest _ _ same (refuses _ _ _ other reason more later some follows) =
      let at = command-same other command more rest same in
      inl (record {
        reason = reason;
        later = later;
        refused = ap (command_refusal (under telling T)) (sym at.0) ∙ some;
        follows = subst (λ (s : Script). Follows telling T (number + 1) seen s later) at.1 follows;
        is = refl;
      })
  follows-behind T number seen command rest _ _ same (edits _ U _ _ other more later none makes follows) =
      let at = command-same other command more rest same in
      inr (record {
        made = U;
        later = later;
        free = ap (command_refusal (under telling T)) (sym at.0) ∙ none;
        makes = subst (λ (c : Command). IsEdited T c U) at.0 makes;
        follows = subst (λ (s : Script). Follows telling U (number + 1) (then_shown seen (telling.shows U)) s later) at.1 follows;
        is = refl;
      })

  pub follows-onto : (T : Table) (number : ℕ) (seen : Shown) (command : Command) (rest : Script) (output : Output) → Follows telling T number seen (onto command rest) output →
      Writes T number seen command rest output
  follows-onto T number seen command rest output follows = follows-behind T number seen command rest (onto command rest) output refl follows

  -- the visits behind a command that is refused, or done
  pub record CostsRefused (T : Table) (command : Command) (rest : Script) (cost : ℕ) : Type 0 where
    pub reason : EditRefusal
    pub refused : command_refusal (under telling T) command ≡ Some reason
    pub costs : EditsCost telling T rest cost

  pub record CostsEdited (T : Table) (command : Command) (rest : Script) (cost : ℕ) : Type 0 where
    pub made : Table
    pub later : ℕ
    pub free : command_refusal (under telling T) command ≡ None
    pub makes : IsEdited T command made
    pub costs : EditsCost telling made rest later
    pub is : cost ≡ edit_cost telling T command made + later

  costs-behind : (T : Table) (command : Command) (rest script : Script) (cost : ℕ) → script ≡ onto command rest → EditsCost telling T script cost → CostsRefused T command rest cost ⊎ CostsEdited T command rest cost
  costs-behind T command rest _ _ same (at_the_end _) = absurd (ends-or-goes command rest same)
  costs-behind T command rest _ _ same (at_a_fault _ fault) = absurd (stops-or-goes fault command rest same)
  costs-behind T command rest _ _ same (of_refused _ other reason more cost some costs) =
      let at = command-same other command more rest same in
      inl (record {
        reason = reason;
        refused = ap (command_refusal (under telling T)) (sym at.0) ∙ some;
        costs = subst (λ (s : Script). EditsCost telling T s cost) at.1 costs;
      })
  costs-behind T command rest _ _ same (of_edited _ U other more later none makes costs) =
      let at = command-same other command more rest same in
      inr (record {
        made = U;
        later = later;
        free = ap (command_refusal (under telling T)) (sym at.0) ∙ none;
        makes = subst (λ (c : Command). IsEdited T c U) at.0 makes;
        costs = subst (λ (s : Script). EditsCost telling U s later) at.1 costs;
        is = ap (λ (c : Command). edit_cost telling T c U + later) at.0;
      })

  pub costs-onto : (T : Table) (command : Command) (rest : Script) (cost : ℕ) → EditsCost telling T (onto command rest) cost → CostsRefused T command rest cost ⊎ CostsEdited T command rest cost
  costs-onto T command rest cost costs = costs-behind T command rest (onto command rest) cost refl costs

  -- no visits where no command comes
  none-behind : (T : Table) (script : Script) (cost : ℕ) → script.commands ≡ [] → EditsCost telling T script cost → cost ≡ 0
  none-behind T _ _ none (at_the_end _) = refl
  none-behind T _ _ none (at_a_fault _ fault) = refl
  none-behind T _ _ none (of_refused _ command reason rest cost some costs) = absurd (cc)
  none-behind T _ _ none (of_edited _ U command rest later free makes costs) = absurd (cc)

  pub costs-nothing : (T : Table) (cost : ℕ) → EditsCost telling T nothing cost → cost ≡ 0
  costs-nothing T cost costs = none-behind T nothing cost refl costs

  pub costs-stops : (T : Table) (fault : ScriptFault) (cost : ℕ) → EditsCost telling T (stops fault) cost → cost ≡ 0
  costs-stops T fault cost costs = none-behind T (stops fault) cost refl costs
