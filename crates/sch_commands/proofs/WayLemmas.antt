-- There is a way through each script, and it goes on from place to place.
use Rattle.std.proofs.Common.{◌≡◌, ◌⊎◌, inl, inr, ℕ, zero, suc, ◌+◌, ◌<◌, ◌≤◌, Bool, true, false, ◌||◌, List, [], ◌∷◌, ◌++◌, length, take, Option, None, Some, refl, sym, ap, ◌∙◌, subst, subst₂, append-nil, append_assoc, arith, All}
use Rattle.std.proofs.lemmas.Bool.{cases_lt}
use Rattle.std.proofs.lemmas.List.{take-map}
use Rattle.std.proofs.lemmas.List.Elements.{All-head, All-tail}
use Rattle.doc_tree.specs.cell.Cell.{Cell}
use Rattle.doc_tree.specs.Kinds.{is_document}
use Rattle.doc_tree.specs.Laws.{WellFormed}
use Rattle.doc_tree.specs.Table.{Contents, Table}
use Rattle.doc_tree.specs.Walks.{order}
use Rattle.doc_tree.specs.declared.refusal.EditRefusal.{EditRefusal}
use Rattle.doc_tree.specs.declared.refusal.EditRefusal.TheVariants.{IdsSpent}
use Rattle.doc_tree.specs.limits.TheConstants.{MAX_NODE_NUMBERS}
use Rattle.name_scopes.specs.Scoping.{InScope}
use Rattle.edit_script.specs.Script.{script_of}
use Rattle.edit_script.specs.Undos as item
use Rattle.edit_script.specs.WellFormed.{WellFormedCommand}
use Rattle.edit_script.specs.declared.command.Command.{Command}
use Rattle.edit_script.specs.declared.fault.ScriptFault.{ScriptFault}
use Rattle.edit_script.specs.declared.limits.TheConstants.{MAX_SCRIPT_BYTES}
use Rattle.edit_commands.specs.Commands.{IsEdited, command_refusal}
use Rattle.edit_commands.specs.Touched.{touched_by}
use Rattle.edit_cap_laws.specs.Within.{EditsStayWithin}
use Rattle.edit_command_laws.specs.OneEdit.{OneEdit}
use Rattle.edit_command_laws.specs.SomeEdit.{EditsMakeTrees, ScriptsAreWellFormed}
use Rattle.edit_command_laws.specs.TreesKept.{EditsKeepTrees}
use Rattle.edit_iso_laws.specs.CommandsMove.{DoneInTurn, none, then}
use Rattle.edit_iso_laws.proofs.InTurnLemmas.{kept-in-turn}
use Rattle.sch_undo.specs.Undoing.{CommandsAreUndone, UndoingsAreFormed}
use Rattle.edit_way_laws.specs.Items.{AreFormed, ItemsAreWellFormed}
use Rattle.edit_way_laws.specs.Staying.{EditsStayInScope, NumbersGrow}
use Rattle.sch_undo.specs.shown.Shown.{Shown}
use Rattle.sch_undo.specs.Histories.{HistoriesStand, LeadsBack, Returns, StandsFor}
use Rattle.sch_undo.proofs.HistoryLemmas.{one-end}
use Rattle.sch_undo.specs.InTurn.{TouchesInTurn}
use Rattle.sch_undo.specs.InTurn as turn
use Rattle.sch_undo.proofs.BackLemmas.{leads-back}
use Rattle.sch_words.specs.declared.status.Status.TheVariants.{ScriptRefused}
use Rattle.sch_stops.specs.EditLines.{edit_line, no_history_line, refused_line, undo_line}
use Rattle.sch_stops.specs.Output.{Output, stopped}
use Rattle.sch_stops.specs.Refusals.{script_refused_line}
use Rattle.sch_stops.specs.declared.refusal.ScriptRefusal.TheVariants.{Faulted}
use Rattle.sch_commands.specs.Following.{Earlier, Follows, IsTakenBack, comes_to_end, earlier_of, edits, edits_alone, has_no_history, items_of, lacks_numbers, refuses, stops_at, then_shown, undoes}
use Rattle.sch_commands.specs.Output.{ended, in_front}
use Rattle.sch_commands.specs.Steps.{EditsCost, at_a_fault, at_the_end, of_edited, of_lacking, of_none, of_refused, of_undone}
use Rattle.sch_commands.specs.Telling.{Telling, edit_cost, under}
use Rattle.sch_commands.specs.inner.Ways.{CanGoOn, Way, entries_of, entry_of, over_edited, over_lacking, over_none, over_refused, over_undone, to_end, to_fault, trees_of}

-- The items of a script

-- those of a script in which nothing is undone are its commands
alone-formed : (commands : List Command) (fault : Option ScriptFault) → All WellFormedCommand commands → AreFormed (edits_alone commands fault)
alone-formed [] None formed = tt
alone-formed [] (Some found) formed = tt
alone-formed (command ∷ commands) fault formed =
    (All-head WellFormedCommand command commands formed, alone-formed commands fault (All-tail WellFormedCommand command commands formed))

pub items-formed : ScriptsAreWellFormed → ItemsAreWellFormed → (undos : ℕ) (bytes : List ℕ) → length bytes ≤ MAX_SCRIPT_BYTES → AreFormed (items_of undos bytes)
items-formed scripts items zero bytes short = alone-formed (script_of bytes).commands (script_of bytes).fault (scripts bytes short)
items-formed scripts items (suc undos) bytes short = items bytes short

-- Commands in turn

-- commands that are done in turn touch some cells
touches-behind : (T : Table) (here after : Contents) (front commands : List Command) (touched : Cell → Bool) → DoneInTurn here commands after →
    TouchesInTurn T front here.nodes touched → (all : Cell → Bool) × TouchesInTurn T (front ++ commands) after.nodes all
touches-behind T _ _ front _ touched (none here) so_far =
    (touched, subst (λ (cs : List Command). TouchesInTurn T cs here.nodes touched) (sym (append-nil front)) so_far)
touches-behind T _ _ front _ touched (then here next after command commands free edited kept rest) so_far =
    let more : TouchesInTurn T (front ++ command ∷ []) next.nodes (λ c. touched c || touched_by here.nodes command c) =
    (turn.then) front command here.nodes next.nodes touched so_far edited in
    let on = touches-behind T next after (front ++ command ∷ []) commands (λ c. touched c || touched_by here.nodes command c) rest more in
    (on.0, subst (λ (cs : List Command). TouchesInTurn T cs after.nodes on.0) (append_assoc front (command ∷ []) commands) on.1)

pub touches : (before after : Contents) (commands : List Command) → DoneInTurn before commands after → (touched : Cell → Bool) × TouchesInTurn before.nodes commands after.nodes touched
touches before after commands done = touches-behind before.nodes before after [] commands (λ _. false) done (turn.none)

-- a document in scope stays so
scoped-in-turn : EditsKeepTrees → EditsStayInScope → (before after : Contents) (commands : List Command) → WellFormed before.nodes → is_document before.nodes ≡ true →
    InScope before.nodes → All WellFormedCommand commands → DoneInTurn before commands after → InScope after.nodes
scoped-in-turn keeps stay _ _ _ form document scoped formed (none before) = scoped
scoped-in-turn keeps stay _ _ _ form document scoped formed (then before next after command commands free edited kept rest) =
    let here = keeps before command next.nodes form document free edited in
    scoped-in-turn keeps stay next after commands here.0 here.1
    (stay before command next.nodes form scoped (All-head WellFormedCommand command commands formed) free edited) (All-tail WellFormedCommand command commands formed) rest

-- no more nodes live than may be
within-in-turn : EditsKeepTrees → EditsStayWithin → (before after : Contents) (commands : List Command) → WellFormed before.nodes → is_document before.nodes ≡ true →
    length (order before.nodes) ≤ before.pair_cap → DoneInTurn before commands after → length (order after.nodes) ≤ before.pair_cap
within-in-turn keeps fit _ _ _ form document few (none before) = few
within-in-turn keeps fit _ _ _ form document few (then before next after command commands free edited kept rest) =
    let here = keeps before command next.nodes form document free edited in
    let still : length (order next.nodes) ≤ next.pair_cap = omega (arith, fit before command next.nodes form document free edited few, kept) in
    omega (arith, within-in-turn keeps fit next after commands here.0 here.1 still rest, kept)

-- the laws by which there is a way
pub record WayLaws : Type 0 where
  pub makes : EditsMakeTrees
  pub keeps : EditsKeepTrees
  pub fit : EditsStayWithin
  pub stay : EditsStayInScope
  pub grow : NumbersGrow
  pub undone : CommandsAreUndone
  pub formed : UndoingsAreFormed
  pub stand : HistoriesStand

refused-or-none : {o : Option EditRefusal} {a : EditRefusal} → o ≡ Some a → o ≡ None → ⊥
refused-or-none p q = cc

module _ (telling : Telling) (undos : ℕ) where
  -- no reason against a command depends on names
  done-under : (before after : Contents) (commands : List Command) → before.pair_cap ≡ telling.pair_cap → DoneInTurn before commands after →
      DoneInTurn (under telling before.nodes) commands (under telling after.nodes)
  done-under _ _ _ cap (none before) = none (under telling before.nodes)
  done-under _ _ _ cap (then before next after command commands free edited kept rest) =
      then (under telling before.nodes) (under telling next.nodes) (under telling after.nodes) command commands
      (ap (λ (count : ℕ). command_refusal (record { nodes = before.nodes; names = before.names; pair_cap = count }) command) (sym cap) ∙ free) edited refl
      (done-under next after commands (kept ∙ cap) rest)

  -- no edit can be undone yet
  pub can-start : (T : Table) → WellFormed T → InScope T → is_document T ≡ true → length (order T) ≤ telling.pair_cap → CanGoOn telling T []
  can-start T form scoped document within = record { well_formed = form; scoped = scoped; document = document; within = within; stands = tt }

  -- behind an edit
  can-edit : WayLaws → (T U : Table) (backs : List Earlier) (command : Command) → CanGoOn telling T backs → WellFormedCommand command →
      command_refusal (under telling T) command ≡ None → IsEdited T command U → CanGoOn telling U (take undos (earlier_of T command ∷ backs))
  can-edit laws T U backs command can good free edited =
      let kept = laws.keeps (under telling T) command U can.well_formed can.document free edited in
      let leads : LeadsBack (under telling U) (entry_of (earlier_of T command)) (under telling T) =
      leads-back laws.undone laws.formed (under telling T) (under telling U) command (entry_of (earlier_of T command)) can.well_formed can.scoped can.document can.within good free edited refl
      (laws.grow (under telling T) command U can.well_formed free edited) refl refl in
      record {
        well_formed = kept.0;
        scoped = laws.stay (under telling T) command U can.well_formed can.scoped good free edited;
        document = kept.1;
        within = laws.fit (under telling T) command U can.well_formed can.document free edited can.within;
        stands =
            subst₂ (StandsFor (under telling U)) (take-map entry_of undos (earlier_of T command ∷ backs))
            (take-map (λ (back : Earlier). under telling back.tree) undos (earlier_of T command ∷ backs))
            (laws.stand.kept undos (under telling U) (entries_of (earlier_of T command ∷ backs)) (trees_of telling (earlier_of T command ∷ backs)) (leads, can.stands));
      }

  -- an edit that can be undone, and what is then
  pub record TakesBack (T : Table) (back : Earlier) (backs : List Earlier) : Type 0 where
    pub made : Table
    pub taken : IsTakenBack telling T back made
    pub touched : Cell → Bool
    pub touches : TouchesInTurn T back.commands made touched
    pub can : CanGoOn telling made backs

  can-undo : WayLaws → (T : Table) (back : Earlier) (backs : List Earlier) → CanGoOn telling T (back ∷ backs) → length T + back.numbers ≤ MAX_NODE_NUMBERS → TakesBack T back backs
  can-undo laws T back backs can room =
      let leads : LeadsBack (under telling T) (entry_of back) (under telling back.tree) = can.stands.0 in
      let returns : Returns (under telling T) (entry_of back) (under telling back.tree) = leads.returns room in
      let U : Table = returns.end.nodes in
      let done : DoneInTurn (under telling T) back.commands (under telling U) = done-under (under telling T) returns.end back.commands refl returns.done in
      let kept = kept-in-turn laws.keeps (under telling T) (under telling U) back.commands can.well_formed can.document done in
      let after = laws.stand.undone (under telling T) (under telling U) (entry_of back) (entries_of backs) (under telling back.tree) (trees_of telling backs) can.well_formed can.document can.stands done room in
      let cells = touches (under telling T) (under telling U) back.commands done in
      record {
        made = U;
        taken = record { enough = room; done = done; same = returns.same };
        touched = cells.0;
        touches = cells.1;
        can = record {
          well_formed = kept.0;
          scoped = scoped-in-turn laws.keeps laws.stay (under telling T) (under telling U) back.commands can.well_formed can.document can.scoped leads.formed done;
          document = kept.1;
          within = within-in-turn laws.keeps laws.fit (under telling T) (under telling U) back.commands can.well_formed can.document can.within done;
          stands = after.1;
        };
      }

  -- There is a way

  -- a command is refused, or makes a document
  past-command : WayLaws → (T : Table) (backs : List Earlier) (command : Command) (rest : item.Items) → CanGoOn telling T backs → WellFormedCommand command →
      ((U : Table) (others : List Earlier) → CanGoOn telling U others → Way telling undos U others rest) → Way telling undos T backs (item.edits command rest)
  past-command laws T backs command rest can good on = by (command_refusal (under telling T) command) refl
    where
      by : (o : Option EditRefusal) → command_refusal (under telling T) command ≡ o → Way telling undos T backs (item.edits command rest)
      by (Some reason) some = over_refused T backs command reason rest some (on T backs can)
      by None free =
          let made = laws.makes (under telling T) command can.well_formed good free in
          over_edited T made.0 backs command rest free made.1 (on made.0 (take undos (earlier_of T command ∷ backs)) (can-edit laws T made.0 backs command can good free made.1))

  -- the newest edit is undone, or needs more numbers than are left
  past-undo : WayLaws → (T : Table) (back : Earlier) (backs : List Earlier) (rest : item.Items) → CanGoOn telling T (back ∷ backs) →
      ((U : Table) (others : List Earlier) → CanGoOn telling U others → Way telling undos U others rest) → Way telling undos T (back ∷ backs) (item.undoes rest)
  past-undo laws T back backs rest can on = by (cases_lt MAX_NODE_NUMBERS (length T + back.numbers))
    where
      by : (MAX_NODE_NUMBERS < length T + back.numbers) ⊎ (length T + back.numbers ≤ MAX_NODE_NUMBERS) → Way telling undos T (back ∷ backs) (item.undoes rest)
      by (inl less) = over_lacking T back backs rest less (on T (back ∷ backs) can)
      by (inr room) =
          let takes : TakesBack T back backs = can-undo laws T back backs can room in
          over_undone T takes.made back backs takes.touched rest takes.taken takes.touches (on takes.made backs takes.can)

  pub ways-exist : WayLaws → (items : item.Items) (T : Table) (backs : List Earlier) → CanGoOn telling T backs → AreFormed items → Way telling undos T backs items
  ways-exist laws item.ends T backs can formed = to_end T backs
  ways-exist laws (item.breaks fault) T backs can formed = to_fault T backs fault
  ways-exist laws (item.edits command rest) T backs can formed = past-command laws T backs command rest can formed.0 (λ U others on. ways-exist laws rest U others on formed.1)
  ways-exist laws (item.undoes rest) T [] can formed = over_none T rest (ways-exist laws rest T [] can formed)
  ways-exist laws (item.undoes rest) T (back ∷ backs) can formed = past-undo laws T back backs rest can (λ U others on. ways-exist laws rest U others on formed)

  -- What comes along it

  -- visits
  pub way-cost : (T : Table) (backs : List Earlier) (items : item.Items) → Way telling undos T backs items → (cost : ℕ) × EditsCost telling undos T backs items cost
  way-cost _ _ _ (to_end T backs) = (0, at_the_end T backs)
  way-cost _ _ _ (to_fault T backs fault) = (0, at_a_fault T backs fault)
  way-cost _ _ _ (over_refused T backs command reason rest some way) =
      let later = way-cost T backs rest way in (later.0, of_refused T backs command reason rest later.0 some later.1)
  way-cost _ _ _ (over_edited T U backs command rest free edited way) =
      let later = way-cost U (take undos (earlier_of T command ∷ backs)) rest way in
      (edit_cost telling T command U + later.0, of_edited T U backs command rest later.0 free edited later.1)
  way-cost _ _ _ (over_undone T U back backs touched rest taken cells way) =
      let later = way-cost U backs rest way in (telling.cost_anew T touched U + later.0, of_undone T U back backs touched rest later.0 taken cells later.1)
  way-cost _ _ _ (over_lacking T back backs rest less way) =
      let later = way-cost T (back ∷ backs) rest way in (later.0, of_lacking T back backs rest later.0 less later.1)
  way-cost _ _ _ (over_none T rest way) = let later = way-cost T [] rest way in (later.0, of_none T rest later.0 later.1)

  -- an output
  pub way-follows : (T : Table) (backs : List Earlier) (number : ℕ) (seen : Shown) (items : item.Items) → Way telling undos T backs items →
      (output : Output) × Follows telling undos T backs number seen items output
  way-follows _ _ number seen _ (to_end T backs) = (ended [] seen, comes_to_end T backs number seen)
  way-follows _ _ number seen _ (to_fault T backs fault) =
      (stopped ScriptRefused (script_refused_line (Faulted fault)), stops_at T backs number seen fault)
  way-follows _ _ number seen _ (over_refused T backs command reason rest some way) =
      let later = way-follows T backs (number + 1) seen rest way in
      (in_front (refused_line number reason) later.0, refuses T backs number seen command reason rest later.0 some later.1)
  way-follows _ _ number seen _ (over_edited T U backs command rest free edited way) =
      let later = way-follows U (take undos (earlier_of T command ∷ backs)) (number + 1) (then_shown seen (telling.shows U)) rest way in
      (in_front (edit_line number ++ telling.text U) later.0, edits T U backs number seen command rest later.0 free edited later.1)
  way-follows _ _ number seen _ (over_undone T U back backs touched rest taken cells way) =
      let later = way-follows U backs (number + 1) (then_shown seen (telling.shows U)) rest way in
      (in_front (undo_line number ++ telling.text U) later.0, undoes T U back backs number seen rest later.0 taken later.1)
  way-follows _ _ number seen _ (over_lacking T back backs rest less way) =
      let later = way-follows T (back ∷ backs) (number + 1) seen rest way in
      (in_front (refused_line number IdsSpent) later.0, lacks_numbers T back backs number seen rest later.0 less later.1)
  way-follows _ _ number seen _ (over_none T rest way) =
      let later = way-follows T [] (number + 1) seen rest way in
      (in_front (no_history_line number) later.0, has_no_history T number seen rest later.0 later.1)

  -- It goes on

  -- behind a refused command
  pub way-refused : (T : Table) (backs : List Earlier) (command : Command) (reason : EditRefusal) (rest : item.Items) → command_refusal (under telling T) command ≡ Some reason →
      Way telling undos T backs (item.edits command rest) → Way telling undos T backs rest
  way-refused T backs command reason rest some (over_refused _ _ _ other _ so way) = way
  way-refused T backs command reason rest some (over_edited _ U _ _ _ free edited way) = absurd (refused-or-none some free)

  -- behind an edit
  pub way-edited : OneEdit → (T U : Table) (backs : List Earlier) (command : Command) (rest : item.Items) → command_refusal (under telling T) command ≡ None → IsEdited T command U →
      Way telling undos T backs (item.edits command rest) → Way telling undos U (take undos (earlier_of T command ∷ backs)) rest
  way-edited one T U backs command rest free edited (over_refused _ _ _ reason _ some way) = absurd (refused-or-none some free)
  way-edited one T U backs command rest free edited (over_edited _ V _ _ _ none_against made way) =
      subst (λ (X : Table). Way telling undos X (take undos (earlier_of T command ∷ backs)) rest) (one T V U command made edited) way

  -- behind an undo, by whatever commands were done on the same table
  pub way-undone : OneEdit → (T : Table) (here after : Contents) (back : Earlier) (backs : List Earlier) (rest : item.Items) → here.nodes ≡ T →
      length T + back.numbers ≤ MAX_NODE_NUMBERS → DoneInTurn here back.commands after → Way telling undos T (back ∷ backs) (item.undoes rest) →
      IsTakenBack telling T back after.nodes × Way telling undos after.nodes backs rest
  way-undone one T here after back backs rest is room done (over_undone _ U _ _ touched _ taken cells way) =
      let same : U ≡ after.nodes = sym (one-end one (under telling T) here (under telling U) after back.commands is taken.done done) in
      (subst (IsTakenBack telling T back) same taken, subst (λ (X : Table). Way telling undos X backs rest) same way)
  way-undone one T here after back backs rest is room done (over_lacking _ _ _ _ less way) = absurd (omega (arith, less, room))

  -- behind an undo for which too few numbers are left
  pub way-lacking : (T : Table) (back : Earlier) (backs : List Earlier) (rest : item.Items) → MAX_NODE_NUMBERS < length T + back.numbers →
      Way telling undos T (back ∷ backs) (item.undoes rest) → Way telling undos T (back ∷ backs) rest
  way-lacking T back backs rest less (over_undone _ U _ _ touched _ taken cells way) = absurd (omega (arith, less, taken.enough))
  way-lacking T back backs rest less (over_lacking _ _ _ _ _ way) = way

  -- behind an undo where no edit is kept
  pub way-none : (T : Table) (rest : item.Items) → Way telling undos T [] (item.undoes rest) → Way telling undos T [] rest
  way-none T rest (over_none _ _ way) = way
