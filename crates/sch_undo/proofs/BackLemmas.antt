-- What an entry leads back to.
use Rattle.std.proofs.Common.{◌≡◌, ◌+◌, ◌≤◌, true, List, [], ◌∷◌, length, drop, None, Some, is_some, sym, ap, subst, true≢false, arith, unwrap_or}
use Rattle.std.specs.Prelude.{All, slice_get}
use Rattle.doc_tree.specs.Kinds.{is_document}
use Rattle.doc_tree.specs.Laws.{WellFormed}
use Rattle.doc_tree.specs.limits.TheConstants.{MAX_NODE_NUMBERS}
use Rattle.doc_tree.specs.Table.{Contents}
use Rattle.doc_tree.specs.Walks.{order}
use Rattle.name_scopes.specs.Scoping.{InScope}
use Rattle.edit_script.specs.declared.command.Command.{Command}
use Rattle.edit_script.specs.WellFormed.{WellFormedCommand}
use Rattle.edit_commands.specs.Commands.{IsEdited, command_refusal}
use Rattle.edit_iso_laws.specs.CommandsMove.{DoneInTurn}
use Rattle.edit_paths.specs.Entries.{undoing, undoing_numbers}
use Rattle.edit_undo_laws.specs.Undoing.{CommandsAreUndone, IsUndone, UndoingsAreFormed}
use Rattle.undo_entries.specs.declared.entry.Entry.{Entry}
use Rattle.history_laws.specs.Histories.{HistoriesStand, LeadsBack, StandsFor}

-- the entry of a command that was done leads back to the document from before it
pub leads-back : CommandsAreUndone → UndoingsAreFormed → (before after : Contents) (command : Command) (entry : Entry) → WellFormed before.nodes →
    InScope before.nodes →
    is_document before.nodes ≡ true → length (order before.nodes) ≤ before.pair_cap → WellFormedCommand command →
    command_refusal before command ≡ None →
    IsEdited before.nodes command after.nodes → after.pair_cap ≡ before.pair_cap → length before.nodes ≤ length after.nodes →
    entry.commands ≡ undoing before.nodes command → entry.numbers ≡ undoing_numbers before.nodes command → LeadsBack after entry before
leads-back undone formed before after command entry form scope document within good free edited cap older commands numbers = record {
  well_formed = form;
  document = document;
  cap = sym cap;
  older = older;
  formed = subst (All WellFormedCommand) (sym commands) (formed before command form scope good free);
  returns = λ room.
      let back : IsUndone before after command = undone before after command form scope document within good free edited cap (omega (
        arith,
        room,
        numbers,
      )) in
      record {
        end = back.end;
        done = subst (λ (cs : List Command). DoneInTurn after cs back.end) (sym commands) back.done;
        same = back.same;
        numbers = omega (arith, back.numbers, numbers);
      };
}

-- the newest entry stands in front
pub newest : (entries : List Entry) (entry : Entry) → slice_get entries 0 ≡ Some entry → entries ≡ entry ∷ drop 1 entries
newest [] entry e = absurd (true≢false (sym (ap is_some e)))
newest (other ∷ entries) entry e = ap (λ o. unwrap_or o other ∷ entries) e

-- its commands can be done
pub can-do : (here : Contents) (entry : Entry) (others : List Entry) (trees : List Contents) → StandsFor here (entry ∷ others) trees →
    length here.nodes + entry.numbers ≤ MAX_NODE_NUMBERS → All WellFormedCommand entry.commands × ((end : Contents) × DoneInTurn here entry.commands end)
can-do here entry others [] stands room = absurd stands
can-do here entry others (before ∷ trees) stands room = (stands.0.formed, ((stands.0.returns room).end, (stands.0.returns room).done))

-- and the others stand for trees then
pub others-stand : HistoriesStand → (here other : Contents) (entry : Entry) (others : List Entry) (trees : List Contents) → WellFormed here.nodes →
    is_document here.nodes ≡ true →
    StandsFor here (entry ∷ others) trees → DoneInTurn here entry.commands other → length here.nodes + entry.numbers ≤ MAX_NODE_NUMBERS →
    ((rest : List Contents) × StandsFor other others rest) × (length other.nodes ≡ length here.nodes + entry.numbers)
others-stand stand here other entry others [] form document stands done room = absurd stands
others-stand stand here other entry others (before ∷ trees) form document stands done room =
    let after = stand.undone here other entry others before trees form document stands done room in ((trees, after.1), after.2)
