-- What a history stands for, over documents that are the same, and after an undo.
use Rattle.std.proofs.Common.{◌≡◌, ℕ, ◌+◌, ◌≤◌, zero, suc, true, List, [], ◌∷◌, length, take, refl, sym, ap, ap₂, ◌∙◌, subst, arith}
use Rattle.doc_tree.specs.Kinds.{is_document}
use Rattle.doc_tree.specs.Laws.{WellFormed}
use Rattle.doc_tree.specs.SameTree.{SameTree}
use Rattle.doc_tree.specs.Table.{Contents, Table}
use Rattle.doc_tree.specs.limits.TheConstants.{MAX_NODE_NUMBERS}
use Rattle.doc_table.specs.SameTree.{SameLinesSameTree, SameTreeSameLines}
use Rattle.edit_script.specs.declared.command.Command.{Command}
use Rattle.edit_commands.specs.Commands.{IsEdited, command_refusal}
use Rattle.edit_command_laws.specs.OneEdit.{OneEdit}
use Rattle.edit_command_laws.specs.TreesKept.{EditsKeepTrees}
use Rattle.edit_iso_laws.specs.CommandsMove.{DoneInTurn, GoesOn, ScriptsGoOn, none, then}
use Rattle.edit_iso_laws.proofs.InTurnLemmas.{cap-in-turn, kept-in-turn}
use Rattle.undo_entries.specs.declared.entry.Entry.{Entry}
use Rattle.history_laws.specs.Histories.{HistoriesStand, IsLater, LeadsBack, Returns, StandsFor}

-- no reason against a command depends on names
refusal-as : (before other : Contents) (command : Command) → other.nodes ≡ before.nodes → other.pair_cap ≡ before.pair_cap → command_refusal other command ≡ command_refusal before command
refusal-as before other command nodes cap =
    ap₂ (λ (T : Table) (count : ℕ). command_refusal (record { nodes = T; names = before.names; pair_cap = count }) command) nodes cap

-- commands that are done in turn are done so on a document with the same table, to the same end
pub done-as : OneEdit → (before other after : Contents) (commands : List Command) → other.nodes ≡ before.nodes → other.pair_cap ≡ before.pair_cap → DoneInTurn before commands after →
    (end : Contents) × DoneInTurn other commands end × (end.nodes ≡ after.nodes)
done-as one _ other _ _ nodes cap (none before) = (other, none other, nodes)
done-as one _ other _ _ nodes cap (then before next after command commands free edited kept rest) =
    let next2 : Contents = record other { nodes = next.nodes } in
    let on = done-as one next next2 after commands refl (cap ∙ sym kept) rest in (
      on.0,
      then other next2 on.0 command commands (refusal-as before other command nodes cap ∙ free) (subst (λ T. IsEdited T command next.nodes) (sym nodes) edited) refl on.1,
      on.2,
    )

-- the first of some commands that were done, and the others
abbrev Begun : Contents → List Command → Contents → Type 0
Begun before [] after = before ≡ after
Begun before (command ∷ commands) after = (next : Contents) × IsEdited before.nodes command next.nodes × DoneInTurn next commands after

begun : (before after : Contents) (commands : List Command) → DoneInTurn before commands after → Begun before commands after
begun _ _ _ (none before) = refl
begun _ _ _ (then before next after command commands free edited kept rest) = (next, edited, rest)

-- what commands make of a table is one table
pub one-end : OneEdit → (before other after end : Contents) (commands : List Command) → other.nodes ≡ before.nodes → DoneInTurn before commands after → DoneInTurn other commands end →
    end.nodes ≡ after.nodes
one-end one before other after end [] nodes first second =
    let one-is : before ≡ after = begun before after [] first in
    let other-is : other ≡ end = begun other end [] second in
    ap (λ (c : Contents). c.nodes) (sym other-is) ∙ nodes ∙ ap (λ (c : Contents). c.nodes) one-is
one-end one before other after end (command ∷ commands) nodes first second =
    let here = begun before after (command ∷ commands) first in
    let there = begun other end (command ∷ commands) second in
    let next : Contents = here.0 in
    let next2 : Contents = there.0 in
    one-end one next next2 after end commands
    (one other.nodes next2.nodes next.nodes command there.1 (subst (λ T. IsEdited T command next.nodes) (sym nodes) here.1)) here.2 there.2

module _ (lines-tree : SameLinesSameTree) (tree-lines : SameTreeSameLines) where
  pub same-trans : (T U V : Table) → WellFormed T → WellFormed U → WellFormed V → SameTree T U → SameTree U V → SameTree T V
  same-trans T U V t u v first second = lines-tree T V t v (tree-lines T U t u first ∙ tree-lines U V u v second)

pub count : (here : Contents) (entries : List Entry) (trees : List Contents) → StandsFor here entries trees → length entries ≡ length trees
count here [] [] stands = refl
count here [] (before ∷ trees) stands = absurd stands
count here (entry ∷ entries) [] stands = absurd stands
count here (entry ∷ entries) (before ∷ trees) stands = ap suc (count before entries trees stands.1)

pub kept : (n : ℕ) (here : Contents) (entries : List Entry) (trees : List Contents) → StandsFor here entries trees → StandsFor here (take n entries) (take n trees)
kept zero here entries trees stands = tt
kept (suc n) here [] [] stands = tt
kept (suc n) here [] (before ∷ trees) stands = absurd stands
kept (suc n) here (entry ∷ entries) [] stands = absurd stands
kept (suc n) here (entry ∷ entries) (before ∷ trees) stands = (stands.0, kept n before entries trees stands.1)

module _ (keeps : EditsKeepTrees) (go-on : ScriptsGoOn) (lines-tree : SameLinesSameTree) (tree-lines : SameTreeSameLines) where
  moved-back : (here other before : Contents) (entry : Entry) → WellFormed here.nodes → is_document here.nodes ≡ true → IsLater here other → LeadsBack here entry before →
      length other.nodes + entry.numbers ≤ MAX_NODE_NUMBERS → Returns other entry before
  moved-back here other before entry form document later leads room =
      let back : Returns here entry before = leads.returns (omega (arith, room, later.later)) in
      let on : GoesOn other entry.commands back.end entry.numbers =
      go-on here other back.end entry.commands entry.numbers form later.well_formed document later.document later.same later.cap leads.formed back.done back.numbers room in
      let end = kept-in-turn keeps here back.end entry.commands form document back.done in
      let there = kept-in-turn keeps other on.end entry.commands later.well_formed later.document on.done in
      record {
        end = on.end;
        done = on.done;
        same = same-trans lines-tree tree-lines before.nodes back.end.nodes on.end.nodes leads.well_formed end.0 there.0 back.same on.same;
        numbers = on.numbers;
      }

  pub moved : (here other : Contents) (entries : List Entry) (trees : List Contents) → WellFormed here.nodes → is_document here.nodes ≡ true → IsLater here other →
      StandsFor here entries trees → StandsFor other entries trees
  moved here other [] [] form document later stands = tt
  moved here other [] (before ∷ trees) form document later stands = absurd stands
  moved here other (entry ∷ entries) [] form document later stands = absurd stands
  moved here other (entry ∷ entries) (before ∷ trees) form document later stands =
      let leads : LeadsBack here entry before = stands.0 in (
        record {
          well_formed = leads.well_formed;
          document = leads.document;
          cap = leads.cap ∙ sym later.cap;
          older = omega (arith, leads.older, later.later);
          formed = leads.formed;
          returns = moved-back here other before entry form document later leads;
        },
        stands.1,
      )

  pub undone : OneEdit → (here other : Contents) (entry : Entry) (entries : List Entry) (before : Contents) (trees : List Contents) → WellFormed here.nodes → is_document here.nodes ≡ true →
      StandsFor here (entry ∷ entries) (before ∷ trees) → DoneInTurn here entry.commands other → length here.nodes + entry.numbers ≤ MAX_NODE_NUMBERS →
      SameTree before.nodes other.nodes × StandsFor other entries trees × (length other.nodes ≡ length here.nodes + entry.numbers)
  undone one here other entry entries before trees form document stands done room =
      let leads : LeadsBack here entry before = stands.0 in
      let back : Returns here entry before = leads.returns room in
      let end : other.nodes ≡ back.end.nodes = one-end one here here back.end other entry.commands refl back.done done in
      let same : SameTree before.nodes other.nodes = subst (SameTree before.nodes) (sym end) back.same in
      let there = kept-in-turn keeps here other entry.commands form document done in
      let rise : length other.nodes ≡ length here.nodes + entry.numbers = ap length end ∙ back.numbers in
      let later : IsLater before other = record {
        well_formed = there.0;
        document = there.1;
        same = same;
        cap = cap-in-turn here other entry.commands done ∙ sym leads.cap;
        later = omega (arith, rise, leads.older);
      } in
      (same, moved before other entries trees leads.well_formed leads.document later stands.1, rise)

  pub histories-stand : OneEdit → HistoriesStand
  histories-stand one = record { count = count; kept = kept; moved = moved; undone = undone one }
