-- Commands done one after another: the next one is free, and one more was done.
use Rattle.std.proofs.Common.{◌≡◌, ℕ, ◌+◌, ◌<◌, suc, false, ◌||◌, List, [], ◌∷◌, ◌++◌, ◌⊎◌, inl, inr, length, take, drop, get_or, drop-cons, None, refl, sym, ap, ◌∙◌, subst}
use Rattle.std.proofs.lemmas.List.{take-append-drop, take_more}
use Rattle.doc_tree.specs.Table.{Contents}
use Rattle.doc_edit_laws.specs.Along.{Edit}
use Rattle.doc_edit_laws.specs.Along as along
use Rattle.name_scopes.specs.Scoping.{InScope}
use Rattle.edit_script.specs.declared.command.Command.{Command}
use Rattle.edit_commands.specs.Commands.{IsEdited, command_refusal}
use Rattle.edit_commands.specs.Touched.{touched_by}
use Rattle.edit_command_laws.specs.OneEdit.{OneEdit}
use Rattle.edit_iso_laws.specs.CommandsMove.{DoneInTurn, none, then}
use Rattle.history_laws.proofs.HistoryLemmas.{done-as}
use Rattle.xp_outcome.specs.Recorded.{NamesSet}
use Rattle.cover_laws.specs.Covering.{has_touched_name}
use Rattle.edit_session.specs.Steps.{Marks}
use Rattle.edit_session.specs.Standing.{Standing, seen_by}
use Rattle.sch_undo.specs.InTurn as turn
use Rattle.sch_undo.specs.inner.Doing.{Did, KeepsNames}
use Rattle.sch_undo.proofs.MarkLemmas.{marks-none, marks-then, names-none}
use Rattle.sch_undo.proofs.NameLemmas.{no-name}

-- the first of some commands that were done, and the others
abbrev Begun : Contents → List Command → Contents → Type 0
Begun before [] after = before ≡ after
Begun before (command ∷ commands) after =
    (next : Contents) × (command_refusal before command ≡ None) × IsEdited before.nodes command next.nodes × (next.pair_cap ≡
    before.pair_cap) × DoneInTurn next commands after

begun : (before after : Contents) (commands : List Command) → DoneInTurn before commands after → Begun before commands after
begun _ _ _ (none before) = refl
begun _ _ _ (then before next after command commands free edited kept rest) = (next, free, edited, kept, rest)

-- one more was done
pub done-more : (before next after : Contents) (commands : List Command) (command : Command) → DoneInTurn before commands next →
    command_refusal next command ≡ None →
    IsEdited next.nodes command after.nodes → after.pair_cap ≡ next.pair_cap → DoneInTurn before (commands ++ command ∷ []) after
done-more _ _ after _ command (none before) free edited cap = then before after after command [] free edited cap (none after)
done-more _ _ after _ command (then before middle next first commands free_first edited_first cap_first rest) free edited cap =
    then before middle after first (commands ++ command ∷ []) free_first edited_first cap_first (done-more middle next after commands command rest free edited cap)

-- where all of some commands can be done and the first ones were, no reason speaks against the next one
pub next-free : OneEdit → (before here end : Contents) (front : List Command) (command : Command) (back : List Command) →
    DoneInTurn before (front ++ command ∷ back) end →
    DoneInTurn before front here → command_refusal here command ≡ None
next-free one before here end [] command back all done =
    let first = begun before end (command ∷ back) all in
    let stays : before ≡ here = begun before here [] done in
    subst (λ (c : Contents). command_refusal c command ≡ None) stays first.1
next-free one before here end (step ∷ front) command back all done =
    let first = begun before end (step ∷ (front ++ command ∷ back)) all in
    let other = begun before here (step ∷ front) done in
    let same : other.0.nodes ≡ first.0.nodes = one before.nodes other.0.nodes first.0.nodes step other.2 first.2 in
    let cap : other.0.pair_cap ≡ first.0.pair_cap = other.3 ∙ sym first.3 in
    let moved = done-as one first.0 other.0 end (front ++ command ∷ back) same cap first.4 in
    next-free one other.0 here moved.0 front command back moved.1 other.4

-- no command was done yet
pub did-none : (here : Standing) → Did here [] here
did-none here = record {
  done = none here.tree;
  touched = λ _. false;
  in_turn = turn.none;
  edits = along.none;
  marks = marks-none here.tree.nodes (seen_by here);
  plan = refl;
  cap = refl;
  scope = λ scope. scope;
}

-- a command that keeps names touches as many before those that were done as after them, and so does the first one
same-names : (old here : Contents) (commands : List Command) (command : Command) → DoneInTurn old commands here →
    (commands ≡ []) ⊎ KeepsNames command → (names : NamesSet) →
    has_touched_name here.nodes (touched_by here.nodes command) names ≡ has_touched_name old.nodes (touched_by here.nodes command) names
same-names old here commands command done (inl empty) names =
    let stays : old ≡ here = subst (λ (cs : List Command). Begun old cs here) empty (begun old here commands done) in
    ap (λ (c : Contents). has_touched_name c.nodes (touched_by here.nodes command) names) (sym stays)
same-names old here commands command done (inr keeps) names =
    names-none here.nodes (touched_by here.nodes command) (no-name here.nodes command keeps) names
    ∙ sym (names-none old.nodes (touched_by here.nodes command) (no-name here.nodes command keeps) names)

-- one more was done
pub did-more : (old here new : Standing) (commands : List Command) (command : Command) → Did old commands here →
    (commands ≡ []) ⊎ KeepsNames command →
    command_refusal here.tree command ≡ None →
    IsEdited here.tree.nodes command new.tree.nodes → Edit here.tree.nodes new.tree.nodes (touched_by here.tree.nodes command) →
    Marks here.tree.nodes (touched_by here.tree.nodes command) (seen_by here) (seen_by new) → new.plan ≡ here.plan → new.tree.pair_cap ≡ here.tree.pair_cap →
    (InScope here.tree.nodes → InScope new.tree.nodes) → Did old (commands ++ command ∷ []) new
did-more old here new commands command did first free edited edit marks plan cap scope = record {
  done = done-more old.tree here.tree new.tree commands command did.done free edited cap;
  touched = λ c. did.touched c || touched_by here.tree.nodes command c;
  in_turn = (turn.then) commands command here.tree.nodes new.tree.nodes did.touched did.in_turn edited;
  edits = (along.then) here.tree.nodes new.tree.nodes did.touched (touched_by here.tree.nodes command) did.edits edit;
  marks = marks-then old.tree.nodes here.tree.nodes did.touched (touched_by here.tree.nodes command) (seen_by old) (seen_by here) (seen_by new)
      (same-names old.tree here.tree commands command did.done first) did.marks marks;
  plan = plan ∙ did.plan;
  cap = cap ∙ did.cap;
  scope = λ s. scope (did.scope s);
}

-- a command among others
module _ (commands : List Command) (i : ℕ) (command : Command) (less : i < length commands) (is : command ≡ get_or commands i command) where
  pub one-more : take (i + 1) commands ≡ take i commands ++ command ∷ []
  one-more = take_more commands i command less ∙ ap (λ c. take i commands ++ c ∷ []) (sym is)

  pub cut-at : commands ≡ take i commands ++ command ∷ drop (suc i) commands
  cut-at =
      sym (take-append-drop i commands)
      ∙ ap (λ cs. take i commands ++ cs) (drop-cons commands i command less ∙ ap (λ c. c ∷ drop (suc i) commands) (sym is))
