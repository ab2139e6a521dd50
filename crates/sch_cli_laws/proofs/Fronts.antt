-- A text that a run comes to write is a front of the bytes of its output.
use Rattle.std.proofs.Common.{◌≡◌, ⊎_elim, ℕ, ◌+◌, List, [], ◌∷◌, ◌++◌, take, Option, None, Some, refl, sym, ap, ◌∙◌, subst, append-nil, append_assoc, arith}
use Rattle.sch_io.specs.Files.{Files}
use Rattle.doc_tree.specs.Table.{Table}
use Rattle.doc_tree.specs.declared.refusal.EditRefusal.TheVariants.{IdsSpent}
use Rattle.edit_command_laws.specs.OneEdit.{OneEdit}
use Rattle.edit_script.specs.Undos as item
use Rattle.sch_cli.specs.State.{state_text}
use Rattle.sch_cli.specs.shown.Shown.{Shown}
use Rattle.name_scopes.specs.ScopedTree.{OneTree}
use Rattle.sch_include.specs.Included.{OneInclusion}
use Rattle.sch_plan.specs.OnePlan.{OnePlan}
use Rattle.sch_words.specs.Commands.{Command, tell, expand, validate, follow, measure, summarize, watch, command_of}
use Rattle.sch_words.specs.declared.status.Status.TheVariants.{Usage}
use Rattle.sch_stops.specs.EditLines.{edit_line, no_history_line, refused_line, undo_line}
use Rattle.sch_stops.specs.Output.{Output, stopped, usage_line}
use Rattle.sch_loading.specs.Loading.{Expanding, Reporting}
use Rattle.sch_loading.specs.Stages.{Came, Is, Onward, Stage, Then, goes, halts, unread}
use Rattle.sch_loading.proofs.StageLemmas.{Single, one-is, one-then, through}
use Rattle.sch_cli.specs.Telling.{Telling, by_plan, by_watches}
use Rattle.watch_lines_laws.specs.Reading.{OneReading}
use Rattle.sch_cli.specs.Behaviours.{Any, BeginsStates, IsEnd, Making, Measures, MeasuresText, Opening, OpeningAll, States, WatchingAll, behaviour}
use Rattle.sch_cli.specs.Following.{Begins, Earlier, Follows, earlier_of, edited, edits, has_no_history, items_of, lacking_numbers, lacks_numbers, nothing_yet, refused, refuses, then_shown, undoes, undone, without_history}
use Rattle.sch_cli.specs.Output.{expanded, in_front, notice_output, state, summed_up}
use Rattle.sch_cli_laws.proofs.OneOutput.{one-expanding, one-making, one-measures, one-opening, one-opening-all, one-reporting, one-taken, one-watching-all}
use Rattle.sch_cli_laws.specs.Decided.{BegunIsFront}
use Rattle.sch_cli.proofs.ScriptCases.{refused-or-none, refused-same}

-- the text is a front of the output's bytes
abbrev IsFront : List ℕ → Output → Type 0
IsFront text output = (rest : List ℕ) × (output.out ≡ text ++ rest)

-- the same line in front of both
front-behind : (line text : List ℕ) (output later : Output) → output ≡ in_front line later → IsFront text later → IsFront (line ++ text) output
front-behind line text output later is front =
    (front.0, ap (λ (o : Output). o.out) is ∙ ap (λ (out : List ℕ). line ++ out) front.1 ∙ sym (append_assoc line text front.0))

-- the first commands and undos of a script write a front of what all of them write
module _ (one_edit : OneEdit) (telling : Telling) (undos : ℕ) where
  begins-front : (T : Table) (backs : List Earlier) (number : ℕ) (items : item.Items) (text : List ℕ) → Begins telling undos T backs number items text →
      (seen : Shown) (output : Output) → Follows telling undos T backs number seen items output → IsFront text output
  begins-front T backs number _ _ (nothing_yet _ _ _ items) seen output follows = (output.out, refl)
  begins-front T backs number _ _ (refused _ _ _ command reason rest text some begins) seen _ (refuses _ _ _ _ _ cause _ output so follows) =
      let line : refused_line number cause ≡ refused_line number reason = ap (refused_line number) (refused-same so some) in
      front-behind (refused_line number reason) text (in_front (refused_line number cause) output) output (ap (λ (l : List ℕ). in_front l output) line)
      (begins-front T backs (number + 1) rest text begins seen output follows)
  begins-front T backs number _ _ (refused _ _ _ command reason rest text some begins) seen _ (edits _ V _ _ _ _ _ output none makes follows) =
      absurd (refused-or-none some none)
  begins-front T backs number _ _ (edited _ U _ _ command rest text none makes begins) seen _ (refuses _ _ _ _ _ cause _ output some follows) =
      absurd (refused-or-none some none)
  begins-front T backs number _ _ (edited _ U _ _ command rest text none makes begins) seen _ (edits _ V _ _ _ _ _ output free made follows) =
      let trees : V ≡ U = one_edit T V U command made makes in
      let line : edit_line number ++ telling.text V ≡ edit_line number ++ telling.text U = ap (λ (X : Table). edit_line number ++ telling.text X) trees in
      front-behind (edit_line number ++ telling.text U) text (in_front (edit_line number ++ telling.text V) output) output (ap (λ (l : List ℕ). in_front l output) line)
      (begins-front U (take undos (earlier_of T command ∷ backs)) (number + 1) rest text begins (then_shown seen (telling.shows U)) output
      (subst (λ (X : Table). Follows telling undos X (take undos (earlier_of T command ∷ backs)) (number + 1) (then_shown seen (telling.shows X)) rest output) trees follows))
  begins-front T _ number _ _ (undone _ U back backs _ rest text taken begins) seen _ (undoes _ V _ _ _ _ _ output so follows) =
      let trees : V ≡ U = one-taken one_edit telling undos T U V back taken so in
      let line : undo_line number ++ telling.text V ≡ undo_line number ++ telling.text U = ap (λ (X : Table). undo_line number ++ telling.text X) trees in
      front-behind (undo_line number ++ telling.text U) text (in_front (undo_line number ++ telling.text V) output) output (ap (λ (l : List ℕ). in_front l output) line)
      (begins-front U backs (number + 1) rest text begins (then_shown seen (telling.shows U)) output
      (subst (λ (X : Table). Follows telling undos X backs (number + 1) (then_shown seen (telling.shows X)) rest output) trees follows))
  begins-front T _ number _ _ (undone _ U back backs _ rest text taken begins) seen _ (lacks_numbers _ _ _ _ _ _ output less follows) =
      absurd (omega (arith, less, taken.enough))
  begins-front T _ number _ _ (lacking_numbers _ back backs _ rest text less begins) seen _ (undoes _ V _ _ _ _ _ output taken follows) =
      absurd (omega (arith, less, taken.enough))
  begins-front T _ number _ _ (lacking_numbers _ back backs _ rest text less begins) seen _ (lacks_numbers _ _ _ _ _ _ output so follows) =
      front-behind (refused_line number IdsSpent) text (in_front (refused_line number IdsSpent) output) output refl
      (begins-front T (back ∷ backs) (number + 1) rest text begins seen output follows)
  begins-front T _ number _ _ (without_history _ _ rest text begins) seen _ (has_no_history _ _ _ _ output follows) =
      front-behind (no_history_line number) text (in_front (no_history_line number) output) output refl
      (begins-front T [] (number + 1) rest text begins seen output follows)

  states-front : (T : Table) (bytes text : List ℕ) (output : Output) → BeginsStates telling undos T bytes text → States telling undos T bytes output → IsFront text output
  states-front T bytes text output begun all =
      subst (λ (t : List ℕ). IsFront t output) (sym begun.2)
      (front-behind (telling.text T) begun.0 output all.0 all.2 (begins-front T [] 1 (items_of undos bytes) begun.0 begun.1 (telling.shows T) all.0 all.1))

goes-same : {A : Type 0} (a b : A) → goes a ≡ goes b → a ≡ b
goes-same a b h = cc

-- stages that make a value ready, of which a text begins to be written
module _ {A : Type 0} (ready : Stage A) (one : Single ready) (outputs : A → Output → Type 0) (texts : A → List ℕ → Type 0)
    (front : (value : A) (text : List ℕ) (output : Output) → texts value text → outputs value output → IsFront text output) where
  -- a halt comes of the stages alone
  halted : (opened : List (List ℕ)) (output : Output) → Then ready (λ value. Any (outputs value)) opened (halts output) → (before : List (List ℕ)) × ready before (halts output)
  halted opened output stages = by stages.between stages.begins stages.goes_on
    where
      by : (between : Came A) → ready stages.before between → Onward (λ value. Any (outputs value)) between stages.after (halts output) → (before : List (List ℕ)) × ready before (halts output)
      by (goes value) begins on = absurd (let clash : halts output ≡ goes on.1 = on.3 in cc)
      by (halts found) begins on =
          let same : halts output ≡ halts found = on.1 in
          let is : found ≡ output = cc in
          (stages.before, subst (λ (o : Output). ready stages.before (halts o)) is begins)
      by (unread name) begins on = absurd (let clash : halts output ≡ unread name = on.1 in cc)

  begun-front : (opened others : List (List ℕ)) (text : List ℕ) (output : Output) → Then ready (λ value. Any (texts value)) opened (goes text) → IsEnd (Then ready (λ value. Any (outputs value))) others output → IsFront text output
  begun-front opened others text output begun end =
      let first = through ready (λ value. Any (texts value)) opened text begun in
      let is : text ≡ first.goes_on.1 = goes-same text first.goes_on.1 first.goes_on.3 in
      ⊎_elim
      (λ (all : Then ready (λ value. Any (outputs value)) others (goes output)).
      let last = through ready (λ value. Any (outputs value)) others output all in
      let same : first.value ≡ last.value = goes-same first.value last.value (one first.before last.before (goes first.value) (goes last.value) first.begins last.begins tt tt).1 in
      let whole : output ≡ last.goes_on.1 = goes-same output last.goes_on.1 last.goes_on.3 in
      front first.value text output (subst (texts first.value) (sym is) first.goes_on.2)
      (subst (λ (value : A). outputs value output) (sym same) (subst (outputs last.value) (sym whole) last.goes_on.2)))
      (λ (stop : Then ready (λ value. Any (outputs value)) others (halts output)).
      let last = halted others output stop in
      absurd (let clash : goes first.value ≡ halts output = (one first.before last.0 (goes first.value) (halts output) first.begins last.1 tt tt).1 in cc))
      end

-- an output that is written whole
written-front : (ready : Stage Output) → Single ready → (opened others : List (List ℕ)) (text : List ℕ) (output : Output) →
    Then ready (λ written. Any (λ text. text ≡ written.out)) opened (goes text) → IsEnd (Then ready (λ written. Any (λ output. output ≡ written))) others output → IsFront text output
written-front ready one =
    begun-front ready one (λ written output. output ≡ written) (λ written text. text ≡ written.out)
    (λ written text output is whole. ([], ap (λ (o : Output). o.out) whole ∙ sym is ∙ sym (append-nil text)))

module _ (one_tree : OneTree) (one_inclusion : OneInclusion) (one_plan : OnePlan) (one_edit : OneEdit) (one_reading : OneReading) (files : Files) where
  asked-front : (asked : Option Command) (opened others : List (List ℕ)) (text : List ℕ) (output : Output) → (behaviour asked).begins files opened (goes text) → IsEnd ((behaviour asked).ends files) others output → IsFront text output
  asked-front None = written-front (Is (halts (stopped Usage usage_line))) (one-is (halts (stopped Usage usage_line)))
  asked-front (Some (tell notice)) = written-front (Is (goes (notice_output notice))) (one-is (goes (notice_output notice)))
  asked-front (Some (expand schema)) =
      written-front (Then (Expanding files schema) (λ flat. Is (goes (expanded flat))))
      (one-then (Expanding files schema) (λ flat. Is (goes (expanded flat))) (one-expanding one_tree one_inclusion one_plan one_edit files schema) (λ flat. one-is (goes (expanded flat))))
  asked-front (Some (summarize report)) =
      written-front (Then (Reporting files report) (λ said. Is (goes (summed_up said))))
      (one-then (Reporting files report) (λ said. Is (goes (summed_up said))) (one-reporting one_tree one_inclusion one_plan one_edit files report) (λ said. one-is (goes (summed_up said))))
  asked-front (Some (validate phase schema document)) =
      begun-front (Opening files phase schema document) (one-opening one_tree one_inclusion one_plan one_edit files phase schema document)
      (λ at output. output ≡ state at.plan at.tree) (λ at text. text ≡ state_text at.plan at.tree)
      (λ at text output is whole. ([], ap (λ (o : Output). o.out) whole ∙ sym is ∙ sym (append-nil text)))
  asked-front (Some (follow undos phase schema document script)) =
      begun-front (OpeningAll files phase schema document script) (one-opening-all one_tree one_inclusion one_plan one_edit files phase schema document script)
      (λ at. States (by_plan at.treed.plan) undos at.treed.tree at.script) (λ at. BeginsStates (by_plan at.treed.plan) undos at.treed.tree at.script)
      (λ at. states-front one_edit (by_plan at.treed.plan) undos at.treed.tree at.script)
  asked-front (Some (watch named document script)) =
      begun-front (WatchingAll files named document script) (one-watching-all one_tree one_inclusion one_plan one_edit files one_reading named document script)
      (λ at. States (by_watches at.watched.expressions) 0 at.watched.tree at.script) (λ at. BeginsStates (by_watches at.watched.expressions) 0 at.watched.tree at.script)
      (λ at. states-front one_edit (by_watches at.watched.expressions) 0 at.watched.tree at.script)
  asked-front (Some (measure items)) =
      begun-front (Making items) (one-making one_tree one_inclusion one_plan one_edit items)
      (λ at. Measures at.treed.plan at.treed.tree at.script) (λ at. MeasuresText at.treed.plan at.treed.tree at.script)
      (λ at text output begun whole. (
        [],
        ap (λ (o : Output). o.out) (one-measures one_edit at.treed.plan at.treed.tree at.script output begun.0 whole begun.1) ∙ sym begun.2 ∙ sym (append-nil text),
      ))

pub begun-is-front : OneTree → OneInclusion → OnePlan → OneEdit → OneReading → BegunIsFront
begun-is-front one_tree one_inclusion one_plan one_edit one_reading words files opened text output begun found =
    asked-front one_tree one_inclusion one_plan one_edit one_reading files (command_of words) opened found.0 text output begun found.1
