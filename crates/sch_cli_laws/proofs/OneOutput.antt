-- The words and the files decide the output: at each stage one thing alone may come of it.
use Rattle.std.proofs.Common.{◌≡◌, ◌⊎◌, ℕ, ◌+◌, List, [], ◌∷◌, ◌++◌, take, Option, None, Some, Result, Ok, Err, refl, sym, ap, ◌∙◌, subst, ⊎_elim, arith}
use Rattle.std.specs.FinMap.{get}
use Rattle.sch_io.specs.Files.{Files}
use Rattle.sch_io.specs.declared.reading.TheConstants.{MAX_FILE_BYTES}
use Rattle.pyx_core.specs.declared.mode.Mode.TheVariants.{Document}
use Rattle.pyx_core.specs.Nesting.{bare}
use Rattle.pyx_core.specs.Reading.{events_of}
use Rattle.doc_tree.specs.Table.{Table}
use Rattle.doc_tree.specs.declared.refusal.EditRefusal.{EditRefusal}
use Rattle.doc_tree.specs.declared.refusal.EditRefusal.TheVariants.{IdsSpent}
use Rattle.edit_script.specs.Script.{Script, script_of}
use Rattle.edit_script.specs.Undos as item
use Rattle.edit_script.specs.declared.command.Command.{Command as EditCommand}
use Rattle.edit_script.specs.declared.limits.TheConstants.{MAX_SCRIPT_BYTES}
use Rattle.edit_commands.specs.Commands.{IsEdited, command_refusal}
use Rattle.edit_command_laws.specs.OneEdit.{OneEdit}
use Rattle.history_laws.proofs.HistoryLemmas.{one-end as one-made}
use Rattle.sch_include.specs.declared.fault.IncludeFault.{IncludeFault}
use Rattle.sch_include.specs.declared.fault.IncludeKind.{IncludeKind}
use Rattle.sch_include.specs.Included.{HasFailed, OneInclusion}
use Rattle.name_scopes.specs.ScopedTree.{OneTree}
use Rattle.name_scopes.specs.DocFaults.{doc_fault}
use Rattle.name_scopes.specs.declared.fault.DocFault.{DocFault}
use Rattle.sch_model.specs.declared.flat.FlatSchema.{FlatSchema}
use Rattle.sch_rules.specs.FirstBroken.{first_broken}
use Rattle.sch_rules.specs.RawSchema.{raw_schema}
use Rattle.sch_abstract.specs.FirstFault.{first_fault}
use Rattle.svrl_read.specs.FirstFault as svrl
use Rattle.svrl_read.specs.Value.{report_of}
use Rattle.sch_abstract.specs.Flat.{flat_schema}
use Rattle.sch_compiled.specs.declared.plan.Plan.{Plan}
use Rattle.sch_plan.specs.Compiled.{compiled}
use Rattle.sch_plan.specs.OnePlan.{OnePlan}
use Rattle.sch_cli.specs.Pairs.{has_too_many_pairs}
use Rattle.sch_cli.specs.shown.Shown.{Shown}
use Rattle.sch_stops.specs.declared.refusal.FileRefusal.TheVariants.{TooLarge}
use Rattle.sch_words.specs.declared.status.Status.TheVariants.{Usage}
use Rattle.sch_measure.specs.Shelf.{measure_files}
use Rattle.sch_measure.specs.declared.shelf.TheConstants.{SCHEMA_NAME, DOCUMENT_NAME, SCRIPT_NAME}
use Rattle.xp_typed_tree.specs.TypedTree.{TypedTree}
use Rattle.watch_lines.specs.Watches.{WatchesAre}
use Rattle.watch_lines_laws.specs.Reading.{OneReading}
use Rattle.sch_stops.specs.declared.watches.WatchesRefusal.TheVariants as watches
use Rattle.sch_cli.specs.Telling.{Telling, by_plan, by_watches, under}
use Rattle.sch_cli.specs.Behaviours.{Any, Apart, IsEnd, IsOutput, Making, Measures, Opening, OpeningAll, OpeningWatch, States, Treeing, WatchingAll, WatchingOn, asked_by, behaviour, too_many_pairs, tree_under, watched_on}
use Rattle.sch_cli.specs.Measuring.{LeadsTo, measure_text, measured_as, past_edited, past_refused, to_a_fault, to_the_end}
use Rattle.sch_words.specs.Commands.{Command, tell, expand, validate, follow, measure, summarize, watch, command_of, default_phase}
use Rattle.sch_loading.specs.Documents.{IsDocument, IsParsed}
use Rattle.sch_cli.specs.Following.{Earlier, Follows, IsTakenBack, comes_to_end, earlier_of, edits, has_no_history, items_of, lacks_numbers, refuses, stops_at, then_shown, undoes}
use Rattle.sch_stops.specs.EditLines.{edit_line, no_history_line, refused_line, undo_line}
use Rattle.sch_loading.specs.Loading.{Compiling, Expanding, Expressing, Fetching, Flattening, Inclusion, Loading, Parsing, Planning, Reading, Reporting, Saying, Scripting, Watching, as_script, at_include, expressions, held_under, included, parsed, planned, refused_document, refused_report, refused_rule, refused_watches}
use Rattle.sch_stops.specs.Output.{Output, stopped, usage_line}
use Rattle.sch_cli.specs.Output.{expanded, in_front, notice_output, state, summed_up}
use Rattle.sch_loading.specs.Stages.{Came, Is, Stage, Then, goes, halt_at, halt_if, halts, unread}
use Rattle.sch_cli.proofs.ScriptCases.{command-same, ends-or-goes, refused-or-none, refused-same, stops-or-goes}
use Rattle.sch_loading.proofs.StageLemmas.{IsDecided, Single, no_unread, one-by, one-is, one-then}

-- a file is one tree, or has one first fault
no-fault : (bytes : List ℕ) (T : Table) (fault : DocFault) → IsDocument bytes T → doc_fault bytes ≡ Some fault → ⊥
no-fault bytes T fault d is = let none : doc_fault bytes ≡ None = d.sound in cc

same-fault : (bytes : List ℕ) (fault other : DocFault) → doc_fault bytes ≡ Some fault → doc_fault bytes ≡ Some other → fault ≡ other
same-fault bytes fault other p q = cc

-- what follows from a place is one output
module _ (one_edit : OneEdit) (telling : Telling) (undos : ℕ) where
  -- the commands that take an edit back make one document
  pub one-taken : (T U V : Table) (back : Earlier) → IsTakenBack telling T back U → IsTakenBack telling T back V → V ≡ U
  one-taken T U V back p q = one-made one_edit (under telling T) (under telling T) (under telling U) (under telling V) back.commands refl p.done q.done

  one-follows : (T : Table) (backs : List Earlier) (n : ℕ) (seen : Shown) (items : item.Items) (a b : Output) →
      Follows telling undos T backs n seen items a → Follows telling undos T backs n seen items b → a ≡ b
  one-follows T backs n seen _ _ _ (comes_to_end _ _ _ _) (comes_to_end _ _ _ _) = refl
  one-follows T backs n seen _ _ _ (stops_at _ _ _ _ fault) (stops_at _ _ _ _ _) = refl
  one-follows T backs n seen _ _ _ (refuses _ _ _ _ command reason rest output some follows) (refuses _ _ _ _ _ cause _ written so behind) =
      let reasons : reason ≡ cause = refused-same some so in
      ap (λ (r : EditRefusal). in_front (refused_line n r) output) reasons
      ∙ ap (in_front (refused_line n cause)) (one-follows T backs (n + 1) seen rest output written follows behind)
  one-follows T backs n seen _ _ _ (refuses _ _ _ _ command reason rest output some follows) (edits _ V _ _ _ _ _ written none makes behind) =
      absurd (refused-or-none some none)
  one-follows T backs n seen _ _ _ (edits _ U _ _ _ command rest output none makes follows) (refuses _ _ _ _ _ cause _ written so behind) =
      absurd (refused-or-none so none)
  one-follows T backs n seen _ _ _ (edits _ U _ _ _ command rest output none makes follows) (edits _ V _ _ _ _ _ written empty made behind) =
      let trees : V ≡ U = one_edit T V U command made makes in
      ap (in_front (edit_line n ++ telling.text U))
      (one-follows U (take undos (earlier_of T command ∷ backs)) (n + 1) (then_shown seen (telling.shows U)) rest output written follows
      (subst (λ (X : Table). Follows telling undos X (take undos (earlier_of T command ∷ backs)) (n + 1) (then_shown seen (telling.shows X)) rest written) trees behind))
      ∙ ap (λ (X : Table). in_front (edit_line n ++ telling.text X) written) (sym trees)
  one-follows T _ n seen _ _ _ (undoes _ U back backs _ _ rest output taken follows) (undoes _ V _ _ _ _ _ written so behind) =
      let trees : V ≡ U = one-taken T U V back taken so in
      ap (in_front (undo_line n ++ telling.text U))
      (one-follows U backs (n + 1) (then_shown seen (telling.shows U)) rest output written follows
      (subst (λ (X : Table). Follows telling undos X backs (n + 1) (then_shown seen (telling.shows X)) rest written) trees behind))
      ∙ ap (λ (X : Table). in_front (undo_line n ++ telling.text X) written) (sym trees)
  one-follows T _ n seen _ _ _ (undoes _ U back backs _ _ rest output taken follows) (lacks_numbers _ _ _ _ _ _ written less behind) =
      absurd (omega (arith, less, taken.enough))
  one-follows T _ n seen _ _ _ (lacks_numbers _ back backs _ _ rest output less follows) (undoes _ V _ _ _ _ _ written taken behind) =
      absurd (omega (arith, less, taken.enough))
  one-follows T _ n seen _ _ _ (lacks_numbers _ back backs _ _ rest output less follows) (lacks_numbers _ _ _ _ _ _ written so behind) =
      ap (in_front (refused_line n IdsSpent)) (one-follows T (back ∷ backs) (n + 1) seen rest output written follows behind)
  one-follows T _ n seen _ _ _ (has_no_history _ _ _ rest output follows) (has_no_history _ _ _ _ written behind) =
      ap (in_front (no_history_line n)) (one-follows T [] (n + 1) seen rest output written follows behind)

  pub one-states : (T : Table) (bytes : List ℕ) (a b : Output) → States telling undos T bytes a → States telling undos T bytes b → a ≡ b
  one-states T bytes a b p q =
      p.2 ∙ ap (in_front (telling.text T)) (one-follows T [] 1 (telling.shows T) (items_of undos bytes) p.0 q.0 p.1 q.1) ∙ sym q.2

-- and so is the document that commands make
module _ (one_edit : OneEdit) (telling : Telling) where
  one-leads : (T : Table) (script other : Script) (U V : Table) → script ≡ other → LeadsTo telling T script U → LeadsTo telling T other V → U ≡ V
  one-leads T _ _ _ _ same (to_the_end _) (to_the_end _) = refl
  one-leads T _ _ _ _ same (to_the_end _) (to_a_fault _ fault) = refl
  one-leads T _ _ _ _ same (to_the_end _) (past_refused _ V command reason rest some leads) = absurd (ends-or-goes command rest same)
  one-leads T _ _ _ _ same (to_the_end _) (past_edited _ W V command rest none makes leads) = absurd (ends-or-goes command rest same)
  one-leads T _ _ _ _ same (to_a_fault _ fault) (to_the_end _) = refl
  one-leads T _ _ _ _ same (to_a_fault _ fault) (to_a_fault _ found) = refl
  one-leads T _ _ _ _ same (to_a_fault _ fault) (past_refused _ V command reason rest some leads) = absurd (stops-or-goes fault command rest same)
  one-leads T _ _ _ _ same (to_a_fault _ fault) (past_edited _ W V command rest none makes leads) = absurd (stops-or-goes fault command rest same)
  one-leads T _ _ _ _ same (past_refused _ U command reason rest some leads) (to_the_end _) = absurd (ends-or-goes command rest (sym same))
  one-leads T _ _ _ _ same (past_refused _ U command reason rest some leads) (to_a_fault _ fault) = absurd (stops-or-goes fault command rest (sym same))
  one-leads T _ _ _ _ same (past_refused _ U command reason rest some leads) (past_refused _ V other cause more so behind) =
      one-leads T rest more U V (command-same command other rest more same).1 leads behind
  one-leads T _ _ _ _ same (past_refused _ U command reason rest some leads) (past_edited _ W V other more none makes behind) =
      let at = command-same command other rest more same in
      absurd (refused-or-none some (ap (command_refusal (under telling T)) at.0 ∙ none))
  one-leads T _ _ _ _ same (past_edited _ X U command rest none makes leads) (to_the_end _) = absurd (ends-or-goes command rest (sym same))
  one-leads T _ _ _ _ same (past_edited _ X U command rest none makes leads) (to_a_fault _ fault) = absurd (stops-or-goes fault command rest (sym same))
  one-leads T _ _ _ _ same (past_edited _ X U command rest none makes leads) (past_refused _ V other cause more so behind) =
      let at = command-same command other rest more same in
      absurd (refused-or-none (ap (command_refusal (under telling T)) at.0 ∙ so) none)
  one-leads T _ _ _ _ same (past_edited _ X U command rest none makes leads) (past_edited _ W V other more empty made behind) =
      let at = command-same command other rest more same in
      let trees : W ≡ X = sym (one_edit T X W command makes (subst (λ (c : EditCommand). IsEdited T c W) (sym at.0) made)) in
      one-leads X rest more U V at.1 leads (subst (λ (Y : Table). LeadsTo telling Y more V) trees behind)

module _ (one_edit : OneEdit) (plan : Plan) where
  pub one-measures : (T : Table) (bytes : List ℕ) (a b : Output) → Measures plan T bytes a → Measures plan T bytes b → a ≡ b
  one-measures T bytes a b p q =
      let lasts : p.last ≡ q.last = one-leads one_edit (by_plan plan) T (script_of bytes) (script_of bytes) p.last q.last refl p.leads q.leads in
      p.is
      ∙ ap (λ (U : Table). measured_as p.followed.ends (measure_text plan T U) p.followed) lasts
      ∙ ap (λ (o : Output). measured_as o.ends (measure_text plan T q.last) o) (one-states one_edit (by_plan plan) 0 T bytes p.followed q.followed p.states q.states)
      ∙ sym q.is

-- stages over another shelf
pub one-apart : {A : Type 0} (stage : Stage A) → Single stage → Single (Apart stage)
one-apart stage one opened others came other p q decided so = (p.0 ∙ sym q.0, (one p.1 q.1 came other p.2 q.2 decided so).1)

-- what was read of a file is one thing where the outside did not fail
one-fetching : (files : Files) (name : List ℕ) (limit : ℕ) → Single (Fetching files name limit)
one-fetching files name limit opened others came other p q decided so =
    (p.0 ∙ sym q.0, held came p.1 decided ∙ sym (held other q.1 so))
  where
    held : (c : Came (Option (List ℕ))) → (c ≡ unread name) ⊎ (c ≡ held_under name limit (get files name)) → IsDecided c → c ≡ held_under name limit (get files name)
    held c either is = ⊎_elim (λ (failed : c ≡ unread name). absurd (no_unread c failed is)) (λ (e : c ≡ held_under name limit (get files name)). e) either

module _ (one_tree : OneTree) (one_inclusion : OneInclusion) (one_plan : OnePlan) (one_edit : OneEdit) (files : Files) where
  one-parsed : (bytes : List ℕ) (r s : Result Table DocFault) → IsParsed bytes r → IsParsed bytes s → r ≡ s
  one-parsed bytes (Ok T) (Ok U) p q = ap (λ (X : Table). Ok X) (one_tree (bare (events_of Document bytes)) T U p.scoped q.scoped)
  one-parsed bytes (Ok T) (Err fault) p q = absurd (no-fault bytes T fault p q)
  one-parsed bytes (Err fault) (Ok T) p q = absurd (no-fault bytes T fault q p)
  one-parsed bytes (Err fault) (Err other) p q = ap (λ (f : DocFault). Err f) (same-fault bytes fault other p q)

  one-parsing : (found : Option (List ℕ)) → Single (Parsing found)
  one-parsing None = one-is (halts (refused_document TooLarge))
  one-parsing (Some bytes) = one-by (IsParsed bytes) parsed (one-parsed bytes)

  one-loading : (name : List ℕ) → Single (Loading files name)
  one-loading name = one-then (Fetching files name MAX_FILE_BYTES) Parsing (one-fetching files name MAX_FILE_BYTES) one-parsing

  pub one-reporting : (report : List ℕ) → Single (Reporting files report)
  one-reporting report = one-then (Loading files report) Saying (one-loading report) (λ T. one-is (halt_at (svrl.first_fault T) (refused_report T) (report_of T)))

  one-scripting : (name : List ℕ) → Single (Scripting files name)
  one-scripting name = one-then (Fetching files name MAX_SCRIPT_BYTES) (λ found. Is (as_script found)) (one-fetching files name MAX_SCRIPT_BYTES) (λ found. one-is (as_script found))

  -- where the outside failed the files decide nothing
  not-failed : (r : Result Table IncludeFault) (came : Came Table) → came ≡ included r → IsDecided came → HasFailed r → ⊥
  not-failed (Ok T) came is decided failed = failed
  not-failed (Err fault) came is decided failed =
      no_unread came (is ∙ ap (λ (k : IncludeKind). at_include k fault.name) failed) decided

  -- and else which tree a schema has, or where it stops, and which files are opened
  pub one-inclusion : (schema : List ℕ) → Single (Inclusion files schema)
  one-inclusion schema opened others came other p q decided so =
      let same : (p.0 ≡ q.0) × (opened ≡ others) = one_inclusion files schema opened others p.0 q.0 p.1 q.1 (not-failed p.0 came p.2 decided) (not-failed q.0 other q.2 so) in
      (same.1, p.2 ∙ ap included same.0 ∙ sym q.2)

  pub one-reading : (T : Table) → Single (Reading T)
  one-reading T = one-then (Is (halt_at (first_broken T) (refused_rule T) (raw_schema T))) (Flattening T)
      (one-is (halt_at (first_broken T) (refused_rule T) (raw_schema T))) (λ raw. one-is (halt_at (first_fault raw) (refused_rule T) (flat_schema raw)))

  pub one-expanding : (schema : List ℕ) → Single (Expanding files schema)
  one-expanding schema = one-then (Inclusion files schema) Reading (one-inclusion schema) one-reading

  pub one-compiling : (T : Table) (phase : List ℕ) (flat : FlatSchema) → Single (Compiling T phase flat)
  one-compiling T phase flat = one-by (compiled flat phase) (planned T) (one_plan flat phase)

  pub one-planning : (phase schema : List ℕ) → Single (Planning files phase schema)
  one-planning phase schema = one-then (Inclusion files schema) (λ T. Then (Reading T) (Compiling T phase))
      (one-inclusion schema) (λ T. one-then (Reading T) (Compiling T phase) (one-reading T) (one-compiling T phase))

  one-treeing : (plan : Plan) (document : List ℕ) → Single (Treeing files plan document)
  one-treeing plan document = one-then (Loading files document) (λ T. Is (halt_if (has_too_many_pairs plan T) too_many_pairs (tree_under plan T)))
      (one-loading document) (λ T. one-is (halt_if (has_too_many_pairs plan T) too_many_pairs (tree_under plan T)))

  pub one-opening : (phase schema document : List ℕ) → Single (Opening files phase schema document)
  one-opening phase schema document = one-then (Planning files phase schema) (λ plan. Treeing files plan document) (one-planning phase schema) (λ plan. one-treeing plan document)

  pub one-opening-all : (phase schema document script : List ℕ) → Single (OpeningAll files phase schema document script)
  one-opening-all phase schema document script =
      one-then (Opening files phase schema document) (λ treed. Then (Scripting files script) (λ bytes. Is (goes (record { treed = treed; script = bytes }))))
      (one-opening phase schema document) (λ treed. one-then (Scripting files script) (λ bytes. Is (goes (record { treed = treed; script = bytes })))
      (one-scripting script) (λ bytes. one-is (goes (record { treed = treed; script = bytes }))))

  -- watched expressions
  one-expressing : OneReading → (found : Option (List ℕ)) → Single (Expressing found)
  one-expressing one_reading None = one-is (halts (refused_watches watches.TooLarge))
  one-expressing one_reading (Some bytes) = one-by (WatchesAre bytes) expressions (one_reading bytes)

  one-watching : OneReading → (named : List ℕ) → Single (Watching files named)
  one-watching one_reading named = one-then (Fetching files named MAX_FILE_BYTES) Expressing (one-fetching files named MAX_FILE_BYTES) (one-expressing one_reading)

  one-watching-on : (exprs : List TypedTree) (document : List ℕ) → Single (WatchingOn files exprs document)
  one-watching-on exprs document = one-then (Loading files document) (λ T. Is (goes (watched_on exprs T))) (one-loading document) (λ T. one-is (goes (watched_on exprs T)))

  one-opening-watch : OneReading → (named document : List ℕ) → Single (OpeningWatch files named document)
  one-opening-watch one_reading named document =
      one-then (Watching files named) (λ exprs. WatchingOn files exprs document) (one-watching one_reading named) (λ exprs. one-watching-on exprs document)

  pub one-watching-all : OneReading → (named document script : List ℕ) → Single (WatchingAll files named document script)
  one-watching-all one_reading named document script =
      one-then (OpeningWatch files named document) (λ watched. Then (Scripting files script) (λ bytes. Is (goes (record { watched = watched; script = bytes }))))
      (one-opening-watch one_reading named document) (λ watched. one-then (Scripting files script) (λ bytes. Is (goes (record { watched = watched; script = bytes })))
      (one-scripting script) (λ bytes. one-is (goes (record { watched = watched; script = bytes }))))

-- what is made for a measure
pub one-making : OneTree → OneInclusion → OnePlan → OneEdit → (items : ℕ) → Single (Making items)
one-making one_tree one_inclusion one_plan one_edit items =
    one-apart (OpeningAll (measure_files items) default_phase SCHEMA_NAME.now DOCUMENT_NAME.now SCRIPT_NAME.now)
    (one-opening-all one_tree one_inclusion one_plan one_edit (measure_files items) default_phase SCHEMA_NAME.now DOCUMENT_NAME.now SCRIPT_NAME.now)

module _ (one_tree : OneTree) (one_inclusion : OneInclusion) (one_plan : OnePlan) (one_edit : OneEdit) (one_reading : OneReading) (files : Files) where
  -- and so the output of a run
  one-from : {A : Type 0} (ready : Stage A) (outputs : A → Output → Type 0) → Single ready → ((value : A) (a b : Output) → outputs value a → outputs value b → a ≡ b) → Single (Then ready (λ value. Any (outputs value)))
  one-from ready outputs one each = one-then ready (λ value. Any (outputs value)) one (λ value. one-by (outputs value) goes (each value))

  one-written : (ready : Stage Output) → Single ready → Single (Then ready (λ written. Any (λ output. output ≡ written)))
  one-written ready one = one-from ready (λ written output. output ≡ written) one (λ written a b p q. p ∙ sym q)

  one-ends : (asked : Option Command) → Single ((behaviour asked).ends files)
  one-ends None = one-written (Is (halts (stopped Usage usage_line))) (one-is (halts (stopped Usage usage_line)))
  one-ends (Some (tell notice)) = one-written (Is (goes (notice_output notice))) (one-is (goes (notice_output notice)))
  one-ends (Some (expand schema)) = one-written (Then (Expanding files schema) (λ flat. Is (goes (expanded flat))))
      (one-then (Expanding files schema) (λ flat. Is (goes (expanded flat))) (one-expanding one_tree one_inclusion one_plan one_edit files schema) (λ flat. one-is (goes (expanded flat))))
  one-ends (Some (summarize report)) = one-written (Then (Reporting files report) (λ said. Is (goes (summed_up said))))
      (one-then (Reporting files report) (λ said. Is (goes (summed_up said))) (one-reporting one_tree one_inclusion one_plan one_edit files report) (λ said. one-is (goes (summed_up said))))
  one-ends (Some (validate phase schema document)) = one-from (Opening files phase schema document) (λ at output. output ≡ state at.plan at.tree)
      (one-opening one_tree one_inclusion one_plan one_edit files phase schema document) (λ at a b p q. p ∙ sym q)
  one-ends (Some (follow undos phase schema document script)) = one-from (OpeningAll files phase schema document script) (λ at. States (by_plan at.treed.plan) undos at.treed.tree at.script)
      (one-opening-all one_tree one_inclusion one_plan one_edit files phase schema document script) (λ at. one-states one_edit (by_plan at.treed.plan) undos at.treed.tree at.script)
  one-ends (Some (watch named document script)) = one-from (WatchingAll files named document script) (λ at. States (by_watches at.watched.expressions) 0 at.watched.tree at.script)
      (one-watching-all one_tree one_inclusion one_plan one_edit files one_reading named document script) (λ at. one-states one_edit (by_watches at.watched.expressions) 0 at.watched.tree at.script)
  one-ends (Some (measure items)) = one-from (Making items) (λ at. Measures at.treed.plan at.treed.tree at.script)
      (one-making one_tree one_inclusion one_plan one_edit items) (λ at. one-measures one_edit at.treed.plan at.treed.tree at.script)

  one-end : (stages : Stage Output) → Single stages → (opened others : List (List ℕ)) (a b : Output) → IsEnd stages opened a → IsEnd stages others b → a ≡ b
  one-end stages one opened others a b p q =
      ⊎_elim
      (λ (v : stages opened (goes a)). ⊎_elim
      (λ (w : stages others (goes b)). let same : goes a ≡ goes b = (one opened others (goes a) (goes b) v w tt tt).1 in let is : a ≡ b = cc in is)
      (λ (w : stages others (halts b)). absurd (let clash : goes a ≡ halts b = (one opened others (goes a) (halts b) v w tt tt).1 in cc))
      q)
      (λ (v : stages opened (halts a)). ⊎_elim
      (λ (w : stages others (goes b)). absurd (let clash : halts a ≡ goes b = (one opened others (halts a) (goes b) v w tt tt).1 in cc))
      (λ (w : stages others (halts b)). let same : halts a ≡ halts b = (one opened others (halts a) (halts b) v w tt tt).1 in let is : a ≡ b = cc in is)
      q)
      p

  pub one-output : (words : List (List ℕ)) (a b : Output) → IsOutput words files a → IsOutput words files b → a ≡ b
  one-output words a b p q = one-end ((asked_by words).ends files) (one-ends (command_of words)) p.0 q.0 a b p.1 q.1
