-- Each run has an output: each of its stages goes on with a value, or halts it.
use Rattle.std.proofs.Common.{◌≡◌, inl, inr, ℕ, ◌+◌, ◌≤◌, Bool, true, false, List, [], ◌∷◌, length, take, Option, None, Some, Result, Ok, Err, refl, sym, ap, ◌∙◌}
use Rattle.std.specs.Prelude.{IfSome, nat_lt, if◌then◌else◌}
use Rattle.std.specs.FinMap.{get}
use Rattle.std.proofs.lemmas.Bool.{ltb-false}
use Rattle.sch_io.specs.Files.{Files}
use Rattle.sch_io.specs.declared.reading.TheConstants.{MAX_FILE_BYTES}
use Rattle.doc_tree.specs.Laws.{WellFormed}
use Rattle.doc_tree.specs.Kinds.{is_document}
use Rattle.doc_tree.specs.Table.{Table}
use Rattle.doc_tree.specs.Walks.{order}
use Rattle.name_scopes.specs.Scoping.{InScope}
use Rattle.name_scopes.specs.DocFaults.{doc_fault}
use Rattle.name_scopes.specs.declared.fault.DocFault.{DocFault}
use Rattle.name_scopes_laws.specs.Documents.{DocumentsHaveTrees}
use Rattle.edit_script.specs.Script.{Script, script_of}
use Rattle.edit_script.specs.declared.command.Command.{Command as Edit}
use Rattle.edit_script.specs.declared.fault.ScriptFault.{ScriptFault}
use Rattle.edit_script.specs.declared.limits.TheConstants.{MAX_SCRIPT_BYTES}
use Rattle.edit_command_laws.specs.SomeEdit.{ScriptsAreWellFormed}
use Rattle.edit_way_laws.specs.Items.{ItemsAreWellFormed}
use Rattle.sch_model.specs.declared.fault.SchemaFault.{SchemaFault}
use Rattle.sch_model.specs.declared.flat.FlatSchema.{FlatSchema}
use Rattle.sch_rules.specs.FirstBroken.{first_broken}
use Rattle.sch_rules.specs.RawSchema.{raw_schema}
use Rattle.sch_include.specs.Included.{HasFailed, Including}
use Rattle.sch_include.specs.declared.fault.IncludeFault.{IncludeFault}
use Rattle.sch_include.specs.declared.fault.IncludeKind.{IncludeKind}
use Rattle.sch_include.specs.declared.fault.IncludeKind.TheVariants as kind
use Rattle.sch_include_laws.specs.SomeInclusion.{SomeInclusion}
use Rattle.sch_abstract.specs.FirstFault.{first_fault}
use Rattle.svrl_read.specs.FirstFault as svrl
use Rattle.svrl_read.specs.Value.{report_of}
use Rattle.sch_abstract.specs.Flat.{flat_schema}
use Rattle.sch_compiled.specs.declared.plan.Plan.{Plan}
use Rattle.sch_plan.specs.Compiled.{compiled}
use Rattle.sch_plan_laws.specs.Planned.{EachPhaseIsCompiled}
use Rattle.sch_cli.specs.Pairs.{CapIsForPairs, has_too_many_pairs}
use Rattle.sch_cli.proofs.PairLemmas.{under-cap}
use Rattle.sch_cli.specs.shown.Shown.{Shown}
use Rattle.sch_words.specs.Commands.{Command, tell, expand, validate, follow, measure, summarize, watch, command_of, default_phase}
use Rattle.sch_measure.specs.Shelf.{measure_files}
use Rattle.sch_measure.specs.declared.shelf.TheConstants.{SCHEMA_NAME, DOCUMENT_NAME, SCRIPT_NAME}
use Rattle.sch_words.specs.declared.status.Status.TheVariants.{SchemaRefused, Usage}
use Rattle.sch_stops.specs.declared.refusal.FileRefusal.TheVariants as refusal
use Rattle.sch_stops.specs.Output.{Output, stopped, usage_line}
use Rattle.sch_stops.specs.Refusals.{include_line}
use Rattle.sch_loading.specs.Loading.{Compiling, Expanding, Expressing, Fetching, Flattening, Inclusion, Loading, Parsing, Planning, Reading, Reporting, Saying, Scripting, Watching, as_script, at_include, held_under, missing, refused_document, refused_file, refused_report, refused_rule, refused_watches, script_too_large}
use Rattle.sch_loading.specs.Stages.{Is, Stage, Then, goes, halt_at, halt_if, halts}
use Rattle.sch_cli.specs.Telling.{Telling, by_plan, by_watches}
use Rattle.xp_typed_tree.specs.TypedTree.{TypedTree}
use Rattle.watch_lines.specs.Watches.{WatchesAre}
use Rattle.watch_lines.specs.declared.fault.WatchFault.{WatchFault}
use Rattle.watch_lines_laws.specs.Reading.{EachFileIsRead}
use Rattle.sch_stops.specs.declared.watches.WatchesRefusal.TheVariants as watches
use Rattle.sch_cli.specs.Behaviours.{Any, IsEnd, Making, Measures, Opening, OpeningAll, OpeningWatch, Scripted, States, Treed, Treeing, Watched, WatchedScript, WatchingAll, WatchingOn, behaviour, too_many_pairs, tree_under, watched_on}
use Rattle.sch_cli.specs.Following.{Earlier, Follows, earlier_of, edits, edits_alone, items_of, refuses, then_shown}
use Rattle.sch_cli.specs.Ways.{CanGoOn}
use Rattle.sch_cli.proofs.WayLemmas.{WayLaws, can-start, items-formed, way-follows, ways-exist}
use Rattle.sch_cli.specs.Measuring.{LeadsTo, measure_text, measured_as, past_edited, past_refused, to_a_fault, to_the_end}
use Rattle.sch_cli.specs.Output.{expanded, in_front, notice_output, state, summed_up}
use Rattle.sch_cli_laws.specs.Decided.{SomeOutput}
use Rattle.sch_cli_laws.proofs.Ways.{apart-ends, Anything, Ends, goes-ends, halt-at-ends, halt-if-ends, halted, on_with, then-ends}

-- the tree of a document, which is in scope
abbrev IsTree : Table → Type 0
IsTree T = WellFormed T × InScope T × (is_document T ≡ true)

-- no more bytes than a limit, where there are bytes
abbrev IsShort : ℕ → Option (List ℕ) → Type 0
IsShort limit found = IfSome found (λ bytes. length bytes ≤ limit)

-- a document's tree is one, with no more live nodes than there may be, and a script is short enough
abbrev IsTreed : Treed → Type 0
IsTreed treed = CanGoOn (by_plan treed.plan) treed.tree []

abbrev IsScripted : Scripted → Type 0
IsScripted at = IsTreed at.treed × (length at.script ≤ MAX_SCRIPT_BYTES)

abbrev IsWatched : Watched → Type 0
IsWatched at = CanGoOn (by_watches at.expressions) at.tree []

abbrev IsWatchedScript : WatchedScript → Type 0
IsWatchedScript at = IsWatched at.watched × (length at.script ≤ MAX_SCRIPT_BYTES)

-- what is to come of a script, by its parts
abbrev script_with : List Edit → Option ScriptFault → Script
script_with commands fault = record { commands = commands; fault = fault }

-- what is written for the commands and undos of a script
module _ (ways : WayLaws) (scripts : ScriptsAreWellFormed) (formed : ItemsAreWellFormed) (telling : Telling) where
  some-states : (undos : ℕ) (T : Table) (bytes : List ℕ) → CanGoOn telling T [] → length bytes ≤ MAX_SCRIPT_BYTES → (output : Output) × States telling undos T bytes output
  some-states undos T bytes can short =
      let rest = way-follows telling undos T [] 1 (telling.shows T) (items_of undos bytes)
      (ways-exist telling undos ways (items_of undos bytes) T [] can (items-formed scripts formed undos bytes short)) in
      (in_front (telling.text T) rest.0, (rest.0, rest.1, refl))

-- what is written for the commands of a script in which nothing is undone is written for those that make some document
follows-leads : (telling : Telling) (commands : List Edit) (fault : Option ScriptFault) (T : Table) (backs : List Earlier) (number : ℕ) (seen : Shown) (output : Output) →
    Follows telling 0 T backs number seen (edits_alone commands fault) output → (U : Table) × LeadsTo telling T (script_with commands fault) U
follows-leads telling [] None T backs number seen output follows = (T, to_the_end T)
follows-leads telling [] (Some fault) T backs number seen output follows = (T, to_a_fault T fault)
follows-leads telling (command ∷ commands) fault T backs number seen _ (refuses _ _ _ _ _ reason _ output some follows) =
    let later = follows-leads telling commands fault T backs (number + 1) seen output follows in
    (later.0, past_refused T later.0 command reason (script_with commands fault) some later.1)
follows-leads telling (command ∷ commands) fault T backs number seen _ (edits _ V _ _ _ _ _ output none makes follows) =
    let later = follows-leads telling commands fault V (take 0 (earlier_of T command ∷ backs)) (number + 1) (then_shown seen (telling.shows V)) output follows in
    (later.0, past_edited T V later.0 command (script_with commands fault) none makes later.1)

module _ (ways : WayLaws) (scripts : ScriptsAreWellFormed) (formed : ItemsAreWellFormed) (plan : Plan) where
  some-measures : (T : Table) (bytes : List ℕ) → CanGoOn (by_plan plan) T [] → length bytes ≤ MAX_SCRIPT_BYTES → (output : Output) × Measures plan T bytes output
  some-measures T bytes can short =
      let states = some-states ways scripts formed (by_plan plan) 0 T bytes can short in
      let last = follows-leads (by_plan plan) (script_of bytes).commands (script_of bytes).fault T [] 1 ((by_plan plan).shows T) states.1.0 states.1.1 in (
        measured_as states.0.ends (measure_text plan T last.0) states.0,
        record { followed = states.0; states = states.1; last = last.0; leads = last.1; is = refl },
      )

-- an include stops a run, but where the outside failed
halted-at : (what : IncludeKind) (name : List ℕ) → (what ≡ kind.Failed → ⊥) → (output : Output) × (at_include what name ≡ halts output)
halted-at kind.Missing name ends = (missing name, refl)
halted-at kind.Failed name ends = absurd (ends refl)
halted-at kind.TooLarge name ends = (refused_file name refusal.TooLarge, refl)
halted-at (kind.Doc fault) name ends = (refused_file name (refusal.Faulted fault), refl)
halted-at kind.NoHref name ends = (stopped SchemaRefused (include_line kind.NoHref name), refl)
halted-at kind.Scheme name ends = (stopped SchemaRefused (include_line kind.Scheme name), refl)
halted-at kind.Fragment name ends = (stopped SchemaRefused (include_line kind.Fragment name), refl)
halted-at kind.Cycle name ends = (stopped SchemaRefused (include_line kind.Cycle name), refl)
halted-at kind.TooDeep name ends = (stopped SchemaRefused (include_line kind.TooDeep name), refl)
halted-at kind.TooMany name ends = (stopped SchemaRefused (include_line kind.TooMany name), refl)
halted-at kind.TooManyNodes name ends = (stopped SchemaRefused (include_line kind.TooManyNodes name), refl)
halted-at kind.TreeTooDeep name ends = (stopped SchemaRefused (include_line kind.TreeTooDeep name), refl)
halted-at kind.TooMuchText name ends = (stopped SchemaRefused (include_line kind.TooMuchText name), refl)

module _ (trees : DocumentsHaveTrees) (some_inclusion : SomeInclusion) (each_compiled : EachPhaseIsCompiled) (pairs : CapIsForPairs) (files : Files) where
  -- schemas
  inclusion-ends : (schema : List ℕ) → Ends (Inclusion files schema) Anything
  inclusion-ends schema = let found = some_inclusion files schema in by found.0 found.1 found.2 found.3
    where
      by : (opened : List (List ℕ)) (r : Result Table IncludeFault) → Including files schema opened r → (HasFailed r → ⊥) → Ends (Inclusion files schema) Anything
      by opened (Ok T) gives ends = on_with opened T (Ok T, gives, refl) tt
      by opened (Err fault) gives ends = let stop = halted-at fault.kind fault.name ends in halted opened stop.0 (Err fault, gives, sym stop.1)

  reading-ends : (T : Table) → Ends (Reading T) Anything
  reading-ends T =
      then-ends (Is (halt_at (first_broken T) (refused_rule T) (raw_schema T))) (Flattening T) Anything Anything
      (halt-at-ends (first_broken T) (refused_rule T) (raw_schema T) Anything tt) (λ raw any. halt-at-ends (first_fault raw) (refused_rule T) (flat_schema raw) Anything tt)

  compiling-ends : (T : Table) (phase : List ℕ) (flat : FlatSchema) → Ends (Compiling T phase flat) Anything
  compiling-ends T phase flat = let found = each_compiled flat phase in by found.0 found.1
    where
      by : (r : Result Plan SchemaFault) → compiled flat phase r → Ends (Compiling T phase flat) Anything
      by (Ok plan) is = on_with [] plan (refl, Ok plan, is, refl) tt
      by (Err fault) is = halted [] (refused_rule T fault) (refl, Err fault, is, refl)

  expanding-ends : (schema : List ℕ) → Ends (Expanding files schema) Anything
  expanding-ends schema = then-ends (Inclusion files schema) Reading Anything Anything (inclusion-ends schema) (λ T any. reading-ends T)

  planning-ends : (phase schema : List ℕ) → Ends (Planning files phase schema) Anything
  planning-ends phase schema =
      then-ends (Inclusion files schema) (λ T. Then (Reading T) (Compiling T phase)) Anything Anything (inclusion-ends schema)
      (λ T any. then-ends (Reading T) (Compiling T phase) Anything Anything (reading-ends T) (λ flat so. compiling-ends T phase flat))

  -- documents and scripts
  fetching-ends : (name : List ℕ) (limit : ℕ) → Ends (Fetching files name limit) (IsShort limit)
  fetching-ends name limit = by (get files name) refl
    where
      by : (o : Option (List ℕ)) → get files name ≡ o → Ends (Fetching files name limit) (IsShort limit)
      by None is = halted (name ∷ []) (missing name) (refl, inr (sym (ap (held_under name limit) is)))
      by (Some bytes) is = cut (nat_lt limit (length bytes)) refl
        where
          cut : (b : Bool) → nat_lt limit (length bytes) ≡ b → Ends (Fetching files name limit) (IsShort limit)
          cut true long =
              on_with (name ∷ []) None (refl, inr (sym (ap (held_under name limit) is ∙ ap (λ (c : Bool). goes (if c then None else Some bytes)) long))) tt
          cut false short =
              on_with (name ∷ []) (Some bytes) (refl, inr (sym (ap (held_under name limit) is ∙ ap (λ (c : Bool). goes (if c then None else Some bytes)) short)))
              (ltb-false limit (length bytes) short)

  parsing-ends : (found : Option (List ℕ)) → IsShort MAX_FILE_BYTES found → Ends (Parsing found) IsTree
  parsing-ends None short = halted [] (refused_document refusal.TooLarge) (refl, refl)
  parsing-ends (Some bytes) short = by (doc_fault bytes) refl
    where
      by : (o : Option DocFault) → doc_fault bytes ≡ o → Ends (Parsing (Some bytes)) IsTree
      by None sound =
          let T = trees bytes sound short in
          on_with [] T.0 (refl, Ok T.0, record { sound = sound; scoped = T.1 }, refl) (T.1.well_formed, T.1.in_scope, T.1.document)
      by (Some fault) is = halted [] (refused_document (refusal.Faulted fault)) (refl, Err fault, is, refl)

  loading-ends : (document : List ℕ) → Ends (Loading files document) IsTree
  loading-ends document = then-ends (Fetching files document MAX_FILE_BYTES) Parsing (IsShort MAX_FILE_BYTES) IsTree (fetching-ends document MAX_FILE_BYTES) parsing-ends

  reporting-ends : (report : List ℕ) → Ends (Reporting files report) Anything
  reporting-ends report =
      then-ends (Loading files report) Saying IsTree Anything (loading-ends report) (λ T tree. halt-at-ends (svrl.first_fault T) (refused_report T) (report_of T) Anything tt)

  script-ends : (found : Option (List ℕ)) → IsShort MAX_SCRIPT_BYTES found → Ends (Is (as_script found)) (λ bytes. length bytes ≤ MAX_SCRIPT_BYTES)
  script-ends None short = halted [] script_too_large (refl, refl)
  script-ends (Some bytes) short = on_with [] bytes (refl, refl) short

  scripting-ends : (name : List ℕ) → Ends (Scripting files name) (λ bytes. length bytes ≤ MAX_SCRIPT_BYTES)
  scripting-ends name =
      then-ends (Fetching files name MAX_SCRIPT_BYTES) (λ found. Is (as_script found)) (IsShort MAX_SCRIPT_BYTES) (λ bytes. length bytes ≤ MAX_SCRIPT_BYTES)
      (fetching-ends name MAX_SCRIPT_BYTES) script-ends

  treeing-ends : (plan : Plan) (document : List ℕ) → Ends (Treeing files plan document) IsTreed
  treeing-ends plan document =
      then-ends (Loading files document) (λ T. Is (halt_if (has_too_many_pairs plan T) too_many_pairs (tree_under plan T))) IsTree IsTreed (loading-ends document)
      (λ T tree. halt-if-ends (has_too_many_pairs plan T) too_many_pairs (tree_under plan T) IsTreed
      (λ few. can-start (by_plan plan) 0 T tree.0 tree.1 tree.2 (under-cap pairs plan (length (order T)) tree.0.few_nodes few)))

  opening-ends : (phase schema document : List ℕ) → Ends (Opening files phase schema document) IsTreed
  opening-ends phase schema document =
      then-ends (Planning files phase schema) (λ plan. Treeing files plan document) Anything IsTreed (planning-ends phase schema) (λ plan any. treeing-ends plan document)

  opening-all-ends : (phase schema document script : List ℕ) → Ends (OpeningAll files phase schema document script) IsScripted
  opening-all-ends phase schema document script =
      then-ends (Opening files phase schema document) (λ treed. Then (Scripting files script) (λ bytes. Is (goes (record { treed = treed; script = bytes })))) IsTreed IsScripted
      (opening-ends phase schema document)
      (λ treed tree. then-ends (Scripting files script) (λ bytes. Is (goes (record { treed = treed; script = bytes }))) (λ bytes. length bytes ≤ MAX_SCRIPT_BYTES) IsScripted
      (scripting-ends script) (λ bytes short. goes-ends (record { treed = treed; script = bytes }) IsScripted (tree, short)))

  -- watched expressions
  expressing-ends : EachFileIsRead → (found : Option (List ℕ)) → Ends (Expressing found) Anything
  expressing-ends read None = halted [] (refused_watches watches.TooLarge) (refl, refl)
  expressing-ends read (Some bytes) = let found = read bytes in by found.0 found.1
    where
      by : (r : Result (List TypedTree) WatchFault) → WatchesAre bytes r → Ends (Expressing (Some bytes)) Anything
      by (Ok exprs) are = on_with [] exprs (refl, Ok exprs, are, refl) tt
      by (Err fault) are = halted [] (refused_watches (watches.Faulted fault)) (refl, Err fault, are, refl)

  watching-ends : EachFileIsRead → (named : List ℕ) → Ends (Watching files named) Anything
  watching-ends read named =
      then-ends (Fetching files named MAX_FILE_BYTES) Expressing (IsShort MAX_FILE_BYTES) Anything (fetching-ends named MAX_FILE_BYTES) (λ found short. expressing-ends read found)

  watching-on-ends : (exprs : List TypedTree) (document : List ℕ) → Ends (WatchingOn files exprs document) IsWatched
  watching-on-ends exprs document =
      then-ends (Loading files document) (λ T. Is (goes (watched_on exprs T))) IsTree IsWatched (loading-ends document) (λ T tree. goes-ends (watched_on exprs T) IsWatched (can-start (by_watches exprs) 0 T tree.0 tree.1 tree.2 tree.0.few_nodes))

  watching-all-ends : EachFileIsRead → (named document script : List ℕ) → Ends (WatchingAll files named document script) IsWatchedScript
  watching-all-ends read named document script =
      then-ends (OpeningWatch files named document) (λ watched. Then (Scripting files script) (λ bytes. Is (goes (record { watched = watched; script = bytes })))) IsWatched IsWatchedScript
      (then-ends (Watching files named) (λ exprs. WatchingOn files exprs document) Anything IsWatched (watching-ends read named) (λ exprs any. watching-on-ends exprs document))
      (λ watched tree. then-ends (Scripting files script) (λ bytes. Is (goes (record { watched = watched; script = bytes }))) (λ bytes. length bytes ≤ MAX_SCRIPT_BYTES) IsWatchedScript
      (scripting-ends script) (λ bytes short. goes-ends (record { watched = watched; script = bytes }) IsWatchedScript (tree, short)))

-- what is made for a measure
making-ends : DocumentsHaveTrees → SomeInclusion → EachPhaseIsCompiled → CapIsForPairs → (items : ℕ) → Ends (Making items) IsScripted
making-ends trees some_inclusion each_compiled pairs items =
    apart-ends (OpeningAll (measure_files items) default_phase SCHEMA_NAME.now DOCUMENT_NAME.now SCRIPT_NAME.now) IsScripted
    (opening-all-ends trees some_inclusion each_compiled pairs (measure_files items) default_phase SCHEMA_NAME.now DOCUMENT_NAME.now SCRIPT_NAME.now)

module _ (trees : DocumentsHaveTrees) (some_inclusion : SomeInclusion) (each_compiled : EachPhaseIsCompiled) (pairs : CapIsForPairs) (files : Files) where
  -- and so each command
  from-ends : {A : Type 0} (ready : Stage A) (outputs : A → Output → Type 0) (holds : A → Type 0) → Ends ready holds →
      ((value : A) → holds value → (output : Output) × outputs value output) → Ends (Then ready (λ value. Any (outputs value))) Anything
  from-ends ready outputs holds ends each =
      then-ends ready (λ value. Any (outputs value)) holds Anything ends (λ value is. let made = each value is in on_with [] made.0 (refl, made.0, made.1, refl) tt)

  written-ends : (ready : Stage Output) → Ends ready Anything → Ends (Then ready (λ written. Any (λ output. output ≡ written))) Anything
  written-ends ready ends = from-ends ready (λ written output. output ≡ written) Anything ends (λ written any. (written, refl))

  module _ (ways : WayLaws) (scripts : ScriptsAreWellFormed) (formed : ItemsAreWellFormed) (read : EachFileIsRead) where
    asked-ends : (asked : Option Command) → Ends ((behaviour asked).ends files) Anything
    asked-ends None = written-ends (Is (halts (stopped Usage usage_line))) (halted [] (stopped Usage usage_line) (refl, refl))
    asked-ends (Some (tell notice)) = written-ends (Is (goes (notice_output notice))) (goes-ends (notice_output notice) Anything tt)
    asked-ends (Some (expand schema)) =
        written-ends (Then (Expanding files schema) (λ flat. Is (goes (expanded flat))))
        (then-ends (Expanding files schema) (λ flat. Is (goes (expanded flat))) Anything Anything (expanding-ends trees some_inclusion each_compiled pairs files schema) (λ flat any. goes-ends (expanded flat) Anything tt))
    asked-ends (Some (summarize report)) =
        written-ends (Then (Reporting files report) (λ said. Is (goes (summed_up said))))
        (then-ends (Reporting files report) (λ said. Is (goes (summed_up said))) Anything Anything (reporting-ends trees some_inclusion each_compiled pairs files report) (λ said any. goes-ends (summed_up said) Anything tt))
    asked-ends (Some (validate phase schema document)) =
        from-ends (Opening files phase schema document) (λ at output. output ≡ state at.plan at.tree) IsTreed (opening-ends trees some_inclusion each_compiled pairs files phase schema document)
        (λ at tree. (state at.plan at.tree, refl))
    asked-ends (Some (follow undos phase schema document script)) =
        from-ends (OpeningAll files phase schema document script) (λ at. States (by_plan at.treed.plan) undos at.treed.tree at.script) IsScripted (opening-all-ends trees some_inclusion each_compiled pairs files phase schema document script)
        (λ at is. some-states ways scripts formed (by_plan at.treed.plan) undos at.treed.tree at.script is.0 is.1)
    asked-ends (Some (watch named document script)) =
        from-ends (WatchingAll files named document script) (λ at. States (by_watches at.watched.expressions) 0 at.watched.tree at.script) IsWatchedScript
        (watching-all-ends trees some_inclusion each_compiled pairs files read named document script)
        (λ at is. some-states ways scripts formed (by_watches at.watched.expressions) 0 at.watched.tree at.script is.0 is.1)
    asked-ends (Some (measure items)) =
        from-ends (Making items) (λ at. Measures at.treed.plan at.treed.tree at.script) IsScripted (making-ends trees some_inclusion each_compiled pairs items)
        (λ at is. some-measures ways scripts formed at.treed.plan at.treed.tree at.script is.0 is.1)

-- and so a run
abbrev IsOf : Stage Output → Output → Type 0
IsOf stages output = (opened : List (List ℕ)) × IsEnd stages opened output

some-end : (stages : Stage Output) → Ends stages Anything → (output : Output) × IsOf stages output
some-end stages (on_with opened output ends any) = (output, (opened, inl ends))
some-end stages (halted opened output ends) = (output, (opened, inr ends))

pub some-output : DocumentsHaveTrees → SomeInclusion → EachPhaseIsCompiled → CapIsForPairs → WayLaws → ScriptsAreWellFormed → ItemsAreWellFormed → EachFileIsRead → SomeOutput
some-output trees some_inclusion each_compiled pairs ways scripts formed read words files =
    some-end ((behaviour (command_of words)).ends files) (asked-ends trees some_inclusion each_compiled pairs files ways scripts formed read (command_of words))
