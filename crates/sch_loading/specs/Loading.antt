-- The stages in which files are read: a schema up to the plan of a phase, watched expressions, a document, a report, a script.
use Rattle.std.specs.Prelude.{◌≡◌, ◌⊎◌, ℕ, nat_lt, List, [], ◌∷◌, Option, None, Some, Result, Ok, Err, if◌then◌else◌, length}
use Rattle.std.specs.FinMap.{get}
use Rattle.sch_io.specs.Files.{Files}
use Rattle.sch_io.specs.declared.reading.TheConstants.{MAX_FILE_BYTES}
use Rattle.doc_tree.specs.Table.{Table}
use Rattle.edit_script.specs.declared.limits.TheConstants.{MAX_SCRIPT_BYTES}
use Rattle.name_scopes.specs.declared.fault.DocFault.{DocFault}
use Rattle.sch_include.specs.declared.fault.IncludeFault.{IncludeFault}
use Rattle.sch_include.specs.declared.fault.IncludeKind.{IncludeKind}
use Rattle.sch_include.specs.declared.fault.IncludeKind.TheVariants as kind
use Rattle.sch_include.specs.Included.{Including}
use Rattle.sch_model.specs.declared.fault.SchemaFault.{SchemaFault}
use Rattle.sch_model.specs.declared.flat.FlatSchema.{FlatSchema}
use Rattle.sch_model.specs.declared.raw.RawSchema.{RawSchema}
use Rattle.sch_rules.specs.FirstBroken.{first_broken}
use Rattle.sch_rules.specs.RawSchema.{raw_schema}
use Rattle.sch_abstract.specs.FirstFault.{first_fault}
use Rattle.sch_abstract.specs.Flat.{flat_schema}
use Rattle.sch_compiled.specs.declared.plan.Plan.{Plan}
use Rattle.sch_plan.specs.Compiled.{compiled}
use Rattle.doc_locations.specs.Locations.{location_of}
use Rattle.sch_words.specs.declared.status.Status.TheVariants.{SchemaRefused, DocumentRefused, ScriptRefused, Missing}
use Rattle.sch_stops.specs.declared.refusal.FileRefusal.{FileRefusal}
use Rattle.sch_stops.specs.declared.refusal.FileRefusal.TheVariants as refusal
use Rattle.svrl_read.specs.FirstFault as svrl
use Rattle.svrl_read.specs.Value.{report_of}
use Rattle.svrl_read.specs.declared.fault.SvrlFault.{SvrlFault}
use Rattle.svrl_read.specs.declared.value.SvrlReport.{SvrlReport}
use Rattle.sch_stops.specs.declared.refusal.DocumentRefusal.TheVariants.{File, Report}
use Rattle.sch_stops.specs.declared.refusal.ScriptRefusal.TheVariants as script
use Rattle.sch_stops.specs.declared.refusal.SchemaRefusal.TheVariants.{Watches}
use Rattle.sch_stops.specs.declared.watches.WatchesRefusal.{WatchesRefusal}
use Rattle.sch_stops.specs.declared.watches.WatchesRefusal.TheVariants as watches
use Rattle.watch_lines.specs.Watches.{WatchesAre}
use Rattle.watch_lines.specs.declared.fault.WatchFault.{WatchFault}
use Rattle.xp_typed_tree.specs.TypedTree.{TypedTree}
use Rattle.sch_loading.specs.Documents.{IsParsed}
use Rattle.sch_stops.specs.Output.{Output, missing_line, stopped}
use Rattle.sch_stops.specs.Refusals.{document_refused_line, include_line, schema_file_line, schema_refused_line, schema_rule_line, script_refused_line}
use Rattle.sch_loading.specs.Stages.{By, Came, Is, Stage, Then, goes, halt_at, halts, unread}

-- the outputs of runs that are stopped
abbrev pub missing : List ℕ → Output
missing name = stopped Missing (missing_line name)

abbrev pub refused_file : List ℕ → FileRefusal → Output
refused_file name refusal = stopped SchemaRefused (schema_file_line name refusal)

abbrev pub refused_rule : Table → SchemaFault → Output
refused_rule T fault = stopped SchemaRefused (schema_rule_line (location_of T fault.node) fault)

abbrev pub refused_document : FileRefusal → Output
refused_document refusal = stopped DocumentRefused (document_refused_line (File refusal))

abbrev pub refused_report : Table → SvrlFault → Output
refused_report T fault = stopped DocumentRefused (document_refused_line (Report fault (location_of T fault.node)))

abbrev pub refused_watches : WatchesRefusal → Output
refused_watches refusal = stopped SchemaRefused (schema_refused_line (Watches refusal))

-- a script that has too many bytes
abbrev pub script_too_large : Output
script_too_large = stopped ScriptRefused (script_refused_line script.TooLarge)

-- Schemas

-- the end where the includes of a schema have a fault of that name; or the outside failed there
abbrev pub at_include : IncludeKind → List ℕ → Came Table
at_include kind.Missing name = halts (missing name)
at_include kind.Failed name = unread name
at_include kind.TooLarge name = halts (refused_file name refusal.TooLarge)
at_include (kind.Doc fault) name = halts (refused_file name (refusal.Faulted fault))
at_include kind name = halts (stopped SchemaRefused (include_line kind name))

abbrev pub included : Result Table IncludeFault → Came Table
included (Ok T) = goes T
included (Err fault) = at_include fault.kind fault.name

-- the tree of the named schema with its includes replaced
abbrev pub Inclusion : Files → List ℕ → Stage Table
Inclusion files schema opened came = (result : Result Table IncludeFault) × Including files schema opened result × (came ≡ included result)

-- the schema without abstract parts
abbrev pub Flattening : Table → RawSchema → Stage FlatSchema
Flattening T raw = Is (halt_at (first_fault raw) (refused_rule T) (flat_schema raw))

-- the reading of a schema's tree
abbrev pub Reading : Table → Stage FlatSchema
Reading T = Then (Is (halt_at (first_broken T) (refused_rule T) (raw_schema T))) (Flattening T)

-- the named schema without includes and abstract parts
abbrev pub Expanding : Files → List ℕ → Stage FlatSchema
Expanding files schema = Then (Inclusion files schema) Reading

-- the plan of a schema's phase
abbrev pub planned : Table → Result Plan SchemaFault → Came Plan
planned T (Ok plan) = goes plan
planned T (Err fault) = halts (refused_rule T fault)

abbrev pub Compiling : Table → List ℕ → FlatSchema → Stage Plan
Compiling T phase flat = By (compiled flat phase) (planned T)

-- the plan of the named schema's phase
abbrev pub Planning : Files → List ℕ → List ℕ → Stage Plan
Planning files phase schema = Then (Inclusion files schema) (λ T. Then (Reading T) (Compiling T phase))

-- Documents, reports and scripts

-- the bytes of a file, by what is held under its name, and none where there are more than so many
abbrev pub held_under : List ℕ → ℕ → Option (List ℕ) → Came (Option (List ℕ))
held_under name limit None = halts (missing name)
held_under name limit (Some bytes) = goes (if nat_lt limit (length bytes) then None else Some bytes)

-- the named file is opened, of so many bytes at most
abbrev pub Fetching : Files → List ℕ → ℕ → Stage (Option (List ℕ))
Fetching files name limit opened came = (opened ≡ name ∷ []) × ((came ≡ unread name) ⊎ (came ≡ held_under name limit (get files name)))

-- the bytes as a document
abbrev pub parsed : Result Table DocFault → Came Table
parsed (Ok T) = goes T
parsed (Err fault) = halts (refused_document (refusal.Faulted fault))

abbrev pub Parsing : Option (List ℕ) → Stage Table
Parsing None = Is (halts (refused_document refusal.TooLarge))
Parsing (Some bytes) = By (IsParsed bytes) parsed

-- the tree of the named document
abbrev pub Loading : Files → List ℕ → Stage Table
Loading files document = Then (Fetching files document MAX_FILE_BYTES) Parsing

-- a document's tree as a report
abbrev pub Saying : Table → Stage SvrlReport
Saying T = Is (halt_at (svrl.first_fault T) (refused_report T) (report_of T))

-- the named report
abbrev pub Reporting : Files → List ℕ → Stage SvrlReport
Reporting files report = Then (Loading files report) Saying

-- the bytes as a script
abbrev pub as_script : Option (List ℕ) → Came (List ℕ)
as_script None = halts script_too_large
as_script (Some bytes) = goes bytes

-- the bytes of the named script
abbrev pub Scripting : Files → List ℕ → Stage (List ℕ)
Scripting files script = Then (Fetching files script MAX_SCRIPT_BYTES) (λ found. Is (as_script found))

-- Watched expressions

-- the bytes as watched expressions
abbrev pub expressions : Result (List TypedTree) WatchFault → Came (List TypedTree)
expressions (Ok exprs) = goes exprs
expressions (Err fault) = halts (refused_watches (watches.Faulted fault))

abbrev pub Expressing : Option (List ℕ) → Stage (List TypedTree)
Expressing None = Is (halts (refused_watches watches.TooLarge))
Expressing (Some bytes) = By (WatchesAre bytes) expressions

-- the watched expressions of the named file
abbrev pub Watching : Files → List ℕ → Stage (List TypedTree)
Watching files named = Then (Fetching files named MAX_FILE_BYTES) Expressing
