-- What each command is: a line of stages, in which the files that it needs are read in their order, and what it writes and costs then.
use Rattle.std.specs.Prelude.{◌≡◌, ◌⊎◌, ℕ, ◌+◌, ◌++◌, Bool, true, false, List, [], ◌∷◌, Option, None, Some}
use Rattle.sch_io.specs.Files.{Files}
use Rattle.doc_tree.specs.Table.{Table}
use Rattle.edit_script.specs.Script.{script_of}
use Rattle.xp_typed_tree.specs.TypedTree.{TypedTree}
use Rattle.sch_compiled.specs.declared.plan.Plan.{Plan}
use Rattle.sch_undo.specs.Pairs.{has_too_many_pairs}
use Rattle.sch_undo.specs.State.{state_text}
use Rattle.sch_stops.specs.declared.refusal.DocumentRefusal.TheVariants.{TooManyPairs}
use Rattle.sch_words.specs.declared.status.Status.TheVariants.{DocumentRefused, Usage}
use Rattle.sch_words.specs.Commands.{Command, tell, expand, validate, follow, measure, summarize, watch, command_of, default_phase}
use Rattle.sch_measure.specs.Shelf.{measure_files}
use Rattle.sch_measure.specs.declared.shelf.TheConstants.{SCHEMA_NAME, DOCUMENT_NAME, SCRIPT_NAME}
use Rattle.sch_commands.specs.Following.{Begins, Follows, items_of}
use Rattle.sch_commands.specs.Measuring.{LeadsTo, measure_text, measured_as}
use Rattle.sch_commands.specs.Telling.{Telling, by_plan, by_watches}
use Rattle.sch_loading.specs.Loading.{Expanding, Loading, Planning, Reporting, Scripting, Watching}
use Rattle.sch_stops.specs.Output.{Output, stopped, usage_line}
use Rattle.sch_commands.specs.Output.{expanded, in_front, notice_output, state, summed_up}
use Rattle.sch_stops.specs.Refusals.{document_refused_line}
use Rattle.sch_loading.specs.Reads.{Named, file, schema_file}
use Rattle.sch_loading.specs.Stages.{By, Is, Stage, Then, goes, halt_if, halts}
use Rattle.sch_commands.specs.Steps.{EditsCost}

-- A document under a plan, and a script for it

-- a document's tree under the plan of a schema's phase
pub record Treed : Type 0 where
  pub plan : Plan
  pub tree : Table

abbrev pub tree_under : Plan → Table → Treed
tree_under plan T = record { plan = plan; tree = T }

abbrev pub too_many_pairs : Output
too_many_pairs = stopped DocumentRefused (document_refused_line TooManyPairs)

-- the tree of the named document, under a plan
abbrev pub Treeing : Files → Plan → List ℕ → Stage Treed
Treeing files plan document = Then (Loading files document) (λ T. Is (halt_if (has_too_many_pairs plan T) too_many_pairs (tree_under plan T)))

-- the schema comes first, then the document
abbrev pub Opening : Files → List ℕ → List ℕ → List ℕ → Stage Treed
Opening files phase schema document = Then (Planning files phase schema) (λ plan. Treeing files plan document)

-- a document's tree under a plan, and the bytes of a script
pub record Scripted : Type 0 where
  pub treed : Treed
  pub script : List ℕ

-- the schema comes first, then the document, then all bytes of the script
abbrev pub OpeningAll : Files → List ℕ → List ℕ → List ℕ → List ℕ → Stage Scripted
OpeningAll files phase schema document script =
    Then (Opening files phase schema document) (λ treed. Then (Scripting files script) (λ bytes. Is (goes (record { treed = treed; script = bytes }))))

-- Watched expressions, a document, and a script for it

-- watched expressions with a document's tree
pub record Watched : Type 0 where
  pub expressions : List TypedTree
  pub tree : Table

abbrev pub watched_on : List TypedTree → Table → Watched
watched_on exprs T = record { expressions = exprs; tree = T }

-- the tree of the named document, with watched expressions
abbrev pub WatchingOn : Files → List TypedTree → List ℕ → Stage Watched
WatchingOn files exprs document = Then (Loading files document) (λ T. Is (goes (watched_on exprs T)))

-- the watched expressions come first, then the document
abbrev pub OpeningWatch : Files → List ℕ → List ℕ → Stage Watched
OpeningWatch files watches document = Then (Watching files watches) (λ exprs. WatchingOn files exprs document)

-- these, and the bytes of a script
pub record WatchedScript : Type 0 where
  pub watched : Watched
  pub script : List ℕ

-- the watched expressions come first, then the document, then all bytes of the script
abbrev pub WatchingAll : Files → List ℕ → List ℕ → List ℕ → Stage WatchedScript
WatchingAll files watches document script =
    Then (OpeningWatch files watches document) (λ watched. Then (Scripting files script) (λ bytes. Is (goes (record { watched = watched; script = bytes }))))

-- The states behind the commands of a script

-- the state of a document, and behind it what is written for the commands of a script, where so many edits can be undone
abbrev pub States : Telling → ℕ → Table → List ℕ → Output → Type 0
States telling undos T script output =
    (rest : Output) × Follows telling undos T [] 1 (telling.shows T) (items_of undos script) rest × (output ≡ in_front (telling.text T) rest)

-- the state, and behind it what the first of the commands write
abbrev pub BeginsStates : Telling → ℕ → Table → List ℕ → List ℕ → Type 0
BeginsStates telling undos T script text =
    (more : List ℕ) × Begins telling undos T [] 1 (items_of undos script) more × (text ≡ telling.text T ++ more)

-- the visits of the states
abbrev pub StatesCost : Telling → ℕ → Table → List ℕ → ℕ → Type 0
StatesCost telling undos T script cost =
    (later : ℕ) × EditsCost telling undos T [] (items_of undos script) later × (cost ≡ telling.first_cost T + later)

-- What is made for a measure

-- stages over another shelf, which open no file of this one
abbrev pub Apart : {A : Type 0} → Stage A → Stage A
Apart stage opened came = (opened ≡ []) × (others : List (List ℕ)) × stage others came

-- the document under its plan and the script that are made for so many items
abbrev pub Making : ℕ → Stage Scripted
Making items = Apart (OpeningAll (measure_files items) default_phase SCHEMA_NAME.now DOCUMENT_NAME.now SCRIPT_NAME.now)

-- what is measured of a document and of what the commands of a script make of it, by what comes of following the script
pub record Measures (plan : Plan) (T : Table) (script : List ℕ) (output : Output) : Type 0 where
  pub followed : Output
  pub states : States (by_plan plan) 0 T script followed
  pub last : Table
  pub leads : LeadsTo (by_plan plan) T (script_of script) last
  pub is : output ≡ measured_as followed.ends (measure_text plan T last) followed

-- and the text of it
abbrev pub MeasuresText : Plan → Table → List ℕ → List ℕ → Type 0
MeasuresText plan T script text = (output : Output) × Measures plan T script output × (text ≡ output.out)

-- Commands

-- what words ask for: the files that they name, in the order in which they are opened; by the content of the files the stages up to
-- the whole output, those up to a text that comes to be written, and those up to the visits of all evaluations; and whether there are any
pub record Behaviour : Type 1 where
  pub named : List Named
  pub ends : Files → Stage Output
  pub begins : Files → Stage (List ℕ)
  pub costs : Files → Stage ℕ
  pub evaluates : Bool

-- one of which this holds
abbrev pub Any : {A : Type 0} → (A → Type 0) → Stage A
Any holds = By holds goes

-- stages that make a value ready, and what it then says of the outputs, of the texts that come to be written, and of the visits
abbrev pub from : {A : Type 0} → List Named → (Files → Stage A) → (A → Output → Type 0) → (A → List ℕ → Type 0) → (A → ℕ → Type 0) → Bool → Behaviour
from named ready outputs texts visits evaluates = record {
  named = named;
  ends = λ files. Then (ready files) (λ value. Any (outputs value));
  begins = λ files. Then (ready files) (λ value. Any (texts value));
  costs = λ files. Then (ready files) (λ value. Any (visits value));
  evaluates = evaluates;
}

-- stages that make an output ready, which is written whole, and no evaluations
abbrev pub writes : List Named → (Files → Stage Output) → Behaviour
writes named ready = from named ready (λ written output. output ≡ written) (λ written text. text ≡ written.out) (λ written cost. cost ≡ 0) false

-- each command; words that are not accepted are none
abbrev pub behaviour : Option Command → Behaviour
behaviour None = writes [] (λ files. Is (halts (stopped Usage usage_line)))
behaviour (Some (tell notice)) = writes [] (λ files. Is (goes (notice_output notice)))
behaviour (Some (expand schema)) = writes (schema_file schema ∷ []) (λ files. Then (Expanding files schema) (λ flat. Is (goes (expanded flat))))
behaviour (Some (summarize report)) = writes (file report ∷ []) (λ files. Then (Reporting files report) (λ said. Is (goes (summed_up said))))
behaviour (Some (validate phase schema document)) =
    from (schema_file schema ∷ file document ∷ []) (λ files. Opening files phase schema document)
    (λ at output. output ≡ state at.plan at.tree) (λ at text. text ≡ state_text at.plan at.tree) (λ at cost. cost ≡ (by_plan at.plan).first_cost at.tree) true
behaviour (Some (follow undos phase schema document script)) =
    from (schema_file schema ∷ file document ∷ file script ∷ []) (λ files. OpeningAll files phase schema document script)
    (λ at. States (by_plan at.treed.plan) undos at.treed.tree at.script) (λ at. BeginsStates (by_plan at.treed.plan) undos at.treed.tree at.script)
    (λ at. StatesCost (by_plan at.treed.plan) undos at.treed.tree at.script) true
behaviour (Some (watch watches document script)) =
    from (file watches ∷ file document ∷ file script ∷ []) (λ files. WatchingAll files watches document script)
    (λ at. States (by_watches at.watched.expressions) 0 at.watched.tree at.script) (λ at. BeginsStates (by_watches at.watched.expressions) 0 at.watched.tree at.script)
    (λ at. StatesCost (by_watches at.watched.expressions) 0 at.watched.tree at.script) true
behaviour (Some (measure items)) =
    from [] (λ files. Making items) (λ at. Measures at.treed.plan at.treed.tree at.script) (λ at. MeasuresText at.treed.plan at.treed.tree at.script)
    (λ at. StatesCost (by_plan at.treed.plan) 0 at.treed.tree at.script) true

-- what the words ask for
abbrev pub asked_by : List (List ℕ) → Behaviour
asked_by words = behaviour (command_of words)

-- the output of stages that open these files, which come to their end or are halted
abbrev pub IsEnd : Stage Output → List (List ℕ) → Output → Type 0
IsEnd stages opened output = stages opened (goes output) ⊎ stages opened (halts output)

-- the output of the words over the files
abbrev pub IsOutput : List (List ℕ) → Files → Output → Type 0
IsOutput words files output = (opened : List (List ℕ)) × IsEnd ((asked_by words).ends files) opened output

-- the output of a command that comes to its end over the files
abbrev pub IsWhole : Command → Files → Output → Type 0
IsWhole command files output = (opened : List (List ℕ)) × (behaviour (Some command)).ends files opened (goes output)
