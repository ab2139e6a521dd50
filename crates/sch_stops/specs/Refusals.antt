-- The lines that tell why a schema, a document or an edit script is refused.
use Rattle.std.specs.Prelude.{ℕ, List, [], ◌++◌, Option, None, Some, codes}
use Rattle.std.specs.Fmt.{decimal}
use Rattle.pyx_core.specs.declared.fault.PyxKind.{PyxKind}
use Rattle.pyx_core.specs.declared.fault.PyxKind.TheVariants.{NotUtf8, BadChar, UnknownLine, EntityLine, BadName, AttributePlace, WrongEnd, TextOutside, SecondRoot, NoRoot, Unfinished}
use Rattle.name_scopes.specs.declared.fault.DocKind.{DocKind}
use Rattle.name_scopes.specs.declared.fault.DocKind.TheVariants.{Pyx, NoPrefix, SameAttribute, BadDeclaration, BothQuotes, TooManyNodes, TooDeep}
use Rattle.name_scopes.specs.declared.fault.DocFault.{DocFault}
use Rattle.pyx_core.specs.Escapes.{escaped}
use Rattle.edit_script.specs.declared.fault.ScriptFault.{ScriptFault}
use Rattle.edit_script.specs.declared.fault.ScriptKind.{ScriptKind}
use Rattle.edit_script.specs.declared.fault.ScriptKind.TheVariants as script
use Rattle.sch_include.specs.declared.fault.IncludeKind.{IncludeKind}
use Rattle.sch_include.specs.declared.fault.IncludeKind.TheVariants as include
use Rattle.sch_model.specs.declared.fault.SchemaFault.{SchemaFault}
use Rattle.svrl_read.specs.declared.fault.SvrlFault.{SvrlFault}
use Rattle.svrl_read.specs.declared.fault.SvrlKind.{SvrlKind}
use Rattle.svrl_read.specs.declared.fault.SvrlKind.TheVariants as svrl
use Rattle.sch_stops.specs.declared.refusal.FileRefusal.{FileRefusal}
use Rattle.sch_stops.specs.declared.refusal.FileRefusal.TheVariants.{TooLarge, Faulted}
use Rattle.sch_stops.specs.declared.refusal.DocumentRefusal.{DocumentRefusal}
use Rattle.sch_stops.specs.declared.refusal.DocumentRefusal.TheVariants as document
use Rattle.sch_stops.specs.declared.refusal.ScriptRefusal.{ScriptRefusal}
use Rattle.sch_stops.specs.declared.refusal.ScriptRefusal.TheVariants as refused
use Rattle.sch_stops.specs.declared.refusal.SchemaRefusal.{SchemaRefusal}
use Rattle.sch_stops.specs.declared.refusal.SchemaRefusal.TheVariants as schema
use Rattle.sch_stops.specs.Watches.{watches_refused_line}

-- the names of the kinds of faults of a line
abbrev pub pyx_words : PyxKind → List ℕ
pyx_words NotUtf8 = codes "NotUtf8"
pyx_words BadChar = codes "BadChar"
pyx_words UnknownLine = codes "UnknownLine"
pyx_words EntityLine = codes "EntityLine"
pyx_words BadName = codes "BadName"
pyx_words AttributePlace = codes "AttributePlace"
pyx_words WrongEnd = codes "WrongEnd"
pyx_words TextOutside = codes "TextOutside"
pyx_words SecondRoot = codes "SecondRoot"
pyx_words NoRoot = codes "NoRoot"
pyx_words Unfinished = codes "Unfinished"

-- the names of the kinds of faults of a document
abbrev pub kind_words : DocKind → List ℕ
kind_words (Pyx kind) = pyx_words kind
kind_words NoPrefix = codes "NoPrefix"
kind_words SameAttribute = codes "SameAttribute"
kind_words BadDeclaration = codes "BadDeclaration"
kind_words BothQuotes = codes "BothQuotes"
kind_words TooManyNodes = codes "TooManyNodes"
kind_words TooDeep = codes "TooDeep"

-- a fault of a text: the number of its line, counted from 1, and the kind
unfoldable pub fault_text : DocFault → List ℕ
fault_text fault = codes "line " ++ (decimal fault.line ++ (codes " " ++ kind_words fault.kind))

-- why a file is not read as a tree
unfoldable pub reason_text : FileRefusal → List ℕ
reason_text TooLarge = codes "TooLarge"
reason_text (Faulted fault) = fault_text fault

-- the line of a document whose file is not read as a tree
abbrev pub document_file_line : FileRefusal → List ℕ
document_file_line refusal = codes "sch: document refused: " ++ (reason_text refusal ++ codes "\n")

-- the names of the kinds of faults of a report, and the name of the attribute that one tells
abbrev pub svrl_word : SvrlKind → List ℕ
svrl_word svrl.NotOutput = codes "NotOutput"
svrl_word svrl.NoPattern = codes "NoPattern"
svrl_word svrl.NoRule = codes "NoRule"
svrl_word (svrl.NoAttribute name) = codes "NoAttribute "

abbrev pub svrl_name : SvrlKind → List ℕ
svrl_name svrl.NotOutput = []
svrl_name svrl.NoPattern = []
svrl_name svrl.NoRule = []
svrl_name (svrl.NoAttribute name) = name

-- what a document lacks that is not read as a report, and where
unfoldable pub svrl_text : SvrlKind → List ℕ
svrl_text kind = codes "sch: document refused: svrl " ++ (svrl_word kind ++ svrl_name kind)

unfoldable pub place_text : List ℕ → List ℕ
place_text location = codes " at " ++ (location ++ codes "\n")

-- the line of a document that is not read as a report: the kind of its fault, and the location of the element that has it
abbrev pub report_line : List ℕ → SvrlFault → List ℕ
report_line location fault = svrl_text fault.kind ++ place_text location

-- the line of a refused document
abbrev pub document_refused_line : DocumentRefusal → List ℕ
document_refused_line (document.File refusal) = document_file_line refusal
document_refused_line document.TooManyPairs = codes "sch: document refused: TooManyPairs\n"
document_refused_line (document.Report fault location) = report_line location fault

-- the names of the rules that a command of a script can break
abbrev pub script_words : ScriptKind → List ℕ
script_words script.BadChar = codes "BadChar"
script_words script.BadWord = codes "BadWord"
script_words script.BadPath = codes "BadPath"
script_words script.BadNumber = codes "BadNumber"
script_words script.BadName = codes "BadName"
script_words script.BadPayload = codes "BadPayload"

-- the line of a script with a fault: the number of the line that has it, counted from 1, and the kind
unfoldable pub script_fault_line : ScriptFault → List ℕ
script_fault_line fault =
    codes "sch: script refused: line " ++ (decimal fault.line ++ (codes " " ++ (script_words fault.kind ++ codes "\n")))

-- the line of a refused script
abbrev pub script_refused_line : ScriptRefusal → List ℕ
script_refused_line refused.TooLarge = codes "sch: script refused: TooLarge\n"
script_refused_line (refused.Faulted fault) = script_fault_line fault

-- the line of a schema whose file is not read as a tree; the file's name has the escapes of PYX
abbrev pub schema_file_line : List ℕ → FileRefusal → List ℕ
schema_file_line name refusal =
    codes "sch: schema refused: " ++ (escaped name ++ (codes " " ++ (reason_text refusal ++ codes "\n")))

-- the names of the kinds of faults of an include
abbrev pub include_words : IncludeKind → List ℕ
include_words include.NoHref = codes "NoHref"
include_words include.Scheme = codes "Scheme"
include_words include.Fragment = codes "Fragment"
include_words include.Cycle = codes "Cycle"
include_words include.TooDeep = codes "TooDeep"
include_words include.TooMany = codes "TooMany"
include_words include.Missing = codes "Missing"
include_words include.Failed = codes "Failed"
include_words include.TooLarge = codes "TooLarge"
include_words (include.Doc fault) = codes "Doc"
include_words include.TooManyNodes = codes "TooManyNodes"
include_words include.TreeTooDeep = codes "TreeTooDeep"
include_words include.TooMuchText = codes "TooMuchText"

-- what is wrong with an include of a schema
unfoldable pub include_text : IncludeKind → List ℕ
include_text kind = codes "sch: schema refused: include " ++ (include_words kind ++ codes " ")

-- the line of a schema with an include that is refused; the name has the escapes of PYX
abbrev pub include_line : IncludeKind → List ℕ → List ℕ
include_line kind name = include_text kind ++ (escaped name ++ codes "\n")

-- which rule a schema breaks, by its number, and at which location
unfoldable pub rule_text : ℕ → List ℕ → List ℕ
rule_text rule location = codes "sch: schema refused: rule " ++ (decimal rule ++ (codes " at " ++ (location ++ codes ": ")))

-- the line of a schema that breaks a rule, with the name that is told, which has the escapes of PYX
abbrev pub schema_rule_line : List ℕ → SchemaFault → List ℕ
schema_rule_line location fault = rule_text fault.rule location ++ (escaped fault.name ++ codes "\n")

-- the line of a refused schema
abbrev pub schema_refused_line : SchemaRefusal → List ℕ
schema_refused_line (schema.File name refusal) = schema_file_line name refusal
schema_refused_line (schema.Include kind name) = include_line kind name
schema_refused_line (schema.Rule fault location) = schema_rule_line location fault
schema_refused_line (schema.Watches refusal) = watches_refused_line refusal

-- the file that the line of a refused schema names
abbrev pub file_in : SchemaRefusal → Option (List ℕ)
file_in (schema.File name refusal) = Some name
file_in (schema.Include kind name) = None
file_in (schema.Rule fault location) = None
file_in (schema.Watches refusal) = None
