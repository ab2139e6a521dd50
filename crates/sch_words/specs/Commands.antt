-- The table of accepted words.
use Rattle.std.specs.Prelude.{ℕ, Bool, false, not, ◌&&◌, ◌==◌, if◌then◌else◌, List, [], ◌∷◌, Option, None, Some, codes, length}
use Rattle.std.specs.Str.{bytes_eq}
use Rattle.sch_words.specs.declared.command.Command.{Command as Borrowed}
use Rattle.sch_words.specs.declared.command.Command.TheVariants as borrowed
use Rattle.sch_words.specs.declared.notice.Notice.{Notice}
use Rattle.sch_words.specs.declared.notice.Notice.TheVariants.{Help, Version}
use Rattle.sch_words.specs.Counts.{count_of, depth_of}

-- what accepted words ask for: to say something of the program, to expand a schema, to validate by a phase and a schema a document, to
-- do the same after each command of an edit script, where so many of the newest edits can be undone, to measure that for a number of
-- items, to sum up a report, or to evaluate the watched expressions of a file over a document, and again after each command of an edit
-- script
pub data Command : Type 0 where
  tell : Notice → Command
  expand : List ℕ → Command
  validate : List ℕ → List ℕ → List ℕ → Command
  follow : ℕ → List ℕ → List ℕ → List ℕ → List ℕ → Command
  measure : ℕ → Command
  summarize : List ℕ → Command
  watch : List ℕ → List ℕ → List ℕ → Command

-- a file's name is not empty and does not begin with `-`
abbrev pub is_file_name : List ℕ → Bool
is_file_name [] = false
is_file_name (b ∷ bytes) = not (b == 45)

-- the phase that an option names is not empty
abbrev pub is_of_phase : List ℕ → List ℕ → Bool
is_of_phase option phase = bytes_eq option (codes "--phase") && not (length phase == 0)

-- the phase where none is named: the one that the schema chooses
abbrev pub default_phase : List ℕ
default_phase = codes "#DEFAULT"

-- `--help` and `--version`
abbrev pub notice_of : List ℕ → Option Command
notice_of word =
    if bytes_eq word (codes "--help") then Some (tell Help) else
    if bytes_eq word (codes "--version") then Some (tell Version) else None

-- `expand S`
abbrev pub expansion_of : List ℕ → List ℕ → Option Command
expansion_of verb schema = if bytes_eq verb (codes "expand") && is_file_name schema then Some (expand schema) else None

-- a measure of N items
abbrev pub measure_of : Option ℕ → Option Command
measure_of None = None
measure_of (Some items) = Some (measure items)

-- `measure N`
abbrev pub measuring_of : List ℕ → Option Command
measuring_of count = measure_of (count_of count)

-- `summary R`
abbrev pub summary_of : List ℕ → Option Command
summary_of report = if is_file_name report then Some (summarize report) else None

-- `measure N`, `summary R` or `expand S`
abbrev pub of_one_name : List ℕ → List ℕ → Option Command
of_one_name verb word =
    if bytes_eq verb (codes "measure") then measuring_of word else
    if bytes_eq verb (codes "summary") then summary_of word else expansion_of verb word

-- `validate S D`, under a phase
abbrev pub validation_of : List ℕ → List ℕ → List ℕ → List ℕ → Option Command
validation_of verb phase schema document =
    if bytes_eq verb (codes "validate") && is_file_name schema && is_file_name document then Some (validate phase schema document) else None

-- how many edits can be undone, by `--undo K`
abbrev pub undo_depth_of : List ℕ → List ℕ → Option ℕ
undo_depth_of option word = if bytes_eq option (codes "--undo") then depth_of word else None

-- `follow S D E`, under a phase, where so many edits can be undone
abbrev pub following_of : ℕ → List ℕ → List ℕ → List ℕ → List ℕ → List ℕ → Option Command
following_of depth verb phase schema document script =
    if bytes_eq verb (codes "follow") && is_file_name schema && is_file_name document && is_file_name script
    then Some (follow depth phase schema document script) else None

-- the same where the number is said; no command where it is not
abbrev pub following_to : Option ℕ → List ℕ → List ℕ → List ℕ → List ℕ → List ℕ → Option Command
following_to None verb phase schema document script = None
following_to (Some depth) verb phase schema document script = following_of depth verb phase schema document script

-- `watch W D E`
abbrev pub watching_of : List ℕ → List ℕ → List ℕ → Option Command
watching_of watches document script =
    if is_file_name watches && is_file_name document && is_file_name script then Some (watch watches document script) else None

-- `watch W D E` or `follow S D E`
abbrev pub of_three_names : List ℕ → List ℕ → List ℕ → List ℕ → Option Command
of_three_names verb first document script =
    if bytes_eq verb (codes "watch") then watching_of first document script else following_of 0 verb default_phase first document script

-- `follow --phase P S D E` or `follow --undo K S D E`
abbrev pub of_option : List ℕ → List ℕ → List ℕ → List ℕ → List ℕ → List ℕ → Option Command
of_option verb option word schema document script =
    if is_of_phase option word then following_of 0 verb word schema document script
    else following_to (undo_depth_of option word) verb default_phase schema document script

-- `--help`, `--version`, `expand S`, `measure N`, `summary R`, `validate S D`, `validate --phase P S D`, `follow S D E`,
-- `follow --phase P S D E`, `follow --undo K S D E`, `follow --phase P --undo K S D E`, where P is not empty, `watch W D E`; no other
-- words are accepted
abbrev pub command_of : List (List ℕ) → Option Command
command_of (word ∷ []) = notice_of word
command_of (verb ∷ word ∷ []) = of_one_name verb word
command_of (verb ∷ schema ∷ document ∷ []) = validation_of verb default_phase schema document
command_of (verb ∷ first ∷ document ∷ script ∷ []) = of_three_names verb first document script
command_of (verb ∷ option ∷ phase ∷ schema ∷ document ∷ []) =
    if is_of_phase option phase then validation_of verb phase schema document else None
command_of (verb ∷ option ∷ word ∷ schema ∷ document ∷ script ∷ []) = of_option verb option word schema document script
command_of (verb ∷ option ∷ phase ∷ other ∷ word ∷ schema ∷ document ∷ script ∷ []) =
    if is_of_phase option phase then following_to (undo_depth_of other word) verb phase schema document script else None
command_of words = None

-- what the program's own type of command says
abbrev pub shown : Borrowed → Command
shown (borrowed.Tell notice) = tell notice
shown (borrowed.Expand schema) = expand schema.now
shown (borrowed.Validate asked) = validate asked.phase.now asked.schema.now asked.document.now
shown (borrowed.Follow asked) =
    follow asked.undos asked.validation.phase.now asked.validation.schema.now asked.validation.document.now asked.script.now
shown (borrowed.Measure items) = measure items
shown (borrowed.Summarize report) = summarize report.now
shown (borrowed.Watch asked) = watch asked.watches.now asked.document.now asked.script.now
