-- What a command line says: a word, and fields behind it, which are parted by single spaces.
use Rattle.std.specs.Prelude.{ℕ, ◌&&◌, if◌then◌else◌, List, [], ◌∷◌, Option, None, Some, Result, Ok, Err, codes}
use Rattle.std.specs.List.{list_any, before_first, after_first, slice_split}
use Rattle.sch_base.specs.Named.{named}
use Rattle.pyx_core.specs.Escapes.{unescaped}
use Rattle.pyx_core.specs.LineTable.{is_qname, is_space}
use Rattle.pyx_core.specs.Nesting.{of_chars}
use Rattle.edit_script.specs.declared.command.Command.TheVariants as command
use Rattle.edit_script.specs.declared.command.PathStep.{PathStep}
use Rattle.edit_script.specs.declared.command.Said.{Said}
use Rattle.edit_script.specs.declared.command.Said.TheVariants.{Whole, Opening}
use Rattle.edit_script.specs.declared.command.Verb.{Verb}
use Rattle.edit_script.specs.declared.command.Verb.TheVariants as verb
use Rattle.edit_script.specs.declared.fault.ScriptKind.{ScriptKind}
use Rattle.edit_script.specs.declared.fault.ScriptKind.TheVariants.{BadChar, BadWord, BadPath, BadNumber, BadName}
use Rattle.edit_script.specs.Paths.{number_of, path_of}

-- the words of the commands
abbrev pub verb_names : List (List ℕ × Verb)
verb_names = (codes "insert", verb.Insert)
    ∷ (codes "delete", verb.Delete)
    ∷ (codes "text", verb.SetText)
    ∷ (codes "set", verb.SetAttr)
    ∷ (codes "unset", verb.UnsetAttr)
    ∷ (codes "rename", verb.Rename)
    ∷ (codes "renameattr", verb.RenameAttr)
    ∷ []

-- the command with a word; None where there is none
unfoldable pub verb_of : List ℕ → Option Verb
verb_of word = named verb_names word

-- the fields of a text, which are parted at each space
abbrev pub fields : List ℕ → List (List ℕ)
fields text = slice_split is_space text

-- the value behind the first space, its escapes undone; it is empty without that space
abbrev pub value_behind_one : List ℕ → List ℕ
value_behind_one text = unescaped (after_first is_space text)

-- the value behind the second space
abbrev pub value_behind_two : List ℕ → List ℕ
value_behind_two text = value_behind_one (after_first is_space text)

-- what comes of a path, where there is one
abbrev pub with_path : Option (List PathStep) → (List PathStep → Result Said ScriptKind) → Result Said ScriptKind
with_path (Some path) next = next path
with_path None next = Err BadPath

-- what comes of a number, where there is one
abbrev pub with_number : Option ℕ → (ℕ → Result Said ScriptKind) → Result Said ScriptKind
with_number (Some number) next = next number
with_number None next = Err BadNumber

-- what is said, where the name is a QName (Namespaces in XML 1.0, section 4)
abbrev pub if_name : List ℕ → Said → Result Said ScriptKind
if_name name said = if is_qname name then Ok said else Err BadName

-- what is said, where both names are QNames
abbrev pub if_names : List ℕ → List ℕ → Said → Result Said ScriptKind
if_names old name said = if is_qname old && is_qname name then Ok said else Err BadName

-- `insert PATH K`
abbrev pub insert_of : List (List ℕ) → Result Said ScriptKind
insert_of (path ∷ number ∷ []) = with_path (path_of path) (λ steps. with_number (number_of number) (λ at. Ok (Opening steps at)))
insert_of others = Err BadWord

-- `delete PATH`
abbrev pub delete_of : List (List ℕ) → Result Said ScriptKind
delete_of (path ∷ []) = with_path (path_of path) (λ steps. Ok (Whole (command.Delete steps)))
delete_of others = Err BadWord

-- `text PATH VALUE`
abbrev pub text_of : List (List ℕ) → List ℕ → Result Said ScriptKind
text_of (path ∷ others) value = with_path (path_of path) (λ steps. Ok (Whole (command.SetText steps value)))
text_of [] value = Err BadWord

-- `set PATH QNAME VALUE`
abbrev pub set_of : List (List ℕ) → List ℕ → Result Said ScriptKind
set_of (path ∷ name ∷ others) value =
    with_path (path_of path) (λ steps. if_name name (Whole (command.SetAttr steps name value)))
set_of others value = Err BadWord

-- `unset PATH QNAME`
abbrev pub unset_of : List (List ℕ) → Result Said ScriptKind
unset_of (path ∷ name ∷ []) = with_path (path_of path) (λ steps. if_name name (Whole (command.UnsetAttr steps name)))
unset_of others = Err BadWord

-- `rename PATH QNAME`
abbrev pub rename_of : List (List ℕ) → Result Said ScriptKind
rename_of (path ∷ name ∷ []) = with_path (path_of path) (λ steps. if_name name (Whole (command.Rename steps name)))
rename_of others = Err BadWord

-- `renameattr PATH QNAME QNAME`
abbrev pub rename_attr_of : List (List ℕ) → Result Said ScriptKind
rename_attr_of (path ∷ old ∷ name ∷ []) =
    with_path (path_of path) (λ steps. if_names old name (Whole (command.RenameAttr steps old name)))
rename_attr_of others = Err BadWord

-- what a word says with the text behind the space after it
abbrev pub said_by : Option Verb → List ℕ → Result Said ScriptKind
said_by (Some verb.Insert) text = insert_of (fields text)
said_by (Some verb.Delete) text = delete_of (fields text)
said_by (Some verb.SetText) text = text_of (fields text) (value_behind_one text)
said_by (Some verb.SetAttr) text = set_of (fields text) (value_behind_two text)
said_by (Some verb.UnsetAttr) text = unset_of (fields text)
said_by (Some verb.Rename) text = rename_of (fields text)
said_by (Some verb.RenameAttr) text = rename_attr_of (fields text)
said_by None text = Err BadWord

-- what a line of Chars says: each command has a word and a field behind it
abbrev pub said_in : List ℕ → Result Said ScriptKind
said_in line =
    if list_any is_space line then said_by (verb_of (before_first is_space line)) (after_first is_space line) else Err BadWord

-- what a command line says, or the first of the rules that it breaks; it is UTF-8 and made of Chars (XML 1.0, section 2.2)
abbrev pub command_line : List ℕ → Result Said ScriptKind
command_line line = if of_chars line then said_in line else Err BadChar
