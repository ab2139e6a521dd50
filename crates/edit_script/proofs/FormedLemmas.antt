-- What command lines say is well formed.
use Rattle.std.proofs.Common.{◌≡◌, ℕ, zero, suc, ◌<◌, ◌≤◌, Bool, true, false, cond, List, [], ◌∷◌, length, Option, None, Some, Result, Ok, Err, arith, refl, subst}
use Rattle.std.specs.List.{list_any, before_first, after_first}
use Rattle.std.proofs.lemmas.Bool.{and_from}
use Rattle.pyx_core.specs.LineTable.{is_qname, is_space}
use Rattle.pyx_core.specs.Nesting.{of_chars}
use Rattle.pyx_core.proofs.EscapeLemmas.{unescaped_made}
use Rattle.pyx_core.proofs.TextLemmas.{parts_made}
use Rattle.edit_script.specs.declared.command.PathStep.{PathStep}
use Rattle.edit_script.specs.declared.command.Said.{Said}
use Rattle.edit_script.specs.declared.command.Said.TheVariants.{Whole, Opening}
use Rattle.edit_script.specs.declared.command.Command.{Command}
use Rattle.edit_script.specs.declared.command.Verb.{Verb}
use Rattle.edit_script.specs.declared.command.Verb.TheVariants as verb
use Rattle.edit_script.specs.declared.fault.ScriptKind.{ScriptKind}
use Rattle.edit_script.specs.declared.fault.ScriptKind.TheVariants.{BadChar, BadWord}
use Rattle.edit_script.specs.CommandLine.{command_line, delete_of, fields, if_name, if_names, insert_of, rename_attr_of, rename_of, said_by, said_in, set_of, text_of, unset_of, value_behind_one, value_behind_two, verb_of, with_number, with_path}
use Rattle.edit_script.specs.Paths.{number_of, path_of}
use Rattle.edit_script.specs.WellFormed.{IsName, IsPath, IsPlace, IsText, WellFormedCommand}
use Rattle.edit_script.proofs.NumberLemmas.{IfPlace, number_made}
use Rattle.edit_script.proofs.PartLemmas.{none_parted, some_parted}
use Rattle.edit_script.proofs.PathLemmas.{IfPath, path_made}

-- the command, or the path and the place of an insert
abbrev pub IsFormed : Said → Type 0
IsFormed (Whole command) = WellFormedCommand command
IsFormed (Opening path at) = IsPath path × IsPlace at

abbrev pub IfFormed : Result Said ScriptKind → Type 0
IfFormed (Ok said) = IsFormed said
IfFormed (Err kind) = Unit {0}

-- each of the fields is made of Chars
abbrev pub AllTexts : List (List ℕ) → Type 0
AllTexts [] = Unit {0}
AllTexts (text ∷ texts) = IsText text × AllTexts texts

fields_by : (n : ℕ) (text : List ℕ) (v : Bool) → list_any is_space text ≡ v → of_chars text ≡ true →
    (v ≡ true → length (after_first is_space text) < length text → AllTexts (fields (after_first is_space text))) → AllTexts (fields text)
fields_by n text false is made rest = rw (none_parted is_space text is).parts (made, tt)
fields_by n text true is made rest =
    let parts = some_parted is_space text is in
    rw parts.parts ((parts_made text made).0, rest refl parts.shorter)

fields_below : (n : ℕ) (text : List ℕ) → length text ≤ n → of_chars text ≡ true → AllTexts (fields text)
fields_below zero text less made =
    fields_by zero text (list_any is_space text) refl made (λ some shorter. absurd (omega arith))
fields_below (suc n) text less made =
    fields_by n text (list_any is_space text) refl made
    (λ some shorter. fields_below n (after_first is_space text) (omega arith) (parts_made text made).1)

-- the fields of a text are made of Chars
pub fields_made : (text : List ℕ) → of_chars text ≡ true → AllTexts (fields text)
fields_made text made = fields_below (length text) text (omega arith) made

path_then : (path : Option (List PathStep)) (next : List PathStep → Result Said ScriptKind) → IfPath path →
    ((steps : List PathStep) → IsPath steps → IfFormed (next steps)) → IfFormed (with_path path next)
path_then None next made rest = tt
path_then (Some steps) next made rest = rest steps made

number_then : (number : Option ℕ) (next : ℕ → Result Said ScriptKind) → IfPlace number →
    ((at : ℕ) → IsPlace at → IfFormed (next at)) → IfFormed (with_number number next)
number_then None next made rest = tt
number_then (Some at) next made rest = rest at made

name_by : (name : List ℕ) (said : Said) (v : Bool) → is_qname name ≡ v → (is_qname name ≡ true → IsFormed said) → IfFormed (if_name name said)
name_by name said true is rest = rw is (rest is)
name_by name said false is rest = rw is tt

name_then : (name : List ℕ) (said : Said) → of_chars name ≡ true → (IsName name → IsFormed said) → IfFormed (if_name name said)
name_then name said made rest = name_by name said (is_qname name) refl (λ is. rest (and_from (of_chars name) (is_qname name) made is))

names_by : (old name : List ℕ) (said : Said) (v w : Bool) → is_qname old ≡ v → is_qname name ≡ w →
    (is_qname old ≡ true → is_qname name ≡ true → IsFormed said) → IfFormed (if_names old name said)
names_by old name said true true is names rest = rw (is, names) (rest is names)
names_by old name said true false is names rest = rw (is, names) tt
names_by old name said false w is names rest = rw is tt

names_then : (old name : List ℕ) (said : Said) → of_chars old ≡ true → of_chars name ≡ true → (IsName old → IsName name → IsFormed said) →
    IfFormed (if_names old name said)
names_then old name said old_made made rest =
    names_by old name said (is_qname old) (is_qname name) refl refl
    (λ is names. rest (and_from (of_chars old) (is_qname old) old_made is) (and_from (of_chars name) (is_qname name) made names))

insert_formed : (fs : List (List ℕ)) → IfFormed (insert_of fs)
insert_formed [] = tt
insert_formed (path ∷ []) = tt
insert_formed (path ∷ number ∷ []) =
    path_then (path_of path) _ (path_made path) (λ steps is. number_then (number_of number) _ (number_made number) (λ at place. (is, place)))
insert_formed (path ∷ number ∷ other ∷ others) = tt

delete_formed : (fs : List (List ℕ)) → IfFormed (delete_of fs)
delete_formed [] = tt
delete_formed (path ∷ []) = path_then (path_of path) _ (path_made path) (λ steps is. is)
delete_formed (path ∷ other ∷ others) = tt

text_formed : (fs : List (List ℕ)) (value : List ℕ) → IsText value → IfFormed (text_of fs value)
text_formed [] value made = tt
text_formed (path ∷ others) value made = path_then (path_of path) _ (path_made path) (λ steps is. (is, made))

set_formed : (fs : List (List ℕ)) (value : List ℕ) → AllTexts fs → IsText value → IfFormed (set_of fs value)
set_formed [] value all made = tt
set_formed (path ∷ []) value all made = tt
set_formed (path ∷ name ∷ others) value all made =
    path_then (path_of path) _ (path_made path) (λ steps is. name_then name _ all.1.0 (λ named. (is, named, made)))

unset_formed : (fs : List (List ℕ)) → AllTexts fs → IfFormed (unset_of fs)
unset_formed [] all = tt
unset_formed (path ∷ []) all = tt
unset_formed (path ∷ name ∷ []) all =
    path_then (path_of path) _ (path_made path) (λ steps is. name_then name _ all.1.0 (λ named. (is, named)))
unset_formed (path ∷ name ∷ other ∷ others) all = tt

rename_formed : (fs : List (List ℕ)) → AllTexts fs → IfFormed (rename_of fs)
rename_formed [] all = tt
rename_formed (path ∷ []) all = tt
rename_formed (path ∷ name ∷ []) all =
    path_then (path_of path) _ (path_made path) (λ steps is. name_then name _ all.1.0 (λ named. (is, named)))
rename_formed (path ∷ name ∷ other ∷ others) all = tt

rename_attr_formed : (fs : List (List ℕ)) → AllTexts fs → IfFormed (rename_attr_of fs)
rename_attr_formed [] all = tt
rename_attr_formed (path ∷ []) all = tt
rename_attr_formed (path ∷ old ∷ []) all = tt
rename_attr_formed (path ∷ old ∷ name ∷ []) all =
    path_then (path_of path) _ (path_made path)
    (λ steps is. names_then old name _ all.1.0 all.1.1.0 (λ old_named named. (is, old_named, named)))
rename_attr_formed (path ∷ old ∷ name ∷ other ∷ others) all = tt

value_made : (text : List ℕ) → of_chars text ≡ true → IsText (value_behind_one text)
value_made text made = unescaped_made (after_first is_space text) (parts_made text made).1

by_formed : (v : Option Verb) (text : List ℕ) → of_chars text ≡ true → IfFormed (said_by v text)
by_formed None text made = tt
by_formed (Some verb.Insert) text made = insert_formed (fields text)
by_formed (Some verb.Delete) text made = delete_formed (fields text)
by_formed (Some verb.SetText) text made = text_formed (fields text) (value_behind_one text) (value_made text made)
by_formed (Some verb.SetAttr) text made =
    set_formed (fields text) (value_behind_two text) (fields_made text made)
    (value_made (after_first is_space text) (parts_made text made).1)
by_formed (Some verb.UnsetAttr) text made = unset_formed (fields text) (fields_made text made)
by_formed (Some verb.Rename) text made = rename_formed (fields text) (fields_made text made)
by_formed (Some verb.RenameAttr) text made = rename_attr_formed (fields text) (fields_made text made)

in_formed : (line : List ℕ) (v : Bool) → of_chars line ≡ true → IfFormed (cond v (said_by (verb_of (before_first is_space line)) (after_first is_space line)) (Err BadWord))
in_formed line true made = by_formed (verb_of (before_first is_space line)) (after_first is_space line) (parts_made line made).1
in_formed line false made = tt

line_by : (line : List ℕ) (v : Bool) → of_chars line ≡ v → IfFormed (cond v (said_in line) (Err BadChar))
line_by line true made = in_formed line (list_any is_space line) made
line_by line false made = tt

pub line_formed : (line : List ℕ) → IfFormed (command_line line)
line_formed line = line_by line (of_chars line) refl

pub whole_formed : (line : List ℕ) (found : Command) → command_line line ≡ Ok (Whole found) → WellFormedCommand found
whole_formed line found is = subst IfFormed is (line_formed line)

pub opening_formed : (line : List ℕ) (path : List PathStep) (at : ℕ) → command_line line ≡ Ok (Opening path at) → IsPath path × IsPlace at
opening_formed line path at is = subst IfFormed is (line_formed line)
