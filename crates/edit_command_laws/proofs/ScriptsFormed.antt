-- Each command of a script is well formed: a command line says what is, and a fragment is no longer than its script.
use Rattle.std.proofs.Common.{◌≡◌, ℕ, suc, ◌+◌, ◌≤◌, Bool, true, false, if◌then◌else◌, List, [], ◌∷◌, ◌++◌, length, length-append, Option, None, Some, Result, Ok, Err, refl, ◌∙◌, ap, arith, All}
use Rattle.std.proofs.lemmas.List.Concat.{flat_map-append}
use Rattle.std.proofs.lemmas.List.Elements.{All-cons, All-nil}
use Rattle.sch_base.specs.Lists.{is_nil}
use Rattle.pyx_core.specs.Lines.{ended_lines, is_line_end, onto_ended, unended}
use Rattle.pyx_core.specs.Nesting.{EventsNest}
use Rattle.pyx_core.proofs.LinesLemmas.{has_end, none_ended}
use Rattle.edit_script.specs.declared.command.Command.TheVariants.{Insert}
use Rattle.edit_script.specs.declared.command.Said.{Said}
use Rattle.edit_script.specs.declared.command.Said.TheVariants.{Whole, Opening}
use Rattle.edit_script.specs.declared.fault.ScriptKind.{ScriptKind}
use Rattle.edit_script.specs.declared.limits.TheConstants.{MAX_SCRIPT_BYTES}
use Rattle.edit_script.specs.CommandLine.{command_line}
use Rattle.edit_script.specs.Script.{Opened, Script, goes_on, inserts, is_dot, is_piece, joined, last_line, lines_of, onto, opened_in, payload_fault, piece_of, script_at, stops, with_end, with_line}
use Rattle.edit_script.specs.WellFormed.{IsPath, IsPlace, WellFormedCommand}
use Rattle.edit_script.proofs.FormedLemmas.{opening_formed, whole_formed}
use Rattle.edit_script.proofs.PieceLemmas.{formed_from}
use Rattle.edit_command_laws.specs.SomeEdit.{ScriptsAreWellFormed}

-- the bytes of some lines, each with its line end
abbrev pub size : List (List ℕ) → ℕ
size lines = length (joined lines)

pub size-cons : (line : List ℕ) (lines : List (List ℕ)) → size (line ∷ lines) ≡ suc (length line) + size lines
size-cons line lines = omega (arith, length-append (with_end line) (joined lines), length-append line (10 ∷ []))

pub size-append : (lines more : List (List ℕ)) → size (lines ++ more) ≡ size lines + size more
size-append lines more = ap length (flat_map-append with_end lines more) ∙ length-append (joined lines) (joined more)

-- the lines of a script are no longer than it, but for one line end
onto-size : (b : ℕ) (lines : List (List ℕ)) → size (onto_ended b lines) ≤ suc (size lines)
onto-size b [] = omega arith
onto-size b (line ∷ lines) = omega (arith, size-cons (b ∷ line) lines, size-cons line lines)

ended-size : (bytes : List ℕ) → size (ended_lines bytes) + length (unended bytes) ≤ length bytes
ended-size [] = omega arith
ended-size (b ∷ bytes) = by (is_line_end b) refl (has_end bytes) refl (ended-size bytes)
  where
    by : (ends : Bool) → is_line_end b ≡ ends → (some : Bool) → has_end bytes ≡ some → size (ended_lines bytes) + length (unended bytes) ≤ length bytes →
        size (ended_lines (b ∷ bytes)) + length (unended (b ∷ bytes)) ≤ length (b ∷ bytes)
    by true is some also rest = rw is (omega (arith, rest, size-cons [] (ended_lines bytes)))
    by false is true also rest = rw (is, also) (omega (arith, rest, onto-size b (ended_lines bytes)))
    by false is false also rest = rw (is, also, none_ended bytes also) (omega arith)

last-size : (bytes : List ℕ) → size (last_line bytes) ≤ suc (length bytes)
last-size [] = omega arith
last-size (b ∷ bytes) = omega (arith, size-cons (b ∷ bytes) [])

pub lines-size : (bytes : List ℕ) → size (lines_of bytes) ≤ suc (length bytes)
lines-size bytes = omega (arith, size-append (ended_lines bytes) (last_line (unended bytes)), ended-size bytes, last-size (unended bytes))

abbrev AllFormed : Script → Type 0
AllFormed script = All WellFormedCommand script.commands

-- between commands, or within the fragment of an insert, the lines still to come fit into a script
abbrev pub Fits : Option Opened → List (List ℕ) → Type 0
Fits None lines = size lines ≤ suc MAX_SCRIPT_BYTES
Fits (Some insert) lines = IsPath insert.path × IsPlace insert.at × (size insert.lines + size lines ≤ suc MAX_SCRIPT_BYTES)

inserts-formed : EventsNest → (insert : Opened) (rest : Script) → IsPath insert.path → IsPlace insert.at → size insert.lines ≤ MAX_SCRIPT_BYTES → AllFormed rest → AllFormed (inserts insert rest)
inserts-formed nest insert rest path place short all = by (is_piece (joined insert.lines)) refl
  where
    by : (b : Bool) → is_piece (joined insert.lines) ≡ b → AllFormed (if b then onto (Insert insert.path insert.at (piece_of (joined insert.lines))) rest else stops (payload_fault insert))
    by true is =
        All-cons WellFormedCommand (Insert insert.path insert.at (piece_of (joined insert.lines))) rest.commands
        (path, place, formed_from nest (joined insert.lines) (piece_of (joined insert.lines)) is refl short) all
    by false is = All-nil WellFormedCommand

-- a line between commands
module _ (number : ℕ) (line : List ℕ) (lines : List (List ℕ)) (fits : Fits None (line ∷ lines)) (rest : AllFormed (script_at None (suc number) lines))
    (within : (insert : Opened) → Fits (Some insert) lines → AllFormed (script_at (Some insert) (suc number) lines)) where
  goes-formed : (said : Result Said ScriptKind) → command_line line ≡ said → AllFormed (goes_on number said (script_at None (suc number) lines) (λ insert. script_at (Some insert) (suc number) lines))
  goes-formed (Err kind) is = All-nil WellFormedCommand
  goes-formed (Ok (Whole command)) is = All-cons WellFormedCommand command (script_at None (suc number) lines).commands (whole_formed line command is) rest
  goes-formed (Ok (Opening path at)) is =
      let opened = opening_formed line path at is in
      within (opened_in number path at) (opened.0, opened.1, omega (arith, fits, size-cons line lines))

  between-formed : (b : Bool) → is_nil line ≡ b →
      AllFormed (if b then script_at None (suc number) lines else goes_on number (command_line line) (script_at None (suc number) lines) (λ insert. script_at (Some insert) (suc number) lines))
  between-formed true is = rest
  between-formed false is = goes-formed (command_line line) refl

-- a line within a fragment
within-formed : EventsNest → (insert : Opened) (number : ℕ) (line : List ℕ) (lines : List (List ℕ)) → Fits (Some insert) (line ∷ lines) → AllFormed (script_at None (suc number) lines) →
    (Fits (Some (with_line insert line)) lines → AllFormed (script_at (Some (with_line insert line)) (suc number) lines)) →
    (b : Bool) → AllFormed (if b then inserts insert (script_at None (suc number) lines) else script_at (Some (with_line insert line)) (suc number) lines)
within-formed nest insert number line lines fits rest further true =
    inserts-formed nest insert (script_at None (suc number) lines) fits.0 fits.1 (omega (arith, fits.2, size-cons line lines)) rest
within-formed nest insert number line lines fits rest further false =
    further (fits.0, fits.1, omega (arith, fits.2, size-cons line lines, size-append insert.lines (line ∷ []), size-cons line []))

lines-formed : EventsNest → (lines : List (List ℕ)) (found : Option Opened) (number : ℕ) → Fits found lines → AllFormed (script_at found number lines)
lines-formed nest [] None number fits = All-nil WellFormedCommand
lines-formed nest [] (Some insert) number fits = All-nil WellFormedCommand
lines-formed nest (line ∷ lines) None number fits =
    between-formed number line lines fits (lines-formed nest lines None (suc number) (omega (arith, fits, size-cons line lines)))
    (λ insert more. lines-formed nest lines (Some insert) (suc number) more) (is_nil line) refl
lines-formed nest (line ∷ lines) (Some insert) number fits =
    within-formed nest insert number line lines fits (lines-formed nest lines None (suc number) (omega (arith, fits.2, size-cons line lines)))
    (λ more. lines-formed nest lines (Some (with_line insert line)) (suc number) more) (is_dot line)

pub scripts-formed : EventsNest → ScriptsAreWellFormed
scripts-formed nest bytes short = lines-formed nest (lines_of bytes) None 1 (omega (arith, short, lines-size bytes))
