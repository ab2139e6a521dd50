-- Each command of a script with undos is well formed: a command line says what is, and a fragment is no longer than its script.
use Rattle.std.proofs.Common.{◌≡◌, ℕ, suc, ◌≤◌, Bool, true, false, if◌then◌else◌, List, [], ◌∷◌, Option, None, Some, Result, Ok, Err, refl, arith}
use Rattle.sch_base.specs.Lists.{is_nil}
use Rattle.pyx_core.specs.Nesting.{EventsNest}
use Rattle.edit_script.specs.declared.command.Command.TheVariants.{Insert}
use Rattle.edit_script.specs.declared.command.Said.{Said}
use Rattle.edit_script.specs.declared.command.Said.TheVariants.{Whole, Opening}
use Rattle.edit_script.specs.declared.fault.ScriptKind.{ScriptKind}
use Rattle.edit_script.specs.declared.limits.TheConstants.{MAX_SCRIPT_BYTES}
use Rattle.edit_script.specs.CommandLine.{command_line}
use Rattle.edit_script.specs.Script.{Opened, is_dot, is_piece, joined, lines_of, opened_in, payload_fault, piece_of, with_line}
use Rattle.edit_script.specs.Undos.{Items, breaks, edits, is_undo, items_at, items_behind, items_on, undoes}
use Rattle.edit_script.specs.WellFormed.{IsPath, IsPlace}
use Rattle.edit_script.proofs.FormedLemmas.{opening_formed, whole_formed}
use Rattle.edit_script.proofs.PieceLemmas.{formed_from}
use Rattle.edit_command_laws.proofs.ScriptsFormed.{Fits, lines-size, size, size-append, size-cons}
use Rattle.edit_way_laws.specs.Items.{AreFormed, ItemsAreWellFormed}

behind-formed : EventsNest → (insert : Opened) (rest : Items) → IsPath insert.path → IsPlace insert.at → size insert.lines ≤ MAX_SCRIPT_BYTES → AreFormed rest →
    AreFormed (items_behind insert rest)
behind-formed nest insert rest path place short all = by (is_piece (joined insert.lines)) refl
  where
    by : (b : Bool) → is_piece (joined insert.lines) ≡ b →
        AreFormed (if b then edits (Insert insert.path insert.at (piece_of (joined insert.lines))) rest else breaks (payload_fault insert))
    by true is = ((path, place, formed_from nest (joined insert.lines) (piece_of (joined insert.lines)) is refl short), all)
    by false is = tt

-- a line between items
module _ (number : ℕ) (line : List ℕ) (lines : List (List ℕ)) (fits : Fits None (line ∷ lines)) (rest : AreFormed (items_at None (suc number) lines))
    (within : (insert : Opened) → Fits (Some insert) lines → AreFormed (items_at (Some insert) (suc number) lines)) where
  on-formed : (said : Result Said ScriptKind) → command_line line ≡ said →
      AreFormed (items_on number said (items_at None (suc number) lines) (λ insert. items_at (Some insert) (suc number) lines))
  on-formed (Err kind) is = tt
  on-formed (Ok (Whole command)) is = (whole_formed line command is, rest)
  on-formed (Ok (Opening path at)) is =
      let opened = opening_formed line path at is in
      within (opened_in number path at) (opened.0, opened.1, omega (arith, fits, size-cons line lines))

  undo-formed : (b : Bool) →
      AreFormed (if b then undoes (items_at None (suc number) lines)
      else items_on number (command_line line) (items_at None (suc number) lines) (λ insert. items_at (Some insert) (suc number) lines))
  undo-formed true = rest
  undo-formed false = on-formed (command_line line) refl

  between-formed : (b : Bool) →
      AreFormed (if b then items_at None (suc number) lines else if is_undo line then undoes (items_at None (suc number) lines)
      else items_on number (command_line line) (items_at None (suc number) lines) (λ insert. items_at (Some insert) (suc number) lines))
  between-formed true = rest
  between-formed false = undo-formed (is_undo line)

-- a line within a fragment
within-formed : EventsNest → (insert : Opened) (number : ℕ) (line : List ℕ) (lines : List (List ℕ)) → Fits (Some insert) (line ∷ lines) → AreFormed (items_at None (suc number) lines) →
    (Fits (Some (with_line insert line)) lines → AreFormed (items_at (Some (with_line insert line)) (suc number) lines)) →
    (b : Bool) → AreFormed (if b then items_behind insert (items_at None (suc number) lines) else items_at (Some (with_line insert line)) (suc number) lines)
within-formed nest insert number line lines fits rest further true =
    behind-formed nest insert (items_at None (suc number) lines) fits.0 fits.1 (omega (arith, fits.2, size-cons line lines)) rest
within-formed nest insert number line lines fits rest further false =
    further (fits.0, fits.1, omega (arith, fits.2, size-cons line lines, size-append insert.lines (line ∷ []), size-cons line []))

lines-formed : EventsNest → (lines : List (List ℕ)) (found : Option Opened) (number : ℕ) → Fits found lines → AreFormed (items_at found number lines)
lines-formed nest [] None number fits = tt
lines-formed nest [] (Some insert) number fits = tt
lines-formed nest (line ∷ lines) None number fits =
    between-formed number line lines fits (lines-formed nest lines None (suc number) (omega (arith, fits, size-cons line lines)))
    (λ insert more. lines-formed nest lines (Some insert) (suc number) more) (is_nil line)
lines-formed nest (line ∷ lines) (Some insert) number fits =
    within-formed nest insert number line lines fits (lines-formed nest lines None (suc number) (omega (arith, fits.2, size-cons line lines)))
    (λ more. lines-formed nest lines (Some (with_line insert line)) (suc number) more) (is_dot line)

pub items-formed : EventsNest → ItemsAreWellFormed
items-formed nest bytes short = lines-formed nest (lines_of bytes) None 1 (omega (arith, short, lines-size bytes))
