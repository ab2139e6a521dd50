-- What is to come of a script in which undos are allowed, item by item.
use Rattle.std.proofs.Common.{◌≡◌, ℕ, suc, ◌+◌, Bool, true, false, List, [], ◌∷◌, ◌++◌, length, Option, None, Some, Result, Ok, Err, if◌then◌else◌, arith, refl, sym, ◌∙◌, ap, append-nil}
use Rattle.sch_base.specs.Lists.{is_nil}
use Rattle.edit_script.specs.CommandLine.{command_line}
use Rattle.edit_script.specs.declared.command.Command.{Command}
use Rattle.edit_script.specs.declared.command.Command.TheVariants.{Insert}
use Rattle.edit_script.specs.declared.command.Said.{Said}
use Rattle.edit_script.specs.declared.command.Said.TheVariants.{Whole, Opening}
use Rattle.edit_script.specs.declared.fault.ScriptFault.{ScriptFault}
use Rattle.edit_script.specs.declared.fault.ScriptKind.{ScriptKind}
use Rattle.edit_script.specs.Script.{LinesLeft, Opened, Script, Takes, fault_at, goes_on, inserts, is_dot, is_piece, joined, nothing, onto, opened_in, payload_fault, piece_of, script_at, script_left, stops, with_line}
use Rattle.edit_script.specs.Undos.{Items, behind_undo, breaks, edits, ends, is_undo, items_at, items_behind, items_left, items_on, past_undo, undoes}

-- Parts of scripts

-- a command in front of others, and what is behind it
onto_same : (command other : Command) (script : Script) → onto command script ≡ onto other nothing → (command ≡ other) × (script ≡ nothing)
onto_same command other script same =
    let commands : command ∷ script.commands ≡ other ∷ [] = ap (λ (s : Script). s.commands) same in
    let rest : script.commands ≡ [] = cc in
    let fault : script.fault ≡ None = ap (λ (s : Script). s.fault) same in
    (cc, ap (λ list. record { commands = list; fault = script.fault }) rest ∙ ap (λ found. record { commands = []; fault = found }) fault)

onto_some : (command : Command) (script : Script) → onto command script ≡ nothing → ⊥
onto_some command script same =
    let commands : command ∷ script.commands ≡ [] = ap (λ (s : Script). s.commands) same in cc

onto_goes : (command : Command) (script : Script) (found : ScriptFault) → onto command script ≡ stops found → ⊥
onto_goes command script found same =
    let commands : command ∷ script.commands ≡ [] = ap (λ (s : Script). s.commands) same in cc

stops_some : (found : ScriptFault) → stops found ≡ nothing → ⊥
stops_some found same =
    let fault : Some found ≡ None = ap (λ (s : Script). s.fault) same in cc

stops_not : (found : ScriptFault) (command : Command) → stops found ≡ onto command nothing → ⊥
stops_not found command same =
    let fault : Some found ≡ None = ap (λ (s : Script). s.fault) same in cc

stops_same : (found other : ScriptFault) → stops found ≡ stops other → found ≡ other
stops_same found other same =
    let fault : Some found ≡ Some other = ap (λ (s : Script). s.fault) same in cc

-- Empty lines

inserts_some : (insert : Opened) (script : Script) (v : Bool) → is_piece (joined insert.lines) ≡ v → inserts insert script ≡ nothing → ⊥
inserts_some insert script true is same = onto_some (Insert insert.path insert.at (piece_of (joined insert.lines))) script (rw is at same)
inserts_some insert script false is same = stops_some (payload_fault insert) (rw is at same)

within_by : (insert : Opened) (number : ℕ) (line : List ℕ) (lines : List (List ℕ)) (v : Bool) → is_dot line ≡ v →
    (script_at (Some (with_line insert line)) (suc number) lines ≡ nothing → ⊥) → script_at (Some insert) number (line ∷ lines) ≡ nothing → ⊥
within_by insert number line lines true is rest same =
    inserts_some insert (script_at None (suc number) lines) (is_piece (joined insert.lines)) refl (rw is at same)
within_by insert number line lines false is rest same = rest (rw is at same)

within_some : (insert : Opened) (number : ℕ) (lines : List (List ℕ)) → script_at (Some insert) number lines ≡ nothing → ⊥
within_some insert number [] same = stops_some (payload_fault insert) same
within_some insert number (line ∷ lines) same =
    within_by insert number line lines (is_dot line) refl (within_some (with_line insert line) (suc number) lines) same

goes_some : (number : ℕ) (said : Result Said ScriptKind) (script : Script) (within : Opened → Script) → ((insert : Opened) → within insert ≡ nothing → ⊥) →
    goes_on number said script within ≡ nothing → ⊥
goes_some number (Err kind) script within some same = stops_some (fault_at number kind) same
goes_some number (Ok (Whole command)) script within some same = onto_some command script same
goes_some number (Ok (Opening path at)) script within some same = some (opened_in number path at) same

abbrev IsPassed : ℕ → List (List ℕ) → List (List ℕ) → Type 0
IsPassed number lines more = items_at None number (lines ++ more) ≡ items_at None (number + length lines) more

spent_by : (number : ℕ) (line : List ℕ) (lines more : List (List ℕ)) (v : Bool) → is_nil line ≡ v →
    (script_at None (suc number) lines ≡ nothing → IsPassed (suc number) lines more) → script_at None number (line ∷ lines) ≡ nothing → IsPassed number (line ∷ lines) more
spent_by number line lines more true is rest same =
    let next : suc number + length lines ≡ number + suc (length lines) = omega arith in
    rw is (rest (rw is at same) ∙ ap (λ n. items_at None n more) next)
spent_by number line lines more false is rest same =
    absurd (goes_some number (command_line line) (script_at None (suc number) lines) (λ insert. script_at (Some insert) (suc number) lines)
    (λ insert. within_some insert (suc number) lines) (rw is at same))

-- lines that give nothing are passed
spent : (number : ℕ) (lines more : List (List ℕ)) → script_at None number lines ≡ nothing → IsPassed number lines more
spent number [] more same =
    let next : number ≡ number + 0 = omega arith in ap (λ n. items_at None n more) next
spent number (line ∷ lines) more same = spent_by number line lines more (is_nil line) refl (spent (suc number) lines more) same

-- Commands

abbrev IsEdit : Command → Option Opened → ℕ → List (List ℕ) → List (List ℕ) → Type 0
IsEdit command within number lines more = items_at within number (lines ++ more) ≡ edits command (items_at None (number + length lines) more)

-- the command that ends with a line, behind which nothing is taken
ends_edit : (command other : Command) (number : ℕ) (lines more : List (List ℕ)) → onto command (script_at None (suc number) lines) ≡ onto other nothing →
    edits command (items_at None (suc number) (lines ++ more)) ≡ edits other (items_at None (number + suc (length lines)) more)
ends_edit command other number lines more same =
    let parts = onto_same command other (script_at None (suc number) lines) same in
    let next : suc number + length lines ≡ number + suc (length lines) = omega arith in
    ap (λ c. edits c (items_at None (suc number) (lines ++ more))) parts.0
    ∙ ap (λ items. edits other items) (spent (suc number) lines more parts.1 ∙ ap (λ n. items_at None n more) next)

inserts_edit : (command : Command) (insert : Opened) (number : ℕ) (lines more : List (List ℕ)) (v : Bool) → is_piece (joined insert.lines) ≡ v →
    inserts insert (script_at None (suc number) lines) ≡ onto command nothing →
    items_behind insert (items_at None (suc number) (lines ++ more)) ≡ edits command (items_at None (number + suc (length lines)) more)
inserts_edit command insert number lines more true is same =
    rw is (ends_edit (Insert insert.path insert.at (piece_of (joined insert.lines))) command number lines more (rw is at same))
inserts_edit command insert number lines more false is same = absurd (stops_not (payload_fault insert) command (rw is at same))

edit_within_by : (command : Command) (insert : Opened) (number : ℕ) (line : List ℕ) (lines more : List (List ℕ)) (v : Bool) → is_dot line ≡ v →
    (script_at (Some (with_line insert line)) (suc number) lines ≡ onto command nothing → IsEdit command (Some (with_line insert line)) (suc number) lines more) →
    script_at (Some insert) number (line ∷ lines) ≡ onto command nothing → IsEdit command (Some insert) number (line ∷ lines) more
edit_within_by command insert number line lines more true is rest same =
    rw is (inserts_edit command insert number lines more (is_piece (joined insert.lines)) refl (rw is at same))
edit_within_by command insert number line lines more false is rest same =
    let next : suc number + length lines ≡ number + suc (length lines) = omega arith in
    rw is (rest (rw is at same) ∙ ap (λ n. edits command (items_at None n more)) next)

edit_within : (command : Command) (insert : Opened) (number : ℕ) (lines more : List (List ℕ)) → script_at (Some insert) number lines ≡ onto command nothing →
    IsEdit command (Some insert) number lines more
edit_within command insert number [] more same = absurd (stops_not (payload_fault insert) command same)
edit_within command insert number (line ∷ lines) more same =
    edit_within_by command insert number line lines more (is_dot line) refl (edit_within command (with_line insert line) (suc number) lines more) same

edit_said : (command : Command) (number : ℕ) (said : Result Said ScriptKind) (lines more : List (List ℕ)) →
    goes_on number said (script_at None (suc number) lines) (λ insert. script_at (Some insert) (suc number) lines) ≡ onto command nothing →
    items_on number said (items_at None (suc number) (lines ++ more)) (λ insert. items_at (Some insert) (suc number) (lines ++ more))
    ≡ edits command (items_at None (number + suc (length lines)) more)
edit_said command number (Err kind) lines more same = absurd (stops_not (fault_at number kind) command same)
edit_said command number (Ok (Whole other)) lines more same = ends_edit other command number lines more same
edit_said command number (Ok (Opening path at)) lines more same =
    let next : suc number + length lines ≡ number + suc (length lines) = omega arith in
    edit_within command (opened_in number path at) (suc number) lines more same ∙ ap (λ n. edits command (items_at None n more)) next

not_undo : (line : List ℕ) (left : LinesLeft) (v : Bool) → is_undo line ≡ v → (if is_undo line then Some left else None) ≡ None → is_undo line ≡ false
not_undo line left true is none =
    let some : Some left ≡ None = rw is at none in absurd (cc)
not_undo line left false is none = is

edit_by : (command : Command) (number : ℕ) (line : List ℕ) (lines more : List (List ℕ)) (v : Bool) → is_nil line ≡ v →
    (past_undo (suc number) (lines ++ more) ≡ None → script_at None (suc number) lines ≡ onto command nothing → IsEdit command None (suc number) lines more) →
    past_undo number ((line ∷ lines) ++ more) ≡ None → script_at None number (line ∷ lines) ≡ onto command nothing → IsEdit command None number (line ∷ lines) more
edit_by command number line lines more true is rest none same =
    let next : suc number + length lines ≡ number + suc (length lines) = omega arith in
    rw is (rest (rw is at none) (rw is at same) ∙ ap (λ n. edits command (items_at None n more)) next)
edit_by command number line lines more false is rest none same =
    let behind : LinesLeft = record { number = suc number; lines = lines ++ more; faulted = false } in
    let other : is_undo line ≡ false = not_undo line behind (is_undo line) refl (rw is at none) in
    rw (is, other) (edit_said command number (command_line line) lines more (rw is at same))

edit_between : (command : Command) (number : ℕ) (lines more : List (List ℕ)) → past_undo number (lines ++ more) ≡ None →
    script_at None number lines ≡ onto command nothing → IsEdit command None number lines more
edit_between command number [] more none same = absurd (onto_some command nothing (sym same))
edit_between command number (line ∷ lines) more none same =
    edit_by command number line lines more (is_nil line) refl (edit_between command (suc number) lines more) none same

-- Faults

inserts_break : (found : ScriptFault) (insert : Opened) (script : Script) (items : Items) (v : Bool) → is_piece (joined insert.lines) ≡ v →
    inserts insert script ≡ stops found → items_behind insert items ≡ breaks found
inserts_break found insert script items true is same =
    absurd (onto_goes (Insert insert.path insert.at (piece_of (joined insert.lines))) script found (rw is at same))
inserts_break found insert script items false is same = rw is (ap (λ f. breaks f) (stops_same (payload_fault insert) found (rw is at same)))

break_within_by : (found : ScriptFault) (insert : Opened) (number : ℕ) (line : List ℕ) (lines : List (List ℕ)) (v : Bool) → is_dot line ≡ v →
    (script_at (Some (with_line insert line)) (suc number) lines ≡ stops found → items_at (Some (with_line insert line)) (suc number) lines ≡ breaks found) →
    script_at (Some insert) number (line ∷ lines) ≡ stops found → items_at (Some insert) number (line ∷ lines) ≡ breaks found
break_within_by found insert number line lines true is rest same =
    rw is (inserts_break found insert (script_at None (suc number) lines) (items_at None (suc number) lines) (is_piece (joined insert.lines)) refl (rw is at same))
break_within_by found insert number line lines false is rest same = rw is (rest (rw is at same))

break_within : (found : ScriptFault) (insert : Opened) (number : ℕ) (lines : List (List ℕ)) → script_at (Some insert) number lines ≡ stops found →
    items_at (Some insert) number lines ≡ breaks found
break_within found insert number [] same = ap (λ f. breaks f) (stops_same (payload_fault insert) found same)
break_within found insert number (line ∷ lines) same =
    break_within_by found insert number line lines (is_dot line) refl (break_within found (with_line insert line) (suc number) lines) same

break_said : (found : ScriptFault) (number : ℕ) (said : Result Said ScriptKind) (lines : List (List ℕ)) →
    goes_on number said (script_at None (suc number) lines) (λ insert. script_at (Some insert) (suc number) lines) ≡ stops found →
    items_on number said (items_at None (suc number) lines) (λ insert. items_at (Some insert) (suc number) lines) ≡ breaks found
break_said found number (Err kind) lines same = ap (λ f. breaks f) (stops_same (fault_at number kind) found same)
break_said found number (Ok (Whole command)) lines same = absurd (onto_goes command (script_at None (suc number) lines) found same)
break_said found number (Ok (Opening path at)) lines same = break_within found (opened_in number path at) (suc number) lines same

break_by : (found : ScriptFault) (number : ℕ) (line : List ℕ) (lines : List (List ℕ)) (v : Bool) → is_nil line ≡ v →
    (past_undo (suc number) lines ≡ None → script_at None (suc number) lines ≡ stops found → items_at None (suc number) lines ≡ breaks found) →
    past_undo number (line ∷ lines) ≡ None → script_at None number (line ∷ lines) ≡ stops found → items_at None number (line ∷ lines) ≡ breaks found
break_by found number line lines true is rest none same = rw is (rest (rw is at none) (rw is at same))
break_by found number line lines false is rest none same =
    let behind : LinesLeft = record { number = suc number; lines = lines; faulted = false } in
    let other : is_undo line ≡ false = not_undo line behind (is_undo line) refl (rw is at none) in
    rw (is, other) (break_said found number (command_line line) lines (rw is at same))

break_between : (found : ScriptFault) (number : ℕ) (lines : List (List ℕ)) → past_undo number lines ≡ None → script_at None number lines ≡ stops found →
    items_at None number lines ≡ breaks found
break_between found number [] none same = absurd (stops_some found (sym same))
break_between found number (line ∷ lines) none same =
    break_by found number line lines (is_nil line) refl (break_between found (suc number) lines) none same

-- Undos

undo_line : (line : List ℕ) (found new : LinesLeft) (others : Items) (v : Bool) → is_undo line ≡ v → (if is_undo line then Some found else None) ≡ Some new →
    (if is_undo line then undoes (items_left found) else others) ≡ undoes (items_left new)
undo_line line found new others true is some =
    let same : Some found ≡ Some new = rw is at some in
    let left : found ≡ new = cc in rw is (ap (λ l. undoes (items_left l)) left)
undo_line line found new others false is some =
    let none : None ≡ Some new = rw is at some in absurd (cc)

undo_by : (number : ℕ) (line : List ℕ) (lines : List (List ℕ)) (new : LinesLeft) (v : Bool) → is_nil line ≡ v →
    (past_undo (suc number) lines ≡ Some new → items_at None (suc number) lines ≡ undoes (items_left new)) →
    past_undo number (line ∷ lines) ≡ Some new → items_at None number (line ∷ lines) ≡ undoes (items_left new)
undo_by number line lines new true is rest some = rw is (rest (rw is at some))
undo_by number line lines new false is rest some =
    let found : LinesLeft = record { number = suc number; lines = lines; faulted = false } in
    rw is (undo_line line found new
    (items_on number (command_line line) (items_at None (suc number) lines) (λ insert. items_at (Some insert) (suc number) lines)) (is_undo line) refl (rw is at some))

undo_between : (number : ℕ) (lines : List (List ℕ)) (new : LinesLeft) → past_undo number lines ≡ Some new → items_at None number lines ≡ undoes (items_left new)
undo_between number [] new some = absurd (cc)
undo_between number (line ∷ lines) new some = undo_by number line lines new (is_nil line) refl (undo_between (suc number) lines new) some

-- Readers

undo_by_flag : (old new : LinesLeft) (v : Bool) → old.faulted ≡ v → behind_undo old ≡ Some new → items_left old ≡ undoes (items_left new)
undo_by_flag old new true is some =
    let none : None ≡ Some new = rw is at some in absurd (cc)
undo_by_flag old new false is some = undo_between old.number old.lines new (rw is at some)

pub undo_turn : (old new : LinesLeft) → behind_undo old ≡ Some new → items_left old ≡ undoes (items_left new)
undo_turn old new some = undo_by_flag old new old.faulted refl some

pub command_turn : (command : Command) (old new : LinesLeft) → old.faulted ≡ false → behind_undo old ≡ None → Takes command old new →
    items_left old ≡ edits command (items_left new)
command_turn command old new open_ none takes =
    let past : past_undo old.number old.lines ≡ None = rw open_ at none in
    ap (items_at None old.number) takes.front
    ∙ edit_between command old.number takes.taken new.lines (ap (past_undo old.number) (sym takes.front) ∙ past) takes.alone
    ∙ ap (λ n. edits command (items_at None n new.lines)) (sym takes.number)

pub end_turn : (old : LinesLeft) → script_left old ≡ nothing → items_left old ≡ ends
end_turn old same = ap (items_at None old.number) (sym (append-nil old.lines)) ∙ spent old.number old.lines [] same

pub fault_turn : (old : LinesLeft) (found : ScriptFault) → old.faulted ≡ false → behind_undo old ≡ None → script_left old ≡ stops found →
    items_left old ≡ breaks found
fault_turn old found open_ none same = break_between found old.number old.lines (rw open_ at none) same
