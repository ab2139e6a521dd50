-- The commands and undos of a script, one after another.
use Rattle.std.proofs.Common.{◌∙◌, ◌≡◌, ℕ, zero, suc, ◌+◌, ◌<◌, ◌≤◌, ◌^◌, Bool, true, false, if◌then◌else◌, List, [], ◌∷◌, length, IfErr, IfNone, IfSome, Option, None, Some, Result, Ok, Err, refl, ap, sym, subst, arith}
use Rattle.sch_base.specs.Lists.{is_nil}
use Rattle.edit_script.specs.CommandLine.{command_line}
use Rattle.edit_script.specs.Faults.{IfFault}
use Rattle.edit_script.specs.Script.{LinesLeft, Opened, Takes, at_start, is_dot, is_piece, joined, lines_of, nothing, opened_in, script_left, stops, with_line}
use Rattle.edit_script.specs.Undos.{Items, ItemsInTurn, behind_undo, breaks, edits, ends, is_undo, item_count, items_at, items_behind, items_left, items_on, past_undo, undoes}
use Rattle.edit_script.specs.declared.command.Command.{Command}
use Rattle.edit_script.specs.declared.command.Said.{Said}
use Rattle.edit_script.specs.declared.command.Said.TheVariants.{Whole, Opening}
use Rattle.edit_script.specs.declared.fault.ScriptError.{ScriptError}
use Rattle.edit_script.specs.declared.fault.ScriptError.TheVariants as script
use Rattle.edit_script.specs.declared.fault.ScriptKind.{ScriptKind}
use Rattle.edit_script.specs.declared.limits.TheConstants.{MAX_SCRIPT_BYTES}
use Rattle.sch_commands.specs.Following.{items_of}
use Rattle.sch_commands.specs.declared.undoing.Item.{Item}
use Rattle.sch_commands.specs.declared.undoing.Item.TheVariants as item
use Rattle.sch_commands.specs.inner.Undoing.{ahead_of}
use Rattle.sch_commands.proofs.FollowLemmas.{few_lines}

-- The items of a script

-- a line gives one item at most
module _ (line : List ℕ) (lines : List (List ℕ)) (before : (insert : Option Opened) (number : ℕ) → item_count (items_at insert number lines) ≤ length lines) where
  few_said : (number : ℕ) (said : Result Said ScriptKind) →
      item_count (items_on number said (items_at None (suc number) lines) (λ insert. items_at (Some insert) (suc number) lines)) ≤ suc (length lines)
  few_said number (Err kind) = omega arith
  few_said number (Ok (Whole command)) = omega (arith, before None (suc number))
  few_said number (Ok (Opening path at)) = omega (arith, before (Some (opened_in number path at)) (suc number))

  few_line : (number : ℕ) (b : Bool) →
      item_count (if b then undoes (items_at None (suc number) lines)
      else items_on number (command_line line) (items_at None (suc number) lines) (λ insert. items_at (Some insert) (suc number) lines)) ≤ suc (length lines)
  few_line number true = omega (arith, before None (suc number))
  few_line number false = few_said number (command_line line)

  few_between : (number : ℕ) (b : Bool) → is_nil line ≡ b → item_count (items_at None number (line ∷ lines)) ≤ suc (length lines)
  few_between number true is = rw is (omega (arith, before None (suc number)))
  few_between number false is = rw is (few_line number (is_undo line))

  few_piece : (insert : Opened) (number : ℕ) (b : Bool) → is_piece (joined insert.lines) ≡ b → item_count (items_behind insert (items_at None (suc number) lines)) ≤ suc (length lines)
  few_piece insert number true is = rw is (omega (arith, before None (suc number)))
  few_piece insert number false is = rw is (omega arith)

  few_within : (insert : Opened) (number : ℕ) (b : Bool) → is_dot line ≡ b → item_count (items_at (Some insert) number (line ∷ lines)) ≤ suc (length lines)
  few_within insert number true is = rw is (few_piece insert number (is_piece (joined insert.lines)) refl)
  few_within insert number false is = rw is (omega (arith, before (Some (with_line insert line)) (suc number)))

few_in_lines : (lines : List (List ℕ)) (insert : Option Opened) (number : ℕ) → item_count (items_at insert number lines) ≤ length lines
few_in_lines [] None number = omega arith
few_in_lines [] (Some insert) number = omega arith
few_in_lines (line ∷ lines) None number = few_between line lines (few_in_lines lines) number (is_nil line) refl
few_in_lines (line ∷ lines) (Some insert) number = few_within line lines (few_in_lines lines) insert number (is_dot line) refl

-- what a script gives can be numbered
pub few_items : (bytes : List ℕ) → length bytes ≤ MAX_SCRIPT_BYTES → 1 + item_count (items_left (at_start bytes)) < 2 ^ 64
few_items bytes short = omega (arith, few_lines bytes, few_in_lines (lines_of bytes) None 1, short)

-- where an edit can be undone, these are the items of a script
pub items_some : (undos : ℕ) (bytes : List ℕ) → 1 ≤ undos → items_of undos bytes ≡ items_left (at_start bytes)
items_some zero bytes some = absurd (omega (arith, some))
items_some (suc undos) bytes some = refl

-- an item is one more than what follows
pub fewer : (next : Item) (items rest : Items) → items ≡ ahead_of next rest → item_count items ≡ suc (item_count rest)
fewer (item.Edit command) items rest is = ap item_count is
fewer item.Undo items rest is = ap item_count is

-- behind the line `undo` no fault was answered
none-is-some : {left : LinesLeft} → None ≡ Some left → ⊥
none-is-some is = cc

some-same : {left right : LinesLeft} → Some left ≡ Some right → left ≡ right
some-same is = cc

abbrev left-behind : ℕ → List (List ℕ) → LinesLeft
left-behind number lines = record { number = number; lines = lines; faulted = false }

past-here : (b : Bool) (number : ℕ) (lines : List (List ℕ)) (new : LinesLeft) → (if b then Some (left-behind (suc number) lines) else None) ≡ Some new → new.faulted ≡ false
past-here true number lines new same = ap (λ (left : LinesLeft). left.faulted) (sym (some-same same))
past-here false number lines new same = absurd (none-is-some same)

past-by : (number : ℕ) (line : List ℕ) (lines : List (List ℕ)) (new : LinesLeft) → (past_undo (suc number) lines ≡ Some new → new.faulted ≡ false) →
    (b : Bool) → is_nil line ≡ b → past_undo number (line ∷ lines) ≡ Some new → new.faulted ≡ false
past-by number line lines new behind true empty is = behind (rw empty at is)
past-by number line lines new behind false empty is = past-here (is_undo line) number lines new (rw empty at is)

past-unfaulted : (lines : List (List ℕ)) (number : ℕ) (new : LinesLeft) → past_undo number lines ≡ Some new → new.faulted ≡ false
past-unfaulted [] number new is = absurd (none-is-some is)
past-unfaulted (line ∷ lines) number new is = past-by number line lines new (past-unfaulted lines (suc number) new) (is_nil line) refl is

pub behind-unfaulted : (old new : LinesLeft) → old.faulted ≡ false → behind_undo old ≡ Some new → new.faulted ≡ false
behind-unfaulted old new unfaulted is = past-unfaulted old.lines old.number new (rw unfaulted at is)

-- what the reader of a script takes is the next item: the line `undo`, which is the law's own, a command
pub item-command : ItemsInTurn → (old mid new : LinesLeft) (command : Command) → mid ≡ old → old.faulted ≡ false → behind_undo old ≡ None → Takes command mid new →
    (items_left old ≡ edits command (items_left new)) × (new.faulted ≡ false)
item-command in_turn old mid new command same unfaulted none takes =
    let here : Takes command old new = subst (λ (left : LinesLeft). Takes command left new) same takes in
    (in_turn.command command old new unfaulted none here, here.faulted ∙ unfaulted)

-- or its end
pub item-end : ItemsInTurn → (old mid : LinesLeft) → mid ≡ old → script_left mid ≡ nothing → items_left old ≡ ends
item-end in_turn old mid same none = in_turn.end old (subst (λ (left : LinesLeft). script_left left ≡ nothing) same none)

-- or its fault
pub item-fault : ItemsInTurn → (old mid : LinesLeft) → mid ≡ old → old.faulted ≡ false → behind_undo old ≡ None → (error : ScriptError) → IfFault (λ found. script_left mid ≡ stops found) error →
    IfFault (λ found. items_left old ≡ breaks found) error
item-fault in_turn old mid same unfaulted none (script.Fault found) stopped =
    in_turn.fault old found unfaulted none (subst (λ (left : LinesLeft). script_left left ≡ stops found) same stopped)
item-fault in_turn old mid same unfaulted none script.Memory stopped = tt

-- what holds of an error holds of the result
pub err-as : {A E : Type 0} (P : E → Type 0) (result : Result A E) (error other : E) → result ≡ Err error → error ≡ other → P other → IfErr result P
err-as {A = A} {E = E} P result error other is same holds = subst (λ (r : Result A E). IfErr r P) (sym (is ∙ ap Err same)) holds

-- what holds of what was found, and of nothing
pub some-holds : {A : Type 0} (P : A → Type 0) (found : Option A) (value : A) → found ≡ Some value → IfSome found P → P value
some-holds {A = A} P found value is holds = subst (λ (o : Option A). IfSome o P) is holds

pub none-holds : {A : Type 0} (P : Type 0) (found : Option A) → found ≡ None → IfNone found P → P
none-holds {A = A} P found is holds = subst (λ (o : Option A). IfNone o P) is holds

-- the next item, where there is one
pub next-is : (found : Option Item) (next : Item) (items rest : Items) → found ≡ Some next → IfSome found (λ some. items ≡ ahead_of some rest) → items ≡ ahead_of next rest
next-is found next items rest is says = subst (λ (o : Option Item). IfSome o (λ some. items ≡ ahead_of some rest)) is says

-- the script is at its end where there is none
pub no-next : (found : Option Item) (items : Items) → ((next : Item) → found ≡ Some next → ⊥) → IfNone found (items ≡ ends) → items ≡ ends
no-next None items none says = says
no-next (Some next) items none says = absurd (none next refl)
