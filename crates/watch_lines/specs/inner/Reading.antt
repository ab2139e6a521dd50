-- How lines are read one after another.
use Rattle.std.specs.Prelude.{◌≡◌, ℕ, suc, false, List, [], ◌∷◌, Result, Ok, Err}
use Rattle.xp_typed_tree.specs.TypedTree.{TypedTree}
use Rattle.xp_types.specs.Scope.{Scope}
use Rattle.watch_lines.specs.declared.fault.LineError.{LineError}
use Rattle.watch_lines.specs.declared.fault.LineError.TheVariants.{Kind, Memory}
use Rattle.watch_lines.specs.declared.fault.WatchFault.{WatchFault}
use Rattle.watch_lines.specs.declared.fault.WatchKind.{WatchKind}
use Rattle.watch_lines.specs.declared.reading.Reading.{Reading}
use Rattle.watch_lines.specs.Watches.{LinesGive, Said, list_after, scope_after}

-- no variable is in scope, outside of patterns
pub record IsPlain (S : Scope) : Type 0 where
  pub outside : S.in_pattern ≡ false
  pub none : S.variables ≡ []

-- what holds of a line's fault, where there is one
abbrev pub IfKind : (WatchKind → Type 0) → LineError → Type 0
IfKind P (Kind what) = P what
IfKind P Memory = Unit {0}

-- a line said something by a judgement, and that was taken over
pub record Says (Judges : Result Said WatchKind → Type 0) (old new : Reading) : Type 0 where
  pub said : Said
  pub judged : Judges (Ok said)
  pub scope : new.env ≡ scope_after old.env said
  pub list : new.list ≡ list_after old.list said

-- a line was read: what the lines behind it give now they gave with it before
abbrev pub Passes : ℕ → List ℕ → Reading → Reading → Type 0
Passes number line old new =
    (lines : List (List ℕ)) (given : Result (List TypedTree) WatchFault) → LinesGive new.env new.list (suc number) lines given →
    LinesGive old.env old.list number (line ∷ lines) given

-- a line has a fault, whatever follows it
abbrev pub Stops : ℕ → List ℕ → Reading → WatchFault → Type 0
Stops number line old found = (lines : List (List ℕ)) → LinesGive old.env old.list number (line ∷ lines) (Err found)
