-- A file has watched expressions, or a first fault, and one of these alone.
use Rattle.std.specs.Prelude.{◌≡◌, ℕ, List, Result}
use Rattle.xp_typed_tree.specs.TypedTree.{TypedTree}
use Rattle.watch_lines.specs.Watches.{WatchesAre}
use Rattle.watch_lines.specs.declared.fault.WatchFault.{WatchFault}

-- the bytes say one thing at most
abbrev pub OneReading : Type 0
OneReading = (bytes : List ℕ) (a b : Result (List TypedTree) WatchFault) → WatchesAre bytes a → WatchesAre bytes b → a ≡ b

-- and one at least
abbrev pub EachFileIsRead : Type 0
EachFileIsRead = (bytes : List ℕ) → (given : Result (List TypedTree) WatchFault) × WatchesAre bytes given
