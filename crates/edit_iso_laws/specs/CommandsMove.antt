-- A command makes the same tree of trees that are the same.
use Rattle.std.specs.Prelude.{◌≡◌, ℕ, ◌+◌, ◌≤◌, true, List, [], ◌∷◌, length, sum_by, Option, None, Some, All}
use Rattle.doc_tree.specs.Kinds.{is_document}
use Rattle.doc_tree.specs.Laws.{WellFormed}
use Rattle.doc_tree.specs.SameTree.{SameTree}
use Rattle.doc_tree.specs.Table.{Contents, Table}
use Rattle.doc_tree.specs.limits.TheConstants.{MAX_NODE_NUMBERS}
use Rattle.doc_tree.specs.NameTests.{attribute_meant}
use Rattle.name_scopes.specs.Fragments.{event_nodes}
use Rattle.name_scopes.specs.QNames.{local_part, prefix_part}
use Rattle.edit_script.specs.declared.command.Command.{Command}
use Rattle.edit_script.specs.declared.command.Command.TheVariants.{Insert, Delete, SetText, SetAttr, UnsetAttr, Rename, RenameAttr}
use Rattle.edit_script.specs.WellFormed.{WellFormedCommand}
use Rattle.edit_commands.specs.Commands.{IsEdited, command_refusal, path_of}
use Rattle.edit_commands.specs.Paths.{node_named}

-- where no reason speaks against it in either
abbrev pub CommandsMove : Type 0
CommandsMove = (before other : Contents) (command : Command) (A B : Table) → WellFormed before.nodes → WellFormed other.nodes → SameTree before.nodes other.nodes →
    command_refusal before command ≡ None → command_refusal other command ≡ None → IsEdited before.nodes command A → IsEdited other.nodes command B → SameTree A B

-- commands done one after another, against none of which a reason speaks; the pair cap stays
pub data DoneInTurn : Contents → List Command → Contents → Type 0 where
  none : (before : Contents) → DoneInTurn before [] before
  then : (before next after : Contents) (command : Command) (commands : List Command) → command_refusal before command ≡ None → IsEdited before.nodes command next.nodes →
      next.pair_cap ≡ before.pair_cap →
      DoneInTurn next commands after → DoneInTurn before (command ∷ commands) after

-- so do commands one after another, on documents
abbrev pub ScriptsMove : Type 0
ScriptsMove = (before other after after_other : Contents) (commands : List Command) → WellFormed before.nodes → WellFormed other.nodes →
    is_document before.nodes ≡ true → is_document other.nodes ≡ true → SameTree before.nodes other.nodes →
    DoneInTurn before commands after → DoneInTurn other commands after_other → SameTree after.nodes after_other.nodes

-- how many new numbers a value makes: one where no attribute has its name
abbrev pub numbers_for_value : Option ℕ → ℕ
numbers_for_value None = 1
numbers_for_value (Some a) = 0

-- how many new numbers a command makes at its node
abbrev pub numbers_made_at : Table → Command → ℕ → ℕ
numbers_made_at T (Insert path at piece) n = sum_by event_nodes piece
numbers_made_at T (Delete path) n = 0
numbers_made_at T (SetText path text) n = 0
numbers_made_at T (SetAttr path name value) n = numbers_for_value (attribute_meant T n (prefix_part name) (local_part name))
numbers_made_at T (UnsetAttr path name) n = 0
numbers_made_at T (Rename path name) n = 0
numbers_made_at T (RenameAttr path old name) n = 0

abbrev pub numbers_made_where : Table → Command → Option ℕ → ℕ
numbers_made_where T command None = 0
numbers_made_where T command (Some n) = numbers_made_at T command n

-- how many new numbers a command makes
abbrev pub numbers_made : Table → Command → ℕ
numbers_made T command = numbers_made_where T command (node_named T (path_of command))

-- it makes as many of the other tree
abbrev pub NumbersMove : Type 0
NumbersMove = (before other : Contents) (command : Command) → WellFormed before.nodes → WellFormed other.nodes → SameTree before.nodes other.nodes →
    numbers_made other.nodes command ≡ numbers_made before.nodes command

-- where nothing speaks against a command in one tree, nothing does in the other, unless it has too few numbers left
abbrev pub RefusalsMove : Type 0
RefusalsMove = (before other : Contents) (command : Command) → WellFormed before.nodes → WellFormed other.nodes → SameTree before.nodes other.nodes →
    other.pair_cap ≡ before.pair_cap → command_refusal before command ≡ None → length other.nodes + numbers_made before.nodes command ≤ MAX_NODE_NUMBERS →
    command_refusal other command ≡ None

-- commands that were done on one tree are done on the other, to the same end, and make so many new numbers
pub record GoesOn (other : Contents) (commands : List Command) (after : Contents) (more : ℕ) : Type 0 where
  pub end : Contents
  pub done : DoneInTurn other commands end
  pub same : SameTree after.nodes end.nodes
  pub numbers : length end.nodes ≡ length other.nodes + more
  pub cap : end.pair_cap ≡ other.pair_cap

-- as many as they made of the first, where so many are left
abbrev pub ScriptsGoOn : Type 0
ScriptsGoOn = (before other after : Contents) (commands : List Command) (more : ℕ) → WellFormed before.nodes → WellFormed other.nodes →
    is_document before.nodes ≡ true → is_document other.nodes ≡ true → SameTree before.nodes other.nodes → other.pair_cap ≡ before.pair_cap →
    All WellFormedCommand commands → DoneInTurn before commands after → length after.nodes ≡ length before.nodes + more → length other.nodes + more ≤ MAX_NODE_NUMBERS →
    GoesOn other commands after more
