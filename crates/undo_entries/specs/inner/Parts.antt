-- Parts of names, of paths, and of entries.
use Rattle.std.specs.Prelude.{ℕ, ◌&&◌, List, [], ◌∷◌, ◌++◌, map, Option, None, Some, if◌then◌else◌}
use Rattle.doc_tree.specs.Changes.{Meeting}
use Rattle.doc_tree.specs.Kinds.{is_text}
use Rattle.doc_tree.specs.Table.{Name, Table, kind_of, parent_of, value_of}
use Rattle.edit_script.specs.declared.command.Command.{Command}
use Rattle.edit_script.specs.declared.command.Command.TheVariants.{SetText}
use Rattle.edit_script.specs.declared.command.PathStep.{PathStep}
use Rattle.edit_paths.specs.PathTo.{step_to}
use Rattle.edit_paths.specs.Entries.{attribute_comes, attribute_goes, numbers_at, undoing_at}
use Rattle.undo_entries.specs.declared.entry.Entry.{Entry}
use Rattle.undo_entries.specs.declared.places.Met.{Met}

-- the target of a processing instruction, by its name (XML 1.0, section 2.6)
abbrev pub target_in : Option Name → List ℕ
target_in None = []
target_in (Some name) = name.local

-- a step, where there is one
abbrev pub steps_of : Option PathStep → List PathStep
steps_of None = []
steps_of (Some step) = step ∷ []

-- two texts that meet, where there are such
abbrev pub meeting_of : Option Met → Option Meeting
meeting_of None = None
meeting_of (Some met) = Some (record { left = met.left; right = met.right })

-- two nodes, where they are texts
abbrev pub both_texts : Table → ℕ → ℕ → Option Meeting
both_texts T left right =
    if is_text (kind_of T left) && is_text (kind_of T right) then Some (record { left = left; right = right }) else None

-- a kid says its text again
abbrev pub said_again : List PathStep → Table → ℕ → Command
said_again parent T n = SetText (parent ++ step_to T n (parent_of T n) (kind_of T n)) (value_of T n)

-- attributes go, and one and these come again
abbrev pub behind_undone : List PathStep → Table → ℕ → List ℕ → List Command
behind_undone path T a behind = map (attribute_goes path T) behind ++ map (attribute_comes path T) (a ∷ behind)

-- commands, and how many new numbers they make
abbrev pub entry_of : List Command → ℕ → Entry
entry_of commands numbers = record { commands = commands; numbers = numbers }

-- what takes a command at its node back
abbrev pub entry_at : Table → Command → ℕ → Entry
entry_at T command n = entry_of (undoing_at T command n) (numbers_at T command n)
