-- Histories of edits: the trees to which undoing goes back.
use Rattle.std.specs.Prelude.{◌≡◌, ℕ, ◌+◌, ◌≤◌, true, List, [], ◌∷◌, length, take, All}
use Rattle.doc_tree.specs.Kinds.{is_document}
use Rattle.doc_tree.specs.Laws.{WellFormed}
use Rattle.doc_tree.specs.SameTree.{SameTree}
use Rattle.doc_tree.specs.Table.{Contents}
use Rattle.doc_tree.specs.limits.TheConstants.{MAX_NODE_NUMBERS}
use Rattle.edit_script.specs.WellFormed.{WellFormedCommand}
use Rattle.edit_iso_laws.specs.CommandsMove.{DoneInTurn}
use Rattle.undo_entries.specs.declared.entry.Entry.{Entry}

-- the commands of an entry, done one after another on a document, make an earlier one again, but for the numbers of its nodes; so
-- many of these are new
pub record Returns (here : Contents) (entry : Entry) (before : Contents) : Type 0 where
  pub end : Contents
  pub done : DoneInTurn here entry.commands end
  pub same : SameTree before.nodes end.nodes
  pub numbers : length end.nodes ≡ length here.nodes + entry.numbers

-- an entry leads back from a document to an earlier one
pub record LeadsBack (here : Contents) (entry : Entry) (before : Contents) : Type 0 where
  pub well_formed : WellFormed before.nodes
  pub document : is_document before.nodes ≡ true
  pub cap : before.pair_cap ≡ here.pair_cap
  pub older : length before.nodes ≤ length here.nodes
  pub formed : All WellFormedCommand entry.commands
  -- where so many numbers are left: the limit on them isn't counted
  pub returns : length here.nodes + entry.numbers ≤ MAX_NODE_NUMBERS → Returns here entry before

-- entries, the newest first, stand for a list of trees: each makes its tree of the next newer one, and the newest of the document as
-- it stands
abbrev pub StandsFor : Contents → List Entry → List Contents → Type 0
StandsFor here [] [] = Unit {0}
StandsFor here [] (before ∷ trees) = ⊥
StandsFor here (entry ∷ entries) [] = ⊥
StandsFor here (entry ∷ entries) (before ∷ trees) = LeadsBack here entry before × StandsFor before entries trees

-- a later document that is the same but for the numbers of its nodes
pub record IsLater (here other : Contents) : Type 0 where
  pub well_formed : WellFormed other.nodes
  pub document : is_document other.nodes ≡ true
  pub same : SameTree here.nodes other.nodes
  pub cap : other.pair_cap ≡ here.pair_cap
  pub later : length here.nodes ≤ length other.nodes

pub record HistoriesStand : Type 0 where
  -- entries stand for as many trees
  pub count : (here : Contents) (entries : List Entry) (trees : List Contents) → StandsFor here entries trees → length entries ≡ length trees
  -- the oldest ones are given up together
  pub kept : (n : ℕ) (here : Contents) (entries : List Entry) (trees : List Contents) → StandsFor here entries trees → StandsFor here (take n entries) (take n trees)
  -- they stand for the same trees over a document that is the same
  pub moved : (here other : Contents) (entries : List Entry) (trees : List Contents) → WellFormed here.nodes → is_document here.nodes ≡ true → IsLater here other →
      StandsFor here entries trees → StandsFor other entries trees
  -- the newest one undone, the document is that from before it, for which the others stand
  pub undone : (here other : Contents) (entry : Entry) (entries : List Entry) (before : Contents) (trees : List Contents) → WellFormed here.nodes → is_document here.nodes ≡ true →
      StandsFor here (entry ∷ entries) (before ∷ trees) → DoneInTurn here entry.commands other →
      length here.nodes + entry.numbers ≤ MAX_NODE_NUMBERS →
      SameTree before.nodes other.nodes × StandsFor other entries trees × (length other.nodes ≡ length here.nodes + entry.numbers)
