-- The states of trees that are the same but for the numbers of their nodes (ISO/IEC 19757-3, clause 6).
use Rattle.std.specs.Prelude.{◌≡◌, ℕ, length, true}
use Rattle.pyx_core.specs.declared.mode.Mode.TheVariants.{Document}
use Rattle.pyx_core.specs.Nesting.{bare}
use Rattle.pyx_core.specs.Reading.{events_of}
use Rattle.doc_tree.specs.Kinds.{is_document}
use Rattle.doc_tree.specs.Laws.{WellFormed}
use Rattle.doc_tree.specs.Lines.{lines}
use Rattle.doc_tree.specs.SameTree.{SameTree}
use Rattle.doc_tree.specs.Table.{Table}
use Rattle.doc_tree.specs.Walks.{order}
use Rattle.doc_write.specs.TreeText.{tree_text}
use Rattle.doc_locations.specs.Locations.{location_of}
use Rattle.name_scopes.specs.ScopedTree.{Scoped}
use Rattle.name_scopes.specs.Scoping.{InScope}
use Rattle.tree_iso.specs.Renumbering.{Renumbers}
use Rattle.sch_compiled.specs.declared.plan.Plan.{Plan}
use Rattle.svrl_out.specs.State.{shows, state_text}

-- a renumbered node is found at the same location
abbrev pub LocationsStay : Type 0
LocationsStay = (f : ℕ → ℕ) (T U : Table) (n : ℕ) → WellFormed T → WellFormed U → Renumbers f T U → location_of U (f n) ≡ location_of T n

-- two trees show the same by a plan: the text of their states is the same, and so is what it shows
pub record ShowTheSame (plan : Plan) (T U : Table) : Type 0 where
  pub text : state_text plan T ≡ state_text plan U
  pub shown : shows plan T ≡ shows plan U

-- trees that are the same do, by every plan
abbrev pub SameTreesShowTheSame : Type 0
SameTreesShowTheSame = (plan : Plan) (T U : Table) → WellFormed T → WellFormed U → SameTree T U → ShowTheSame plan T U

-- so do trees of the same lines
abbrev pub SameLinesShowTheSame : Type 0
SameLinesShowTheSame = (plan : Plan) (T U : Table) → WellFormed T → WellFormed U → lines T ≡ lines U → ShowTheSame plan T U

-- a document and a tree of the events of its text: as many nodes, and the same state by every plan
abbrev pub SavedDocumentsShowTheSame : Type 0
SavedDocumentsShowTheSame =
    (T U : Table) → WellFormed T → InScope T → is_document T ≡ true → Scoped (bare (events_of Document (tree_text T))) U →
    (length (order U) ≡ length (order T)) × ((plan : Plan) → ShowTheSame plan T U)
