-- What is kept of what units read, by the cells and names along axes that an index has of them and by the lets.
use Rattle.std.specs.Prelude.{◌≡◌, ℕ, suc, false, List, [], ◌∷◌, Option, None, Some}
use Rattle.std.specs.FinSet.{from_list}
use Rattle.doc_tree.specs.cell.Cell.{Cell}
use Rattle.xp_outcome.specs.declared.names_along.NamesAlong.{NamesAlong}
use Rattle.xp_outcome.specs.Evaluation.{Read}
use Rattle.xp_outcome.specs.Recorded.{Recorded}
use Rattle.read_index.specs.declared.read_index.ReadIndex.{ReadIndex}
use Rattle.read_index.specs.ReadIndex.{cells_read, has_read, names_read}
use Rattle.kept_reads.specs.declared.lets_read.LetsRead.{LetsRead}
use Rattle.kept_reads.specs.inner.LetsRead.{slots_at, slots_of}

-- some cells, names along axes and lets; nothing where the unit is stale
abbrev pub kept_of : List Cell → List NamesAlong → Option (List ℕ) → Option Recorded
kept_of cells names None = None
kept_of cells names (Some slots) = Some (record { cells = from_list cells; names = from_list names; lets = from_list slots })

-- of each unit from one on
abbrev pub entries_of : ReadIndex → ℕ → List LetsRead → List (Option Recorded)
entries_of index unit [] = []
entries_of index unit (own ∷ lets) = kept_of (cells_read index unit) (names_read index unit) (slots_of own) ∷ entries_of index (suc unit) lets

-- the index has nothing of a stale unit
abbrev pub StaleHasNone : ReadIndex → List LetsRead → Type 0
StaleHasNone index lets = (unit : ℕ) → slots_at lets unit ≡ None → (r : Read) → has_read index unit r ≡ false
