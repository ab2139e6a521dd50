-- Marks of the cells of a table of outcomes.
use Rattle.std.specs.Prelude.{◌≡◌, ◌≢◌, ℕ, true, ◌+◌, ◌*◌, ◌<◌, ◌≤◌, ◌^◌, List, length, Option, None, slice_index_or, if◌then◌else◌}
use Rattle.doc_tree.specs.Lists.{mem}
use Rattle.sch_compiled.specs.declared.findings.Outcome.{Outcome}
use Rattle.sch_compiled.specs.Findings.{is_told}

-- the mark of a cell
abbrev pub mark_of : Option Outcome → ℕ
mark_of outcome = if is_told outcome then 1 else 0

-- each cell has its mark, and there are no marks past those of the last node
pub record IsMarked (patterns : ℕ) (cells : List (Option Outcome)) (marks : List ℕ) : Type 0 where
  pub each : (place : ℕ) → slice_index_or marks place 0 ≡ mark_of (slice_index_or cells place None)
  pub room : length cells ≤ length marks
  pub few : length marks ≤ 2 ^ 32 * patterns

-- the cells from one place on and before another are not marked
abbrev pub AreUnmarked : List ℕ → ℕ → ℕ → Type 0
AreUnmarked marks from past = (place : ℕ) → from ≤ place → place < past → slice_index_or marks place 0 ≢ 1

-- the first place from one on whose cell is marked
pub record IsNextMark (marks : List ℕ) (from place : ℕ) : Type 0 where
  pub behind : from ≤ place
  pub within : place < length marks
  pub there : slice_index_or marks place 0 ≡ 1
  pub between : AreUnmarked marks from place

-- the cell of a node under a pattern is marked
abbrev pub IsMarkedAt : ℕ → List ℕ → ℕ → ℕ → Type 0
IsMarkedAt count marks p n = slice_index_or marks (n * count + p) 0 ≡ 1

-- these are the nodes of which a cell is marked
pub record AreMarked (count : ℕ) (marks nodes : List ℕ) : Type 0 where
  pub all : (p n : ℕ) → p < count → IsMarkedAt count marks p n → mem n nodes ≡ true
  pub alone : (n : ℕ) → mem n nodes ≡ true → (p : ℕ) × (p < count) × IsMarkedAt count marks p n
