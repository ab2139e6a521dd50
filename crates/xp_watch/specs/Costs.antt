-- What it costs to evaluate watches.
use Rattle.std.specs.Prelude.{◌≡◌, ℕ, ◌+◌, ◌≤◌, Bool, false, List, sum_by, slice_get}
use Rattle.std.specs.List.{list_any}
use Rattle.std.specs.Option.{option_map_or}
use Rattle.std.specs.Result.{is_err}
use Rattle.doc_tree.specs.Table.{Table}
use Rattle.xp_typed_tree.specs.TypedTree.{TypedTree}
use Rattle.xp_watch.specs.Watched.{watched}

-- the visits of the evaluation of a watch
abbrev pub work_of : Table → List TypedTree → ℕ → ℕ
work_of T exprs k = option_map_or (λ expr. (watched T expr).work) (slice_get exprs k) 0

-- whether it meets a fault
abbrev pub has_fault : Table → List TypedTree → ℕ → Bool
has_fault T exprs k = option_map_or (λ expr. is_err (watched T expr).answer) (slice_get exprs k) false

-- the visits of all of some watches
abbrev pub cost_of : Table → List TypedTree → List ℕ → ℕ
cost_of T exprs watches = sum_by (work_of T exprs) watches

-- a count rose for the evaluation of watches: by their visits at most, and by exactly these where none of them meets a fault
pub record Raised (T : Table) (exprs : List TypedTree) (watches : List ℕ) (before after : ℕ) : Type 0 where
  pub at_most : after ≤ before + cost_of T exprs watches
  pub exactly : list_any (has_fault T exprs) watches ≡ false → after ≡ before + cost_of T exprs watches
