-- A watched expression over a tree (XPath 1.0, section 1): what it gives at the root as the only context node, and what it reads.
use Rattle.std.specs.Prelude.{ℕ, Bool, false, List, [], filter, length}
use Rattle.std.specs.List.{range_with_len}
use Rattle.std.specs.Option.{option_map_or}
use Rattle.std.specs.Prelude.{slice_get}
use Rattle.doc_tree.specs.cell.Cell.{Cell}
use Rattle.doc_tree.specs.Table.{Table}
use Rattle.xp_typed_tree.specs.TypedTree.{TypedTree}
use Rattle.xp_outcome.specs.Evaluation.{Evaluation}
use Rattle.xp_outcome.specs.Recorded.{Recorded, note_all, nothing_read}
use Rattle.xp_values.specs.declared.values.EvalFault.{EvalFault}
use Rattle.xp_values.specs.declared.values.Value.{Value}
use Rattle.xp_meaning.specs.declared.context.Context.{Context}
use Rattle.xp_meaning.specs.Evaluation.{meaning}
use Rattle.cover_laws.specs.Covering.{holds_touched}

-- the root as the context node, at position 1 of 1, and as the current node
abbrev pub root_alone : Context
root_alone = record { node = 0; position = 1; size = 1; current = 0 }

-- the value of an expression at the root, or its first fault, without lets; what that reads, and its visits
abbrev pub watched : Table → TypedTree → Evaluation EvalFault Value
watched T expr = meaning T [] expr root_alone

-- the cells that it reads, and the names along axes
abbrev pub all_read : Table → TypedTree → Recorded
all_read T expr = note_all nothing_read (watched T expr).reads

-- an expression is dirty where a cell that it reads was touched, or a name along an axis
abbrev pub is_dirty : Table → (Cell → Bool) → TypedTree → Bool
is_dirty T touched expr = holds_touched T touched (all_read T expr)

-- the watches, by number from 0
abbrev pub watches_of : List TypedTree → List ℕ
watches_of exprs = range_with_len 0 (length exprs)

-- the dirty watches after an edit of a tree that touched some cells
abbrev pub dirty_watches : Table → (Cell → Bool) → List TypedTree → List ℕ
dirty_watches T touched exprs = filter (λ k. option_map_or (is_dirty T touched) (slice_get exprs k) false) (watches_of exprs)
