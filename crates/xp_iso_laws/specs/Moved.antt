-- Values, contexts, lets and reads with the numbers of nodes changed.
use Rattle.std.specs.Prelude.{ℕ, map, Result, Ok, Err, option_map}
use Rattle.doc_tree.specs.cell.Cell.{Cell}
use Rattle.doc_tree.specs.cell.Cell.TheVariants as cells
use Rattle.xp_outcome.specs.Evaluation.{Read, cell, names_along, variable}
use Rattle.xp_values.specs.declared.values.EvalFault.{EvalFault}
use Rattle.xp_values.specs.declared.values.Value.{Value}
use Rattle.xp_values.specs.declared.values.Value.TheVariants.{NodeSet, Truth, Number, Chars}
use Rattle.xp_meaning.specs.declared.context.Context.{Context}
use Rattle.xp_meaning.specs.Evaluation.{Lets}

-- an answer, changed; a fault as it is
abbrev pub answer_with : {F A B : Type 0} → (A → B) → Result A F → Result B F
answer_with change (Ok v) = Ok (change v)
answer_with change (Err fault) = Err fault

abbrev pub moved_value : (ℕ → ℕ) → Value → Value
moved_value f (NodeSet nodes) = NodeSet (map f nodes)
moved_value f (Truth truth) = Truth truth
moved_value f (Number number) = Number number
moved_value f (Chars text) = Chars text

abbrev pub moved_cell : (ℕ → ℕ) → Cell → Cell
moved_cell f (cells.Kids n) = cells.Kids (f n)
moved_cell f (cells.Shape n) = cells.Shape (f n)
moved_cell f (cells.Attrs n) = cells.Attrs (f n)
moved_cell f (cells.Value n) = cells.Value (f n)
moved_cell f (cells.Text n) = cells.Text (f n)
moved_cell f (cells.Name n) = cells.Name (f n)

abbrev pub moved_read : (ℕ → ℕ) → Read → Read
moved_read f (cell c) = cell (moved_cell f c)
moved_read f (names_along axis n) = names_along axis (f n)
moved_read f (variable slot) = variable slot

abbrev pub moved_context : (ℕ → ℕ) → Context → Context
moved_context f c = record { node = f c.node; position = c.position; size = c.size; current = f c.current }

-- the value or fault of a let
abbrev pub moved_outcome : (ℕ → ℕ) → Result Value EvalFault → Result Value EvalFault
moved_outcome f outcome = answer_with (moved_value f) outcome

abbrev pub moved_lets : (ℕ → ℕ) → Lets → Lets
moved_lets f L = map (option_map (moved_outcome f)) L
