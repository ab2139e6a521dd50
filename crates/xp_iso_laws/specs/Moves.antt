-- What evaluation gives where the nodes of a tree are renumbered (XPath 1.0, sections 2 to 4).
use Rattle.std.specs.Prelude.{◌≡◌, ℕ, Bool, map}
use Rattle.doc_tree.specs.declared.axes.Axis.{Axis}
use Rattle.doc_tree.specs.declared.axes.NodeTest.{NodeTest}
use Rattle.doc_tree.specs.Laws.{WellFormed}
use Rattle.doc_tree.specs.Table.{Table}
use Rattle.tree_iso.specs.Renumbering.{Renumbers}
use Rattle.xp_typed_tree.specs.TypedTree.{TypedTree, TypedTrees}
use Rattle.xp_outcome.specs.Cells.{cells_of}
use Rattle.xp_outcome.specs.Evaluation.{Evaluation, Read}
use Rattle.xp_meaning.specs.declared.context.Context.{Context}
use Rattle.xp_meaning.specs.Evaluation.{Lets, all_true, meaning, meanings}
use Rattle.xp_meaning.specs.Paths.{step_at}
use Rattle.xp_iso_laws.specs.Moved.{answer_with, moved_cell, moved_context, moved_lets, moved_read, moved_value}

-- an evaluation is another with the numbers of nodes changed: its answer, what it reads, and at the same cost
pub record Moves (f : ℕ → ℕ) {F A B : Type 0} (change : A → B) (before : Evaluation F A) (after : Evaluation F B) : Type 0 where
  pub answer : after.answer ≡ answer_with change before.answer
  pub reads : after.reads ≡ map (moved_read f) before.reads
  pub work : after.work ≡ before.work

abbrev pub ExpressionsMove : Type 0
ExpressionsMove =
    (f : ℕ → ℕ) (T U : Table) (L : Lets) (t : TypedTree) (c : Context) → WellFormed T → WellFormed U → Renumbers f T U →
    Moves f (moved_value f) (meaning T L t c) (meaning U (moved_lets f L) t (moved_context f c))

-- the same of a step at a node
abbrev pub StepsMove : Type 0
StepsMove =
    (f : ℕ → ℕ) (T U : Table) (L : Lets) (axis : Axis) (node_test : NodeTest) (predicates : TypedTrees) (current n : ℕ) →
    WellFormed T → WellFormed U → Renumbers f T U →
    Moves f (map f) (step_at T (record { axis = axis; test = node_test; predicates = meanings T L predicates }) current n)
    (step_at U (record { axis = axis; test = node_test; predicates = meanings U (moved_lets f L) predicates }) (f current) (f n))

-- and of predicates that are all to be true
abbrev pub PredicatesMove : Type 0
PredicatesMove =
    (f : ℕ → ℕ) (T U : Table) (L : Lets) (predicates : TypedTrees) (c : Context) → WellFormed T → WellFormed U → Renumbers f T U →
    Moves f {A = Bool} (λ truth. truth) (all_true (meanings T L predicates) c) (all_true (meanings U (moved_lets f L) predicates) (moved_context f c))

-- the cells that a read stands for are moved with it
abbrev pub CellsMove : Type 0
CellsMove =
    (f : ℕ → ℕ) (T U : Table) (x : Read) → WellFormed T → WellFormed U → Renumbers f T U →
    cells_of U (moved_read f x) ≡ map (moved_cell f) (cells_of T x)
