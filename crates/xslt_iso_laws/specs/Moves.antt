-- Whether nodes match where the nodes of a tree are renumbered (XSLT 1.0, section 5.2).
use Rattle.std.specs.Prelude.{ℕ, Bool, List}
use Rattle.doc_tree.specs.Laws.{WellFormed}
use Rattle.doc_tree.specs.Table.{Table}
use Rattle.tree_iso.specs.Renumbering.{Renumbers}
use Rattle.xp_typed_tree.specs.TypedTree.{TypedPathTree}
use Rattle.xp_meaning.specs.Evaluation.{Lets}
use Rattle.xp_iso_laws.specs.Moved.{moved_lets}
use Rattle.xp_iso_laws.specs.Moves.{Moves}
use Rattle.xslt_match.specs.Matching.{matching}

-- a node matches a pattern just where the one to which it goes does, by the same reads and at the same cost
abbrev pub PatternsMove : Type 0
PatternsMove =
    (f : ℕ → ℕ) (T U : Table) (L : Lets) (ps : List TypedPathTree) (n : ℕ) → WellFormed T → WellFormed U → Renumbers f T U →
    Moves f {A = Bool} (λ truth. truth) (matching T L ps n) (matching U (moved_lets f L) ps (f n))
