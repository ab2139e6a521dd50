-- Paths that refuse nodes by their kinds and names alone, on the way to a pattern that does.
use Rattle.std.specs.Prelude.{◌≡◌, ℕ, Bool, true, false, not, List, Option, if◌then◌else◌}
use Rattle.doc_tree.specs.declared.axes.Axis.{Axis}
use Rattle.doc_tree.specs.declared.axes.NodeTest.{NodeTest}
use Rattle.doc_tree.specs.declared.axes.NodeTest.TheVariants.{PiNamed}
use Rattle.doc_tree.specs.kind.Kind.{Kind}
use Rattle.doc_tree.specs.Table.{Contents, Table}
use Rattle.doc_axes.specs.NodeTests.{is_principal}
use Rattle.xp_typed_tree.specs.TypedTree.{TypedPathTree}
use Rattle.xp_outcome.specs.Evaluation.{Evaluation, Read, done}
use Rattle.xp_outcome.specs.Recorded.{Recorded, note_all}
use Rattle.xp_values.specs.declared.values.EvalFault.{EvalFault}
use Rattle.xp_meaning.specs.Evaluation.{Lets}
use Rattle.xp_meaning.specs.Reads.{is_by_name}
use Rattle.xslt_match.specs.declared.refusing.NodeClass.{NodeClass}
use Rattle.xslt_match.specs.Matching.{path_matches, some_path}
use Rattle.xslt_match.specs.Names.{pattern_names, step_names}
use Rattle.xslt_match.specs.Refusing.{IsOfClass, names_up}

abbrev pub names_target : NodeTest → Bool
names_target (PiNamed target) = true
names_target _ = false

-- whether a test looks at nothing but the kind of nodes of a kind
abbrev pub looks_at_kind : Axis → NodeTest → Option Kind → Bool
looks_at_kind axis t kind = if is_by_name t then not (is_principal axis kind) else not (names_target t)

-- no chain is found to a node, and the names of so many nodes from it upwards are read for that
pub record IsRefused (T : Table) (n : ℕ) (reads : List Read) (matched : Evaluation EvalFault Bool) (levels : ℕ) : Type 0 where
  pub none : matched ≡ done false
  pub read : (held : Recorded) → note_all held reads ≡ note_all held (names_up T n levels)

-- a path refuses all nodes of the class of n
abbrev pub PathRefuses : Contents → TypedPathTree → ℕ → ℕ → Type 0
PathRefuses C p n levels =
    (L : Lets) (class : NodeClass) (m : ℕ) → IsOfClass C class n → IsOfClass C class m → IsRefused C.nodes m (step_names C.nodes m p.steps) (path_matches C.nodes L m p) levels

-- and so do some paths
abbrev pub PathsRefuse : Contents → List TypedPathTree → ℕ → ℕ → Type 0
PathsRefuse C ps n levels =
    (L : Lets) (class : NodeClass) (m : ℕ) → IsOfClass C class n → IsOfClass C class m → IsRefused C.nodes m (pattern_names C.nodes m ps) (some_path C.nodes L m ps) levels
