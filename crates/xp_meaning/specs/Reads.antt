-- What evaluation reads of nodes: the cells that a step looks at, and the string-values that conversions take.
use Rattle.std.specs.Prelude.{ℕ, Bool, true, false, List, [], ◌∷◌, map, length, Option, None, Some, if◌then◌else◌}
use Rattle.doc_tree.specs.cell.Cell.{Cell}
use Rattle.doc_tree.specs.cell.Cell.TheVariants.{Kids, Shape, Attrs, Value, Text, Name}
use Rattle.doc_tree.specs.declared.axes.Axis.{Axis}
use Rattle.doc_tree.specs.declared.axes.Axis.TheVariants.{Ancestor, AncestorOrSelf, Attribute, Child, Descendant, DescendantOrSelf, Following, FollowingSibling, Parent, Preceding, PrecedingSibling, SelfNode}
use Rattle.doc_tree.specs.declared.axes.NodeTest.{NodeTest}
use Rattle.doc_tree.specs.declared.axes.NodeTest.TheVariants.{Any, Star, InNamespace, Named, Text as TextTest, Comment, Pi, PiNamed}
use Rattle.doc_tree.specs.Table.{Table, kind_of, parent_of}
use Rattle.doc_tree.specs.Kinds.{has_own_name, holds_kids, is_element}
use Rattle.doc_axes.specs.Axes.{is_attribute}
use Rattle.xp_outcome.specs.Evaluation.{Read, cell, names_along, Evaluation, all_reading, visits}

-- a cell, where the node's kind has it
abbrev pub read_if : Bool → Cell → List Read
read_if has c = if has then cell c ∷ [] else []

-- the list of kids in which a node stands
abbrev pub kids_of_parent : Option ℕ → List Read
kids_of_parent None = []
kids_of_parent (Some p) = cell (Kids p) ∷ []

-- an attribute stands in no list of kids
abbrev pub sibling_reads : Table → ℕ → List Read
sibling_reads T n = if is_attribute T n then [] else kids_of_parent (parent_of T n)

-- what a step along an axis from a node reads (axes: XPath 1.0, section 2.2)
abbrev pub axis_reads : Table → Axis → ℕ → List Read
axis_reads T Ancestor n = []
axis_reads T AncestorOrSelf n = []
axis_reads T Attribute n = read_if (is_element (kind_of T n)) (Attrs n)
axis_reads T Child n = read_if (holds_kids (kind_of T n)) (Kids n)
axis_reads T Descendant n = read_if (holds_kids (kind_of T n)) (Shape n)
axis_reads T DescendantOrSelf n = read_if (holds_kids (kind_of T n)) (Shape n)
axis_reads T Following n = cell (Shape 0) ∷ []
axis_reads T FollowingSibling n = sibling_reads T n
axis_reads T Parent n = []
axis_reads T Preceding n = cell (Shape 0) ∷ []
axis_reads T PrecedingSibling n = sibling_reads T n
axis_reads T SelfNode n = []

-- whether a test looks at names, which are cells; the target of an instruction is none (section 2.3)
abbrev pub is_by_name : NodeTest → Bool
is_by_name Any = false
is_by_name Star = false
is_by_name (InNamespace uri) = true
is_by_name (Named uri local) = true
is_by_name TextTest = false
is_by_name Comment = false
is_by_name Pi = false
is_by_name (PiNamed target) = false

-- a test that looks at names reads those along the step's axis
abbrev pub names_tested : Axis → NodeTest → ℕ → List Read
names_tested axis node_test n = if is_by_name node_test then names_along axis n ∷ [] else []

-- the name of a node, where there is one whose kind has a name
abbrev pub name_read : Table → Option ℕ → List Read
name_read T None = []
name_read T (Some n) = read_if (has_own_name (kind_of T n)) (Name n)

-- where a string-value is read (XPath 1.0, section 5): of the root and elements in Text, of the other kinds in Value
abbrev pub text_read : Table → ℕ → Read
text_read T n = cell (if holds_kids (kind_of T n) then Text n else Value n)

-- the string-values of some nodes are taken, with one visit each, and then the rest
unfoldable pub taking : {F A : Type 0} → Table → List ℕ → Evaluation F A → Evaluation F A
taking T ns m = all_reading (map (text_read T) ns) (visits (length ns) m)
