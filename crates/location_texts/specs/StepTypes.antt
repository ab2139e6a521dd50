-- The steps of locations as typed steps of a path (XPath 1.0, sections 2.1 and 2.4).
use Rattle.std.specs.Prelude.{ℕ, pos, List, [], ◌∷◌}
use Rattle.doc_tree.specs.declared.axes.Axis.TheVariants as axes
use Rattle.doc_tree.specs.declared.axes.NodeTest.{NodeTest}
use Rattle.doc_tree.specs.declared.axes.NodeTest.TheVariants as tests
use Rattle.xp_tree.specs.declared.operators.Comparison.TheVariants as comparisons
use Rattle.xp_typed_tree.specs.declared.function.Function.{Function}
use Rattle.xp_typed_tree.specs.declared.function.Function.TheVariants as functions
use Rattle.xp_typed_tree.specs.TypedTree.{TypedTree, TypedSteps, conjunction, comparison, text, whole, application, no_more_steps, typed_step, no_comparands, comparand, no_typed, typed}
use Rattle.location_texts.specs.LocationSteps.{KidKind, elements, texts, comments, instructions, LocationStep, to_kid, to_attribute}

-- the node test of a kind
abbrev pub kind_test : KidKind → NodeTest
kind_test elements = tests.Star
kind_test texts = tests.Text
kind_test comments = tests.Comment
kind_test instructions = tests.Pi

-- what a function of the context node gives is this text
abbrev pub equation : Function → List ℕ → TypedTree
equation f value = comparison (application f no_typed) (comparand comparisons.Eq (text value) no_comparands)

-- the context node has this expanded name
abbrev pub is_named : List ℕ → List ℕ → TypedTree
is_named local uri = conjunction (typed (equation functions.LocalName local) (typed (equation functions.NamespaceUri uri) no_typed))

-- an attribute by its name alone, where it has no namespace
abbrev pub attribute_typed : List ℕ → List ℕ → TypedSteps → TypedSteps
attribute_typed local [] rest = typed_step axes.Attribute (tests.Named [] local) no_typed rest
attribute_typed local (b ∷ uri) rest = typed_step axes.Attribute tests.Star (typed (is_named local (b ∷ uri)) no_typed) rest

-- a step, with those after it
abbrev pub typed_by : LocationStep → TypedSteps → TypedSteps
typed_by (to_kid kind place) rest = typed_step axes.Child (kind_test kind) (typed (whole (pos place)) no_typed) rest
typed_by (to_attribute local uri) rest = attribute_typed local uri rest

abbrev pub typed_steps : List LocationStep → TypedSteps
typed_steps [] = no_more_steps
typed_steps (s ∷ ss) = typed_by s (typed_steps ss)
