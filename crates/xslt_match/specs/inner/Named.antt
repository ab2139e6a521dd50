-- Paths that look at the names of elements alone, each step at one place.
use Rattle.std.specs.Prelude.{Bool, true, not, ◌&&◌, List, [], ◌∷◌, Some}
use Rattle.doc_tree.specs.kind.Kind.TheVariants as kinds
use Rattle.doc_axes.specs.NodeTests.{is_principal}
use Rattle.xp_typed_tree.specs.TypedTree.{TypedPatternStepTree}
use Rattle.xp_meaning.specs.Reads.{is_by_name}
use Rattle.xslt_ways.specs.Ways.{is_anywhere}

-- whether a step looks at the name of an element, and not after `//`
abbrev pub is_named : TypedPatternStepTree → Bool
is_named s = is_by_name s.test && (not (is_anywhere s.join) && is_principal s.axis (Some kinds.Element))

-- whether all of a path's steps do
abbrev pub all_named : List TypedPatternStepTree → Bool
all_named [] = true
all_named (s ∷ ss) = is_named s && all_named ss
