-- Match patterns without places in memory: XSLT 1.0, section 5.2.
use Rattle.std.specs.Prelude.{ℕ, Bool, List, map}
use Rattle.xp_tree.specs.declared.terms.StepTest.{StepTest}
use Rattle.xp_tree.specs.declared.pattern.Join.{Join}
use Rattle.xp_tree.specs.declared.pattern.Pattern.{Pattern}
use Rattle.xp_tree.specs.declared.pattern.PathPattern.{PathPattern}
use Rattle.xp_tree.specs.declared.pattern.PatternStart.{PatternStart}
use Rattle.xp_tree.specs.declared.pattern.PatternStep.{PatternStep}
use Rattle.xp_tree.specs.Tree.{Trees}
use Rattle.xp_tree.specs.View.{trees_seen}

-- a step of a path pattern, with what stands before it
pub record StepTree : Type 0 where
  pub join : Join
  pub offset : ℕ
  pub is_attribute : Bool
  pub test : StepTest
  pub test_offset : ℕ
  pub predicates : Trees

-- a path pattern
pub record PathTree : Type 0 where
  pub offset : ℕ
  pub start : PatternStart
  pub steps : List StepTree

abbrev pub pattern_step_of : PatternStep → StepTree
pattern_step_of s = record {
  join = s.join;
  offset = s.offset;
  is_attribute = s.is_attribute;
  test = s.test;
  test_offset = s.test_offset;
  predicates = trees_seen s.predicates.items;
}

abbrev pub path_pattern_of : PathPattern → PathTree
path_pattern_of p = record { offset = p.offset; start = p.start; steps = map pattern_step_of p.steps.items }

-- the path patterns that a pattern joins by `|`
abbrev pub pattern_of : Pattern → List PathTree
pattern_of p = map path_pattern_of p.paths.items
