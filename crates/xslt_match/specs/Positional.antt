-- Predicates that ask for the position of a node (XPath 1.0, section 2.4; XSLT 1.0, section 5.2).
use Rattle.std.specs.Prelude.{Bool, true, false, ◌||◌}
use Rattle.xp_typed_tree.specs.declared.function.Function.{Function}
use Rattle.xp_typed_tree.specs.declared.function.Function.TheVariants as functions
use Rattle.xp_typed_tree.specs.declared.value_type.ValueType.{ValueType}
use Rattle.xp_typed_tree.specs.declared.value_type.ValueType.TheVariants as types
use Rattle.xp_typed_tree.specs.TypedTree.{TypedTree, TypedPlace, Comparands, Combinands, TypedTrees, disjunction, conjunction, comparison, arithmetic, negation, union, location, selection, slot, text, whole, application, at_root, at_context, at_nodes, no_comparands, comparand, no_combinands, combinand, no_typed, typed}
use Rattle.xp_typed_tree.specs.WellTyped.{type_of}

-- `last()` and `position()`
abbrev pub tells_position : Function → Bool
tells_position functions.Last = true
tells_position functions.Position = true
tells_position _ = false

abbrev pub is_number_type : ValueType → Bool
is_number_type types.Number = true
is_number_type _ = false

-- whether an expression calls `last()` or `position()`, the predicates of its parts left out
abbrev mutual
  pub asks_position : TypedTree → Bool
  asks_position (disjunction ts) = some_asks ts
  asks_position (conjunction ts) = some_asks ts
  asks_position (comparison first rest) = asks_position first || comparands_ask rest
  asks_position (arithmetic first rest) = asks_position first || combinands_ask rest
  asks_position (negation signs operand) = asks_position operand
  asks_position (union ts) = some_asks ts
  asks_position (location place steps) = place_asks place
  asks_position (selection base predicates) = asks_position base
  asks_position (slot place type) = false
  asks_position (text value) = false
  asks_position (whole value) = false
  asks_position (application f args) = tells_position f || some_asks args

  pub place_asks : TypedPlace → Bool
  place_asks at_root = false
  place_asks at_context = false
  place_asks (at_nodes base) = asks_position base

  pub comparands_ask : Comparands → Bool
  comparands_ask no_comparands = false
  comparands_ask (comparand operator operand rest) = asks_position operand || comparands_ask rest

  pub combinands_ask : Combinands → Bool
  combinands_ask no_combinands = false
  combinands_ask (combinand operator operand rest) = asks_position operand || combinands_ask rest

  pub some_asks : TypedTrees → Bool
  some_asks no_typed = false
  some_asks (typed t ts) = asks_position t || some_asks ts

-- a predicate is positional if its value is a number, which is compared with the position, or if it asks for it
abbrev pub is_positional : TypedTree → Bool
is_positional t = is_number_type (type_of t) || asks_position t

abbrev pub some_positional : TypedTrees → Bool
some_positional no_typed = false
some_positional (typed t ts) = is_positional t || some_positional ts
