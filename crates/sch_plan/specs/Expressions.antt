-- What comes of an expression (XPath 1.0, section 3) and of a match pattern (XSLT 1.0, section 5.2) at an element of a schema: the
-- typed tree, or the first broken rule.
use Rattle.std.specs.Prelude.{◌≡◌, ℕ, Bool, true, false, not, nat_lt, List, length, Ok, Err}
use Rattle.sch_base.specs.declared.limits.TheConstants.{MAX_EXPRESSION_BYTES, MAX_NESTING}
use Rattle.xp_tree.specs.Tree.{Tree}
use Rattle.xp_tree.specs.PatternTree.{PathTree}
use Rattle.xp_grammar.specs.declared.fault.SyntaxKind.{SyntaxKind}
use Rattle.xp_typed_tree.specs.declared.value_type.ValueType.{ValueType}
use Rattle.xp_typed_tree.specs.declared.value_type.ValueType.TheVariants as values
use Rattle.xp_typed_tree.specs.TypedTree.{TypedTree, TypedPathTree}
use Rattle.xp_typed_tree.specs.WellTyped.{type_of}
use Rattle.xp_syntax.specs.Syntax.{Spells, IsSyntaxFault, SpellsPattern, IsPatternFault}
use Rattle.xp_types.specs.declared.faults.TypeFault.{TypeFault}
use Rattle.xp_types.specs.Scope.{Scope}
use Rattle.xp_types.specs.HasType.{HasType}
use Rattle.xp_types.specs.TypeFaults.{IsFirstTypeFault}
use Rattle.xp_types.specs.PatternTypes.{PatternHasType}
use Rattle.xp_types.specs.PatternFaults.{IsFirstPatternTypeFault}
use Rattle.sch_plan.specs.Broken.{no_path, syntax_fault, too_long, type_fault}
use Rattle.sch_phases.specs.Walk.{Stretch, Then, Unless, goes}

abbrev pub is_too_long : List ℕ → Bool
is_too_long text = nat_lt MAX_EXPRESSION_BYTES (length text)

-- the tree that a text spells, or its first fault
abbrev pub spelled : ℕ → List ℕ → Stretch Tree
spelled node text (Ok e) = Spells MAX_NESTING text e
spelled node text (Err f) = (kind : SyntaxKind) × (offset : ℕ) × IsSyntaxFault MAX_NESTING text kind offset × (f ≡ syntax_fault node kind offset)

abbrev pub pattern_spelled : ℕ → List ℕ → Stretch (List PathTree)
pattern_spelled node text (Ok paths) = SpellsPattern MAX_NESTING text paths
pattern_spelled node text (Err f) = (kind : SyntaxKind) × (offset : ℕ) × IsPatternFault MAX_NESTING text kind offset × (f ≡ syntax_fault node kind offset)

-- the typed tree of a tree, or its first fault
abbrev pub typed_in : Scope → ℕ → Tree → Stretch TypedTree
typed_in S node e (Ok t) = HasType S e t
typed_in S node e (Err f) = (g : TypeFault) × IsFirstTypeFault S e g × (f ≡ type_fault node g)

abbrev pub pattern_typed_in : Scope → ℕ → List PathTree → Stretch (List TypedPathTree)
pattern_typed_in S node paths (Ok ts) = PatternHasType S paths ts
pattern_typed_in S node paths (Err f) = (g : TypeFault) × IsFirstPatternTypeFault S paths g × (f ≡ type_fault node g)

-- 24, then 25 to 31
abbrev pub short_expression : Scope → ℕ → List ℕ → Stretch TypedTree
short_expression S node text = Then (spelled node text) (typed_in S node)

abbrev pub short_pattern : Scope → ℕ → List ℕ → Stretch (List TypedPathTree)
short_pattern S node text = Then (pattern_spelled node text) (pattern_typed_in S node)

-- 23 before these
abbrev pub expression : Scope → ℕ → List ℕ → Stretch TypedTree
expression S node text = Unless (is_too_long text) (too_long node) (short_expression S node text)

abbrev pub match_pattern : Scope → ℕ → List ℕ → Stretch (List TypedPathTree)
match_pattern S node text = Unless (is_too_long text) (too_long node) (short_pattern S node text)

abbrev pub is_node_set : ValueType → Bool
is_node_set values.NodeSet = true
is_node_set _ = false

-- the path of a name is a node-set, and so is a subject
abbrev pub path : Scope → ℕ → List ℕ → Stretch TypedTree
path S node text = Then (expression S node text) (λ t. Unless (not (is_node_set (type_of t))) (no_path node) (goes t))
