-- What a file of watched expressions says. A line that isn't empty is `ns PREFIX URI`, which binds a prefix for the lines behind it, or
-- `watch EXPR`, an expression (XPath 1.0, section 3); URI and EXPR are all that follows the space.
use Rattle.std.specs.Prelude.{◌≡◌, ℕ, suc, Bool, false, ◌&&◌, ◌||◌, not, nat_le, nat_lt, if◌then◌else◌, codes, List, [], ◌∷◌, ◌++◌, length, Option, None, Some, is_none, Result, Ok, Err}
use Rattle.std.specs.Bool.{MatchBool}
use Rattle.std.specs.List.{list_any, before_first, after_first}
use Rattle.std.specs.Str.{bytes_eq}
use Rattle.sch_base.specs.Lists.{is_nil}
use Rattle.sch_base.specs.Named.{named}
use Rattle.sch_base.specs.Names.{is_ncname}
use Rattle.sch_base.specs.declared.limits.TheConstants.{MAX_EXPRESSION_BYTES, MAX_NESTING}
use Rattle.pyx_core.specs.LineTable.{is_space}
use Rattle.pyx_core.specs.Nesting.{of_chars}
use Rattle.doc_tree.specs.Scope.{xml_namespace, xml_prefix, xmlns_prefix}
use Rattle.edit_script.specs.Script.{lines_of}
use Rattle.xp_tree.specs.Tree.{Tree}
use Rattle.xp_typed_tree.specs.TypedTree.{TypedTree}
use Rattle.xp_syntax.specs.Syntax.{Spells, IsSyntaxFault}
use Rattle.xp_types.specs.Scope.{Binding, Scope, bound}
use Rattle.xp_types.specs.HasType.{HasType}
use Rattle.xp_types.specs.TypeFaults.{IsFirstTypeFault}
use Rattle.watch_lines.specs.declared.fault.WatchFault.{WatchFault}
use Rattle.watch_lines.specs.declared.fault.WatchKind.{WatchKind}
use Rattle.watch_lines.specs.declared.fault.WatchKind.TheVariants.{BadChar, BadWord, BadPrefix, TooLong, TooMany, Syntax, Types}
use Rattle.watch_lines.specs.declared.reading.LineWord.{LineWord}
use Rattle.watch_lines.specs.declared.reading.LineWord.TheVariants.{Namespace, Expression}
use Rattle.watch_lines.specs.declared.reading.TheConstants.{MAX_WATCHES}

-- what a line says: a prefix with its namespace, or an expression
pub data Said : Type 0 where
  binds : Binding → Said
  watches : TypedTree → Said

-- an expression that is read: its typed tree where these prefixes are bound, or its first fault of types
abbrev pub TypesTree : Scope → Tree → Result TypedTree WatchKind → Type 0
TypesTree S e (Ok t) = HasType S e t
TypesTree S e (Err (Types f)) = IsFirstTypeFault S e f
TypesTree S e (Err other) = ⊥

-- an expression by its text: that of the tree that the text spells, or the text's first fault
abbrev pub JudgesText : Scope → List ℕ → Result TypedTree WatchKind → Type 0
JudgesText S text (Err (Syntax f)) = IsSyntaxFault MAX_NESTING text f.kind f.offset
JudgesText S text judged = (e : Tree) × Spells MAX_NESTING text e × TypesTree S e judged

-- the same as what a line says
abbrev pub ExpressionSays : Scope → List ℕ → Result Said WatchKind → Type 0
ExpressionSays S text (Ok (watches t)) = JudgesText S text (Ok t)
ExpressionSays S text (Ok (binds b)) = ⊥
ExpressionSays S text (Err kind) = JudgesText S text (Err kind)

-- `watch EXPR`, behind so many expressions
abbrev pub WatchSays : Scope → ℕ → List ℕ → Result Said WatchKind → Type 0
WatchSays S count text said =
    MatchBool (nat_lt MAX_EXPRESSION_BYTES (length text)) (said ≡ Err TooLong)
    (MatchBool (nat_le MAX_WATCHES count) (said ≡ Err TooMany) (ExpressionSays S text said))

-- whether a prefix may be bound to a namespace, behind these: an NCName but `xmlns`, or `xml` to its own namespace (Namespaces in
-- XML 1.0, section 3), and once
abbrev pub may_bind : List Binding → List ℕ → List ℕ → Bool
may_bind bindings prefix uri =
    is_ncname prefix && (not (bytes_eq prefix xmlns_prefix) && ((not (bytes_eq prefix xml_prefix) || bytes_eq uri xml_namespace)
    && (is_none (bound bindings prefix) && not (is_nil uri))))

-- `ns PREFIX URI`
abbrev pub binding_said : List Binding → List ℕ → List ℕ → Result Said WatchKind
binding_said bindings prefix uri =
    if may_bind bindings prefix uri then Ok (binds (record { prefix = prefix; uri = uri })) else Err BadPrefix

-- what stands behind `ns `: the prefix in front of the next space, and the namespace behind it
abbrev pub namespace_said : List Binding → List ℕ → Result Said WatchKind
namespace_said bindings text =
    if list_any is_space text then binding_said bindings (before_first is_space text) (after_first is_space text) else Err BadWord

-- the words with which lines begin
abbrev pub line_words : List (List ℕ × LineWord)
line_words = (codes "ns", Namespace) ∷ (codes "watch", Expression) ∷ []

unfoldable pub word_of : List ℕ → Option LineWord
word_of word = named line_words word

-- what a line says by its word and what stands behind the space after it
abbrev pub WordSays : Scope → ℕ → Option LineWord → List ℕ → Result Said WatchKind → Type 0
WordSays S count (Some Namespace) text said = said ≡ namespace_said S.prefixes text
WordSays S count (Some Expression) text said = WatchSays S count text said
WordSays S count None text said = said ≡ Err BadWord

abbrev pub SpacedSays : Scope → ℕ → List ℕ → Result Said WatchKind → Type 0
SpacedSays S count line said =
    MatchBool (list_any is_space line) (WordSays S count (word_of (before_first is_space line)) (after_first is_space line) said) (said ≡ Err BadWord)

-- what a line says that isn't empty, or its first fault; it is UTF-8 and made of Chars (XML 1.0, section 2.2)
abbrev pub LineSays : Scope → ℕ → List ℕ → Result Said WatchKind → Type 0
LineSays S count line said = MatchBool (of_chars line) (SpacedSays S count line said) (said ≡ Err BadChar)

-- the scope behind a line
abbrev pub scope_after : Scope → Said → Scope
scope_after S (binds b) = record S { prefixes = S.prefixes ++ b ∷ [] }
scope_after S (watches t) = S

-- the expressions behind a line
abbrev pub list_after : List TypedTree → Said → List TypedTree
list_after before (binds b) = before
list_after before (watches t) = before ++ t ∷ []

-- what comes of what a line with a number says: its fault, or what the lines behind it give
abbrev pub GoesOn : Scope → List TypedTree → ℕ → (Scope → List TypedTree → Type 0) → Result (List TypedTree) WatchFault →
    Result Said WatchKind → Type 0
GoesOn S before number next given (Err what) = given ≡ Err (record { line = number; kind = what })
GoesOn S before number next given (Ok said) = next (scope_after S said) (list_after before said)

-- what the lines from the one with a number on give, behind some expressions: with them all that these lines say, in order, or the
-- first fault of the first bad line; empty lines are skipped
abbrev pub LinesGive : Scope → List TypedTree → ℕ → List (List ℕ) → Result (List TypedTree) WatchFault → Type 0
LinesGive S before number [] given = given ≡ Ok before
LinesGive S before number (line ∷ lines) given =
    MatchBool (is_nil line) (LinesGive S before (suc number) lines given)
    ((said : Result Said WatchKind) × LineSays S (length before) line said
    × GoesOn S before number (λ S' before'. LinesGive S' before' (suc number) lines given) given said)

-- no prefix but `xml`, and no variable
abbrev pub plain_scope : Scope
plain_scope = record { in_pattern = false; prefixes = []; variables = [] }

-- the expressions of a file, or its first fault
abbrev pub WatchesAre : List ℕ → Result (List TypedTree) WatchFault → Type 0
WatchesAre bytes given = LinesGive plain_scope [] 1 (lines_of bytes) given
