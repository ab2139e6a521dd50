-- The words of the grammar are names: XPath 1.0, sections 2 and 3.7.
use Rattle.std.proofs.Common.{◌≡◌, ℕ, true, List, codes, Some, refl}
use Rattle.std.specs.Str.{chars, is_utf8}
use Rattle.std.specs.Char.{encode_utf8}
use Rattle.std.proofs.lemmas.Str.{IsUtf8-from_is_utf8}
use Rattle.sch_base.specs.Characters.{is_name_start, is_name_char}
use Rattle.sch_base.specs.Names.{is_ncname}
use Rattle.xp_tree.specs.declared.terms.AxisName.{AxisName}
use Rattle.xp_tree.specs.declared.terms.AxisName.TheVariants as axes
use Rattle.xp_grammar.specs.declared.token.NodeType.{NodeType}
use Rattle.xp_grammar.specs.declared.token.NodeType.TheVariants as node_type
use Rattle.xp_lexicon.specs.Lexicon.{node_types, IsNcname}
use Rattle.sch_base.specs.Named.{named}
use Rattle.xp_tree.specs.AxisNames.{axis_names}
use Rattle.xp_tree.specs.AxisNames.{axis_text}

pub word : (bytes : List ℕ) → is_utf8 bytes ≡ true → is_ncname bytes ≡ true → IsNcname bytes
word bytes utf8 name = record { utf8 = IsUtf8-from_is_utf8 bytes utf8; name = name }

pub axis-is-name : (a : AxisName) → IsNcname (axis_text a)
unfolding chars is_utf8 encode_utf8 is_name_char is_name_start
axis-is-name axes.Ancestor = word (codes "ancestor") refl refl
axis-is-name axes.AncestorOrSelf = word (codes "ancestor-or-self") refl refl
axis-is-name axes.Attribute = word (codes "attribute") refl refl
axis-is-name axes.Child = word (codes "child") refl refl
axis-is-name axes.Descendant = word (codes "descendant") refl refl
axis-is-name axes.DescendantOrSelf = word (codes "descendant-or-self") refl refl
axis-is-name axes.Following = word (codes "following") refl refl
axis-is-name axes.FollowingSibling = word (codes "following-sibling") refl refl
axis-is-name axes.Namespace = word (codes "namespace") refl refl
axis-is-name axes.Parent = word (codes "parent") refl refl
axis-is-name axes.Preceding = word (codes "preceding") refl refl
axis-is-name axes.PrecedingSibling = word (codes "preceding-sibling") refl refl
axis-is-name axes.SelfNode = word (codes "self") refl refl

pub axis-named : (a : AxisName) → named axis_names (axis_text a) ≡ Some a
axis-named axes.Ancestor = refl
axis-named axes.AncestorOrSelf = refl
axis-named axes.Attribute = refl
axis-named axes.Child = refl
axis-named axes.Descendant = refl
axis-named axes.DescendantOrSelf = refl
axis-named axes.Following = refl
axis-named axes.FollowingSibling = refl
axis-named axes.Namespace = refl
axis-named axes.Parent = refl
axis-named axes.Preceding = refl
axis-named axes.PrecedingSibling = refl
axis-named axes.SelfNode = refl

-- the word of a node type
abbrev pub type_text : NodeType → List ℕ
type_text node_type.Comment = codes "comment"
type_text node_type.Chars = codes "text"
type_text node_type.Pi = codes "processing-instruction"
type_text node_type.Node = codes "node"

pub type-is-name : (k : NodeType) → IsNcname (type_text k)
unfolding chars is_utf8 encode_utf8 is_name_char is_name_start
type-is-name node_type.Comment = word (codes "comment") refl refl
type-is-name node_type.Chars = word (codes "text") refl refl
type-is-name node_type.Pi = word (codes "processing-instruction") refl refl
type-is-name node_type.Node = word (codes "node") refl refl

pub type-named : (k : NodeType) → named node_types (type_text k) ≡ Some k
type-named node_type.Comment = refl
type-named node_type.Chars = refl
type-named node_type.Pi = refl
type-named node_type.Node = refl

pub or-is-name : IsNcname (codes "or")
unfolding chars is_utf8 encode_utf8 is_name_char is_name_start
or-is-name = word (codes "or") refl refl

pub and-is-name : IsNcname (codes "and")
unfolding chars is_utf8 encode_utf8 is_name_char is_name_start
and-is-name = word (codes "and") refl refl

pub div-is-name : IsNcname (codes "div")
unfolding chars is_utf8 encode_utf8 is_name_char is_name_start
div-is-name = word (codes "div") refl refl

pub mod-is-name : IsNcname (codes "mod")
unfolding chars is_utf8 encode_utf8 is_name_char is_name_start
mod-is-name = word (codes "mod") refl refl
