-- Node tests (XPath 1.0, section 2.3).
use Rattle.std.specs.Prelude.{ℕ, Bool, true, ◌&&◌, Option, bytes_eq}
use Rattle.doc_tree.specs.kind.Kind.{Kind}
use Rattle.doc_tree.specs.kind.Kind.TheVariants as kinds
use Rattle.doc_tree.specs.declared.axes.Axis.{Axis}
use Rattle.doc_tree.specs.declared.axes.Axis.TheVariants as axes
use Rattle.doc_tree.specs.declared.axes.NodeTest.{NodeTest}
use Rattle.doc_tree.specs.declared.axes.NodeTest.TheVariants.{Any, Star, InNamespace, Named, Text, Comment, Pi, PiNamed}
use Rattle.doc_tree.specs.Table.{Table, kind_of, name_of}
use Rattle.doc_tree.specs.Kinds.{is_kind, is_element, is_text}
pub use Rattle.doc_tree.specs.NameTests.{named}
use Rattle.doc_axes.specs.Axes.{is_attribute_kind}

-- whether the kind is the one that names test on the axis: attributes on the attribute axis, else elements
abbrev pub is_principal : Axis → Option Kind → Bool
is_principal axes.Attribute kind = is_attribute_kind kind
is_principal axis kind = is_element kind

abbrev pub is_comment : Option Kind → Bool
is_comment kind = is_kind kinds.Comment kind

abbrev pub is_instruction : Option Kind → Bool
is_instruction kind = is_kind kinds.Pi kind

-- whether a node on an axis passes a node test
abbrev pub passes : Table → Axis → NodeTest → ℕ → Bool
passes T axis Any n = true
passes T axis Star n = is_principal axis (kind_of T n)
passes T axis (InNamespace uri) n = is_principal axis (kind_of T n) && named (name_of T n) (λ name. bytes_eq name.uri uri)
passes T axis (Named uri local) n =
    is_principal axis (kind_of T n) && named (name_of T n) (λ name. bytes_eq name.uri uri && bytes_eq name.local local)
passes T axis Text n = is_text (kind_of T n)
passes T axis Comment n = is_comment (kind_of T n)
passes T axis Pi n = is_instruction (kind_of T n)
passes T axis (PiNamed target) n = is_instruction (kind_of T n) && named (name_of T n) (λ name. bytes_eq name.local target)
