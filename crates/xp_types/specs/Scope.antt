-- What is in scope where an expression stands: XPath 1.0, section 1.
use Rattle.std.specs.Prelude.{ℕ, Bool, List, [], ◌∷◌, Option, None, Some, if◌then◌else◌}
use Rattle.std.specs.Str.{bytes_eq}
use Rattle.doc_tree.specs.Scope.{xml_prefix, xml_namespace}
use Rattle.xp_typed_tree.specs.declared.value_type.ValueType.{ValueType}
use Rattle.xp_types.specs.declared.env.Variable.{Variable}

-- a prefix and the namespace that it stands for
pub record Binding : Type 0 where
  pub prefix : List ℕ
  pub uri : List ℕ

-- a variable: its name, the slot of its value, the type of that
pub record Named : Type 0 where
  pub name : List ℕ
  pub place : ℕ
  pub type : ValueType

pub record Scope : Type 0 where
  pub in_pattern : Bool
  pub prefixes : List Binding
  pub variables : List Named

-- the namespace to which a prefix is bound
abbrev pub bound : List Binding → List ℕ → Option (List ℕ)
bound [] prefix = None
bound (b ∷ bs) prefix = if bytes_eq prefix b.prefix then Some b.uri else bound bs prefix

-- the namespace of a prefix; `xml` is always bound: Namespaces in XML 1.0, section 3
abbrev pub namespace_of : Scope → List ℕ → Option (List ℕ)
namespace_of S prefix = if bytes_eq prefix xml_prefix then Some xml_namespace else bound S.prefixes prefix

-- the slot and the type of a variable
abbrev pub variable_of : List Named → List ℕ → Option Variable
variable_of [] name = None
variable_of (v ∷ vs) name = if bytes_eq name v.name then Some (record { slot = v.place; ty = v.type }) else variable_of vs name
