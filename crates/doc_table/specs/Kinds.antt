-- Tests of kinds, which fail where no node lives.
use Rattle.std.specs.Prelude.{◌≡◌, ℕ, ◌==◌, Bool, true, false, ◌&&◌, Option, None, Some, count_by}
use Rattle.doc_table.specs.declared.kind.Kind.{Kind}
use Rattle.doc_table.specs.declared.kind.Kind.TheVariants.{Root, Element, Attribute, Text, Comment, Pi}
use Rattle.doc_table.specs.Table.{Table, Name, kids_of, kind_of, name_of}

-- whether there is a kind, and it is this one
abbrev pub is_kind : Kind → Option Kind → Bool
is_kind kind None = false
is_kind Root (Some Root) = true
is_kind Element (Some Element) = true
is_kind Attribute (Some Attribute) = true
is_kind Text (Some Text) = true
is_kind Comment (Some Comment) = true
is_kind Pi (Some Pi) = true
is_kind kind (Some other) = false

abbrev pub is_element : Option Kind → Bool
is_element kind = is_kind Element kind

abbrev pub is_text : Option Kind → Bool
is_text kind = is_kind Text kind

-- whether the kind is one that has kids: the root and elements
abbrev pub holds_kids : Option Kind → Bool
holds_kids (Some Root) = true
holds_kids (Some Element) = true
holds_kids kind = false

-- whether a node of the kind can be a kid: neither the root nor an attribute
abbrev pub can_be_kid : Option Kind → Bool
can_be_kid None = false
can_be_kid (Some Root) = false
can_be_kid (Some Attribute) = false
can_be_kid (Some kind) = true

-- whether a node of the kind has a name that an edit may change: an element's or an attribute's, and no instruction's target
abbrev pub has_own_name : Option Kind → Bool
has_own_name None = false
has_own_name (Some Root) = false
has_own_name (Some Element) = true
has_own_name (Some Attribute) = true
has_own_name (Some Text) = false
has_own_name (Some Comment) = false
has_own_name (Some Pi) = false

-- whether the root has exactly one element kid and no text kid
abbrev pub is_document : Table → Bool
is_document T =
    (count_by (λ k. is_element (kind_of T k)) (kids_of T 0) == 1) && (count_by (λ k. is_text (kind_of T k)) (kids_of T 0) == 0)

-- a node is an element with this name
pub record IsElementNamed (T : Table) (own : Name) (n : ℕ) : Type 0 where
  pub kind : kind_of T n ≡ Some Element
  pub name : name_of T n ≡ Some own
