-- What edits of attributes and of names make of a tree.
use Rattle.std.specs.Prelude.{ℕ, List, [], Option, None, Some, unwrap_or}
use Rattle.doc_table.specs.Table.{Name, Table}
use Rattle.doc_edits.specs.Changes.{gained, removed, renamed, said}
pub use Rattle.doc_edits.specs.Keeping.{NamesGrow}
use Rattle.doc_tree.specs.NameTests.{attribute_meant}
use Rattle.doc_tree.specs.Scope.{namespace_at, namespace_or_none}

-- the name of an attribute, by the declarations in scope at its element (Namespaces in XML 1.0, section 6.2)
abbrev pub attribute_name_at : Table → ℕ → List ℕ → List ℕ → Name
attribute_name_at T n prefix local = record { prefix = prefix; local = local; uri = namespace_or_none T n prefix }

-- an attribute that is there gets the value, and another comes as the last one
abbrev pub with_value : Table → ℕ → Name → Option ℕ → List ℕ → Table
with_value T n name (Some a) value = said T a value
with_value T n name None value = gained T n name value

-- the attribute that a QName means is set; one that is there keeps its prefix
abbrev pub attribute_set : Table → ℕ → List ℕ → List ℕ → List ℕ → Table
attribute_set T n prefix local value =
    with_value T n (attribute_name_at T n prefix local) (attribute_meant T n prefix local) value

-- an attribute is gone, where it was there
abbrev pub without_attribute : Table → Option ℕ → Table
without_attribute T None = T
without_attribute T (Some a) = removed T a

-- the attribute that a QName means is gone
abbrev pub attribute_unset : Table → ℕ → List ℕ → List ℕ → Table
attribute_unset T n prefix local = without_attribute T (attribute_meant T n prefix local)

-- the name of an element, by the declarations in scope at it, its own among them (Namespaces in XML 1.0, section 6.2)
abbrev pub element_name_at : Table → ℕ → List ℕ → List ℕ → Name
element_name_at T n prefix local = record { prefix = prefix; local = local; uri = unwrap_or (namespace_at T n prefix) [] }

-- an element has the name that a QName is at it
abbrev pub element_renamed : Table → ℕ → List ℕ → List ℕ → Table
element_renamed T n prefix local = renamed T n (element_name_at T n prefix local)

-- an attribute has another name, where it was there
abbrev pub with_other_name : Table → Option ℕ → Name → Table
with_other_name T None name = T
with_other_name T (Some a) name = renamed T a name

-- the attribute that one QName means has the name that another is
abbrev pub attribute_renamed : Table → ℕ → List ℕ → List ℕ → List ℕ → List ℕ → Table
attribute_renamed T n old_prefix old_local prefix local =
    with_other_name T (attribute_meant T n old_prefix old_local) (attribute_name_at T n prefix local)
