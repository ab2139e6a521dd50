-- The attributes that declare namespaces, and the rules for them (Namespaces in XML 1.0, section 3).
use Rattle.std.specs.Prelude.{ℕ, ◌==◌, Bool, not, ◌&&◌, ◌||◌, List, [], Option, None, Some, is_none, if◌then◌else◌, codes}
use Rattle.std.specs.List.{flat_map, filter, list_any}
use Rattle.std.specs.Option.{option_to_list}
use Rattle.std.specs.Str.{bytes_eq}
use Rattle.sch_base.specs.Lists.{is_nil}
use Rattle.pyx_core.specs.declared.event.Attr.{Attr}
use Rattle.doc_tree.specs.Scope.{Decl, xmlns_prefix, xml_prefix, xml_namespace}
use Rattle.name_scopes.specs.QNames.{prefix_part, local_part}

-- what an attribute declares: `xmlns` the default namespace, and `xmlns:p` that of the prefix p
abbrev pub declaration_of : Attr → Option Decl
declaration_of attr =
    if bytes_eq attr.name xmlns_prefix then Some ([], attr.value)
    else if bytes_eq (prefix_part attr.name) xmlns_prefix then Some (local_part attr.name, attr.value)
    else None

-- whether an attribute of this name declares something
abbrev pub declares_namespace : List ℕ → Bool
declares_namespace name = bytes_eq name xmlns_prefix || bytes_eq (prefix_part name) xmlns_prefix

-- what the attributes declare, in their order
abbrev pub declarations : List Attr → List Decl
declarations attrs = flat_map (λ attr. option_to_list (declaration_of attr)) attrs

-- the attributes that declare nothing
abbrev pub is_plain : Attr → Bool
is_plain attr = is_none (declaration_of attr)

abbrev pub plain_attrs : List Attr → List Attr
plain_attrs attrs = filter is_plain attrs

-- the namespace of the prefix `xmlns`, which nothing may declare
unfoldable pub xmlns_namespace : List ℕ
xmlns_namespace = codes "http://www.w3.org/2000/xmlns/"

-- a declaration that may not be: of a prefix with an empty value (section 2.2), of `xmlns`, of `xml` with another name
-- than its own, of its name for another prefix or as the default, or of the name of `xmlns` (section 3)
abbrev pub is_bad_declaration : Decl → Bool
is_bad_declaration decl =
    (not (is_nil decl.0) && is_nil decl.1)
    || bytes_eq decl.0 xmlns_prefix
    || (bytes_eq decl.0 xml_prefix && not (bytes_eq decl.1 xml_namespace))
    || (not (bytes_eq decl.0 xml_prefix) && bytes_eq decl.1 xml_namespace)
    || bytes_eq decl.1 xmlns_namespace

-- a namespace name with both `'` and `"`, which no literal of XPath 1.0 holds (section 3.7)
abbrev pub has_both_quotes : Decl → Bool
has_both_quotes decl = list_any (λ b. b == 39) decl.1 && list_any (λ b. b == 34) decl.1
