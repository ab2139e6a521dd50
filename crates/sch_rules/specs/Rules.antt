-- The rules of a schema that a place of its document can break: for each the name that is told where it is broken.
use Rattle.std.specs.Prelude.{ℕ, Bool, false, not, ◌&&◌, ◌||◌, List, [], ◌∷◌, Option, None, Some, is_some, is_none, codes, option_map, if◌then◌else◌}
use Rattle.std.specs.List.{list_any}
use Rattle.std.specs.Option.{option_or}
use Rattle.std.specs.Str.{bytes_eq, str_eq_ignore_ascii_case}
use Rattle.doc_tree.specs.Scope.{xml_namespace, xml_prefix, xmlns_prefix}
use Rattle.doc_tree.specs.Table.{Table, Name, attrs_of, content_of, kids_of, name_of, value_of}
use Rattle.sch_base.specs.Names.{is_ncname}
use Rattle.sch_rules.specs.declared.word.Word.{Word}
use Rattle.sch_rules.specs.declared.word.Word.TheVariants.{Schema, Ns, Let, Phase, Pattern, Param, Rule, Extends, Diagnostic, Property}
use Rattle.sch_rules.specs.Attributes.{is_abstract, said, said_text}
use Rattle.sch_rules.specs.Elements.{element_name, is_at_top, local_at, word_above, word_at}
use Rattle.sch_rules.specs.Keys.{Key, is_taken, keys_of}
use Rattle.sch_rules.specs.Words.{is_word, may_hold, required, word_of}

-- the name, where the test passes
abbrev pub name_if : Bool → List ℕ → Option (List ℕ)
name_if passes name = if passes then Some name else None

-- 1: the document element isn't `schema`
abbrev pub wrong_document : Table → ℕ → Option Word → Option (List ℕ)
wrong_document T n word =
    if is_at_top T n && not (is_word Schema word) then option_map (λ name. name.local) (element_name (content_of T n)) else None

-- 2: the query binding isn't `xslt`, ASCII case apart
abbrev pub other_binding : Option (List ℕ) → Option (List ℕ)
other_binding None = None
other_binding (Some value) = name_if (not (str_eq_ignore_ascii_case value (codes "xslt"))) value

abbrev pub wrong_binding : Table → ℕ → Option Word → Option (List ℕ)
wrong_binding T n word = if is_word Schema word then other_binding (said T n (codes "queryBinding")) else None

-- 3: an element of the namespace that isn't known
abbrev pub unknown_name : Option (List ℕ) → Option (List ℕ)
unknown_name None = None
unknown_name (Some local) = name_if (is_none (word_of local)) local

abbrev pub unknown : Table → ℕ → Option (List ℕ)
unknown T n = unknown_name (local_at T n)

-- 4: an element stands where none of its name may stand
abbrev pub misplaced : Table → ℕ → Option Word → Option (List ℕ)
misplaced T n word = if is_some word && not (is_at_top T n || may_hold (word_above T n) word) then local_at T n else None

-- 5: `href` on `extends`, or `documents` on `pattern`
abbrev pub said_name : Table → ℕ → List ℕ → Option (List ℕ)
said_name T n name = name_if (is_some (said T n name)) name

abbrev pub unsupported : Table → ℕ → Option Word → Option (List ℕ)
unsupported T n (Some Extends) = said_name T n (codes "href")
unsupported T n (Some Pattern) = said_name T n (codes "documents")
unsupported T n _ = None

-- 6: the first required attribute that is missing
abbrev pub first_missing : Table → ℕ → List (List ℕ) → Option (List ℕ)
first_missing T n [] = None
first_missing T n (name ∷ names) = if is_none (said T n name) then Some name else first_missing T n names

abbrev pub missing : Table → ℕ → Option Word → Option (List ℕ)
missing T n None = None
missing T n (Some word) = first_missing T n (required word (is_abstract T n))

-- 7: the first attribute that has not its form
-- whether the attribute has to be an NCName
abbrev pub is_name_attribute : Word → Bool → List ℕ → Bool
is_name_attribute Ns is_abstract name = bytes_eq name (codes "prefix")
is_name_attribute Let is_abstract name = bytes_eq name (codes "name")
is_name_attribute Phase is_abstract name = bytes_eq name (codes "id")
is_name_attribute Pattern is_abstract name = bytes_eq name (codes "id") || bytes_eq name (codes "is-a")
is_name_attribute Param is_abstract name = bytes_eq name (codes "name")
is_name_attribute Rule is_abstract name = is_abstract && bytes_eq name (codes "id")
is_name_attribute Diagnostic is_abstract name = bytes_eq name (codes "id")
is_name_attribute Property is_abstract name = bytes_eq name (codes "id")
is_name_attribute _ is_abstract name = false

-- whether the attribute has to be `true` or `false`
abbrev pub is_truth_attribute : Word → List ℕ → Bool
is_truth_attribute Pattern name = bytes_eq name (codes "abstract")
is_truth_attribute Rule name = bytes_eq name (codes "abstract")
is_truth_attribute _ name = false

abbrev pub is_truth : List ℕ → Bool
is_truth value = bytes_eq value (codes "true") || bytes_eq value (codes "false")

-- whether a prefix may not be bound to a namespace: `xmlns`, and `xml` to another than its own
abbrev pub is_bad_binding : List ℕ → List ℕ → Bool
is_bad_binding prefix uri =
    bytes_eq prefix xmlns_prefix || (bytes_eq prefix xml_prefix && not (bytes_eq uri xml_namespace))

-- whether a value of `prefix` or `uri` of `ns` may not be
abbrev pub is_bad_ns : Table → ℕ → Word → List ℕ → List ℕ → Bool
is_bad_ns T n Ns name value =
    (bytes_eq name (codes "uri") && bytes_eq value [])
    || (bytes_eq name (codes "prefix") && is_bad_binding value (said_text T n (codes "uri")))
is_bad_ns T n _ name value = false

abbrev pub has_bad_form : Table → ℕ → Word → List ℕ → List ℕ → Bool
has_bad_form T n word name value =
    (is_name_attribute word (is_abstract T n) name && not (is_ncname value))
    || ((is_truth_attribute word name && not (is_truth value)) || is_bad_ns T n word name value)

abbrev pub bad_attribute : Table → ℕ → Word → Option Name → List ℕ → Option (List ℕ)
bad_attribute T n word None value = None
bad_attribute T n word (Some name) value = name_if (bytes_eq name.uri [] && has_bad_form T n word name.local value) name.local

abbrev pub first_bad : Table → ℕ → Word → List ℕ → Option (List ℕ)
first_bad T n word [] = None
first_bad T n word (a ∷ attrs) = option_or (bad_attribute T n word (name_of T a) (value_of T a)) (first_bad T n word attrs)

abbrev pub ill_formed : Table → ℕ → Option Word → Option (List ℕ)
ill_formed T n None = None
ill_formed T n (Some word) = first_bad T n word (attrs_of T n)

-- 8: a name is used a second time
abbrev pub first_taken : List Key → List Key → Option (List ℕ)
first_taken taken [] = None
first_taken taken (key ∷ keys) = if is_taken taken key then Some key.name else first_taken taken keys

abbrev pub repeated : Table → List Key → ℕ → Option Word → Option (List ℕ)
repeated T taken n word = first_taken taken (keys_of T n word)

-- 9: an instance that is abstract or holds a let or a rule, or another pattern that holds a param
abbrev pub has_kid : Table → ℕ → Word → Bool
has_kid T n word = list_any (λ k. is_word word (word_at T k)) (kids_of T n)

abbrev pub mixed_instance : Table → ℕ → Option (List ℕ)
mixed_instance T n =
    if is_abstract T n then Some (codes "is-a")
    else if has_kid T n Let then Some (codes "let")
    else if has_kid T n Rule then Some (codes "rule")
    else None

abbrev pub mixed_pattern : Table → ℕ → Option (List ℕ)
mixed_pattern T n =
    if is_some (said T n (codes "is-a")) then mixed_instance T n
    else if has_kid T n Param then Some (codes "param")
    else None

abbrev pub mixed : Table → ℕ → Option Word → Option (List ℕ)
mixed T n word = if is_word Pattern word then mixed_pattern T n else None

-- the rules by number, where the node is this element, and these names are used before it
abbrev pub rules_of : Table → List Key → ℕ → Option Word → List (ℕ × Option (List ℕ))
rules_of T taken n word = (1, wrong_document T n word)
    ∷ (2, wrong_binding T n word)
    ∷ (3, unknown T n)
    ∷ (4, misplaced T n word)
    ∷ (5, unsupported T n word)
    ∷ (6, missing T n word)
    ∷ (7, ill_formed T n word)
    ∷ (8, repeated T taken n word)
    ∷ (9, mixed T n word)
    ∷ []

abbrev pub rules : Table → List Key → ℕ → List (ℕ × Option (List ℕ))
rules T taken n = rules_of T taken n (word_at T n)
