-- The language of a node (XPath 1.0, section 4.3, `lang`; XML 1.0, section 2.12).
use Rattle.std.specs.Prelude.{ℕ, ◌==◌, Bool, true, false, ◌&&◌, List, [], ◌∷◌, length, take, drop, find, codes, Option, None, Some, if◌then◌else◌}
use Rattle.std.specs.Str.{str_eq_ignore_ascii_case}
use Rattle.doc_tree.specs.cell.Cell.TheVariants.{Attrs, Value}
use Rattle.doc_tree.specs.declared.axes.Axis.TheVariants.{Attribute}
use Rattle.doc_tree.specs.Table.{Table, attrs_of, kind_of, value_of}
use Rattle.doc_tree.specs.Kinds.{is_element}
use Rattle.doc_tree.specs.NameTests.{has_name}
use Rattle.doc_tree.specs.Scope.{xml_namespace}
use Rattle.doc_tree.specs.Walks.{above}
use Rattle.xp_outcome.specs.Evaluation.{Evaluation, done, bind, reading, cell, names_along}
use Rattle.xp_values.specs.declared.values.EvalFault.{EvalFault}

-- a tag ends, or goes on after a hyphen
abbrev pub ends_or_goes_on : List ℕ → Bool
ends_or_goes_on [] = true
ends_or_goes_on (b ∷ rest) = b == 45

-- whether a language tag is the wanted language or a sublanguage of it: it is equal, or begins with it and a hyphen, ASCII case apart
abbrev pub is_language : List ℕ → List ℕ → Bool
is_language tag wanted = str_eq_ignore_ascii_case (take (length wanted) tag) wanted && ends_or_goes_on (drop (length wanted) tag)

-- whether a node is named `xml:lang`
abbrev pub is_lang : Table → ℕ → Bool
is_lang T a = has_name T a xml_namespace (codes "lang")

-- the first of some attributes that is `xml:lang`
abbrev pub lang_among : Table → List ℕ → Option ℕ
lang_among T attributes = find (is_lang T) attributes

-- what an attribute that was found decides
abbrev pub decided_by : Table → List ℕ → Option ℕ → Evaluation EvalFault (Option Bool)
decided_by T wanted None = done None
decided_by T wanted (Some a) = reading (cell (Value a)) (done (Some (is_language (value_of T a) wanted)))

-- what a node's own attribute `xml:lang` decides; the attributes of an element are read, their names, and the value of the one found
abbrev pub own_language : Table → List ℕ → ℕ → Evaluation EvalFault (Option Bool)
own_language T wanted n =
    if is_element (kind_of T n) then reading (cell (Attrs n)) (reading (names_along Attribute n) (decided_by T wanted (lang_among T (attrs_of T n)))) else done None

abbrev pub or_else : Option Bool → Evaluation EvalFault Bool → Evaluation EvalFault Bool
or_else None rest = rest
or_else (Some truth) rest = done truth

-- the first of some nodes whose own attribute decides; none decides for any language
abbrev pub language_along : Table → List ℕ → List ℕ → Evaluation EvalFault Bool
language_along T wanted [] = done false
language_along T wanted (n ∷ ns) = bind (own_language T wanted n) (λ found. or_else found (language_along T wanted ns))

-- whether a node is in a language, by the nearest attribute `xml:lang` of the node and its ancestors
unfoldable pub in_language : Table → ℕ → List ℕ → Evaluation EvalFault Bool
in_language T n wanted = language_along T wanted (above T n)
