-- The names of functions: XPath 1.0, section 4, and XSLT 1.0, section 12.
use Rattle.std.specs.Prelude.{ℕ, Bool, false, List, [], ◌∷◌, Option, ◌||◌, codes}
use Rattle.std.specs.Str.{bytes_eq}
use Rattle.sch_base.specs.Named.{named}
use Rattle.xp_typed_tree.specs.declared.function.Function.{Function}
use Rattle.xp_typed_tree.specs.declared.function.Function.TheVariants.{Last, Position, Current, Count, Sum, LocalName, NamespaceUri, Name, String, Number, Boolean, Not, True, False, Concat, StartsWith, Contains, SubstringBefore, SubstringAfter, Substring, StringLength, NormalizeSpace, Translate, Lang, Floor, Ceiling, Round}

abbrev pub listed : List (List ℕ) → List ℕ → Bool
listed [] name = false
listed (n ∷ ns) name = bytes_eq name n || listed ns name

abbrev pub function_names : List (List ℕ × Function)
function_names = (codes "last", Last)
    ∷ (codes "position", Position)
    ∷ (codes "current", Current)
    ∷ (codes "count", Count)
    ∷ (codes "sum", Sum)
    ∷ (codes "local-name", LocalName)
    ∷ (codes "namespace-uri", NamespaceUri)
    ∷ (codes "name", Name)
    ∷ (codes "string", String)
    ∷ (codes "number", Number)
    ∷ (codes "boolean", Boolean)
    ∷ (codes "not", Not)
    ∷ (codes "true", True)
    ∷ (codes "false", False)
    ∷ (codes "concat", Concat)
    ∷ (codes "starts-with", StartsWith)
    ∷ (codes "contains", Contains)
    ∷ (codes "substring-before", SubstringBefore)
    ∷ (codes "substring-after", SubstringAfter)
    ∷ (codes "substring", Substring)
    ∷ (codes "string-length", StringLength)
    ∷ (codes "normalize-space", NormalizeSpace)
    ∷ (codes "translate", Translate)
    ∷ (codes "lang", Lang)
    ∷ (codes "floor", Floor)
    ∷ (codes "ceiling", Ceiling)
    ∷ (codes "round", Round)
    ∷ []

-- the function of a name
abbrev pub function_named : List ℕ → Option Function
function_named name = named function_names name

abbrev pub left_out_names : List (List ℕ)
left_out_names = codes "document"
    ∷ codes "key"
    ∷ codes "id"
    ∷ codes "format-number"
    ∷ codes "generate-id"
    ∷ codes "system-property"
    ∷ codes "unparsed-entity-uri"
    ∷ codes "element-available"
    ∷ codes "function-available"
    ∷ []

-- whether the standards have a function of the name that is left out here
abbrev pub is_left_out : List ℕ → Bool
is_left_out name = listed left_out_names name
