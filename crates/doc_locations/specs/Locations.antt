-- Locations: for each node the XPath expression that finds it (ISO/IEC 19757-3, annex on SVRL; XPath 1.0, section 2).
use Rattle.std.specs.Prelude.{ℕ, ◌+◌, ◌==◌, Bool, List, [], ◌∷◌, ◌++◌, Option, None, Some, codes, if◌then◌else◌}
use Rattle.std.specs.List.{list_any}
use Rattle.std.specs.Fmt.{decimal}
use Rattle.doc_tree.specs.kind.Kind.{Kind}
use Rattle.doc_tree.specs.kind.Kind.TheVariants.{Root, Element, Attribute, Text, Comment, Pi}
use Rattle.doc_tree.specs.Kinds.{is_kind}
use Rattle.doc_tree.specs.Table.{Table, Name, kind_of, name_of, parent_of, kids_of}
use Rattle.doc_tree.specs.Walks.{above}

-- whether the node is of the kind
abbrev pub has_kind : Table → Kind → ℕ → Bool
has_kind T kind n = is_kind kind (kind_of T n)

-- how many of the nodes pass, up to n, n included
abbrev pub place_among : (ℕ → Bool) → ℕ → List ℕ → ℕ
place_among passes n [] = 0
place_among passes n (m ∷ ms) = (if passes m then 1 else 0) + (if m == n then 0 else place_among passes n ms)

-- the kids of a node's parent
abbrev pub kids_of_parent : Table → Option ℕ → List ℕ
kids_of_parent T None = []
kids_of_parent T (Some parent) = kids_of T parent

-- a node's place among its siblings of the kind, counted from 1
abbrev pub place_of : Table → Kind → ℕ → ℕ
place_of T kind n = place_among (has_kind T kind) n (kids_of_parent T (parent_of T n))

-- the step that finds a kid by the test of its kind and its place
abbrev pub kid_step : List ℕ → ℕ → List ℕ
kid_step test place = codes "/" ++ (test ++ (codes "[" ++ (decimal place ++ codes "]")))

-- the quotes that a namespace stands in: single ones, or double ones where it holds a single one (39)
abbrev pub quotes_of : List ℕ → List ℕ
quotes_of uri = if list_any (λ c. c == 39) uri then codes "\"" else codes "'"

-- the step that finds an attribute by its local name and its namespace
abbrev pub expanded_step : List ℕ → List ℕ → List ℕ
expanded_step local uri = codes "/@*[local-name()='"
    ++ (local ++ (codes "' and namespace-uri()=" ++ (quotes_of uri ++ (uri ++ (quotes_of uri ++ codes "]")))))

-- the step that finds an attribute: its local name is enough where it is in no namespace
abbrev pub named_step : List ℕ → List ℕ → List ℕ
named_step local [] = codes "/@" ++ local
named_step local (b ∷ uri) = expanded_step local (b ∷ uri)

abbrev pub attribute_step : Option Name → List ℕ
attribute_step None = []
attribute_step (Some name) = named_step name.local name.uri

-- the step that finds a node of a kind from its parent; the root has none
abbrev pub step_by : Table → ℕ → Option Kind → List ℕ
step_by T n None = []
step_by T n (Some Root) = []
step_by T n (Some Element) = kid_step (codes "*") (place_of T Element n)
step_by T n (Some Attribute) = attribute_step (name_of T n)
step_by T n (Some Text) = kid_step (codes "text()") (place_of T Text n)
step_by T n (Some Comment) = kid_step (codes "comment()") (place_of T Comment n)
step_by T n (Some Pi) = kid_step (codes "processing-instruction()") (place_of T Pi n)

abbrev pub step_of : Table → ℕ → List ℕ
step_of T n = step_by T n (kind_of T n)

-- the steps that find the first of the nodes from the last one
abbrev pub steps_of : Table → List ℕ → List ℕ
steps_of T [] = []
steps_of T (n ∷ ns) = steps_of T ns ++ step_of T n

-- the root is `/`; below it each node adds its step to its parent's location
abbrev pub location_of : Table → ℕ → List ℕ
location_of T n = if n == 0 then codes "/" else steps_of T (above T n)
