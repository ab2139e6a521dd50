-- The namespaces of items follow from their lines without them: each name takes that of the nearest declaration.
use Rattle.std.proofs.Common.{◌≡◌, ℕ, suc, Bool, true, false, List, [], ◌∷◌, ◌++◌, map, Option, Some, refl, sym, ap, ap₂, ◌∙◌, append_assoc}
use Rattle.std.specs.Prelude.{unwrap_or}
use Rattle.std.proofs.lemmas.List.{map-append}
use Rattle.doc_tree.specs.Lines.{Line, starts, declares, has_attribute, ends, has_text, has_comment, has_instruction}
use Rattle.doc_tree.specs.Scope.{Decl, namespace_in}
use Rattle.doc_tree.specs.Table.{Name}
use Rattle.name_scopes.specs.QNames.{as_written}
use Rattle.name_scopes.specs.ScopedTree.{unscoped}
use Rattle.name_scopes.specs.Scoping.{InstructionInScope, attribute_namespace}
use Rattle.name_scopes.proofs.Items.{Items, nothing, an_element, a_text, a_comment, an_instruction, Pair, PairsFit, Fit, pair_line, item_lines}

-- the declarations that stand first among lines
abbrev pub leading : List Line → List Decl
leading [] = []
leading (starts name ∷ lines) = []
leading (declares decl ∷ lines) = decl ∷ leading lines
leading (has_attribute name value ∷ lines) = []
leading (ends name ∷ lines) = []
leading (has_text characters ∷ lines) = []
leading (has_comment characters ∷ lines) = []
leading (has_instruction name body ∷ lines) = []

-- the innermost of scopes, and those round it
abbrev pub innermost : List (List Decl) → List Decl
innermost [] = []
innermost (scope ∷ scopes) = scope

abbrev pub around : List (List Decl) → List (List Decl)
around [] = []
around (scope ∷ scopes) = scopes

abbrev pub with_namespace : Name → Option (List ℕ) → Name
with_namespace name uri = record { prefix = name.prefix; local = name.local; uri = unwrap_or uri [] }

abbrev pub as_element : List Decl → Name → Name
as_element scope name = with_namespace name (namespace_in scope name.prefix)

abbrev pub as_attribute : List Decl → Name → Name
as_attribute scope name = with_namespace name (attribute_namespace scope name.prefix)

-- lines with the namespaces of their names, where these scopes are open
abbrev pub resolved : List (List Decl) → List Line → List Line
resolved scopes [] = []
resolved scopes (starts name ∷ lines) =
    let own : List Decl = leading lines ++ innermost scopes in starts (as_element own name) ∷ resolved (own ∷ scopes) lines
resolved scopes (declares decl ∷ lines) = declares decl ∷ resolved scopes lines
resolved scopes (has_attribute name value ∷ lines) = has_attribute (as_attribute (innermost scopes) name) value ∷ resolved scopes lines
resolved scopes (ends name ∷ lines) = ends (as_element (innermost scopes) name) ∷ resolved (around scopes) lines
resolved scopes (has_text characters ∷ lines) = has_text characters ∷ resolved scopes lines
resolved scopes (has_comment characters ∷ lines) = has_comment characters ∷ resolved scopes lines
resolved scopes (has_instruction name body ∷ lines) = has_instruction name body ∷ resolved scopes lines

leading-declares : (decls : List Decl) (lines : List Line) → leading lines ≡ [] → leading (map unscoped (map declares decls) ++ lines) ≡ decls
leading-declares [] lines none = none
leading-declares (d ∷ decls) lines none = ap (λ l. d ∷ l) (leading-declares decls lines none)

leading-items : (kids : Items) (lines : List Line) → leading lines ≡ [] → leading (map unscoped (item_lines kids) ++ lines) ≡ []
leading-items nothing lines none = none
leading-items (an_element name decls attrs kids rest) lines none = refl
leading-items (a_text characters rest) lines none = refl
leading-items (a_comment characters rest) lines none = refl
leading-items (an_instruction name body rest) lines none = refl

leading-pairs : (attrs : List Pair) (lines : List Line) → leading lines ≡ [] → leading (map unscoped (map pair_line attrs) ++ lines) ≡ []
leading-pairs [] lines none = none
leading-pairs (a ∷ attrs) lines none = refl

resolved-declares : (scopes : List (List Decl)) (decls : List Decl) (lines : List Line) → resolved scopes (map unscoped (map declares decls) ++ lines) ≡ map declares decls ++ resolved scopes lines
resolved-declares scopes [] lines = refl
resolved-declares scopes (d ∷ decls) lines = ap (λ l. declares d ∷ l) (resolved-declares scopes decls lines)

-- a name gets its namespace back
element-back : (scope : List Decl) (name : Name) → namespace_in scope name.prefix ≡ Some name.uri → as_element scope (as_written name) ≡ name
element-back scope name known = ap (with_namespace name) known

attribute-back : (scope : List Decl) (name : Name) → attribute_namespace scope name.prefix ≡ Some name.uri → as_attribute scope (as_written name) ≡ name
attribute-back scope name known = ap (with_namespace name) known

instruction-back : (name : Name) (body : List ℕ) → InstructionInScope name body → as_written name ≡ name
instruction-back name body fits = ap (λ (uri : List ℕ). record { prefix = name.prefix; local = name.local; uri = uri }) (sym fits.no_namespace)

resolved-pairs : (scope : List Decl) (scopes : List (List Decl)) (attrs : List Pair) (lines : List Line) → PairsFit scope attrs →
    resolved (scope ∷ scopes) (map unscoped (map pair_line attrs) ++ lines) ≡ map pair_line attrs ++ resolved (scope ∷ scopes) lines
resolved-pairs scope scopes [] lines fit = refl
resolved-pairs scope scopes (a ∷ attrs) lines fit =
    ap₂ (λ (name : Name) (l : List Line). has_attribute name a.1 ∷ l) (attribute-back scope a.0 fit.0.namespace) (resolved-pairs scope scopes attrs lines fit.1)

-- a start tag, and what stands after it
resolved-tag : (scope : List Decl) (scopes : List (List Decl)) (name : Name) (decls : List Decl) (attrs : List Pair) (plain lines : List Line) →
    namespace_in (decls ++ scope) name.prefix ≡ Some name.uri → PairsFit (decls ++ scope) attrs → leading plain ≡ [] → resolved ((decls ++ scope) ∷ scope ∷ scopes) plain ≡ lines →
    resolved (scope ∷ scopes) (starts (as_written name) ∷ (map unscoped (map declares decls) ++ (map unscoped (map pair_line attrs) ++ plain)))
    ≡ starts name ∷ (map declares decls ++ (map pair_line attrs ++ lines))
resolved-tag scope scopes name decls attrs plain lines known fit none behind =
    let rest : List Line = map unscoped (map declares decls) ++ (map unscoped (map pair_line attrs) ++ plain) in
    let own : leading rest ≡ decls = leading-declares decls (map unscoped (map pair_line attrs) ++ plain) (leading-pairs attrs plain none) in
    ap (λ (ds : List Decl). starts (as_element (ds ++ scope) (as_written name)) ∷ resolved ((ds ++ scope) ∷ scope ∷ scopes) rest) own
    ∙ ap₂ (λ (n : Name) (l : List Line). starts n ∷ l) (element-back (decls ++ scope) name known)
    (resolved-declares ((decls ++ scope) ∷ scope ∷ scopes) decls (map unscoped (map pair_line attrs) ++ plain)
    ∙ ap (λ l. map declares decls ++ l) (resolved-pairs (decls ++ scope) (scope ∷ scopes) attrs plain fit ∙ ap (λ l. map pair_line attrs ++ l) behind))

-- the lines of an element without namespaces, in parts
element-plain : (name : Name) (decls : List Decl) (attrs : List Pair) (kids rest : Items) (more : List Line) →
    map unscoped (item_lines (an_element name decls attrs kids rest)) ++ more
    ≡ starts (as_written name) ∷ (map unscoped (map declares decls) ++ (map unscoped (map pair_line attrs) ++ (map unscoped (item_lines kids) ++ ends (as_written name) ∷ (map unscoped (item_lines rest) ++ more))))
element-plain name decls attrs kids rest more = ap (λ l. starts (as_written name) ∷ l) (
    ap (λ l. l ++ more) (map-append unscoped (map declares decls) (map pair_line attrs ++ (item_lines kids ++ ends name ∷ item_lines rest))
    ∙ ap (λ l. map unscoped (map declares decls) ++ l) (map-append unscoped (map pair_line attrs) (item_lines kids ++ ends name ∷ item_lines rest)
    ∙ ap (λ l. map unscoped (map pair_line attrs) ++ l) (map-append unscoped (item_lines kids) (ends name ∷ item_lines rest))))
    ∙ append_assoc (map unscoped (map declares decls)) (map unscoped (map pair_line attrs) ++ (map unscoped (item_lines kids) ++ ends (as_written name) ∷ map unscoped (item_lines rest))) more
    ∙ ap (λ l. map unscoped (map declares decls) ++ l) (append_assoc (map unscoped (map pair_line attrs)) (map unscoped (item_lines kids) ++ ends (as_written name) ∷ map unscoped (item_lines rest)) more
    ∙ ap (λ l. map unscoped (map pair_line attrs) ++ l) (append_assoc (map unscoped (item_lines kids)) (ends (as_written name) ∷ map unscoped (item_lines rest)) more)))

element-full : (name : Name) (decls : List Decl) (attrs : List Pair) (kids rest : Items) (more : List Line) →
    starts name ∷ (map declares decls ++ (map pair_line attrs ++ (item_lines kids ++ ends name ∷ (item_lines rest ++ more)))) ≡ item_lines (an_element name decls attrs kids rest) ++ more
element-full name decls attrs kids rest more = ap (λ l. starts name ∷ l) (sym (
    append_assoc (map declares decls) (map pair_line attrs ++ (item_lines kids ++ ends name ∷ item_lines rest)) more
    ∙ ap (λ l. map declares decls ++ l) (append_assoc (map pair_line attrs) (item_lines kids ++ ends name ∷ item_lines rest) more
    ∙ ap (λ l. map pair_line attrs ++ l) (append_assoc (item_lines kids) (ends name ∷ item_lines rest) more))))

pub items-resolved : (scope : List Decl) (scopes : List (List Decl)) (depth : ℕ) (behind : Bool) (items : Items) (more : List Line) → Fit scope depth behind items →
    resolved (scope ∷ scopes) (map unscoped (item_lines items) ++ more) ≡ item_lines items ++ resolved (scope ∷ scopes) more
items-resolved scope scopes depth behind nothing more fit = refl
items-resolved scope scopes depth behind (an_element name decls attrs kids rest) more fit =
    let after : List Line = ends (as_written name) ∷ (map unscoped (item_lines rest) ++ more) in
    let later : resolved (scope ∷ scopes) (map unscoped (item_lines rest) ++ more) ≡ item_lines rest ++ resolved (scope ∷ scopes) more = items-resolved scope scopes depth false rest more fit.3 in
    let ended : resolved ((decls ++ scope) ∷ scope ∷ scopes) after ≡ ends name ∷ (item_lines rest ++ resolved (scope ∷ scopes) more) =
    ap₂ (λ (n : Name) (l : List Line). ends n ∷ l) (element-back (decls ++ scope) name fit.0.element.namespace) later in
    let within : resolved ((decls ++ scope) ∷ scope ∷ scopes) (map unscoped (item_lines kids) ++ after) ≡ item_lines kids ++ ends name ∷ (item_lines rest ++ resolved (scope ∷ scopes) more) =
    items-resolved (decls ++ scope) (scope ∷ scopes) (suc depth) false kids after fit.2 ∙ ap (λ l. item_lines kids ++ l) ended in
    ap (resolved (scope ∷ scopes)) (element-plain name decls attrs kids rest more)
    ∙ resolved-tag scope scopes name decls attrs (map unscoped (item_lines kids) ++ after) (item_lines kids ++ ends name ∷ (item_lines rest ++ resolved (scope ∷ scopes) more))
    fit.0.element.namespace fit.0.attributes (leading-items kids after refl) within
    ∙ element-full name decls attrs kids rest (resolved (scope ∷ scopes) more)
items-resolved scope scopes depth behind (a_text characters rest) more fit = ap (λ l. has_text characters ∷ l) (items-resolved scope scopes depth true rest more fit.3)
items-resolved scope scopes depth behind (a_comment characters rest) more fit = ap (λ l. has_comment characters ∷ l) (items-resolved scope scopes depth false rest more fit.1)
items-resolved scope scopes depth behind (an_instruction name body rest) more fit =
    ap₂ (λ (n : Name) (l : List Line). has_instruction n body ∷ l) (instruction-back name body fit.0) (items-resolved scope scopes depth false rest more fit.1)
