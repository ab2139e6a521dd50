-- The events of items say what the items say, their namespaces left out.
use Rattle.std.proofs.Common.{◌≡◌, ℕ, suc, Bool, true, false, List, [], ◌∷◌, ◌++◌, map, refl, sym, ap, ap₂, ◌∙◌, append_assoc}
use Rattle.std.specs.List.{flat_map}
use Rattle.std.proofs.lemmas.Grind.{flat_map-append}
use Rattle.std.proofs.lemmas.List.{map-append}
use Rattle.sch_base.specs.Names.{QNamesSplit}
use Rattle.pyx_core.specs.declared.event.Event.{Event}
use Rattle.pyx_core.specs.declared.event.Event.TheVariants as event
use Rattle.doc_tree.specs.Lines.{Line, starts, declares, has_attribute, ends, has_text, has_comment, has_instruction}
use Rattle.doc_tree.specs.Scope.{Decl}
use Rattle.doc_tree.specs.Table.{Name}
use Rattle.doc_tree.specs.QNames.{qname_of}
use Rattle.name_scopes.specs.QNames.{as_written, unprefixed}
use Rattle.name_scopes.specs.Declarations.{declarations, plain_attrs}
use Rattle.name_scopes.specs.ScopedTree.{attribute_line, said_by, unscoped, written}
use Rattle.name_scopes.specs.Scoping.{InstructionInScope, is_qualified}
use Rattle.name_scopes.proofs.Items.{Items, nothing, an_element, a_text, a_comment, an_instruction, Pair, PairsFit, Fit, pair_line, pair_attr, start_attrs, item_lines, item_events}
use Rattle.name_scopes.proofs.ItemNames.{Spelled, spelled, tag-attributes, tag-declarations}

abbrev same_name : List ℕ → List ℕ → Name
same_name prefix local = record { prefix = prefix; local = local; uri = [] }

pub written-again : QNamesSplit → (name : Name) → is_qualified name ≡ true → written (qname_of name) ≡ as_written name
written-again splits name h = let s : Spelled name = spelled splits name h in ap₂ same_name s.prefix s.local

attributes-again : QNamesSplit → (scope : List Decl) (attrs : List Pair) → PairsFit scope attrs → map unscoped (map pair_line attrs) ≡ map attribute_line (map pair_attr attrs)
attributes-again splits scope [] fit = refl
attributes-again splits scope (a ∷ attrs) fit =
    ap₂ (λ (name : Name) (l : List Line). has_attribute name a.1 ∷ l) (sym (written-again splits a.0 fit.0.named)) (attributes-again splits scope attrs fit.1)

declared-again : (decls : List Decl) → map unscoped (map declares decls) ≡ map declares decls
declared-again [] = refl
declared-again (d ∷ decls) = ap (λ l. declares d ∷ l) (declared-again decls)

instruction-again : (name : Name) (body : List ℕ) → InstructionInScope name body → as_written name ≡ unprefixed name.local
instruction-again name body fits = ap (λ p. same_name p name.local) fits.no_prefix

-- a start tag, and what stands after it
tag-again : QNamesSplit → (scope : List Decl) (name : Name) (decls : List Decl) (attrs : List Pair) (lines : List Line) (events : List Event) →
    is_qualified name ≡ true → PairsFit scope attrs → map unscoped lines ≡ flat_map said_by events →
    map unscoped (starts name ∷ (map declares decls ++ (map pair_line attrs ++ lines))) ≡ flat_map said_by (event.Start (qname_of name) (start_attrs decls attrs) ∷ events)
tag-again splits scope name decls attrs lines events named fit behind =
    let rest : List Line = flat_map said_by events in
    let parts : map unscoped (map declares decls ++ (map pair_line attrs ++ lines)) ≡ map declares decls ++ (map attribute_line (map pair_attr attrs) ++ rest) =
    map-append unscoped (map declares decls) (map pair_line attrs ++ lines)
    ∙ ap₂ (λ x y. x ++ y) (declared-again decls) (map-append unscoped (map pair_line attrs) lines ∙ ap₂ (λ x y. x ++ y) (attributes-again splits scope attrs fit) behind) in
    let tag : map declares (declarations (start_attrs decls attrs)) ++ map attribute_line (plain_attrs (start_attrs decls attrs)) ≡ map declares decls ++ map attribute_line (map pair_attr attrs) =
    ap₂ (λ x y. map declares x ++ map attribute_line y) (tag-declarations splits scope decls attrs fit) (tag-attributes splits scope decls attrs fit) in
    ap₂ (λ (n : Name) (l : List Line). starts n ∷ l) (sym (written-again splits name named))
    (parts ∙ sym (append_assoc (map declares decls) (map attribute_line (map pair_attr attrs)) rest) ∙ ap (λ l. l ++ rest) (sym tag))

-- the kids, the end of their element, and what stands after it
inside-again : QNamesSplit → (name : Name) (kids rest : Items) → is_qualified name ≡ true →
    map unscoped (item_lines kids) ≡ flat_map said_by (item_events kids) → map unscoped (item_lines rest) ≡ flat_map said_by (item_events rest) →
    map unscoped (item_lines kids ++ ends name ∷ item_lines rest) ≡ flat_map said_by (item_events kids ++ event.End (qname_of name) ∷ item_events rest)
inside-again splits name kids rest named within later =
    map-append unscoped (item_lines kids) (ends name ∷ item_lines rest)
    ∙ ap₂ (λ (x y : List Line). x ++ y) within (ap₂ (λ (n : Name) (l : List Line). ends n ∷ l) (sym (written-again splits name named)) later)
    ∙ sym (flat_map-append said_by (item_events kids) (event.End (qname_of name) ∷ item_events rest))

pub items-again : QNamesSplit → (scope : List Decl) (depth : ℕ) (behind : Bool) (items : Items) → Fit scope depth behind items →
    map unscoped (item_lines items) ≡ flat_map said_by (item_events items)
items-again splits scope depth behind nothing fit = refl
items-again splits scope depth behind (an_element name decls attrs kids rest) fit =
    tag-again splits (decls ++ scope) name decls attrs (item_lines kids ++ ends name ∷ item_lines rest) (item_events kids ++ event.End (qname_of name) ∷ item_events rest)
    fit.0.element.named fit.0.attributes
    (inside-again splits name kids rest fit.0.element.named (items-again splits (decls ++ scope) (suc depth) false kids fit.2) (items-again splits scope depth false rest fit.3))
items-again splits scope depth behind (a_text characters rest) fit = ap (λ l. has_text characters ∷ l) (items-again splits scope depth true rest fit.3)
items-again splits scope depth behind (a_comment characters rest) fit = ap (λ l. has_comment characters ∷ l) (items-again splits scope depth false rest fit.1)
items-again splits scope depth behind (an_instruction name body rest) fit =
    ap₂ (λ (n : Name) (l : List Line). has_instruction n body ∷ l) (instruction-again name body fit.0) (items-again splits scope depth false rest fit.1)
