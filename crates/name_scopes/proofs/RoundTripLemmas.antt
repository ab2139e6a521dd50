-- A document in scope, its items, its text and the events of that.
use Rattle.std.proofs.Common.{◌≡◌, ℕ, ◌+◌, ◌≤◌, ◌==◌, true, false, List, [], ◌∷◌, ◌++◌, length, map, Option, None, Some, refl, sym, ap, ap₂, ◌∙◌, subst, arith, append-nil}
use Rattle.std.specs.Prelude.{count_by}
use Rattle.std.specs.List.{flat_map}
use Rattle.std.proofs.lemmas.Bool.{eqb-true}
use Rattle.sch_base.specs.Names.{QNamesSplit}
use Rattle.pyx_core.specs.declared.event.Event.{Event}
use Rattle.pyx_core.specs.declared.mode.Mode.TheVariants.{Document}
use Rattle.pyx_core.specs.Nesting.{bare, start, Nest}
use Rattle.pyx_core.specs.Reading.{events_of, events_before_fault, events_unless}
use Rattle.pyx_core.specs.Written.{Gives, WrittenIsReadBack, text_of}
use Rattle.doc_tree.specs.kind.Kind.TheVariants.{Root, Element}
use Rattle.doc_tree.specs.limits.TheConstants.{MAX_LIVE_NODES}
use Rattle.doc_tree.specs.Kinds.{is_document, is_element, is_text}
use Rattle.doc_tree.specs.Laws.{WellFormed}
use Rattle.doc_tree.specs.Lines.{Line, lines, lines_at, lines_below, opens, first_lines, last_lines}
use Rattle.doc_tree.specs.Scope.{Decl, scope_at}
use Rattle.doc_tree.specs.Table.{Table, Content, root, element, attribute, text, comment, instruction, content_of, kind_of, kind_at, decls_at, kids_of, attrs_of}
use Rattle.doc_tree.specs.Walks.{ancestors, below, order}
use Rattle.doc_write.specs.TreeText.{line_text, tree_text}
use Rattle.name_scopes.specs.DocFaults.{begin, first_fault}
use Rattle.name_scopes.specs.RoundTrip.{ComesBack}
use Rattle.name_scopes.specs.ScopedTree.{said_by, unscoped}
use Rattle.name_scopes.specs.Fragments.{PieceInScope}
use Rattle.name_scopes.specs.Scoping.{ContentInScope, InScope}
use Rattle.std.proofs.lemmas.Bool.{and_parts}
use Rattle.name_scopes.proofs.WholeLemmas.{doc-fault-is}
use Rattle.name_scopes.proofs.Items.{Items, Fit, item_events, item_lines, item_nodes, top_elements, top_texts}
use Rattle.name_scopes.proofs.ItemText.{item_text}
use Rattle.name_scopes.proofs.ItemLines.{items-again}
use Rattle.name_scopes.proofs.ItemNest.{items-nest, items-end}
use Rattle.name_scopes.proofs.ItemFaults.{NoFault, first-none, items-none}
use Rattle.name_scopes.proofs.ItemScopes.{items-resolved, resolved}
use Rattle.name_scopes.proofs.ItemTables.{IsTree, items_at, item-lines-are, item-nodes-are, item-tops-are, kids-are, no_attributes}
use Rattle.name_scopes.proofs.ItemScoped.{items-fit, texts-are}

-- the items of a tree: those of the root's kids
abbrev pub items_of : Table → Items
items_of T = items_at T (length T) (kids_of T 0)

root-opens : (c : Option Content) → kind_at c ≡ Some Root → (lines_at first_lines c ≡ []) × (lines_at last_lines c ≡ []) × (decls_at c ≡ [])
root-opens None kind = absurd (cc)
root-opens (Some root) kind = (refl, refl, refl)
root-opens (Some (element name decls)) kind = absurd (cc)
root-opens (Some (attribute name value)) kind = absurd (cc)
root-opens (Some (text characters)) kind = absurd (cc)
root-opens (Some (comment characters)) kind = absurd (cc)
root-opens (Some (instruction name body)) kind = absurd (cc)

root-attributes : (T : Table) → WellFormed T → attrs_of T 0 ≡ []
root-attributes T formed = no_attributes T formed 0 (λ is. let clash : Some Root ≡ Some Element = sym formed.root_kind ∙ is in absurd (cc))

pub tree-lines : (T : Table) → IsTree T → lines T ≡ item_lines (items_of T)
tree-lines T tree =
    let parts = root-opens (content_of T 0) tree.formed.root_kind in
    let kids : List Line = flat_map (lines_below T) (kids_of T 0) in
    tree.walks.lines_at 0
    ∙ ap₂ (λ (x y : List Line). (x ++ flat_map (opens T) (attrs_of T 0)) ++ (kids ++ y)) parts.0 parts.1
    ∙ ap₂ (λ (ats : List ℕ) (y : List Line). flat_map (opens T) ats ++ y) (root-attributes T tree.formed) (append-nil kids)
    ∙ item-lines-are T tree.formed (length T) 0 (kids_of T 0) (kids-are T tree.formed 0)

tree-nodes : (T : Table) → IsTree T → 1 + item_nodes (items_of T) ≤ MAX_LIVE_NODES
tree-nodes T tree =
    let below-root : order T ≡ 0 ∷ (attrs_of T 0 ++ flat_map (below T) (kids_of T 0)) = tree.ordered.below_at 0 in
    let all : order T ≡ 0 ∷ flat_map (below T) (kids_of T 0) = below-root ∙ ap (λ (ats : List ℕ). 0 ∷ (ats ++ flat_map (below T) (kids_of T 0))) (root-attributes T tree.formed) in
    let count : item_nodes (items_of T) ≡ length (flat_map (below T) (kids_of T 0)) = item-nodes-are T tree.formed (length T) 0 (kids_of T 0) (kids-are T tree.formed 0) in
    omega (arith, ap length all, count, tree.formed.few_nodes)

-- the items of a tree around which these declarations are in scope
tree-fits : (around : List Decl) (T : Table) → IsTree T → PieceInScope around T → Fit around 0 false (items_of T)
tree-fits around T tree scoped =
    let parts = root-opens (content_of T 0) tree.formed.root_kind in
    let fit : Fit (scope_at T 0 ++ around) (length (ancestors T 0)) false (items_of T) =
    items-fit around T tree scoped (length T) 0 (kids_of T 0) (kids-are T tree.formed 0) (texts-are T (kids_of T 0) (tree.formed.texts_apart 0)) in
    let scope : scope_at T 0 ≡ [] = tree.scopes.at_top 0 tree.formed.root_parent ∙ parts.2 in
    let depth : length (ancestors T 0) ≡ 0 = ap length (tree.ways.no_ancestors 0 tree.formed.root_parent) in
    let P : List Decl → Type 0 = λ s. Fit (s ++ around) (length (ancestors T 0)) false (items_of T) in
    let Q : ℕ → Type 0 = λ d. Fit around d false (items_of T) in
    subst Q depth (subst P scope fit)

-- around a document no declaration is in scope
none-around : (T : Table) → InScope T → PieceInScope [] T
none-around T scoped m =
    let P : List Decl → Type 0 = λ s. ContentInScope s (content_of T m) in
    subst P (sym (append-nil (scope_at T m))) (scoped m)

-- the top of a document
pub tree-tops : (T : Table) → WellFormed T → is_document T ≡ true → (top_elements (items_of T) ≡ 1) × (top_texts (items_of T) ≡ 0)
tree-tops [] formed is = absurd (let none : kind_of [] 0 ≡ Some Root = formed.root_kind in cc)
tree-tops (entry ∷ T) formed is =
    let parts = and_parts (count_by (λ k. is_element (kind_of (entry ∷ T) k)) (kids_of (entry ∷ T) 0) == 1) (count_by (λ k. is_text (kind_of (entry ∷ T) k)) (kids_of (entry ∷ T) 0) == 0) is in
    let tops = item-tops-are (entry ∷ T) (length T) 0 (kids_of (entry ∷ T) 0) (kids-are (entry ∷ T) formed 0) in
    (tops.0 ∙ eqb-true _ _ parts.0, tops.1 ∙ eqb-true _ _ parts.1)

-- the events of the text
pub text-gives : (T : Table) → IsTree T → InScope T → is_document T ≡ true → QNamesSplit → WrittenIsReadBack → Gives Document (tree_text T) (item_events (items_of T))
text-gives T tree scoped is splits back =
    let tops = tree-tops T tree.formed is in
    let spells : text_of (item_events (items_of T)) ≡ tree_text T = sym (ap (flat_map line_text) (tree-lines T tree) ∙ item_text (items_of T)) in
    let nest : Nest Document start (item_events (items_of T)) = items-nest splits [] 0 (items_of T) [] false false (tree-fits [] T tree (none-around T scoped)) (tops.1, omega (arith, tops.0)) in
    let P : List ℕ → Type 0 = λ bytes. Gives Document bytes (item_events (items_of T)) in
    subst P spells (back.nested Document (item_events (items_of T)) nest (items-end (items_of T) tops.0))

pub comes-back : (T : Table) → IsTree T → QNamesSplit → WrittenIsReadBack → InScope T → is_document T ≡ true → ComesBack T
comes-back T tree splits back scoped is =
    let gives = text-gives T tree scoped is splits back in
    let fit = tree-fits [] T tree (none-around T scoped) in
    let none : NoFault begin (item_events (items_of T)) = items-none splits (items_of T) false [] 1 fit (tree-nodes T tree) in
    let P : List Event → Type 0 = λ events. NoFault begin events in
    let bare-none : NoFault begin (bare (events_of Document (tree_text T))) = subst P (sym gives.events_are) none in
    let events : events_before_fault Document (tree_text T) ≡ events_of Document (tree_text T) = ap (events_unless Document (tree_text T)) gives.good in
    let first : first_fault begin (events_before_fault Document (tree_text T)) ≡ None = ap (first_fault begin) events ∙ first-none begin (events_of Document (tree_text T)) bare-none in
    record {
      is_read = gives.good;
      good = doc-fault-is (tree_text T) None first gives.good;
      lines_are = ap (map unscoped) (tree-lines T tree) ∙ items-again splits [] 0 false (items_of T) fit ∙ ap (flat_map said_by) (sym gives.events_are);
    }

-- namespaces follow from the lines without them
tree-resolved : (around : List Decl) (T : Table) → IsTree T → PieceInScope around T → resolved (around ∷ []) (map unscoped (lines T)) ≡ lines T
tree-resolved around T tree scoped =
    let whole : resolved (around ∷ []) (map unscoped (item_lines (items_of T)) ++ []) ≡ item_lines (items_of T) ++ [] = items-resolved around [] 0 false (items_of T) [] (tree-fits around T tree scoped) in
    ap (λ (l : List Line). resolved (around ∷ []) (map unscoped l)) (tree-lines T tree)
    ∙ ap (resolved (around ∷ [])) (sym (append-nil (map unscoped (item_lines (items_of T)))))
    ∙ whole ∙ append-nil (item_lines (items_of T)) ∙ sym (tree-lines T tree)

-- also where declarations are in scope around both
pub follow-within : (around : List Decl) (T U : Table) → IsTree T → IsTree U → PieceInScope around T → PieceInScope around U → map unscoped (lines T) ≡ map unscoped (lines U) → lines T ≡ lines U
follow-within around T U one other in_one in_other same = sym (tree-resolved around T one in_one) ∙ ap (resolved (around ∷ [])) same ∙ tree-resolved around U other in_other

pub follow : (T U : Table) → IsTree T → IsTree U → InScope T → InScope U → map unscoped (lines T) ≡ map unscoped (lines U) → lines T ≡ lines U
follow T U one other in_one in_other same = follow-within [] T U one other (none-around T in_one) (none-around U in_other) same
