-- The events of items nest.
use Rattle.std.proofs.Common.{◌≡◌, ℕ, suc, ◌+◌, ◌≤◌, Bool, true, false, ◌&&◌, List, [], ◌∷◌, ◌++◌, refl, sym, ap, ◌∙◌, subst, arith}
use Rattle.sch_base.specs.Names.{QNamesSplit}
use Rattle.std.specs.Prelude.{if◌then◌else◌}
use Rattle.sch_base.specs.Lists.{is_nil}
use Rattle.pyx_core.specs.declared.event.Event.{Event}
use Rattle.pyx_core.specs.declared.event.Event.TheVariants as event
use Rattle.pyx_core.specs.declared.mode.Mode.TheVariants.{Document}
use Rattle.pyx_core.specs.Nesting.{Place, after, Nest, place_after, start, IsEnd}
use Rattle.doc_tree.specs.Scope.{Decl}
use Rattle.doc_tree.specs.Table.{Name}
use Rattle.doc_tree.specs.QNames.{qname_of}
use Rattle.name_scopes.proofs.Items.{Items, nothing, an_element, a_text, a_comment, an_instruction, Pair, Fit, item_events, top_elements, top_texts}
use Rattle.name_scopes.proofs.ItemNames.{spelled, tag-named}

pub nest-append : (place : Place) (front back : List Event) → Nest Document place front → Nest Document (place_after Document place front) back → Nest Document place (front ++ back)
nest-append place [] back one other = other
nest-append place (e ∷ front) back one other = (one.0, nest-append (after Document place e) front back one.1 other)

pub place-append : (place : Place) (front back : List Event) → place_after Document place (front ++ back) ≡ place_after Document (place_after Document place front) back
place-append place [] back = refl
place-append place (e ∷ front) back = place-append (after Document place e) front back

-- a place by its parts
abbrev pub at : List (List ℕ) → Bool → Bool → Place
at opened begun behind = record { opened = opened; begun = begun; after_chars = behind }

-- whether a text stands last
abbrev pub text_last : Bool → Items → Bool
text_last behind nothing = behind
text_last behind (an_element name decls attrs kids rest) = text_last false rest
text_last behind (a_text characters rest) = text_last true rest
text_last behind (a_comment characters rest) = text_last false rest
text_last behind (an_instruction name body rest) = text_last false rest

-- whether an element or a text stands among them, or one stood before
abbrev pub begun_by : Bool → Items → Bool
begun_by begun nothing = begun
begun_by begun (an_element name decls attrs kids rest) = begun_by true rest
begun_by begun (a_text characters rest) = begun_by true rest
begun_by begun (a_comment characters rest) = begun_by begun rest
begun_by begun (an_instruction name body rest) = begun_by begun rest

still-begun : (items : Items) → begun_by true items ≡ true
still-begun nothing = refl
still-begun (an_element name decls attrs kids rest) = still-begun rest
still-begun (a_text characters rest) = still-begun rest
still-begun (a_comment characters rest) = still-begun rest
still-begun (an_instruction name body rest) = still-begun rest

-- the place after items
pub behind-items : (items : Items) (opened : List (List ℕ)) (begun behind : Bool) →
    place_after Document (at opened begun behind) (item_events items) ≡ at opened (begun_by begun items) (text_last behind items)
behind-items nothing opened begun behind = refl
behind-items (an_element name decls attrs kids rest) opened begun behind =
    place-append (at (qname_of name ∷ opened) true false) (item_events kids) (event.End (qname_of name) ∷ item_events rest)
    ∙ ap (λ (p : Place). place_after Document p (event.End (qname_of name) ∷ item_events rest)) (behind-items kids (qname_of name ∷ opened) true false)
    ∙ ap (λ (b : Bool). place_after Document (at opened b false) (item_events rest)) (still-begun kids)
    ∙ behind-items rest opened true false
behind-items (a_text characters rest) opened begun behind = behind-items rest opened true true
behind-items (a_comment characters rest) opened begun behind = behind-items rest opened begun false
behind-items (an_instruction name body rest) opened begun behind = behind-items rest opened begun false

abbrev one_if : Bool → ℕ
one_if b = if b then 1 else 0

-- at the top there is one element, and no text
abbrev pub Tops : List (List ℕ) → Bool → Items → Type 0
Tops [] begun items = (top_texts items ≡ 0) × (top_elements items + one_if begun ≤ 1)
Tops (name ∷ names) begun items = Unit {0}

tops-element : (opened : List (List ℕ)) (begun : Bool) (name : Name) (decls : List Decl) (attrs : List Pair) (kids rest : Items) → Tops opened begun (an_element name decls attrs kids rest) →
    ((is_nil opened && begun) ≡ false) × Tops opened true rest
tops-element [] true name decls attrs kids rest tops = absurd (let least : suc (top_elements rest) + 1 ≤ 1 = tops.1 in omega arith)
tops-element [] false name decls attrs kids rest tops = (refl, (tops.0, let least : suc (top_elements rest) + 0 ≤ 1 = tops.1 in omega arith))
tops-element (n ∷ names) begun name decls attrs kids rest tops = (refl, tt)

tops-text : (opened : List (List ℕ)) (begun : Bool) (characters : List ℕ) (rest : Items) → Tops opened begun (a_text characters rest) → (is_nil opened ≡ false) × Tops opened true rest
tops-text [] begun characters rest tops = absurd (let none : suc (top_texts rest) ≡ 0 = tops.0 in omega arith)
tops-text (n ∷ names) begun characters rest tops = (refl, tt)

tops-other : (opened : List (List ℕ)) (begun : Bool) (items rest : Items) → top_texts items ≡ top_texts rest → top_elements items ≡ top_elements rest → Tops opened begun items → Tops opened begun rest
tops-other [] begun items rest texts elements tops = (sym texts ∙ tops.0, omega (arith, elements, tops.1))
tops-other (n ∷ names) begun items rest texts elements tops = tt

no_fragment : {A : Type 0} → false ≡ true → A
no_fragment h = absurd (cc)

pub items-nest : QNamesSplit → (scope : List Decl) (depth : ℕ) (items : Items) (opened : List (List ℕ)) (begun behind : Bool) → Fit scope depth behind items → Tops opened begun items →
    Nest Document (at opened begun behind) (item_events items)
items-nest splits scope depth nothing opened begun behind fit tops = tt
items-nest splits scope depth (an_element name decls attrs kids rest) opened begun behind fit tops =
    let top = tops-element opened begun name decls attrs kids rest tops in
    let within : Nest Document (at (qname_of name ∷ opened) true false) (item_events kids) =
    items-nest splits (decls ++ scope) (suc depth) kids (qname_of name ∷ opened) true false fit.2 tt in
    let later : Nest Document (at opened true false) (item_events rest) = items-nest splits scope depth rest opened true false fit.3 top.1 in
    let place : place_after Document (at (qname_of name ∷ opened) true false) (item_events kids) ≡ at (qname_of name ∷ opened) true (text_last false kids) =
    behind-items kids (qname_of name ∷ opened) true false ∙ ap (λ (b : Bool). at (qname_of name ∷ opened) b (text_last false kids)) (still-begun kids) in
    let ended : Nest Document (at (qname_of name ∷ opened) true (text_last false kids)) (event.End (qname_of name) ∷ item_events rest) = (refl, later) in (
      record {
        room = top.0;
        named = (spelled splits name fit.0.element.named).named;
        attributes = tag-named splits (decls ++ scope) decls attrs fit.0.element.declared fit.0.attributes;
      },
      nest-append (at (qname_of name ∷ opened) true false) (item_events kids) (event.End (qname_of name) ∷ item_events rest) within
          (let P : Place → Type 0 = λ p. Nest Document p (event.End (qname_of name) ∷ item_events rest) in subst P (sym place) ended),
    )
items-nest splits scope depth (a_text characters rest) opened begun behind fit tops =
    let top = tops-text opened begun characters rest tops in
    (record { inside = λ h. top.0; room = λ h. no_fragment h; apart = fit.0; some = fit.1; made = fit.2 }, items-nest splits scope depth rest opened true true fit.3 top.1)
items-nest splits scope depth (a_comment characters rest) opened begun behind fit tops =
    (record { room = λ h. no_fragment h; made = fit.0 }, items-nest splits scope depth rest opened begun false fit.1 (tops-other opened begun (a_comment characters rest) rest refl refl tops))
items-nest splits scope depth (an_instruction name body rest) opened begun behind fit tops =
    (record { room = λ h. no_fragment h; named = fit.0.named; made = fit.0.made }, items-nest splits scope depth rest opened begun false fit.1 (tops-other opened begun (an_instruction name body rest) rest refl refl tops))

-- with one element at the top, the events may end after the items
begun-at : (items : Items) → top_elements items ≡ 1 → begun_by false items ≡ true
begun-at nothing one = absurd (cc)
begun-at (an_element name decls attrs kids rest) one = still-begun rest
begun-at (a_text characters rest) one = still-begun rest
begun-at (a_comment characters rest) one = begun-at rest one
begun-at (an_instruction name body rest) one = begun-at rest one

pub items-end : (items : Items) → top_elements items ≡ 1 → IsEnd (place_after Document start (item_events items))
items-end items one =
    let place : place_after Document start (item_events items) ≡ at [] (begun_by false items) (text_last false items) = behind-items items [] false false in
    record { begun = ap (λ (p : Place). p.begun) place ∙ begun-at items one; closed = ap (λ (p : Place). p.opened) place }
