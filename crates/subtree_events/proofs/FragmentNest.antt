-- The events of one item nest as those of a fragment.
use Rattle.std.proofs.Common.{◌≡◌, ℕ, suc, Bool, true, false, List, [], ◌∷◌, ◌++◌, refl, sym, ap, ◌∙◌, subst, true≢false}
use Rattle.sch_base.specs.Names.{QNamesSplit}
use Rattle.pyx_core.specs.declared.event.Event.{Event}
use Rattle.pyx_core.specs.declared.event.Event.TheVariants as event
use Rattle.pyx_core.specs.declared.mode.Mode.TheVariants.{Fragment}
use Rattle.pyx_core.specs.Nesting.{Nest, Place, after, place_after, start}
use Rattle.doc_tree.specs.Scope.{Decl}
use Rattle.doc_tree.specs.Table.{Name}
use Rattle.doc_tree.specs.QNames.{qname_of}
use Rattle.name_scopes.specs.Fragments.{IsFragment}
use Rattle.name_scopes.proofs.ItemNames.{spelled, tag-named}
use Rattle.name_scopes.proofs.ItemNest.{at, text_last}
use Rattle.name_scopes.proofs.Items.{Items, nothing, an_element, a_text, a_comment, an_instruction, Fit, Pair, TagFits, item_events}

nest-append : (place : Place) (front back : List Event) → Nest Fragment place front → Nest Fragment (place_after Fragment place front) back → Nest Fragment place (front ++ back)
nest-append place [] back one other = other
nest-append place (e ∷ front) back one other = (one.0, nest-append (after Fragment place e) front back one.1 other)

place-append : (place : Place) (front back : List Event) → place_after Fragment place (front ++ back) ≡ place_after Fragment (place_after Fragment place front) back
place-append place [] back = refl
place-append place (e ∷ front) back = place-append (after Fragment place e) front back

-- the place after items inside an element
behind-items : (items : Items) (opened : List (List ℕ)) (behind : Bool) → place_after Fragment (at opened true behind) (item_events items) ≡ at opened true (text_last behind items)
behind-items nothing opened behind = refl
behind-items (an_element name decls attrs kids rest) opened behind =
    place-append (at (qname_of name ∷ opened) true false) (item_events kids) (event.End (qname_of name) ∷ item_events rest)
    ∙ ap (λ (p : Place). place_after Fragment p (event.End (qname_of name) ∷ item_events rest)) (behind-items kids (qname_of name ∷ opened) false)
    ∙ behind-items rest opened false
behind-items (a_text characters rest) opened behind = behind-items rest opened true
behind-items (a_comment characters rest) opened behind = behind-items rest opened false
behind-items (an_instruction name body rest) opened behind = behind-items rest opened false

-- what is left of an element, once its start tag is there
closed : (name : Name) (kids : Items) (opened : List (List ℕ)) (later : List Event) → Nest Fragment (at (qname_of name ∷ opened) true false) (item_events kids) →
    Nest Fragment (at opened true false) later → Nest Fragment (at (qname_of name ∷ opened) true false) (item_events kids ++ event.End (qname_of name) ∷ later)
closed name kids opened later within rest =
    let ended : Nest Fragment (at (qname_of name ∷ opened) true (text_last false kids)) (event.End (qname_of name) ∷ later) = (refl, rest) in
    nest-append (at (qname_of name ∷ opened) true false) (item_events kids) (event.End (qname_of name) ∷ later) within
    (let P : Place → Type 0 = λ p. Nest Fragment p (event.End (qname_of name) ∷ later) in subst P (sym (behind-items kids (qname_of name ∷ opened) false)) ended)

never : {A : Type 0} → true ≡ false → A
never h = absurd (true≢false h)

items-inside : QNamesSplit → (scope : List Decl) (depth : ℕ) (items : Items) (first : List ℕ) (opened : List (List ℕ)) (behind : Bool) → Fit scope depth behind items →
    Nest Fragment (at (first ∷ opened) true behind) (item_events items)
items-inside splits scope depth nothing first opened behind fit = tt
items-inside splits scope depth (an_element name decls attrs kids rest) first opened behind fit = (
  record {
    room = refl;
    named = (spelled splits name fit.0.element.named).named;
    attributes = tag-named splits (decls ++ scope) decls attrs fit.0.element.declared fit.0.attributes;
  },
  closed name kids (first ∷ opened) (item_events rest) (items-inside splits (decls ++ scope) (suc depth) kids (qname_of name) (first ∷ opened) false fit.2)
      (items-inside splits scope depth rest first opened false fit.3),
)
items-inside splits scope depth (a_text characters rest) first opened behind fit = (
  record { inside = λ h. never h; room = λ h. refl; apart = fit.0; some = fit.1; made = fit.2 },
  items-inside splits scope depth rest first opened true fit.3,
)
items-inside splits scope depth (a_comment characters rest) first opened behind fit =
    (record { room = λ h. refl; made = fit.0 }, items-inside splits scope depth rest first opened false fit.1)
items-inside splits scope depth (an_instruction name body rest) first opened behind fit =
    (record { room = λ h. refl; named = fit.0.named; made = fit.0.made }, items-inside splits scope depth rest first opened false fit.1)

-- one item, and nothing after it
abbrev pub IsOne : Items → Type 0
IsOne nothing = ⊥
IsOne (an_element name decls attrs kids rest) = rest ≡ nothing
IsOne (a_text characters rest) = rest ≡ nothing
IsOne (a_comment characters rest) = rest ≡ nothing
IsOne (an_instruction name body rest) = rest ≡ nothing

element-fragment : QNamesSplit → (scope : List Decl) (depth : ℕ) (name : Name) (decls : List Decl) (attrs : List Pair) (kids : Items) → TagFits (decls ++ scope) name decls attrs →
    Fit (decls ++ scope) (suc depth) false kids → IsFragment (item_events (an_element name decls attrs kids nothing))
element-fragment splits scope depth name decls attrs kids tag fit =
    let place : place_after Fragment start (item_events (an_element name decls attrs kids nothing)) ≡ at [] true false =
    place-append (at (qname_of name ∷ []) true false) (item_events kids) (event.End (qname_of name) ∷ [])
    ∙ ap (λ (p : Place). place_after Fragment p (event.End (qname_of name) ∷ [])) (behind-items kids (qname_of name ∷ []) false) in
    record {
      nest = (
        record {
          room = refl;
          named = (spelled splits name tag.element.named).named;
          attributes = tag-named splits (decls ++ scope) decls attrs tag.element.declared tag.attributes;
        },
        closed name kids [] [] (items-inside splits (decls ++ scope) (suc depth) kids (qname_of name) [] false fit) tt,
      );
      end = record { begun = ap (λ (p : Place). p.begun) place; closed = ap (λ (p : Place). p.opened) place };
    }

pub item-fragment : QNamesSplit → (scope : List Decl) (depth : ℕ) (items : Items) → Fit scope depth false items → IsOne items → IsFragment (item_events items)
item-fragment splits scope depth nothing fit one = absurd one
item-fragment splits scope depth (an_element name decls attrs kids rest) fit one =
    subst (λ (r : Items). IsFragment (item_events (an_element name decls attrs kids r))) (sym one) (element-fragment splits scope depth name decls attrs kids fit.0 fit.2)
item-fragment splits scope depth (a_text characters rest) fit one =
    subst (λ (r : Items). IsFragment (item_events (a_text characters r))) (sym one) (record {
      nest = (record { inside = λ h. never h; room = λ h. refl; apart = refl; some = fit.1; made = fit.2 }, tt);
      end = record { begun = refl; closed = refl };
    })
item-fragment splits scope depth (a_comment characters rest) fit one =
    subst (λ (r : Items). IsFragment (item_events (a_comment characters r))) (sym one) (record {
      nest = (record { room = λ h. refl; made = fit.0 }, tt);
      end = record { begun = refl; closed = refl };
    })
item-fragment splits scope depth (an_instruction name body rest) fit one =
    subst (λ (r : Items). IsFragment (item_events (an_instruction name body r))) (sym one) (record {
      nest = (record { room = λ h. refl; named = fit.0.named; made = fit.0.made }, tt);
      end = record { begun = refl; closed = refl };
    })
