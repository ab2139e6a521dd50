-- How the events of the document of a schema nest.
use Rattle.std.proofs.Common.{◌≡◌, Bool, true, false, not, ◌&&◌, List, [], ◌∷◌, ◌++◌, Option, None, Some, ℕ, refl, sym, ap, ◌∙◌, subst, append_assoc, append-nil}
use Rattle.std.specs.List.{flat_map, list_all}
use Rattle.std.proofs.lemmas.Bool.{and_parts}
use Rattle.std.proofs.lemmas.List.Folds.{list_all-append}
use Rattle.sch_base.specs.Lists.{is_nil}
use Rattle.pyx_core.specs.declared.event.Attr.{Attr}
use Rattle.pyx_core.specs.declared.event.Event.{Event}
use Rattle.pyx_core.specs.declared.event.Event.TheVariants.{Start, End, Chars, Pi, Comment}
use Rattle.pyx_core.specs.declared.mode.Mode.TheVariants.{Document}
use Rattle.pyx_core.specs.Before.{outer}
use Rattle.pyx_core.specs.Nesting.{Place, HasRoom, Nest, IsEnd, after, is_attr, is_name, of_chars, place_after, start}
use Rattle.sch_flat.specs.FlatDocument.{characters, element, only_given}
use Rattle.sch_flat_laws.specs.FlatText.{are_apart, is_made}

-- the events nest at a place and leave inner what was inner there, and what follows them stands apart
pub record Nests (place : Place) (events later : List Event) : Type 0 where
  pub nest : Nest Document place events
  pub opened : (place_after Document place events).opened ≡ place.opened
  pub apart : are_apart (place_after Document place events).after_chars later ≡ true

-- so they do in any element
pub record Inside (events : List Event) : Type 0 where
  pub goes : (place : Place) (later : List Event) → is_nil place.opened ≡ false → list_all is_made events ≡ true →
      are_apart place.after_chars (events ++ later) ≡ true → Nests place events later

place-append : (place : Place) (xs ys : List Event) → place_after Document place (xs ++ ys) ≡ place_after Document (place_after Document place xs) ys
place-append place [] ys = refl
place-append place (x ∷ xs) ys = place-append (after Document place x) xs ys

nest-append : (place : Place) (xs ys : List Event) → Nest Document place xs → Nest Document (place_after Document place xs) ys → Nest Document place (xs ++ ys)
nest-append place [] ys h k = k
nest-append place (x ∷ xs) ys h k = (h.0, nest-append (after Document place x) xs ys h.1 k)

made_parts : (xs ys : List Event) → list_all is_made (xs ++ ys) ≡ true → (list_all is_made xs ≡ true) × (list_all is_made ys ≡ true)
made_parts xs ys h = and_parts (list_all is_made xs) (list_all is_made ys) (sym (list_all-append is_made xs ys) ∙ h)

pub inside_nil : Inside []
inside_nil = record { goes = λ place later inner made apart. record { nest = tt; opened = refl; apart = apart } }

pub inside_append : (xs ys : List Event) → Inside xs → Inside ys → Inside (xs ++ ys)
inside_append xs ys first last = record { goes = go }
  where
    go : (place : Place) (later : List Event) → is_nil place.opened ≡ false → list_all is_made (xs ++ ys) ≡ true →
        are_apart place.after_chars ((xs ++ ys) ++ later) ≡ true → Nests place (xs ++ ys) later
    go place later inner made apart =
        let parts = made_parts xs ys made in
        let a : Nests place xs (ys ++ later) =
        first.goes place (ys ++ later) inner parts.0 (subst (λ (l : List Event). are_apart place.after_chars l ≡ true) (append_assoc xs ys later) apart) in
        let b : Nests (place_after Document place xs) ys later =
        last.goes (place_after Document place xs) later (ap is_nil a.opened ∙ inner) parts.1 a.apart in
        let at = place-append place xs ys in
        record {
          nest = nest-append place xs ys a.nest b.nest;
          opened = ap (λ (p : Place). p.opened) at ∙ (b.opened ∙ a.opened);
          apart = ap (λ (p : Place). are_apart p.after_chars later) at ∙ b.apart;
        }

pub inside_all : {A : Type 0} (f : A → List Event) → ((x : A) → Inside (f x)) → (xs : List A) → Inside (flat_map f xs)
inside_all f each [] = inside_nil
inside_all f each (x ∷ xs) = inside_append (f x) (flat_map f xs) (each x) (inside_all f each xs)

not-true : (b : Bool) → not b ≡ true → b ≡ false
not-true true h = absurd (cc)
not-true false h = refl

pub inside_characters : (text : List ℕ) → Inside (characters text)
inside_characters [] = inside_nil
inside_characters (byte ∷ text) = record { goes = go }
  where
    go : (place : Place) (later : List Event) → is_nil place.opened ≡ false → list_all is_made (characters (byte ∷ text)) ≡ true →
        are_apart place.after_chars (characters (byte ∷ text) ++ later) ≡ true → Nests place (characters (byte ∷ text)) later
    go place later inner made apart =
        let split = and_parts (not place.after_chars) (are_apart true later) apart in
        record {
          nest = (
            record {
              inside = λ _. inner;
              room = λ h. absurd (cc);
              apart = not-true place.after_chars split.0;
              some = λ h. absurd (cc);
              made = (and_parts (of_chars (byte ∷ text)) true made).0;
            },
            tt,
          );
          opened = refl;
          apart = split.1;
        }

attrs-fit : (attributes : List (List ℕ × Option (List ℕ))) → list_all (λ a. is_name a.0) attributes ≡ true →
    list_all (λ (attr : Attr). of_chars attr.value) (only_given attributes) ≡ true → list_all is_attr (only_given attributes) ≡ true
attrs-fit [] names made = refl
attrs-fit ((name, None) ∷ rest) names made =
    attrs-fit rest (and_parts (is_name name) (list_all (λ a. is_name a.0) rest) names).1 made
attrs-fit ((name, Some value) ∷ rest) names made =
    let n = and_parts (is_name name) (list_all (λ a. is_name a.0) rest) names in
    let m = and_parts (of_chars value) (list_all (λ (attr : Attr). of_chars attr.value) (only_given rest)) made in
    rw (n.0, m.0) (attrs-fit rest n.1 m.1)

-- an element where one may begin
pub element_nests : (name : List ℕ) (attributes : List (List ℕ × Option (List ℕ))) (held : List Event) →
    is_name name ≡ true → list_all (λ a. is_name a.0) attributes ≡ true → Inside held →
    (place : Place) (later : List Event) → HasRoom place → list_all is_made (element name attributes held) ≡ true →
    are_apart place.after_chars (element name attributes held ++ later) ≡ true → Nests place (element name attributes held) later
element_nests name attributes held named names inside place later room made apart =
    let first = after Document place (Start name (only_given attributes)) in
    let split = and_parts (is_made (Start name (only_given attributes))) (list_all is_made (held ++ End name ∷ [])) made in
    let h : Nests first held (End name ∷ later) =
    inside.goes first (End name ∷ later) refl (made_parts held (End name ∷ []) split.1).0
    (subst (λ (l : List Event). are_apart false l ≡ true) (append_assoc held (End name ∷ []) later) apart) in
    let at = place-append first held (End name ∷ []) in
    record {
      nest = (
        record { room = room; named = named; attributes = attrs-fit attributes names split.0 },
        nest-append first held (End name ∷ []) h.nest (h.opened ∙ ap (λ l. name ∷ l) (sym (ap outer h.opened)), tt),
      );
      opened = ap (λ (p : Place). p.opened) at ∙ ap outer h.opened;
      apart = ap (λ (p : Place). are_apart p.after_chars later) at ∙ h.apart;
    }

room-inside : (opened : List (List ℕ)) (begun : Bool) → is_nil opened ≡ false → (is_nil opened && begun) ≡ false
room-inside [] begun h = absurd (cc)
room-inside (o ∷ os) begun h = refl

pub inside_element : (name : List ℕ) (attributes : List (List ℕ × Option (List ℕ))) (held : List Event) →
    is_name name ≡ true → list_all (λ a. is_name a.0) attributes ≡ true → Inside held → Inside (element name attributes held)
inside_element name attributes held named names inside = record {
  goes = λ place later inner. element_nests name attributes held named names inside place later (room-inside place.opened place.begun inner);
}

-- a whole document
pub document_nests : (name : List ℕ) (attributes : List (List ℕ × Option (List ℕ))) (held : List Event) →
    is_name name ≡ true → list_all (λ a. is_name a.0) attributes ≡ true → Inside held →
    list_all is_made (element name attributes held) ≡ true → are_apart false (element name attributes held) ≡ true →
    Nest Document start (element name attributes held) × IsEnd (place_after Document start (element name attributes held))
document_nests name attributes held named names inside made apart =
    let n = element_nests name attributes held named names inside start [] refl made
    (subst (λ (l : List Event). are_apart false l ≡ true) (sym (append-nil (element name attributes held))) apart) in
    (n.nest, record { begun = begun-stays; closed = n.opened })
  where
    stays : (place : Place) (xs : List Event) → place.begun ≡ true → (place_after Document place xs).begun ≡ true
    stays place [] h = h
    stays place (Start n attrs ∷ xs) h = stays (after Document place (Start n attrs)) xs refl
    stays place (End n ∷ xs) h = stays (after Document place (End n)) xs h
    stays place (Chars text ∷ xs) h = stays (after Document place (Chars text)) xs refl
    stays place (Pi target body ∷ xs) h = stays (after Document place (Pi target body)) xs h
    stays place (Comment text ∷ xs) h = stays (after Document place (Comment text)) xs h

    begun-stays : (place_after Document start (element name attributes held)).begun ≡ true
    begun-stays = stays (after Document start (Start name (only_given attributes))) (held ++ End name ∷ []) refl
