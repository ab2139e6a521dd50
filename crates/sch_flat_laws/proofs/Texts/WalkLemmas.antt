-- Events that break no rule of names and pass no limit, one after the other.
use Rattle.std.proofs.Common.{arith, ◌≡◌, ℕ, suc, ◌+◌, ◌≤◌, true, false, List, [], ◌∷◌, ◌++◌, length, Option, None, refl, sym, ap, ◌∙◌, subst}
use Rattle.std.proofs.lemmas.Bool.{le-ltb}
use Rattle.std.specs.Prelude.{codes, nat_lt}
use Rattle.std.specs.List.{flat_map}
use Rattle.pyx_core.specs.declared.event.Attr.{Attr}
use Rattle.pyx_core.specs.declared.event.Event.{Event}
use Rattle.pyx_core.specs.declared.event.Event.TheVariants.{End}
use Rattle.pyx_core.specs.declared.event.Located.{Located}
use Rattle.pyx_core.specs.Nesting.{bare}
use Rattle.doc_tree.specs.limits.TheConstants.{MAX_DEPTH, MAX_LIVE_NODES}
use Rattle.doc_tree.specs.Scope.{Decl}
use Rattle.name_scopes.specs.Declarations.{declarations}
use Rattle.name_scopes.specs.QNames.{prefix_part}
use Rattle.name_scopes.specs.DocFaults.{Standing, event_fault, first_fault, in_scope, limit_fault, moved, start_fault, tag_fault, tag_nodes}
use Rattle.sch_flat.specs.FlatDocument.{characters, element, only_given}
use Rattle.sch_flat.specs.FlatSize.{nodes_of}
use Rattle.sch_flat_laws.proofs.Texts.NameLemmas.{Simple, are_simple, has_sch, simple, tag_is_free}

-- each of the events is without fault, after those before it
abbrev pub Sound : Standing → List Event → Type 0
Sound standing [] = Unit {0}
Sound standing (event ∷ events) = (event_fault standing event ≡ None) × Sound (moved standing event) events

-- how things stand after the events
abbrev pub moved_on : Standing → List Event → Standing
moved_on standing [] = standing
moved_on standing (event ∷ events) = moved_on (moved standing event) events

-- in whatever lines they are found
pub no_fault : (standing : Standing) (found : List Located) → Sound standing (bare found) → first_fault standing found ≡ None
no_fault standing [] sound = refl
no_fault standing (one ∷ found) sound = rw sound.0 (no_fault (moved standing one.event) found sound.1)

sound-append : (standing : Standing) (xs ys : List Event) → Sound standing xs → Sound (moved_on standing xs) ys → Sound standing (xs ++ ys)
sound-append standing [] ys h k = k
sound-append standing (x ∷ xs) ys h k = (h.0, sound-append (moved standing x) xs ys h.1 k)

moved-append : (standing : Standing) (xs ys : List Event) → moved_on standing (xs ++ ys) ≡ moved_on (moved_on standing xs) ys
moved-append standing [] ys = refl
moved-append standing (x ∷ xs) ys = moved-append (moved standing x) xs ys

pub nodes_append : (xs ys : List Event) → nodes_of (xs ++ ys) ≡ nodes_of xs + nodes_of ys
nodes_append [] ys = omega arith
nodes_append (x ∷ xs) ys = omega (arith, nodes_append xs ys)

abbrev pub stand : List (List Decl) → ℕ → Standing
stand scopes nodes = record { scopes = scopes; nodes = nodes }

-- the events have no fault, and leave open what was open
pub record Goes (scopes : List (List Decl)) (nodes : ℕ) (events : List Event) : Type 0 where
  pub sound : Sound (stand scopes nodes) events
  pub moved_is : moved_on (stand scopes nodes) events ≡ stand scopes (nodes + nodes_of events)

-- so they do wherever the prefix `sch` is in scope, so many levels remain, and so many nodes
pub record Clean (levels : ℕ) (events : List Event) : Type 0 where
  pub goes : (scopes : List (List Decl)) (nodes : ℕ) → has_sch (in_scope scopes) ≡ true → length scopes + levels ≤ MAX_DEPTH →
      nodes + nodes_of events ≤ MAX_LIVE_NODES → Goes scopes nodes events

pub clean_nil : (levels : ℕ) → Clean levels []
clean_nil levels = record {
  goes = λ scopes nodes declared deep many. record { sound = tt; moved_is = ap (stand scopes) (omega arith) };
}

pub clean_append : (levels : ℕ) (xs ys : List Event) → Clean levels xs → Clean levels ys → Clean levels (xs ++ ys)
clean_append levels xs ys first last = record { goes = go }
  where
    go : (scopes : List (List Decl)) (nodes : ℕ) → has_sch (in_scope scopes) ≡ true → length scopes + levels ≤ MAX_DEPTH →
        nodes + nodes_of (xs ++ ys) ≤ MAX_LIVE_NODES → Goes scopes nodes (xs ++ ys)
    go scopes nodes declared deep many =
        let a : Goes scopes nodes xs = first.goes scopes nodes declared deep (omega (arith, many, nodes_append xs ys)) in
        let b : Goes scopes (nodes + nodes_of xs) ys = last.goes scopes (nodes + nodes_of xs) declared deep (omega (arith, many, nodes_append xs ys)) in
        record {
          sound = sound-append (stand scopes nodes) xs ys a.sound (subst (λ (s : Standing). Sound s ys) (sym a.moved_is) b.sound);
          moved_is = moved-append (stand scopes nodes) xs ys
              ∙ ap (λ (s : Standing). moved_on s ys) a.moved_is
              ∙ b.moved_is
              ∙ ap (stand scopes) (omega (arith, nodes_append xs ys));
        }

pub clean_all : {A : Type 0} (levels : ℕ) (f : A → List Event) → ((x : A) → Clean levels (f x)) → (xs : List A) → Clean levels (flat_map f xs)
clean_all levels f each [] = clean_nil levels
clean_all levels f each (x ∷ xs) = clean_append levels (f x) (flat_map f xs) (each x) (clean_all levels f each xs)

pub clean_characters : (levels : ℕ) (text : List ℕ) → Clean levels (characters text)
clean_characters levels [] = clean_nil levels
clean_characters levels (byte ∷ text) = record {
  goes = λ scopes nodes declared deep many.
      let few : nat_lt MAX_LIVE_NODES (suc nodes) ≡ false = le-ltb MAX_LIVE_NODES (suc nodes) (omega (arith, many)) in
      record { sound = (rw few refl, tt); moved_is = ap (stand scopes) (omega arith) };
}

-- an element whose start has no fault, and that holds what has none
pub element_goes : (scopes : List (List Decl)) (nodes : ℕ) (name : List ℕ) (attributes : List (List ℕ × Option (List ℕ))) (held : List Event) →
    start_fault (stand scopes nodes) name (only_given attributes) ≡ None →
    Goes (declarations (only_given attributes) ∷ scopes) (nodes + tag_nodes (only_given attributes)) held → Goes scopes nodes (element name attributes held)
element_goes scopes nodes name attributes held free inside =
    let first = stand (declarations (only_given attributes) ∷ scopes) (nodes + tag_nodes (only_given attributes)) in
    record {
      sound = (free, sound-append first held (End name ∷ []) inside.sound (refl, tt));
      moved_is = moved-append first held (End name ∷ [])
          ∙ ap (λ (s : Standing). moved s (End name)) inside.moved_is
          ∙ ap (stand scopes) (omega (arith, nodes_append held (End name ∷ [])));
    }

limits-free : (nodes depth : ℕ) → nodes ≤ MAX_LIVE_NODES → depth ≤ MAX_DEPTH → limit_fault nodes depth ≡ None
limits-free nodes depth few low = rw (le-ltb MAX_LIVE_NODES nodes few, le-ltb MAX_DEPTH depth low) refl

pub start_free : (scopes : List (List Decl)) (nodes : ℕ) (name : List ℕ) (attributes : List (List ℕ × Option (List ℕ))) →
    tag_fault (in_scope (declarations (only_given attributes) ∷ scopes)) name (only_given attributes) ≡ None →
    suc (length scopes) ≤ MAX_DEPTH → nodes + tag_nodes (only_given attributes) ≤ MAX_LIVE_NODES →
    start_fault (stand scopes nodes) name (only_given attributes) ≡ None
start_free scopes nodes name attributes tag deep many = rw tag (limits-free (nodes + tag_nodes (only_given attributes)) (suc (length scopes)) many deep)

-- an element of the namespace with attributes that declare nothing
pub clean_element : (levels : ℕ) (name : List ℕ) (attributes : List (List ℕ × Option (List ℕ))) (held : List Event) →
    prefix_part name ≡ codes "sch" → are_simple attributes ≡ true → Clean levels held → Clean (suc levels) (element name attributes held)
clean_element levels name attributes held prefixed are inside = record { goes = go }
  where
    attrs : List Attr
    attrs = only_given attributes

    its : Simple attributes
    its = simple attributes are

    go : (scopes : List (List Decl)) (nodes : ℕ) → has_sch (in_scope scopes) ≡ true → length scopes + suc levels ≤ MAX_DEPTH →
        nodes + nodes_of (element name attributes held) ≤ MAX_LIVE_NODES → Goes scopes nodes (element name attributes held)
    go scopes nodes declared deep many =
        let here : in_scope (declarations attrs ∷ scopes) ≡ in_scope scopes = ap (λ decls. decls ++ in_scope scopes) its.nothing_declared in
        let tag = tag_is_free (in_scope (declarations attrs ∷ scopes)) name attributes its (ap has_sch here ∙ declared) prefixed in
        let count = nodes_append held (End name ∷ []) in
        element_goes scopes nodes name attributes held
        (start_free scopes nodes name attributes tag (omega (arith, deep)) (omega (arith, many)))
        (inside.goes (declarations attrs ∷ scopes) (nodes + tag_nodes attrs) (ap has_sch here ∙ declared) (omega (arith, deep)) (omega (arith, many, count)))
