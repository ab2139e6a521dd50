-- All events of a fragment, one by one, and the piece that they are.
use Rattle.std.proofs.Common.{◌≡◌, ◌≢◌, ℕ, ◌+◌, ◌≤◌, suc, pred, zero, Bool, true, false, ◌&&◌, ◌||◌, List, [], ◌∷◌, ◌++◌, length, drop, take, sum_by, Option, None, Some, is_none, refl, sym, ap, ap₂, ◌∙◌, subst, true≢false, arith, append-nil, nat_lt, ltb-false}
use Rattle.std.specs.Prelude.{if◌then◌else◌}
use Rattle.std.specs.List.{list_any}
use Rattle.std.proofs.lemmas.Bool.{le-ltb, or_parts}
use Rattle.std.proofs.lemmas.List.{drop_all, take_all}
use Rattle.std.proofs.lemmas.List.Concat.{flat_map-append}
use Rattle.std.proofs.lemmas.List.Sums.{sum_by-append, sum_by-cons}
use Rattle.sch_base.specs.Lists.{is_nil}
use Rattle.pyx_core.specs.declared.event.Attr.{Attr}
use Rattle.pyx_core.specs.declared.event.Event.{Event}
use Rattle.pyx_core.specs.declared.event.Event.TheVariants as event
use Rattle.pyx_core.specs.declared.mode.Mode.TheVariants.{Document, Fragment}
use Rattle.pyx_core.specs.Before.{outer}
use Rattle.pyx_core.specs.Nesting.{Place, Nest, Fits, HasRoom, IsEnd, after, place_after, start}
use Rattle.doc_tree.specs.declared.refusal.EditRefusal.TheVariants as refusal
use Rattle.doc_tree.specs.limits.TheConstants.{MAX_DEPTH, MAX_LIVE_NODES, MAX_LIVE_TEXT_BYTES}
use Rattle.doc_tree.specs.Table.{Table, kids_of}
use Rattle.doc_tree.specs.Walks.{above, order}
use Rattle.doc_tree.specs.Laws.{HasWaysUp}
use Rattle.doc_tree.specs.Scope.{Decl, namespace_in, scope_at}
use Rattle.doc_tree.proofs.RefusalLemmas.{none-of-four}
use Rattle.name_scopes.specs.declared.build.Loader.{Loader}
use Rattle.name_scopes.specs.declared.fault.DocKind.{DocKind}
use Rattle.name_scopes.specs.declared.fault.DocKind.TheVariants as kind
use Rattle.name_scopes.specs.Declarations.{declarations, plain_attrs}
use Rattle.name_scopes.specs.DocFaults.{Standing, begin, declaring_fault, has_pair, in_scope, lacks_prefix, outer_scopes, same_qname, tag_fault, moved}
use Rattle.name_scopes.specs.QNames.{prefix_part}
use Rattle.name_scopes.specs.Fragments.{IsFragment, event_nodes, is_too_deep, names_fault, own_fault, own_tag_fault, piece_refusal, plain_text, some_tag, tag_doubles, tag_lacks_prefix}
use Rattle.name_scopes.specs.inner.Build.{AreOpen, IsLeaf}
use Rattle.name_scopes.specs.inner.Piece.{IsAcceptable, IsPiece, NamesFit, PieceComes, PieceIsReady, PieceLoads, begins_element, is_start, scopes_after}
use Rattle.name_scopes.proofs.StepLemmas.{or-none}
use Rattle.name_scopes.proofs.PieceTests.{tested-next}
use Rattle.name_scopes.proofs.WholeLemmas.{closed-lines}

-- what an event asks of a document, inside an element, is what it asks of a fragment

doc-fits : (place : Place) (e : Event) → (IsLeaf e → place.opened ≢ []) → Fits Fragment place e → Fits Document place e
doc-fits place (event.Start name attrs) inside fits = fits
doc-fits place (event.End name) inside fits = fits
doc-fits place (event.Chars text) inside fits = record {
  inside = λ h. some place.opened (inside tt);
  room = λ h. absurd (true≢false (sym h));
  apart = fits.apart;
  some = fits.some;
  made = fits.made;
}
  where
    some : (names : List (List ℕ)) → names ≢ [] → is_nil names ≡ false
    some [] ne = absurd (ne refl)
    some (name ∷ names) ne = refl
doc-fits place (event.Pi target body) inside fits = record { room = λ h. absurd (true≢false (sym h)); named = fits.named; made = fits.made }
doc-fits place (event.Comment text) inside fits = record { room = λ h. absurd (true≢false (sym h)); made = fits.made }

leaf-has-room : (place : Place) (e : Event) → IsLeaf e → Fits Fragment place e → HasRoom place
leaf-has-room place (event.Start name attrs) leaf fits = absurd leaf
leaf-has-room place (event.End name) leaf fits = absurd leaf
leaf-has-room place (event.Chars text) leaf fits = fits.room refl
leaf-has-room place (event.Pi target body) leaf fits = fits.room refl
leaf-has-room place (event.Comment text) leaf fits = fits.room refl

leaf-no-start : (e : Event) → IsLeaf e → is_start e ≡ false
leaf-no-start (event.Start name attrs) leaf = absurd leaf
leaf-no-start (event.End name) leaf = absurd leaf
leaf-no-start (event.Chars text) leaf = refl
leaf-no-start (event.Pi target body) leaf = refl
leaf-no-start (event.Comment text) leaf = refl

same-after : (place : Place) (e : Event) → (IsLeaf e → place.begun ≡ true) → after Document place e ≡ after Fragment place e
same-after place (event.Start name attrs) begun = refl
same-after place (event.End name) begun = refl
same-after place (event.Chars text) begun = refl
same-after place (event.Pi target body) begun = ap (λ (b : Bool). record { opened = place.opened; begun = b; after_chars = false }) (begun tt)
same-after place (event.Comment text) begun = ap (λ (b : Bool). record { opened = place.opened; begun = b; after_chars = false }) (begun tt)

-- names

scopes-around : (scopes : List (List Decl)) (around : List Decl) → in_scope (scopes ++ around ∷ []) ≡ in_scope scopes ++ around
scopes-around scopes around = flat_map-append (λ (decls : List Decl). decls) scopes (around ∷ []) ∙ ap (λ (s : List Decl). in_scope scopes ++ s) (append-nil around)

none-left : (unknown lacks same doubles : Bool) (others : Option DocKind) → (if same then Some kind.SameAttribute else others) ≡ None → (unknown || lacks) ≡ false → doubles ≡ false →
    (if unknown then Some kind.NoPrefix else if lacks then Some kind.NoPrefix else if same || doubles then Some kind.SameAttribute else others) ≡ None
none-left true lacks same doubles others own has apart = absurd (true≢false has)
none-left false true same doubles others own has apart = absurd (true≢false has)
none-left false false true doubles others own has apart = absurd (cc)
none-left false false false true others own has apart = absurd (true≢false apart)
none-left false false false false others own has apart = own

-- what breaks no rule by itself, lacks no prefix and has no two attributes of one name has no fault
tag-none : (scope : List Decl) (name : List ℕ) (attrs : List Attr) → own_tag_fault attrs ≡ None → tag_lacks_prefix scope name attrs ≡ false → tag_doubles scope name attrs ≡ false → tag_fault scope name attrs ≡ None
tag-none scope name attrs own has apart =
    none-left (is_none (namespace_in scope (prefix_part name))) (list_any (lacks_prefix scope) (plain_attrs attrs)) (has_pair same_qname attrs) (tag_doubles scope name attrs) (declaring_fault attrs) own has apart

names-fit : (scopes : List (List Decl)) (around : List Decl) (e : Event) (rest : List Event) → own_fault e ≡ None → some_tag tag_lacks_prefix (scopes ++ around ∷ []) (e ∷ rest) ≡ false →
    some_tag tag_doubles (scopes ++ around ∷ []) (e ∷ rest) ≡ false → NamesFit (in_scope scopes ++ around) e
names-fit scopes around (event.Start name attrs) rest own has apart =
    let is : in_scope (declarations attrs ∷ (scopes ++ around ∷ [])) ≡ declarations attrs ++ (in_scope scopes ++ around) = ap (λ (s : List Decl). declarations attrs ++ s) (scopes-around scopes around) in
    tag-none (declarations attrs ++ (in_scope scopes ++ around)) name attrs own
    (ap (λ (s : List Decl). tag_lacks_prefix s name attrs) (sym is)
    ∙ (or_parts (tag_lacks_prefix (in_scope (declarations attrs ∷ (scopes ++ around ∷ []))) name attrs) (some_tag tag_lacks_prefix (declarations attrs ∷ (scopes ++ around ∷ [])) rest) has).0)
    (ap (λ (s : List Decl). tag_doubles s name attrs) (sym is)
    ∙ (or_parts (tag_doubles (in_scope (declarations attrs ∷ (scopes ++ around ∷ []))) name attrs) (some_tag tag_doubles (declarations attrs ∷ (scopes ++ around ∷ [])) rest) apart).0)
names-fit scopes around (event.End name) rest own has apart = tt
names-fit scopes around (event.Chars text) rest own has apart = tt
names-fit scopes around (event.Pi target body) rest own has apart = tt
names-fit scopes around (event.Comment text) rest own has apart = tt

-- depths

shallow-first : (depth : ℕ) (e : Event) (rest : List Event) → is_too_deep depth (e ∷ rest) ≡ false → is_too_deep depth (e ∷ []) ≡ false
shallow-first depth (event.Start name attrs) rest h = ap (λ (b : Bool). b || false) (or_parts (nat_lt MAX_DEPTH depth) (is_too_deep (suc depth) rest) h).0
shallow-first depth (event.End name) rest h = refl
shallow-first depth (event.Chars text) rest h = refl
shallow-first depth (event.Pi target body) rest h = refl
shallow-first depth (event.Comment text) rest h = refl

-- a fragment that isn't too deep under a node isn't so under one that stands higher
shallow-higher : (low high : ℕ) (events : List Event) → low ≤ high → is_too_deep high events ≡ false → is_too_deep low events ≡ false
shallow-higher low high [] le h = refl
shallow-higher low high (event.Start name attrs ∷ events) le h =
    let parts = or_parts (nat_lt MAX_DEPTH high) (is_too_deep (suc high) events) h in
    let fits : high ≤ MAX_DEPTH = ltb-false MAX_DEPTH high parts.0 in
    ap₂ (λ (a b : Bool). a || b) (le-ltb MAX_DEPTH low (omega (arith, fits, le))) (shallow-higher (suc low) (suc high) events (omega (arith, le)) parts.1)
shallow-higher low high (event.End name ∷ events) le h = shallow-higher (pred low) (pred high) events (less low high le) h
  where
    less : (a b : ℕ) → a ≤ b → pred a ≤ pred b
    less zero b le = omega arith
    less (suc a) zero le = absurd (omega (arith, le))
    less (suc a) (suc b) le = omega (arith, le)
shallow-higher low high (event.Chars text ∷ events) le h = shallow-higher low high events le h
shallow-higher low high (event.Pi target body ∷ events) le h = shallow-higher low high events le h
shallow-higher low high (event.Comment text ∷ events) le h = shallow-higher low high events le h

-- as things stand after an event

-- the innermost of the open elements
some-scopes : (T : Table) (n : ℕ) (name : List ℕ) (names : List (List ℕ)) (scopes : List (List Decl)) → names ≡ name ∷ outer names → AreOpen T names scopes n → scopes ≢ []
some-scopes T n name [] scopes is way none = absurd (cc)
some-scopes T n name (x ∷ names) [] is way none = absurd way
some-scopes T n name (x ∷ names) (decls ∷ scopes) is way none = absurd (cc)

outer-around : (scopes : List (List Decl)) (around : List Decl) → scopes ≢ [] → outer_scopes (scopes ++ around ∷ []) ≡ outer_scopes scopes ++ around ∷ []
outer-around [] around some = absurd (some refl)
outer-around (decls ∷ scopes) around some = refl

outer-length : (scopes : List (List Decl)) → scopes ≢ [] → suc (length (outer_scopes scopes)) ≡ length scopes
outer-length [] some = absurd (some refl)
outer-length (decls ∷ scopes) some = refl

abbrev IsEndTag : Event → Type 0
IsEndTag (event.Start name attrs) = ⊥
IsEndTag (event.End name) = Unit {0}
IsEndTag (event.Chars text) = ⊥
IsEndTag (event.Pi target body) = ⊥
IsEndTag (event.Comment text) = ⊥

moved-scopes : (standing : Standing) (around : List Decl) (e : Event) → (IsEndTag e → standing.scopes ≢ []) → scopes_after (standing.scopes ++ around ∷ []) e ≡ (moved standing e).scopes ++ around ∷ []
moved-scopes standing around (event.Start name attrs) some = refl
moved-scopes standing around (event.End name) some = outer-around standing.scopes around (some tt)
moved-scopes standing around (event.Chars text) some = refl
moved-scopes standing around (event.Pi target body) some = refl
moved-scopes standing around (event.Comment text) some = refl

moved-nodes : (standing : Standing) (e : Event) → (moved standing e).nodes ≡ standing.nodes + event_nodes e
moved-nodes standing (event.Start name attrs) = refl
moved-nodes standing (event.End name) = omega arith
moved-nodes standing (event.Chars text) = omega arith
moved-nodes standing (event.Pi target body) = omega arith
moved-nodes standing (event.Comment text) = omega arith

moved-shallow : (standing : Standing) (e : Event) (rest : List Event) → (IsEndTag e → standing.scopes ≢ []) → is_too_deep (suc (length standing.scopes)) (e ∷ rest) ≡ false → is_too_deep (suc (length (moved standing e).scopes)) rest ≡ false
moved-shallow standing (event.Start name attrs) rest some h = (or_parts (nat_lt MAX_DEPTH (suc (length standing.scopes))) (is_too_deep (suc (suc (length standing.scopes))) rest) h).1
moved-shallow standing (event.End name) rest some h = ap (λ (k : ℕ). is_too_deep k rest) (outer-length standing.scopes (some tt)) ∙ h
moved-shallow standing (event.Chars text) rest some h = h
moved-shallow standing (event.Pi target body) rest some h = h
moved-shallow standing (event.Comment text) rest some h = h

-- the events so far were put, and the others may come
pub record PieceGoing (around : List Decl) (events front back : List Event) (loader : Loader) : Type 0 where
  pub place : Place
  pub standing : Standing
  pub loads : PieceLoads around front place standing loader
  pub nest : Nest Fragment place back
  pub place_is : place_after Fragment place back ≡ place_after Fragment start events
  pub first : place.begun ≡ false → begins_element back ≡ true
  pub names : names_fault back ≡ None
  pub lacks : some_tag tag_lacks_prefix (standing.scopes ++ around ∷ []) back ≡ false
  pub doubles : some_tag tag_doubles (standing.scopes ++ around ∷ []) back ≡ false
  pub room : standing.nodes + sum_by event_nodes back ≤ MAX_LIVE_NODES
  pub counted : standing.nodes ≡ 1 + sum_by event_nodes front
  pub shallow : is_too_deep (suc (length standing.scopes)) back ≡ false
  pub little : sum_by plain_text front + sum_by plain_text back ≤ MAX_LIVE_TEXT_BYTES

pub piece-first : (around : List Decl) (events : List Event) (loader : Loader) → IsAcceptable around events → begins_element events ≡ true → PieceLoads around [] start begin loader → PieceGoing around events [] events loader
piece-first around events loader ok element loads = record {
  place = start;
  standing = begin;
  loads = loads;
  nest = ok.fragment.nest;
  place_is = refl;
  first = λ none. element;
  names = ok.names;
  lacks = ok.lacks;
  doubles = ok.doubles;
  room = ok.room;
  counted = omega arith;
  shallow = ok.shallow;
  little = omega (arith, ok.little);
}

module _ (around : List Decl) (events front rest : List Event) (e : Event) (loader : Loader) (going : PieceGoing around events front (e ∷ rest) loader) where
  leaf-begun : IsLeaf e → going.place.begun ≡ true
  leaf-begun leaf = by going.place.begun refl
    where
      by : (b : Bool) → going.place.begun ≡ b → b ≡ true
      by true h = refl
      by false h = absurd (true≢false (sym (going.first h) ∙ leaf-no-start e leaf))

  leaf-inside : IsLeaf e → going.place.opened ≢ []
  leaf-inside leaf none =
      let room : (is_nil going.place.opened && going.place.begun) ≡ false = leaf-has-room going.place e leaf going.nest.0 in
      true≢false (sym (ap₂ (λ (a b : Bool). a && b) (ap is_nil none) (leaf-begun leaf)) ∙ room)

  doc : Fits Document going.place e
  doc = doc-fits going.place e leaf-inside going.nest.0

  end-some : IsEndTag e → going.standing.scopes ≢ []
  end-some = by e going.nest.0
    where
      by : (e : Event) → Fits Fragment going.place e → IsEndTag e → going.standing.scopes ≢ []
      by (event.Start name attrs) fits is = absurd is
      by (event.End name) fits is = some-scopes loader.tree.nodes loader.place name going.place.opened going.standing.scopes fits going.loads.builds.tells.way
      by (event.Chars text) fits is = absurd is
      by (event.Pi target body) fits is = absurd is
      by (event.Comment text) fits is = absurd is

  names-parts : (own_fault e ≡ None) × (names_fault rest ≡ None)
  names-parts = or-none (own_fault e) (names_fault rest) going.names

  nodes-sum : sum_by event_nodes (e ∷ rest) ≡ event_nodes e + sum_by event_nodes rest
  nodes-sum = sum_by-cons event_nodes e rest

  text-sum : sum_by plain_text (e ∷ rest) ≡ plain_text e + sum_by plain_text rest
  text-sum = sum_by-cons plain_text e rest

  pub piece-comes : PieceComes around front going.place going.standing e
  piece-comes = record {
    fits = doc;
    inside = leaf-inside;
    names = names-fit going.standing.scopes around e rest names-parts.0 going.lacks going.doubles;
    little = omega (arith, going.little, text-sum);
    room = omega (arith, going.room, nodes-sum);
    shallow = shallow-first (suc (length going.standing.scopes)) e rest going.shallow;
  }

  pub piece-ready : PieceIsReady loader e
  piece-ready = (around, (front, (going.place, (going.standing, (going.loads, piece-comes)))))

  begun-behind : (after Fragment going.place e).begun ≡ true
  begun-behind = by e going.nest.0
    where
      by : (e : Event) → Fits Fragment going.place e → (after Fragment going.place e).begun ≡ true
      by (event.Start name attrs) fits = refl
      by (event.End name) fits = going.loads.builds.inside (λ none. let k : [] ≡ name ∷ outer going.place.opened = sym none ∙ fits in absurd (cc))
      by (event.Chars text) fits = refl
      by (event.Pi target body) fits = refl
      by (event.Comment text) fits = refl

  rest-none : (test : List Decl → List ℕ → List Attr → Bool) → some_tag test (going.standing.scopes ++ around ∷ []) (e ∷ rest) ≡ false → some_tag test ((moved going.standing e).scopes ++ around ∷ []) rest ≡ false
  rest-none test h =
      ap (λ (s : List (List Decl)). some_tag test s rest) (sym (moved-scopes going.standing around e end-some))
      ∙ (or_parts _ (some_tag test (scopes_after (going.standing.scopes ++ around ∷ []) e) rest) (sym (tested-next test (going.standing.scopes ++ around ∷ []) e rest) ∙ h)).1

  pub piece-on : (next : Loader) → PieceLoads around (front ++ e ∷ []) (after Document going.place e) (moved going.standing e) next → PieceGoing around events (front ++ e ∷ []) rest next
  piece-on next loads = record {
    place = after Fragment going.place e;
    standing = moved going.standing e;
    loads = subst (λ (p : Place). PieceLoads around (front ++ e ∷ []) p (moved going.standing e) next) (same-after going.place e leaf-begun) loads;
    nest = going.nest.1;
    place_is = going.place_is;
    first = λ none. absurd (true≢false (sym begun-behind ∙ none));
    names = names-parts.1;
    lacks = rest-none tag_lacks_prefix going.lacks;
    doubles = rest-none tag_doubles going.doubles;
    room = omega (arith, going.room, nodes-sum, moved-nodes going.standing e);
    counted = omega (arith, going.counted, moved-nodes going.standing e, sum_by-append event_nodes front (e ∷ []), sum_by-cons event_nodes e []);
    shallow = moved-shallow going.standing e rest end-some going.shallow;
    little = omega (arith, going.little, text-sum, sum_by-append plain_text front (e ∷ []), sum_by-cons plain_text e []);
  }

-- the piece

one-kid : (kids : List ℕ) → length kids ≡ 1 → (top : ℕ) × (kids ≡ top ∷ [])
one-kid [] h = absurd (omega (arith, h))
one-kid (top ∷ []) h = (top, refl)
one-kid (top ∷ (other ∷ kids)) h = absurd (omega (arith, h))

pub piece-all : (around : List Decl) (events : List Event) (i : ℕ) (loader : Loader) → length events ≤ i → IsFragment events → HasWaysUp loader.tree.nodes → PieceGoing around events (take i events) (drop i events) loader →
    IsPiece around events loader.tree.nodes
piece-all around events i loader past fragment ways going =
    let last : PieceGoing around events events [] loader =
    subst (λ (b : List Event). PieceGoing around events events b loader) (drop_all i events past) (subst (λ (f : List Event). PieceGoing around events f (drop i events) loader) (take_all i events past) going) in
    let end : IsEnd last.place = subst IsEnd (sym last.place_is) fragment.end in
    let kid : (top : ℕ) × (kids_of loader.tree.nodes 0 ≡ top ∷ []) = one-kid (kids_of loader.tree.nodes 0) (last.loads.top ∙ ap (λ (b : Bool). if b then 1 else 0) end.begun) in
    record {
      scoped = record {
        lines_are = closed-lines around events last.place last.standing loader.tree.nodes loader.place end ways last.loads.builds;
        in_scope = last.loads.builds.scoped;
        numbered = last.loads.builds.tells.numbered_so;
        top = kid.0;
        one = kid.1;
      };
      nodes = last.loads.builds.count ∙ last.counted;
      text = last.loads.text;
    }

-- no reason to refuse a fragment is left
pub acceptable : (T : Table) (p : ℕ) (events : List Event) → piece_refusal T p events ≡ None → (rest : List ℕ) → order T ≡ 0 ∷ rest → IsFragment events → names_fault events ≡ None → sum_by plain_text events ≤ MAX_LIVE_TEXT_BYTES →
    IsAcceptable (scope_at T p) events
acceptable T p events none rest ordered fragment names little =
    let nodes : ℕ = length (order T) + sum_by event_nodes events in
    let no_reason = none-of-four (some_tag tag_lacks_prefix (scope_at T p ∷ []) events) (some_tag tag_doubles (scope_at T p ∷ []) events) (nat_lt MAX_LIVE_NODES nodes) (is_too_deep (length (above T p)) events)
    refusal.NoPrefix refusal.SameAttribute refusal.TooManyNodes refusal.TooDeep none in
    record {
      fragment = fragment;
      names = names;
      lacks = no_reason.0;
      doubles = no_reason.1;
      room = fewer (length rest) (sum_by event_nodes events) (length (order T)) (ap (λ (l : List ℕ). length l) ordered) (ltb-false MAX_LIVE_NODES nodes no_reason.2);
      shallow = shallow-higher 1 (length (above T p)) events (omega arith) no_reason.3;
      little = little;
    }
  where
    -- the root is one of the nodes
    fewer : (k m n : ℕ) → n ≡ suc k → n + m ≤ MAX_LIVE_NODES → 1 + m ≤ MAX_LIVE_NODES
    fewer k m n is few = omega arith
