-- Locations tell nodes apart: the ways down to two nodes are the same where their steps read the same.
use Rattle.std.proofs.Common.{◌≡◌, ◌≢◌, ℕ, zero, suc, ◌+◌, ◌<◌, ◌≤◌, ◌^◌, ◌==◌, Bool, true, false, ◌||◌, List, [], ◌∷◌, ◌++◌, length, length-append, append-nil, slice_index_or, Option, None, Some, codes, if◌then◌else◌, ◌⊎◌, ⊎_elim, refl, ap, sym, subst, ◌∙◌, arith, eq-eqb}
use Rattle.std.specs.List.{flat_map}
use Rattle.std.proofs.lemmas.Bool.{eqb-true, false_from_ne_true, cases_eq, or_cases}
use Rattle.std.proofs.lemmas.Grind.{flat_map-append}
use Rattle.doc_tree.specs.Kinds.{is_kind, can_be_kid, holds_kids}
use Rattle.doc_tree.specs.Laws.{WellFormed, Ordered, HasWaysUp}
use Rattle.doc_tree.specs.Lists.{mem, last_or}
use Rattle.doc_tree.specs.Table.{Table, Name, Content, root, element, attribute, text, comment, instruction, Facts, parent_at, content_at, kind_at, kind_in, name_at, entry_at, is_live, kind_of, name_of, parent_of, kids_of, attrs_of, content_of, expanded_of, expanded_in}
use Rattle.doc_tree.specs.Walks.{above, ancestors, below, order}
use Rattle.doc_tree.specs.kind.Kind.{Kind}
use Rattle.doc_tree.specs.kind.Kind.TheVariants.{Root, Element, Attribute, Text, Comment, Pi}
use Rattle.doc_locations.specs.LocationLaws.{IsPlain, HasPlainAttributes, LocationsAreToldApart}
use Rattle.doc_locations.specs.Locations.{attribute_step, has_kind, kid_step, kids_of_parent, location_of, named_step, place_among, place_of, step_by, step_of, steps_of}
use Rattle.doc_locations.proofs.PlaceLemmas.{mem-append, same_kind}
use Rattle.doc_locations.proofs.StepLemmas.{kid_step_cut, named_step_told}

-- the test of a kind of kid
abbrev test_of : Kind → List ℕ
test_of Root = []
test_of Element = codes "*"
test_of Attribute = []
test_of Text = codes "text()"
test_of Comment = codes "comment()"
test_of Pi = codes "processing-instruction()"

-- the byte behind the slash in the step of a kind, and the kind by that byte
abbrev mark : Kind → ℕ
mark Root = 0
mark Element = 42
mark Attribute = 64
mark Text = 116
mark Comment = 99
mark Pi = 112

abbrev marked : ℕ → Kind
marked c = if c == 42 then Element else if c == 64 then Attribute else if c == 116 then Text else if c == 99 then Comment else if c == 112 then Pi else Root

marked_back : (kind : Kind) → marked (mark kind) ≡ kind
marked_back Root = refl
marked_back Element = refl
marked_back Attribute = refl
marked_back Text = refl
marked_back Comment = refl
marked_back Pi = refl

abbrev second : List ℕ → ℕ
second bytes = slice_index_or bytes 1 0

attribute_marked : (name : Name) (rest : List ℕ) → second (attribute_step (Some name) ++ rest) ≡ 64
attribute_marked name rest = by name.uri
  where
    by : (uri : List ℕ) → second (named_step name.local uri ++ rest) ≡ 64
    by [] = refl
    by (b ∷ uri) = refl

swap : (a b : ℕ) → (a == b) ≡ false → (b == a) ≡ false
swap a b is = false_from_ne_true (b == a) (λ (e : (b == a) ≡ true). let s : (a == b) ≡ true = eq-eqb a b (sym (eqb-true b a e)) in absurd (cc))

-- a number that is not the first one stands behind it
behind : (n m : ℕ) (ms : List ℕ) → (m == n) ≡ false → mem n (m ∷ ms) ≡ true → mem n ms ≡ true
behind n m ms other there = by (n == m) refl there
  where
    by : (b : Bool) → (n == m) ≡ b → b || mem n ms ≡ true → mem n ms ≡ true
    by true e is = let s : (n == m) ≡ false = swap m n other in absurd (cc)
    by false e is = is

place_positive : (passes : ℕ → Bool) (n : ℕ) (ms : List ℕ) → mem n ms ≡ true → passes n ≡ true → 1 ≤ place_among passes n ms
place_positive passes n [] there is = absurd (cc)
place_positive passes n (m ∷ ms) there is = by (m == n) refl (λ (later : mem n ms ≡ true). place_positive passes n ms later is)
  where
    by : (b : Bool) → (m == n) ≡ b → (mem n ms ≡ true → 1 ≤ place_among passes n ms) → 1 ≤ (if passes m then 1 else 0) + (if b then 0 else place_among passes n ms)
    by true e later = let own : passes m ≡ true = ap passes (eqb-true m n e) ∙ is in rw own (omega arith)
    by false e later = omega (arith, later (behind n m ms e there))

place_few : (passes : ℕ → Bool) (n : ℕ) (ms : List ℕ) → place_among passes n ms ≤ length ms
place_few passes n [] = omega arith
place_few passes n (m ∷ ms) = by (passes m) (m == n) (place_few passes n ms)
  where
    by : (a b : Bool) → place_among passes n ms ≤ length ms → (if a then 1 else 0) + (if b then 0 else place_among passes n ms) ≤ suc (length ms)
    by true true fewer = omega arith
    by true false fewer = omega arith
    by false true fewer = omega arith
    by false false fewer = omega arith

-- numbers that pass are told apart by their places
place_apart : (passes : ℕ → Bool) (n m : ℕ) (ks : List ℕ) → mem n ks ≡ true → mem m ks ≡ true → passes n ≡ true → passes m ≡ true → place_among passes n ks ≡ place_among passes m ks → n ≡ m
place_apart passes n m [] there there_2 is is_2 e = absurd (cc)
place_apart passes n m (k ∷ ks) there there_2 is is_2 e =
    by (k == n) (k == m) refl refl (λ (a : mem n ks ≡ true) (b : mem m ks ≡ true) (s : place_among passes n ks ≡ place_among passes m ks). place_apart passes n m ks a b is is_2 s) e
  where
    by : (a b : Bool) → (k == n) ≡ a → (k == m) ≡ b →
        (mem n ks ≡ true → mem m ks ≡ true → place_among passes n ks ≡ place_among passes m ks → n ≡ m) →
        (if passes k then 1 else 0) + (if a then 0 else place_among passes n ks) ≡ (if passes k then 1 else 0) + (if b then 0 else place_among passes m ks) → n ≡ m
    by true true x y later e = sym (eqb-true k n x) ∙ eqb-true k m y
    by true false x y later e = absurd (omega (arith, e, place_positive passes m ks (behind m k ks y there_2) is_2))
    by false true x y later e = absurd (omega (arith, e, place_positive passes n ks (behind n k ks x there) is))
    by false false x y later e = later (behind n k ks x there) (behind m k ks y there_2) (omega (arith, e))

-- a way down: each node is the parent of the next
abbrev IsWay : Table → ℕ → List ℕ → Type 0
IsWay T x [] = Unit {0}
IsWay T x (k ∷ ks) = (parent_of T k ≡ Some x) × IsWay T k ks

way_last : (T : Table) (x : ℕ) (ks : List ℕ) (n : ℕ) → IsWay T x ks → parent_of T n ≡ Some (last_or x ks) → IsWay T x (ks ++ n ∷ [])
way_last T x [] n way up = (up, tt)
way_last T x (k ∷ ks) n way up = (way.0, way_last T k ks n way.1 up)

last_is : (x : ℕ) (ks : List ℕ) (n : ℕ) → last_or x (ks ++ n ∷ []) ≡ n
last_is x [] n = refl
last_is x (k ∷ ks) n = last_is k ks n

-- a way from the root down to a node, along which the steps stand
abbrev WayTo : Table → ℕ → Type 0
WayTo T n = (ks : List ℕ) × IsWay T 0 ks × (last_or 0 ks ≡ n) × (steps_of T (above T n) ≡ flat_map (step_of T) ks)

-- a node with a parent has a kind
pub kinded : (T : Table) (k x : ℕ) → parent_of T k ≡ Some x → (kind : Kind) × (kind_of T k ≡ Some kind)
kinded T k x up = by (entry_at T k) up
  where
    by : (entry : Option Facts) → parent_at entry ≡ Some x → (kind : Kind) × (kind_at (content_at entry) ≡ Some kind)
    by None up = absurd (cc)
    by (Some facts) up = (kind_in facts.content, refl)

-- an attribute has a name
pub named : (T : Table) (k : ℕ) → kind_of T k ≡ Some Attribute → (name : Name) × (name_of T k ≡ Some name)
named T k is = by (content_of T k) is
  where
    by : (content : Option Content) → kind_at content ≡ Some Attribute → (name : Name) × (name_at content ≡ Some name)
    by None is = absurd (cc)
    by (Some root) is = absurd (cc)
    by (Some (element name decls)) is = absurd (cc)
    by (Some (attribute name value)) is = (name, refl)
    by (Some (text characters)) is = absurd (cc)
    by (Some (comment characters)) is = absurd (cc)
    by (Some (instruction name characters)) is = absurd (cc)

-- the step to a kid is that of its kind
kid_step_of : (T : Table) (k : ℕ) (kind : Kind) → kind_of T k ≡ Some kind → can_be_kid (Some kind) ≡ true → step_of T k ≡ kid_step (test_of kind) (place_of T kind k)
kid_step_of T k Root is kid = absurd (cc)
kid_step_of T k Element is kid = ap (step_by T k) is
kid_step_of T k Attribute is kid = absurd (cc)
kid_step_of T k Text is kid = ap (step_by T k) is
kid_step_of T k Comment is kid = ap (step_by T k) is
kid_step_of T k Pi is kid = ap (step_by T k) is

-- the step to an attribute is that of its name
attribute_step_of : (T : Table) (k : ℕ) (name : Name) → kind_of T k ≡ Some Attribute → name_of T k ≡ Some name → step_of T k ≡ named_step name.local name.uri
attribute_step_of T k name is is_name = ap (step_by T k) is ∙ ap attribute_step is_name

module _ (T : Table) (formed : WellFormed T) (ordered : Ordered T) (ways : HasWaysUp T) (plain : HasPlainAttributes T) where
  -- no fewer nodes stand below kids than there are kids
  kids_below : (kids : List ℕ) → length kids ≤ length (flat_map (below T) kids)
  kids_below [] = omega arith
  kids_below (k ∷ kids) = omega (arith, kids_below kids, ap length (ordered.below_at k), length-append (below T k) (flat_map (below T) kids))

  kids_few : (x : ℕ) → is_live T x ≡ true → length (kids_of T x) < 2 ^ 64
  kids_few x live =
      let there = ordered.below_in_order x live in
      let few : length (order T) ≤ 262144 = formed.few_nodes in
      omega (
        arith,
        few,
        ap length there.2,
        length-append there.0 (below T x ++ there.1),
        length-append (below T x) there.1,
        ap length (ordered.below_at x),
        length-append (attrs_of T x) (flat_map (below T) (kids_of T x)),
        kids_below (kids_of T x),
      )

  no_root : (k x : ℕ) → parent_of T k ≡ Some x → kind_of T k ≡ Some Root → ⊥
  no_root k x up is =
      let none : parent_of T k ≡ None = ap (parent_of T) (formed.one_root k is) ∙ formed.root_parent in absurd (cc)

  listed : (k x : ℕ) → parent_of T k ≡ Some x → (mem k (attrs_of T x) ≡ true) ⊎ (mem k (kids_of T x) ≡ true)
  listed k x up = or_cases (mem k (attrs_of T x)) (mem k (kids_of T x)) (sym (mem-append k (attrs_of T x) (kids_of T x)) ∙ formed.is_listed k x up)

  attribute_listed : (k x : ℕ) → parent_of T k ≡ Some x → kind_of T k ≡ Some Attribute → mem k (attrs_of T x) ≡ true
  attribute_listed k x up is = ⊎_elim (λ (e : mem k (attrs_of T x) ≡ true). e)
      (λ (e : mem k (kids_of T x) ≡ true).
      let can : can_be_kid (kind_of T k) ≡ true = formed.kid_kind x k e in
      let not_so : can_be_kid (kind_of T k) ≡ false = ap can_be_kid is in absurd (cc))
      (listed k x up)

  kid_listed : (k x : ℕ) (kind : Kind) → parent_of T k ≡ Some x → kind_of T k ≡ Some kind → can_be_kid (Some kind) ≡ true → mem k (kids_of T x) ≡ true
  kid_listed k x kind up is kid = ⊎_elim
      (λ (e : mem k (attrs_of T x) ≡ true).
      let not_so : can_be_kid (Some kind) ≡ false = ap can_be_kid (sym is ∙ formed.attribute_kind x k e) in absurd (cc))
      (λ (e : mem k (kids_of T x) ≡ true). e)
      (listed k x up)

  -- below an attribute no way leads on
  no_way_below : (a : ℕ) (ks : List ℕ) → kind_of T a ≡ Some Attribute → IsWay T a ks → ks ≡ []
  no_way_below a [] is way = refl
  no_way_below a (k ∷ ks) is way =
      let holds : holds_kids (kind_of T a) ≡ true = ways.parent_holds k a way.0 in
      let not_so : holds_kids (kind_of T a) ≡ false = ap holds_kids is in absurd (cc)

  -- the second byte of a step tells the kind of its node
  step_marked : (k x : ℕ) (kind : Kind) (rest : List ℕ) → parent_of T k ≡ Some x → kind_of T k ≡ Some kind → second (step_of T k ++ rest) ≡ mark kind
  step_marked k x Root rest up is = absurd (no_root k x up is)
  step_marked k x Element rest up is = ap (λ (l : List ℕ). second (l ++ rest)) (ap (step_by T k) is)
  step_marked k x Attribute rest up is =
      let name = named T k is in
      ap (λ (l : List ℕ). second (l ++ rest)) (attribute_step_of T k name.0 is name.1) ∙ attribute_marked name.0 rest
  step_marked k x Text rest up is = ap (λ (l : List ℕ). second (l ++ rest)) (ap (step_by T k) is)
  step_marked k x Comment rest up is = ap (λ (l : List ℕ). second (l ++ rest)) (ap (step_by T k) is)
  step_marked k x Pi rest up is = ap (λ (l : List ℕ). second (l ++ rest)) (ap (step_by T k) is)

  -- a text whose second byte is no kind's is not that of a step
  no_step : (k x : ℕ) (bytes rest : List ℕ) → parent_of T k ≡ Some x → second bytes ≡ 0 → bytes ≡ step_of T k ++ rest → ⊥
  no_step k x bytes rest up short e =
      let kind = kinded T k x up in
      let is_zero : mark kind.0 ≡ 0 = sym (step_marked k x kind.0 rest up kind.1) ∙ (ap second (sym e) ∙ short) in
      let is_root : kind.0 ≡ Root = sym (marked_back kind.0) ∙ ap marked is_zero in
      no_root k x up (kind.1 ∙ ap Some is_root)

  module _ (x k m : ℕ) (ks ms : List ℕ) (up : parent_of T k ≡ Some x) (up_2 : parent_of T m ≡ Some x) (way : IsWay T k ks) (way_2 : IsWay T m ms) (e : step_of T k ++ flat_map (step_of T) ks ≡ step_of T m ++ flat_map (step_of T) ms) where
    attributes_apart : kind_of T k ≡ Some Attribute → kind_of T m ≡ Some Attribute → (k ≡ m) × (flat_map (step_of T) ks ≡ flat_map (step_of T) ms)
    attributes_apart is is_2 =
        let none = no_way_below k ks is way in
        let none_2 = no_way_below m ms is_2 way_2 in
        let name = named T k is in
        let name_2 = named T m is_2 in
        let all : step_of T k ++ flat_map (step_of T) ks ≡ named_step name.0.local name.0.uri =
        ap (λ (l : List ℕ). step_of T k ++ flat_map (step_of T) l) none ∙ (append-nil (step_of T k) ∙ attribute_step_of T k name.0 is name.1) in
        let all_2 : step_of T m ++ flat_map (step_of T) ms ≡ named_step name_2.0.local name_2.0.uri =
        ap (λ (l : List ℕ). step_of T m ++ flat_map (step_of T) l) none_2 ∙ (append-nil (step_of T m) ∙ attribute_step_of T m name_2.0 is_2 name_2.1) in
        let same = named_step_told name.0 name_2.0 (subst IsPlain name.1 (plain k is)) (subst IsPlain name_2.1 (plain m is_2)) (sym all ∙ (e ∙ all_2)) in
        let same_names : expanded_of T k ≡ expanded_of T m = ap expanded_in name.1 ∙ (ap Some same ∙ sym (ap expanded_in name_2.1)) in (
          formed.names_differ x k m (attribute_listed k x up is) (attribute_listed m x up_2 is_2) same_names,
          ap (flat_map (step_of T)) none ∙ sym (ap (flat_map (step_of T)) none_2),
        )

    kids_apart : (kind : Kind) → kind_of T k ≡ Some kind → kind_of T m ≡ Some kind → can_be_kid (Some kind) ≡ true → (k ≡ m) × (flat_map (step_of T) ks ≡ flat_map (step_of T) ms)
    kids_apart kind is is_2 kid =
        let few = kids_few x (ways.parent_live k x up) in
        let passes = has_kind T kind in
        let own : step_of T k ≡ kid_step (test_of kind) (place_among passes k (kids_of T x)) =
        kid_step_of T k kind is kid ∙ ap (λ (p : Option ℕ). kid_step (test_of kind) (place_among passes k (kids_of_parent T p))) up in
        let own_2 : step_of T m ≡ kid_step (test_of kind) (place_among passes m (kids_of T x)) =
        kid_step_of T m kind is_2 kid ∙ ap (λ (p : Option ℕ). kid_step (test_of kind) (place_among passes m (kids_of_parent T p))) up_2 in
        let parts = kid_step_cut (test_of kind) (place_among passes k (kids_of T x)) (place_among passes m (kids_of T x)) (flat_map (step_of T) ks) (flat_map (step_of T) ms)
        (omega (arith, few, place_few passes k (kids_of T x)))
        (omega (arith, few, place_few passes m (kids_of T x)))
        (sym (ap (λ (l : List ℕ). l ++ flat_map (step_of T) ks) own) ∙ (e ∙ ap (λ (l : List ℕ). l ++ flat_map (step_of T) ms) own_2)) in (
          place_apart passes k m (kids_of T x) (kid_listed k x kind up is kid) (kid_listed m x kind up_2 is_2 kid)
              (ap (is_kind kind) is ∙ same_kind kind) (ap (is_kind kind) is_2 ∙ same_kind kind) parts.0,
          parts.1,
        )

    -- where the texts of two ways are the same, so are their first nodes and the texts behind
    first_apart : (k ≡ m) × (flat_map (step_of T) ks ≡ flat_map (step_of T) ms)
    first_apart =
        let kind = kinded T k x up in
        let kind_2 = kinded T m x up_2 in
        let marks : mark kind.0 ≡ mark kind_2.0 =
        sym (step_marked k x kind.0 (flat_map (step_of T) ks) up kind.1) ∙ (ap second e ∙ step_marked m x kind_2.0 (flat_map (step_of T) ms) up_2 kind_2.1) in
        let same : kind.0 ≡ kind_2.0 = sym (marked_back kind.0) ∙ (ap marked marks ∙ marked_back kind_2.0) in
        by kind.0 kind.1 (kind_2.1 ∙ ap Some (sym same))
      where
        by : (kind : Kind) → kind_of T k ≡ Some kind → kind_of T m ≡ Some kind → (k ≡ m) × (flat_map (step_of T) ks ≡ flat_map (step_of T) ms)
        by Root is is_2 = absurd (no_root k x up is)
        by Element is is_2 = kids_apart Element is is_2 refl
        by Attribute is is_2 = attributes_apart is is_2
        by Text is is_2 = kids_apart Text is is_2 refl
        by Comment is is_2 = kids_apart Comment is is_2 refl
        by Pi is is_2 = kids_apart Pi is is_2 refl

  -- ways whose steps read the same are the same
  ways_apart : (x : ℕ) (ks ms : List ℕ) → IsWay T x ks → IsWay T x ms → flat_map (step_of T) ks ≡ flat_map (step_of T) ms → ks ≡ ms
  ways_apart x [] [] way way_2 e = refl
  ways_apart x [] (m ∷ ms) way way_2 e = absurd (no_step m x [] (flat_map (step_of T) ms) way_2.0 refl e)
  ways_apart x (k ∷ ks) [] way way_2 e = absurd (no_step k x [] (flat_map (step_of T) ks) way.0 refl (sym e))
  ways_apart x (k ∷ ks) (m ∷ ms) way way_2 e =
      let first = first_apart x k m ks ms way.0 way_2.0 way.1 way_2.1 e in
      let rest = ways_apart k ks ms way.1 (subst (λ (y : ℕ). IsWay T y ms) (sym first.0) way_2.1) first.1 in
      ap (λ (n : ℕ). n ∷ ks) first.0 ∙ ap (λ (l : List ℕ). m ∷ l) rest

  root_way : WayTo T 0
  root_way = (
    [],
    tt,
    refl,
    ap (λ (l : List ℕ). steps_of T l ++ step_of T 0) (ways.no_ancestors 0 formed.root_parent) ∙ ap (step_by T 0) formed.root_kind,
  )

  -- a node's parent is nearer to the root
  nearer : (n p fuel : ℕ) → parent_of T n ≡ Some p → length (ancestors T n) ≤ suc fuel → length (ancestors T p) ≤ fuel
  nearer n p fuel up few = omega (arith, few, ap length (ways.ancestors_at n p up))

  longer : (n : ℕ) → is_live T n ≡ true → n ≢ 0 → ((p : ℕ) → parent_of T n ≡ Some p → WayTo T p) → WayTo T n
  longer n live some way_up =
      let up = ways.has_parent n live some in
      let way = way_up up.0 up.1 in (
        way.0 ++ n ∷ [],
        way_last T 0 way.0 n way.1 (up.1 ∙ ap Some (sym way.2)),
        last_is 0 way.0 n,
        ap (λ (l : List ℕ). steps_of T l ++ step_of T n) (ways.ancestors_at n up.0 up.1)
            ∙ (ap (λ (l : List ℕ). l ++ step_of T n) way.3
            ∙ sym (flat_map-append (step_of T) way.0 (n ∷ []) ∙ ap (λ (l : List ℕ). flat_map (step_of T) way.0 ++ l) (append-nil (step_of T n)))),
      )

  way_within : (fuel n : ℕ) → is_live T n ≡ true → length (ancestors T n) ≤ fuel → WayTo T n
  way_within zero n live few = ⊎_elim (λ (e : n ≡ 0). subst (WayTo T) (sym e) root_way)
      (λ (some : n ≢ 0). let up = ways.has_parent n live some in absurd (omega (arith, few, ap length (ways.ancestors_at n up.0 up.1))))
      (cases_eq n 0)
  way_within (suc fuel) n live few = ⊎_elim (λ (e : n ≡ 0). subst (WayTo T) (sym e) root_way)
      (λ (some : n ≢ 0). longer n live some (λ p (up : parent_of T n ≡ Some p). way_within fuel p (ways.parent_live n p up) (nearer n p fuel up few)))
      (cases_eq n 0)

  way_to : (n : ℕ) → is_live T n ≡ true → WayTo T n
  way_to n live = way_within (length (ancestors T n)) n live (omega arith)

  -- the steps of a node that is not the root are more than a slash
  no_slash : (n : ℕ) → (n == 0) ≡ false → (way : WayTo T n) (bytes : List ℕ) → second bytes ≡ 0 → bytes ≡ steps_of T (above T n) → ⊥
  no_slash n some way bytes short e = by way.0 way.1 way.2 (e ∙ way.3)
    where
      by : (ks : List ℕ) → IsWay T 0 ks → last_or 0 ks ≡ n → bytes ≡ flat_map (step_of T) ks → ⊥
      by [] down last same = let is : (n == 0) ≡ true = eq-eqb n 0 (sym last) in absurd (cc)
      by (k ∷ ks) down last same = no_step k 0 bytes (flat_map (step_of T) ks) down.0 short same

  nodes_apart : (n m : ℕ) → is_live T n ≡ true → is_live T m ≡ true → location_of T n ≡ location_of T m → n ≡ m
  nodes_apart n m live live_2 e = by (n == 0) (m == 0) refl refl e
    where
      by : (a b : Bool) → (n == 0) ≡ a → (m == 0) ≡ b → (if a then codes "/" else steps_of T (above T n)) ≡ (if b then codes "/" else steps_of T (above T m)) → n ≡ m
      by true true is is_2 e = eqb-true n 0 is ∙ sym (eqb-true m 0 is_2)
      by true false is is_2 e = absurd (no_slash m is_2 (way_to m live_2) (codes "/") refl e)
      by false true is is_2 e = absurd (no_slash n is (way_to n live) (codes "/") refl (sym e))
      by false false is is_2 e =
          let way = way_to n live in
          let way_2 = way_to m live_2 in
          let same = ways_apart 0 way.0 way_2.0 way.1 way_2.1 (sym way.3 ∙ (e ∙ way_2.3)) in
          sym way.2 ∙ (ap (last_or 0) same ∙ way_2.2)

pub locations_are_told_apart : LocationsAreToldApart
locations_are_told_apart T formed ordered ways plain n m live live_2 e = nodes_apart T formed ordered ways plain n m live live_2 e
