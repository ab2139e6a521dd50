-- The step from a node's parent to the node finds it, and no other (XPath 1.0, sections 2.1 to 2.4).
use Rattle.std.proofs.Common.{◌≡◌, ℕ, suc, pos, ◌≤◌, true, false, ◌&&◌, List, [], ◌∷◌, length, Option, None, Some, Ok, ⊎_elim, refl, sym, ap, ap₂, subst, ◌∙◌, slice_get, option_to_list, arith}
use Rattle.std.specs.Prelude.{filter, bytes_eq}
use Rattle.std.proofs.lemmas.Slice.Eq.{bytes_eq-Decides}
use Rattle.doc_tree.specs.Kinds.{is_kind, can_be_kid}
use Rattle.doc_tree.specs.Laws.{WellFormed, Ordered}
use Rattle.doc_tree.specs.Lists.{mem}
use Rattle.doc_tree.specs.NameTests.{named}
use Rattle.doc_tree.specs.Table.{Table, Name, element, attribute, is_live, kind_of, name_of, parent_of, kids_of, attrs_of, expanded, expanded_of, expanded_in}
use Rattle.doc_tree.specs.Walks.{order}
use Rattle.doc_tree.specs.kind.Kind.{Kind}
use Rattle.doc_tree.specs.kind.Kind.TheVariants as kinds
use Rattle.doc_tree.specs.declared.axes.Axis.TheVariants as axes
use Rattle.doc_tree.specs.declared.axes.NodeTest.TheVariants as tests
use Rattle.doc_tree.proofs.ListLemmas.{In-mem, mem-append}
use Rattle.doc_axes.specs.Axes.{axis_nodes, on_axis, is_attribute_kind}
use Rattle.doc_axes.specs.AxesByCells.{AxesByCells}
use Rattle.doc_axes.specs.NodeTests.{passes}
use Rattle.doc_locations.specs.Locations.{attribute_step, has_kind, kid_step, kids_of_parent, place_among, place_of, step_by, step_of}
use Rattle.doc_locations.proofs.ApartLemmas.{named as has_name}
use Rattle.doc_locations.proofs.PlaceLemmas.{same_kind}
use Rattle.xp_print_laws.proofs.Fronts.{both}
use Rattle.xp_typed_tree.specs.TypedTree.{TypedSteps, whole, no_typed, typed}
use Rattle.xp_outcome.specs.Evaluation.{done}
use Rattle.xp_meaning.specs.Names.{local_in, uri_in}
use Rattle.xp_meaning.specs.Paths.{Step, candidates, filtered, kept, placed, step_at, step_from}
use Rattle.xp_meaning.specs.Evaluation.{Lets, meaning, meanings, steps_meant}
use Rattle.xp_meaning.proofs.Answers.{answer_then}
use Rattle.xp_meaning.proofs.Places.{candidates-answer, number_is_position}
use Rattle.location_texts.specs.LocationSteps.{KidKind, elements, texts, comments, instructions, LocationStep, to_kid, to_attribute, test_written, step_text, IsSpellable}
use Rattle.location_texts.specs.StepTypes.{kind_test, is_named, typed_by}
use Rattle.location_ways.specs.WayDown.{HasSpellableAttributes}
use Rattle.location_ways.proofs.Lists as lists
use Rattle.location_ways.proofs.Lists.{filter-few, filter-all, filter-only, Placed}
use Rattle.location_ways.proofs.Predicates.{chosen-answer, from_one, has_parts, named_answer}

-- an attribute by both parts of its name
abbrev pub step_by_parts : Table → Lets → List ℕ → List ℕ → Step
step_by_parts T L local uri = record { axis = axes.Attribute; test = tests.Star; predicates = meanings T L (typed (is_named local uri) no_typed) }

-- a step as what it means
abbrev pub step_meant : Table → Lets → LocationStep → Step
step_meant T L (to_kid kind place) = record { axis = axes.Child; test = kind_test kind; predicates = meanings T L (typed (whole (pos place)) no_typed) }
step_meant T L (to_attribute local []) = record { axis = axes.Attribute; test = tests.Named [] local; predicates = [] }
step_meant T L (to_attribute local (b ∷ uri)) = step_by_parts T L local (b ∷ uri)

pub first_meant : (T : Table) (L : Lets) (s : LocationStep) (rest : TypedSteps) → steps_meant T L (typed_by s rest) ≡ step_meant T L s ∷ steps_meant T L rest
first_meant T L (to_kid kind place) rest = refl
first_meant T L (to_attribute local []) rest = refl
first_meant T L (to_attribute local (b ∷ uri)) rest = refl

-- a step that spells the way from a parent to a node, and leads there
pub record LastStep (T : Table) (p n : ℕ) : Type 0 where
  pub last : LocationStep
  pub spellable : IsSpellable last
  pub spelled : step_of T n ≡ step_text last
  pub leads : (L : Lets) (current : ℕ) → (step_from T (step_meant T L last) current (p ∷ [])).answer ≡ Ok (n ∷ [])

-- ---- kinds

abbrev kind_of_kid : KidKind → Kind
kind_of_kid elements = kinds.Element
kind_of_kid texts = kinds.Text
kind_of_kid comments = kinds.Comment
kind_of_kid instructions = kinds.Pi

can_be : (kind : KidKind) → can_be_kid (Some (kind_of_kid kind)) ≡ true
can_be elements = refl
can_be texts = refl
can_be comments = refl
can_be instructions = refl

spelled_by : (T : Table) (n : ℕ) (kind : KidKind) → step_by T n (Some (kind_of_kid kind)) ≡ kid_step (test_written kind) (place_of T (kind_of_kid kind) n)
spelled_by T n elements = refl
spelled_by T n texts = refl
spelled_by T n comments = refl
spelled_by T n instructions = refl

-- the node test of a kind is passed by the nodes of that kind
tested_by : (T : Table) (kind : KidKind) (ms : List ℕ) (k n : ℕ) → slice_get (filter (has_kind T (kind_of_kid kind)) ms) k ≡ Some n →
    slice_get (filter (passes T axes.Child (kind_test kind)) ms) k ≡ Some n
tested_by T elements ms k n stands = stands
tested_by T texts ms k n stands = stands
tested_by T comments ms k n stands = stands
tested_by T instructions ms k n stands = stands

bytes_same : (xs ys : List ℕ) → bytes_eq xs ys ≡ true → xs ≡ ys
bytes_same xs ys is = (bytes_eq-Decides xs ys).0 is

same_bytes : (xs ys : List ℕ) → xs ≡ ys → bytes_eq xs ys ≡ true
same_bytes xs ys e = (bytes_eq-Decides xs ys).1 e

module _ (T : Table) (formed : WellFormed T) (ordered : Ordered T) (cells : AxesByCells T) where
  -- ---- kids

  few_kids : (p : ℕ) → is_live T p ≡ true → length (kids_of T p) ≤ length (order T)
  few_kids p live = subst (λ (kids : List ℕ). length kids ≤ length (order T)) (cells.child p live) (filter-few (on_axis T axes.Child p) (order T))

  kid_found : (L : Lets) (kind : KidKind) (k current p n : ℕ) → is_live T p ≡ true →
      slice_get (filter (has_kind T (kind_of_kid kind)) (kids_of T p)) k ≡ Some n →
      (step_at T (step_meant T L (to_kid kind (suc k))) current p).answer ≡ Ok (n ∷ [])
  kid_found L kind k current p n live stands =
      number_is_position T L axes.Child (kind_test kind) k current p
      ∙ ap (λ (ms : List ℕ). Ok (option_to_list (slice_get (filter (passes T axes.Child (kind_test kind)) ms) k))) (cells.child p live)
      ∙ ap (λ (o : Option ℕ). Ok (option_to_list o)) (tested_by T kind (kids_of T p) k n stands)

  kid_step-to : (kind : KidKind) (p n : ℕ) → is_live T p ≡ true → is_live T n ≡ true → parent_of T n ≡ Some p → kind_of T n ≡ Some (kind_of_kid kind) →
      Placed (has_kind T (kind_of_kid kind)) n (kids_of T p) → LastStep T p n
  kid_step-to kind p n live_p live up is place =
      let few : length (order T) ≤ 262144 = formed.few_nodes in
      record {
        last = to_kid kind (suc place.before);
        spellable = omega (arith, few, few_kids p live_p, place.few);
        spelled = ap (step_by T n) is
            ∙ (spelled_by T n kind
            ∙ ap (kid_step (test_written kind)) (ap (λ (o : Option ℕ). place_among (has_kind T (kind_of_kid kind)) n (kids_of_parent T o)) up ∙ place.place));
        leads = λ L current. from_one T ordered (step_meant T L (to_kid kind (suc place.before))) current p n live
            (kid_found L kind place.before current p n live_p place.stands);
      }

  kid_listed : (kind : KidKind) (p n : ℕ) → parent_of T n ≡ Some p → kind_of T n ≡ Some (kind_of_kid kind) → mem n (kids_of T p) ≡ true
  kid_listed kind p n up is = ⊎_elim
      (λ (e : mem n (attrs_of T p) ≡ true).
      let not_so : can_be_kid (Some (kind_of_kid kind)) ≡ false = ap can_be_kid (sym is ∙ formed.attribute_kind p n e) in
      let so = can_be kind in absurd (cc))
      (λ (e : mem n (kids_of T p) ≡ true). e)
      (mem-append n (attrs_of T p) (kids_of T p) (formed.is_listed n p up))

  pub to_kid_last : (kind : KidKind) (p n : ℕ) → is_live T p ≡ true → is_live T n ≡ true → parent_of T n ≡ Some p →
      kind_of T n ≡ Some (kind_of_kid kind) → LastStep T p n
  to_kid_last kind p n live_p live up is =
      kid_step-to kind p n live_p live up is
      (lists.placed (has_kind T (kind_of_kid kind)) n (kids_of T p) (kid_listed kind p n up is) (ap (is_kind (kind_of_kid kind)) is ∙ same_kind (kind_of_kid kind)))

  -- ---- attributes

  attribute_listed : (p n : ℕ) → parent_of T n ≡ Some p → kind_of T n ≡ Some kinds.Attribute → mem n (attrs_of T p) ≡ true
  attribute_listed p n up is = ⊎_elim
      (λ (e : mem n (attrs_of T p) ≡ true). e)
      (λ (e : mem n (kids_of T p) ≡ true).
      let can : can_be_kid (kind_of T n) ≡ true = formed.kid_kind p n e in
      let not_so : can_be_kid (kind_of T n) ≡ false = ap can_be_kid is in absurd (cc))
      (mem-append n (attrs_of T p) (kids_of T p) (formed.is_listed n p up))

  module _ (p n : ℕ) (name : Name) (live_p : is_live T p ≡ true) (there : mem n (attrs_of T p) ≡ true) (is_name : name_of T n ≡ Some name) where
    -- no other attribute of the element has the name
    the_one : (m : ℕ) (other : Name) → mem m (attrs_of T p) ≡ true → name_of T m ≡ Some other → bytes_eq other.uri name.uri ≡ true →
        bytes_eq other.local name.local ≡ true → m ≡ n
    the_one m other among is_other uris locals =
        let alike : expanded other ≡ expanded name = rw (bytes_same other.uri name.uri uris, bytes_same other.local name.local locals) refl in
        let same : expanded_of T m ≡ expanded_of T n = ap expanded_in is_other ∙ (ap Some alike ∙ sym (ap expanded_in is_name)) in
        formed.names_differ p m n among there same

    -- by its name alone
    plain_only : name.uri ≡ [] → (m : ℕ) → mem m (attrs_of T p) ≡ true → passes T axes.Attribute (tests.Named [] name.local) m ≡ true → m ≡ n
    plain_only none m among holds = by (name_of T m) refl
        (both (is_attribute_kind (kind_of T m)) (named (name_of T m) (λ x. bytes_eq x.uri [] && bytes_eq x.local name.local)) holds).1
      where
        by : (o : Option Name) → name_of T m ≡ o → named o (λ x. bytes_eq x.uri [] && bytes_eq x.local name.local) ≡ true → m ≡ n
        by None e t = absurd (cc)
        by (Some other) e t =
            let parts = both (bytes_eq other.uri []) (bytes_eq other.local name.local) t in
            the_one m other among e (subst (λ (u : List ℕ). bytes_eq other.uri u ≡ true) (sym none) parts.0) parts.1

    plain_passes : name.uri ≡ [] → passes T axes.Attribute (tests.Named [] name.local) n ≡ true
    plain_passes none =
        ap₂ (λ (k : Option Kind) (o : Option Name). is_attribute_kind k && named o (λ x. bytes_eq x.uri [] && bytes_eq x.local name.local))
        (formed.attribute_kind p n there) is_name
        ∙ ap₂ (λ a b. a && b) (same_bytes name.uri [] none) (same_bytes name.local name.local refl)

    plain_found : name.uri ≡ [] → (L : Lets) (current : ℕ) → (step_at T (step_meant T L (to_attribute name.local [])) current p).answer ≡ Ok (n ∷ [])
    unfolding done
    plain_found none L current =
        let found : List ℕ = filter (passes T axes.Attribute (tests.Named [] name.local)) (axis_nodes T axes.Attribute p) in
        answer_then (candidates T axes.Attribute (tests.Named [] name.local) p) (λ ms. filtered [] current ms) found
        (candidates-answer T axes.Attribute (tests.Named [] name.local) p)
        ∙ ap (λ (ms : List ℕ). Ok (filter (passes T axes.Attribute (tests.Named [] name.local)) ms)) (cells.attribute p live_p)
        ∙ ap Ok (filter-only (passes T axes.Attribute (tests.Named [] name.local)) n (attrs_of T p) (formed.attributes_once p) there (plain_passes none) (plain_only none))

    -- by both parts of its name
    parts_only : (m : ℕ) → mem m (attrs_of T p) ≡ true → has_parts T name.local name.uri m ≡ true → m ≡ n
    parts_only m among holds =
        let other = has_name T m (formed.attribute_kind p m among) in
        let test : (bytes_eq other.0.local name.local && bytes_eq other.0.uri name.uri) ≡ true =
        ap (λ (o : Option Name). bytes_eq (local_in o) name.local && bytes_eq (uri_in o) name.uri) (sym other.1) ∙ holds in
        let parts = both (bytes_eq other.0.local name.local) (bytes_eq other.0.uri name.uri) test in
        the_one m other.0 among other.1 parts.1 parts.0

    parts_hold : has_parts T name.local name.uri n ≡ true
    parts_hold =
        ap (λ (o : Option Name). bytes_eq (local_in o) name.local && bytes_eq (uri_in o) name.uri) is_name
        ∙ ap₂ (λ a b. a && b) (same_bytes name.local name.local refl) (same_bytes name.uri name.uri refl)

    stars : filter (passes T axes.Attribute tests.Star) (axis_nodes T axes.Attribute p) ≡ attrs_of T p
    stars = ap (filter (passes T axes.Attribute tests.Star)) (cells.attribute p live_p)
        ∙ filter-all (passes T axes.Attribute tests.Star) (attrs_of T p) (λ m k. ap is_attribute_kind (formed.attribute_kind p m (In-mem m (attrs_of T p) k)))

    parts_found : (L : Lets) (current : ℕ) → (step_at T (step_by_parts T L name.local name.uri) current p).answer ≡ Ok (n ∷ [])
    unfolding done
    parts_found L current =
        let found : List ℕ = filter (passes T axes.Attribute tests.Star) (axis_nodes T axes.Attribute p) in
        answer_then (candidates T axes.Attribute tests.Star p) (λ ms. filtered (meanings T L (typed (is_named name.local name.uri) no_typed)) current ms) found
        (candidates-answer T axes.Attribute tests.Star p)
        ∙ answer_then (kept (meaning T L (is_named name.local name.uri)) current found) (λ ms. filtered [] current ms) (filter (has_parts T name.local name.uri) found)
        (chosen-answer (λ position m. meaning T L (is_named name.local name.uri) (placed current (length found) position m)) (has_parts T name.local name.uri)
        (λ i m. named_answer T L name.local name.uri (placed current (length found) i m)) 1 found)
        ∙ ap (λ (ms : List ℕ). Ok (filter (has_parts T name.local name.uri) ms)) stars
        ∙ ap Ok (filter-only (has_parts T name.local name.uri) n (attrs_of T p) (formed.attributes_once p) there parts_hold parts_only)

    attribute_found : (L : Lets) (current : ℕ) (uri : List ℕ) → name.uri ≡ uri →
        (step_at T (step_meant T L (to_attribute name.local uri)) current p).answer ≡ Ok (n ∷ [])
    attribute_found L current [] e = plain_found e L current
    attribute_found L current (b ∷ uri) e =
        subst (λ (u : List ℕ). (step_at T (step_by_parts T L name.local u) current p).answer ≡ Ok (n ∷ [])) e (parts_found L current)

  pub to_attribute_last : (p n : ℕ) (name : Name) → HasSpellableAttributes T → is_live T p ≡ true → is_live T n ≡ true → parent_of T n ≡ Some p →
      kind_of T n ≡ Some kinds.Attribute →
      name_of T n ≡ Some name → LastStep T p n
  to_attribute_last p n name spellable live_p live up is is_name = record {
    last = to_attribute name.local name.uri;
    spellable = spellable n name is is_name;
    spelled = ap (step_by T n) is ∙ ap attribute_step is_name;
    leads = λ L current. from_one T ordered (step_meant T L (to_attribute name.local name.uri)) current p n live
        (attribute_found p n name live_p (attribute_listed p n up is) is_name L current name.uri refl);
  }
