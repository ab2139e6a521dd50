-- Where the name of a node is among the names along axes.
use Rattle.std.proofs.Common.{◌≡◌, ◌∙◌, ℕ, ◌+◌, ◌<◌, ◌≤◌, ◌==◌, Bool, true, false, not, cond, ◌||◌, ◌&&◌, List, [], ◌∷◌, ◌++◌, ◌⊎◌, Option, None, Some, filter, get_or, map, length, take, arith, refl, sym, ap, subst, inl, inr}
use Rattle.std.proofs.lemmas.Bool.{and_from, cases_lt, eq-eqb, eqb-true, false_from_ne_true, false≢true, or_cases, or_left, or_right}
use Rattle.std.proofs.lemmas.List.{take_more}
use Rattle.std.specs.Bool.{OnFalse}
use Rattle.std.specs.List.{list_any}
use Rattle.std.specs.Option.{is_some}
use Rattle.std.specs.Prelude.{if◌then◌else◌}
use Rattle.doc_tree.specs.cell.Cell.{Cell}
use Rattle.doc_tree.specs.cell.Cell.TheVariants.{Kids, Shape, Attrs, Value, Text, Name}
use Rattle.doc_tree.specs.kind.Kind.{Kind}
use Rattle.doc_tree.specs.kind.Kind.TheVariants as kinds
use Rattle.doc_tree.specs.Kinds.{is_element}
use Rattle.doc_tree.specs.declared.axes.Axis.{Axis}
use Rattle.doc_tree.specs.declared.axes.Axis.TheVariants.{Ancestor, AncestorOrSelf, Attribute, Child, Descendant, DescendantOrSelf, Following, FollowingSibling, Parent, Preceding, PrecedingSibling, SelfNode}
use Rattle.doc_tree.specs.Laws.{HasWaysUp, Ordered, WellFormed}
use Rattle.doc_tree.specs.Lists.{mem}
use Rattle.doc_tree.specs.Order.{Nested, after, is_before}
use Rattle.doc_tree.specs.Table.{Facts, Table, attrs_of, content_at, entry_at, is_live, kids_above, kids_of, kind_at, kind_of, parent_at, parent_of}
use Rattle.doc_tree.specs.Walks.{ancestors, order}
use Rattle.doc_axes.specs.Axes.{axis_nodes, axis_order, backwards, is_after, is_ancestor, is_attribute, is_attribute_kind, is_descendant, is_one, is_reverse, is_sibling, kids_beside, on_axis}
use Rattle.doc_axes.specs.NodeTests.{is_principal}
use Rattle.doc_axes.proofs.AxisLemmas.{kid-is_plain}
use Rattle.doc_edit_laws.specs.Touching.{touched_name}
use Rattle.xp_outcome.specs.Evaluation.{Read, cell, names_along, variable}
use Rattle.read_index.specs.Names.{is_far}
use Rattle.kept_reads.specs.declared.kept_reads.KeptReads.{KeptReads}
use Rattle.kept_reads.specs.Reads.{has_kept, reads_at}
use Rattle.kept_reads.specs.inner.Dropping.{IsFreeOf, is_touched}
use Rattle.kept_reads.specs.inner.Naming.{IsAlongAny, IsAlongBelow, IsAlongFrom, IsAlongSome, IsBelowNames, IsBesideNames, IsNamedFrom, IsOwnNames, IsParentsNames, is_sibling_axis}

both_true : (a b : Bool) → (a && b) ≡ true → (a ≡ true) × (b ≡ true)
both_true true true is = (refl, refl)
both_true true false is = absurd (false≢true is)
both_true false b is = absurd (false≢true is)

or_right_false : (b : Bool) → (b || false) ≡ true → b ≡ true
or_right_false true is = refl
or_right_false false is = is

-- Lists

apart : (a b : ℕ) → (a == b) ≡ false → (b == a) ≡ false
apart a b differ = false_from_ne_true (b == a) (λ same. false≢true (sym differ ∙ eq-eqb a b (sym (eqb-true b a same))))

none_of : (b : Bool) → false ≡ (b && false)
none_of true = refl
none_of false = refl

-- of the nodes that pass one has the name
any_named : (m : ℕ) (p : ℕ → Bool) (ns : List ℕ) → list_any (touched_name m) (map Name (filter p ns)) ≡ (p m && mem m ns)
any_named m p [] = none_of (p m)
any_named m p (n ∷ ns) = by (p n) (m == n) refl refl (any_named m p ns)
  where
    at_it : (b : Bool) → b ≡ true → true ≡ (b && true)
    at_it true is = refl
    at_it false is = absurd (false≢true is)

    past_it : (b c d : Bool) → b ≡ false → (b && c) ≡ (b && d)
    past_it true c d is = absurd (false≢true (sym is))
    past_it false c d is = refl

    by : (b e : Bool) → p n ≡ b → (m == n) ≡ e → list_any (touched_name m) (map Name (filter p ns)) ≡ (p m && mem m ns) →
        list_any (touched_name m) (map Name (cond b (n ∷ filter p ns) (filter p ns))) ≡ (p m && (e || mem m ns))
    by true true passes same more =
        ap (λ (b : Bool). b || list_any (touched_name m) (map Name (filter p ns))) (eq-eqb n m (sym (eqb-true m n same)))
        ∙ at_it (p m) (ap p (eqb-true m n same) ∙ passes)
    by true false passes differ more =
        ap (λ (b : Bool). b || list_any (touched_name m) (map Name (filter p ns))) (apart m n differ) ∙ more
    by false true fails same more = more ∙ past_it (p m) (mem m ns) true (ap p (eqb-true m n same) ∙ fails)
    by false false fails differ more = more

-- what is in a list by a filter
mem_filter : (p : ℕ → Bool) (m : ℕ) (ns : List ℕ) → mem m (filter p ns) ≡ (p m && mem m ns)
mem_filter p m [] = none_of (p m)
mem_filter p m (n ∷ ns) = by (p n) (m == n) refl refl (mem_filter p m ns)
  where
    at_it : (b : Bool) → b ≡ true → true ≡ (b && true)
    at_it true is = refl
    at_it false is = absurd (false≢true is)

    past_it : (b c d : Bool) → b ≡ false → (b && c) ≡ (b && d)
    past_it true c d is = absurd (false≢true (sym is))
    past_it false c d is = refl

    by : (b e : Bool) → p n ≡ b → (m == n) ≡ e → mem m (filter p ns) ≡ (p m && mem m ns) →
        mem m (cond b (n ∷ filter p ns) (filter p ns)) ≡ (p m && (e || mem m ns))
    by true true passes same more = ap (λ (b : Bool). b || mem m (filter p ns)) same ∙ at_it (p m) (ap p (eqb-true m n same) ∙ passes)
    by true false passes differ more = ap (λ (b : Bool). b || mem m (filter p ns)) differ ∙ more
    by false true fails same more = more ∙ past_it (p m) (mem m ns) true (ap p (eqb-true m n same) ∙ fails)
    by false false fails differ more = more

mem_append : (m : ℕ) (xs ys : List ℕ) → mem m (xs ++ ys) ≡ (mem m xs || mem m ys)
mem_append m [] ys = refl
mem_append m (x ∷ xs) ys = by (m == x) (mem_append m xs ys)
  where
    by : (b : Bool) → mem m (xs ++ ys) ≡ (mem m xs || mem m ys) → (b || mem m (xs ++ ys)) ≡ ((b || mem m xs) || mem m ys)
    by true more = refl
    by false more = more

mem_backwards : (m : ℕ) (ns : List ℕ) → mem m (backwards ns) ≡ mem m ns
mem_backwards m [] = refl
mem_backwards m (n ∷ ns) =
    mem_append m (backwards ns) (n ∷ []) ∙ ap (λ (b : Bool). b || ((m == n) || false)) (mem_backwards m ns) ∙ turned (mem m ns) (m == n)
  where
    turned : (a b : Bool) → (a || (b || false)) ≡ (b || a)
    turned true true = refl
    turned true false = refl
    turned false true = refl
    turned false false = refl

-- what stands after a number stands in the list, and so does the number
after_in : (n m : ℕ) (ns : List ℕ) → mem m (after n ns) ≡ true → mem m ns ≡ true
after_in n m [] is = is
after_in n m (k ∷ ns) is = by (n == k) is (after_in n m ns)
  where
    by : (b : Bool) → mem m (if b then ns else after n ns) ≡ true → (mem m (after n ns) ≡ true → mem m ns ≡ true) → mem m (k ∷ ns) ≡ true
    by true there more = or_right (m == k) (mem m ns) there
    by false there more = or_right (m == k) (mem m ns) (more there)

after_there : (n m : ℕ) (ns : List ℕ) → mem m (after n ns) ≡ true → mem n ns ≡ true
after_there n m [] is = absurd (false≢true is)
after_there n m (k ∷ ns) is = by (n == k) refl is (after_there n m ns)
  where
    by : (b : Bool) → (n == k) ≡ b → mem m (if b then ns else after n ns) ≡ true → (mem m (after n ns) ≡ true → mem n ns ≡ true) →
        mem n (k ∷ ns) ≡ true
    by true same there more = or_left (n == k) (mem n ns) same
    by false differ there more = or_right (n == k) (mem n ns) (more there)

-- Names along axes

module _ (T : Table) (m : ℕ) where
  on_nodes : (axis : Axis) (n : ℕ) → mem m (axis_nodes T axis n) ≡ (on_axis T axis n m && mem m (order T))
  on_nodes axis n = by (is_reverse axis) ∙ mem_filter (on_axis T axis n) m (order T)
    where
      by : (b : Bool) → mem m (if b then backwards (axis_order T axis n) else axis_order T axis n) ≡ mem m (axis_order T axis n)
      by true = mem_backwards m (axis_order T axis n)
      by false = refl

  named_along : (axis : Axis) (n : ℕ) →
      is_touched T (touched_name m) (names_along axis n) ≡ (is_principal axis (kind_of T m) && (on_axis T axis n m && mem m (order T)))
  named_along axis n =
      any_named m (λ (k : ℕ). is_principal axis (kind_of T k)) (axis_nodes T axis n)
      ∙ ap (λ (b : Bool). is_principal axis (kind_of T m) && b) (on_nodes axis n)

  -- a node that is on an axis and of its principal kind is named along it
  hit_along : (axis : Axis) (n : ℕ) (r : Read) → mem m (order T) ≡ true → is_principal axis (kind_of T m) ≡ true → on_axis T axis n m ≡ true →
      r ≡ names_along axis n → is_touched T (touched_name m) r ≡ true
  hit_along axis n r lives principal on is =
      ap (is_touched T (touched_name m)) is ∙ named_along axis n
      ∙ and_from (is_principal axis (kind_of T m)) (on_axis T axis n m && mem m (order T)) principal
      (and_from (on_axis T axis n m) (mem m (order T)) on lives)

  -- and no other
  along_hit : (axis : Axis) (n : ℕ) → is_touched T (touched_name m) (names_along axis n) ≡ true →
      (is_principal axis (kind_of T m) ≡ true) × (on_axis T axis n m ≡ true)
  along_hit axis n hit =
      let parts = both_true (is_principal axis (kind_of T m)) (on_axis T axis n m && mem m (order T)) (sym (named_along axis n) ∙ hit) in
      (parts.0, (both_true (on_axis T axis n m) (mem m (order T)) parts.1).0)

-- the principal kind of all axes but one is an element
kind_cases : (axis : Axis) (kind : Option Kind) → is_principal axis kind ≡ true →
    ((axis ≡ Attribute) × (is_attribute_kind kind ≡ true)) ⊎ (is_element kind ≡ true)
kind_cases Attribute kind is = inl (refl, is)
kind_cases Ancestor kind is = inr is
kind_cases AncestorOrSelf kind is = inr is
kind_cases Child kind is = inr is
kind_cases Descendant kind is = inr is
kind_cases DescendantOrSelf kind is = inr is
kind_cases Following kind is = inr is
kind_cases FollowingSibling kind is = inr is
kind_cases Parent kind is = inr is
kind_cases Preceding kind is = inr is
kind_cases PrecedingSibling kind is = inr is
kind_cases SelfNode kind is = inr is

far_principal : (axis : Axis) (kind : Option Kind) → is_far axis ≡ true → is_element kind ≡ true → is_principal axis kind ≡ true
far_principal Attribute kind far is = absurd (false≢true far)
far_principal Ancestor kind far is = is
far_principal AncestorOrSelf kind far is = is
far_principal Child kind far is = is
far_principal Descendant kind far is = is
far_principal DescendantOrSelf kind far is = is
far_principal Following kind far is = is
far_principal FollowingSibling kind far is = is
far_principal Parent kind far is = is
far_principal Preceding kind far is = is
far_principal PrecedingSibling kind far is = is
far_principal SelfNode kind far is = is

sibling_principal : (axis : Axis) (kind : Option Kind) → is_sibling_axis axis ≡ true → is_element kind ≡ true → is_principal axis kind ≡ true
sibling_principal Attribute kind sibling is = absurd (false≢true sibling)
sibling_principal Ancestor kind sibling is = is
sibling_principal AncestorOrSelf kind sibling is = is
sibling_principal Child kind sibling is = is
sibling_principal Descendant kind sibling is = is
sibling_principal DescendantOrSelf kind sibling is = is
sibling_principal Following kind sibling is = is
sibling_principal FollowingSibling kind sibling is = is
sibling_principal Parent kind sibling is = is
sibling_principal Preceding kind sibling is = is
sibling_principal PrecedingSibling kind sibling is = is
sibling_principal SelfNode kind sibling is = is

-- An element is no attribute
kinds_apart : (kind : Option Kind) → is_element kind ≡ true → is_attribute_kind kind ≡ true → ⊥
kinds_apart None is other = false≢true is
kinds_apart (Some kinds.Root) is other = false≢true is
kinds_apart (Some kinds.Element) is other = false≢true other
kinds_apart (Some kinds.Attribute) is other = false≢true is
kinds_apart (Some kinds.Text) is other = false≢true is
kinds_apart (Some kinds.Comment) is other = false≢true is
kinds_apart (Some kinds.Pi) is other = false≢true is

attribute_is : (kind : Option Kind) → kind ≡ Some kinds.Attribute → is_attribute_kind kind ≡ true
attribute_is kind is = ap is_attribute_kind is

pub no_attribute : (T : Table) (n : ℕ) → is_element (kind_of T n) ≡ true → is_attribute T n ≡ false
no_attribute T n is = false_from_ne_true (is_attribute T n) (kinds_apart (kind_of T n) is)

-- a node of a kind lives, and so does one that has a parent
kind_lives : (T : Table) (n : ℕ) (test : Option Kind → Bool) → test None ≡ false → test (kind_of T n) ≡ true → is_live T n ≡ true
kind_lives T n test none is = by (entry_at T n) is
  where
    by : (entry : Option Facts) → test (kind_at (content_at entry)) ≡ true → is_some entry ≡ true
    by None there = absurd (false≢true (sym none ∙ there))
    by (Some facts) there = refl

pub element_lives : (T : Table) (n : ℕ) → is_element (kind_of T n) ≡ true → is_live T n ≡ true
element_lives T n is = kind_lives T n is_element refl is

attribute_lives : (T : Table) (n : ℕ) → is_attribute_kind (kind_of T n) ≡ true → is_live T n ≡ true
attribute_lives T n is = kind_lives T n is_attribute_kind refl is

child_lives : (T : Table) (n p : ℕ) → parent_of T n ≡ Some p → is_live T n ≡ true
child_lives T n p up = by (entry_at T n) up
  where
    by : (entry : Option Facts) → parent_at entry ≡ Some p → is_some entry ≡ true
    by None none = absurd (cc)
    by (Some facts) is = refl

-- a name that was touched is the node's
name_alone : (m : ℕ) (c : Cell) → touched_name m c ≡ true → cell c ≡ cell (Name m)
name_alone m (Name n) hit = ap (λ (k : ℕ). cell (Name k)) (eqb-true n m hit)
name_alone m (Kids n) hit = absurd (false≢true hit)
name_alone m (Shape n) hit = absurd (false≢true hit)
name_alone m (Attrs n) hit = absurd (false≢true hit)
name_alone m (Value n) hit = absurd (false≢true hit)
name_alone m (Text n) hit = absurd (false≢true hit)

-- The tree around a node

module _ (T : Table) (form : WellFormed T) (ordered : Ordered T) (ways : HasWaysUp T) (nested : Nested T) where
  in_order : (n : ℕ) → is_live T n ≡ true → mem n (order T) ≡ true
  in_order n lives = sym (ordered.live_in_order n) ∙ lives

  made : (n : ℕ) → is_live T n ≡ true → n < length T
  made n lives = ordered.made n (in_order n lives)

  listed : (n p : ℕ) → parent_of T n ≡ Some p → (mem n (attrs_of T p) ≡ true) ⊎ (mem n (kids_of T p) ≡ true)
  listed n p up = or_cases (mem n (attrs_of T p)) (mem n (kids_of T p)) (sym (mem_append n (attrs_of T p) (kids_of T p)) ∙ form.is_listed n p up)

  -- a node that is no attribute is a kid of its parent, and one that is is an attribute of it
  plain_kid : (n p : ℕ) → is_attribute T n ≡ false → parent_of T n ≡ Some p → mem n (kids_of T p) ≡ true
  plain_kid n p plain up = elim (listed n p up) [
    | inl attribute ↦ absurd (false≢true (sym plain ∙ attribute_is (kind_of T n) (form.attribute_kind p n attribute)))
    | inr kid ↦ kid
  ]

  own_attribute : (n p : ℕ) → is_attribute T n ≡ true → parent_of T n ≡ Some p → mem n (attrs_of T p) ≡ true
  own_attribute n p is up = elim (listed n p up) [
    | inl attribute ↦ attribute
    | inr kid ↦ absurd (false≢true (sym (kid-is_plain T form ordered ways nested p n kid) ∙ is))
  ]

  -- the siblings of a kid
  kids_around : (k p : ℕ) → mem k (kids_of T p) ≡ true → kids_beside T k ≡ kids_of T p
  kids_around k p kid =
      ap (λ (b : Bool). if b then [] else kids_above T (parent_of T k)) (kid-is_plain T form ordered ways nested p k kid)
      ∙ ap (kids_above T) (form.kid_parent p k kid)

  pub sibling_stands : (k p m : ℕ) → mem k (kids_of T p) ≡ true → is_element (kind_of T m) ≡ true → parent_of T m ≡ Some p → is_sibling T k m ≡ true
  sibling_stands k p m kid element up = ap (mem m) (kids_around k p kid) ∙ plain_kid m p (no_attribute T m element) up

  -- and whose sibling a node is
  beside_kid : (n m : ℕ) → is_sibling T n m ≡ true → (p : ℕ) × (parent_of T m ≡ Some p) × (mem n (kids_of T p) ≡ true)
  beside_kid n m sibling = by (is_attribute T n) (parent_of T n) refl refl sibling
    where
      by : (attribute : Bool) (up : Option ℕ) → is_attribute T n ≡ attribute → parent_of T n ≡ up →
          mem m (if attribute then [] else kids_above T up) ≡ true →
          (p : ℕ) × (parent_of T m ≡ Some p) × (mem n (kids_of T p) ≡ true)
      by true up is at there = absurd (false≢true there)
      by false None is at there = absurd (false≢true there)
      by false (Some p) is at there = (p, form.kid_parent p m there, plain_kid n p is at)

  -- a node with an ancestor lives, and so does one with a parent
  under_lives : (n m : ℕ) → mem m (ancestors T n) ≡ true → is_live T n ≡ true
  under_lives n m up = by (parent_of T n) refl
    where
      by : (parent : Option ℕ) → parent_of T n ≡ parent → is_live T n ≡ true
      by None is = absurd (false≢true (ap (mem m) (sym (ways.no_ancestors n is)) ∙ up))
      by (Some p) is = child_lives T n p is

  kid_lives : (n m : ℕ) → is_one (parent_of T n) m ≡ true → is_live T n ≡ true
  kid_lives n m one = by (parent_of T n) refl one
    where
      by : (parent : Option ℕ) → parent_of T n ≡ parent → is_one parent m ≡ true → is_live T n ≡ true
      by None is there = absurd (false≢true there)
      by (Some p) is there = child_lives T n p is

  -- a node from which another stands on a far axis lives
  far_lives : (axis : Axis) (n m : ℕ) → is_far axis ≡ true → is_live T m ≡ true → on_axis T axis n m ≡ true → is_live T n ≡ true
  far_lives Attribute n m far lives on = absurd (false≢true far)
  far_lives Child n m far lives on = absurd (false≢true far)
  far_lives Descendant n m far lives on = absurd (false≢true far)
  far_lives DescendantOrSelf n m far lives on = absurd (false≢true far)
  far_lives FollowingSibling n m far lives on = absurd (false≢true far)
  far_lives PrecedingSibling n m far lives on = absurd (false≢true far)
  far_lives Ancestor n m far lives on = under_lives n m on
  far_lives AncestorOrSelf n m far lives on = elim (or_cases (is_ancestor T n m) (m == n) on) [
    | inl above ↦ under_lives n m above
    | inr same ↦ ap (is_live T) (sym (eqb-true m n same)) ∙ lives
  ]
  far_lives Following n m far lives on =
      let parts = both_true (is_after T n m && not (is_ancestor T m n)) (not (is_attribute T m)) on in
      ordered.live_in_order n ∙ after_there n m (order T) (both_true (is_after T n m) (not (is_ancestor T m n)) parts.0).0
  far_lives Parent n m far lives on = kid_lives n m on
  far_lives Preceding n m far lives on =
      let parts = both_true (is_after T m n && not (is_ancestor T n m)) (not (is_attribute T m)) on in
      ordered.live_in_order n ∙ after_in m n (order T) (both_true (is_after T m n) (not (is_ancestor T n m)) parts.0).0
  far_lives SelfNode n m far lives on = ap (is_live T) (sym (eqb-true m n on)) ∙ lives

  -- An element's name

  module _ (m : ℕ) (element : is_element (kind_of T m) ≡ true) where
    lives : is_live T m ≡ true
    lives = element_lives T m element

    below_on : (a : ℕ) → mem a (ancestors T m) ≡ true → is_descendant T a m ≡ true
    below_on a up = and_from (is_ancestor T m a) (not (is_attribute T m)) up (ap not (no_attribute T m element))

    -- from where it is gone to
    below_hit : (a : ℕ) (r : Read) → mem a (ancestors T m) ≡ true → IsBelowNames a r → is_touched T (touched_name m) r ≡ true
    below_hit a r up (inl is) = hit_along T m Descendant a r (in_order m lives) element (below_on a up) is
    below_hit a r up (inr is) =
        hit_along T m DescendantOrSelf a r (in_order m lives) element (or_left (is_descendant T a m) (m == a) (below_on a up)) is

    beside_hit : (p : ℕ) (r : Read) → parent_of T m ≡ Some p → (r ≡ names_along Child p) ⊎ IsAlongAny T m is_sibling_axis (kids_of T p) r →
        is_touched T (touched_name m) r ≡ true
    beside_hit p r up (inl is) = hit_along T m Child p r (in_order m lives) element (plain_kid m p (no_attribute T m element) up) is
    beside_hit p r up (inr some) =
        hit_along T m some.2.0 some.0 r (in_order m lives) (sibling_principal some.2.0 (kind_of T m) some.2.1 element) some.2.2.0 some.2.2.1

    named_hit : (r : Read) → IsNamedFrom T m r → is_touched T (touched_name m) r ≡ true
    named_hit r (inl (inl (inl is))) =
        hit_along T m DescendantOrSelf m r (in_order m lives) element (or_right (is_descendant T m m) (m == m) (eq-eqb m m refl)) is
    named_hit r (inl (inl (inr up))) = below_hit up.0 r up.1 up.2
    named_hit r (inl (inr beside)) = beside_hit beside.0 r beside.1 beside.2
    named_hit r (inr some) =
        hit_along T m some.2.0 some.0 r (in_order m lives) (far_principal some.2.0 (kind_of T m) some.2.1 element) some.2.2.0 some.2.2.1

    pub element_touched : (r : Read) → (r ≡ cell (Name m)) ⊎ IsNamedFrom T m r → is_touched T (touched_name m) r ≡ true
    element_touched r (inl is) = ap (is_touched T (touched_name m)) is ∙ or_left (m == m) false (eq-eqb m m refl)
    element_touched r (inr named) = named_hit r named

    -- no other names along an axis hold it
    far_covered : (axis : Axis) (n : ℕ) → is_far axis ≡ true → on_axis T axis n m ≡ true → IsNamedFrom T m (names_along axis n)
    far_covered axis n far on = inr (n, made n (far_lives axis n m far lives on), (axis, far, (on, refl)))

    sibling_covered : (axis : Axis) (n : ℕ) → is_sibling_axis axis ≡ true → is_sibling T n m ≡ true → on_axis T axis n m ≡ true →
        IsNamedFrom T m (names_along axis n)
    sibling_covered axis n sibling stands on =
        let beside = beside_kid n m stands in
        inl (inr (beside.0, beside.1, inr (n, beside.2, (axis, sibling, (on, refl)))))

    below_covered : (n : ℕ) → is_descendant T n m ≡ true → mem n (ancestors T m) ≡ true
    below_covered n on = (both_true (is_ancestor T m n) (not (is_attribute T m)) on).0

    along_covered : (axis : Axis) (n : ℕ) → is_principal axis (kind_of T m) ≡ true → on_axis T axis n m ≡ true → IsNamedFrom T m (names_along axis n)
    along_covered Attribute n principal on = absurd (kinds_apart (kind_of T m) element principal)
    along_covered Child n principal on = inl (inr (n, form.kid_parent n m on, inl refl))
    along_covered Descendant n principal on = inl (inl (inr (n, below_covered n on, inl refl)))
    along_covered DescendantOrSelf n principal on = elim (or_cases (is_descendant T n m) (m == n) on) [
      | inl below ↦ inl (inl (inr (n, below_covered n below, inr refl)))
      | inr same ↦ inl (inl (inl (ap (names_along DescendantOrSelf) (sym (eqb-true m n same)))))
    ]
    along_covered FollowingSibling n principal on =
        sibling_covered FollowingSibling n refl (both_true (is_sibling T n m) (is_after T n m) on).0 on
    along_covered PrecedingSibling n principal on =
        sibling_covered PrecedingSibling n refl (both_true (is_sibling T n m) (is_after T m n) on).0 on
    along_covered Ancestor n principal on = far_covered Ancestor n refl on
    along_covered AncestorOrSelf n principal on = far_covered AncestorOrSelf n refl on
    along_covered Following n principal on = far_covered Following n refl on
    along_covered Parent n principal on = far_covered Parent n refl on
    along_covered Preceding n principal on = far_covered Preceding n refl on
    along_covered SelfNode n principal on = far_covered SelfNode n refl on

    pub element_covered : (r : Read) → is_touched T (touched_name m) r ≡ true → (r ≡ cell (Name m)) ⊎ IsNamedFrom T m r
    element_covered (cell c) hit = inl (name_alone m c (or_right_false (touched_name m c) hit))
    element_covered (names_along axis n) hit = let parts = along_hit T m axis n hit in inr (along_covered axis n parts.0 parts.1)
    element_covered (variable slot) hit = absurd (false≢true hit)

  -- The name of an attribute, or of what is none

  pub other_touched : (m : ℕ) (r : Read) → (r ≡ cell (Name m)) ⊎ IsOwnNames T m r → is_touched T (touched_name m) r ≡ true
  other_touched m r (inl is) = ap (is_touched T (touched_name m)) is ∙ or_left (m == m) false (eq-eqb m m refl)
  other_touched m r (inr own) = hit_along T m Attribute own.1.0 r (in_order m (attribute_lives T m own.0)) own.0
      (own_attribute m own.1.0 own.0 own.1.1) own.1.2

  pub other_covered : (m : ℕ) → is_element (kind_of T m) ≡ false → (r : Read) → is_touched T (touched_name m) r ≡ true →
      (r ≡ cell (Name m)) ⊎ IsOwnNames T m r
  other_covered m other (cell c) hit = inl (name_alone m c (or_right_false (touched_name m c) hit))
  other_covered m other (variable slot) hit = absurd (false≢true hit)
  other_covered m other (names_along axis n) hit = let parts = along_hit T m axis n hit in by (kind_cases axis (kind_of T m) parts.0) parts.1
    where
      by : ((axis ≡ Attribute) × (is_attribute_kind (kind_of T m) ≡ true)) ⊎ (is_element (kind_of T m) ≡ true) → on_axis T axis n m ≡ true →
          (names_along axis n ≡ cell (Name m)) ⊎ IsOwnNames T m (names_along axis n)
      by (inl is) on =
          inr (is.1, (n, form.attribute_parent n m (ap (λ (a : Axis). on_axis T a n m) (sym is.0) ∙ on), ap (λ (a : Axis). names_along a n) is.0))
      by (inr element) on = absurd (false≢true (sym other ∙ element))

-- Where it is gone to

same_some : (p q : ℕ) (up : Option ℕ) → up ≡ Some p → up ≡ Some q → q ≡ p
same_some p q up one other = some_is p q (sym one ∙ other)
  where
    some_is : (a b : ℕ) → Some a ≡ Some b → b ≡ a
    some_is a b same = cc

module _ (T : Table) (m p : ℕ) (up : parent_of T m ≡ Some p) where
  -- the parent is one
  pub beside_here : (r : Read) → (r ≡ names_along Child p) ⊎ IsAlongAny T m is_sibling_axis (kids_of T p) r → IsBesideNames T m r
  beside_here r is = (p, up, is)

  pub beside_back : (r : Read) → IsBesideNames T m r → (r ≡ names_along Child p) ⊎ IsAlongAny T m is_sibling_axis (kids_of T p) r
  beside_back r beside =
      subst (λ (q : ℕ). (r ≡ names_along Child q)
      ⊎ IsAlongAny T m is_sibling_axis (kids_of T q) r) (same_some p beside.0 (parent_of T m) up beside.1) beside.2

  pub parents_here : (r : Read) → r ≡ names_along Attribute p → IsParentsNames T m r
  parents_here r is = (p, up, is)

  pub parents_back : (r : Read) → IsParentsNames T m r → r ≡ names_along Attribute p
  parents_back r own = subst (λ (q : ℕ). r ≡ names_along Attribute q) (same_some p own.0 (parent_of T m) up own.1) own.2

module _ (T : Table) (m : ℕ) (none : parent_of T m ≡ None) where
  no_some : (q : ℕ) → parent_of T m ≡ Some q → ⊥
  no_some q up = other (sym none ∙ up)
    where
      other : None ≡ Some q → ⊥
      other is = absurd (cc)

  pub beside_none : (r : Read) → IsBesideNames T m r → ⊥
  beside_none r beside = no_some beside.0 beside.1

  pub parents_none : (r : Read) → IsParentsNames T m r → ⊥
  parents_none r own = no_some own.0 own.1

-- one node more
module _ (T : Table) (m : ℕ) (some : Axis → Bool) where
  module _ (ns : List ℕ) (i n : ℕ) (within : i < length ns) (at : n ≡ get_or ns i n) where
    taken : take (i + 1) ns ≡ take i ns ++ n ∷ []
    taken = take_more ns i n within ∙ ap (λ (k : ℕ). take i ns ++ k ∷ []) (sym at)

    one_more : (k : ℕ) → mem k (take (i + 1) ns) ≡ (mem k (take i ns) || ((k == n) || false))
    one_more k = ap (mem k) taken ∙ mem_append k (take i ns) (n ∷ [])

    pub any_more : (r : Read) → IsAlongAny T m some (take i ns) r ⊎ IsAlongSome T m some n r → IsAlongAny T m some (take (i + 1) ns) r
    any_more r (inl was) = (was.0, one_more was.0 ∙ or_left (mem was.0 (take i ns)) ((was.0 == n) || false) was.1, was.2)
    any_more r (inr here) =
        (n, one_more n ∙ or_right (mem n (take i ns)) ((n == n) || false) (or_left (n == n) false (eq-eqb n n refl)), here)

    pub any_less : (r : Read) → IsAlongAny T m some (take (i + 1) ns) r → IsAlongAny T m some (take i ns) r ⊎ IsAlongSome T m some n r
    any_less r is = by (or_cases (mem is.0 (take i ns)) ((is.0 == n) || false) (sym (one_more is.0) ∙ is.1))
      where
        by : (mem is.0 (take i ns) ≡ true) ⊎ (((is.0 == n) || false) ≡ true) → IsAlongAny T m some (take i ns) r ⊎ IsAlongSome T m some n r
        by (inl there) = inl (is.0, there, is.2)
        by (inr last) =
            inr (subst (λ (k : ℕ). IsAlongSome T m some k r) (eqb-true is.0 n (or_right_false (is.0 == n) last)) is.2)

  pub any_nothing : (r : Read) → IsAlongAny T m some [] r → ⊥
  any_nothing r is = false≢true is.1

  module _ (i n : ℕ) (at : n ≡ i) where
    pub below_more : (r : Read) → IsAlongBelow T m some i r ⊎ IsAlongSome T m some n r → IsAlongBelow T m some (i + 1) r
    below_more r (inl was) = let less = was.1 in (was.0, omega (arith, less), was.2)
    below_more r (inr here) = (n, omega (arith, at), here)

    pub below_less : (r : Read) → IsAlongBelow T m some (i + 1) r → IsAlongBelow T m some i r ⊎ IsAlongSome T m some n r
    below_less r is = by (cases_lt is.0 i)
      where
        by : (is.0 < i) ⊎ (i ≤ is.0) → IsAlongBelow T m some i r ⊎ IsAlongSome T m some n r
        by (inl less) = inl (is.0, less, is.2)
        by (inr past) =
            let less = is.1 in
            let last : is.0 ≡ n = omega (arith, less, past, at) in
            inr (subst (λ (k : ℕ). IsAlongSome T m some k r) last is.2)

  pub below_nothing : (r : Read) → IsAlongBelow T m some 0 r → ⊥
  below_nothing r is = let less = is.1 in omega (arith, less)

module _ (T : Table) (form : WellFormed T) (ordered : Ordered T) (ways : HasWaysUp T) (nested : Nested T) (m : ℕ)
    (element : is_element (kind_of T m) ≡ true) where
  -- all numbers
  pub below_all : (count : ℕ) (r : Read) → IsAlongBelow T m is_far count r → IsAlongBelow T m is_far (length T) r
  below_all count r is = (
    is.0,
    made T form ordered ways nested is.0 (far_lives T form ordered ways nested is.2.0 is.0 m is.2.1 (element_lives T m element) is.2.2.0),
    is.2,
  )

  pub below_each : (count : ℕ) → length T ≤ count → (r : Read) → IsAlongBelow T m is_far (length T) r → IsAlongBelow T m is_far count r
  below_each count whole r is = let less = is.1 in (is.0, omega (arith, less, whole), is.2)

  -- from a node that doesn't live no far axis leads
  pub dead_far : (n : ℕ) → is_live T n ≡ false → (r : Read) → IsAlongSome T m is_far n r → ⊥
  dead_far n dead r is = false≢true (sym dead ∙ far_lives T form ordered ways nested is.0 n m is.1 (element_lives T m element) is.2.0)

  -- siblings
  module _ (k p : ℕ) (kid : mem k (kids_of T p) ≡ true) (up : parent_of T m ≡ Some p) where
    pub kid_before : is_before T k m ≡ on_axis T FollowingSibling k m
    kid_before = sym (ap (λ (b : Bool). b && is_after T k m) (sibling_stands T form ordered ways nested k p m kid element up))

    pub kid_behind : is_before T m k ≡ on_axis T PrecedingSibling k m
    kid_behind = sym (ap (λ (b : Bool). b && is_after T m k) (sibling_stands T form ordered ways nested k p m kid element up))

-- the axes to siblings, and the far axes
module _ (T : Table) (m n : ℕ) (r : Read) where
  pub siblings_here : IsAlongFrom T m FollowingSibling n r ⊎ IsAlongFrom T m PrecedingSibling n r → IsAlongSome T m is_sibling_axis n r
  siblings_here (inl is) = (FollowingSibling, refl, is)
  siblings_here (inr is) = (PrecedingSibling, refl, is)

  sibling_cases : (axis : Axis) → is_sibling_axis axis ≡ true → IsAlongFrom T m axis n r →
      IsAlongFrom T m FollowingSibling n r ⊎ IsAlongFrom T m PrecedingSibling n r
  sibling_cases FollowingSibling sibling is = inl is
  sibling_cases PrecedingSibling sibling is = inr is
  sibling_cases Ancestor sibling is = absurd (false≢true sibling)
  sibling_cases AncestorOrSelf sibling is = absurd (false≢true sibling)
  sibling_cases Attribute sibling is = absurd (false≢true sibling)
  sibling_cases Child sibling is = absurd (false≢true sibling)
  sibling_cases Descendant sibling is = absurd (false≢true sibling)
  sibling_cases DescendantOrSelf sibling is = absurd (false≢true sibling)
  sibling_cases Following sibling is = absurd (false≢true sibling)
  sibling_cases Parent sibling is = absurd (false≢true sibling)
  sibling_cases Preceding sibling is = absurd (false≢true sibling)
  sibling_cases SelfNode sibling is = absurd (false≢true sibling)

  pub siblings_back : IsAlongSome T m is_sibling_axis n r → IsAlongFrom T m FollowingSibling n r ⊎ IsAlongFrom T m PrecedingSibling n r
  siblings_back is = sibling_cases is.0 is.1 is.2

  abbrev pub IsFar : Type 0
  IsFar =
      ((((IsAlongFrom T m Ancestor n r ⊎ IsAlongFrom T m AncestorOrSelf n r) ⊎ IsAlongFrom T m Following n r) ⊎ IsAlongFrom T m Parent n r)
      ⊎ IsAlongFrom T m Preceding n r)
      ⊎ IsAlongFrom T m SelfNode n r

  pub far_here : IsFar → IsAlongSome T m is_far n r
  far_here (inl (inl (inl (inl (inl is))))) = (Ancestor, refl, is)
  far_here (inl (inl (inl (inl (inr is))))) = (AncestorOrSelf, refl, is)
  far_here (inl (inl (inl (inr is)))) = (Following, refl, is)
  far_here (inl (inl (inr is))) = (Parent, refl, is)
  far_here (inl (inr is)) = (Preceding, refl, is)
  far_here (inr is) = (SelfNode, refl, is)

  far_cases : (axis : Axis) → is_far axis ≡ true → IsAlongFrom T m axis n r → IsFar
  far_cases Ancestor far is = inl (inl (inl (inl (inl is))))
  far_cases AncestorOrSelf far is = inl (inl (inl (inl (inr is))))
  far_cases Following far is = inl (inl (inl (inr is)))
  far_cases Parent far is = inl (inl (inr is))
  far_cases Preceding far is = inl (inr is)
  far_cases SelfNode far is = inr is
  far_cases Attribute far is = absurd (false≢true far)
  far_cases Child far is = absurd (false≢true far)
  far_cases Descendant far is = absurd (false≢true far)
  far_cases DescendantOrSelf far is = absurd (false≢true far)
  far_cases FollowingSibling far is = absurd (false≢true far)
  far_cases PrecedingSibling far is = absurd (false≢true far)

  pub far_back : IsAlongSome T m is_far n r → IsFar
  far_back is = far_cases is.0 is.1 is.2

-- what is said where a test fails
pub said_false : {P : Type 0} (b : Bool) → b ≡ false → OnFalse b P → P
said_false true is holds = absurd (false≢true (sym is))
said_false false is holds = holds

-- an element stands behind or before
module _ (T : Table) (m n : ℕ) (element : is_element (kind_of T m) ≡ true) where
  and_plain : (b : Bool) → b ≡ (b && not (is_attribute T m))
  and_plain true = sym (ap not (no_attribute T m element))
  and_plain false = refl

  pub following_plain : (is_after T n m && not (is_ancestor T m n)) ≡ on_axis T Following n m
  following_plain = and_plain (is_after T n m && not (is_ancestor T m n))

  pub preceding_plain : (is_after T m n && not (is_ancestor T n m)) ≡ on_axis T Preceding n m
  preceding_plain = and_plain (is_after T m n && not (is_ancestor T n m))

-- What no unit has read

pub far_free : (T : Table) (m : ℕ) (reads : KeptReads) →
    ((place : ℕ) (axis : Axis) (n : ℕ) → is_far axis ≡ true → has_kept (reads_at reads.entries place) (names_along axis n) ≡ false) →
    (r : Read) → IsAlongBelow T m is_far (length T) r → IsFreeOf r reads
far_free T m reads none r is place =
    ap (has_kept (reads_at reads.entries place)) is.2.2.1 ∙ none place is.2.0 is.0 is.2.1

pub along_free : (T : Table) (m : ℕ) (axis : Axis) (n : ℕ) (reads : KeptReads) →
    ((place : ℕ) → has_kept (reads_at reads.entries place) (names_along axis n) ≡ false) → (r : Read) → IsAlongFrom T m axis n r → IsFreeOf r reads
along_free T m axis n reads none r is place = ap (has_kept (reads_at reads.entries place)) is.1 ∙ none place
