-- Where the steps of a path pattern lead, along the way to a node.
use Rattle.std.proofs.Common.{◌≡◌, ℕ, Bool, true, false, not, cond, ◌||◌, ◌&&◌, List, [], ◌∷◌, ◌++◌, length, eqb, Option, None, Some, refl, sym, ap, ap₂, ◌∙◌, subst, ⊎_elim, true≢false, arith, append_assoc, eqb-true, eq-eqb}
use Rattle.std.proofs.Math.Bool.{or_comm}
use Rattle.std.specs.Prelude.{filter}
use Rattle.std.specs.List.{list_any, filter_map}
use Rattle.doc_tree.specs.kind.Kind.{Kind}
use Rattle.doc_tree.specs.kind.Kind.TheVariants as kinds
use Rattle.doc_tree.specs.declared.axes.Axis.{Axis}
use Rattle.doc_tree.specs.declared.axes.Axis.TheVariants as axes
use Rattle.doc_tree.specs.Kinds.{holds_kids}
use Rattle.doc_tree.specs.Lists.{mem}
use Rattle.doc_tree.specs.Table.{Table, parent_of, kids_of, attrs_of, is_live, kind_of}
use Rattle.doc_tree.specs.Walks.{ancestors, above, order}
use Rattle.doc_tree.specs.Order.{Nested}
use Rattle.doc_tree.specs.Laws.{WellFormed, Ordered, HasWaysUp}
use Rattle.doc_tree.proofs.ListLemmas.{In, In-mem, mem-In, mem-append, mem-one, mem-head, mem-tail}
use Rattle.doc_axes.specs.Axes.{backwards, is_attribute, is_attribute_kind, is_one, on_axis}
use Rattle.doc_axes.specs.NodeTests.{passes}
use Rattle.doc_axes.proofs.SubLists.{sub-one, filter-sub, filter-none, filter-same, backwards-twice}
use Rattle.doc_axes.proofs.AxisLemmas.{ancestor_or_self_axis}
use Rattle.doc_axes.proofs.AxisLemmas.{plain-kid}
use Rattle.xp_typed_tree.specs.TypedTree.{TypedPatternStepTree}
use Rattle.xp_typed_tree.specs.WellTyped.{is_pattern_axis, PatternStepsTyped}
use Rattle.xslt_ways.specs.Ways.{is_anywhere, looks_at, looks_there, OnOneWay}
use Rattle.xslt_ways.proofs.WayLemmas.{above_above, one_way}
use Rattle.xslt_match.specs.Matching.{is_candidate, leads, led_to, reaches, starts, standing}
use Rattle.xslt_match.specs.inner.Leading.{is_beside, fits, holder, leading_to}
use Rattle.xslt_match.proofs.Filters.{iff, and-false, and-true, or-false, eqb-turned, any-same, any-none, any-either, any-swap, filter-swap, filter-narrow, any-one, mem-out, Found, found, kept-passes, kept-listed, any-given, Given, given}

-- a test of the nodes that a step leads to from some nodes, by each of these
pub reaches_from : (T : Table) (ss : List TypedPatternStepTree) (ms : List ℕ) (n : ℕ) → reaches T ss ms n ≡ list_any (λ m. reaches T ss (m ∷ []) n) ms
reaches_from T [] [] n = refl
reaches_from T [] (m ∷ ms) n = ap₂ (λ a b. a || b) (sym (or-false (eqb n m))) (reaches_from T [] ms n)
reaches_from T (s ∷ ss) [] n = reaches_from T ss (led_to T s []) n ∙ ap (list_any (λ k. reaches T ss (k ∷ []) n)) (filter-none (λ k. false) (order T) (λ m h. refl))
reaches_from T (s ∷ ss) (m ∷ ms) n =
    let r : ℕ → Bool = λ k. reaches T ss (k ∷ []) n in
    reaches_from T ss (led_to T s (m ∷ ms)) n
    ∙ (any-either r (λ k. leads T s m k) (λ k. list_any (λ m. leads T s m k) ms) (order T)
    ∙ ap₂ (λ a b. a || b)
    (ap (list_any r) (filter-same (λ k. leads T s m k) (λ k. leads T s m k || false) (order T) (λ k h. sym (or-false (leads T s m k))))
    ∙ sym (reaches_from T ss (led_to T s (m ∷ [])) n))
    (sym (reaches_from T ss (led_to T s ms) n) ∙ reaches_from T (s ∷ ss) ms n))

-- no step leads to a node that its node test refuses
no_lead : (T : Table) (s : TypedPatternStepTree) (m n : ℕ) → passes T s.axis s.test n ≡ false → leads T s m n ≡ false
no_lead T s m n h = by (is_anywhere s.join)
  where
    none : (x : ℕ) → is_candidate T s x n ≡ false
    none x = ap (λ b. on_axis T s.axis x n && b) h ∙ and-false (on_axis T s.axis x n)

    by : (j : Bool) → cond j (list_any (λ x. on_axis T axes.DescendantOrSelf m x && is_candidate T s x n) (order T)) (is_candidate T s m n) ≡ false
    by true = any-none (λ x. on_axis T axes.DescendantOrSelf m x && is_candidate T s x n) (order T)
        (λ x. ap (λ b. on_axis T axes.DescendantOrSelf m x && b) (none x) ∙ and-false (on_axis T axes.DescendantOrSelf m x))
    by false = none m

pub not_led : (T : Table) (s : TypedPatternStepTree) (ms : List ℕ) (n : ℕ) → passes T s.axis s.test n ≡ false → mem n (led_to T s ms) ≡ false
not_led T s ms n h = mem-out (λ k. list_any (λ m. leads T s m k) ms) n (order T) (any-none (λ m. leads T s m n) ms (λ m. no_lead T s m n h))

-- so that no node stands at the last step
pub none_last : (T : Table) (s : TypedPatternStepTree) (ms : List ℕ) (n : ℕ) → passes T s.axis s.test n ≡ false → standing T s [] ms n ≡ []
none_last T s ms n h = filter-none (λ k. reaches T [] (k ∷ []) n) (led_to T s ms) (λ k i. other k (eqb n k) refl i)
  where
    other : (k : ℕ) (b : Bool) → eqb n k ≡ b → In k (led_to T s ms) → (b || false) ≡ false
    other k true e i = absurd (true≢false (sym (In-mem n (led_to T s ms) (subst (λ q. In q (led_to T s ms)) (sym (eqb-true n k e)) i)) ∙ not_led T s ms n h))
    other k false e i = refl

-- a well typed step between others
pub typed_at : (xs : List TypedPatternStepTree) (y : TypedPatternStepTree) (ys : List TypedPatternStepTree) → PatternStepsTyped ((xs ++ y ∷ []) ++ ys) →
    PatternStepsTyped (y ∷ ys)
typed_at [] y ys h = h
typed_at (x ∷ xs) y ys h = typed_at xs y ys h.2

-- the nodes from which the last steps lead on to n
pub record Going (T : Table) (steps rest : List TypedPatternStepTree) (nodes : List ℕ) (n : ℕ) : Type 0 where
  pub passed : List TypedPatternStepTree
  pub parted : steps ≡ rest ++ passed
  pub lead_on : nodes ≡ filter (λ k. reaches T passed (k ∷ []) n) (order T)

plain-holder : (o : Option Kind) → holds_kids o ≡ true → is_attribute_kind o ≡ false
plain-holder None h = refl
plain-holder (Some kinds.Root) h = refl
plain-holder (Some kinds.Element) h = refl
plain-holder (Some kinds.Attribute) h = absurd (true≢false (sym h))
plain-holder (Some kinds.Text) h = refl
plain-holder (Some kinds.Comment) h = refl
plain-holder (Some kinds.Pi) h = refl

and-both : (a b : Bool) → a ≡ true → b ≡ true → (a && b) ≡ true
and-both true b ea eb = eb
and-both false b ea eb = absurd (true≢false (sym ea))

and-parts : (a b : Bool) → (a && b) ≡ true → (a ≡ true) × (b ≡ true)
and-parts true b h = (refl, h)
and-parts false b h = absurd (true≢false (sym h))

and-assoc : (a b c : Bool) → ((a && b) && c) ≡ (a && (b && c))
and-assoc true b c = refl
and-assoc false b c = refl

-- the number is the one that there is
one-is : (o : Option ℕ) (m : ℕ) → is_one o m ≡ true → o ≡ Some m
one-is None m h = absurd (true≢false (sym h))
one-is (Some p) m h = ap Some (sym (eqb-true m p h))

is-one : (o : Option ℕ) (m : ℕ) → o ≡ Some m → is_one o m ≡ true
is-one o m e = rw e (eq-eqb m m refl)

or-swapped : (a b : Bool) → ((a && true) || b) ≡ (b || a)
or-swapped true true = refl
or-swapped true false = refl
or-swapped false true = refl
or-swapped false false = refl

module _ (T : Table) (form : WellFormed T) (ord : Ordered T) (up : HasWaysUp T) where
  kid-plain : (x k : ℕ) → mem k (kids_of T x) ≡ true → is_attribute T k ≡ false
  kid-plain x k h = plain-kid (kind_of T k) (form.kid_kind x k h)

  attribute-is : (x k : ℕ) → mem k (attrs_of T x) ≡ true → is_attribute T k ≡ true
  attribute-is x k h = ap is_attribute_kind (form.attribute_kind x k h)

  -- a node whose parent is x stands among the attributes or the kids of x, by its kind
  child-is : (x k : ℕ) → mem k (kids_of T x) ≡ (is_one (parent_of T k) x && not (is_attribute T k))
  child-is x k = iff (mem k (kids_of T x)) (is_one (parent_of T k) x && not (is_attribute T k))
      (λ h. and-both _ _ (is-one (parent_of T k) x (form.kid_parent x k h)) (ap not (kid-plain x k h)))
      (λ h. let q = and-parts (is_one (parent_of T k) x) (not (is_attribute T k)) h in
      ⊎_elim (λ (i : mem k (attrs_of T x) ≡ true). absurd (true≢false (sym q.1 ∙ ap not (attribute-is x k i))))
      (λ (i : mem k (kids_of T x) ≡ true). i)
      (mem-append k (attrs_of T x) (kids_of T x) (form.is_listed k x (one-is (parent_of T k) x q.0))))

  attr-is : (x k : ℕ) → mem k (attrs_of T x) ≡ (is_one (parent_of T k) x && is_attribute T k)
  attr-is x k = iff (mem k (attrs_of T x)) (is_one (parent_of T k) x && is_attribute T k)
      (λ h. and-both _ _ (is-one (parent_of T k) x (form.attribute_parent x k h)) (attribute-is x k h))
      (λ h. let q = and-parts (is_one (parent_of T k) x) (is_attribute T k) h in
      ⊎_elim (λ (i : mem k (attrs_of T x) ≡ true). i)
      (λ (i : mem k (kids_of T x) ≡ true). absurd (true≢false (sym q.1 ∙ kid-plain x k i)))
      (mem-append k (attrs_of T x) (kids_of T x) (form.is_listed k x (one-is (parent_of T k) x q.0))))

  axis-is : (a : Axis) (x k : ℕ) → is_pattern_axis a ≡ true → on_axis T a x k ≡ (is_one (parent_of T k) x && is_beside a (is_attribute T k))
  axis-is axes.Child x k h = child-is x k
  axis-is axes.Attribute x k h = attr-is x k
  axis-is axes.Ancestor x k h = absurd (true≢false (sym h))
  axis-is axes.AncestorOrSelf x k h = absurd (true≢false (sym h))
  axis-is axes.Descendant x k h = absurd (true≢false (sym h))
  axis-is axes.DescendantOrSelf x k h = absurd (true≢false (sym h))
  axis-is axes.Following x k h = absurd (true≢false (sym h))
  axis-is axes.FollowingSibling x k h = absurd (true≢false (sym h))
  axis-is axes.Parent x k h = absurd (true≢false (sym h))
  axis-is axes.Preceding x k h = absurd (true≢false (sym h))
  axis-is axes.PrecedingSibling x k h = absurd (true≢false (sym h))
  axis-is axes.SelfNode x k h = absurd (true≢false (sym h))

  candidate-is : (s : TypedPatternStepTree) (x k : ℕ) → is_pattern_axis s.axis ≡ true → is_candidate T s x k ≡ (is_one (parent_of T k) x && fits T s k)
  candidate-is s x k h =
      ap (λ b. b && passes T s.axis s.test k) (axis-is s.axis x k h)
      ∙ and-assoc (is_one (parent_of T k) x) (is_beside s.axis (is_attribute T k)) (passes T s.axis s.test k)

  -- a parent stands at or below a node if that is above it
  below-is : (k m p : ℕ) → parent_of T k ≡ Some p → on_axis T axes.DescendantOrSelf m p ≡ mem m (above T p)
  below-is k m p e =
      ap (λ b. (mem m (ancestors T p) && not b) || eqb p m) (plain-holder (kind_of T p) (up.parent_holds k p e))
      ∙ (or-swapped (mem m (ancestors T p)) (eqb p m) ∙ ap (λ b. b || mem m (ancestors T p)) (eqb-turned p m))

  -- a step leads to a node from where it looks for candidates at the node's holder
  pub leads_is : (s : TypedPatternStepTree) (m k : ℕ) → is_pattern_axis s.axis ≡ true → leads T s m k ≡ looks_there T (is_anywhere s.join) m (holder T s k)
  leads_is s m k h = by-parent (is_anywhere s.join) ∙ by (is_anywhere s.join) (fits T s k) (parent_of T k) refl
    where
      below : ℕ → Bool
      below x = on_axis T axes.DescendantOrSelf m x

      by-parent : (j : Bool) → cond j (list_any (λ x. on_axis T axes.DescendantOrSelf m x && is_candidate T s x k) (order T)) (is_candidate T s m k)
          ≡ cond j (list_any (λ x. on_axis T axes.DescendantOrSelf m x && (is_one (parent_of T k) x && fits T s k)) (order T)) (is_one (parent_of T k) m && fits T s k)
      by-parent true = any-same (λ x. on_axis T axes.DescendantOrSelf m x && is_candidate T s x k)
          (λ x. on_axis T axes.DescendantOrSelf m x && (is_one (parent_of T k) x && fits T s k)) (order T)
          (λ x. ap (λ b. on_axis T axes.DescendantOrSelf m x && b) (candidate-is s x k h))
      by-parent false = candidate-is s m k h

      by : (j f : Bool) (o : Option ℕ) → parent_of T k ≡ o →
          cond j (list_any (λ x. on_axis T axes.DescendantOrSelf m x && (is_one o x && f)) (order T)) (is_one o m && f) ≡ looks_there T j m (cond f o None)
      by true false o e = any-none (λ x. on_axis T axes.DescendantOrSelf m x && (is_one o x && false)) (order T)
          (λ x. ap (λ b. on_axis T axes.DescendantOrSelf m x && b) (and-false (is_one o x)) ∙ and-false (on_axis T axes.DescendantOrSelf m x))
      by false false o e = and-false (is_one o m)
      by true true None e = any-none (λ x. on_axis T axes.DescendantOrSelf m x && false) (order T) (λ x. and-false (on_axis T axes.DescendantOrSelf m x))
      by false true None e = refl
      by true true (Some p) e =
          any-one (λ x. on_axis T axes.DescendantOrSelf m x) p true (order T)
          ∙ (ap (λ b. b && (on_axis T axes.DescendantOrSelf m p && true)) (sym (ord.live_in_order p) ∙ up.parent_live k p e)
          ∙ (and-true (on_axis T axes.DescendantOrSelf m p) ∙ below-is k m p e))
      by false true (Some p) e = and-true (eqb m p)

  pub led_is : (s : TypedPatternStepTree) (ms : List ℕ) (k : ℕ) → is_pattern_axis s.axis ≡ true →
      list_any (λ m. leads T s m k) ms ≡ list_any (λ m. looks_there T (is_anywhere s.join) m (holder T s k)) ms
  led_is s ms k h = any-same (λ m. leads T s m k) (λ m. looks_there T (is_anywhere s.join) m (holder T s k)) ms (λ m. leads_is s m k h)

  -- a step leads from above the node
  pub lead_above : (s : TypedPatternStepTree) (m k : ℕ) → is_pattern_axis s.axis ≡ true → leads T s m k ≡ true → mem m (above T k) ≡ true
  lead_above s m k h l = by (fits T s k) (parent_of T k) refl (is_anywhere s.join) (sym (leads_is s m k h) ∙ l)
    where
      by : (f : Bool) (o : Option ℕ) → parent_of T k ≡ o → (j : Bool) → looks_there T j m (cond f o None) ≡ true → mem m (above T k) ≡ true
      by false o e j g = absurd (true≢false (sym g))
      by true None e j g = absurd (true≢false (sym g))
      by true (Some p) e true g = mem-tail m k (ancestors T k) (ap (mem m) (up.ancestors_at k p e) ∙ g)
      by true (Some p) e false g =
          mem-tail m k (ancestors T k) (ap (mem m) (up.ancestors_at k p e) ∙ subst (λ q. mem m (q ∷ ancestors T p) ≡ true) (eqb-true m p g) (mem-head m (ancestors T p)))

  -- steps lead on to a node only from nodes above it
  pub reach_above : (ss : List TypedPatternStepTree) (k n : ℕ) → PatternStepsTyped ss → reaches T ss (k ∷ []) n ≡ true → mem k (above T n) ≡ true
  reach_above [] k n h g = subst (λ q. mem k (above T q) ≡ true) (sym (mem-one n k g)) (mem-head k (ancestors T k))
  reach_above (s ∷ ss) k n h g =
      let f : Found (λ j. reaches T ss (j ∷ []) n) (led_to T s (k ∷ [])) =
      found (λ j. reaches T ss (j ∷ []) n) (led_to T s (k ∷ [])) (sym (reaches_from T ss (led_to T s (k ∷ [])) n) ∙ g) in
      let l : (leads T s k f.at || false) ≡ true = kept-passes (λ j. leads T s k j || false) f.at (order T) f.listed in
      above_above T form ord up (length (ancestors T n)) k f.at n (omega arith) (lead_above s k f.at h.0 (sym (or-false (leads T s k f.at)) ∙ l))
      (reach_above ss f.at n h.2 f.passes)

  pub start : (n : ℕ) → is_live T n ≡ true → n ∷ [] ≡ filter (λ k. reaches T [] (k ∷ []) n) (order T)
  start n live =
      sym (filter-sub (λ k. reaches T [] (k ∷ []) n) (sub-one n (order T) (mem-In n (order T) (sym (ord.live_in_order n) ∙ live))) ord.once
      (λ m h. ap (λ b. b || false) (eqb-turned n m)))

  -- from where one step more leads on
  pub step_back : (s : TypedPatternStepTree) (ss : List TypedPatternStepTree) (n m : ℕ) (nodes holders : List ℕ) → is_pattern_axis s.axis ≡ true →
      nodes ≡ filter (λ k. reaches T ss (k ∷ []) n) (order T) → holders ≡ filter_map (holder T s) nodes →
      list_any (looks_at T s.join m) holders ≡ reaches T (s ∷ ss) (m ∷ []) n
  step_back s ss n m nodes holders h en eh =
      let r : ℕ → Bool = λ k. reaches T ss (k ∷ []) n in
      ap (list_any (looks_at T s.join m)) eh
      ∙ (any-given (looks_at T s.join m) (looks_there T (is_anywhere s.join) m) (holder T s) nodes refl (λ p. refl)
      ∙ (any-same (λ k. looks_there T (is_anywhere s.join) m (holder T s k)) (λ k. leads T s m k || false) nodes (λ k. sym (or-false (leads T s m k) ∙ leads_is s m k h))
      ∙ (ap (list_any (λ k. leads T s m k || false)) en
      ∙ (any-swap (λ k. leads T s m k || false) r (order T)
      ∙ sym (reaches_from T ss (led_to T s (m ∷ [])) n)))))

  -- and of these only those on the way are asked for
  pub step_along : (s : TypedPatternStepTree) (ss : List TypedPatternStepTree) (n : ℕ) (nodes holders way : List ℕ) → PatternStepsTyped (s ∷ ss) →
      nodes ≡ filter (λ k. reaches T ss (k ∷ []) n) (order T) → holders ≡ filter_map (holder T s) nodes → way ≡ starts T false n →
      filter (λ m. list_any (looks_at T s.join m) holders) way ≡ filter (λ m. reaches T (s ∷ ss) (m ∷ []) n) (order T)
  step_along s ss n nodes holders way typed en eh ew =
      let p : ℕ → Bool = λ m. list_any (looks_at T s.join m) holders in
      let r : ℕ → Bool = λ m. reaches T (s ∷ ss) (m ∷ []) n in
      ap (filter p) ew
      ∙ (filter-same p r (starts T false n) (λ m h. step_back s ss n m nodes holders typed.0 en eh)
      ∙ filter-narrow r (on_axis T axes.AncestorOrSelf n) (order T) (λ m h. or_comm (mem m (ancestors T n)) (eqb m n) ∙ reach_above (s ∷ ss) m n typed h))

  pub holder_above : (s : TypedPatternStepTree) (k p : ℕ) → holder T s k ≡ Some p → mem p (above T k) ≡ true
  holder_above s k p h = by (fits T s k) (parent_of T k) refl h
    where
      by : (f : Bool) (o : Option ℕ) → parent_of T k ≡ o → cond f o None ≡ Some p → mem p (above T k) ≡ true
      by false o e g = absurd (cc)
      by true None e g = absurd (cc)
      by true (Some q) e g =
          let same : p ≡ q = cc in
          mem-tail p k (ancestors T k) (ap (mem p) (up.ancestors_at k q e) ∙ subst (λ x. mem p (x ∷ ancestors T q) ≡ true) same (mem-head p (ancestors T q)))

  -- the nodes at which those that lead on are candidates stand on the way
  pub holders_way : (steps rest front : List TypedPatternStepTree) (s : TypedPatternStepTree) (nodes : List ℕ) (n : ℕ) →
      PatternStepsTyped steps → Going T steps rest nodes n → rest ≡ front ++ s ∷ [] → OnOneWay T (filter_map (holder T s) nodes)
  holders_way steps rest front s nodes n typed g e =
      let parted : steps ≡ (front ++ s ∷ []) ++ g.passed = g.parted ∙ ap (λ l. l ++ g.passed) e in
      let later : PatternStepsTyped (s ∷ g.passed) = typed_at front s g.passed (subst PatternStepsTyped parted typed) in
      λ a b ha hb. one_way T form ord up (length (ancestors T n)) a b n (omega arith) (on a later.2 ha) (on b later.2 hb)
    where
      on : (p : ℕ) → PatternStepsTyped g.passed → mem p (filter_map (holder T s) nodes) ≡ true → mem p (above T n) ≡ true
      on p later h =
          let f : Given (holder T s) p nodes = given (holder T s) p nodes h in
          let r : reaches T g.passed (f.source ∷ []) n ≡ true =
          kept-passes (λ k. reaches T g.passed (k ∷ []) n) f.source (order T) (sym (ap (mem f.source) g.lead_on) ∙ f.listed) in
          above_above T form ord up (length (ancestors T n)) p f.source n (omega arith) (holder_above s f.source p f.gives) (reach_above g.passed f.source n later r)

  -- one step more is passed
  pub going_on : (steps rest front : List TypedPatternStepTree) (s : TypedPatternStepTree) (nodes way next : List ℕ) (n : ℕ) →
      PatternStepsTyped steps → Going T steps rest nodes n →
      rest ≡ front ++ s ∷ [] → way ≡ starts T false n → next ≡ leading_to T s nodes way → Going T steps front next n
  going_on steps rest front s nodes way next n typed g e ew en =
      let parted : steps ≡ (front ++ s ∷ []) ++ g.passed = g.parted ∙ ap (λ l. l ++ g.passed) e in
      let later : PatternStepsTyped (s ∷ g.passed) = typed_at front s g.passed (subst PatternStepsTyped parted typed) in
      record {
        passed = s ∷ g.passed;
        parted = parted ∙ append_assoc front (s ∷ []) g.passed;
        lead_on = en ∙ step_along s g.passed n nodes (filter_map (holder T s) nodes) way later g.lead_on refl ew;
      }

  -- the nodes that stand at a step are those from which the later steps lead on and to which the step leads
  pub standing_is : (s : TypedPatternStepTree) (ss : List TypedPatternStepTree) (ms among : List ℕ) (n : ℕ) → among ≡ filter (λ k. reaches T ss (k ∷ []) n) (order T) →
      filter (λ k. list_any (λ m. leads T s m k) ms) among ≡ standing T s ss ms n
  standing_is s ss ms among n e =
      ap (filter (λ k. list_any (λ m. leads T s m k) ms)) e ∙ filter-swap (λ k. list_any (λ m. leads T s m k) ms) (λ k. reaches T ss (k ∷ []) n) (order T)

  pub standing_live : (s : TypedPatternStepTree) (ss : List TypedPatternStepTree) (ms : List ℕ) (n k : ℕ) → mem k (standing T s ss ms n) ≡ true → is_live T k ≡ true
  standing_live s ss ms n k h =
      ord.live_in_order k
      ∙ kept-listed (λ j. list_any (λ m. leads T s m j) ms) k (order T) (kept-listed (λ j. reaches T ss (j ∷ []) n) k (led_to T s ms) h)

  -- the way to a node is its ancestors and itself, the root first
  pub way_is : Nested T → (n : ℕ) → is_live T n ≡ true → backwards (above T n) ≡ starts T false n
  way_is nest n live = ap backwards (ancestor_or_self_axis T form ord up nest n live) ∙ backwards-twice (starts T false n)

  pub up_way : (n p : ℕ) → parent_of T n ≡ Some p → backwards (above T n) ≡ backwards (above T p) ++ n ∷ []
  up_way n p e = ap (λ l. backwards l ++ n ∷ []) (up.ancestors_at n p e)

  pub root_way : (n : ℕ) → parent_of T n ≡ None → backwards (above T n) ≡ n ∷ []
  root_way n e = ap (λ l. backwards l ++ n ∷ []) (up.no_ancestors n e)
