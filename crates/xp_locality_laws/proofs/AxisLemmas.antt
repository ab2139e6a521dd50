-- Axes: from a node that lives in both trees, an axis holds the same nodes in both where what a step along it reads was kept.
use Rattle.std.proofs.Common.{◌≡◌, ℕ, Bool, true, false, cond, not, ◌&&◌, eqb, List, [], ◌∷◌, Option, None, Some, ◌⊎◌, refl, sym, ap, ap₂, ◌∙◌, subst, inl, inr, ⊎_elim, true≢false, eqb-true}
use Rattle.doc_tree.specs.cell.Cell.{Cell}
use Rattle.doc_tree.specs.cell.Cell.TheVariants.{Kids, Shape, Attrs}
use Rattle.doc_tree.specs.declared.axes.Axis.{Axis}
use Rattle.doc_tree.specs.declared.axes.Axis.TheVariants.{Ancestor, AncestorOrSelf, Attribute, Child, Descendant, DescendantOrSelf, Following, FollowingSibling, Parent, Preceding, PrecedingSibling, SelfNode}
use Rattle.doc_tree.specs.Kinds.{holds_kids, is_element}
use Rattle.doc_tree.specs.Lists.{mem}
use Rattle.doc_tree.specs.Table.{Table, attrs_of, is_live, kids_above, kids_of, kind_of, parent_of}
use Rattle.doc_tree.specs.Walks.{ancestors}
use Rattle.doc_tree.proofs.ListLemmas.{mem-head}
use Rattle.doc_tree.proofs.OrderLemmas.{nested}
use Rattle.doc_axes.specs.Axes.{axis_nodes, axis_order, backwards, is_ancestor, is_attribute, is_attribute_kind, is_after, is_descendant, is_one, is_sibling, is_reverse, kids_beside, on_axis}
use Rattle.doc_axes.specs.Plain.{plain_below}
use Rattle.doc_axes.specs.Sets.{in_order}
use Rattle.doc_axes.proofs.AxisLemmas.{descendant_axis}
use Rattle.doc_edit_laws.specs.Agreement.{AllStay, IsTree, Stays, descendants}
use Rattle.doc_edit_laws.proofs.Composing.{both, of-both}
use Rattle.xp_meaning.specs.Evaluation.{Lets}
use Rattle.xp_meaning.specs.Reads.{axis_reads, kids_of_parent, read_if, sibling_reads}
use Rattle.xp_locality_laws.specs.Locality.{AllKept, Changed}
use Rattle.xp_locality_laws.proofs.StandLemmas.{stay-append}
use Rattle.xp_locality_laws.proofs.FunctionLemmas.{same-ancestors}
use Rattle.xp_locality_laws.proofs.TestLemmas.{Alike, alike-and, alike-mem, alike-none, alike-or, alike-self, either, order-stays, orders-filtered, same-after, stay-each, tests-filtered}

-- a list without members is empty
no-members : (ns : List ℕ) → ((m : ℕ) → mem m ns ≡ true → ⊥) → ns ≡ []
no-members [] h = refl
no-members (n ∷ ns) h = absurd (h n (mem-head n ns))

-- nodes whose kind has no kids or no attributes
no-kids : (T : Table) → IsTree T → (n : ℕ) → holds_kids (kind_of T n) ≡ false → kids_of T n ≡ []
no-kids T tree n h = no-members (kids_of T n) (λ m k. true≢false (sym (tree.well_formed.holder_kind n m k) ∙ h))

no-attributes : (T : Table) → IsTree T → (n : ℕ) → is_element (kind_of T n) ≡ false → attrs_of T n ≡ []
no-attributes T tree n h = no-members (attrs_of T n) (λ m k. true≢false (sym (ap is_element (tree.well_formed.owner_kind n m k)) ∙ h))

no-descendants : (T : Table) → IsTree T → (n : ℕ) → is_live T n ≡ true → holds_kids (kind_of T n) ≡ false → descendants T n ≡ []
no-descendants T tree n live h =
    sym (descendant_axis T tree.well_formed tree.ordered tree.ways_up (nested T tree.well_formed tree.ordered tree.ways_up) n live)
    ∙ ap (plain_below T) (no-kids T tree n h)

root-lives : (T : Table) → IsTree T → is_live T 0 ≡ true
root-lives T tree = let s = tree.ordered.root_first in tree.ordered.live_in_order 0 ∙ (ap (mem 0) s.1 ∙ mem-head 0 s.0)

-- a node that is no attribute is the root or a descendant of it
below-root : (T : Table) → IsTree T → (m : ℕ) → is_live T m ≡ true → not (is_attribute T m) ≡ true → (m ≡ 0) ⊎ (is_descendant T 0 m ≡ true)
below-root T tree m live plain = either (eqb 0 m) (mem 0 (ancestors T m)) (tree.well_formed.is_rooted m live)
    (λ e. inl (sym (eqb-true 0 m e))) (λ e. inr (of-both (is_ancestor T m 0) (not (is_attribute T m)) e plain))

module _ (T U : Table) (touched : Cell → Bool) (L M : Lets) (changed : Changed T U touched) where
  read-kept : (has : Bool) (c : Cell) → AllKept T U touched L M (read_if has c) → has ≡ true → touched c ≡ false
  read-kept true c k e = k.0
  read-kept false c k e = absurd (true≢false (sym e))

  pub root-stays : Stays T U 0
  root-stays = of-both (is_live T 0) (is_live U 0) (root-lives T changed.before) (root-lives U changed.after)

  parent-stays : (n p : ℕ) → Stays T U n → parent_of T n ≡ Some p → Stays T U p
  parent-stays n p stays e =
      of-both (is_live T p) (is_live U p) (changed.before.ways_up.parent_live n p e)
      (changed.after.ways_up.parent_live n p (sym (changed.agree.parent n stays) ∙ e))

  same-attribute : (n : ℕ) → Stays T U n → is_attribute T n ≡ is_attribute U n
  same-attribute n stays = ap is_attribute_kind (changed.agree.kind n stays)

  -- one list of nodes that live where they are listed
  listed-alike : (xs ys : List ℕ) → xs ≡ ys → ((m : ℕ) → mem m xs ≡ true → is_live T m ≡ true) → ((m : ℕ) → mem m ys ≡ true → is_live U m ≡ true) →
      (xs ≡ ys) × AllStay T U xs
  listed-alike xs ys e h k = (e, stay-each T U xs (λ m here. of-both (is_live T m) (is_live U m) (h m here) (k m (ap (mem m) (sym e) ∙ here))))

  -- the kids of a node whose Kids were kept, where it can have any
  same-kids : (n : ℕ) → Stays T U n → (holds_kids (kind_of T n) ≡ true → touched (Kids n) ≡ false) → (kids_of T n ≡ kids_of U n) × AllStay T U (kids_of T n)
  same-kids n stays h =
      listed-alike (kids_of T n) (kids_of U n) (by (holds_kids (kind_of T n)) refl) (changed.before.ways_up.kid_live n) (changed.after.ways_up.kid_live n)
    where
      by : (b : Bool) → holds_kids (kind_of T n) ≡ b → kids_of T n ≡ kids_of U n
      by true e = changed.agree.kids n stays (h e)
      by false e = no-kids T changed.before n e ∙ sym (no-kids U changed.after n (ap holds_kids (sym (changed.agree.kind n stays)) ∙ e))

  same-attributes : (n : ℕ) → Stays T U n → (is_element (kind_of T n) ≡ true → touched (Attrs n) ≡ false) → (attrs_of T n ≡ attrs_of U n) × AllStay T U (attrs_of T n)
  same-attributes n stays h =
      listed-alike (attrs_of T n) (attrs_of U n) (by (is_element (kind_of T n)) refl) (changed.before.ways_up.attribute_live n) (changed.after.ways_up.attribute_live n)
    where
      by : (b : Bool) → is_element (kind_of T n) ≡ b → attrs_of T n ≡ attrs_of U n
      by true e = changed.agree.attributes n stays (h e)
      by false e = no-attributes T changed.before n e ∙ sym (no-attributes U changed.after n (ap is_element (sym (changed.agree.kind n stays)) ∙ e))

  -- the kids of the parent
  same-beside : (n : ℕ) → Stays T U n → AllKept T U touched L M (sibling_reads T n) → (kids_beside T n ≡ kids_beside U n) × AllStay T U (kids_beside T n)
  same-beside n stays k =
      let r = by (is_attribute T n) (parent_of T n) (λ p e. parent-stays n p stays e) k in
      (r.0 ∙ λ i. cond (same-attribute n stays i) [] (kids_above U (changed.agree.parent n stays i)), r.1)
    where
      by : (b : Bool) (o : Option ℕ) → ((p : ℕ) → o ≡ Some p → Stays T U p) → AllKept T U touched L M (cond b [] (kids_of_parent o)) →
          (cond b [] (kids_above T o) ≡ cond b [] (kids_above U o)) × AllStay T U (cond b [] (kids_above T o))
      by true o h k = (refl, tt)
      by false None h k = (refl, tt)
      by false (Some p) h k = same-kids p (h p refl) (λ _. k.0)

  -- the tests of axes
  descendants-alike : (n : ℕ) → Stays T U n → (holds_kids (kind_of T n) ≡ true → touched (Shape n) ≡ false) → Alike T U (is_descendant T n) (is_descendant U n)
  descendants-alike n stays h = tests-filtered T U touched changed (is_descendant T n) (is_descendant U n) (by (holds_kids (kind_of T n)) refl)
    where
      by : (b : Bool) → holds_kids (kind_of T n) ≡ b → descendants T n ≡ descendants U n
      by true e = changed.agree.shape n stays (h e)
      by false e =
          let live = both (is_live T n) (is_live U n) stays in
          no-descendants T changed.before n live.0 e ∙ sym (no-descendants U changed.after n live.1 (ap holds_kids (sym (changed.agree.kind n stays)) ∙ e))

  ancestors-alike : (n : ℕ) → Stays T U n → Alike T U (is_ancestor T n) (is_ancestor U n)
  ancestors-alike n stays = let s = same-ancestors T U touched L M changed n stays in alike-mem T U (ancestors T n) (ancestors U n) s.0 s.1

  same-ancestor : (n m : ℕ) → Stays T U m → is_ancestor T m n ≡ is_ancestor U m n
  same-ancestor n m stays = ap (mem n) (same-ancestors T U touched L M changed m stays).0

  -- where the root's Shape was kept, tests that no attribute passes
  plain-alike : touched (Shape 0) ≡ false → (p q : ℕ → Bool) → ((m : ℕ) → Stays T U m → p m ≡ q m) →
      Alike T U (λ m. p m && not (is_attribute T m)) (λ m. q m && not (is_attribute U m))
  plain-alike kept p q agree =
      let below = descendants-alike 0 root-stays (λ _. kept) in
      record {
        stays = λ m live e. ⊎_elim (λ (z : m ≡ 0). subst (Stays T U) (sym z) root-stays) (λ (d : is_descendant T 0 m ≡ true). below.stays m live d)
            (below-root T changed.before m live (both (p m) (not (is_attribute T m)) e).1);
        stays_after = λ m live e. ⊎_elim (λ (z : m ≡ 0). subst (Stays T U) (sym z) root-stays) (λ (d : is_descendant U 0 m ≡ true). below.stays_after m live d)
            (below-root U changed.after m live (both (q m) (not (is_attribute U m)) e).1);
        agree = λ m stays. ap₂ (λ x y. x && not y) (agree m stays) (same-attribute m stays);
      }

  parents-alike : (n : ℕ) → Stays T U n → Alike T U (is_one (parent_of T n)) (is_one (parent_of U n))
  parents-alike n stays = subst (λ o. Alike T U (is_one (parent_of T n)) (is_one o)) (changed.agree.parent n stays) (by (parent_of T n) (λ p e. parent-stays n p stays e))
    where
      by : (o : Option ℕ) → ((p : ℕ) → o ≡ Some p → Stays T U p) → Alike T U (is_one o) (is_one o)
      by None h = alike-none T U
      by (Some p) h = alike-self T U p (h p refl)

  siblings-alike : (n : ℕ) → Stays T U n → AllKept T U touched L M (sibling_reads T n) → Alike T U (is_sibling T n) (is_sibling U n)
  siblings-alike n stays k = let s = same-beside n stays k in alike-mem T U (kids_beside T n) (kids_beside U n) s.0 s.1

  axis-alike : (axis : Axis) (n : ℕ) → Stays T U n → AllKept T U touched L M (axis_reads T axis n) → Alike T U (on_axis T axis n) (on_axis U axis n)
  axis-alike Ancestor n stays k = ancestors-alike n stays
  axis-alike AncestorOrSelf n stays k =
      alike-or T U (is_ancestor T n) (is_ancestor U n) (λ m. eqb m n) (λ m. eqb m n) (ancestors-alike n stays) (alike-self T U n stays)
  axis-alike Attribute n stays k =
      let s = same-attributes n stays (read-kept (is_element (kind_of T n)) (Attrs n) k) in alike-mem T U (attrs_of T n) (attrs_of U n) s.0 s.1
  axis-alike Child n stays k =
      let s = same-kids n stays (read-kept (holds_kids (kind_of T n)) (Kids n) k) in alike-mem T U (kids_of T n) (kids_of U n) s.0 s.1
  axis-alike Descendant n stays k = descendants-alike n stays (read-kept (holds_kids (kind_of T n)) (Shape n) k)
  axis-alike DescendantOrSelf n stays k =
      alike-or T U (is_descendant T n) (is_descendant U n) (λ m. eqb m n) (λ m. eqb m n)
      (descendants-alike n stays (read-kept (holds_kids (kind_of T n)) (Shape n) k)) (alike-self T U n stays)
  axis-alike Following n stays k =
      plain-alike k.0 (λ m. is_after T n m && not (is_ancestor T m n)) (λ m. is_after U n m && not (is_ancestor U m n))
      (λ m h. ap₂ (λ x y. x && not y) (same-after T U touched changed n m stays h) (same-ancestor n m h))
  axis-alike FollowingSibling n stays k =
      alike-and T U (is_sibling T n) (is_sibling U n) (is_after T n) (is_after U n) (siblings-alike n stays k) (λ m h. same-after T U touched changed n m stays h)
  axis-alike Parent n stays k = parents-alike n stays
  axis-alike Preceding n stays k =
      plain-alike k.0 (λ m. is_after T m n && not (is_ancestor T n m)) (λ m. is_after U m n && not (is_ancestor U n m))
      (λ m h. ap₂ (λ x y. x && not y) (same-after T U touched changed m n h stays) (same-ancestor m n stays))
  axis-alike PrecedingSibling n stays k =
      alike-and T U (is_sibling T n) (is_sibling U n) (λ m. is_after T m n) (λ m. is_after U m n) (siblings-alike n stays k)
      (λ m h. same-after T U touched changed m n h stays)
  axis-alike SelfNode n stays k = alike-self T U n stays

  -- an axis from the end of document order
  backwards-stay : (ns : List ℕ) → AllStay T U ns → AllStay T U (backwards ns)
  backwards-stay [] h = tt
  backwards-stay (n ∷ ns) h = stay-append T U (backwards ns) (n ∷ []) (backwards-stay ns h.1) (h.0, tt)

  pub same-axis : (axis : Axis) (n : ℕ) → Stays T U n → AllKept T U touched L M (axis_reads T axis n) →
      (axis_nodes T axis n ≡ axis_nodes U axis n) × AllStay T U (axis_nodes T axis n)
  same-axis axis n stays k =
      let alike = axis-alike axis n stays k in
      let same : axis_order T axis n ≡ axis_order U axis n = orders-filtered T U touched changed (on_axis T axis n) (on_axis U axis n) alike in
      let stay : AllStay T U (axis_order T axis n) = order-stays T U touched changed (on_axis T axis n) (on_axis U axis n) alike in
      (ap (λ ns. cond (is_reverse axis) (backwards ns) ns) same, by (is_reverse axis) (axis_order T axis n) stay)
    where
      by : (b : Bool) (ns : List ℕ) → AllStay T U ns → AllStay T U (cond b (backwards ns) ns)
      by true ns h = backwards-stay ns h
      by false ns h = h

  -- what a step along an axis reads
  same-siblings_read : (n : ℕ) → Stays T U n → sibling_reads T n ≡ sibling_reads U n
  same-siblings_read n stays = λ i. cond (same-attribute n stays i) [] (kids_of_parent (changed.agree.parent n stays i))

  pub same-reads : (axis : Axis) (n : ℕ) → Stays T U n → axis_reads T axis n ≡ axis_reads U axis n
  same-reads Ancestor n stays = refl
  same-reads AncestorOrSelf n stays = refl
  same-reads Attribute n stays = ap (λ kind. read_if (is_element kind) (Attrs n)) (changed.agree.kind n stays)
  same-reads Child n stays = ap (λ kind. read_if (holds_kids kind) (Kids n)) (changed.agree.kind n stays)
  same-reads Descendant n stays = ap (λ kind. read_if (holds_kids kind) (Shape n)) (changed.agree.kind n stays)
  same-reads DescendantOrSelf n stays = ap (λ kind. read_if (holds_kids kind) (Shape n)) (changed.agree.kind n stays)
  same-reads Following n stays = refl
  same-reads FollowingSibling n stays = same-siblings_read n stays
  same-reads Parent n stays = refl
  same-reads Preceding n stays = refl
  same-reads PrecedingSibling n stays = same-siblings_read n stays
  same-reads SelfNode n stays = refl

  -- document order
  pub same-in_order : (ns : List ℕ) → AllStay T U ns → (in_order T ns ≡ in_order U ns) × AllStay T U (in_order T ns)
  same-in_order ns h =
      let alike = alike-mem T U ns ns refl h in
      (orders-filtered T U touched changed (λ m. mem m ns) (λ m. mem m ns) alike, order-stays T U touched changed (λ m. mem m ns) (λ m. mem m ns) alike)
