-- An attribute of an element comes or goes: the element's attributes differ, and all else stays.
use Rattle.std.proofs.Common.{◌≡◌, ◌≢◌, ℕ, Bool, true, false, not, ◌&&◌, List, [], ◌∷◌, ◌++◌, length, set, Option, None, Some, is_some, refl, sym, ap, ◌∙◌, subst, ⊎_elim, true≢false, arith, append-nil, eq-eqb}
use Rattle.std.specs.Prelude.{filter}
use Rattle.std.specs.List.{flat_map}
use Rattle.std.proofs.lemmas.List.{get_or_past}
use Rattle.std.proofs.lemmas.List.Elements.{filter-append}
use Rattle.doc_table.specs.Growth.{with_node, with_link, leaf}
use Rattle.doc_table.specs.inner.Sound.{Formed}
use Rattle.doc_table.proofs.Appending.{holder-live}
use Rattle.doc_table.proofs.Forests.{formed-of, no_kids}
use Rattle.doc_table.proofs.Growing.{attributes-parent, content-kept, entry-new, kids-parent, length-grown, links-kept, live-kept, new-dead, old-number, parent-kept}
use Rattle.doc_table.proofs.ListLemmas.{append-empty_left}
use Rattle.doc_table.proofs.TreeLaws.{well-formed, ordered, ways-up}
use Rattle.doc_table.proofs.Ways.{parent-has}
use Rattle.doc_tree.specs.cell.Cell.TheVariants.{Attrs}
use Rattle.doc_tree.specs.kind.Kind.TheVariants.{Attribute, Element, Root}
use Rattle.doc_tree.specs.Kinds.{can_be_kid, holds_kids}
use Rattle.doc_tree.specs.Laws.{WellFormed}
use Rattle.doc_tree.specs.Lists.{mem, occurs}
use Rattle.doc_tree.specs.Table.{Table, Facts, Name, attribute, entry_at, kids_at, attrs_at, content_at, kind_at, name_at, value_at, attrs_of, content_of, is_live, kids_of, kind_of, parent_of}
use Rattle.doc_tree.specs.Walks.{ancestors, below, characters_in, order}
use Rattle.doc_tree.proofs.ListLemmas.{In-mem, mem-append, occurs-append, occurs-head, occurs-other, eq_or}
use Rattle.doc_axes.specs.Axes.{is_attribute_kind, is_descendant}
use Rattle.doc_edit_laws.specs.Agreement.{Agree, Stays, lives_in_both}
use Rattle.doc_edit_laws.proofs.Composing.{both}
use Rattle.doc_edits.specs.Changes.{gained, removed, removed_from, with_attribute, without}
use Rattle.doc_edits.specs.Keeping.{GainsKeepTrees, RemovalsKeepTrees}
use Rattle.doc_edits.proofs.ClearLemmas as clear
use Rattle.doc_edits.proofs.PruneLemmas.{none-in}
use Rattle.doc_edit_laws.specs.Leaving.{AttributesLeave}
use Rattle.doc_edit_laws.specs.Touching.{touched_attributes}
use Rattle.doc_edit_laws.proofs.LinkLemmas.{order-alike}
use Rattle.doc_edit_laws.proofs.TextLemmas.{shape-alike, text-alike}

-- another number than one is not touched with its attributes
other-than : (m n : ℕ) → touched_attributes n (Attrs m) ≡ false → m ≢ n
other-than m n out e = true≢false (sym (eq-eqb m n e) ∙ out)

-- a number that does not pass is let through by no filter
filter-without : (p : ℕ → Bool) (n : ℕ) → p n ≡ false → (xs : List ℕ) → filter p (without n xs) ≡ filter p xs
filter-without p n out [] = refl
filter-without p n out (x ∷ xs) =
    ⊎_elim (λ (e : n ≡ x). ap (filter p) (clear.without-head n x xs e) ∙ (filter-without p n out xs ∙ rw (subst (λ k. p k ≡ false) e out) refl))
    (λ (ne : n ≢ x). ap (filter p) (clear.without-tail n x xs ne)
    ∙ (filter-append p (x ∷ []) (without n xs) ∙ (ap (λ l. filter p (x ∷ []) ++ l) (filter-without p n out xs) ∙ sym (filter-append p (x ∷ []) xs))))
    (eq_or n x)

-- an attribute is no descendant
no-descendant : (T : Table) (n m : ℕ) → kind_of T m ≡ Some Attribute → is_descendant T n m ≡ true → ⊥
no-descendant T n m kind h = true≢false (sym (both (mem n (ancestors T m)) _ h).1 ∙ ap (λ k. not (is_attribute_kind k)) kind)

-- the table with one node more
gained-is : (T : Table) (n : ℕ) (name : Name) (value : List ℕ) → gained T n name value ≡ with_node T n (attribute name value)
gained-is T n name value = ap (λ o. set T n o ++ Some (leaf n (attribute name value)) ∷ []) (linked (entry_at T n))
  where
    linked : (o : Option Facts) → with_attribute (length T) o ≡ with_link (attribute name value) (length T) o
    linked None = refl
    linked (Some node) = ap (λ kids. Some (record node { kids = kids; attributes = node.attributes ++ length T ∷ [] })) (sym (append-nil node.kids))

module _ (T : Table) (n : ℕ) (name : Name) (value : List ℕ) (t : Formed T) (u : Formed (with_node T n (attribute name value))) (live : is_live T n ≡ true) where
  abbrev more : Table
  more = with_node T n (attribute name value)

  newest : entry_at more (length T) ≡ Some (leaf n (attribute name value))
  newest = entry-new T n (attribute name value) live

  nobody : entry_at T (length T) ≡ None
  nobody = get_or_past T (length T) None (omega arith)

  old : (m : ℕ) → Stays T more m → m ≢ length T
  old m stays = old-number T n (attribute name value) live m (both (is_live T m) (is_live more m) stays).0

  kids-grown : (m : ℕ) → kids_of more m ≡ kids_of T m
  kids-grown m =
      ⊎_elim (λ (e : m ≡ length T). subst (λ k. kids_of more k ≡ kids_of T k) (sym e) (ap kids_at newest ∙ sym (ap kids_at nobody)))
      (λ (ne : m ≢ length T). ⊎_elim
      (λ (e : m ≡ n). subst (λ k. kids_of more k ≡ kids_of T k) (sym e) (kids-parent T n (attribute name value) live ∙ append-nil (kids_of T n)))
      (λ (np : m ≢ n). (links-kept T n (attribute name value) live m ne np).kids)
      (eq_or m n))
      (eq_or m (length T))

  not-both : lives_in_both T more (length T) ≡ false
  not-both = ap (λ b. b && is_live more (length T)) (new-dead T n (attribute name value) live)

  attributes-grown : (m : ℕ) → filter (lives_in_both T more) (attrs_of more m) ≡ filter (lives_in_both T more) (attrs_of T m)
  attributes-grown m =
      ⊎_elim (λ (e : m ≡ length T). subst (λ k. filter (lives_in_both T more) (attrs_of more k) ≡ filter (lives_in_both T more) (attrs_of T k)) (sym e)
      (ap (filter (lives_in_both T more)) (ap attrs_at newest ∙ sym (ap attrs_at nobody))))
      (λ (ne : m ≢ length T). ⊎_elim
      (λ (e : m ≡ n). subst (λ k. filter (lives_in_both T more) (attrs_of more k) ≡ filter (lives_in_both T more) (attrs_of T k)) (sym e)
      (ap (filter (lives_in_both T more)) (attributes-parent T n (attribute name value) live)
      ∙ (filter-append (lives_in_both T more) (attrs_of T n) (length T ∷ [])
      ∙ (ap (λ l. filter (lives_in_both T more) (attrs_of T n) ++ l) (rw not-both refl) ∙ append-nil (filter (lives_in_both T more) (attrs_of T n))))))
      (λ (np : m ≢ n). ap (filter (lives_in_both T more)) (links-kept T n (attribute name value) live m ne np).attributes)
      (eq_or m n))
      (eq_or m (length T))

  in_order_grown : filter (lives_in_both T more) (order T) ≡ filter (lives_in_both T more) (order more)
  in_order_grown =
      order-alike T more (lives_in_both T more) kids-grown attributes-grown t (omega (arith, length-grown T n (attribute name value) live))

  content-grown : (m : ℕ) → Stays T more m → content_of T m ≡ content_of more m
  content-grown m stays = sym (content-kept T n (attribute name value) live m (old m stays))

  parent-grown : (m : ℕ) → Stays T more m → parent_of T m ≡ parent_of more m
  parent-grown m stays = sym (parent-kept T n (attribute name value) live m (old m stays))

  goes : (m k : ℕ) → is_live T k ≡ true → is_descendant T m k ≡ true → is_live more k ≡ true
  goes m k lives h = live-kept T n (attribute name value) live k (old-number T n (attribute name value) live k lives) ∙ lives

  comes : (m k : ℕ) → is_live more k ≡ true → is_descendant more m k ≡ true → is_live T k ≡ true
  comes m k lives h =
      sym (live-kept T n (attribute name value) live k
      (λ e. no-descendant more m k (ap (kind_of more) e ∙ ap (λ o. kind_at (content_at o)) newest) h)) ∙ lives

  gain-leaves : Agree T more (touched_attributes n)
  gain-leaves = record {
    kind = λ m stays. ap kind_at (content-grown m stays);
    target = λ m stays other. ap name_at (content-grown m stays);
    parent = parent-grown;
    in_order = in_order_grown;
    name = λ m stays named out. ap name_at (content-grown m stays);
    kids = λ m stays out. sym (kids-grown m);
    shape = λ m stays out. shape-alike T more t u parent-grown (λ k lives. ap kind_at (content-grown k lives)) in_order_grown m (goes m) (comes m);
    attributes = λ m stays out. sym (links-kept T n (attribute name value) live m (old m stays) (other-than m n out)).attributes;
    value = λ m stays out. ap value_at (content-grown m stays);
    text = λ m stays holds out. text-alike T more t u parent-grown (λ k lives. ap kind_at (content-grown k lives)) in_order_grown m (goes m) (comes m)
        stays holds (λ k lives h. ap characters_in (content-grown k lives));
    numbers = omega (arith, length-grown T n (attribute name value) live);
    no_return = λ m before lives. sym (live-kept T n (attribute name value) live m (λ e. absurd (omega arith))) ∙ lives;
  }

module _ (T : Table) (a n : ℕ) (t : Formed T) (is : kind_of T a ≡ Some Attribute) (up : parent_of T a ≡ Some n) (go : RemovalsKeepTrees) where
  form : WellFormed T
  form = well-formed T t

  no_kid : (p : ℕ) → mem a (kids_of T p) ≡ true → ⊥
  no_kid p h = true≢false (sym (form.kid_kind p a h) ∙ ap can_be_kid is)

  listed : mem a (attrs_of T n) ≡ true
  listed =
      ⊎_elim (λ (h : mem a (attrs_of T n) ≡ true). h) (λ (h : mem a (kids_of T n) ≡ true). absurd (no_kid n h))
      (mem-append a (attrs_of T n) (kids_of T n) (form.is_listed a n up))

  alone : below T a ≡ a ∷ []
  alone = (ordered T t).below_attribute n a listed

  abbrev less : Table
  less = clear.cut T a n (a ∷ [])

  removed-is : removed T a ≡ less
  removed-is = ap (removed_from T a) up ∙ ap (clear.cut T a n) alone

  formed-less : Formed less
  formed-less = subst Formed removed-is (formed-of (removed T a) (go T a form (record {
    lives = parent-has T a n up;
    below_root = λ e. absurd (let root : kind_of T a ≡ Some Root = ap (kind_of T) e ∙ form.root_kind in cc);
    apart = λ before behind p e. absurd (no_kid p (rw e (In-mem a (before ++ (a ∷ behind)) (omega (arith, occurs-append a before (a ∷ behind), occurs-head a behind)))));
  })))

  owner-live : is_live T n ≡ true
  owner-live = (ways-up T t).parent_live a n up

  out : (m : ℕ) → m ≢ a → occurs m (a ∷ []) ≡ 0
  out m ne = occurs-other m a [] ne

  -- the element is another one
  owner-other : n ≢ a
  owner-other e = let element : kind_of T a ≡ Some Element = ap (kind_of T) (sym e) ∙ form.owner_kind n a listed in absurd (cc)

  gone : entry_at less a ≡ None
  gone = clear.entry-gone T a n (a ∷ []) a (occurs-head a [])

  left : (m : ℕ) → is_live less m ≡ true → m ≢ a
  left m lives e = true≢false (sym lives ∙ (ap (is_live less) e ∙ ap is_some gone))

  stays-left : (m : ℕ) → Stays T less m → m ≢ a
  stays-left m stays = left m (both (is_live T m) (is_live less m) stays).1

  kids-left : (m : ℕ) → kids_of less m ≡ kids_of T m
  kids-left m =
      ⊎_elim (λ (e : m ≡ a). subst (λ k. kids_of less k ≡ kids_of T k) (sym e) (ap kids_at gone ∙ sym (no_kids T form a (ap holds_kids is))))
      (λ (ne : m ≢ a). ⊎_elim
      (λ (e : m ≡ n). subst (λ k. kids_of less k ≡ kids_of T k) (sym e)
      (clear.kids-parent T a n (a ∷ []) owner-live (out n owner-other)
      ∙ clear.without-none a (kids_of T n) (none-in (occurs a (kids_of T n)) (λ h. no_kid n (In-mem a (kids_of T n) h)))))
      (λ (np : m ≢ n). (clear.links-other T a n (a ∷ []) m (out m ne) np).kids)
      (eq_or m n))
      (eq_or m a)

  no_attributes : attrs_of T a ≡ []
  no_attributes =
      let whole : a ∷ (attrs_of T a ++ flat_map (below T) (kids_of T a)) ≡ a ∷ [] = sym ((ordered T t).below_at a) ∙ alone in
      append-empty_left (attrs_of T a) (flat_map (below T) (kids_of T a)) (cc whole)

  attributes-left : (m : ℕ) → filter (lives_in_both T less) (attrs_of less m) ≡ filter (lives_in_both T less) (attrs_of T m)
  attributes-left m =
      ⊎_elim (λ (e : m ≡ a). subst (λ k. filter (lives_in_both T less) (attrs_of less k) ≡ filter (lives_in_both T less) (attrs_of T k)) (sym e)
      (ap (filter (lives_in_both T less)) (ap attrs_at gone ∙ sym no_attributes)))
      (λ (ne : m ≢ a). ⊎_elim
      (λ (e : m ≡ n). subst (λ k. filter (lives_in_both T less) (attrs_of less k) ≡ filter (lives_in_both T less) (attrs_of T k)) (sym e)
      (ap (filter (lives_in_both T less)) (clear.attributes-parent T a n (a ∷ []) owner-live (out n owner-other))
      ∙ filter-without (lives_in_both T less) a (dead-in (is_live T a) (ap is_some gone)) (attrs_of T n)))
      (λ (np : m ≢ n). ap (filter (lives_in_both T less)) (clear.links-other T a n (a ∷ []) m (out m ne) np).attributes)
      (eq_or m n))
      (eq_or m a)
    where
      dead-in : (b : Bool) {c : Bool} → c ≡ false → (b && c) ≡ false
      dead-in true e = e
      dead-in false e = refl

  in_order_left : filter (lives_in_both T less) (order T) ≡ filter (lives_in_both T less) (order less)
  in_order_left = order-alike T less (lives_in_both T less) kids-left attributes-left t (omega (arith, clear.cut-length T a n (a ∷ [])))

  content-left : (m : ℕ) → Stays T less m → content_of T m ≡ content_of less m
  content-left m stays = sym (clear.content-kept T a n (a ∷ []) owner-live m (out m (stays-left m stays)))

  parent-left : (m : ℕ) → Stays T less m → parent_of T m ≡ parent_of less m
  parent-left m stays = sym (clear.parent-kept T a n (a ∷ []) owner-live m (out m (stays-left m stays)))

  live-left : (m : ℕ) → m ≢ a → is_live less m ≡ is_live T m
  live-left m ne = clear.live-kept T a n (a ∷ []) owner-live m (out m ne)

  none-goes : (m k : ℕ) → is_live T k ≡ true → is_descendant T m k ≡ true → is_live less k ≡ true
  none-goes m k lives h = live-left k (λ e. no-descendant T m k (ap (kind_of T) e ∙ is) h) ∙ lives

  live-before : (m : ℕ) → is_live less m ≡ true → is_live T m ≡ true
  live-before m lives = sym (live-left m (left m lives)) ∙ lives

  attributes-other : (m : ℕ) → Stays T less m → m ≢ n → attrs_of T m ≡ attrs_of less m
  attributes-other m stays np = sym (clear.links-other T a n (a ∷ []) m (out m (stays-left m stays)) np).attributes

  loss-leaves : Agree T less (touched_attributes n)
  loss-leaves = record {
    kind = λ m stays. ap kind_at (content-left m stays);
    target = λ m stays other. ap name_at (content-left m stays);
    parent = parent-left;
    in_order = in_order_left;
    name = λ m stays named out. ap name_at (content-left m stays);
    kids = λ m stays out. sym (kids-left m);
    shape = λ m stays out. shape-alike T less t formed-less parent-left (λ k lives. ap kind_at (content-left k lives)) in_order_left m (none-goes m) (λ k lives h. live-before k lives);
    attributes = λ m stays out. attributes-other m stays (other-than m n out);
    value = λ m stays out. ap value_at (content-left m stays);
    text = λ m stays holds out. text-alike T less t formed-less parent-left (λ k lives. ap kind_at (content-left k lives)) in_order_left m (none-goes m) (λ k lives h. live-before k lives)
        stays holds (λ k lives h. ap characters_in (content-left k lives));
    numbers = omega (arith, clear.cut-length T a n (a ∷ []));
    no_return = λ m before lives. live-before m lives;
  }

-- a tree without an attribute is a tree
pub loss-formed : RemovalsKeepTrees → (T : Table) (a n : ℕ) → Formed T → kind_of T a ≡ Some Attribute → parent_of T a ≡ Some n → Formed (removed T a)
loss-formed go T a n t is up = subst Formed (sym (removed-is T a n t is up go)) (formed-less T a n t is up go)

pub attributes-leave : GainsKeepTrees → RemovalsKeepTrees → AttributesLeave
attributes-leave gains go = record {
  gain = λ T n name value form may.
      subst (λ U. Agree T U (touched_attributes n)) (sym (gained-is T n name value))
      (gain-leaves T n name value (formed-of T form) (subst Formed (gained-is T n name value) (formed-of (gained T n name value) (gains T n name value form may)))
      (holder-live T n (ap holds_kids may.under)));
  loss = λ T a n form is up.
      let t : Formed T = formed-of T form in
      subst (λ U. Agree T U (touched_attributes n)) (sym (removed-is T a n t is up go)) (loss-leaves T a n t is up go);
}
