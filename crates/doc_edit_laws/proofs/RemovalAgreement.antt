-- A tree that loses a kid with all below it: what stays is as it was, but for the parent's kids, and for what stands below the parent and all above it.
use Rattle.std.proofs.Common.{◌≡◌, ◌≢◌, ℕ, ◌≤◌, suc, zero, Bool, true, false, cond, ◌&&◌, List, [], ◌∷◌, ◌++◌, ◌⊎◌, length, Option, None, Some, is_some, refl, sym, ap, ap₂, ◌∙◌, subst, inl, inr, ⊎_elim, true≢false, arith, eqb, eq-eqb, ne_eqb}
use Rattle.std.specs.Prelude.{not, filter}
use Rattle.std.specs.List.{flat_map}
use Rattle.std.proofs.lemmas.List.Elements.{filter-append}
use Rattle.doc_table.specs.inner.Forest.{flat}
use Rattle.doc_table.specs.inner.Sound.{Formed}
use Rattle.doc_table.proofs.TreeLaws.{well-formed, ordered, ways-up}
use Rattle.doc_table.proofs.Ways.{In-live, parent-has}
use Rattle.doc_tree.specs.cell.Cell.{Cell}
use Rattle.doc_tree.specs.cell.Cell.TheVariants.{Kids, Shape, Value, Text}
use Rattle.doc_tree.specs.Kinds.{can_be_kid, holds_kids}
use Rattle.doc_tree.specs.Laws.{WellFormed, Ordered, HasWaysUp}
use Rattle.doc_tree.specs.Lists.{mem, occurs}
use Rattle.doc_tree.specs.Order.{Nested}
use Rattle.doc_tree.specs.Table.{Table, kind_at, name_at, value_at, attrs_of, content_of, is_live, kids_of, kind_of, name_of, parent_of}
use Rattle.doc_tree.specs.Walks.{above, ancestors, below, characters_in, order}
use Rattle.doc_tree.proofs.ListLemmas.{In, In-mem, mem-In, In-cons, In-append, none-mem, occurs-append, occurs-head, eq_or}
use Rattle.doc_tree.proofs.OrderLemmas.{below-head, nested}
use Rattle.doc_axes.specs.Axes.{is_attribute, is_descendant}
use Rattle.doc_edit_laws.specs.Agreement.{Agree, Stays, lives_in_both}
use Rattle.doc_edit_laws.proofs.Composing.{both}
use Rattle.doc_edit_laws.proofs.OrderLemmas.{filter-narrow}
use Rattle.doc_edits.specs.Changes.{without}
use Rattle.doc_edits.proofs.ClearLemmas.{cut, cut-length, entry-gone, links-other, kids-parent, attributes-parent, parent-kept, content-kept, live-kept, without-none}
use Rattle.doc_edits.proofs.PruneLemmas.{Cut, cut_at, none-in}
use Rattle.doc_edit_laws.proofs.LinkLemmas.{numbers-next, numbers_to}
use Rattle.doc_edit_laws.proofs.TextLemmas.{says, shape-alike, text-alike}

-- whether a number is none of those that are gone
abbrev pub keeps : List ℕ → ℕ → Bool
keeps gone m = not (mem m gone)

keeps-yes : (gone : List ℕ) (m : ℕ) → occurs m gone ≡ 0 → keeps gone m ≡ true
keeps-yes gone m h = ap not (none-mem m gone h)

keeps-no : (gone : List ℕ) (m : ℕ) → In m gone → keeps gone m ≡ false
keeps-no gone m h = ap not (In-mem m gone h)

-- a filter at the head of a list, and where all pass or none
module _ (f : ℕ → Bool) where
  filter-pass : (x : ℕ) (xs : List ℕ) → f x ≡ true → filter f (x ∷ xs) ≡ x ∷ filter f xs
  filter-pass x xs h = rw h refl

  filter-stop : (x : ℕ) (xs : List ℕ) → f x ≡ false → filter f (x ∷ xs) ≡ filter f xs
  filter-stop x xs h = rw h refl

  filter-every : (xs : List ℕ) → ((x : ℕ) → In x xs → f x ≡ true) → filter f xs ≡ xs
  filter-every [] h = refl
  filter-every (x ∷ xs) h = filter-pass x xs (h x (occurs-head x xs)) ∙ ap (λ l. x ∷ l) (filter-every xs (λ k g. h k (omega (arith, g))))

  filter-none : (xs : List ℕ) → ((x : ℕ) → In x xs → f x ≡ false) → filter f xs ≡ []
  filter-none [] h = refl
  filter-none (x ∷ xs) h = filter-stop x xs (h x (occurs-head x xs)) ∙ filter-none xs (λ k g. h k (omega (arith, g)))

-- a filter after another one is one filter
filter-twice : (f g h : ℕ → Bool) (xs : List ℕ) → ((x : ℕ) → In x xs → h x ≡ (g x && f x)) → filter f (filter g xs) ≡ filter h xs
filter-twice f g h [] same = refl
filter-twice f g h (x ∷ xs) same = by (g x) (f x) refl refl (same x (occurs-head x xs)) (filter-twice f g h xs (λ k i. same k (omega (arith, i))))
  where
    by : (b c : Bool) → g x ≡ b → f x ≡ c → h x ≡ (g x && f x) → filter f (filter g xs) ≡ filter h xs → filter f (filter g (x ∷ xs)) ≡ filter h (x ∷ xs)
    by false c e k is more = rw (e, is, e) more
    by true true e k is more = rw (e, is, e, k) (ap (λ l. x ∷ l) more)
    by true false e k is more = rw (e, is, e, k) more

-- two tests that agree along a list filter it alike
filter-same : (f g : ℕ → Bool) (xs : List ℕ) → ((x : ℕ) → In x xs → f x ≡ g x) → filter f xs ≡ filter g xs
filter-same f g [] same = refl
filter-same f g (x ∷ xs) same = rw (same x (occurs-head x xs)) (ap (λ l. cond (g x) (x ∷ l) l) (filter-same f g xs (λ k i. same k (omega (arith, i)))))

and-yes : (b : Bool) → (b && true) ≡ b
and-yes true = refl
and-yes false = refl

and-no : (b : Bool) → (b && false) ≡ false
and-no true = refl
and-no false = refl

-- a node is in both tables with the same parent, attributes, kind and name
pub record SameNode (T U : Table) (m : ℕ) : Type 0 where
  pub live : is_live U m ≡ is_live T m
  pub parent : parent_of U m ≡ parent_of T m
  pub attributes : attrs_of U m ≡ attrs_of T m
  pub kind : kind_of U m ≡ kind_of T m
  pub name : name_of U m ≡ name_of T m

-- a table that has lost kids of p with all below them; some kids of p, which hold none, say another text
pub record Lost (T U : Table) (p : ℕ) (gone told : List ℕ) : Type 0 where
  pub same_length : length U ≡ length T
  pub root_stays : occurs 0 gone ≡ 0
  pub apart : occurs p gone ≡ 0
  -- what hangs from a node that is gone is gone; from a node that stays, p alone, kids are gone
  pub down : (k q : ℕ) → In q gone → parent_of T k ≡ Some q → In k gone
  pub up : (k q : ℕ) → In k gone → parent_of T k ≡ Some q → In q (p ∷ gone)
  pub attributes_stay : (m a : ℕ) → occurs m gone ≡ 0 → In a (attrs_of T m) → occurs a gone ≡ 0
  pub dead : (m : ℕ) → In m gone → is_live U m ≡ false
  -- the others are as they were
  pub same : (m : ℕ) → occurs m gone ≡ 0 → SameNode T U m
  pub kids : (m : ℕ) → occurs m gone ≡ 0 → kids_of U m ≡ filter (keeps gone) (kids_of T m)
  pub content : (m : ℕ) → occurs m gone ≡ 0 → occurs m told ≡ 0 → content_of U m ≡ content_of T m
  pub told_under : (m : ℕ) → In m told → (parent_of T m ≡ Some p) × (holds_kids (kind_of T m) ≡ false)

-- nothing is lost
pub none-lost : (T : Table) (p : ℕ) → Lost T T p [] []
none-lost T p = record {
  same_length = refl;
  root_stays = refl;
  apart = refl;
  down = λ k q h _. absurd (omega arith);
  up = λ k q h _. absurd (omega arith);
  attributes_stay = λ m a _ _. refl;
  dead = λ m h. absurd (omega arith);
  same = λ m _. record { live = refl; parent = refl; attributes = refl; kind = refl; name = refl };
  kids = λ m _. sym (filter-every (keeps []) (kids_of T m) (λ _ _. refl));
  content = λ m _ _. refl;
  told_under = λ m h. absurd (omega arith);
}

-- the cells that such a change touches are among these
pub record Covers (T : Table) (p : ℕ) (told : List ℕ) (touched : Cell → Bool) : Type 0 where
  pub kids : touched (Kids p) ≡ true
  pub shapes : (m : ℕ) → mem m (above T p) ≡ true → touched (Shape m) ≡ true
  pub texts : (m : ℕ) → mem m (above T p) ≡ true → touched (Text m) ≡ true
  pub values : (m : ℕ) → In m told → touched (Value m) ≡ true

module _ (T : Table) (formed : Formed T) where
  form : WellFormed T
  form = well-formed T formed

  ord : Ordered T
  ord = ordered T formed

  ways : HasWaysUp T
  ways = ways-up T formed

  nest : Nested T
  nest = nested T form ord ways

  module _ (U : Table) (p : ℕ) (gone told : List ℕ) (lost : Lost T U p gone told) where
    -- what lives in both is not gone
    stay : (m : ℕ) → Stays T U m → occurs m gone ≡ 0
    stay m s = none-in (occurs m gone) (λ h. true≢false (sym (both (is_live T m) (is_live U m) s).1 ∙ lost.dead m h))

    kids-stay : (m k : ℕ) → occurs m gone ≡ 0 → m ≢ p → parent_of T k ≡ Some m → occurs k gone ≡ 0
    kids-stay m k h ne up =
        none-in (occurs k gone)
        (λ g. ⊎_elim (λ (e : m ≡ p). ne e) (λ (i : In m gone). absurd (omega arith)) (In-cons m p gone (lost.up k m g up)))

    kids-same : (m : ℕ) → occurs m gone ≡ 0 → m ≢ p → kids_of U m ≡ kids_of T m
    kids-same m h ne =
        lost.kids m h
        ∙ filter-every (keeps gone) (kids_of T m) (λ k g. keeps-yes gone k (kids-stay m k h ne (form.kid_parent m k (In-mem k (kids_of T m) g))))

    -- document order is what it was without the nodes that are gone: with a node the walk below it is gone
    gone-row : (levels : ℕ) → ((m : ℕ) → In m gone → filter (keeps gone) (numbers_to T levels m) ≡ []) → (ks : List ℕ) → ((k : ℕ) → In k ks → In k gone) →
        filter (keeps gone) (flat_map (numbers_to T levels) ks) ≡ []
    gone-row levels more [] h = refl
    gone-row levels more (k ∷ ks) h =
        filter-append (keeps gone) (numbers_to T levels k) (flat_map (numbers_to T levels) ks)
        ∙ ap₂ (λ x y. x ++ y) (more k (h k (occurs-head k ks))) (gone-row levels more ks (λ j g. h j (omega (arith, g))))

    gone-walk : (levels m : ℕ) → In m gone → filter (keeps gone) (numbers_to T levels m) ≡ []
    gone-walk zero m h = refl
    gone-walk (suc levels) m h =
        ap (filter (keeps gone)) (numbers-next T levels m)
        ∙ (filter-stop (keeps gone) m (attrs_of T m ++ flat_map (numbers_to T levels) (kids_of T m)) (keeps-no gone m h)
        ∙ (filter-append (keeps gone) (attrs_of T m) (flat_map (numbers_to T levels) (kids_of T m))
        ∙ ap₂ (λ x y. x ++ y)
        (filter-none (keeps gone) (attrs_of T m) (λ a g. keeps-no gone a (lost.down a m h (form.attribute_parent m a (In-mem a (attrs_of T m) g)))))
        (gone-row levels (λ k g. gone-walk levels k g) (kids_of T m) (λ k g. lost.down k m h (form.kid_parent m k (In-mem k (kids_of T m) g))))))

    kept-row : (levels : ℕ) → ((m : ℕ) → occurs m gone ≡ 0 → numbers_to U levels m ≡ filter (keeps gone) (numbers_to T levels m)) → (ks : List ℕ) →
        flat_map (numbers_to U levels) (filter (keeps gone) ks) ≡ filter (keeps gone) (flat_map (numbers_to T levels) ks)
    kept-row levels more [] = refl
    kept-row levels more (k ∷ ks) = by (occurs k gone) refl (kept-row levels more ks) ∙ sym (filter-append (keeps gone) (numbers_to T levels k) (flat_map (numbers_to T levels) ks))
      where
        by : (count : ℕ) → occurs k gone ≡ count → flat_map (numbers_to U levels) (filter (keeps gone) ks) ≡ filter (keeps gone) (flat_map (numbers_to T levels) ks) →
            flat_map (numbers_to U levels) (filter (keeps gone) (k ∷ ks)) ≡ filter (keeps gone) (numbers_to T levels k) ++ filter (keeps gone) (flat_map (numbers_to T levels) ks)
        by zero e rest =
            ap (flat_map (numbers_to U levels)) (filter-pass (keeps gone) k ks (keeps-yes gone k e))
            ∙ ap₂ (λ x y. x ++ y) (more k e) rest
        by (suc count) e rest =
            let g : In k gone = omega (arith, e) in
            ap (flat_map (numbers_to U levels)) (filter-stop (keeps gone) k ks (keeps-no gone k g))
            ∙ (rest
            ∙ ap (λ x. x ++ filter (keeps gone) (flat_map (numbers_to T levels) ks)) (sym (gone-walk levels k g)))

    kept-walk : (levels m : ℕ) → occurs m gone ≡ 0 → numbers_to U levels m ≡ filter (keeps gone) (numbers_to T levels m)
    kept-walk zero m h = refl
    kept-walk (suc levels) m h =
        let attributes : attrs_of U m ≡ filter (keeps gone) (attrs_of T m) =
        (lost.same m h).attributes ∙ sym (filter-every (keeps gone) (attrs_of T m) (λ a g. keeps-yes gone a (lost.attributes_stay m a h g))) in
        let kids : flat_map (numbers_to U levels) (kids_of U m) ≡ filter (keeps gone) (flat_map (numbers_to T levels) (kids_of T m)) =
        ap (flat_map (numbers_to U levels)) (lost.kids m h) ∙ kept-row levels (λ k g. kept-walk levels k g) (kids_of T m) in
        numbers-next U levels m
        ∙ (ap₂ (λ (x y : List ℕ). m ∷ (x ++ y)) attributes kids
        ∙ sym (ap (filter (keeps gone)) (numbers-next T levels m)
        ∙ (filter-pass (keeps gone) m (attrs_of T m ++ flat_map (numbers_to T levels) (kids_of T m)) (keeps-yes gone m h)
        ∙ ap (λ l. m ∷ l) (filter-append (keeps gone) (attrs_of T m) (flat_map (numbers_to T levels) (kids_of T m))))))

    below-left : (m : ℕ) → occurs m gone ≡ 0 → below U m ≡ filter (keeps gone) (below T m)
    below-left m h = ap (λ levels. numbers_to U levels m) lost.same_length ∙ kept-walk (length T) m h

    order-left : filter (lives_in_both T U) (order T) ≡ filter (lives_in_both T U) (order U)
    order-left =
        sym (ap (filter (lives_in_both T U)) (below-left 0 lost.root_stays)
        ∙ filter-narrow (lives_in_both T U) (keeps gone) (λ m s. keeps-yes gone m (stay m s)) (order T))

    -- what is above a node that is gone is gone too, or is p or above it
    higher : (m k : ℕ) → In k gone → In m (ancestors T k) → (o : Option ℕ) → parent_of T k ≡ o
        → ((q : ℕ) → suc (length (ancestors T q)) ≡ length (ancestors T k) → In q gone → In m (above T q) → In m gone ⊎ In m (above T p))
        → In m gone ⊎ In m (above T p)
    higher m k h i None e more = absurd (let none : In m [] = subst (In m) (ways.no_ancestors k e) i in omega arith)
    higher m k h i (Some q) e more =
        let way : ancestors T k ≡ q ∷ ancestors T q = ways.ancestors_at k q e in
        let j : In m (above T q) = subst (In m) way i in
        ⊎_elim (λ (is : q ≡ p). inr (subst (λ r. In m (above T r)) is j)) (λ (g : In q gone). more q (sym (ap length way)) g j) (In-cons q p gone (lost.up k q h e))

    gone-above : (steps m k : ℕ) → length (ancestors T k) ≤ steps → In k gone → In m (above T k) → In m gone ⊎ In m (above T p)
    gone-above zero m k short h i =
        ⊎_elim (λ (e : m ≡ k). inl (subst (λ j. In j gone) (sym e) h))
        (λ (g : In m (ancestors T k)). higher m k h g (parent_of T k) refl (λ q less a b. absurd (omega arith)))
        (In-cons m k (ancestors T k) i)
    gone-above (suc steps) m k short h i =
        ⊎_elim (λ (e : m ≡ k). inl (subst (λ j. In j gone) (sym e) h))
        (λ (g : In m (ancestors T k)). higher m k h g (parent_of T k) refl (λ q less a b. gone-above steps m q (omega arith) a b))
        (In-cons m k (ancestors T k) i)

    module _ (m : ℕ) (stays : occurs m gone ≡ 0) (off : occurs m (above T p) ≡ 0) where
      -- below a node that is not p nor above it, none goes
      none-goes : (k : ℕ) → In m (above T k) → occurs k gone ≡ 0
      none-goes k i =
          none-in (occurs k gone)
          (λ h. ⊎_elim (λ (g : In m gone). absurd (omega arith)) (λ (g : In m (above T p)). absurd (omega arith)) (gone-above (length (ancestors T k)) m k (omega arith) h i))

      pub below-same : is_live T m ≡ true → below U m ≡ below T m
      below-same live =
          below-left m stays
          ∙ filter-every (keeps gone) (below T m)
          (λ k i. keeps-yes gone k (none-goes k (mem-In m (above T k) (sym (nest m k (below-live k i)) ∙ In-mem k (below T m) i))))
        where
          below-live : (k : ℕ) → In k (below T m) → is_live T k ≡ true
          below-live k i =
              let split = ord.below_in_order m live in
              ord.live_in_order k ∙ In-mem k (order T) (rw split.2 (simp occurs-append (omega (arith, i))))

    module _ (touched : Cell → Bool) (u : Formed U) (covers : Covers T p told touched) where
      same : (m : ℕ) → Stays T U m → SameNode T U m
      same m s = lost.same m (stay m s)

      -- a number is in none of the lists whose cells are not touched
      untouched : (c : Bool) (xs : List ℕ) (m : ℕ) → (In m xs → c ≡ true) → c ≡ false → occurs m xs ≡ 0
      untouched c xs m some out = none-in (occurs m xs) (λ h. true≢false (sym (some h) ∙ out))

      not-owner : (m : ℕ) → touched (Kids m) ≡ false → m ≢ p
      not-owner m out e = true≢false (sym covers.kids ∙ (ap (λ k. touched (Kids k)) (sym e) ∙ out))

      off-way : (c : Bool) (m : ℕ) → (mem m (above T p) ≡ true → c ≡ true) → c ≡ false → occurs m (above T p) ≡ 0
      off-way c m some out = untouched c (above T p) m (λ h. some (In-mem m (above T p) h)) out

      live-before : (m : ℕ) → is_live U m ≡ true → is_live T m ≡ true
      live-before m live =
          sym (lost.same m (none-in (occurs m gone) (λ h. true≢false (sym live ∙ lost.dead m h)))).live ∙ live

      ancestor : (m k : ℕ) → is_descendant T m k ≡ true → In m (ancestors T k)
      ancestor m k h = mem-In m (ancestors T k) (both (mem m (ancestors T k)) (not (is_attribute T k)) h).0

      none-left : (m : ℕ) → Stays T U m → occurs m (above T p) ≡ 0 → (k : ℕ) → is_live T k ≡ true → is_descendant T m k ≡ true → is_live U k ≡ true
      none-left m s off k live h = (lost.same k (none-goes m (stay m s) off k (omega (arith, ancestor m k h)))).live ∙ live

      says-same : (m : ℕ) → occurs m (above T p) ≡ 0 → (k : ℕ) → Stays T U k → is_descendant T m k ≡ true → says T k ≡ says U k
      says-same m off k s h =
          sym (ap characters_in (lost.content k (stay k s)
          (none-in (occurs k told) (λ g.
          let way : ancestors T k ≡ above T p = ways.ancestors_at k p (lost.told_under k g).0 in
          let i : In m (above T p) = subst (In m) way (ancestor m k h) in
          absurd (omega arith)))))

      pub lost-agree : Agree T U touched
      lost-agree = record {
        kind = λ m s. sym (same m s).kind;
        target = λ m s other. sym (same m s).name;
        parent = λ m s. sym (same m s).parent;
        in_order = order-left;
        name = λ m s named out. sym (same m s).name;
        kids = λ m s out. sym (kids-same m (stay m s) (not-owner m out));
        shape = λ m s out.
            let off : occurs m (above T p) ≡ 0 = off-way (touched (Shape m)) m (covers.shapes m) out in
            shape-alike T U formed u (λ k r. sym (same k r).parent) (λ k r. sym (same k r).kind) order-left m (none-left m s off) (λ k live _. live-before k live);
        attributes = λ m s out. sym (same m s).attributes;
        value = λ m s out. sym (ap value_at (lost.content m (stay m s) (untouched (touched (Value m)) told m (covers.values m) out)));
        text = λ m s holds out.
            let off : occurs m (above T p) ≡ 0 = off-way (touched (Text m)) m (covers.texts m) out in
            text-alike T U formed u (λ k r. sym (same k r).parent) (λ k r. sym (same k r).kind) order-left m (none-left m s off) (λ k live _. live-before k live)
            s holds (says-same m off);
        numbers = omega (arith, lost.same_length);
        no_return = λ m old live. live-before m live;
      }

  -- a kid goes with all below it
  module _ (n p : ℕ) (up : parent_of T n ≡ Some p) where
    cutting : Cut T n p
    cutting = cut_at T n p formed up

    abbrev pub inside : List ℕ
    inside = below T n

    itself : In n inside
    itself = below-head T form ord ways n

    root-out : occurs 0 inside ≡ 0
    root-out =
        none-in (occurs 0 inside)
        (λ h.
        let live : is_live T 0 ≡ true = In-live T formed.forest formed.whole 0 (occurs-head 0 (flat formed.forest)) in
        let i : In n (above T 0) = mem-In n (above T 0) (sym (nest n 0 live) ∙ In-mem 0 inside h) in
        ⊎_elim (λ (e : n ≡ 0). let none : parent_of T n ≡ None = ap (parent_of T) e ∙ form.root_parent in absurd (cc))
        (λ (g : In n (ancestors T 0)). absurd (let j : In n [] = subst (In n) (ways.no_ancestors 0 form.root_parent) g in omega arith))
        (In-cons n 0 (ancestors T 0) i))

    -- all below what is below the node is below it, and the node alone hangs from what stays
    downwards : (k q : ℕ) → In q inside → parent_of T k ≡ Some q → In k inside
    downwards k q h hangs =
        let i : In n (above T q) = mem-In n (above T q) (sym (nest n q (ways.parent_live k q hangs)) ∙ In-mem q inside h) in
        let j : In n (above T k) = rw (ways.ancestors_at k q hangs) (omega (arith, i)) in
        mem-In k inside (nest n k (parent-has T k q hangs) ∙ In-mem n (above T k) j)

    upwards : (k q : ℕ) → In k inside → parent_of T k ≡ Some q → In q (p ∷ inside)
    upwards k q h hangs =
        ⊎_elim (λ (e : k ≡ n). let there : parent_of T n ≡ Some q = ap (parent_of T) (sym e) ∙ hangs in let is : q ≡ p = (cc) in subst (λ r. In r (p ∷ inside)) (sym is) (occurs-head p inside))
        (λ (ne : k ≢ n). omega (arith, cutting.within k q h ne hangs))
        (eq_or k n)

    pub out-beside : (m k : ℕ) → occurs m inside ≡ 0 → k ≢ n → parent_of T k ≡ Some m → occurs k inside ≡ 0
    out-beside m k h ne hangs = none-in (occurs k inside) (λ g. absurd (omega (arith, cutting.within k m g ne hangs)))

    module _ (kid : can_be_kid (kind_of T n) ≡ true) (U : Table) (gone : List ℕ) (lost : Lost T U p gone []) where
      abbrev pub less : Table
      less = cut U n p inside

      lives : is_live U p ≡ true
      lives = (lost.same p lost.apart).live ∙ ways.parent_live n p up

      below-first : (m : ℕ) → occurs m (inside ++ gone) ≡ 0 → occurs m inside ≡ 0
      below-first m h = omega (arith, h, occurs-append m inside gone)

      below-second : (m : ℕ) → occurs m (inside ++ gone) ≡ 0 → occurs m gone ≡ 0
      below-second m h = omega (arith, h, occurs-append m inside gone)

      no-attribute : (m : ℕ) → occurs n (attrs_of T m) ≡ 0
      no-attribute m =
          none-in (occurs n (attrs_of T m))
          (λ h. true≢false (sym kid ∙ ap can_be_kid (form.attribute_kind m n (In-mem n (attrs_of T m) h))))

      attributes-less : (m : ℕ) → occurs m (inside ++ gone) ≡ 0 → attrs_of less m ≡ attrs_of T m
      attributes-less m h =
          let was : attrs_of U m ≡ attrs_of T m = (lost.same m (below-second m h)).attributes in
          ⊎_elim
          (λ (e : m ≡ p). subst (λ q. attrs_of less q ≡ attrs_of T q) (sym e)
          (attributes-parent U n p inside lives cutting.apart ∙ (ap (without n) (lost.same p lost.apart).attributes ∙ without-none n (attrs_of T p) (no-attribute p))))
          (λ (np : m ≢ p). (links-other U n p inside m (below-first m h) np).attributes ∙ was)
          (eq_or m p)

      -- what is not below the node is kept as before
      keeps-more : (x : ℕ) → occurs x inside ≡ 0 → keeps (inside ++ gone) x ≡ keeps gone x
      keeps-more x h = by (occurs x gone) refl
        where
          by : (count : ℕ) → occurs x gone ≡ count → keeps (inside ++ gone) x ≡ keeps gone x
          by zero e = keeps-yes (inside ++ gone) x (occurs-append x inside gone ∙ omega (arith, h, e)) ∙ sym (keeps-yes gone x e)
          by (suc count) e = keeps-no (inside ++ gone) x (omega (arith, e, occurs-append x inside gone)) ∙ sym (keeps-no gone x (omega (arith, e)))

      kept-beside : (x : ℕ) → In x (kids_of T p) → keeps (inside ++ gone) x ≡ (keeps gone x && not (eqb x n))
      kept-beside x i =
          ⊎_elim
          (λ (e : x ≡ n).
          keeps-no (inside ++ gone) x (omega (arith, subst (λ k. In k inside) (sym e) itself, occurs-append x inside gone))
          ∙ sym (ap (λ b. keeps gone x && not b) (eq-eqb x n e) ∙ and-no (keeps gone x)))
          (λ (ne : x ≢ n).
          keeps-more x (out-beside p x cutting.apart ne (form.kid_parent p x (In-mem x (kids_of T p) i)))
          ∙ sym (ap (λ b. keeps gone x && not b) (ne_eqb x n ne) ∙ and-yes (keeps gone x)))
          (eq_or x n)

      kept-under : (m x : ℕ) → occurs m inside ≡ 0 → m ≢ p → In x (kids_of T m) → keeps gone x ≡ keeps (inside ++ gone) x
      kept-under m x h np i =
          let hangs : parent_of T x ≡ Some m = form.kid_parent m x (In-mem x (kids_of T m) i) in
          let ne : x ≢ n = λ e. np (let there : parent_of T n ≡ Some m = ap (parent_of T) (sym e) ∙ hangs in cc) in
          sym (keeps-more x (out-beside m x h ne hangs))

      kids-less : (m : ℕ) → occurs m (inside ++ gone) ≡ 0 → kids_of less m ≡ filter (keeps (inside ++ gone)) (kids_of T m)
      kids-less m h =
          ⊎_elim
          (λ (e : m ≡ p). subst (λ q. kids_of less q ≡ filter (keeps (inside ++ gone)) (kids_of T q)) (sym e)
          (kids-parent U n p inside lives cutting.apart
          ∙ (ap (without n) (lost.kids p lost.apart) ∙ filter-twice (λ x. not (eqb x n)) (keeps gone) (keeps (inside ++ gone)) (kids_of T p) kept-beside)))
          (λ (np : m ≢ p).
          (links-other U n p inside m (below-first m h) np).kids
          ∙ (lost.kids m (below-second m h)
          ∙ filter-same (keeps gone) (keeps (inside ++ gone)) (kids_of T m) (λ x i. kept-under m x (below-first m h) np i)))
          (eq_or m p)

      dead-less : (m : ℕ) → In m (inside ++ gone) → is_live less m ≡ false
      dead-less m h = by (occurs m inside) refl
        where
          by : (count : ℕ) → occurs m inside ≡ count → is_live less m ≡ false
          by zero e = live-kept U n p inside lives m e ∙ lost.dead m (omega (arith, h, e, occurs-append m inside gone))
          by (suc count) e = ap is_some (entry-gone U n p inside m (omega (arith, e)))

      pub lose : Lost T less p (inside ++ gone) []
      lose = record {
        same_length = cut-length U n p inside ∙ lost.same_length;
        root_stays = occurs-append 0 inside gone ∙ omega (arith, root-out, lost.root_stays);
        apart = occurs-append p inside gone ∙ omega (arith, cutting.apart, lost.apart);
        down = λ k q h hangs. ⊎_elim (λ (i : In q inside). omega (arith, downwards k q i hangs, occurs-append k inside gone))
            (λ (i : In q gone). omega (arith, lost.down k q i hangs, occurs-append k inside gone))
            (In-append q inside gone h);
        up = λ k q h hangs. ⊎_elim (λ (i : In k inside). omega (arith, upwards k q i hangs, occurs-append q inside gone))
            (λ (i : In k gone). omega (arith, lost.up k q i hangs, occurs-append q inside gone))
            (In-append k inside gone h);
        attributes_stay = λ m a h i.
            let ne : a ≢ n = λ e. absurd (let j : In n (attrs_of T m) = subst (λ b. In b (attrs_of T m)) e i in omega (arith, no-attribute m)) in
            occurs-append a inside gone
            ∙ omega (arith, lost.attributes_stay m a (below-second m h) i, out-beside m a (below-first m h) ne (form.attribute_parent m a (In-mem a (attrs_of T m) i)));
        dead = dead-less;
        same = λ m h. record {
          live = live-kept U n p inside lives m (below-first m h) ∙ (lost.same m (below-second m h)).live;
          parent = parent-kept U n p inside lives m (below-first m h) ∙ (lost.same m (below-second m h)).parent;
          attributes = attributes-less m h;
          kind = ap kind_at (content-kept U n p inside lives m (below-first m h)) ∙ (lost.same m (below-second m h)).kind;
          name = ap name_at (content-kept U n p inside lives m (below-first m h)) ∙ (lost.same m (below-second m h)).name;
        };
        kids = kids-less;
        content = λ m h _. content-kept U n p inside lives m (below-first m h) ∙ lost.content m (below-second m h) refl;
        told_under = λ m h. absurd (omega arith);
      }
