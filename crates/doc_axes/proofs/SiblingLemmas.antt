-- The kids before and after a node, and the axes of siblings.
use Rattle.std.proofs.Common.{◌≡◌, ℕ, ◌+◌, ◌<◌, ◌≤◌, zero, suc, get_or, lt-ltb, Bool, true, false, not, cond, ◌||◌, ◌&&◌, List, [], ◌∷◌, ◌++◌, ◌⊎◌, length, take, drop, eqb, ltb, ltb-true, ltb-false, Option, None, Some, refl, sym, ap, ◌∙◌, subst, ⊎_elim, true≢false, arith, add-one, eq-eqb, append_assoc, inl, inr}
use Rattle.std.specs.Prelude.{position}
use Rattle.std.specs.List.{prefix_len}
use Rattle.std.proofs.Math.Numerals.{one-add}
use Rattle.doc_tree.specs.declared.axes.Axis.TheVariants.{FollowingSibling, PrecedingSibling}
use Rattle.doc_tree.specs.Lists.{mem, occurs}
use Rattle.doc_tree.specs.Table.{Table, attrs_of, kids_above, kids_of, parent_of}
use Rattle.doc_tree.specs.Walks.{order}
use Rattle.doc_tree.specs.Order.{after, Nested}
use Rattle.doc_tree.specs.Laws.{WellFormed, Ordered, HasWaysUp}
use Rattle.doc_tree.proofs.ListLemmas.{In, In-mem, mem-In, mem-get, In-cons, In-append, occurs-append, occurs-head}
use Rattle.doc_tree.proofs.OrderLemmas.{Apart, SplitAt, split_at, after-split, after-self, apart-after}
use Rattle.doc_axes.specs.Axes.{backwards, is_attribute, kids_beside, on_axis, axis_order, axis_nodes}
use Rattle.doc_axes.specs.Siblings.{before, kids_before, kids_behind}
use Rattle.doc_axes.proofs.SubLists.{Sub, done, skip, keep, sub-all, sub-front, sub-back, sub-occurs, filter-sub, filter-none}
use Rattle.doc_axes.proofs.Segments.{place}
use Rattle.doc_axes.proofs.AxisLemmas.{attr-is_attribute, kids-below, within}

abbrev first_place : ℕ → List ℕ → ℕ
first_place n xs = prefix_len (λ x. not (eqb n x)) xs

record Cut (n : ℕ) (xs : List ℕ) : Type 0 where
  before_is : take (first_place n xs) xs ≡ before n xs
  after_is : drop (suc (first_place n xs)) xs ≡ after n xs
  absent : mem n xs ≡ false → length xs ≤ first_place n xs
  there : mem n xs ≡ true → first_place n xs < length xs

cut : (n : ℕ) (xs : List ℕ) → Cut n xs
cut n [] = record { before_is = refl; after_is = refl; absent = λ h. omega arith; there = λ h. absurd (true≢false (sym h)) }
cut n (x ∷ xs) = by (eqb n x) refl (cut n xs)
  where
    by : (b : Bool) → eqb n x ≡ b → Cut n xs → Cut n (x ∷ xs)
    by true e rest = record {
      before_is = rw e refl;
      after_is = rw e refl;
      absent = λ h. absurd (true≢false (let k : (true || mem n xs) ≡ false = rw e at h in k));
      there = λ h. rw e (omega arith);
    }
    by false e rest = record {
      before_is = rw (e, one-add) (ap (λ l. x ∷ l) rest.before_is);
      after_is = rw (e, one-add) rest.after_is;
      absent = λ h. rw e (omega (arith, rest.absent (rw e at h)));
      there = λ h. rw e (omega (arith, rest.there (rw e at h)));
    }

-- a number that stands once in a list is first found where it stands
stands_first : (n : ℕ) (xs : List ℕ) (i d : ℕ) → occurs n xs ≤ 1 → i < length xs → get_or xs i d ≡ n → first_place n xs ≡ i
stands_first n [] i d once below there = absurd (omega (arith, below))
stands_first n (x ∷ xs) zero d once below there = rw (eq-eqb n x (sym there)) refl
stands_first n (x ∷ xs) (suc i) d once below there = by (eqb n x) once (stands_first n xs i d)
  where
    inside : 1 ≤ occurs n xs
    inside = mem-In n xs (subst (λ m. mem m xs ≡ true) there (mem-get xs i d (omega (arith, below))))

    by : (b : Bool) → cond b 1 0 + occurs n xs ≤ 1 → (occurs n xs ≤ 1 → i < length xs → get_or xs i d ≡ n → first_place n xs ≡ i) →
        cond (not b) (1 + first_place n xs) 0 ≡ suc i
    by true few more = absurd (omega (arith, few, inside))
    by false few more = rw one-add (ap suc (more (omega (arith, few)) (omega (arith, below)) there))

pub placed_once : (n : ℕ) (xs : List ℕ) (i d : ℕ) → occurs n xs ≤ 1 → i < length xs → get_or xs i d ≡ n → position (λ x. eqb n x) xs ≡ Some i
placed_once n xs i d once below there =
    subst (λ k. cond (ltb k (length xs)) (Some k) None ≡ Some i) (sym (stands_first n xs i d once below there))
    (ap (λ b. cond b (Some i) None) (lt-ltb i (length xs) below))

-- a list cut at the place of one of its numbers
pub record CutAt (n : ℕ) (xs : List ℕ) (i : ℕ) : Type 0 where
  pub fits : i < length xs
  pub before_is : take i xs ≡ kids_before n xs
  pub after_is : drop (i + 1) xs ≡ kids_behind n xs

pub cut_at : (n : ℕ) (xs : List ℕ) (i : ℕ) → position (λ x. eqb n x) xs ≡ Some i → CutAt n xs i
cut_at n xs i h = by (ltb (first_place n xs) (length xs)) refl (mem n xs) refl (cut n xs) h
  where
    by : (b : Bool) → ltb (first_place n xs) (length xs) ≡ b → (c : Bool) → mem n xs ≡ c → Cut n xs → cond b (Some (first_place n xs)) None ≡ Some i → CutAt n xs i
    by false e c f k h = absurd (cc)
    by true e false f k h = absurd (omega (arith, k.absent f, ltb-true (first_place n xs) (length xs) e))
    by true e true f k h =
        let same : first_place n xs ≡ i = (cc) in
        record {
          fits = rw (← same) (ltb-true (first_place n xs) (length xs) e);
          before_is = rw (f, ← same) k.before_is;
          after_is = rw (f, ← same, add-one) k.after_is;
        }

pub cut_none : (n : ℕ) (xs : List ℕ) → position (λ x. eqb n x) xs ≡ None → (xs ≡ kids_behind n xs) × ([] ≡ kids_before n xs)
cut_none n xs h = by (ltb (first_place n xs) (length xs)) refl (mem n xs) refl (cut n xs) h
  where
    by : (b : Bool) → ltb (first_place n xs) (length xs) ≡ b → (c : Bool) → mem n xs ≡ c → Cut n xs → cond b (Some (first_place n xs)) None ≡ None → (xs ≡ kids_behind n xs) × ([] ≡ kids_before n xs)
    by true e c f k h = absurd (cc)
    by false e true f k h = absurd (omega (arith, k.there f, ltb-false (first_place n xs) (length xs) e))
    by false e false f k h = (rw f refl, rw f refl)

pub before-split : (n : ℕ) (xs ys : List ℕ) → occurs n xs ≡ 0 → before n (xs ++ n ∷ ys) ≡ xs
before-split n [] ys none = rw (eq-eqb n n refl) refl
before-split n (x ∷ xs) ys none = by (eqb n x) none (λ h. before-split n xs ys h)
  where
    by : (b : Bool) → cond b 1 0 + occurs n xs ≡ 0 → (occurs n xs ≡ 0 → before n (xs ++ n ∷ ys) ≡ xs) → cond b [] (x ∷ before n (xs ++ n ∷ ys)) ≡ x ∷ xs
    by true none more = absurd (omega arith)
    by false none more = ap (λ l. x ∷ l) (more (omega arith))

after-occurs : (m n : ℕ) (xs : List ℕ) → occurs m (after n xs) ≤ occurs m xs
after-occurs m n [] = omega arith
after-occurs m n (x ∷ xs) = by (eqb n x) (after-occurs m n xs)
  where
    by : (b : Bool) → occurs m (after n xs) ≤ occurs m xs → occurs m (cond b xs (after n xs)) ≤ occurs m (x ∷ xs)
    by true h = omega arith
    by false h = omega (arith, h)

before-occurs : (m n : ℕ) (xs : List ℕ) → occurs m (before n xs) ≤ occurs m xs
before-occurs m n [] = omega arith
before-occurs m n (x ∷ xs) = by (eqb n x) (before-occurs m n xs)
  where
    by : (b : Bool) → occurs m (before n xs) ≤ occurs m xs → occurs m (cond b [] (x ∷ before n xs)) ≤ occurs m (x ∷ xs)
    by true h = omega arith
    by false h = omega (arith, h)

-- the kids before and after one of them are kids
pub behind_in : (m n : ℕ) (kids : List ℕ) → mem m (kids_behind n kids) ≡ true → mem m kids ≡ true
behind_in m n kids h = by (mem n kids) h
  where
    by : (b : Bool) → mem m (cond b (after n kids) kids) ≡ true → mem m kids ≡ true
    by true k = In-mem m kids (omega (arith, mem-In m (after n kids) k, after-occurs m n kids))
    by false k = k

pub before_in : (m n : ℕ) (kids : List ℕ) → mem m (kids_before n kids) ≡ true → mem m kids ≡ true
before_in m n kids h = by (mem n kids) h
  where
    by : (b : Bool) → mem m (cond b (before n kids) []) ≡ true → mem m kids ≡ true
    by true k = In-mem m kids (omega (arith, mem-In m (before n kids) k, before-occurs m n kids))
    by false k = absurd (true≢false (sym k))

sub-trans : {a b c : List ℕ} → Sub a b → Sub b c → Sub a c
sub-trans s done = s
sub-trans s (skip t) = skip (sub-trans s t)
sub-trans (skip s) (keep t) = skip (sub-trans s t)
sub-trans (keep s) (keep t) = keep (sub-trans s t)

-- what keeps two parts of a list keeps each from its part
record Parted (f g ys : List ℕ) : Type 0 where
  first : List ℕ
  second : List ℕ
  is : ys ≡ first ++ second
  sub_first : Sub f first
  sub_second : Sub g second

parted : (f g : List ℕ) {zs ys : List ℕ} → Sub zs ys → zs ≡ f ++ g → Parted f g ys
parted [] g done e = record { first = []; second = []; is = refl; sub_first = done; sub_second = subst (λ l. Sub l []) e done }
parted (y ∷ f) g done e = absurd (cc)
parted f g (skip {x = x} s) e =
    let r = parted f g s e in
    record { first = x ∷ r.first; second = r.second; is = ap (λ l. x ∷ l) r.is; sub_first = skip r.sub_first; sub_second = r.sub_second }
parted [] g (keep {x = x} {ys = ys} s) e = record { first = []; second = x ∷ ys; is = refl; sub_first = done; sub_second = subst (λ l. Sub l (x ∷ ys)) e (keep s) }
parted (y ∷ f) g (keep {x = x} {xs = zs} s) e =
    let tail : zs ≡ f ++ g = (cc) in
    let head : x ≡ y = (cc) in
    let r = parted f g s tail in
    record {
      first = x ∷ r.first;
      second = r.second;
      is = ap (λ l. x ∷ l) r.is;
      sub_first = subst (λ k. Sub (k ∷ f) (x ∷ r.first)) head (keep r.sub_first);
      sub_second = r.sub_second;
    }

sub-apart : (a b : ℕ) (xs ys : List ℕ) → Sub xs ys → Apart a b xs → Apart a b ys
sub-apart a b xs ys s apart =
    let r : Parted apart.front apart.back ys = parted apart.front apart.back s apart.is in
    record {
      front = r.first;
      back = r.second;
      is = r.is;
      first = omega (arith, apart.first, sub-occurs a r.sub_first);
      second = omega (arith, apart.second, sub-occurs b r.sub_second);
    }

module _ (T : Table) (form : WellFormed T) (ord : Ordered T) (up : HasWaysUp T) (nest : Nested T) where
  -- the kids of a parent, split at one of them
  pub kids-split : (n p : ℕ) → is_attribute T n ≡ false → parent_of T n ≡ Some p → SplitAt n (kids_of T p)
  kids-split n p plain e =
      split_at n (kids_of T p)
      (⊎_elim (λ (h : In n (attrs_of T p)). absurd (true≢false (sym (attr-is_attribute T form ord up nest p n (In-mem n (attrs_of T p) h)) ∙ plain)))
      (λ (h : In n (kids_of T p)). h)
      (In-append n (attrs_of T p) (kids_of T p) (mem-In n (attrs_of T p ++ kids_of T p) (form.is_listed n p e))))

  once_front : (n p : ℕ) (s : SplitAt n (kids_of T p)) → occurs n s.front ≡ 0
  once_front n p s =
      omega (arith, subst (λ l. occurs n l ≤ 1) s.is (form.kids_once p n), occurs-append n s.front (n ∷ s.back), occurs-head n s.back)

  pub behind-split : (n p : ℕ) (s : SplitAt n (kids_of T p)) → kids_behind n (kids_of T p) ≡ s.back
  behind-split n p s =
      let there : mem n (kids_of T p) ≡ true = In-mem n (kids_of T p) (rw s.is (omega (arith, occurs-append n s.front (n ∷ s.back), occurs-head n s.back))) in
      rw there (ap (after n) s.is ∙ after-split n s.front s.back (once_front n p s))

  pub before_split : (n p : ℕ) (s : SplitAt n (kids_of T p)) → kids_before n (kids_of T p) ≡ s.front
  before_split n p s =
      let there : mem n (kids_of T p) ≡ true = In-mem n (kids_of T p) (rw s.is (omega (arith, occurs-append n s.front (n ∷ s.back), occurs-head n s.back))) in
      rw there (ap (before n) s.is ∙ before-split n s.front s.back (once_front n p s))

  module _ (n p : ℕ) (plain : is_attribute T n ≡ false) (e : parent_of T n ≡ Some p) where
    s : SplitAt n (kids_of T p)
    s = kids-split n p plain e

    kids : Sub (kids_of T p) (order T)
    kids = within T form ord up nest p (kids_of T p) (place T form ord up nest p (up.parent_live n p e)) (kids-below T form ord up nest p)

    beside_is : kids_beside T n ≡ kids_of T p
    beside_is = ap (λ b. cond b [] (kids_above T (parent_of T n))) plain ∙ ap (kids_above T) e

    behind_kids : Sub s.back (kids_of T p)
    behind_kids = subst (Sub s.back) (sym s.is) (sub-back s.front (skip (sub-all s.back)))

    before_kids : Sub s.front (kids_of T p)
    before_kids = subst (Sub s.front) (sym s.is) (sub-front (n ∷ s.back) (sub-all s.front))

    later : (m : ℕ) → In m s.back → Apart n m (order T)
    later m h = sub-apart n m (kids_of T p) (order T) kids (record {
      front = s.front ++ n ∷ [];
      back = s.back;
      is = s.is ∙ sym (append_assoc s.front (n ∷ []) s.back);
      first = omega (arith, occurs-append n s.front (n ∷ []), occurs-head n []);
      second = h;
    })

    earlier : (m : ℕ) → In m s.front → Apart m n (order T)
    earlier m h = sub-apart m n (kids_of T p) (order T) kids (record { front = s.front; back = n ∷ s.back; is = s.is; first = h; second = occurs-head n s.back })

    -- each kid stands before the node, is it, or stands after it
    sides : (m : ℕ) → mem m (kids_of T p) ≡ true → In m s.front ⊎ ((m ≡ n) ⊎ In m s.back)
    sides m h =
        ⊎_elim (λ (k : In m s.front). inl k) (λ (k : In m (n ∷ s.back)). inr (In-cons m n s.back k))
        (In-append m s.front (n ∷ s.back) (subst (In m) s.is (mem-In m (kids_of T p) h)))

    of_back : (m : ℕ) → In m s.back → mem m (kids_of T p) ≡ true
    of_back m h = In-mem m (kids_of T p) (rw s.is (omega (arith, h, occurs-append m s.front (n ∷ s.back))))

    of_front : (m : ℕ) → In m s.front → mem m (kids_of T p) ≡ true
    of_front m h = In-mem m (kids_of T p) (rw s.is (omega (arith, h, occurs-append m s.front (n ∷ s.back))))

    is_later : (m : ℕ) → (mem m (kids_of T p) && mem m (after n (order T))) ≡ mem m s.back
    is_later m = by (mem m s.back) refl (mem m (kids_of T p)) refl
      where
        by : (b : Bool) → mem m s.back ≡ b → (c : Bool) → mem m (kids_of T p) ≡ c → (c && mem m (after n (order T))) ≡ b
        by true hb false hc = absurd (true≢false (sym (of_back m (mem-In m s.back hb)) ∙ hc))
        by true hb true hc = (apart-after n m (order T) ord.once (later m (mem-In m s.back hb))).0
        by false hb false hc = refl
        by false hb true hc =
            ⊎_elim (λ (k : In m s.front). (apart-after m n (order T) ord.once (earlier m k)).1)
            (λ (k : (m ≡ n) ⊎ In m s.back). ⊎_elim
            (λ (q : m ≡ n). subst (λ i. mem i (after n (order T)) ≡ false) (sym q) (after-self n (order T) (ord.once n)))
            (λ (q : In m s.back). absurd (true≢false (sym (In-mem m s.back q) ∙ hb))) k)
            (sides m hc)

    is_earlier : (m : ℕ) → (mem m (kids_of T p) && mem n (after m (order T))) ≡ mem m s.front
    is_earlier m = by (mem m s.front) refl (mem m (kids_of T p)) refl
      where
        by : (b : Bool) → mem m s.front ≡ b → (c : Bool) → mem m (kids_of T p) ≡ c → (c && mem n (after m (order T))) ≡ b
        by true hb false hc = absurd (true≢false (sym (of_front m (mem-In m s.front hb)) ∙ hc))
        by true hb true hc = (apart-after m n (order T) ord.once (earlier m (mem-In m s.front hb))).0
        by false hb false hc = refl
        by false hb true hc =
            ⊎_elim (λ (k : In m s.front). absurd (true≢false (sym (In-mem m s.front k) ∙ hb)))
            (λ (k : (m ≡ n) ⊎ In m s.back). ⊎_elim
            (λ (q : m ≡ n). subst (λ i. mem n (after i (order T)) ≡ false) (sym q) (after-self n (order T) (ord.once n)))
            (λ (q : In m s.back). (apart-after n m (order T) ord.once (later m q)).1) k)
            (sides m hc)

    later_axis : kids_behind n (kids_beside T n) ≡ axis_order T FollowingSibling n
    later_axis =
        ap (kids_behind n) beside_is
        ∙ (behind-split n p s
        ∙ sym (filter-sub (on_axis T FollowingSibling n) (sub-trans behind_kids kids) ord.once (λ m h. ap (λ l. mem m l && mem m (after n (order T))) beside_is ∙ is_later m)))

    earlier_axis : kids_before n (kids_beside T n) ≡ axis_order T PrecedingSibling n
    earlier_axis =
        ap (kids_before n) beside_is
        ∙ (before_split n p s
        ∙ sym (filter-sub (on_axis T PrecedingSibling n) (sub-trans before_kids kids) ord.once (λ m h. ap (λ l. mem m l && mem n (after m (order T))) beside_is ∙ is_earlier m)))

  none_later : (n : ℕ) → kids_beside T n ≡ [] → kids_behind n (kids_beside T n) ≡ axis_order T FollowingSibling n
  none_later n e =
      ap (kids_behind n) e ∙ sym (filter-none (on_axis T FollowingSibling n) (order T) (λ m h. ap (λ l. mem m l && mem m (after n (order T))) e))

  none_earlier : (n : ℕ) → kids_beside T n ≡ [] → kids_before n (kids_beside T n) ≡ axis_order T PrecedingSibling n
  none_earlier n e =
      ap (kids_before n) e ∙ sym (filter-none (on_axis T PrecedingSibling n) (order T) (λ m h. ap (λ l. mem m l && mem n (after m (order T))) e))

  pub following_siblings : (n : ℕ) → kids_behind n (kids_beside T n) ≡ axis_nodes T FollowingSibling n
  following_siblings n = by (is_attribute T n) refl (parent_of T n) refl
    where
      by : (b : Bool) → is_attribute T n ≡ b → (o : Option ℕ) → parent_of T n ≡ o → kids_behind n (kids_beside T n) ≡ axis_order T FollowingSibling n
      by true e o f = none_later n (ap (λ b. cond b [] (kids_above T (parent_of T n))) e)
      by false e None f = none_later n (ap (λ b. cond b [] (kids_above T (parent_of T n))) e ∙ ap (kids_above T) f)
      by false e (Some p) f = later_axis n p e f

  pub preceding_siblings : (n : ℕ) → backwards (kids_before n (kids_beside T n)) ≡ axis_nodes T PrecedingSibling n
  preceding_siblings n = ap backwards (by (is_attribute T n) refl (parent_of T n) refl)
    where
      by : (b : Bool) → is_attribute T n ≡ b → (o : Option ℕ) → parent_of T n ≡ o → kids_before n (kids_beside T n) ≡ axis_order T PrecedingSibling n
      by true e o f = none_earlier n (ap (λ b. cond b [] (kids_above T (parent_of T n))) e)
      by false e None f = none_earlier n (ap (λ b. cond b [] (kids_above T (parent_of T n))) e ∙ ap (kids_above T) f)
      by false e (Some p) f = earlier_axis n p e f

-- What stands before a node begins the kids beside it

front_of : (n : ℕ) (ks : List ℕ) → (back : List ℕ) × (ks ≡ before n ks ++ back)
front_of n [] = ([], refl)
front_of n (m ∷ ms) = by (eqb n m) (front_of n ms)
  where
    by : (b : Bool) → (back : List ℕ) × (ms ≡ before n ms ++ back) → (back : List ℕ) × (m ∷ ms ≡ cond b [] (m ∷ before n ms) ++ back)
    by true r = (m ∷ ms, refl)
    by false r = (r.0, ap (λ l. m ∷ l) r.1)

before_is_front : (n : ℕ) (ks : List ℕ) → (back : List ℕ) × (ks ≡ kids_before n ks ++ back)
before_is_front n ks = by (mem n ks) (front_of n ks)
  where
    by : (b : Bool) → (back : List ℕ) × (ks ≡ before n ks ++ back) → (back : List ℕ) × (ks ≡ cond b (before n ks) [] ++ back)
    by true r = r
    by false r = (ks, refl)

pub first_kids : (T : Table) (n : ℕ) (nodes : List ℕ) → nodes ≡ kids_before n (kids_beside T n) → (p : ℕ) × ((back : List ℕ) × (kids_of T p ≡ nodes ++ back))
first_kids T n nodes are = by (is_attribute T n) (parent_of T n) are
  where
    none : nodes ≡ [] → (p : ℕ) × ((back : List ℕ) × (kids_of T p ≡ nodes ++ back))
    none e = (0, (kids_of T 0, sym (ap (λ l. l ++ kids_of T 0) e)))

    by : (b : Bool) (o : Option ℕ) → nodes ≡ kids_before n (cond b [] (kids_above T o)) → (p : ℕ) × ((back : List ℕ) × (kids_of T p ≡ nodes ++ back))
    by true o e = none e
    by false None e = none e
    by false (Some p) e = let r = before_is_front n (kids_of T p) in (p, (r.0, r.1 ∙ ap (λ l. l ++ r.0) (sym e)))
