-- Tests of nodes that come out alike in two trees: what a node passes that lives in both, and only such a node passes.
use Rattle.std.proofs.Common.{◌≡◌, ℕ, Bool, true, false, cond, ◌&&◌, ◌||◌, eqb, List, [], ◌∷◌, refl, sym, ap, ap₂, ◌∙◌, subst, true≢false, arith, eqb-true}
use Rattle.std.specs.Prelude.{filter}
use Rattle.doc_tree.specs.cell.Cell.{Cell}
use Rattle.doc_tree.specs.Lists.{mem}
use Rattle.doc_tree.specs.Order.{after}
use Rattle.doc_tree.specs.Table.{Table, is_live}
use Rattle.doc_tree.specs.Walks.{order}
use Rattle.doc_tree.proofs.ListLemmas.{In, In-mem, mem-In, mem-head, mem-tail}
use Rattle.doc_axes.specs.Axes.{is_after}
use Rattle.doc_axes.proofs.SubLists.{filter-same, sub-occurs}
use Rattle.doc_axes.proofs.Merging.{kept, sub-filter}
use Rattle.doc_edit_laws.specs.Agreement.{AllStay, IsTree, Stays, lives_in_both}
use Rattle.doc_edit_laws.proofs.Composing.{both, of-both}
use Rattle.doc_edit_laws.proofs.OrderLemmas.{orders-alike}
use Rattle.xp_locality_laws.specs.Locality.{Changed}

-- what stands after a number among those that pass a test, where the number passes
after-filter : (p : ℕ → Bool) (n : ℕ) → p n ≡ true → (ns : List ℕ) → after n (filter p ns) ≡ filter p (after n ns)
after-filter p n h [] = refl
after-filter p n h (m ∷ ns) = by (eqb n m) (p m) refl refl (after-filter p n h ns)
  where
    by : (b c : Bool) → eqb n m ≡ b → p m ≡ c → after n (filter p ns) ≡ filter p (after n ns) → after n (cond c (m ∷ filter p ns) (filter p ns)) ≡ filter p (cond b ns (after n ns))
    by true true e g more = rw e refl
    by true false e g more = absurd (true≢false (sym (subst (λ k. p k ≡ true) (eqb-true n m e) h) ∙ g))
    by false true e g more = rw e more
    by false false e g more = more

pub mem-filter : (p : ℕ → Bool) (m : ℕ) → p m ≡ true → (ns : List ℕ) → mem m (filter p ns) ≡ mem m ns
mem-filter p m h [] = refl
mem-filter p m h (n ∷ ns) = by (p n) (eqb m n) refl refl (mem-filter p m h ns)
  where
    by : (c b : Bool) → p n ≡ c → eqb m n ≡ b → mem m (filter p ns) ≡ mem m ns → mem m (cond c (n ∷ filter p ns) (filter p ns)) ≡ (b || mem m ns)
    by true b g e more = ap₂ (λ x y. x || y) e more
    by false true g e more = absurd (true≢false (sym (subst (λ k. p k ≡ true) (eqb-true m n e) h) ∙ g))
    by false false g e more = more

-- what holds of one of two tests
pub either : {A : Type 0} (b c : Bool) → (b || c) ≡ true → (b ≡ true → A) → (c ≡ true → A) → A
either true c h k g = k refl
either false c h k g = g h

-- tests that come out alike at nodes of both trees, and fail at others
pub record Alike (T U : Table) (p q : ℕ → Bool) : Type 0 where
  pub stays : (m : ℕ) → is_live T m ≡ true → p m ≡ true → Stays T U m
  pub stays_after : (m : ℕ) → is_live U m ≡ true → q m ≡ true → Stays T U m
  pub agree : (m : ℕ) → Stays T U m → p m ≡ q m

module _ (T U : Table) where
  pub stay-each : (ns : List ℕ) → ((m : ℕ) → mem m ns ≡ true → Stays T U m) → AllStay T U ns
  stay-each [] h = tt
  stay-each (n ∷ ns) h = (h n (mem-head n ns), stay-each ns (λ m k. h m (mem-tail m n ns k)))

  pub stay-mem : (ns : List ℕ) → AllStay T U ns → (m : ℕ) → mem m ns ≡ true → Stays T U m
  stay-mem [] h m k = absurd (true≢false (sym k))
  stay-mem (n ∷ ns) h m k = either (eqb m n) (mem m ns) k (λ e. subst (Stays T U) (sym (eqb-true m n e)) h.0) (λ e. stay-mem ns h.1 m e)

  pub stay-filter : (p : ℕ → Bool) (ns : List ℕ) → AllStay T U ns → AllStay T U (filter p ns)
  stay-filter p [] h = tt
  stay-filter p (n ∷ ns) h = by (p n) (stay-filter p ns h.1)
    where
      by : (b : Bool) → AllStay T U (filter p ns) → AllStay T U (cond b (n ∷ filter p ns) (filter p ns))
      by true more = (h.0, more)
      by false more = more

  -- tests that come out alike at each of some nodes
  pub filter-alike : (p q : ℕ → Bool) (ns : List ℕ) → ((n : ℕ) → mem n ns ≡ true → Stays T U n → p n ≡ q n) → AllStay T U ns →
      filter p ns ≡ filter q ns
  filter-alike p q [] agree h = refl
  filter-alike p q (n ∷ ns) agree h =
      let here = agree n (mem-head n ns) h.0 in
      let more = filter-alike p q ns (λ m is. agree m (mem-tail m n ns is)) h.1 in
      λ i. cond (here i) (n ∷ more i) (more i)

  pub alike-mem : (xs ys : List ℕ) → xs ≡ ys → AllStay T U xs → Alike T U (λ m. mem m xs) (λ m. mem m ys)
  alike-mem xs ys e h = subst (λ l. Alike T U (λ m. mem m xs) (λ m. mem m l)) e
      (record { stays = λ m _ k. stay-mem xs h m k; stays_after = λ m _ k. stay-mem xs h m k; agree = λ m _. refl })

  pub alike-self : (n : ℕ) → Stays T U n → Alike T U (λ m. eqb m n) (λ m. eqb m n)
  alike-self n h = record {
    stays = λ m _ e. subst (Stays T U) (sym (eqb-true m n e)) h;
    stays_after = λ m _ e. subst (Stays T U) (sym (eqb-true m n e)) h;
    agree = λ m _. refl;
  }

  pub alike-none : Alike T U (λ _. false) (λ _. false)
  alike-none = record { stays = λ m _ e. absurd (true≢false (sym e)); stays_after = λ m _ e. absurd (true≢false (sym e)); agree = λ m _. refl }

  pub alike-or : (p q r s : ℕ → Bool) → Alike T U p q → Alike T U r s → Alike T U (λ m. p m || r m) (λ m. q m || s m)
  alike-or p q r s h k = record {
    stays = λ m live e. either (p m) (r m) e (h.stays m live) (k.stays m live);
    stays_after = λ m live e. either (q m) (s m) e (h.stays_after m live) (k.stays_after m live);
    agree = λ m stays. ap₂ (λ x y. x || y) (h.agree m stays) (k.agree m stays);
  }

  -- one test more, which may pass anything but comes out alike
  pub alike-and : (p q r s : ℕ → Bool) → Alike T U p q → ((m : ℕ) → Stays T U m → r m ≡ s m) → Alike T U (λ m. p m && r m) (λ m. q m && s m)
  alike-and p q r s h agree = record {
    stays = λ m live e. h.stays m live (both (p m) (r m) e).0;
    stays_after = λ m live e. h.stays_after m live (both (q m) (s m) e).0;
    agree = λ m stays. ap₂ (λ x y. x && y) (h.agree m stays) (agree m stays);
  }

-- the numbers in document order are those of live nodes
pub live-listed : (T : Table) → IsTree T → (m : ℕ) → In m (order T) → is_live T m ≡ true
live-listed T tree m h = tree.ordered.live_in_order m ∙ In-mem m (order T) h

pub listed-live : (T : Table) → IsTree T → (m : ℕ) → is_live T m ≡ true → In m (order T)
listed-live T tree m h = mem-In m (order T) (sym (tree.ordered.live_in_order m) ∙ h)

-- among the nodes of a tree a test passes those that live and pass
live-test : (T : Table) → IsTree T → (p : ℕ → Bool) → filter p (order T) ≡ filter (λ m. is_live T m && p m) (order T)
live-test T tree p = filter-same p (λ m. is_live T m && p m) (order T) (λ m h. rw (live-listed T tree m h) refl)

module _ (T U : Table) (touched : Cell → Bool) (changed : Changed T U touched) where
  -- tests that come out alike filter the two orders alike
  pub orders-filtered : (p q : ℕ → Bool) → Alike T U p q → filter p (order T) ≡ filter q (order U)
  orders-filtered p q h =
      live-test T changed.before p
      ∙ (orders-alike T U changed.agree.in_order (λ m. is_live T m && p m) (λ m. is_live U m && q m)
      (λ m e. let k = both (is_live T m) (p m) e in h.stays m k.0 k.1)
      (λ m e. let k = both (is_live U m) (q m) e in h.stays_after m k.0 k.1)
      (λ m e. let k = both (is_live T m) (is_live U m) e in rw (k.0, k.1) (h.agree m e))
      ∙ sym (live-test U changed.after q))

  pub order-stays : (p q : ℕ → Bool) → Alike T U p q → AllStay T U (filter p (order T))
  order-stays p q h = stay-each T U (filter p (order T)) (λ m k.
      let listed : In m (order T) = omega (arith, sub-occurs m (sub-filter p (order T)), mem-In m (filter p (order T)) k) in
      h.stays m (live-listed T changed.before m listed) (sym (kept p m (order T) listed) ∙ k))

  -- tests that filter the two orders alike come out alike
  pub tests-filtered : (p q : ℕ → Bool) → filter p (order T) ≡ filter q (order U) → Alike T U p q
  tests-filtered p q e = record {
    stays = λ m live k. let here : mem m (filter q (order U)) ≡ true = ap (mem m) (sym e) ∙ (kept p m (order T) (listed-live T changed.before m live) ∙ k) in
        of-both (is_live T m) (is_live U m) live
        (live-listed U changed.after m (omega (arith, sub-occurs m (sub-filter q (order U)), mem-In m (filter q (order U)) here)));
    stays_after = λ m live k. let here : mem m (filter p (order T)) ≡ true = ap (mem m) e ∙ (kept q m (order U) (listed-live U changed.after m live) ∙ k) in
        of-both (is_live T m) (is_live U m)
        (live-listed T changed.before m (omega (arith, sub-occurs m (sub-filter p (order T)), mem-In m (filter p (order T)) here))) live;
    agree = λ m stays. let live = both (is_live T m) (is_live U m) stays in
        sym (kept p m (order T) (listed-live T changed.before m live.0)) ∙ (ap (mem m) e ∙ kept q m (order U) (listed-live U changed.after m live.1));
  }

  -- of two nodes of both trees the same one comes after the other
  pub same-after : (n m : ℕ) → Stays T U n → Stays T U m → is_after T n m ≡ is_after U n m
  same-after n m hn hm =
      let both_live : ℕ → Bool = lives_in_both T U in
      sym (mem-filter both_live m hm (after n (order T)))
      ∙ (ap (mem m) (sym (after-filter both_live n hn (order T)) ∙ (ap (after n) changed.agree.in_order ∙ after-filter both_live n hn (order U)))
      ∙ mem-filter both_live m hm (after n (order U)))
