-- What is left of a tree without a node, and all below it, is a tree.
use Rattle.std.proofs.Common.{◌≡◌, ◌≢◌, ℕ, ◌≤◌, zero, suc, Bool, true, false, List, [], ◌∷◌, ◌++◌, length, Option, None, Some, is_some, refl, sym, ap, ap₂, ◌∙◌, subst, ⊎_elim, true≢false, arith}
use Rattle.doc_table.specs.Lists.{mem, occurs, Distinct}
use Rattle.doc_table.specs.Table.{Table, Facts, entry_at, kids_at, attrs_at, content_at, kind_at, name_at, value_at, expanded_in, parent_of, kids_of, attrs_of, content_of, kind_of, is_live}
use Rattle.doc_table.specs.Walks.{climb, ancestors, below}
use Rattle.doc_table.specs.Kinds.{can_be_kid, holds_kids}
use Rattle.doc_table.specs.Laws.{TextsApart, WellFormed, HasWaysUp}
use Rattle.doc_table.specs.inner.Forest.{flat}
use Rattle.doc_table.specs.inner.Sound.{Fits, Formed, text_in}
use Rattle.doc_table.proofs.ListLemmas.{In-mem, mem-In, occurs-append, occurs-head, occurs-same, eq_or}
use Rattle.doc_table.proofs.Ways.{In-live, parent-live}
use Rattle.doc_table.proofs.Fitting.{texts-kept}
use Rattle.doc_table.proofs.TreeLaws.{well-formed, ways-up}
use Rattle.doc_edits.specs.Fitting.{MayGo}
use Rattle.doc_edits.specs.Changes.{removed, removed_from, without}
use Rattle.doc_edits.proofs.ClearLemmas.{cut, cut-length, cut-sum, entry-gone, links-other, kids-parent, attributes-parent, parent-kept, content-kept, without-none, without-split, without-was}
use Rattle.doc_edits.proofs.PruneLemmas.{Cut, Split, split_at, cut_at, none-in}

-- texts stay apart without a number of the list
pub texts-without : (T : Table) (n : ℕ) (xs : List ℕ) → Distinct xs → TextsApart T xs
    → ((before behind : List ℕ) → xs ≡ before ++ (n ∷ behind) → TextsApart T (before ++ behind)) → TextsApart T (without n xs)
texts-without T n xs once apart less = by (occurs n xs) refl
  where
    by : (k : ℕ) → occurs n xs ≡ k → TextsApart T (without n xs)
    by zero e = rw (without-none n xs e) apart
    by (suc k) e =
        let s : Split n xs = split_at n xs (omega (arith, e)) in
        let one : occurs n (s.front ++ n ∷ s.back) ≤ 1 = subst (λ l. occurs n l ≤ 1) s.is (once n) in
        let is : without n xs ≡ s.front ++ s.back =
        ap (without n) s.is
        ∙ without-split n s.front s.back
        (omega (arith, one, occurs-append n s.front (n ∷ s.back), occurs-same n s.back))
        (omega (arith, one, occurs-append n s.front (n ∷ s.back), occurs-same n s.back)) in
        subst (TextsApart T) (sym is) (less s.front s.back s.is)

-- where no node lives, all fits
fits-none : (U : Table) (m : ℕ) → entry_at U m ≡ None → Fits U m
fits-none U m e =
    let no_kid : (k : ℕ) → mem k (kids_of U m) ≡ true → ⊥ = λ k h. true≢false (sym h ∙ ap (λ o. mem k (kids_at o)) e) in
    let no_attribute : (a : ℕ) → mem a (attrs_of U m) ≡ true → ⊥ = λ a h. true≢false (sym h ∙ ap (λ o. mem a (attrs_at o)) e) in
    let no_kind : kind_of U m ≡ None = ap (λ o. kind_at (content_at o)) e in
    let no_kids : kids_of U m ≡ [] = ap kids_at e in
    record {
      one_root = λ h. absurd (cc (h, no_kind));
      kid_kind = λ k h. absurd (no_kid k h);
      attribute_kind = λ a h. absurd (no_attribute a h);
      holder_kind = λ k h. absurd (no_kid k h);
      owner_kind = λ a h. absurd (no_attribute a h);
      names_differ = λ a b ha hb same. absurd (no_attribute a ha);
      some_text = λ h. absurd (cc (h, no_kind));
      texts_apart = subst (TextsApart U) (sym no_kids) tt;
      not_deep = λ h. absurd (cc (h, no_kind));
    }

dead-entry : (T : Table) (m : ℕ) → is_live T m ≡ false → entry_at T m ≡ None
dead-entry T m h = by (entry_at T m) h
  where
    by : (o : Option Facts) → is_some o ≡ false → o ≡ None
    by None e = refl
    by (Some node) e = absurd (true≢false e)

module _ (T : Table) (n p : ℕ) (formed : Formed T) (up : parent_of T n ≡ Some p) where
  abbrev pub remaining : Table
  remaining = cut T n p (below T n)

  pub cutting : Cut T n p
  cutting = cut_at T n p formed up

  form : WellFormed T
  form = well-formed T formed

  ways : HasWaysUp T
  ways = ways-up T formed

  pub live-owner : is_live T p ≡ true
  live-owner = ways.parent_live n p up

  -- what lives did not go
  pub out : (m : ℕ) → is_live remaining m ≡ true → occurs m (below T n) ≡ 0
  out m live = none-in (occurs m (below T n)) (λ h. true≢false (sym live ∙ ap is_some (entry-gone T n p (below T n) m h)))

  -- what hangs from it, but the node, did not go
  out-below : (m k : ℕ) → is_live remaining m ≡ true → k ≢ n → parent_of T k ≡ Some m → occurs k (below T n) ≡ 0
  out-below m k live ne hangs =
      none-in (occurs k (below T n)) (λ h. absurd (omega (arith, out m live, cutting.within k m h ne hangs)))

  -- nor did a sibling
  pub out-beside : (k : ℕ) → k ≢ n → parent_of T k ≡ Some p → occurs k (below T n) ≡ 0
  out-beside k ne hangs = none-in (occurs k (below T n)) (λ h. absurd (omega (arith, cutting.apart, cutting.within k p h ne hangs)))

  -- lists are as before but for the node
  pub kids-owner : kids_of remaining p ≡ without n (kids_of T p)
  kids-owner = kids-parent T n p (below T n) live-owner cutting.apart

  kids-same : (m : ℕ) → m ≢ p → without n (kids_of T m) ≡ kids_of T m
  kids-same m np =
      without-none n (kids_of T m) (none-in (occurs n (kids_of T m))
      (λ k. np (let hangs : parent_of T n ≡ Some m = form.kid_parent m n (In-mem n (kids_of T m) k) in cc)))

  attributes-same : (m : ℕ) → m ≢ p → without n (attrs_of T m) ≡ attrs_of T m
  attributes-same m np =
      without-none n (attrs_of T m) (none-in (occurs n (attrs_of T m))
      (λ k. np (let hangs : parent_of T n ≡ Some m = form.attribute_parent m n (In-mem n (attrs_of T m) k) in cc)))

  pub kids-left : (m : ℕ) → occurs m (below T n) ≡ 0 → kids_of remaining m ≡ without n (kids_of T m)
  kids-left m h =
      ⊎_elim (λ (e : m ≡ p). rw e kids-owner)
      (λ (np : m ≢ p). (links-other T n p (below T n) m h np).kids ∙ sym (kids-same m np))
      (eq_or m p)

  pub attributes-left : (m : ℕ) → occurs m (below T n) ≡ 0 → attrs_of remaining m ≡ without n (attrs_of T m)
  attributes-left m h =
      ⊎_elim (λ (e : m ≡ p). rw e (attributes-parent T n p (below T n) live-owner cutting.apart))
      (λ (np : m ≢ p). (links-other T n p (below T n) m h np).attributes ∙ sym (attributes-same m np))
      (eq_or m p)

  kid-was : (m k : ℕ) → is_live remaining m ≡ true → mem k (kids_of remaining m) ≡ true → (k ≢ n) × (mem k (kids_of T m) ≡ true)
  kid-was m k live h =
      let was = without-was k n (kids_of T m) (mem-In k (without n (kids_of T m)) (ap (mem k) (sym (kids-left m (out m live))) ∙ h)) in
      (was.0, In-mem k (kids_of T m) was.1)

  attribute-was : (m a : ℕ) → is_live remaining m ≡ true → mem a (attrs_of remaining m) ≡ true → (a ≢ n) × (mem a (attrs_of T m) ≡ true)
  attribute-was m a live h =
      let was = without-was a n (attrs_of T m) (mem-In a (without n (attrs_of T m)) (ap (mem a) (sym (attributes-left m (out m live))) ∙ h)) in
      (was.0, In-mem a (attrs_of T m) was.1)

  pub same-content : (m : ℕ) → occurs m (below T n) ≡ 0 → content_of remaining m ≡ content_of T m
  same-content m h = content-kept T n p (below T n) live-owner m h

  pub same-parent : (m : ℕ) → occurs m (below T n) ≡ 0 → parent_of remaining m ≡ parent_of T m
  same-parent m h = parent-kept T n p (below T n) live-owner m h

  same-kid : (m k : ℕ) → is_live remaining m ≡ true → mem k (kids_of remaining m) ≡ true → content_of remaining k ≡ content_of T k
  same-kid m k live h =
      let was = kid-was m k live h in same-content k (out-below m k live was.0 (form.kid_parent m k was.1))

  same-attribute : (m a : ℕ) → is_live remaining m ≡ true → mem a (attrs_of remaining m) ≡ true → content_of remaining a ≡ content_of T a
  same-attribute m a live h =
      let was = attribute-was m a live h in same-content a (out-below m a live was.0 (form.attribute_parent m a was.1))

  -- the ways up
  climb-left : (steps : ℕ) (o : Option ℕ) → ((q : ℕ) → o ≡ Some q → is_live remaining q ≡ true) → climb remaining steps o ≡ climb T steps o
  climb-left zero o first = refl
  climb-left (suc steps) None first = refl
  climb-left (suc steps) (Some q) first =
      let same : parent_of remaining q ≡ parent_of T q = same-parent q (out q (first q refl)) in
      ap (λ l. q ∷ l) (ap (climb remaining steps) same
      ∙ climb-left steps (parent_of T q) (λ r e. parent-live remaining cutting.forest cutting.whole q r (same ∙ e)))

  pub way-left : (m : ℕ) → is_live remaining m ≡ true → ancestors remaining m ≡ ancestors T m
  way-left m live =
      let same : parent_of remaining m ≡ parent_of T m = same-parent m (out m live) in
      ap₂ (climb remaining) (cut-length T n p (below T n)) same
      ∙ climb-left (length T) (parent_of T m) (λ r e. parent-live remaining cutting.forest cutting.whole m r (same ∙ e))

  texts-left : TextsApart T (without n (kids_of T p)) → (m : ℕ) → is_live remaining m ≡ true → TextsApart remaining (kids_of remaining m)
  texts-left apart m live =
      texts-kept T remaining (kids_of remaining m) (λ k h. ap kind_at (same-kid m k live h))
      (subst (TextsApart T) (sym (kids-left m (out m live)))
      (⊎_elim (λ (e : m ≡ p). subst (λ q. TextsApart T (without n (kids_of T q))) (sym e) apart)
      (λ (np : m ≢ p). subst (TextsApart T) (sym (kids-same m np)) (formed.fits m).texts_apart)
      (eq_or m p)))

  fits-live : TextsApart T (without n (kids_of T p)) → (m : ℕ) → is_live remaining m ≡ true → Fits remaining m
  fits-live apart m live =
      let here : content_of remaining m ≡ content_of T m = same-content m (out m live) in
      let fits : Fits T m = formed.fits m in
      record {
        one_root = λ h. fits.one_root (ap kind_at (sym here) ∙ h);
        kid_kind = λ k h. ap (λ o. can_be_kid (kind_at o)) (same-kid m k live h) ∙ fits.kid_kind k (kid-was m k live h).1;
        attribute_kind = λ a h. ap kind_at (same-attribute m a live h) ∙ fits.attribute_kind a (attribute-was m a live h).1;
        holder_kind = λ k h. ap (λ o. holds_kids (kind_at o)) here ∙ fits.holder_kind k (kid-was m k live h).1;
        owner_kind = λ a h. ap kind_at here ∙ fits.owner_kind a (attribute-was m a live h).1;
        names_differ = λ a b ha hb e. fits.names_differ a b (attribute-was m a live ha).1 (attribute-was m b live hb).1
            (ap (λ o. expanded_in (name_at o)) (sym (same-attribute m a live ha)) ∙ (e ∙ ap (λ o. expanded_in (name_at o)) (same-attribute m b live hb)));
        some_text = λ h empty. fits.some_text (ap kind_at (sym here) ∙ h) (ap value_at (sym here) ∙ empty);
        texts_apart = texts-left apart m live;
        not_deep = λ h. rw (way-left m live) (fits.not_deep (ap kind_at (sym here) ∙ h));
      }

  fits-left : TextsApart T (without n (kids_of T p)) → (m : ℕ) → Fits remaining m
  fits-left apart m = by (is_live remaining m) refl
    where
      by : (b : Bool) → is_live remaining m ≡ b → Fits remaining m
      by true live = fits-live apart m live
      by false dead = fits-none remaining m (dead-entry remaining m dead)

  -- it is a tree, where no two texts meet
  pub formed-left : TextsApart T (without n (kids_of T p)) → Formed remaining
  formed-left apart = record {
    forest = cutting.forest;
    whole = cutting.whole;
    root_kind = ap kind_at (same-content 0 (out 0 (In-live remaining cutting.forest cutting.whole 0 (occurs-head 0 (flat cutting.forest))))) ∙ formed.root_kind;
    fits = fits-left apart;
    few_nodes = omega (arith, cut-sum T n p (below T n) (λ _. 1) (λ node. refl), formed.few_nodes);
    few_numbers = omega (arith, cut-length T n p (below T n), formed.few_numbers);
    little_text = omega (arith, cut-sum T n p (below T n) text_in (λ node. refl), formed.little_text);
  }

pub removals-keep-trees : (T : Table) (n : ℕ) → Formed T → MayGo T n → Formed (removed T n)
removals-keep-trees T n formed go =
    let up = (ways-up T formed).has_parent n go.lives go.below_root in
    let form : WellFormed T = well-formed T formed in
    subst (λ o. Formed (removed_from T n o)) (sym up.1)
    (formed-left T n up.0 formed up.1
    (texts-without T n (kids_of T up.0) (form.kids_once up.0) (form.texts_apart up.0) (λ before behind e. go.apart before behind up.0 e)))
