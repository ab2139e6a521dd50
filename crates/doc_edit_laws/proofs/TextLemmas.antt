-- The text of a node, told along all below it or along its descendants alone; ways up, descendants and texts that two trees have in common.
use Rattle.std.proofs.Common.{◌≡◌, ◌≢◌, ℕ, ◌≤◌, suc, zero, Bool, true, false, cond, not, ◌&&◌, ◌||◌, List, [], ◌∷◌, ◌++◌, ◌⊎◌, length, Option, None, Some, refl, sym, ap, ap₂, ◌∙◌, subst, inl, inr, ⊎_elim, true≢false, arith, ne_eqb, append-nil}
use Rattle.std.specs.Prelude.{filter}
use Rattle.std.specs.List.{flat_map}
use Rattle.std.proofs.lemmas.Grind.{flat_map-append}
use Rattle.doc_table.specs.inner.Sound.{Formed}
use Rattle.doc_table.proofs.Appending.{holder-live}
use Rattle.doc_table.proofs.TreeLaws.{well-formed, ordered, ways-up}
use Rattle.doc_table.proofs.Ways.{parent-has}
use Rattle.doc_tree.specs.kind.Kind.{Kind}
use Rattle.doc_tree.specs.Kinds.{holds_kids}
use Rattle.doc_tree.specs.Laws.{Ordered}
use Rattle.doc_tree.specs.Lists.{mem}
use Rattle.doc_tree.specs.Table.{Table, Content, root, element, attribute, text, comment, instruction, kind_at, attrs_of, content_of, is_live, kids_of, kind_of, parent_of}
use Rattle.doc_tree.specs.Walks.{above, ancestors, below, characters_in, joined_text, order, walk}
use Rattle.doc_tree.proofs.ListLemmas.{In, In-cons, In-mem, eq_or, flat_map-same, singles}
use Rattle.doc_tree.proofs.OrderLemmas.{nested}
use Rattle.doc_axes.specs.Axes.{is_attribute, is_attribute_kind, is_descendant}
use Rattle.doc_axes.proofs.SubLists.{Sub, sub-all, sub-back, sub-front, filter-sub}
use Rattle.doc_edit_laws.specs.Agreement.{Stays, descendants, lives_in_both}
use Rattle.doc_edit_laws.proofs.Composing.{of-both}
use Rattle.doc_edit_laws.proofs.OrderLemmas.{orders-alike}

-- the characters of a node
abbrev pub says : Table → ℕ → List ℕ
says T m = characters_in (content_of T m)

-- what numbers give, by what these give in their turn
given-through : (f g h : ℕ → List ℕ) → ((k : ℕ) → h k ≡ flat_map f (g k)) → (ks : List ℕ) → flat_map h ks ≡ flat_map f (flat_map g ks)
given-through f g h through [] = refl
given-through f g h through (k ∷ ks) =
    ap₂ (λ l r. l ++ r) (through k) (given-through f g h through ks) ∙ sym (flat_map-append f (g k) (flat_map g ks))

-- a walk tells what its numbers tell
walk-told : (tells : ℕ → List ℕ) (T : Table) (levels n : ℕ) → walk T tells (λ _. []) levels n ≡ flat_map tells (walk T (λ m. m ∷ []) (λ _. []) levels n)
walk-told tells T zero n = refl
walk-told tells T (suc levels) n =
    let kids : flat_map (λ kid. walk T tells (λ _. []) levels kid) (kids_of T n) ≡ flat_map tells (flat_map (λ kid. walk T (λ m. m ∷ []) (λ _. []) levels kid) (kids_of T n)) =
    given-through tells (λ kid. walk T (λ m. m ∷ []) (λ _. []) levels kid) (λ kid. walk T tells (λ _. []) levels kid) (λ kid. walk-told tells T levels kid) (kids_of T n) in
    rw (singles (attrs_of T n), append-nil (flat_map (λ kid. walk T tells (λ _. []) levels kid) (kids_of T n)), append-nil (flat_map (λ kid. walk T (λ m. m ∷ []) (λ _. []) levels kid) (kids_of T n)), kids)
    (sym (flat_map-append tells (n ∷ attrs_of T n) (flat_map (λ kid. walk T (λ m. m ∷ []) (λ _. []) levels kid) (kids_of T n))))

-- the text of a node is what is said along all below it
pub text-below : (T : Table) (n : ℕ) → joined_text T n ≡ flat_map (says T) (below T n)
text-below T n = walk-told (says T) T (length T) n

-- below a live node stand just the node itself and the nodes whose ancestor it is, in document order
pub below-filtered : (T : Table) → Formed T → (n : ℕ) → is_live T n ≡ true → below T n ≡ filter (λ m. mem n (above T m)) (order T)
below-filtered T f n live =
    let ord : Ordered T = ordered T f in
    let split = ord.below_in_order n live in
    let part : Sub (below T n) (order T) = subst (Sub (below T n)) (sym split.2) (sub-back split.0 (sub-front split.1 (sub-all (below T n)))) in
    sym (filter-sub (λ m. mem n (above T m)) part ord.once
    (λ m among. sym (nested T (well-formed T f) ord (ways-up T f) n m (ord.live_in_order m ∙ In-mem m (order T) among))))

-- two tests that differ only where nothing is said tell the same
told-alike : (f : ℕ → List ℕ) (p q : ℕ → Bool) → ((m : ℕ) → (p m ≡ q m) ⊎ (f m ≡ [])) → (ms : List ℕ) → flat_map f (filter p ms) ≡ flat_map f (filter q ms)
told-alike f p q differ [] = refl
told-alike f p q differ (m ∷ ms) = by (p m) (q m) (differ m) (told-alike f p q differ ms)
  where
    by : (b c : Bool) → (b ≡ c) ⊎ (f m ≡ []) → flat_map f (filter p ms) ≡ flat_map f (filter q ms) →
        flat_map f (cond b (m ∷ filter p ms) (filter p ms)) ≡ flat_map f (cond c (m ∷ filter q ms) (filter q ms))
    by true true h more = ap (λ l. f m ++ l) more
    by false false h more = more
    by true false h more = ⊎_elim (λ (e : true ≡ false). absurd (true≢false e)) (λ (e : f m ≡ []). ap (λ l. l ++ flat_map f (filter p ms)) e ∙ more) h
    by false true h more = ⊎_elim (λ (e : false ≡ true). absurd (true≢false (sym e))) (λ (e : f m ≡ []). more ∙ sym (ap (λ l. l ++ flat_map f (filter q ms)) e)) h

-- an attribute has no characters, and what holds kids has none
attribute-silent : (o : Option Content) → is_attribute_kind (kind_at o) ≡ true → characters_in o ≡ []
attribute-silent None h = refl
attribute-silent (Some root) h = refl
attribute-silent (Some (element _ _)) h = refl
attribute-silent (Some (attribute _ _)) h = refl
attribute-silent (Some (text _)) h = absurd (true≢false (sym h))
attribute-silent (Some (comment _)) h = refl
attribute-silent (Some (instruction _ _)) h = refl

holder-silent : (o : Option Content) → holds_kids (kind_at o) ≡ true → characters_in o ≡ []
holder-silent None h = refl
holder-silent (Some root) h = refl
holder-silent (Some (element _ _)) h = refl
holder-silent (Some (attribute _ _)) h = refl
holder-silent (Some (text _)) h = absurd (true≢false (sym h))
holder-silent (Some (comment _)) h = refl
holder-silent (Some (instruction _ _)) h = refl

-- the text of what holds kids is what its descendants say
pub text-descendants : (T : Table) → Formed T → (n : ℕ) → holds_kids (kind_of T n) ≡ true → joined_text T n ≡ flat_map (says T) (descendants T n)
text-descendants T f n holds =
    text-below T n
    ∙ (ap (flat_map (says T)) (below-filtered T f n (holder-live T n holds))
    ∙ told-alike (says T) (λ m. mem n (above T m)) (is_descendant T n) differ (order T))
  where
    by : (m : ℕ) (b : Bool) → is_attribute T m ≡ b → (mem n (ancestors T m) ≡ is_descendant T n m) ⊎ (says T m ≡ [])
    by m true e = inr (attribute-silent (content_of T m) e)
    by m false e = inl (rw e (and-yes (mem n (ancestors T m))))
      where
        and-yes : (b : Bool) → b ≡ (b && true)
        and-yes true = refl
        and-yes false = refl

    differ : (m : ℕ) → (mem n (above T m) ≡ is_descendant T n m) ⊎ (says T m ≡ [])
    differ m =
        ⊎_elim (λ (e : n ≡ m). inr (ap (says T) (sym e) ∙ holder-silent (content_of T n) holds))
        (λ (ne : n ≢ m). subst (λ b. (b || mem n (ancestors T m)) ≡ is_descendant T n m ⊎ (says T m ≡ [])) (sym (ne_eqb n m ne)) (by m (is_attribute T m) refl))
        (eq_or n m)

-- what a filter lets through passes
passed : (p : ℕ → Bool) (m : ℕ) (ms : List ℕ) → In m (filter p ms) → p m ≡ true
passed p m [] h = absurd (omega arith)
passed p m (n ∷ ms) h = by (p n) refl h (passed p m ms)
  where
    by : (b : Bool) → p n ≡ b → In m (cond b (n ∷ filter p ms) (filter p ms)) → (In m (filter p ms) → p m ≡ true) → p m ≡ true
    by true e g more = ⊎_elim (λ (same : m ≡ n). ap p same ∙ e) more (In-cons m n (filter p ms) g)
    by false e g more = more g

-- a descendant lives
pub descendant-live : (T : Table) → Formed T → (n m : ℕ) → is_descendant T n m ≡ true → is_live T m ≡ true
descendant-live T f n m h = by (parent_of T m) refl
  where
    by : (o : Option ℕ) → parent_of T m ≡ o → is_live T m ≡ true
    by None e = absurd (true≢false (sym h ∙ ap (λ (l : List ℕ). mem n l && not (is_attribute T m)) ((ways-up T f).no_ancestors m e)))
    by (Some p) e = parent-has T m p e

module _ (T U : Table) (t : Formed T) (u : Formed U) (parent : (n : ℕ) → Stays T U n → parent_of T n ≡ parent_of U n) where
  step : (n : ℕ) → Stays T U n → (o : Option ℕ) → parent_of T n ≡ o
      → ((p : ℕ) → suc (length (ancestors T p)) ≡ length (ancestors T n) → Stays T U p → ancestors T p ≡ ancestors U p) → ancestors T n ≡ ancestors U n
  step n stays None e more = (ways-up T t).no_ancestors n e ∙ sym ((ways-up U u).no_ancestors n (sym (parent n stays) ∙ e))
  step n stays (Some p) e more =
      let there : parent_of U n ≡ Some p = sym (parent n stays) ∙ e in
      let way : ancestors T n ≡ p ∷ ancestors T p = (ways-up T t).ancestors_at n p e in
      let lives : Stays T U p = of-both (is_live T p) (is_live U p) ((ways-up T t).parent_live n p e) ((ways-up U u).parent_live n p there) in
      way ∙ (ap (λ l. p ∷ l) (more p (sym (ap length way)) lives) ∙ sym ((ways-up U u).ancestors_at n p there))

  steps : (k n : ℕ) → length (ancestors T n) ≤ k → Stays T U n → ancestors T n ≡ ancestors U n
  steps zero n short stays = step n stays (parent_of T n) refl (λ p less lives. absurd (omega arith))
  steps (suc k) n short stays = step n stays (parent_of T n) refl (λ p less lives. steps k p (omega arith) lives)

  -- where the nodes of both trees keep their parents, they keep their ways up
  pub ways-alike : (n : ℕ) → Stays T U n → ancestors T n ≡ ancestors U n
  ways-alike n stays = steps (length (ancestors T n)) n (omega arith) stays

  module _ (kind : (n : ℕ) → Stays T U n → kind_of T n ≡ kind_of U n) (in_order : filter (lives_in_both T U) (order T) ≡ filter (lives_in_both T U) (order U)) where
    module _ (n : ℕ) (none_goes : (m : ℕ) → is_live T m ≡ true → is_descendant T n m ≡ true → is_live U m ≡ true)
        (none_comes : (m : ℕ) → is_live U m ≡ true → is_descendant U n m ≡ true → is_live T m ≡ true) where
      -- and the descendants of a node, where none goes and none comes
      pub shape-alike : descendants T n ≡ descendants U n
      shape-alike =
          orders-alike T U in_order (is_descendant T n) (is_descendant U n)
          (λ m h. let live : is_live T m ≡ true = descendant-live T t n m h in of-both (is_live T m) (is_live U m) live (none_goes m live h))
          (λ m h. let live : is_live U m ≡ true = descendant-live U u n m h in of-both (is_live T m) (is_live U m) (none_comes m live h) live)
          (λ m stays. ap₂ (λ (l : List ℕ) (k : Option Kind). mem n l && not (is_attribute_kind k)) (ways-alike m stays) (kind m stays))

      -- and its text, where they say the same
      pub text-alike : Stays T U n → holds_kids (kind_of T n) ≡ true → ((m : ℕ) → Stays T U m → is_descendant T n m ≡ true → says T m ≡ says U m) →
          joined_text T n ≡ joined_text U n
      text-alike stays holds same =
          text-descendants T t n holds
          ∙ (flat_map-same (says T) (says U) (descendants T n)
          (λ m among.
          let h : is_descendant T n m ≡ true = passed (is_descendant T n) m (order T) among in
          let live : is_live T m ≡ true = descendant-live T t n m h in
          same m (of-both (is_live T m) (is_live U m) live (none_goes m live h)) h)
          ∙ (ap (flat_map (says U)) shape-alike ∙ sym (text-descendants U u n (ap holds_kids (sym (kind n stays)) ∙ holds))))
