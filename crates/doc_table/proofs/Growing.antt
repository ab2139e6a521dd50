-- A table with one node more at its end: its entries, its forest, its walks and its ways up.
use Rattle.std.proofs.Common.{◌≡◌, ◌≢◌, ℕ, ◌+◌, ◌<◌, ◌≤◌, suc, Bool, true, false, cond, List, [], ◌∷◌, ◌++◌, length, set, Option, None, Some, is_some, refl, sym, ap, ◌∙◌, subst, ⊎_elim, true≢false, arith, append-nil, length-set, get_or-set_same, get_or-set_other, length-append}
use Rattle.std.proofs.lemmas.List.{get_or_past}
use Rattle.doc_table.specs.Lists.{occurs}
use Rattle.doc_table.specs.Table.{Table, Facts, Content, root, entry_at, parent_at, kids_at, attrs_at, content_at, parent_of, kids_of, attrs_of, content_of, is_live}
use Rattle.doc_table.specs.Growth.{with_node, with_link, leaf, as_kid, as_attribute}
use Rattle.doc_table.specs.inner.Forest.{Forest, bare, tree, flat, ShowsAttributes, Whole, alive}
use Rattle.doc_table.proofs.ListLemmas.{In, In-cons, occurs-append, occurs-head, occurs-same, occurs-other, eq_or, get-last}
use Rattle.doc_names.proofs.NumberLemmas.{get-front}
use Rattle.doc_table.proofs.Paths.{Path, under, plug, owner, around, elders, opened, frame-kids, occurs-plug, size-plug, SameLinks, attributes-kept, replaced}
use Rattle.doc_table.proofs.Ways.{live-below}

link-parent : (c : Content) (n : ℕ) (o : Option Facts) → parent_at (with_link c n o) ≡ parent_at o
link-parent c n None = refl
link-parent c n (Some node) = refl

link-content : (c : Content) (n : ℕ) (o : Option Facts) → content_at (with_link c n o) ≡ content_at o
link-content c n None = refl
link-content c n (Some node) = refl

pub link-live : (c : Content) (n : ℕ) (o : Option Facts) → is_some (with_link c n o) ≡ is_some o
link-live c n None = refl
link-live c n (Some node) = refl

link-kids : (c : Content) (n : ℕ) (o : Option Facts) → is_some o ≡ true → kids_at (with_link c n o) ≡ kids_at o ++ as_kid c n
link-kids c n None h = absurd (true≢false (sym h))
link-kids c n (Some node) h = refl

link-attributes : (c : Content) (n : ℕ) (o : Option Facts) → is_some o ≡ true → attrs_at (with_link c n o) ≡ attrs_at o ++ as_attribute c n
link-attributes c n None h = absurd (true≢false (sym h))
link-attributes c n (Some node) h = refl

module _ (T : Table) (p : ℕ) (c : Content) (live : is_live T p ≡ true) where
  pub entry-new : entry_at (with_node T p c) (length T) ≡ Some (leaf p c)
  entry-new = get-last (set T p (with_link c (length T) (entry_at T p))) (Some (leaf p c)) None (length T) (sym (length-set T p (with_link c (length T) (entry_at T p))))

  entry-front : (m : ℕ) → m ≢ length T → entry_at (with_node T p c) m ≡ entry_at (set T p (with_link c (length T) (entry_at T p))) m
  entry-front m ne = get-front (set T p (with_link c (length T) (entry_at T p))) (Some (leaf p c)) None m (λ e. ne (e ∙ length-set T p (with_link c (length T) (entry_at T p))))

  pub entry-other : (m : ℕ) → m ≢ length T → m ≢ p → entry_at (with_node T p c) m ≡ entry_at T m
  entry-other m ne np = entry-front m ne ∙ get_or-set_other T p m (with_link c (length T) (entry_at T p)) None np

  parent-old : p ≢ length T
  parent-old e = let h : p < length T = live-below T p live in omega arith

  pub entry-parent : entry_at (with_node T p c) p ≡ with_link c (length T) (entry_at T p)
  entry-parent = let h : p < length T = live-below T p live in entry-front p parent-old ∙ get_or-set_same T p (with_link c (length T) (entry_at T p)) None h

  -- what a word says of an entry stays where linking leaves it
  kept : {A : Type 0} (f : Option Facts → A) → f (with_link c (length T) (entry_at T p)) ≡ f (entry_at T p) → (m : ℕ) → m ≢ length T →
      f (entry_at (with_node T p c) m) ≡ f (entry_at T m)
  kept f stays m ne =
      ⊎_elim (λ (e : m ≡ p). ap (λ k. f (entry_at (with_node T p c) k)) e ∙ (ap f entry-parent ∙ (stays ∙ ap (λ k. f (entry_at T k)) (sym e))))
      (λ (np : m ≢ p). ap f (entry-other m ne np)) (eq_or m p)

  pub parent-kept : (m : ℕ) → m ≢ length T → parent_of (with_node T p c) m ≡ parent_of T m
  parent-kept m ne = kept parent_at (link-parent c (length T) (entry_at T p)) m ne

  pub content-kept : (m : ℕ) → m ≢ length T → content_of (with_node T p c) m ≡ content_of T m
  content-kept m ne = kept content_at (link-content c (length T) (entry_at T p)) m ne

  pub live-kept : (m : ℕ) → m ≢ length T → is_live (with_node T p c) m ≡ is_live T m
  live-kept m ne = kept is_some (link-live c (length T) (entry_at T p)) m ne

  pub kids-parent : kids_of (with_node T p c) p ≡ kids_of T p ++ as_kid c (length T)
  kids-parent = ap kids_at entry-parent ∙ link-kids c (length T) (entry_at T p) live

  pub attributes-parent : attrs_of (with_node T p c) p ≡ attrs_of T p ++ as_attribute c (length T)
  attributes-parent = ap attrs_at entry-parent ∙ link-attributes c (length T) (entry_at T p) live

  pub links-kept : (m : ℕ) → m ≢ length T → m ≢ p → SameLinks T (with_node T p c) m
  links-kept m ne np = record {
    parent = ap parent_at (entry-other m ne np);
    attributes = ap attrs_at (entry-other m ne np);
    kids = ap kids_at (entry-other m ne np);
  }

  pub length-grown : length (with_node T p c) ≡ suc (length T)
  length-grown = length-append (set T p (with_link c (length T) (entry_at T p))) (Some (leaf p c) ∷ []) ∙ rw (length-set T p (with_link c (length T) (entry_at T p))) (omega arith)

  -- the next number was not live
  pub new-dead : is_live T (length T) ≡ false
  new-dead = ap is_some (get_or_past T (length T) None (omega arith))

  pub alive-grown : (m : ℕ) → alive (with_node T p c) m ≡ occurs m (length T ∷ []) + alive T m
  alive-grown m =
      ⊎_elim (λ (e : m ≡ length T). rw (e, ap is_some entry-new, new-dead, occurs-same (length T) []) refl)
      (λ (ne : m ≢ length T). rw (live-kept m ne, occurs-other m (length T) [] ne) (omega arith)) (eq_or m (length T))

  pub old-number : (m : ℕ) → is_live T m ≡ true → m ≢ length T
  old-number m h e = true≢false (sym h ∙ (ap (is_live T) e ∙ new-dead))

-- where the new node stands: it is a kid of the owner of the hole, or an attribute of it
pub record KidGrown (T : Table) (C : Path) (c : Content) : Type 0 where
  pub is_kid : as_kid c (length T) ≡ length T ∷ []
  pub no_attribute : as_attribute c (length T) ≡ []
  pub whole : Whole (with_node T (owner C) c) (plug C (tree (length T) [] bare bare))

pub record AttributeGrown (T : Table) (C : Path) (c : Content) : Type 0 where
  pub no_kid : as_kid c (length T) ≡ []
  pub is_attribute : as_attribute c (length T) ≡ length T ∷ []
  pub ats : List ℕ
  pub upper : Path
  pub is : C ≡ under (owner C) ats bare upper
  pub whole : Whole (with_node T (owner C) c) (plug upper (tree (owner C) (ats ++ length T ∷ []) bare bare))

occurs-split : (m p : ℕ) (around F : List ℕ) (b : ℕ) → b ≤ 1 → occurs m (p ∷ (around ++ F)) ≡ b → In m around → m ≢ p
occurs-split m p around F b h e k same = let e2 : occurs m (p ∷ (around ++ F)) ≡ suc (occurs m (around ++ F)) = subst (λ q. occurs m (q ∷ (around ++ F)) ≡ suc (occurs m (around ++ F))) same (occurs-same m (around ++ F)) in omega (arith, occurs-append m around F)

alive-small : (T : Table) (n : ℕ) → alive T n ≤ 1
alive-small T n = by (is_live T n)
  where
    by : (b : Bool) → cond b 1 0 ≤ 1
    by true = omega arith
    by false = omega arith

dead-alive : (T : Table) (n : ℕ) → is_live T n ≡ false → alive T n ≡ 0
dead-alive T n h = rw h refl

attributes-more : (T : Table) (n : ℕ) (ats : List ℕ) (a : ℕ) → parent_of T a ≡ Some n → attrs_of T a ≡ [] → kids_of T a ≡ [] → ShowsAttributes T n ats → ShowsAttributes T n (ats ++ a ∷ [])
attributes-more T n [] a up none nokids s = (up, none, nokids, tt)
attributes-more T n (b ∷ ats) a up none nokids s = (s.0, s.1, s.2, attributes-more T n ats a up none nokids s.3)

module _ (T : Table) (C : Path) (F : Forest) (w : Whole T (plug C F)) where
  -- the owner of a hole is live, and stands nowhere round it; no new number does
  pub owner-live : is_live T (owner C) ≡ true
  owner-live = alive-true (is_live T (owner C)) (omega (arith, w.once (owner C), occurs-plug (owner C) C F, occurs-head (owner C) (around C ++ flat F)))
    where
      alive-true : (b : Bool) → 1 ≤ cond b 1 0 → b ≡ true
      alive-true true h = refl
      alive-true false h = absurd (omega arith)

  pub around-other : (m : ℕ) → In m (around C) → m ≢ owner C
  around-other m h = occurs-split m (owner C) (around C) (flat F) (alive T m) (alive-small T m) (sym (occurs-plug m C F) ∙ w.once m) h

  pub around-old : (m : ℕ) → In m (around C) → m ≢ length T
  around-old m h e =
      let k : 1 ≤ alive T m = omega (arith, h, w.once m, occurs-plug m C F, occurs-append m (around C) (flat F)) in
      let d : alive T m ≡ 0 = dead-alive T m (ap (is_live T) e ∙ new-dead T (owner C) root owner-live) in
      omega arith

module _ (T : Table) (C : Path) (c : Content) (w : Whole T (plug C bare)) where
  -- with a kid more
  pub whole-kid : as_kid c (length T) ≡ length T ∷ [] → as_attribute c (length T) ≡ [] → Whole (with_node T (owner C) c) (plug C (tree (length T) [] bare bare))
  whole-kid kid noattr =
      let live : is_live T (owner C) ≡ true = owner-live T C bare w in
      let old : owner C ≢ length T = old-number T (owner C) c live (owner C) live in
      let frame = (opened T C bare w.root w.shows).0 in
      let newest : entry_at (with_node T (owner C) c) (length T) ≡ Some (leaf (owner C) c) = entry-new T (owner C) c live in
      replaced T (with_node T (owner C) c) C bare (tree (length T) [] bare bare) w
      (parent-kept T (owner C) c live (owner C) old)
      (attributes-parent T (owner C) c live ∙ (ap (λ l. attrs_of T (owner C) ++ l) noattr ∙ append-nil (attrs_of T (owner C))))
      (λ m h. links-kept T (owner C) c live m (around-old T C bare w m h) (around-other T C bare w m h))
      (kids-parent T (owner C) c live ∙ (ap (λ l. kids_of T (owner C) ++ l) kid ∙ ap (λ l. l ++ length T ∷ []) (frame-kids T C [] frame ∙ append-nil (elders C))))
      (record { parent = ap parent_at newest; attributes = ap attrs_at newest; kids_are = ap kids_at newest; hold = tt }, tt, tt)
      (λ m. omega (arith, alive-grown T (owner C) c live m, w.once m, occurs-plug m C bare, occurs-append m (around C) (length T ∷ []), occurs-append m (around C) []))
      (omega (arith, size-plug C bare (tree (length T) [] bare bare), length-grown T (owner C) c live, w.few))

module _ (T : Table) (D : Path) (p : ℕ) (ats : List ℕ) (c : Content) (w : Whole T (plug D (tree p ats bare bare))) where
  p-live : is_live T p ≡ true
  p-live = owner-live T (under p ats bare D) bare w

  p-inside : In p (flat (tree p ats bare bare))
  p-inside = occurs-head p (ats ++ [])

  outer-other : (m : ℕ) → In m (owner D ∷ around D) → m ≢ p
  outer-other m h e =
      let k : occurs p (owner D ∷ (around D ++ flat (tree p ats bare bare))) ≡ alive T p = sym (occurs-plug p D (tree p ats bare bare)) ∙ w.once p in
      let g : In p (owner D ∷ around D) = subst (λ q. In q (owner D ∷ around D)) e h in
      omega (arith, occurs-append p (around D) (flat (tree p ats bare bare)), p-inside, alive-small T p)

  outer-old : (m : ℕ) → In m (owner D ∷ around D) → m ≢ length T
  outer-old m h =
      ⊎_elim (λ (e : m ≡ owner D). λ same. old-number T p c p-live (owner D) (owner-live T D (tree p ats bare bare) w) (sym e ∙ same))
      (λ (k : In m (around D)). around-old T D (tree p ats bare bare) w m k) (In-cons m (owner D) (around D) h)

  -- with an attribute more
  pub whole-attribute : as_kid c (length T) ≡ [] → as_attribute c (length T) ≡ length T ∷ [] → Whole (with_node T p c) (plug D (tree p (ats ++ length T ∷ []) bare bare))
  whole-attribute nokid attr =
      let F : Forest = tree p ats bare bare in
      let o = opened T D F w.root w.shows in
      let newest : entry_at (with_node T p c) (length T) ≡ Some (leaf p c) = entry-new T p c p-live in
      let old : p ≢ length T = old-number T p c p-live p p-live in
      let links : (m : ℕ) → In m (owner D ∷ around D) → SameLinks T (with_node T p c) m = λ m h. links-kept T p c p-live m (outer-old m h) (outer-other m h) in
      let at_owner : SameLinks T (with_node T p c) (owner D) = links (owner D) (occurs-head (owner D) (around D)) in
      let inner : (m : ℕ) → In m ats → SameLinks T (with_node T p c) m = λ m h. links-kept T p c p-live m (ats-old m h) (ats-other m h) in
      replaced T (with_node T p c) D F (tree p (ats ++ length T ∷ []) bare bare) w at_owner.parent at_owner.attributes (λ m h. links m (omega (arith, h)))
      (at_owner.kids ∙ frame-kids T D (p ∷ []) o.0) (
        record {
          parent = parent-kept T p c p-live p old ∙ o.1.0.parent;
          attributes = attributes-parent T p c p-live ∙ (ap (λ l. l ++ as_attribute c (length T)) o.1.0.attributes ∙ ap (λ l. ats ++ l) attr);
          kids_are = kids-parent T p c p-live ∙ (ap (λ l. kids_of T p ++ l) nokid ∙ (append-nil (kids_of T p) ∙ o.1.0.kids_are));
          hold = attributes-more (with_node T p c) p ats (length T) (ap parent_at newest) (ap attrs_at newest) (ap kids_at newest) (attributes-kept T (with_node T p c) p ats inner o.1.0.hold);
        },
        tt,
        tt,
      )
      (λ m. simp occurs-append (omega (arith, alive-grown T p c p-live m, w.once m, simp occurs-append at (occurs-plug m D F))))
      (omega (arith, size-plug D F (tree p (ats ++ length T ∷ []) bare bare), length-grown T p c p-live, w.few, length-append ats (length T ∷ [])))
    where
      ats-other : (m : ℕ) → In m ats → m ≢ p
      ats-other m h e =
          let k : occurs p (owner D ∷ (around D ++ flat (tree p ats bare bare))) ≡ alive T p = sym (occurs-plug p D (tree p ats bare bare)) ∙ w.once p in
          let g : In p ats = subst (λ q. In q ats) e h in
          omega (arith, occurs-append p (around D) (flat (tree p ats bare bare)), occurs-same p (ats ++ []), occurs-append p ats [], alive-small T p)

      ats-old : (m : ℕ) → In m ats → m ≢ length T
      ats-old m h e =
          let k : 1 ≤ alive T m = omega (arith, h, w.once m, simp occurs-append at (occurs-plug m D (tree p ats bare bare))) in
          let d : alive T m ≡ 0 = dead-alive T m (ap (is_live T) e ∙ new-dead T p c p-live) in
          omega arith
