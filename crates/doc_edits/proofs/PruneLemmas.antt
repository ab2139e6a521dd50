-- The forest of a table without a node and all below it.
use Rattle.std.proofs.Common.{◌≡◌, ◌≢◌, ℕ, ◌+◌, ◌≤◌, zero, suc, true, List, [], ◌∷◌, ◌++◌, Some, None, refl, sym, ap, ◌∙◌, subst, ⊎_elim, true≢false, arith, append_assoc}
use Rattle.doc_table.specs.Lists.{occurs, Distinct}
use Rattle.doc_table.specs.Table.{Table, parent_of, kids_of, attrs_of, is_live}
use Rattle.doc_table.specs.Walks.{below, order}
use Rattle.doc_table.specs.Kinds.{can_be_kid}
use Rattle.doc_table.specs.Laws.{WellFormed, Ordered}
use Rattle.doc_table.specs.inner.Forest.{Forest, bare, tree, tops, flat, Shows, ShowsAttributes, Whole, alive}
use Rattle.doc_table.specs.inner.Sound.{Formed}
use Rattle.doc_table.proofs.ListLemmas.{In, In-mem, In-cons, In-append, occurs-append, occurs-head, occurs-other, occurs-same, eq_or}
use Rattle.doc_table.proofs.Paths.{Path, under, plug, owner, around, elders, lead, tail, flat-plug, opened, frame-kids, occurs-plug, size-plug, SameLinks, attributes-kept, shows-kept, replaced}
use Rattle.doc_table.proofs.Places.{NodePlace, AttributePlace, Place, attribute-parent, alive-one}
use Rattle.doc_table.proofs.Ways.{place-of, parent-has}
use Rattle.doc_table.proofs.Growing.{owner-live}
use Rattle.doc_table.proofs.Telling.{order-flat}
use Rattle.doc_table.proofs.TreeLaws.{well-formed, ordered, below-node}
use Rattle.doc_edits.specs.Changes.{without}
use Rattle.doc_edits.proofs.ClearLemmas.{cut, cut-length, links-other, kids-parent, attributes-parent, parent-kept, alive-cut, without-none, without-split, without-other, without-gone, without-was, without-head, without-tail, without-length}

-- a parent of what a forest has is in it, or is the one under which it hangs
parent-inside : (T : Table) (p : ℕ) (F : Forest) (k q : ℕ) → Shows T p F → In k (flat F) → parent_of T k ≡ Some q → In q (p ∷ flat F)
parent-inside T p bare k q s h up = absurd (omega arith)
parent-inside T p (tree m ats kids rest) k q s h up =
    ⊎_elim
    (λ (e : k ≡ m).
    let hangs : parent_of T k ≡ Some p = ap (parent_of T) e ∙ s.0.parent in
    let is : p ≡ q = (cc) in
    subst (λ j. In j (p ∷ flat (tree m ats kids rest))) is (occurs-head p (flat (tree m ats kids rest))))
    (λ (g : In k (ats ++ (flat kids ++ flat rest))). ⊎_elim
    (λ (a : In k ats).
    let hangs : parent_of T k ≡ Some m = attribute-parent T m ats k s.0.hold a in
    let is : m ≡ q = (cc) in
    subst (λ j. In j (p ∷ flat (tree m ats kids rest))) is (omega (arith, occurs-head m (ats ++ (flat kids ++ flat rest)))))
    (λ (a : In k (flat kids ++ flat rest)). ⊎_elim
    (λ (i : In k (flat kids)). simp occurs-append (omega (arith, parent-inside T m kids k q s.1 i up)))
    (λ (i : In k (flat rest)). simp occurs-append (omega (arith, parent-inside T p rest k q s.2 i up)))
    (In-append k (flat kids) (flat rest) a))
    (In-append k ats (flat kids ++ flat rest) g))
    (In-cons k m (ats ++ (flat kids ++ flat rest)) h)

-- attributes less one are shown
attributes-less : (T : Table) (q n : ℕ) (ats : List ℕ) → ShowsAttributes T q ats → ShowsAttributes T q (without n ats)
attributes-less T q n [] s = tt
attributes-less T q n (a ∷ ats) s =
    ⊎_elim (λ (e : n ≡ a). rw (without-head n a ats e) (attributes-less T q n ats s.3))
    (λ (ne : n ≢ a). rw (without-tail n a ats ne) (s.0, s.1, s.2, attributes-less T q n ats s.3))
    (eq_or n a)

-- a node of a forest goes with all below it
module _ (T : Table) (C : Path) (n : ℕ) (ats : List ℕ) (kids rest : Forest) (w : Whole T (plug C (tree n ats kids rest))) where
  abbrev inside : List ℕ
  inside = n ∷ (ats ++ flat kids)

  node-count : (m : ℕ) → occurs m (owner C ∷ []) + (occurs m (around C) + (occurs m inside + occurs m (flat rest))) ≡ alive T m
  node-count m = simp occurs-append (omega (arith, w.once m, simp occurs-append at (occurs-plug m C (tree n ats kids rest))))

  node-apart : occurs (owner C) inside ≡ 0
  node-apart = omega (arith, node-count (owner C), occurs-head (owner C) [], alive-one T (owner C))

  node-links : (m : ℕ) → 1 ≤ occurs m (around C) + occurs m (flat rest) → SameLinks T (cut T n (owner C) inside) m
  node-links m h =
      links-other T n (owner C) inside m (omega (arith, h, node-count m, alive-one T m))
      (λ e. absurd (let k : In m (owner C ∷ []) = subst (λ q. In m (q ∷ [])) e (occurs-head m []) in omega (arith, node-count m, alive-one T m)))

  node-whole : Distinct (kids_of T (owner C)) → occurs n (attrs_of T (owner C)) ≡ 0 → Whole (cut T n (owner C) inside) (plug C rest)
  node-whole once no_attribute =
      let o = opened T C (tree n ats kids rest) w.root w.shows in
      let live : is_live T (owner C) ≡ true = owner-live T C (tree n ats kids rest) w in
      let siblings : kids_of T (owner C) ≡ elders C ++ (n ∷ tops rest) = frame-kids T C (n ∷ tops rest) o.0 in
      let one : occurs n (elders C ++ (n ∷ tops rest)) ≤ 1 = subst (λ l. occurs n l ≤ 1) siblings (once n) in
      replaced T (cut T n (owner C) inside) C (tree n ats kids rest) rest w
      (parent-kept T n (owner C) inside live (owner C) node-apart)
      (attributes-parent T n (owner C) inside live node-apart ∙ without-none n (attrs_of T (owner C)) no_attribute)
      (λ m h. node-links m (omega (arith, h)))
      (kids-parent T n (owner C) inside live node-apart
      ∙ (ap (without n) siblings
      ∙ without-split n (elders C) (tops rest)
      (omega (arith, one, occurs-append n (elders C) (n ∷ tops rest), occurs-same n (tops rest)))
      (omega (arith, one, occurs-append n (elders C) (n ∷ tops rest), occurs-same n (tops rest)))))
      (shows-kept T (cut T n (owner C) inside) (owner C) rest (λ m h. node-links m (omega (arith, h))) o.1.2)
      (λ m. omega (arith, node-count m, alive-cut T n (owner C) inside live m (omega (arith, node-count m)), occurs-append m (around C) (flat rest)))
      (omega (arith, size-plug C (tree n ats kids rest) rest, cut-length T n (owner C) inside, w.few))

  node-within : (k q : ℕ) → In k inside → k ≢ n → parent_of T k ≡ Some q → In q inside
  node-within k q h ne up =
      let o = opened T C (tree n ats kids rest) w.root w.shows in
      ⊎_elim
      (λ (a : In k ats).
      let hangs : parent_of T k ≡ Some n = attribute-parent T n ats k o.1.0.hold a in
      let is : n ≡ q = (cc) in
      subst (λ j. In j inside) is (occurs-head n (ats ++ flat kids)))
      (λ (i : In k (flat kids)). simp occurs-append (omega (arith, parent-inside T n kids k q o.1.1 i up)))
      (In-append k ats (flat kids) (omega (arith, h, occurs-other k n (ats ++ flat kids) ne)))

-- an attribute goes
module _ (T : Table) (C : Path) (q : ℕ) (ats : List ℕ) (kids rest : Forest) (n : ℕ) (among : In n ats) (w : Whole T (plug C (tree q ats kids rest))) where
  attribute-count : (m : ℕ) →
      occurs m (owner C ∷ []) + (occurs m (around C) + (occurs m (q ∷ []) + (occurs m ats + (occurs m (flat kids) + occurs m (flat rest))))) ≡ alive T m
  attribute-count m = omega (arith, w.once m, simp occurs-append at (occurs-plug m C (tree q ats kids rest)))

  other-attribute : (m : ℕ) → occurs m ats ≡ 0 → m ≢ n
  other-attribute m h e = absurd (let k : In m ats = subst (λ j. In j ats) (sym e) among in omega arith)

  other-owner : (m : ℕ) → 1 ≤ occurs m (owner C ∷ []) + (occurs m (around C) + (occurs m ats + (occurs m (flat kids) + occurs m (flat rest)))) → m ≢ q
  other-owner m h e = absurd (let k : In m (q ∷ []) = subst (λ j. In m (j ∷ [])) e (occurs-head m []) in omega (arith, attribute-count m, alive-one T m))

  attribute-apart : occurs q (n ∷ []) ≡ 0
  attribute-apart =
      occurs-other q n [] (other-attribute q (omega (arith, attribute-count q, occurs-head q [], alive-one T q)))

  attribute-links : (m : ℕ) → m ≢ n → m ≢ q → SameLinks T (cut T n q (n ∷ [])) m
  attribute-links m ne nq = links-other T n q (n ∷ []) m (occurs-other m n [] ne) nq

  outer-links : (m : ℕ) → 1 ≤ occurs m (owner C ∷ []) + (occurs m (around C) + (occurs m (flat kids) + occurs m (flat rest))) → SameLinks T (cut T n q (n ∷ [])) m
  outer-links m h =
      attribute-links m (other-attribute m (omega (arith, h, attribute-count m, alive-one T m))) (other-owner m (omega (arith, h)))

  attribute-whole : occurs n (kids_of T q) ≡ 0 → Whole (cut T n q (n ∷ [])) (plug C (tree q (without n ats) kids rest))
  attribute-whole no_kid =
      let o = opened T C (tree q ats kids rest) w.root w.shows in
      let live : is_live T q ≡ true = owner-live T (under q ats rest C) kids w in
      let at_owner : SameLinks T (cut T n q (n ∷ [])) (owner C) = outer-links (owner C) (omega (arith, occurs-head (owner C) [])) in
      let inner : (m : ℕ) → In m (without n ats) → SameLinks T (cut T n q (n ∷ [])) m =
      λ m h. let was = without-was m n ats h in attribute-links m was.0 (other-owner m (omega (arith, was.1))) in
      replaced T (cut T n q (n ∷ [])) C (tree q ats kids rest) (tree q (without n ats) kids rest) w
      at_owner.parent at_owner.attributes (λ m h. outer-links m (omega (arith, h))) (at_owner.kids ∙ frame-kids T C (q ∷ tops rest) o.0) (
        record {
          parent = parent-kept T n q (n ∷ []) live q attribute-apart ∙ o.1.0.parent;
          attributes = attributes-parent T n q (n ∷ []) live attribute-apart ∙ ap (without n) o.1.0.attributes;
          kids_are = kids-parent T n q (n ∷ []) live attribute-apart ∙ (without-none n (kids_of T q) no_kid ∙ o.1.0.kids_are);
          hold = attributes-kept T (cut T n q (n ∷ [])) q (without n ats) inner (attributes-less T q n ats o.1.0.hold);
        },
        shows-kept T (cut T n q (n ∷ [])) q kids (λ m h. outer-links m (omega (arith, h))) o.1.1,
        shows-kept T (cut T n q (n ∷ [])) (owner C) rest (λ m h. outer-links m (omega (arith, h))) o.1.2,
      )
      (λ m. simp occurs-append (omega (arith, attribute-count m, alive-cut T n q (n ∷ []) live m (fewer m), attributes-split m)))
      (omega (arith, size-plug C (tree q ats kids rest) (tree q (without n ats) kids rest), cut-length T n q (n ∷ []), without-length n ats, w.few))
    where
      attributes-split : (m : ℕ) → occurs m (without n ats) + occurs m (n ∷ []) ≡ occurs m ats
      attributes-split m =
          ⊎_elim (λ (e : m ≡ n). rw e (omega (arith, without-gone n ats, occurs-same n [], attribute-count n, alive-one T n, among)))
          (λ (ne : m ≢ n). omega (arith, without-other m n ats ne, occurs-other m n [] ne))
          (eq_or m n)

      fewer : (m : ℕ) → occurs m (n ∷ []) ≤ alive T m
      fewer m = omega (arith, attributes-split m, attribute-count m)

-- a count that is never one or more is none
pub none-in : (k : ℕ) → (1 ≤ k → ⊥) → k ≡ 0
none-in zero out = refl
none-in (suc k) out = absurd (out (omega arith))

-- no number is both a kid and an attribute
pub not-both : {T : Table} → WellFormed T → (n p q : ℕ) → In n (kids_of T p) → In n (attrs_of T q) → ⊥
not-both {T = T} form n p q h k =
    true≢false
    (sym (form.kid_kind p n (In-mem n (kids_of T p) h)) ∙ ap can_be_kid (form.attribute_kind q n (In-mem n (attrs_of T q) k)))

-- a list splits where a number stands
pub record Split (n : ℕ) (xs : List ℕ) : Type 0 where
  pub front : List ℕ
  pub back : List ℕ
  pub is : xs ≡ front ++ n ∷ back

pub split_at : (n : ℕ) (xs : List ℕ) → In n xs → Split n xs
split_at n [] h = absurd (omega arith)
split_at n (x ∷ xs) h =
    ⊎_elim (λ (e : n ≡ x). let r : Split n (x ∷ xs) = record { front = []; back = xs; is = ap (λ k. k ∷ xs) (sym e) } in r)
    (λ (g : In n xs). let s : Split n xs = split_at n xs g in let r : Split n (x ∷ xs) = record { front = x ∷ s.front; back = s.back; is = ap (λ l. x ∷ l) s.is } in r)
    (In-cons n x xs h)

-- document order without a part in the middle
pub record Parted (before after : List ℕ) : Type 0 where
  pub front : List ℕ
  pub gone : List ℕ
  pub back : List ℕ
  pub was : before ≡ front ++ (gone ++ back)
  pub is : after ≡ front ++ back

-- a table without a node and all below it: it shows a forest, and what stays hangs from what stays
pub record Cut (T : Table) (n p : ℕ) : Type 0 where
  pub forest : Forest
  pub whole : Whole (cut T n p (below T n)) forest
  pub order_parts : Parted (order T) (order (cut T n p (below T n)))
  pub apart : occurs p (below T n) ≡ 0
  pub within : (k q : ℕ) → In k (below T n) → k ≢ n → parent_of T k ≡ Some q → In q (below T n)

module _ (T : Table) (n p : ℕ) (formed : Formed T) (up : parent_of T n ≡ Some p) where
  form : WellFormed T
  form = well-formed T formed

  ord : Ordered T
  ord = ordered T formed

  cut-node : NodePlace formed.forest n → Cut T n p
  cut-node at =
      let w : Whole T (plug at.path (tree n at.ats at.kids at.rest)) = subst (Whole T) (sym at.at) formed.whole in
      let o = opened T at.path (tree n at.ats at.kids at.rest) w.root w.shows in
      let up2 : parent_of T n ≡ Some (owner at.path) = o.1.0.parent in
      let same : owner at.path ≡ p = (cc) in
      let listed : In n (kids_of T (owner at.path)) =
      rw (frame-kids T at.path (n ∷ tops at.rest) o.0) (omega (arith, occurs-append n (elders at.path) (n ∷ tops at.rest), occurs-head n (tops at.rest))) in
      let gone : inside T at.path n at.ats at.kids at.rest w ≡ below T n = sym (below-node T at.path n at.ats at.kids at.rest w) in
      let left : Whole (cut T n (owner at.path) (below T n)) (plug at.path at.rest) =
      subst (λ g. Whole (cut T n (owner at.path) g) (plug at.path at.rest)) gone
      (node-whole T at.path n at.ats at.kids at.rest w (form.kids_once (owner at.path)) (none-in (occurs n (attrs_of T (owner at.path))) (λ k. not-both form n (owner at.path) (owner at.path) listed k))) in
      subst (Cut T n) same (record {
        forest = plug at.path at.rest;
        whole = left;
        order_parts = record {
          front = 0 ∷ lead at.path;
          gone = n ∷ (at.ats ++ flat at.kids);
          back = flat at.rest ++ tail at.path;
          was = order-flat T (plug at.path (tree n at.ats at.kids at.rest)) w ∙ ap (λ l. 0 ∷ l) (flat-plug at.path (tree n at.ats at.kids at.rest) ∙ ap (λ l. lead at.path ++ l) (simp append_assoc));
          is = order-flat (cut T n (owner at.path) (below T n)) (plug at.path at.rest) left ∙ ap (λ l. 0 ∷ l) (flat-plug at.path at.rest);
        };
        apart = subst (λ g. occurs (owner at.path) g ≡ 0) gone (node-apart T at.path n at.ats at.kids at.rest w);
        within = λ k q. subst (λ g. In k g → k ≢ n → parent_of T k ≡ Some q → In q g) gone (node-within T at.path n at.ats at.kids at.rest w k q);
      })

  cut-attribute : AttributePlace formed.forest n → Cut T n p
  cut-attribute at =
      let w : Whole T (plug at.path (tree at.node at.ats at.kids at.rest)) = subst (Whole T) (sym at.at) formed.whole in
      let o = opened T at.path (tree at.node at.ats at.kids at.rest) w.root w.shows in
      let up2 : parent_of T n ≡ Some at.node = attribute-parent T at.node at.ats n o.1.0.hold at.among in
      let same : at.node ≡ p = (cc) in
      let listed : In n (attrs_of T at.node) = subst (In n) (sym o.1.0.attributes) at.among in
      let gone : n ∷ [] ≡ below T n = sym (ord.below_attribute at.node n (In-mem n (attrs_of T at.node) listed)) in
      let left : Whole (cut T n at.node (below T n)) (plug at.path (tree at.node (without n at.ats) at.kids at.rest)) =
      subst (λ g. Whole (cut T n at.node g) (plug at.path (tree at.node (without n at.ats) at.kids at.rest))) gone
      (attribute-whole T at.path at.node at.ats at.kids at.rest n at.among w (none-in (occurs n (kids_of T at.node)) (λ k. not-both form n at.node at.node k listed))) in
      let parts : Split n at.ats = split_at n at.ats at.among in
      let once : occurs n parts.front + occurs n (n ∷ parts.back) ≤ 1 =
      omega (arith, attribute-count T at.path at.node at.ats at.kids at.rest n at.among w n, alive-one T n, ap (occurs n) parts.is, occurs-append n parts.front (n ∷ parts.back)) in
      let less : without n at.ats ≡ parts.front ++ parts.back =
      ap (without n) parts.is ∙ without-split n parts.front parts.back (omega (arith, once, occurs-same n parts.back)) (omega (arith, once, occurs-same n parts.back)) in
      subst (Cut T n) same (record {
        forest = plug at.path (tree at.node (without n at.ats) at.kids at.rest);
        whole = left;
        order_parts = record {
          front = 0 ∷ (lead at.path ++ (at.node ∷ parts.front));
          gone = n ∷ [];
          back = parts.back ++ (flat at.kids ++ (flat at.rest ++ tail at.path));
          was = order-flat T (plug at.path (tree at.node at.ats at.kids at.rest)) w
              ∙ ap (λ l. 0 ∷ l) (flat-plug at.path (tree at.node at.ats at.kids at.rest)
              ∙ (ap (λ l. lead at.path ++ ((at.node ∷ (l ++ (flat at.kids ++ flat at.rest))) ++ tail at.path)) parts.is ∙ simp append_assoc));
          is = order-flat (cut T n at.node (below T n)) (plug at.path (tree at.node (without n at.ats) at.kids at.rest)) left
              ∙ ap (λ l. 0 ∷ l) (flat-plug at.path (tree at.node (without n at.ats) at.kids at.rest)
              ∙ (ap (λ l. lead at.path ++ ((at.node ∷ (l ++ (flat at.kids ++ flat at.rest))) ++ tail at.path)) less ∙ simp append_assoc));
        };
        apart = subst (λ g. occurs at.node g ≡ 0) gone (attribute-apart T at.path at.node at.ats at.kids at.rest n at.among w);
        within = λ k q h ne. absurd (let g : In k (n ∷ []) = subst (In k) (sym gone) h in omega (arith, occurs-other k n [] ne));
      })

  pub cut_at : Cut T n p
  cut_at =
      ⊎_elim (λ (e : n ≡ 0). absurd (let none : parent_of T n ≡ None = ap (parent_of T) e ∙ form.root_parent in cc))
      (λ (place : Place formed.forest n). ⊎_elim (λ (at : NodePlace formed.forest n). cut-node at) (λ (at : AttributePlace formed.forest n). cut-attribute at) place)
      (place-of T formed.forest formed.whole n (parent-has T n p up))
