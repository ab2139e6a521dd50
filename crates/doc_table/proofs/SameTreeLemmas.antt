-- The lines of a well-formed table tell its forest but for the numbers, and so the same tree; and the same tree has the same lines.
use Rattle.std.proofs.Common.{◌≡◌, ◌≢◌, ℕ, ◌+◌, suc, List, [], ◌∷◌, ◌++◌, length, map, Option, None, Some, ◌⊎◌, inl, inr, refl, sym, ap, ap₂, ◌∙◌, subst, arith}
use Rattle.std.specs.List.{flat_map}
use Rattle.doc_table.specs.declared.kind.Kind.TheVariants.{Root}
use Rattle.doc_table.specs.Lists.{Distinct}
use Rattle.doc_table.specs.Table.{Table, Content, root, element, attribute, text, comment, instruction, content_of, kids_of, kind_at}
use Rattle.doc_table.specs.Walks.{order}
use Rattle.doc_table.specs.Lines.{Line, first_lines, last_lines, lines, lines_at, opens, closes}
use Rattle.doc_table.specs.Laws.{WellFormed}
use Rattle.doc_table.specs.SameTree.{position_in, position, position_at, SameNode, AllSame, SameTree}
use Rattle.doc_table.specs.inner.Forest.{Forest, bare, tree, tops, flat, Shows, ShowsAttributes, Whole}
use Rattle.doc_table.proofs.ListLemmas.{In, In-mem, occurs-append, occurs-head, occurs-other}
use Rattle.doc_table.proofs.Telling.{told, walked-whole, order-flat}
use Rattle.doc_table.proofs.TreeLaws.{ordered}
use Rattle.doc_table.proofs.Forests.{forest_of, whole-of, formed-of}
use Rattle.doc_table.proofs.OneForest.{AreNodes, AlikePairs, AlikeForests, agree, nodes-of}
use Rattle.doc_table.proofs.Positions.{Stands, stands-all, stands-left, stands-right, stands-next, stands-at, position-cases}

-- the root begins and ends with no line
pub root-silent : (o : Option Content) → kind_at o ≡ Some Root → (o ≡ Some root) × (lines_at first_lines o ≡ []) × (lines_at last_lines o ≡ [])
root-silent None h = absurd (cc)
root-silent (Some root) h = (refl, refl, refl)
root-silent (Some (element name decls)) h = absurd (cc)
root-silent (Some (attribute name value)) h = absurd (cc)
root-silent (Some (text characters)) h = absurd (cc)
root-silent (Some (comment characters)) h = absurd (cc)
root-silent (Some (instruction name characters)) h = absurd (cc)

module _ (T : Table) (form : WellFormed T) where
  abbrev B : Forest
  B = forest_of T

  whole : Whole T B
  whole = whole-of T form

  once : Distinct (order T)
  once = (ordered T (formed-of T form)).once

  nodes : AreNodes T B
  nodes = nodes-of T form 0 B whole.shows (λ k h. In-mem k (kids_of T 0) (subst (In k) (sym whole.root.kids_are) h))

  lines-told : lines T ≡ told (opens T) (closes T) B ++ []
  lines-told =
      let silent = root-silent (content_of T 0) form.root_kind in
      walked-whole (opens T) (closes T) T B whole
      ∙ ap₂ (λ (o e : List Line). o ++ (told (opens T) (closes T) B ++ e)) silent.1 silent.2

module _ (T U : Table) where
  all-append : (ns ns2 ms ms2 : List ℕ) → AllSame T U ns ms → AllSame T U ns2 ms2 → AllSame T U (ns ++ ns2) (ms ++ ms2)
  all-append [] ns2 [] ms2 a b = b
  all-append [] ns2 (m ∷ ms) ms2 a b = absurd a
  all-append (n ∷ ns) ns2 [] ms2 a b = absurd a
  all-append (n ∷ ns) ns2 (m ∷ ms) ms2 a b = (a.0, all-append ns ns2 ms ms2 a.1 b)

  pub all-length : (ns ms : List ℕ) → AllSame T U ns ms → length ns ≡ length ms
  all-length [] [] a = refl
  all-length [] (m ∷ ms) a = absurd a
  all-length (n ∷ ns) [] a = absurd a
  all-length (n ∷ ns) (m ∷ ms) a = ap (λ k. suc k) (all-length ns ms a.1)

  -- nodes at the same position are alike
  pub same-at : (ns ms : List ℕ) → AllSame T U ns ms → (n m : ℕ) → In n ns → position_in n ns ≡ position_in m ms → SameNode T U n m
  same-at [] ms a n m h e = absurd (omega arith)
  same-at (x ∷ ns) [] a n m h e = absurd a
  same-at (x ∷ ns) (y ∷ ms) a n m h e = by (position-cases n x m y ns ms e) (λ g k. same-at ns ms a.1 n m g k)
    where
      by : ((n ≡ x) × (m ≡ y)) ⊎ ((n ≢ x) × (position_in n ns ≡ position_in m ms)) → (In n ns → position_in n ns ≡ position_in m ms → SameNode T U n m) → SameNode T U n m
      by (inl both) go = subst (λ k. SameNode T U k m) (sym both.0) (subst (λ k. SameNode T U x k) (sym both.1) a.0)
      by (inr others) go = go (omega (arith, h, occurs-other n x ns others.0)) others.1

  pairs-length : (ats bs : List ℕ) → AlikePairs T U ats bs → length ats ≡ length bs
  pairs-length [] [] a = refl
  pairs-length [] (b ∷ bs) a = absurd a
  pairs-length (x ∷ ats) [] a = absurd a
  pairs-length (x ∷ ats) (b ∷ bs) a = ap (λ k. suc k) (pairs-length ats bs a.1)

  -- attributes that hang from nodes at the same position, and stand from the same position on, are alike
  pairs-alike : (n m at : ℕ) (ats bs : List ℕ) → Distinct (order T) → Distinct (order U) → position U m ≡ position T n → AlikePairs T U ats bs →
      ShowsAttributes T n ats → ShowsAttributes U m bs → Stands (order T) at ats → Stands (order U) at bs →
      AllSame T U ats bs × (map (position U) bs ≡ map (position T) ats)
  pairs-alike n m at [] [] onceT onceU same alike s r here there = (tt, refl)
  pairs-alike n m at [] (b ∷ bs) onceT onceU same alike s r here there = absurd alike
  pairs-alike n m at (a ∷ ats) [] onceT onceU same alike s r here there = absurd alike
  pairs-alike n m at (a ∷ ats) (b ∷ bs) onceT onceU same alike s r here there =
      let more : AllSame T U ats bs × (map (position U) bs ≡ map (position T) ats) =
      pairs-alike n m (suc at) ats bs onceT onceU same alike.1 s.3 r.3 (stands-next (order T) at a ats here) (stands-next (order U) at b bs there) in
      let one : SameNode T U a b = record {
        content = alike.0;
        parent = ap (position_at U) r.0 ∙ (same ∙ sym (ap (position_at T) s.0));
        kids = ap (map (position U)) r.2 ∙ sym (ap (map (position T)) s.2);
        attributes = ap (map (position U)) r.1 ∙ sym (ap (map (position T)) s.1);
      } in
      let first : position U b ≡ position T a = stands-at (order U) at b bs onceU there ∙ sym (stands-at (order T) at a ats onceT here) in
      ((one, more.0), ap₂ (λ (x : Option ℕ) (xs : List (Option ℕ)). x ∷ xs) first more.1)

  -- so are forests, with as many numbers
  record AlikeAt (F G : Forest) : Type 0 where
    nodes : AllSame T U (flat F) (flat G)
    heads : map (position U) (tops G) ≡ map (position T) (tops F)

  forest-alike : (p q at : ℕ) (F G : Forest) → Distinct (order T) → Distinct (order U) → position U q ≡ position T p → AlikeForests T U F G →
      Shows T p F → Shows U q G → Stands (order T) at (flat F) → Stands (order U) at (flat G) → AlikeAt F G
  forest-alike p q at bare bare onceT onceU same alike s r here there = record { nodes = tt; heads = refl }
  forest-alike p q at bare (tree m bs kids2 rest2) onceT onceU same alike s r here there = absurd alike
  forest-alike p q at (tree n ats kids rest) bare onceT onceU same alike s r here there = absurd alike
  forest-alike p q at (tree n ats kids rest) (tree m bs kids2 rest2) onceT onceU same alike s r here there =
      let first : position U m ≡ position T n =
      stands-at (order U) at m (bs ++ (flat kids2 ++ flat rest2)) onceU there ∙ sym (stands-at (order T) at n (ats ++ (flat kids ++ flat rest)) onceT here) in
      let hereNext : Stands (order T) (suc at) (ats ++ (flat kids ++ flat rest)) = stands-next (order T) at n (ats ++ (flat kids ++ flat rest)) here in
      let thereNext : Stands (order U) (suc at) (bs ++ (flat kids2 ++ flat rest2)) = stands-next (order U) at m (bs ++ (flat kids2 ++ flat rest2)) there in
      let pairs : AllSame T U ats bs × (map (position U) bs ≡ map (position T) ats) =
      pairs-alike n m (suc at) ats bs onceT onceU first alike.1 s.0.hold r.0.hold
      (stands-left (order T) (suc at) ats (flat kids ++ flat rest) hereNext) (stands-left (order U) (suc at) bs (flat kids2 ++ flat rest2) thereNext) in
      let long : length bs ≡ length ats = sym (pairs-length ats bs alike.1) in
      let hereKids : Stands (order T) (suc at + length ats) (flat kids ++ flat rest) = stands-right (order T) (suc at) ats (flat kids ++ flat rest) hereNext in
      let thereKids : Stands (order U) (suc at + length ats) (flat kids2 ++ flat rest2) =
      subst (λ k. Stands (order U) (suc at + k) (flat kids2 ++ flat rest2)) long (stands-right (order U) (suc at) bs (flat kids2 ++ flat rest2) thereNext) in
      let inner : AlikeAt kids kids2 =
      forest-alike n m (suc at + length ats) kids kids2 onceT onceU first alike.2 s.1 r.1
      (stands-left (order T) (suc at + length ats) (flat kids) (flat rest) hereKids) (stands-left (order U) (suc at + length ats) (flat kids2) (flat rest2) thereKids) in
      let longKids : length (flat kids2) ≡ length (flat kids) = sym (all-length (flat kids) (flat kids2) inner.nodes) in
      let later : AlikeAt rest rest2 =
      forest-alike p q (suc at + length ats + length (flat kids)) rest rest2 onceT onceU same alike.3 s.2 r.2
      (stands-right (order T) (suc at + length ats) (flat kids) (flat rest) hereKids)
      (subst (λ k. Stands (order U) (suc at + length ats + k) (flat rest2)) longKids (stands-right (order U) (suc at + length ats) (flat kids2) (flat rest2) thereKids)) in
      let one : SameNode T U n m = record {
        content = alike.0;
        parent = ap (position_at U) r.0.parent ∙ (same ∙ sym (ap (position_at T) s.0.parent));
        kids = ap (map (position U)) r.0.kids_are ∙ (inner.heads ∙ sym (ap (map (position T)) s.0.kids_are));
        attributes = ap (map (position U)) r.0.attributes ∙ (pairs.1 ∙ sym (ap (map (position T)) s.0.attributes));
      } in
      record {
        nodes = (one, all-append ats (flat kids ++ flat rest) bs (flat kids2 ++ flat rest2) pairs.0 (all-append (flat kids) (flat rest) (flat kids2) (flat rest2) inner.nodes later.nodes));
        heads = ap₂ (λ (x : Option ℕ) (xs : List (Option ℕ)). x ∷ xs) first later.heads;
      }

  -- nodes at the same positions tell the same
  pairs-told : SameTree T U → (ats bs : List ℕ) → ((a : ℕ) → In a ats → In a (order T)) → map (position U) bs ≡ map (position T) ats →
      flat_map (opens U) bs ≡ flat_map (opens T) ats
  pairs-told same [] [] listed e = refl
  pairs-told same [] (b ∷ bs) listed e = absurd (cc)
  pairs-told same (a ∷ ats) [] listed e = absurd (cc)
  pairs-told same (a ∷ ats) (b ∷ bs) listed e =
      let first : position U b ≡ position T a = (cc) in
      let others : map (position U) bs ≡ map (position T) ats = (cc) in
      let one : SameNode T U a b = same-at (order T) (order U) same a b (listed a (occurs-head a ats)) (sym first) in
      ap₂ (λ (x y : List Line). x ++ y) (ap (lines_at first_lines) one.content) (pairs-told same ats bs (λ k h. listed k (omega (arith, h))) others)

  forest-told : SameTree T U → (p q : ℕ) (F G : Forest) → Shows T p F → Shows U q G → ((n : ℕ) → In n (flat F) → In n (order T)) → map (position U) (tops G) ≡ map (position T) (tops F) →
      told (opens U) (closes U) G ≡ told (opens T) (closes T) F
  forest-told same p q bare bare s r listed e = refl
  forest-told same p q bare (tree m bs kids2 rest2) s r listed e = absurd (cc)
  forest-told same p q (tree n ats kids rest) bare s r listed e = absurd (cc)
  forest-told same p q (tree n ats kids rest) (tree m bs kids2 rest2) s r listed e =
      let first : position U m ≡ position T n = (cc) in
      let others : map (position U) (tops rest2) ≡ map (position T) (tops rest) = (cc) in
      let one : SameNode T U n m = same-at (order T) (order U) same n m (listed n (occurs-head n (ats ++ (flat kids ++ flat rest)))) (sym first) in
      let pairs : flat_map (opens U) bs ≡ flat_map (opens T) ats =
      pairs-told same ats bs (λ a h. listed a (simp occurs-append (omega (arith, h))))
      (sym (ap (map (position U)) r.0.attributes) ∙ (one.attributes ∙ ap (map (position T)) s.0.attributes)) in
      let inner : told (opens U) (closes U) kids2 ≡ told (opens T) (closes T) kids =
      forest-told same n m kids kids2 s.1 r.1 (λ k h. listed k (simp occurs-append (omega (arith, h))))
      (sym (ap (map (position U)) r.0.kids_are) ∙ (one.kids ∙ ap (map (position T)) s.0.kids_are)) in
      let later : told (opens U) (closes U) rest2 ≡ told (opens T) (closes T) rest =
      forest-told same p q rest rest2 s.2 r.2 (λ k h. listed k (simp occurs-append (omega (arith, h)))) others in
      rw (ap (lines_at first_lines) one.content, ap (lines_at last_lines) one.content, pairs, inner, later) refl

module _ (T U : Table) (one : WellFormed T) (other : WellFormed U) where
  root-content : content_of U 0 ≡ content_of T 0
  root-content = (root-silent (content_of U 0) other.root_kind).0 ∙ sym (root-silent (content_of T 0) one.root_kind).0

  orders : (order T ≡ 0 ∷ flat (forest_of T)) × (order U ≡ 0 ∷ flat (forest_of U))
  orders = (order-flat T (forest_of T) (whole T one), order-flat U (forest_of U) (whole U other))

  root-position : position U 0 ≡ position T 0
  root-position =
      let here : Stands (order T) 0 (0 ∷ flat (forest_of T)) = subst (λ l. Stands (order T) 0 l) orders.0 (stands-all (order T)) in
      let there : Stands (order U) 0 (0 ∷ flat (forest_of U)) = subst (λ l. Stands (order U) 0 l) orders.1 (stands-all (order U)) in
      stands-at (order U) 0 0 (flat (forest_of U)) (once U other) there ∙ sym (stands-at (order T) 0 0 (flat (forest_of T)) (once T one) here)

  pub same-lines-same-tree : lines T ≡ lines U → SameTree T U
  same-lines-same-tree told_same =
      let alike : AlikeForests T U (forest_of T) (forest_of U) =
      (agree T U (forest_of T) (forest_of U) (nodes T one) (nodes U other) [] [] refl refl (sym (lines-told T one) ∙ (told_same ∙ lines-told U other))).forests in
      let here : Stands (order T) 0 (0 ∷ flat (forest_of T)) = subst (λ l. Stands (order T) 0 l) orders.0 (stands-all (order T)) in
      let there : Stands (order U) 0 (0 ∷ flat (forest_of U)) = subst (λ l. Stands (order U) 0 l) orders.1 (stands-all (order U)) in
      let w : Whole T (forest_of T) = whole T one in
      let v : Whole U (forest_of U) = whole U other in
      let below : AlikeAt T U (forest_of T) (forest_of U) =
      forest-alike T U 0 0 1 (forest_of T) (forest_of U) (once T one) (once U other) root-position alike w.shows v.shows
      (stands-next (order T) 0 0 (flat (forest_of T)) here) (stands-next (order U) 0 0 (flat (forest_of U)) there) in
      let top : SameNode T U 0 0 = record {
        content = root-content;
        parent = ap (position_at U) v.root.no_parent ∙ sym (ap (position_at T) w.root.no_parent);
        kids = ap (map (position U)) v.root.kids_are ∙ (below.heads ∙ sym (ap (map (position T)) w.root.kids_are));
        attributes = ap (map (position U)) v.root.no_attributes ∙ sym (ap (map (position T)) w.root.no_attributes);
      } in
      subst (λ l. AllSame T U l (order U)) (sym orders.0) (subst (λ l. AllSame T U (0 ∷ flat (forest_of T)) l) (sym orders.1) (top, below.nodes))

  pub same-tree-same-lines : SameTree T U → lines T ≡ lines U
  same-tree-same-lines same =
      let w : Whole T (forest_of T) = whole T one in
      let v : Whole U (forest_of U) = whole U other in
      let listed : (n : ℕ) → In n (0 ∷ flat (forest_of T)) → In n (order T) = λ n h. subst (In n) (sym orders.0) h in
      let top : SameNode T U 0 0 = same-at T U (order T) (order U) same 0 0 (listed 0 (occurs-head 0 (flat (forest_of T)))) (sym root-position) in
      let below : told (opens U) (closes U) (forest_of U) ≡ told (opens T) (closes T) (forest_of T) =
      forest-told T U same 0 0 (forest_of T) (forest_of U) w.shows v.shows (λ n h. listed n (omega (arith, h)))
      (sym (ap (map (position U)) v.root.kids_are) ∙ (top.kids ∙ ap (map (position T)) w.root.kids_are)) in
      lines-told T one ∙ (ap (λ (l : List Line). l ++ []) (sym below) ∙ sym (lines-told U other))
