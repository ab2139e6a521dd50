-- Renumbering by positions: nodes at the same position are alike, so that what is said of one is said of the other with the numbers changed.
use Rattle.std.proofs.Common.{◌≡◌, ◌≢◌, ℕ, ◌+◌, ◌<◌, ◌≤◌, suc, zero, Bool, true, false, cond, eqb, List, [], ◌∷◌, length, map, Option, None, Some, is_some, ◌⊎◌, inl, inr, refl, sym, ap, ap₂, ◌∙◌, subst, ⊎_elim, true≢false, arith, eq-eqb, ne_eqb}
use Rattle.std.specs.Prelude.{option_map}
use Rattle.doc_table.specs.Lists.{occurs, Distinct}
use Rattle.doc_table.specs.Table.{Table, Facts, entry_at, content_at, kids_at, attrs_at, parent_at, content_of, parent_of, kids_of, attrs_of, is_live}
use Rattle.doc_table.specs.Walks.{order}
use Rattle.doc_table.specs.Laws.{WellFormed, WellFormedIsEnough, Ordered, HasWaysUp}
use Rattle.doc_table.specs.SameTree.{position_in, position, position_at, SameNode, AllSame, SameTree}
use Rattle.doc_table.proofs.ListLemmas.{In, In-mem, mem-In, occurs-head, occurs-other, occurs-same}
use Rattle.doc_table.proofs.Positions.{position-cases, has-position}
use Rattle.doc_table.proofs.SameTreeLemmas.{all-length, same-at}
use Rattle.doc_table.proofs.Ways.{live-below}
use Rattle.tree_iso.specs.Renumbering.{moved, renumbered, Renumbers}
use Rattle.tree_iso.proofs.NumberLemmas.{position-moved}

-- a number stands in a list or it doesn't
in_or_out : (n : ℕ) (ns : List ℕ) → In n ns ⊎ (occurs n ns ≡ 0)
in_or_out n ns = by (occurs n ns) refl
  where
    by : (k : ℕ) → occurs n ns ≡ k → In n ns ⊎ (occurs n ns ≡ 0)
    by zero e = inr e
    by (suc k) e = inl (omega (arith, e))

map-along : (f g : ℕ → ℕ) (ns : List ℕ) → ((n : ℕ) → In n ns → f n ≡ g n) → map f ns ≡ map g ns
map-along f g [] same = refl
map-along f g (n ∷ ns) same =
    ap₂ (λ (x : ℕ) (xs : List ℕ). x ∷ xs) (same n (occurs-head n ns)) (map-along f g ns (λ m h. same m (omega (arith, h))))

moved-out : (ns ms : List ℕ) (past n : ℕ) → occurs n ns ≡ 0 → moved ns ms past n ≡ past + n
moved-out [] ms past n h = refl
moved-out (k ∷ ns) [] past n h = refl
moved-out (k ∷ ns) (m ∷ ms) past n h = by (eqb n k) h (moved-out ns ms past n)
  where
    by : (b : Bool) → cond b 1 0 + occurs n ns ≡ 0 → (occurs n ns ≡ 0 → moved ns ms past n ≡ past + n) → cond b m (moved ns ms past n) ≡ past + n
    by true g more = absurd (omega (arith, g))
    by false g more = more (omega (arith, g))

-- a number that stands in the first list goes to one at the same position of the second
record Goes (n m : ℕ) (ns ms : List ℕ) : Type 0 where
  listed : In m ms
  position_is : position_in m ms ≡ position_in n ns

moved-in : (ns ms : List ℕ) (past n : ℕ) → length ns ≡ length ms → Distinct ms → In n ns → Goes n (moved ns ms past n) ns ms
moved-in [] ms past n long once h = absurd (omega arith)
moved-in (k ∷ ns) [] past n long once h = absurd (omega (arith, long))
moved-in (k ∷ ns) (m ∷ ms) past n long once h =
    let r = by (eqb n k) h (moved-in ns ms past n (omega (arith, long)) (λ j. omega (arith, once j))) in
    record { listed = r.0; position_is = r.1 }
  where
    by : (b : Bool) → 1 ≤ cond b 1 0 + occurs n ns → (In n ns → Goes n (moved ns ms past n) ns ms) →
        (In (cond b m (moved ns ms past n)) (m ∷ ms)) × (position_in (cond b m (moved ns ms past n)) (m ∷ ms) ≡ cond b (Some 0) (option_map (λ i. suc i) (position_in n ns)))
    by true g more = (occurs-head m ms, ap (λ b. cond b (Some 0) (option_map (λ i. suc i) (position_in m ms))) (eq-eqb m m refl))
    by false g more =
        let rest : Goes n (moved ns ms past n) ns ms = more (omega (arith, g)) in
        let v : ℕ = moved ns ms past n in
        let other : v ≢ m = λ same. absurd (omega (arith, once m, occurs-same m ms, subst (λ j. In j ms) same rest.listed)) in (
          omega (arith, rest.listed, occurs-other v m ms other),
          ap (λ b. cond b (Some 0) (option_map (λ i. suc i) (position_in v ms))) (ne_eqb v m other) ∙ ap (option_map (λ i. suc i)) rest.position_is,
        )

moved-all : (ns ms : List ℕ) (past : ℕ) → length ns ≡ length ms → Distinct ns → map (moved ns ms past) ns ≡ ms
moved-all [] [] past long once = refl
moved-all [] (m ∷ ms) past long once = absurd (omega (arith, long))
moved-all (k ∷ ns) [] past long once = absurd (omega (arith, long))
moved-all (k ∷ ns) (m ∷ ms) past long once =
    let rest : map (moved (k ∷ ns) (m ∷ ms) past) ns ≡ map (moved ns ms past) ns =
    map-along (moved (k ∷ ns) (m ∷ ms) past) (moved ns ms past) ns
    (λ n h. ap (λ b. cond b m (moved ns ms past n)) (ne_eqb n k (λ same. absurd (omega (arith, once k, occurs-same k ns, subst (λ j. In j ns) same h))))) in
    ap₂ (λ (x : ℕ) (xs : List ℕ). x ∷ xs)
    (ap (λ b. cond b m (moved ns ms past k)) (eq-eqb k k refl))
    (rest ∙ moved-all ns ms past (omega (arith, long)) (λ j. omega (arith, once j)))

-- different numbers of a list have different positions
position-apart : (ms : List ℕ) (a b : ℕ) → In a ms → position_in a ms ≡ position_in b ms → a ≡ b
position-apart [] a b h e = absurd (omega arith)
position-apart (m ∷ ms) a b h e = by (position-cases a m b m ms ms e) (λ g k. position-apart ms a b g k)
  where
    by : ((a ≡ m) × (b ≡ m)) ⊎ ((a ≢ m) × (position_in a ms ≡ position_in b ms)) → (In a ms → position_in a ms ≡ position_in b ms → a ≡ b) → a ≡ b
    by (inl both) go = both.0 ∙ sym both.1
    by (inr others) go = go (omega (arith, h, occurs-other a m ms others.0)) others.1

none-entry : (o : Option Facts) → is_some o ≡ false → o ≡ None
none-entry None h = refl
none-entry (Some node) h = absurd (true≢false h)

-- a number without a node has no content, no parent, no kids and no attributes
record Bare (T : Table) (n : ℕ) : Type 0 where
  content : content_of T n ≡ None
  parent : parent_of T n ≡ None
  kids : kids_of T n ≡ []
  attributes : attrs_of T n ≡ []

bare-entry : (T : Table) (n : ℕ) → is_live T n ≡ false → Bare T n
bare-entry T n h =
    let e : entry_at T n ≡ None = none-entry (entry_at T n) h in
    record { content = ap content_at e; parent = ap parent_at e; kids = ap kids_at e; attributes = ap attrs_at e }

module _ (T : Table) (ord : Ordered T) where
  listed : (n : ℕ) → is_live T n ≡ true → In n (order T)
  listed n h = mem-In n (order T) (sym (ord.live_in_order n) ∙ h)

  lives : (n : ℕ) → In n (order T) → is_live T n ≡ true
  lives n h = ord.live_in_order n ∙ In-mem n (order T) h

  dead : (n : ℕ) → is_live T n ≡ false → occurs n (order T) ≡ 0
  dead n h = ⊎_elim (λ (k : In n (order T)). absurd (true≢false (sym (lives n k) ∙ h))) (λ (e : occurs n (order T) ≡ 0). e) (in_or_out n (order T))

module _ (enough : WellFormedIsEnough) (T U : Table) (one : WellFormed T) (other : WellFormed U) (same : SameTree T U) where
  abbrev f : ℕ → ℕ
  f n = renumbered T U n

  ordered-before : Ordered T
  ordered-before = (enough T one).0

  ordered-after : Ordered U
  ordered-after = (enough U other).0

  ways-before : HasWaysUp T
  ways-before = (enough T one).1

  ways-after : HasWaysUp U
  ways-after = (enough U other).1

  long : length (order T) ≡ length (order U)
  long = all-length T U (order T) (order U) same

  goes : (n : ℕ) → In n (order T) → Goes n (f n) (order T) (order U)
  goes n h = moved-in (order T) (order U) (length U) n long ordered-after.once h

  past : (n : ℕ) → occurs n (order T) ≡ 0 → f n ≡ length U + n
  past n h = moved-out (order T) (order U) (length U) n h

  -- what lives is below the length, and what goes past it doesn't live
  below : (n : ℕ) → In n (order T) → f n < length U
  below n h = live-below U (f n) (lives U ordered-after (f n) (goes n h).listed)

  dead-after : (n : ℕ) → occurs n (order T) ≡ 0 → is_live U (f n) ≡ false
  dead-after n h = by (is_live U (f n)) refl
    where
      by : (b : Bool) → is_live U (f n) ≡ b → b ≡ false
      by true e = absurd (omega (arith, live-below U (f n) e, past n h))
      by false e = refl

  apart-here : (a b : ℕ) → f a ≡ f b → a ≡ b
  apart-here a b e =
      ⊎_elim
      (λ (h : In a (order T)). ⊎_elim
      (λ (k : In b (order T)). position-apart (order T) a b h (sym (goes a h).position_is ∙ (ap (λ n. position_in n (order U)) e ∙ (goes b k).position_is)))
      (λ (k : occurs b (order T) ≡ 0). absurd (omega (arith, below a h, past b k, e)))
      (in_or_out b (order T)))
      (λ (h : occurs a (order T) ≡ 0). ⊎_elim
      (λ (k : In b (order T)). absurd (omega (arith, below b k, past a h, e)))
      (λ (k : occurs b (order T) ≡ 0). omega (arith, past a h, past b k, e))
      (in_or_out b (order T)))
      (in_or_out a (order T))

  -- what has the same position is the number to which the other goes
  number : (p q : ℕ) → In p (order T) → In q (order U) → position U q ≡ position T p → q ≡ f p
  number p q h k e = position-apart (order U) q (f p) k (e ∙ sym (goes p h).position_is)

  parent-goes : (o p : Option ℕ) → ((n : ℕ) → o ≡ Some n → In n (order T)) → ((m : ℕ) → p ≡ Some m → In m (order U)) → position_at U p ≡ position_at T o → p ≡ option_map f o
  parent-goes None None here there e = refl
  parent-goes None (Some m) here there e = absurd (let at = has-position m (order U) (there m refl) in let bad : None ≡ Some at.0 = sym e ∙ at.1 in (cc bad))
  parent-goes (Some n) None here there e = absurd (let at = has-position n (order T) (here n refl) in let bad : None ≡ Some at.0 = e ∙ at.1 in (cc bad))
  parent-goes (Some n) (Some m) here there e = ap Some (number n m (here n refl) (there m refl) e)

  numbers-go : (ns ms : List ℕ) → ((n : ℕ) → In n ns → In n (order T)) → ((m : ℕ) → In m ms → In m (order U)) → map (position U) ms ≡ map (position T) ns → ms ≡ map f ns
  numbers-go [] [] here there e = refl
  numbers-go [] (m ∷ ms) here there e = absurd (cc)
  numbers-go (n ∷ ns) [] here there e = absurd (cc)
  numbers-go (n ∷ ns) (m ∷ ms) here there e =
      let head : position U m ≡ position T n = (cc) in
      let rest : map (position U) ms ≡ map (position T) ns = (cc) in
      ap₂ (λ (x : ℕ) (xs : List ℕ). x ∷ xs)
      (number n m (here n (occurs-head n ns)) (there m (occurs-head m ms)) head)
      (numbers-go ns ms (λ k h. here k (omega (arith, h))) (λ k h. there k (omega (arith, h))) rest)

  record Follows (n : ℕ) : Type 0 where
    content : content_of U (f n) ≡ content_of T n
    parent : parent_of U (f n) ≡ option_map f (parent_of T n)
    kids : kids_of U (f n) ≡ map f (kids_of T n)
    attributes : attrs_of U (f n) ≡ map f (attrs_of T n)

  follows : (n : ℕ) → Follows n
  follows n =
      ⊎_elim
      (λ (h : In n (order T)).
      let at : Goes n (f n) (order T) (order U) = goes n h in
      let alike : SameNode T U n (f n) = same-at T U (order T) (order U) same n (f n) h (sym at.position_is) in
      let r : Follows n = record {
        content = alike.content;
        parent = parent-goes (parent_of T n) (parent_of U (f n))
            (λ p e. listed T ordered-before p (ways-before.parent_live n p e)) (λ p e. listed U ordered-after p (ways-after.parent_live (f n) p e)) alike.parent;
        kids = numbers-go (kids_of T n) (kids_of U (f n))
            (λ k i. listed T ordered-before k (ways-before.kid_live n k (In-mem k (kids_of T n) i)))
            (λ k i. listed U ordered-after k (ways-after.kid_live (f n) k (In-mem k (kids_of U (f n)) i))) alike.kids;
        attributes = numbers-go (attrs_of T n) (attrs_of U (f n))
            (λ a i. listed T ordered-before a (ways-before.attribute_live n a (In-mem a (attrs_of T n) i)))
            (λ a i. listed U ordered-after a (ways-after.attribute_live (f n) a (In-mem a (attrs_of U (f n)) i))) alike.attributes;
      } in r)
      (λ (h : occurs n (order T) ≡ 0).
      let before : Bare T n = bare-entry T n (by (is_live T n) refl h) in
      let after : Bare U (f n) = bare-entry U (f n) (dead-after n h) in
      let r : Follows n = record {
        content = after.content ∙ sym before.content;
        parent = after.parent ∙ ap (option_map f) (sym before.parent);
        kids = after.kids ∙ ap (map f) (sym before.kids);
        attributes = after.attributes ∙ ap (map f) (sym before.attributes);
      } in r)
      (in_or_out n (order T))
    where
      by : (b : Bool) → is_live T n ≡ b → occurs n (order T) ≡ 0 → b ≡ false
      by true e h = absurd (omega (arith, listed T ordered-before n e, h))
      by false e h = refl

  pub same-renumbered : Renumbers (renumbered T U) T U
  same-renumbered = record {
    apart = apart-here;
    in_order = sym (moved-all (order T) (order U) (length U) long ordered-before.once);
    content = λ n. (follows n).content;
    parent = λ n. (follows n).parent;
    kids = λ n. (follows n).kids;
    attributes = λ n. (follows n).attributes;
  }

module _ (f : ℕ → ℕ) (T U : Table) (r : Renumbers f T U) where
  position-stays : (n : ℕ) → position U (f n) ≡ position T n
  position-stays n = ap (position_in (f n)) r.in_order ∙ position-moved f r.apart n (order T)

  positions-stay : (ns : List ℕ) → map (position U) (map f ns) ≡ map (position T) ns
  positions-stay [] = refl
  positions-stay (n ∷ ns) = ap₂ (λ (x : Option ℕ) (xs : List (Option ℕ)). x ∷ xs) (position-stays n) (positions-stay ns)

  parent-stays : (o : Option ℕ) → position_at U (option_map f o) ≡ position_at T o
  parent-stays None = refl
  parent-stays (Some n) = position-stays n

  all-same : (ns : List ℕ) → AllSame T U ns (map f ns)
  all-same [] = tt
  all-same (n ∷ ns) = (
    record {
      content = r.content n;
      parent = ap (position_at U) (r.parent n) ∙ parent-stays (parent_of T n);
      kids = ap (map (position U)) (r.kids n) ∙ positions-stay (kids_of T n);
      attributes = ap (map (position U)) (r.attributes n) ∙ positions-stay (attrs_of T n);
    },
    all-same ns,
  )

  pub renumbered-same : SameTree T U
  renumbered-same = subst (λ l. AllSame T U (order T) l) (sym r.in_order) (all-same (order T))
