-- A table with a piece put in: its entries and its forest.
use Rattle.std.proofs.Common.{◌≡◌, ◌≢◌, ℕ, ◌+◌, ◌-◌, ◌<◌, ◌≤◌, zero, suc, true, false, List, [], ◌∷◌, ◌++◌, ◌⊎◌, length, map, take, drop, Option, None, Some, is_some, refl, sym, ap, ap₂, ◌∙◌, subst, inl, inr, ⊎_elim, true≢false, arith, append-nil, length-append, length-set, get_or-set_same, get_or-set_other}
use Rattle.std.proofs.lemmas.List.{length-map, get_or_append_left, get_or_past}
use Rattle.std.proofs.lemmas.Bool.{cases_lt}
use Rattle.doc_table.specs.Lists.{occurs, place_in}
use Rattle.doc_table.specs.Table.{Table, Facts, entry_at, parent_at, kids_at, attrs_at, content_at, parent_of, kids_of, attrs_of, content_of, is_live}
use Rattle.doc_table.specs.inner.Forest.{Forest, bare, tree, tops, flat, Shows, ShowsAttributes, Whole, alive}
use Rattle.doc_table.proofs.ListLemmas.{In, occurs-append, occurs-head, occurs-same, eq_or}
use Rattle.doc_table.proofs.Paths.{Path, plug, owner, around, elders, opened, occurs-plug, size-plug, SameLinks, shows-kept, replaced}
use Rattle.doc_table.proofs.Growing.{owner-live, around-other}
use Rattle.doc_table.proofs.Forests.{size-flat}
use Rattle.doc_table.proofs.Places.{alive-one}
use Rattle.doc_table.proofs.Telling.{order-flat}
use Rattle.doc_table.proofs.TreeLaws.{ordered}
use Rattle.doc_table.proofs.Ways.{live-below, In-live}
use Rattle.doc_table.specs.inner.Sound.{Formed}
use Rattle.doc_edits.specs.Changes.{changed_at, nodes_in, given_number, given_parent, given, with_kid, inserted}
use Rattle.doc_edits.proofs.NumberingLemmas.{place-first, place-short, place-one, Placed, placed, get-mapped, occurs-map_none, occurs-map_same}
use Rattle.doc_edits.proofs.GraftLemmas.{moved, tops-moved, size-moved, flat-moved}

-- what is given of a node
pub given-parent : (f : ℕ → ℕ) (p : ℕ) (o : Option Facts) → parent_at (given f p o) ≡ given_parent f p (parent_at o)
given-parent f p None = refl
given-parent f p (Some node) = refl

pub given-kids : (f : ℕ → ℕ) (p : ℕ) (o : Option Facts) → kids_at (given f p o) ≡ map f (kids_at o)
given-kids f p None = refl
given-kids f p (Some node) = refl

pub given-attributes : (f : ℕ → ℕ) (p : ℕ) (o : Option Facts) → attrs_at (given f p o) ≡ map f (attrs_at o)
given-attributes f p None = refl
given-attributes f p (Some node) = refl

pub given-content : (f : ℕ → ℕ) (p : ℕ) (o : Option Facts) → content_at (given f p o) ≡ content_at o
given-content f p None = refl
given-content f p (Some node) = refl

pub given-live : (f : ℕ → ℕ) (p : ℕ) (o : Option Facts) → is_some (given f p o) ≡ is_some o
given-live f p None = refl
given-live f p (Some node) = refl

-- the number under which the kids of a number come
abbrev pub lifted : (ℕ → ℕ) → ℕ → ℕ → ℕ
lifted f p zero = p
lifted f p (suc q) = f (suc q)

pub given-lifted : (f : ℕ → ℕ) (p q : ℕ) → given_parent f p (Some q) ≡ Some (lifted f p q)
given-lifted f p zero = refl
given-lifted f p (suc q) = refl

pub lifted-other : (f : ℕ → ℕ) (p q : ℕ) → q ≢ 0 → lifted f p q ≡ f q
lifted-other f p zero ne = absurd (ne refl)
lifted-other f p (suc q) ne = refl

-- what a node with a kid more keeps
kid-parent : (before k : ℕ) (o : Option Facts) → parent_at (with_kid before k o) ≡ parent_at o
kid-parent before k None = refl
kid-parent before k (Some node) = refl

kid-attributes : (before k : ℕ) (o : Option Facts) → attrs_at (with_kid before k o) ≡ attrs_at o
kid-attributes before k None = refl
kid-attributes before k (Some node) = refl

kid-content : (before k : ℕ) (o : Option Facts) → content_at (with_kid before k o) ≡ content_at o
kid-content before k None = refl
kid-content before k (Some node) = refl

kid-kids : (before k : ℕ) (o : Option Facts) → is_some o ≡ true → kids_at (with_kid before k o) ≡ take before (kids_at o) ++ k ∷ drop before (kids_at o)
kid-kids before k None h = absurd (true≢false (sym h))
kid-kids before k (Some node) h = refl

-- a piece's nodes are those of its forest
pub nodes-flat : (P : Table) (f : Formed P) → nodes_in P ≡ flat f.forest
nodes-flat P f =
    let all : 0 ∷ flat f.forest ≡ 0 ∷ (attrs_of P 0 ++ nodes_in P) = sym (order-flat P f.forest f.whole) ∙ (ordered P f).below_at 0 in
    let less : flat f.forest ≡ attrs_of P 0 ++ nodes_in P = (cc all) in
    sym (less ∙ ap (λ l. l ++ nodes_in P) f.whole.root.no_attributes)

-- a number is a new one, or an old one or past all
pub record IsNew (T P : Table) (n : ℕ) : Type 0 where
  pub number : ℕ
  pub here : In number (nodes_in P)
  pub is : n ≡ given_number T P number

abbrev pub IsOther : Table → Table → ℕ → Type 0
IsOther T P n = (n < length T) ⊎ (length T + length (nodes_in P) ≤ n)

pub new-or : (T P : Table) → ((n : ℕ) → occurs n (nodes_in P) ≤ 1) → (n : ℕ) → IsNew T P n ⊎ IsOther T P n
new-or T P once n =
    ⊎_elim (λ (h : n < length T). let o : IsOther T P n = inl h in let r : IsNew T P n ⊎ IsOther T P n = inr o in r)
    (λ (h : length T ≤ n). ⊎_elim
    (λ (k : n < length T + length (nodes_in P)).
    let r : Placed (nodes_in P) (n - length T) = placed (nodes_in P) once (n - length T) (omega (arith, h, k)) in
    let w : IsNew T P n = record { number = r.number; here = r.here; is = omega (arith, h, r.place) } in
    let s : IsNew T P n ⊎ IsOther T P n = inl w in s)
    (λ (k : length T + length (nodes_in P) ≤ n). let o : IsOther T P n = inr k in let r : IsNew T P n ⊎ IsOther T P n = inr o in r)
    (cases_lt n (length T + length (nodes_in P))))
    (cases_lt n (length T))

module _ (T P : Table) (p before : ℕ) (live : is_live T p ≡ true) where
  -- the entries: old ones stay but for the node that gets the piece, new ones are those given
  length-front : length (changed_at p (with_kid before (length T)) T) ≡ length T
  length-front = length-set T p (with_kid before (length T) (entry_at T p))

  pub length-inserted : length (inserted T p before P) ≡ length T + length (nodes_in P)
  length-inserted =
      length-append (changed_at p (with_kid before (length T)) T) (map (λ m. given (given_number T P) p (entry_at P m)) (nodes_in P))
      ∙ ap₂ (λ a b. a + b) length-front (length-map (nodes_in P) (λ m. given (given_number T P) p (entry_at P m)))

  entry-front : (m : ℕ) → m < length T → entry_at (inserted T p before P) m ≡ entry_at (changed_at p (with_kid before (length T)) T) m
  entry-front m h =
      get_or_append_left (changed_at p (with_kid before (length T)) T) (map (λ m. given (given_number T P) p (entry_at P m)) (nodes_in P)) None m (omega (arith, h, length-front))

  entry-old : (m : ℕ) → m < length T → m ≢ p → entry_at (inserted T p before P) m ≡ entry_at T m
  entry-old m h ne = entry-front m h ∙ get_or-set_other T p m (with_kid before (length T) (entry_at T p)) None ne

  entry-past : (m : ℕ) → length T + length (nodes_in P) ≤ m → entry_at (inserted T p before P) m ≡ entry_at T m
  entry-past m h =
      get_or_past (inserted T p before P) m None (omega (arith, h, length-inserted)) ∙ sym (get_or_past T m None (omega (arith, h)))

  entry-parent : entry_at (inserted T p before P) p ≡ with_kid before (length T) (entry_at T p)
  entry-parent = let h : p < length T = live-below T p live in entry-front p h ∙ get_or-set_same T p (with_kid before (length T) (entry_at T p)) None h

  pub entry-new : (m : ℕ) → In m (nodes_in P) → entry_at (inserted T p before P) (given_number T P m) ≡ given (given_number T P) p (entry_at P m)
  entry-new m h =
      subst (λ k. entry_at (inserted T p before P) (k + place_in m (nodes_in P)) ≡ given (given_number T P) p (entry_at P m)) length-front
      (get-mapped (λ m. given (given_number T P) p (entry_at P m)) (changed_at p (with_kid before (length T)) T) (nodes_in P) m None h)

  entry-other : (m : ℕ) → IsOther T P m → m ≢ p → entry_at (inserted T p before P) m ≡ entry_at T m
  entry-other m h ne =
      ⊎_elim (λ (k : m < length T). entry-old m k ne) (λ (k : length T + length (nodes_in P) ≤ m). entry-past m k) h

  -- what a word says of an entry stays where a kid more leaves it
  kept : {A : Type 0} (f : Option Facts → A) → f (with_kid before (length T) (entry_at T p)) ≡ f (entry_at T p) → (m : ℕ) → IsOther T P m →
      f (entry_at (inserted T p before P) m) ≡ f (entry_at T m)
  kept f stays m h =
      ⊎_elim (λ (e : m ≡ p). ap (λ k. f (entry_at (inserted T p before P) k)) e ∙ (ap f entry-parent ∙ (stays ∙ ap (λ k. f (entry_at T k)) (sym e))))
      (λ (np : m ≢ p). ap f (entry-other m h np)) (eq_or m p)

  pub parent-kept : (m : ℕ) → IsOther T P m → parent_of (inserted T p before P) m ≡ parent_of T m
  parent-kept m h = kept parent_at (kid-parent before (length T) (entry_at T p)) m h

  pub attributes-kept : (m : ℕ) → IsOther T P m → attrs_of (inserted T p before P) m ≡ attrs_of T m
  attributes-kept m h = kept attrs_at (kid-attributes before (length T) (entry_at T p)) m h

  pub content-kept : (m : ℕ) → IsOther T P m → content_of (inserted T p before P) m ≡ content_of T m
  content-kept m h = kept content_at (kid-content before (length T) (entry_at T p)) m h

  pub live-kept : (m : ℕ) → IsOther T P m → is_live (inserted T p before P) m ≡ is_live T m
  live-kept m h = kept is_some (kid-live (entry_at T p)) m h
    where
      kid-live : (o : Option Facts) → is_some (with_kid before (length T) o) ≡ is_some o
      kid-live None = refl
      kid-live (Some node) = refl

  -- the node that gets the piece has a kid more
  pub kids-parent : kids_of (inserted T p before P) p ≡ take before (kids_of T p) ++ length T ∷ drop before (kids_of T p)
  kids-parent = ap kids_at entry-parent ∙ kid-kids before (length T) (entry_at T p) live

  pub links-kept : (m : ℕ) → IsOther T P m → m ≢ p → SameLinks T (inserted T p before P) m
  links-kept m h np = record {
    parent = ap parent_at (entry-other m h np);
    attributes = ap attrs_at (entry-other m h np);
    kids = ap kids_at (entry-other m h np);
  }

  pub old-other : (m : ℕ) → is_live T m ≡ true → IsOther T P m
  old-other m h = inl (live-below T m h)

-- new numbers stand behind all old ones, each for one of the piece
module _ (T P : Table) where
  pub number-new : (m : ℕ) → In m (nodes_in P) → (length T ≤ given_number T P m) × (given_number T P m < length T + length (nodes_in P))
  number-new m h = (omega arith, omega (arith, place-short m (nodes_in P) h))

  pub number-one : (a b : ℕ) → In a (nodes_in P) → In b (nodes_in P) → given_number T P a ≡ given_number T P b → a ≡ b
  number-one a b ha hb e = place-one a b (nodes_in P) ha hb (omega (arith, e))

-- a forest that begins with a node
first-flat : (D : Forest) (k : ℕ) (ks : List ℕ) → tops D ≡ k ∷ ks → (rest : List ℕ) × (flat D ≡ k ∷ rest)
first-flat bare k ks e = absurd (cc)
first-flat (tree n ats kids rest) k ks e =
    let same : n ≡ k = (cc) in
    let r : (later : List ℕ) × (flat (tree n ats kids rest) ≡ k ∷ later) = (ats ++ (flat kids ++ flat rest), ap (λ m. m ∷ (ats ++ (flat kids ++ flat rest))) same) in r

-- a piece's nodes: each once, all live, and the root not among them
module _ (P : Table) (D : Forest) (v : Whole P D) (is : nodes_in P ≡ flat D) where
  pub nodes-once : (n : ℕ) → occurs n (nodes_in P) ≤ 1
  nodes-once n = rw is (omega (arith, v.once n, alive-one P n))

  pub nodes-live : (m : ℕ) → In m (nodes_in P) → is_live P m ≡ true
  nodes-live m h = In-live P D v m (let k : In m (flat D) = subst (In m) is h in omega (arith, k))

  pub nodes-other : (m : ℕ) → In m (nodes_in P) → m ≢ 0
  nodes-other m h e =
      let k : In 0 (flat D) = subst (λ n. In n (flat D)) e (subst (In m) is h) in
      omega (arith, k, v.once 0, alive-one P 0, occurs-same 0 (flat D))

module _ (T P : Table) (C : Path) (F : Forest) (before : ℕ) (w : Whole T (plug C F)) (D : Forest) (v : Whole P D) (is : nodes_in P ≡ flat D) (top : ℕ) (one : tops D ≡ top ∷ [])
    (front : elders C ≡ take before (kids_of T (owner C))) (back : tops F ≡ drop before (kids_of T (owner C))) where
  abbrev U : Table
  U = inserted T (owner C) before P

  abbrev f : ℕ → ℕ
  f = given_number T P

  live : is_live T (owner C) ≡ true
  live = owner-live T C F w

  pub number-top : f top ≡ length T
  number-top =
      let r = first-flat D top [] one in
      ap (λ ns. length T + place_in top ns) (is ∙ r.1) ∙ omega (arith, place-first top r.0)

  -- the table shows the piece's forest under its new numbers
  moved-attributes : (n : ℕ) (ats : List ℕ) → n ≢ 0 → ((m : ℕ) → In m ats → In m (nodes_in P)) → ShowsAttributes P n ats → ShowsAttributes U (f n) (map f ats)
  moved-attributes n [] ne inside s = tt
  moved-attributes n (a ∷ ats) ne inside s =
      let e : entry_at U (f a) ≡ given f (owner C) (entry_at P a) = entry-new T P (owner C) before live a (inside a (occurs-head a ats)) in (
        ap parent_at e ∙ (given-parent f (owner C) (entry_at P a) ∙ (ap (given_parent f (owner C)) s.0 ∙ (given-lifted f (owner C) n ∙ ap Some (lifted-other f (owner C) n ne)))),
        ap attrs_at e ∙ (given-attributes f (owner C) (entry_at P a) ∙ ap (map f) s.1),
        ap kids_at e ∙ (given-kids f (owner C) (entry_at P a) ∙ ap (map f) s.2),
        moved-attributes n ats ne (λ m h. inside m (omega (arith, h))) s.3,
      )

  moved-shown : (q : ℕ) (E G : Forest) → ((m : ℕ) → In m (flat E) → In m (nodes_in P)) → Shows P q E → Shows U (lifted f (owner C) q) G → Shows U (lifted f (owner C) q) (moved f E G)
  moved-shown q bare G inside s g = g
  moved-shown q (tree n ats kids rest) G inside s g =
      let here : In n (nodes_in P) = inside n (occurs-head n (ats ++ (flat kids ++ flat rest))) in
      let ne : n ≢ 0 = nodes-other P D v is n here in
      let e : entry_at U (f n) ≡ given f (owner C) (entry_at P n) = entry-new T P (owner C) before live n here in (
        record {
          parent = ap parent_at e ∙ (given-parent f (owner C) (entry_at P n) ∙ (ap (given_parent f (owner C)) s.0.parent ∙ given-lifted f (owner C) q));
          attributes = ap attrs_at e ∙ (given-attributes f (owner C) (entry_at P n) ∙ ap (map f) s.0.attributes);
          kids_are = ap kids_at e ∙ (given-kids f (owner C) (entry_at P n) ∙ (ap (map f) s.0.kids_are ∙ sym (tops-moved f kids bare ∙ append-nil (map f (tops kids)))));
          hold = moved-attributes n ats ne (λ m h. inside m (simp occurs-append (omega (arith, h)))) s.0.hold;
        },
        subst (λ k. Shows U k (moved f kids bare)) (lifted-other f (owner C) n ne) (moved-shown n kids bare (λ m h. inside m (simp occurs-append (omega (arith, h)))) s.1 tt),
        moved-shown q rest G (λ m h. inside m (simp occurs-append (omega (arith, h)))) s.2 g,
      )

  -- what lives is what lived, and the new numbers
  alive-new : (m : ℕ) → IsNew T P m → alive U m ≡ alive T m + occurs m (map f (nodes_in P))
  alive-new m n =
      let lives : is_live U m ≡ true =
      ap (is_live U) n.is ∙ (ap is_some (entry-new T P (owner C) before live n.number n.here) ∙ (given-live f (owner C) (entry_at P n.number) ∙ nodes-live P D v is n.number n.here)) in
      let bound : length T ≤ m = omega (arith, n.is, (number-new T P n.number n.here).0) in
      let dead : is_live T m ≡ false = ap is_some (get_or_past T m None bound) in
      let count : occurs m (map f (nodes_in P)) ≡ occurs n.number (nodes_in P) =
      ap (λ k. occurs k (map f (nodes_in P))) n.is ∙ occurs-map_same f n.number (nodes_in P) (λ k h e. number-one T P k n.number h n.here e) in
      rw (lives, dead) (omega (arith, count, n.here, nodes-once P D v is n.number))

  alive-other : (m : ℕ) → IsOther T P m → alive U m ≡ alive T m + occurs m (map f (nodes_in P))
  alive-other m o =
      let none : occurs m (map f (nodes_in P)) ≡ 0 = occurs-map_none f m (nodes_in P) (λ k h e. other-apart m k h o e) in
      rw (live-kept T P (owner C) before live m o) (omega (arith, none))
    where
      other-apart : (m k : ℕ) → In k (nodes_in P) → IsOther T P m → f k ≡ m → ⊥
      other-apart m k h o e = let r = number-new T P k h in
          ⊎_elim (λ (g : m < length T). omega (arith, e, r.0, g)) (λ (g : length T + length (nodes_in P) ≤ m). omega (arith, e, r.1, g)) o

  alive-inserted : (m : ℕ) → alive U m ≡ alive T m + occurs m (map f (nodes_in P))
  alive-inserted m = ⊎_elim (λ (n : IsNew T P m). alive-new m n) (λ (o : IsOther T P m). alive-other m o) (new-or T P (nodes-once P D v is) m)

  around-live : (m : ℕ) → In m (around C) → is_live T m ≡ true
  around-live m h = In-live T (plug C F) w m (omega (arith, h, occurs-plug m C F, occurs-append m (around C) (flat F)))

  behind-live : (m : ℕ) → In m (flat F) → is_live T m ≡ true
  behind-live m h = In-live T (plug C F) w m (omega (arith, h, occurs-plug m C F, occurs-append m (around C) (flat F)))

  behind-other : (m : ℕ) → In m (flat F) → m ≢ owner C
  behind-other m h e =
      let k : In (owner C) (flat F) = subst (λ n. In n (flat F)) e h in
      omega (arith, k, occurs-plug (owner C) C F, occurs-append (owner C) (around C) (flat F), occurs-same (owner C) (around C ++ flat F), w.once (owner C), alive-one T (owner C))

  -- the forest of the table with the piece
  pub whole-inserted : Whole U (plug C (moved f D F))
  whole-inserted =
      let o = opened T C F w.root w.shows in
      let old : IsOther T P (owner C) = old-other T P (owner C) before live (owner C) live in
      replaced T U C F (moved f D F) w
      (parent-kept T P (owner C) before live (owner C) old)
      (attributes-kept T P (owner C) before live (owner C) old)
      (λ m h. links-kept T P (owner C) before live m (old-other T P (owner C) before live m (around-live m h)) (around-other T C F w m h))
      (kids-parent T P (owner C) before live
      ∙ ap₂ (λ a b. a ++ b) (sym front) (ap₂ (λ a b. a ∷ b) (sym number-top) (sym back) ∙ sym (tops-moved f D F ∙ ap (λ l. map f l ++ tops F) one)))
      (moved-shown 0 D F (λ m h. subst (In m) (sym is) h) v.shows
      (shows-kept T U (owner C) F (λ m h. links-kept T P (owner C) before live m (old-other T P (owner C) before live m (behind-live m h)) (behind-other m h)) o.1))
      (λ m. omega (
        arith,
        alive-inserted m,
        w.once m,
        occurs-plug m C F,
        occurs-append m (around C) (flat F),
        occurs-append m (around C) (flat (moved f D F)),
        ap (occurs m) (flat-moved f D F),
        occurs-append m (map f (flat D)) (flat F),
        ap (λ l. occurs m (map f l)) is,
      ))
      (omega (arith, size-plug C F (moved f D F), size-moved f D F, length-inserted T P (owner C) before live, ap length is, size-flat D, w.few))
