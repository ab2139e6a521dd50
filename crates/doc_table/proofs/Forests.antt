-- The forest of a well-formed table: no way down is longer than there are numbers, so that the descent from the root leaves
-- out no kid; and each live number is met once, since it is met as often as its parent, and the root is met once.
use Rattle.std.proofs.Common.{◌≡◌, ◌≢◌, ℕ, ◌+◌, ◌≤◌, suc, zero, Bool, true, false, cond, eqb, List, [], ◌∷◌, ◌++◌, length, Option, None, Some, is_some, sum_by, refl, sym, ap, ap₂, ◌∙◌, subst, ⊎_elim, true≢false, arith, length-append, eq-eqb, ne_eqb}
use Rattle.std.proofs.lemmas.List.Sums.{sum_by-cons, sum_by-append}
use Rattle.doc_table.specs.declared.kind.Kind.{Kind}
use Rattle.doc_table.specs.declared.kind.Kind.TheVariants.{Root, Element, Attribute}
use Rattle.doc_table.specs.Lists.{mem, occurs, Distinct}
use Rattle.doc_table.specs.Table.{Table, Facts, entry_at, content_at, kind_at, parent_of, kids_of, attrs_of, kind_of, is_live}
use Rattle.doc_table.specs.Walks.{climb, above}
use Rattle.doc_table.specs.Kinds.{holds_kids, can_be_kid}
use Rattle.doc_table.specs.Laws.{WellFormed}
use Rattle.doc_table.specs.inner.Forest.{Forest, bare, tree, tops, flat, size, Shows, ShowsAttributes, Whole, alive}
use Rattle.doc_table.specs.inner.Sound.{Formed}
use Rattle.doc_table.proofs.ListLemmas.{In, In-mem, mem-In, In-cons, In-append, occurs-append, occurs-head, occurs-other, occurs-same, eq_or, mem-head}
use Rattle.doc_table.proofs.Counts.{live-count, text-count, few-below}
use Rattle.doc_table.proofs.Places.{attribute-parent, alive-one}
use Rattle.doc_table.proofs.Ways.{live-below, parent-has}

-- a number that has a kind is live
has-kind : (T : Table) (n : ℕ) {kind : Kind} → kind_of T n ≡ Some kind → is_live T n ≡ true
has-kind T n {kind = kind} h = by (entry_at T n) h
  where
    by : (o : Option Facts) → kind_at (content_at o) ≡ Some kind → is_some o ≡ true
    by None e = absurd (cc)
    by (Some node) e = refl

pub size-flat : (F : Forest) → size F ≡ length (flat F)
size-flat bare = refl
size-flat (tree n ats kids rest) =
    omega (arith, size-flat kids, size-flat rest, length-append ats (flat kids ++ flat rest), length-append (flat kids) (flat rest))

-- the forest below some numbers, so many levels deep
abbrev row : Table → (List ℕ → Forest) → List ℕ → Forest
row T under [] = bare
row T under (n ∷ ns) = tree n (attrs_of T n) (under (kids_of T n)) (row T under ns)

abbrev sprout : Table → ℕ → List ℕ → Forest
sprout T zero ns = bare
sprout T (suc levels) ns = row T (λ ms. sprout T levels ms) ns

-- a way up: the parent of each number is the next one, and the last is the root
abbrev IsWay : Table → ℕ → List ℕ → Type 0
IsWay T n [] = n ≡ 0
IsWay T n (p ∷ path) = (parent_of T n ≡ Some p) × IsWay T p path

-- so many levels above the deepest that there can be, a number with the way up from it
record Descends (T : Table) (levels n : ℕ) (path : List ℕ) : Type 0 where
  way : IsWay T n path
  once : Distinct (n ∷ path)
  room : levels + suc (length path) ≡ length T

row-tops : (T : Table) (under : List ℕ → Forest) (ns : List ℕ) → ns ≡ tops (row T under ns)
row-tops T under [] = refl
row-tops T under (n ∷ ns) = ap (λ l. n ∷ l) (row-tops T under ns)

module _ (T : Table) (form : WellFormed T) where
  no_attributes : (n : ℕ) → kind_of T n ≢ Some Element → attrs_of T n ≡ []
  no_attributes n other = by (attrs_of T n) refl
    where
      by : (ats : List ℕ) → attrs_of T n ≡ ats → ats ≡ []
      by [] e = refl
      by (a ∷ ats) e = absurd (other (form.owner_kind n a (ap (mem a) e ∙ mem-head a ats)))

  pub no_kids : (n : ℕ) → holds_kids (kind_of T n) ≡ false → kids_of T n ≡ []
  no_kids n none = by (kids_of T n) refl
    where
      by : (ks : List ℕ) → kids_of T n ≡ ks → ks ≡ []
      by [] e = refl
      by (k ∷ ks) e = absurd (true≢false (sym (form.holder_kind n k (ap (mem k) e ∙ mem-head k ks)) ∙ none))

  -- an attribute hangs from its element and holds nothing
  attributes-shown : (n : ℕ) (ats : List ℕ) → ((a : ℕ) → In a ats → mem a (attrs_of T n) ≡ true) → ShowsAttributes T n ats
  attributes-shown n [] listed = tt
  attributes-shown n (a ∷ ats) listed =
      let here : mem a (attrs_of T n) ≡ true = listed a (occurs-head a ats) in
      let kind : kind_of T a ≡ Some Attribute = form.attribute_kind n a here in (
        form.attribute_parent n a here,
        no_attributes a (λ is. absurd (cc (kind, is))),
        no_kids a (ap holds_kids kind),
        attributes-shown n ats (λ b h. listed b (omega (arith, h))),
      )

  -- on a way up stand live numbers
  way-live : (n : ℕ) (path : List ℕ) (m : ℕ) → IsWay T n path → In m (n ∷ path) → is_live T m ≡ true
  way-live n [] m way h = ⊎_elim
      (λ (same : m ≡ n). ap (is_live T) (same ∙ way) ∙ has-kind T 0 form.root_kind)
      (λ (g : In m []). absurd (omega arith))
      (In-cons m n [] h)
  way-live n (p ∷ path) m way h = ⊎_elim
      (λ (same : m ≡ n). ap (is_live T) same ∙ parent-has T n p way.0)
      (λ (g : In m (p ∷ path)). way-live p path m way.1 g)
      (In-cons m n (p ∷ path) h)

  -- with a number its parent stands there, after the first
  way-on : (n : ℕ) (path : List ℕ) (m q : ℕ) → IsWay T n path → parent_of T m ≡ Some q → In m (n ∷ path) → In q path
  way-on n [] m q way up h = ⊎_elim
      (λ (same : m ≡ n). absurd (let none : parent_of T m ≡ None = ap (parent_of T) (same ∙ way) ∙ form.root_parent in cc))
      (λ (g : In m []). absurd (omega arith))
      (In-cons m n [] h)
  way-on n (p ∷ path) m q way up h = ⊎_elim
      (λ (same : m ≡ n).
      let goes : parent_of T n ≡ Some q = ap (parent_of T) (sym same) ∙ up in
      let first : parent_of T n ≡ Some p = way.0 in
      let is : p ≡ q = (cc) in
      subst (λ k. In k (p ∷ path)) is (occurs-head p path))
      (λ (g : In m (p ∷ path)). omega (arith, way-on p path m q way.1 up g))
      (In-cons m n (p ∷ path) h)

  -- a kid is not on the way up already
  further : (n : ℕ) (path : List ℕ) (k : ℕ) → IsWay T n path → Distinct (n ∷ path) → parent_of T k ≡ Some n → Distinct (k ∷ n ∷ path)
  further n path k way once up m = by (occurs k (n ∷ path)) refl
    where
      by : (c : ℕ) → occurs k (n ∷ path) ≡ c → occurs m (k ∷ n ∷ path) ≤ 1
      by zero none = ⊎_elim
          (λ (same : m ≡ k). subst (λ j. occurs j (k ∷ n ∷ path) ≤ 1) (sym same) (omega (arith, occurs-same k (n ∷ path), none)))
          (λ (ne : m ≢ k). omega (arith, occurs-other m k (n ∷ path) ne, once m))
          (eq_or m k)
      by (suc c) some =
          let again : In n path = way-on n path k n way up (omega (arith, some)) in
          absurd (omega (arith, again, occurs-same n path, once n))

  downwards : (levels n : ℕ) (path : List ℕ) (k : ℕ) → Descends T (suc levels) n path → parent_of T k ≡ Some n → Descends T levels k (n ∷ path)
  downwards levels n path k d up = record {
    way = (up, d.way);
    once = further n path k d.way d.once up;
    room = omega (arith, d.room);
  }

  -- where no level is left below a number, it has no kids: all numbers are on the way up
  last-level : (n : ℕ) (path : List ℕ) → Descends T zero n path → kids_of T n ≡ []
  last-level n path d = by (kids_of T n) refl
    where
      by : (ks : List ℕ) → kids_of T n ≡ ks → ks ≡ []
      by [] e = refl
      by (k ∷ ks) e =
          let up : parent_of T k ≡ Some n = form.kid_parent n k (ap (mem k) e ∙ mem-head k ks) in
          let few : length (k ∷ n ∷ path) ≤ length T =
          few-below (length T) (k ∷ n ∷ path) (further n path k d.way d.once up) (λ m h. live-below T m (way-live k (n ∷ path) m (up, d.way) h)) in
          absurd (omega (arith, few, d.room))

  kids-shown : (levels n : ℕ) (path : List ℕ) → Descends T levels n path → kids_of T n ≡ tops (sprout T levels (kids_of T n))
  kids-shown zero n path d = last-level n path d
  kids-shown (suc levels) n path d = row-tops T (λ ms. sprout T levels ms) (kids_of T n)

  row-shows : (levels : ℕ) → ((n : ℕ) (path ms : List ℕ) → Descends T levels n path → ((k : ℕ) → In k ms → parent_of T k ≡ Some n) → Shows T n (sprout T levels ms)) →
      (n : ℕ) (path ks : List ℕ) → Descends T (suc levels) n path → ((k : ℕ) → In k ks → parent_of T k ≡ Some n) → Shows T n (sprout T (suc levels) ks)
  row-shows levels below n path [] d hang = tt
  row-shows levels below n path (k ∷ ks) d hang =
      let next : Descends T levels k (n ∷ path) = downwards levels n path k d (hang k (occurs-head k ks)) in (
        record {
          parent = hang k (occurs-head k ks);
          attributes = refl;
          kids_are = kids-shown levels k (n ∷ path) next;
          hold = attributes-shown k (attrs_of T k) (λ a h. In-mem a (attrs_of T k) h);
        },
        below k (n ∷ path) (kids_of T k) next (λ j h. form.kid_parent k j (In-mem j (kids_of T k) h)),
        row-shows levels below n path ks d (λ j h. hang j (omega (arith, h))),
      )

  sprout-shows : (levels n : ℕ) (path ks : List ℕ) → Descends T levels n path → ((k : ℕ) → In k ks → parent_of T k ≡ Some n) → Shows T n (sprout T levels ks)
  sprout-shows zero n path ks d hang = tt
  sprout-shows (suc levels) n path ks d hang = row-shows levels (λ m way ms e h. sprout-shows levels m way ms e h) n path ks d hang

-- how often a number hangs from another
abbrev hung : Table → ℕ → ℕ → ℕ
hung T n m = occurs n (attrs_of T m ++ kids_of T m)

-- each number of a forest hangs from one
record Hangs (T : Table) (m : ℕ) : Type 0 where
  from : ℕ
  parent : parent_of T m ≡ Some from

module _ (T : Table) where
  hangs-shown : (p : ℕ) (F : Forest) → Shows T p F → (m : ℕ) → In m (flat F) → Hangs T m
  hangs-shown p bare s m h = absurd (omega arith)
  hangs-shown p (tree n ats kids rest) s m h =
      ⊎_elim (λ (e : m ≡ n). let r : Hangs T m = record { from = p; parent = ap (parent_of T) e ∙ s.0.parent } in r)
      (λ (g : In m (ats ++ (flat kids ++ flat rest))). ⊎_elim
      (λ (k : In m ats). let r : Hangs T m = record { from = n; parent = attribute-parent T n ats m s.0.hold k } in r)
      (λ (k : In m (flat kids ++ flat rest)). ⊎_elim
      (λ (i : In m (flat kids)). hangs-shown n kids s.1 m i)
      (λ (i : In m (flat rest)). hangs-shown p rest s.2 m i)
      (In-append m (flat kids) (flat rest) k))
      (In-append m ats (flat kids ++ flat rest) g))
      (In-cons m n (ats ++ (flat kids ++ flat rest)) h)

  -- from attributes nothing hangs
  hung-attributes : (p n : ℕ) (ats : List ℕ) → ShowsAttributes T p ats → sum_by (hung T n) ats ≡ 0
  hung-attributes p n [] s = refl
  hung-attributes p n (a ∷ ats) s =
      sum_by-cons (hung T n) a ats ∙ ap₂ (λ (x y : ℕ). x + y) (ap₂ (λ (x y : List ℕ). occurs n (x ++ y)) s.1 s.2) (hung-attributes p n ats s.3)

  -- a number stands in a forest as often as it stands at the top or hangs from a number there
  met : (p n : ℕ) (F : Forest) → Shows T p F → occurs n (flat F) ≡ occurs n (tops F) + sum_by (hung T n) (flat F)
  met p n bare s = refl
  met p n (tree m ats kids rest) s =
      let own : hung T n m ≡ occurs n ats + occurs n (tops kids) =
      ap₂ (λ (x y : List ℕ). occurs n (x ++ y)) s.0.attributes s.0.kids_are ∙ occurs-append n ats (tops kids) in
      omega (
        arith,
        own,
        met m n kids s.1,
        met p n rest s.2,
        hung-attributes m n ats s.0.hold,
        occurs-append n ats (flat kids ++ flat rest),
        occurs-append n (flat kids) (flat rest),
        sum_by-cons (hung T n) m (ats ++ (flat kids ++ flat rest)),
        sum_by-append (hung T n) ats (flat kids ++ flat rest),
        sum_by-append (hung T n) (flat kids) (flat rest),
      )

module _ (T : Table) (form : WellFormed T) where
  -- no number is both an attribute and a kid
  not-both : (n p : ℕ) → In n (attrs_of T p) → In n (kids_of T p) → ⊥
  not-both n p a k =
      true≢false (sym (form.kid_kind p n (In-mem n (kids_of T p) k)) ∙ ap can_be_kid (form.attribute_kind p n (In-mem n (attrs_of T p) a)))

  -- a number hangs once from its parent, and from no other
  hung-once : (n p m : ℕ) → parent_of T n ≡ Some p → hung T n m ≡ cond (eqb p m) 1 0
  hung-once n p m up = ⊎_elim
      (λ (same : p ≡ m).
      let here : In n (attrs_of T p ++ kids_of T p) = mem-In n (attrs_of T p ++ kids_of T p) (form.is_listed n p up) in
      let both : hung T n p ≡ occurs n (attrs_of T p) + occurs n (kids_of T p) = occurs-append n (attrs_of T p) (kids_of T p) in
      let one : hung T n p ≡ 1 = by (occurs n (attrs_of T p)) (occurs n (kids_of T p)) refl refl here both (form.attributes_once p n) (form.kids_once p n) in
      ap (hung T n) (sym same) ∙ (one ∙ ap (λ b. cond b 1 0) (sym (eq-eqb p m same))))
      (λ (ne : p ≢ m). none (occurs n (attrs_of T m ++ kids_of T m)) refl ne ∙ ap (λ b. cond b 1 0) (sym (ne_eqb p m ne)))
      (eq_or p m)
    where
      by : (a k : ℕ) → occurs n (attrs_of T p) ≡ a → occurs n (kids_of T p) ≡ k → 1 ≤ hung T n p → hung T n p ≡ occurs n (attrs_of T p) + occurs n (kids_of T p) →
          occurs n (attrs_of T p) ≤ 1 → occurs n (kids_of T p) ≤ 1 → hung T n p ≡ 1
      by zero k ea ek here both la lk = omega (arith, ea, ek, here, both, la, lk)
      by (suc a) zero ea ek here both la lk = omega (arith, ea, ek, here, both, la, lk)
      by (suc a) (suc k) ea ek here both la lk = absurd (not-both n p (omega (arith, ea)) (omega (arith, ek)))

      none : (c : ℕ) → hung T n m ≡ c → p ≢ m → c ≡ 0
      none zero e ne = refl
      none (suc c) e ne =
          let other : parent_of T n ≡ Some m = ⊎_elim
          (λ (h : In n (attrs_of T m)). form.attribute_parent m n (In-mem n (attrs_of T m) h))
          (λ (h : In n (kids_of T m)). form.kid_parent m n (In-mem n (kids_of T m) h))
          (In-append n (attrs_of T m) (kids_of T m) (omega (arith, e))) in
          let same : p ≡ m = (cc) in
          absurd (ne same)

  hung-along : (n p : ℕ) (ms : List ℕ) → parent_of T n ≡ Some p → sum_by (hung T n) ms ≡ occurs p ms
  hung-along n p [] up = refl
  hung-along n p (m ∷ ms) up = sum_by-cons (hung T n) m ms ∙ ap₂ (λ (x y : ℕ). x + y) (hung-once n p m up) (hung-along n p ms up)

module _ (T : Table) (form : WellFormed T) (levels : ℕ) (long : length T ≡ suc levels) where
  abbrev forest : Forest
  forest = sprout T levels (kids_of T 0)

  root-alone : attrs_of T 0 ≡ []
  root-alone = no_attributes T form 0 (λ is. absurd (cc (form.root_kind, is)))

  start : Descends T levels 0 []
  start = record {
    way = refl;
    once = λ m. ⊎_elim
        (λ (same : m ≡ 0). subst (λ j. occurs j (0 ∷ []) ≤ 1) (sym same) (omega arith))
        (λ (ne : m ≢ 0). omega (arith, occurs-other m 0 [] ne))
        (eq_or m 0);
    room = omega (arith, long);
  }

  root-kids : kids_of T 0 ≡ tops forest
  root-kids = kids-shown T form levels 0 [] start

  shown : Shows T 0 forest
  shown = sprout-shows T form levels 0 [] (kids_of T 0) start (λ k h. form.kid_parent 0 k (In-mem k (kids_of T 0) h))

  -- the root stands in the list once
  root-met : occurs 0 (0 ∷ flat forest) ≡ 1
  root-met = by (occurs 0 (flat forest)) refl
    where
      by : (c : ℕ) → occurs 0 (flat forest) ≡ c → occurs 0 (0 ∷ flat forest) ≡ 1
      by zero e = omega (arith, occurs-same 0 (flat forest), e)
      by (suc c) e =
          let hangs : Hangs T 0 = hangs-shown T 0 forest shown 0 (omega (arith, e)) in
          absurd (cc (form.root_parent, hangs.parent))

  -- any other number stands there as often as its parent
  parent-met : (n p : ℕ) → parent_of T n ≡ Some p → occurs n (0 ∷ flat forest) ≡ occurs p (0 ∷ flat forest)
  parent-met n p up =
      let ne : n ≢ 0 = λ same. absurd (let none : parent_of T n ≡ None = ap (parent_of T) same ∙ form.root_parent in cc) in
      let top : hung T n 0 ≡ occurs n (tops forest) = ap₂ (λ (x y : List ℕ). occurs n (x ++ y)) root-alone root-kids in
      omega (
        arith,
        top,
        occurs-other n 0 (flat forest) ne,
        met T 0 n forest shown,
        sum_by-cons (hung T n) 0 (flat forest),
        hung-along T form n p (0 ∷ flat forest) up,
      )

  -- so that each number below the root stands there once
  live-met : (steps n : ℕ) → In 0 (n ∷ climb T steps (parent_of T n)) → occurs n (0 ∷ flat forest) ≡ 1
  live-met zero n h = ⊎_elim
      (λ (same : 0 ≡ n). ap (λ j. occurs j (0 ∷ flat forest)) (sym same) ∙ root-met)
      (λ (g : In 0 []). absurd (omega arith))
      (In-cons 0 n [] h)
  live-met (suc steps) n h = ⊎_elim
      (λ (same : 0 ≡ n). ap (λ j. occurs j (0 ∷ flat forest)) (sym same) ∙ root-met)
      (λ (g : In 0 (climb T (suc steps) (parent_of T n))). higher (parent_of T n) refl g (λ p k. live-met steps p k))
      (In-cons 0 n (climb T (suc steps) (parent_of T n)) h)
    where
      higher : (o : Option ℕ) → parent_of T n ≡ o → In 0 (climb T (suc steps) o) → ((p : ℕ) → In 0 (p ∷ climb T steps (parent_of T p)) → occurs p (0 ∷ flat forest) ≡ 1) →
          occurs n (0 ∷ flat forest) ≡ 1
      higher None e g rec = absurd (omega arith)
      higher (Some p) e g rec = parent-met n p e ∙ rec p g

  -- what stands there lives
  met-live : (n : ℕ) → In n (0 ∷ flat forest) → is_live T n ≡ true
  met-live n h = ⊎_elim
      (λ (same : n ≡ 0). ap (is_live T) same ∙ has-kind T 0 form.root_kind)
      (λ (g : In n (flat forest)). let hangs : Hangs T n = hangs-shown T 0 forest shown n g in parent-has T n hangs.from hangs.parent)
      (In-cons n 0 (flat forest) h)

  each-once : (n : ℕ) → occurs n (0 ∷ flat forest) ≡ alive T n
  each-once n = by (is_live T n) refl
    where
      by : (b : Bool) → is_live T n ≡ b → occurs n (0 ∷ flat forest) ≡ cond b 1 0
      by true e = live-met (length T) n (mem-In 0 (above T n) (form.is_rooted n e))
      by false e = none (occurs n (0 ∷ flat forest)) refl
        where
          none : (c : ℕ) → occurs n (0 ∷ flat forest) ≡ c → c ≡ 0
          none zero r = refl
          none (suc c) r = absurd (true≢false (sym (met-live n (omega (arith, r))) ∙ e))

  whole-with : Whole T forest
  whole-with = record {
    root = record { no_parent = form.root_parent; no_attributes = root-alone; kids_are = root-kids };
    shows = shown;
    once = each-once;
    few =
        let short : length (0 ∷ flat forest) ≤ length T =
        few-below (length T) (0 ∷ flat forest) (λ m. omega (arith, each-once m, alive-one T m)) (λ m h. live-below T m (met-live m h)) in
        omega (arith, size-flat forest, short);
  }

-- the forest of a table
pub forest_of : Table → Forest
forest_of [] = bare
forest_of (entry ∷ T) = sprout (entry ∷ T) (length T) (kids_of (entry ∷ T) 0)

pub whole-of : (T : Table) → WellFormed T → Whole T (forest_of T)
unfolding forest_of
whole-of [] form = absurd (let none : kind_of [] 0 ≡ Some Root = form.root_kind in cc)
whole-of (entry ∷ T) form = whole-with (entry ∷ T) form (length T) refl

-- a well-formed table is a tree's
pub formed-of : (T : Table) → WellFormed T → Formed T
formed-of T form =
    let w : Whole T (forest_of T) = whole-of T form in
    record {
      forest = forest_of T;
      whole = w;
      root_kind = form.root_kind;
      fits = λ n. record {
        one_root = form.one_root n;
        kid_kind = form.kid_kind n;
        attribute_kind = form.attribute_kind n;
        holder_kind = form.holder_kind n;
        owner_kind = form.owner_kind n;
        names_differ = form.names_differ n;
        some_text = form.some_text n;
        texts_apart = form.texts_apart n;
        not_deep = form.not_deep n;
      };
      few_nodes = omega (arith, form.few_nodes, live-count T (forest_of T) w);
      few_numbers = form.few_numbers;
      little_text = omega (arith, form.little_text, text-count T (forest_of T) w);
    }
