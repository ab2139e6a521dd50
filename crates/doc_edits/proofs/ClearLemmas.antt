-- Lists without a number, and tables of which a link and some entries are gone.
use Rattle.std.proofs.Common.{◌≡◌, ◌≢◌, ℕ, ◌+◌, ◌≤◌, zero, suc, Bool, true, false, cond, List, [], ◌∷◌, ◌++◌, length, set, Option, None, Some, is_some, refl, sym, ap, ap₂, ◌∙◌, subst, ⊎_elim, arith, eq-eqb, ne_eqb, length-set, get_or-set_same, get_or-set_other}
use Rattle.std.proofs.lemmas.List.Elements.{filter-append}
use Rattle.doc_table.specs.Lists.{occurs}
use Rattle.doc_table.specs.Table.{Table, Facts, entry_at, parent_at, kids_at, attrs_at, content_at, parent_of, kids_of, attrs_of, content_of, is_live}
use Rattle.doc_table.specs.inner.Forest.{alive}
use Rattle.doc_table.specs.inner.Sound.{table_sum}
use Rattle.doc_table.proofs.ListLemmas.{In, In-cons, occurs-head, occurs-other, eq_or}
use Rattle.doc_table.proofs.Paths.{SameLinks}
use Rattle.doc_table.proofs.Counts.{sum-set}
use Rattle.doc_table.proofs.Ways.{live-below}
use Rattle.doc_edits.specs.Changes.{changed_at, without, without_link, cleared}

-- a list without a number
pub without-head : (n x : ℕ) (xs : List ℕ) → n ≡ x → without n (x ∷ xs) ≡ without n xs
without-head n x xs e = rw (eq-eqb x n (sym e)) refl

pub without-tail : (n x : ℕ) (xs : List ℕ) → n ≢ x → without n (x ∷ xs) ≡ x ∷ without n xs
without-tail n x xs ne = rw (ne_eqb x n (λ e. ne (sym e))) refl

pub without-none : (n : ℕ) (xs : List ℕ) → occurs n xs ≡ 0 → without n xs ≡ xs
without-none n [] h = refl
without-none n (x ∷ xs) h =
    ⊎_elim (λ (e : n ≡ x). absurd (let k : In n (x ∷ xs) = subst (λ y. In n (y ∷ xs)) e (occurs-head n xs) in omega arith))
    (λ (ne : n ≢ x). without-tail n x xs ne ∙ ap (λ l. x ∷ l) (without-none n xs (omega (arith, h, occurs-other n x xs ne))))
    (eq_or n x)

pub without-split : (n : ℕ) (front back : List ℕ) → occurs n front ≡ 0 → occurs n back ≡ 0 → without n (front ++ n ∷ back) ≡ front ++ back
without-split n front back h k =
    filter-append (λ m. _) front (n ∷ back)
    ∙ ap₂ (λ l r. l ++ r) (without-none n front h) (without-head n n back refl ∙ without-none n back k)

pub without-other : (m n : ℕ) (xs : List ℕ) → m ≢ n → occurs m (without n xs) ≡ occurs m xs
without-other m n [] ne = refl
without-other m n (x ∷ xs) ne =
    ⊎_elim (λ (e : n ≡ x). ap (occurs m) (without-head n x xs e)
    ∙ (without-other m n xs ne ∙ sym (occurs-other m x xs (λ f. ne (f ∙ sym e)))))
    (λ (nx : n ≢ x). ap (occurs m) (without-tail n x xs nx) ∙ omega (arith, without-other m n xs ne))
    (eq_or n x)

pub without-gone : (n : ℕ) (xs : List ℕ) → occurs n (without n xs) ≡ 0
without-gone n [] = refl
without-gone n (x ∷ xs) =
    ⊎_elim (λ (e : n ≡ x). ap (occurs n) (without-head n x xs e) ∙ without-gone n xs)
    (λ (nx : n ≢ x). ap (occurs n) (without-tail n x xs nx) ∙ (occurs-other n x (without n xs) nx ∙ without-gone n xs))
    (eq_or n x)

pub without-length : (n : ℕ) (xs : List ℕ) → length (without n xs) ≤ length xs
without-length n [] = omega arith
without-length n (x ∷ xs) =
    ⊎_elim (λ (e : n ≡ x). omega (arith, ap length (without-head n x xs e), without-length n xs))
    (λ (nx : n ≢ x). omega (arith, ap length (without-tail n x xs nx), without-length n xs))
    (eq_or n x)

-- a number of the shorter list is another one, and was there
pub without-was : (m n : ℕ) (xs : List ℕ) → In m (without n xs) → (m ≢ n) × In m xs
without-was m n xs h =
    ⊎_elim (λ (e : m ≡ n). absurd (let k : In n (without n xs) = subst (λ j. In j (without n xs)) e h in omega (arith, without-gone n xs)))
    (λ (ne : m ≢ n). let r : (m ≢ n) × In m xs = (ne, omega (arith, h, without-other m n xs ne)) in r)
    (eq_or m n)

-- entries that are cleared, and the others
set-none : (T : Table) (n : ℕ) → entry_at (set T n None) n ≡ None
set-none [] n = refl
set-none (e ∷ T) zero = refl
set-none (e ∷ T) (suc n) = set-none T n

pub cleared-length : (ns : List ℕ) (T : Table) → length (cleared ns T) ≡ length T
cleared-length [] T = refl
cleared-length (n ∷ ns) T = length-set (cleared ns T) n None ∙ cleared-length ns T

pub cleared-gone : (ns : List ℕ) (T : Table) (m : ℕ) → In m ns → entry_at (cleared ns T) m ≡ None
cleared-gone [] T m h = absurd (omega arith)
cleared-gone (n ∷ ns) T m h =
    ⊎_elim (λ (e : m ≡ n). ap (entry_at (set (cleared ns T) n None)) e ∙ set-none (cleared ns T) n)
    (λ (ne : m ≢ n). get_or-set_other (cleared ns T) n m None None ne ∙ cleared-gone ns T m (omega (arith, h, occurs-other m n ns ne)))
    (eq_or m n)

pub cleared-kept : (ns : List ℕ) (T : Table) (m : ℕ) → occurs m ns ≡ 0 → entry_at (cleared ns T) m ≡ entry_at T m
cleared-kept [] T m h = refl
cleared-kept (n ∷ ns) T m h =
    get_or-set_other (cleared ns T) n m None None
    (λ e. absurd (let k : In m (n ∷ ns) = subst (λ j. In m (j ∷ ns)) e (occurs-head m ns) in omega arith))
    ∙ cleared-kept ns T m (omega (arith, h))

-- no sum over the nodes is more when an entry is cleared
sum-none : (f : Facts → ℕ) (T : Table) (n : ℕ) → table_sum f (set T n None) ≤ table_sum f T
sum-none f [] n = omega arith
sum-none f (None ∷ T) zero = omega arith
sum-none f (Some node ∷ T) zero = omega arith
sum-none f (None ∷ T) (suc n) = sum-none f T n
sum-none f (Some node ∷ T) (suc n) = omega (arith, sum-none f T n)

sum-cleared : (f : Facts → ℕ) (ns : List ℕ) (T : Table) → table_sum f (cleared ns T) ≤ table_sum f T
sum-cleared f [] T = omega arith
sum-cleared f (n ∷ ns) T = omega (arith, sum-none f (cleared ns T) n, sum-cleared f ns T)

-- it is less by what a node has that lived there
pub sum-taken : (f : Facts → ℕ) (T : Table) (n : ℕ) (node : Facts) → entry_at T n ≡ Some node → table_sum f (set T n None) + f node ≡ table_sum f T
sum-taken f [] n node e = absurd (cc)
sum-taken f (None ∷ T) zero node e = absurd (cc)
sum-taken f (Some here ∷ T) zero node e = let same : here ≡ node = (cc) in omega (arith, ap f same)
sum-taken f (None ∷ T) (suc n) node e = sum-taken f T n node e
sum-taken f (Some here ∷ T) (suc n) node e = omega (arith, sum-taken f T n node e)

sum-cleared_one : (f : Facts → ℕ) (ns : List ℕ) (T : Table) (m : ℕ) (node : Facts) → In m ns → entry_at T m ≡ Some node → table_sum f (cleared ns T) + f node ≤ table_sum f T
sum-cleared_one f [] T m node h e = absurd (omega arith)
sum-cleared_one f (n ∷ ns) T m node h e = by (occurs m ns) refl (λ k. sum-cleared_one f ns T m node k e)
  where
    by : (k : ℕ) → occurs m ns ≡ k → (In m ns → table_sum f (cleared ns T) + f node ≤ table_sum f T) → table_sum f (set (cleared ns T) n None) + f node ≤ table_sum f T
    by zero none more =
        ⊎_elim
        (λ (same : m ≡ n).
        let there : entry_at (cleared ns T) n ≡ Some node = ap (entry_at (cleared ns T)) (sym same) ∙ (cleared-kept ns T m none ∙ e) in
        omega (arith, sum-taken f (cleared ns T) n node there, sum-cleared f ns T))
        (λ (g : In m ns). absurd (omega arith))
        (In-cons m n ns h)
    by (suc k) some more = omega (arith, sum-none f (cleared ns T) n, more (omega (arith, some)))

-- what a link more or less leaves of an entry
unlink-parent : (n : ℕ) (o : Option Facts) → parent_at (without_link n o) ≡ parent_at o
unlink-parent n None = refl
unlink-parent n (Some node) = refl

unlink-content : (n : ℕ) (o : Option Facts) → content_at (without_link n o) ≡ content_at o
unlink-content n None = refl
unlink-content n (Some node) = refl

unlink-live : (n : ℕ) (o : Option Facts) → is_some (without_link n o) ≡ is_some o
unlink-live n None = refl
unlink-live n (Some node) = refl

unlink-kids : (n : ℕ) (o : Option Facts) → kids_at (without_link n o) ≡ without n (kids_at o)
unlink-kids n None = refl
unlink-kids n (Some node) = refl

unlink-attributes : (n : ℕ) (o : Option Facts) → attrs_at (without_link n o) ≡ without n (attrs_at o)
unlink-attributes n None = refl
unlink-attributes n (Some node) = refl

-- a table in which a node is not linked at its parent, and some entries are cleared
abbrev pub cut : Table → ℕ → ℕ → List ℕ → Table
cut T n p gone = cleared gone (changed_at p (without_link n) T)

module _ (T : Table) (n p : ℕ) (gone : List ℕ) where
  pub cut-length : length (cut T n p gone) ≡ length T
  cut-length = cleared-length gone (changed_at p (without_link n) T) ∙ length-set T p (without_link n (entry_at T p))

  pub cut-sum : (f : Facts → ℕ) → ((node : Facts) → table_sum f (without_link n (Some node) ∷ []) ≡ f node + 0) → table_sum f (cut T n p gone) ≤ table_sum f T
  cut-sum f same = omega (arith, sum-cleared f gone (changed_at p (without_link n) T), sum-set f T p (without_link n) refl same)

  pub cut-sum_one : (f : Facts → ℕ) → ((node : Facts) → table_sum f (without_link n (Some node) ∷ []) ≡ f node + 0) → (m : ℕ) (node : Facts) → In m gone → m ≢ p
      → entry_at T m ≡ Some node → table_sum f (cut T n p gone) + f node ≤ table_sum f T
  cut-sum_one f same m node h np e =
      omega (
        arith,
        sum-cleared_one f gone (changed_at p (without_link n) T) m node h (get_or-set_other T p m (without_link n (entry_at T p)) None np ∙ e),
        sum-set f T p (without_link n) refl same,
      )

  pub entry-gone : (m : ℕ) → In m gone → entry_at (cut T n p gone) m ≡ None
  entry-gone m h = cleared-gone gone (changed_at p (without_link n) T) m h

  pub entry-other : (m : ℕ) → occurs m gone ≡ 0 → m ≢ p → entry_at (cut T n p gone) m ≡ entry_at T m
  entry-other m h np = cleared-kept gone (changed_at p (without_link n) T) m h ∙ get_or-set_other T p m (without_link n (entry_at T p)) None np

  pub links-other : (m : ℕ) → occurs m gone ≡ 0 → m ≢ p → SameLinks T (cut T n p gone) m
  links-other m h np = record {
    parent = ap parent_at (entry-other m h np);
    attributes = ap attrs_at (entry-other m h np);
    kids = ap kids_at (entry-other m h np);
  }

module _ (T : Table) (n p : ℕ) (gone : List ℕ) (live : is_live T p ≡ true) where
  entry-parent : occurs p gone ≡ 0 → entry_at (cut T n p gone) p ≡ without_link n (entry_at T p)
  entry-parent h =
      cleared-kept gone (changed_at p (without_link n) T) p h ∙ get_or-set_same T p (without_link n (entry_at T p)) None (live-below T p live)

  pub kids-parent : occurs p gone ≡ 0 → kids_of (cut T n p gone) p ≡ without n (kids_of T p)
  kids-parent h = ap kids_at (entry-parent h) ∙ unlink-kids n (entry_at T p)

  pub attributes-parent : occurs p gone ≡ 0 → attrs_of (cut T n p gone) p ≡ without n (attrs_of T p)
  attributes-parent h = ap attrs_at (entry-parent h) ∙ unlink-attributes n (entry_at T p)

  -- what a word says of an entry stays where a link leaves it
  kept : {A : Type 0} (f : Option Facts → A) → ((o : Option Facts) → f (without_link n o) ≡ f o) → (m : ℕ) → occurs m gone ≡ 0 →
      f (entry_at (cut T n p gone) m) ≡ f (entry_at T m)
  kept f stays m h =
      ⊎_elim (λ (e : m ≡ p).
      ap (λ k. f (entry_at (cut T n p gone) k)) e
      ∙ (ap f (entry-parent (subst (λ k. occurs k gone ≡ 0) e h)) ∙ (stays (entry_at T p) ∙ ap (λ k. f (entry_at T k)) (sym e))))
      (λ (np : m ≢ p). ap f (entry-other T n p gone m h np)) (eq_or m p)

  pub parent-kept : (m : ℕ) → occurs m gone ≡ 0 → parent_of (cut T n p gone) m ≡ parent_of T m
  parent-kept m h = kept parent_at (unlink-parent n) m h

  pub content-kept : (m : ℕ) → occurs m gone ≡ 0 → content_of (cut T n p gone) m ≡ content_of T m
  content-kept m h = kept content_at (unlink-content n) m h

  pub live-kept : (m : ℕ) → occurs m gone ≡ 0 → is_live (cut T n p gone) m ≡ is_live T m
  live-kept m h = kept is_some (unlink-live n) m h

  -- a number is gone, or lives as before
  pub alive-cut : (m : ℕ) → occurs m gone ≤ alive T m → alive (cut T n p gone) m + occurs m gone ≡ alive T m
  alive-cut m h = by (is_live T m) (occurs m gone) refl refl h
    where
      by : (b : Bool) (k : ℕ) → is_live T m ≡ b → occurs m gone ≡ k → k ≤ cond b 1 0 → cond (is_live (cut T n p gone) m) 1 0 + k ≡ cond b 1 0
      by b zero e f g = rw (live-kept m f, e) (omega arith)
      by false (suc k) e f g = absurd (omega arith)
      by true (suc k) e f g = rw (ap is_some (entry-gone T n p gone m (omega (arith, f)))) (omega arith)
