-- The ways up in a table with a piece put in.
use Rattle.std.proofs.Common.{◌≡◌, ℕ, ◌+◌, ◌<◌, ◌≤◌, zero, suc, true, [], ◌∷◌, length, Option, None, Some, refl, sym, ap, ◌∙◌, subst, ⊎_elim, arith}
use Rattle.doc_table.specs.Table.{Table, entry_at, parent_at, parent_of, is_live}
use Rattle.doc_table.specs.Walks.{climb, ancestors, above}
use Rattle.doc_table.specs.inner.Forest.{Forest, flat, Whole}
use Rattle.doc_table.specs.inner.Sound.{Formed}
use Rattle.doc_table.proofs.ListLemmas.{In, In-cons}
use Rattle.doc_table.proofs.TreeLaws.{ways-up}
use Rattle.doc_table.proofs.Ways.{parent-has, parent-live, live-In, ancestors-short, climb-more}
use Rattle.doc_edits.specs.Changes.{nodes_in, given_number, given_parent, inserted}
use Rattle.doc_edits.proofs.InsertionLemmas.{given-parent, given-lifted, lifted, nodes-flat, nodes-live, nodes-other, length-inserted, parent-kept, old-other, entry-new}

module _ (T : Table) where
  climb-step : (q k : ℕ) → 1 ≤ k → length (climb T k (Some q)) < k → climb T k (Some q) ≡ q ∷ climb T k (parent_of T q)
  climb-step q zero some short = absurd (omega arith)
  climb-step q (suc k) some short = ap (λ l. q ∷ l) (sym (climb-more T k (parent_of T q) (omega (arith, short))))

  -- steps to spare make no way up longer
  climb-enough : (more steps total : ℕ) (o : Option ℕ) → length (climb T steps o) < steps → total ≡ more + steps → climb T total o ≡ climb T steps o
  climb-enough zero steps total o short is = ap (λ k. climb T k o) (is ∙ omega arith)
  climb-enough (suc more) steps total o short is =
      let before : climb T (more + steps) o ≡ climb T steps o = climb-enough more steps (more + steps) o short refl in
      let last : total ≡ suc (more + steps) = omega (arith, is) in
      ap (λ k. climb T k o) last ∙ (climb-more T (more + steps) o (omega (arith, short, ap length before)) ∙ before)

-- the way up from a node is its parent and the way up from there
pub ancestors-up : (T : Table) (B : Forest) → Whole T B → (n q : ℕ) → parent_of T n ≡ Some q → ancestors T n ≡ q ∷ ancestors T q
ancestors-up T B w n q up =
    let short : length (climb T (length T) (Some q)) < length T =
    subst (λ o. length (climb T (length T) o) < length T) up (ancestors-short T B w n (parent-has T n q up)) in
    ap (climb T (length T)) up ∙ climb-step T q (length T) (omega (arith, w.few)) short

-- a node of a piece that has a parent is among the piece's nodes
pub inside : (P : Table) (f : Formed P) (k q : ℕ) → parent_of P k ≡ Some q → In k (nodes_in P)
inside P f k q up =
    subst (In k) (sym (nodes-flat P f))
    (⊎_elim (λ (e : k ≡ 0). absurd (let none : parent_of P k ≡ None = ap (parent_of P) e ∙ f.whole.root.no_parent in cc))
    (λ (h : In k (flat f.forest)). h)
    (In-cons k 0 (flat f.forest) (live-In P f.forest f.whole k (parent-has P k q up))))

module _ (T P : Table) (p before : ℕ) (live : is_live T p ≡ true) (B : Forest) (w : Whole T B) where
  old-climb : (steps : ℕ) (o : Option ℕ) → ((q : ℕ) → o ≡ Some q → is_live T q ≡ true) → climb (inserted T p before P) steps o ≡ climb T steps o
  old-climb zero o first = refl
  old-climb (suc steps) None first = refl
  old-climb (suc steps) (Some q) first =
      ap (λ l. q ∷ l)
      (ap (climb (inserted T p before P) steps) (parent-kept T P p before live q (old-other T P p before live q (first q refl)))
      ∙ old-climb steps (parent_of T q) (parent-live T B w q))

  pub way-old : (m : ℕ) → is_live T m ≡ true → ancestors (inserted T p before P) m ≡ ancestors T m
  way-old m alive =
      ap (climb (inserted T p before P) (length (inserted T p before P))) (parent-kept T P p before live m (old-other T P p before live m alive))
      ∙ (old-climb (length (inserted T p before P)) (parent_of T m) (parent-live T B w m)
      ∙ climb-enough T (length (nodes_in P)) (length T) (length (inserted T p before P)) (parent_of T m) (ancestors-short T B w m alive)
      (length-inserted T P p before live ∙ omega arith))

module _ (T P : Table) (p before : ℕ) (live : is_live T p ≡ true) (B : Forest) (w : Whole T B) (G : Forest) (u : Whole (inserted T p before P) G) (f : Formed P) where
  abbrev Goes : ℕ → Type 0
  Goes m = length (ancestors (inserted T p before P) (given_number T P m)) + 1 ≡ length (above T p) + length (ancestors P m)

  parent-new : (m q : ℕ) → In m (nodes_in P) → parent_of P m ≡ Some q → parent_of (inserted T p before P) (given_number T P m) ≡ Some (lifted (given_number T P) p q)
  parent-new m q h up =
      ap parent_at (entry-new T P p before live m h)
      ∙ (given-parent (given_number T P) p (entry_at P m) ∙ (ap (given_parent (given_number T P) p) up ∙ given-lifted (given_number T P) p q))

  onward : (m q : ℕ) → In m (nodes_in P) → parent_of P m ≡ Some q → (suc (length (ancestors P q)) ≡ length (ancestors P m) → In q (nodes_in P) → Goes q) → Goes m
  onward m zero h up rec =
      let one : ancestors (inserted T p before P) (given_number T P m) ≡ p ∷ ancestors (inserted T p before P) p =
      ancestors-up (inserted T p before P) G u (given_number T P m) p (parent-new m 0 h up) in
      let two : ancestors (inserted T p before P) p ≡ ancestors T p = way-old T P p before live B w p live in
      let three : ancestors P m ≡ 0 ∷ ancestors P 0 = (ways-up P f).ancestors_at m 0 up in
      let four : ancestors P 0 ≡ [] = (ways-up P f).no_ancestors 0 f.whole.root.no_parent in
      omega (arith, ap length one, ap length two, ap length three, ap length four)
  onward m (suc q) h up rec =
      let one : ancestors (inserted T p before P) (given_number T P m) ≡ given_number T P (suc q) ∷ ancestors (inserted T p before P) (given_number T P (suc q)) =
      ancestors-up (inserted T p before P) G u (given_number T P m) (given_number T P (suc q)) (parent-new m (suc q) h up) in
      let two : ancestors P m ≡ suc q ∷ ancestors P (suc q) = (ways-up P f).ancestors_at m (suc q) up in
      let alive : is_live P (suc q) ≡ true = (ways-up P f).parent_live m (suc q) up in
      let next = (ways-up P f).has_parent (suc q) alive (λ e. absurd (omega (arith, e))) in
      let goes : Goes (suc q) = rec (sym (ap length two)) (inside P f (suc q) next.0 next.1) in
      omega (arith, ap length one, ap length two, goes)

  upwards : (k m : ℕ) → length (ancestors P m) ≤ k → In m (nodes_in P) → Goes m
  upwards zero m short h =
      let up = (ways-up P f).has_parent m (nodes-live P f.forest f.whole (nodes-flat P f) m h) (nodes-other P f.forest f.whole (nodes-flat P f) m h) in
      onward m up.0 h up.1 (λ s k. absurd (omega (arith, s, short)))
  upwards (suc k) m short h =
      let up = (ways-up P f).has_parent m (nodes-live P f.forest f.whole (nodes-flat P f) m h) (nodes-other P f.forest f.whole (nodes-flat P f) m h) in
      onward m up.0 h up.1 (λ s g. upwards k up.0 (omega (arith, s, short)) g)

  -- from a new node it is the way in the piece, with the node and all above it in the place of the piece's root
  pub way-new : (m : ℕ) → In m (nodes_in P) → Goes m
  way-new m h = upwards (length (ancestors P m)) m (omega arith) h
