-- What stands above and below a node where a piece was put in.
use Rattle.std.proofs.Common.{◌≡◌, ℕ, ◌+◌, ◌<◌, ◌≤◌, zero, suc, Bool, true, false, ◌∷◌, ◌++◌, length, Some, refl, sym, ap, ap₂, ◌∙◌, subst, ⊎_elim, arith}
use Rattle.std.specs.List.{flat_map}
use Rattle.doc_table.specs.inner.Sound.{Formed}
use Rattle.doc_table.specs.Lists.{mem}
use Rattle.doc_table.specs.Table.{Table, entry_at, parent_at, content_of, is_live, kids_of, parent_of}
use Rattle.doc_table.specs.Walks.{above, ancestors, characters_in, joined_text}
use Rattle.doc_table.proofs.Appending.{holder-live}
use Rattle.doc_table.proofs.ListLemmas.{In, In-cons, In-mem, mem-In, occurs-head, flat_map-same}
use Rattle.doc_table.proofs.Paths.{SameLinks}
use Rattle.doc_table.proofs.TreeLaws.{ordered, walks, ways-up, well-formed}
use Rattle.doc_table.proofs.Ways.{ancestors-short}
use Rattle.doc_tree.proofs.OrderLemmas.{below_parent, nested}
use Rattle.doc_edits.specs.Changes.{given_number, given_parent, inserted, nodes_in}
use Rattle.doc_edits.specs.Fitting.{MayTake}
use Rattle.doc_edits.proofs.InsertionLemmas.{given-lifted, given-parent, lifted, nodes-flat, nodes-live, nodes-other, number-new, content-kept, entry-new, links-kept, old-other}
use Rattle.doc_edits.proofs.InsertionWayLemmas.{inside, way-old}

-- whoever stands above a node has all above itself there too
up-closed : (T : Table) (t : Formed T) (n k p : ℕ) → is_live T p ≡ true → parent_of T k ≡ Some n → In k (above T p) → In n (above T p)
up-closed T t n k p live up h =
    let nest = nested T (well-formed T t) (ordered T t) (ways-up T t) in
    mem-In n (above T p) (sym (nest n p live)
    ∙ below_parent T (well-formed T t) (ordered T t) (ways-up T t) k n p up (nest k p live ∙ In-mem k (above T p) h))

module _ (T : Table) (p before : ℕ) (P : Table) (t : Formed T) (f : Formed P) (m : MayTake T p before P) (formed : Formed (inserted T p before P)) where
  abbrev U : Table
  U = inserted T p before P

  live : is_live T p ≡ true
  live = holder-live T p m.under

  parent-new : (k q : ℕ) → In k (nodes_in P) → parent_of P k ≡ Some q → parent_of U (given_number T P k) ≡ Some (lifted (given_number T P) p q)
  parent-new k q h up =
      ap parent_at (entry-new T P p before live k h)
      ∙ (given-parent (given_number T P) p (entry_at P k) ∙ (ap (given_parent (given_number T P) p) up ∙ given-lifted (given_number T P) p q))

  module _ (n : ℕ) (old : n < length T) (apart : In n (above T p) → ⊥) where
    -- from a new node's parent upwards
    onward : (k q : ℕ) → In k (nodes_in P) → parent_of P k ≡ Some q → In n (ancestors U (given_number T P k)) →
        (suc (length (ancestors P q)) ≡ length (ancestors P k) → In q (nodes_in P) → In n (ancestors U (given_number T P q)) → ⊥) → ⊥
    onward k zero h up here rec =
        apart (subst (In n) ((ways-up U formed).ancestors_at (given_number T P k) p (parent-new k 0 h up) ∙ ap (λ l. p ∷ l) (way-old T P p before live t.forest t.whole p live)) here)
    onward k (suc q) h up here rec =
        let alive : is_live P (suc q) ≡ true = (ways-up P f).parent_live k (suc q) up in
        let next = (ways-up P f).has_parent (suc q) alive (λ e. absurd (omega (arith, e))) in
        let among : In (suc q) (nodes_in P) = inside P f (suc q) next.0 next.1 in
        let there : In n (given_number T P (suc q) ∷ ancestors U (given_number T P (suc q))) =
        subst (In n) ((ways-up U formed).ancestors_at (given_number T P k) (given_number T P (suc q)) (parent-new k (suc q) h up)) here in
        ⊎_elim (λ (e : n ≡ given_number T P (suc q)). absurd (omega (arith, e, old, (number-new T P (suc q) among).0)))
        (λ (g : In n (ancestors U (given_number T P (suc q)))). rec (sym (ap length ((ways-up P f).ancestors_at k (suc q) up))) among g)
        (In-cons n (given_number T P (suc q)) (ancestors U (given_number T P (suc q))) there)

    upwards : (most k : ℕ) → length (ancestors P k) ≤ most → In k (nodes_in P) → In n (ancestors U (given_number T P k)) → ⊥
    upwards zero k short h here =
        let up = (ways-up P f).has_parent k (nodes-live P f.forest f.whole (nodes-flat P f) k h) (nodes-other P f.forest f.whole (nodes-flat P f) k h) in
        onward k up.0 h up.1 here (λ s g i. omega (arith, s, short))
    upwards (suc most) k short h here =
        let up = (ways-up P f).has_parent k (nodes-live P f.forest f.whole (nodes-flat P f) k h) (nodes-other P f.forest f.whole (nodes-flat P f) k h) in
        onward k up.0 h up.1 here (λ s g i. upwards most up.0 (omega (arith, s, short)) g i)

    -- of the old nodes only the one that gets the piece, and all above it, stand above new ones
    pub not-above : (k : ℕ) → In k (nodes_in P) → mem n (ancestors U (given_number T P k)) ≡ false
    not-above k h = by (mem n (ancestors U (given_number T P k))) refl
      where
        by : (b : Bool) → mem n (ancestors U (given_number T P k)) ≡ b → b ≡ false
        by true e = absurd (upwards (length (ancestors P k)) k (omega arith) h (mem-In n (ancestors U (given_number T P k)) e))
        by false e = refl

  text-within : (most n : ℕ) → length T ≤ most + length (ancestors T n) → is_live T n ≡ true → (In n (above T p) → ⊥) → joined_text T n ≡ joined_text U n
  text-within zero n deep alive apart = absurd (omega (arith, deep, ancestors-short T t.forest t.whole n alive))
  text-within (suc most) n deep alive apart =
      let content : content_of U n ≡ content_of T n = content-kept T P p before live n (old-other T P p before live n alive) in
      let links : SameLinks T U n = links-kept T P p before live n (old-other T P p before live n alive) (λ e. apart (subst (λ q. In n (above T q)) e (occurs-head n (ancestors T n)))) in
      let inner : flat_map (joined_text T) (kids_of T n) ≡ flat_map (joined_text U) (kids_of T n) =
      flat_map-same (joined_text T) (joined_text U) (kids_of T n) (λ k h.
      let listed : mem k (kids_of T n) ≡ true = In-mem k (kids_of T n) h in
      let up : parent_of T k ≡ Some n = (well-formed T t).kid_parent n k listed in
      text-within most k (omega (arith, deep, ap length ((ways-up T t).ancestors_at k n up))) ((ways-up T t).kid_live n k listed) (λ g. apart (up-closed T t n k p live up g))) in
      (walks T t).text_at n
      ∙ (ap₂ (λ a b. a ++ b) (ap characters_in (sym content)) (inner ∙ ap (flat_map (joined_text U)) (sym links.kids))
      ∙ sym ((walks U formed).text_at n))

  -- a node that doesn't stand above the piece keeps its text
  pub text-kept : (n : ℕ) → is_live T n ≡ true → (In n (above T p) → ⊥) → joined_text T n ≡ joined_text U n
  text-kept n alive apart = text-within (length T) n (omega arith) alive apart
