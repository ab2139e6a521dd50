-- A tree and the tree with a piece put in agree but for what holds the piece.
use Rattle.std.proofs.Common.{◌≡◌, ℕ, Bool, true, false, ◌&&◌, inl, refl, sym, ap, ap₂, ◌∙◌, true≢false, arith, eq-eqb}
use Rattle.std.specs.Prelude.{not}
use Rattle.doc_table.specs.inner.Sound.{Formed}
use Rattle.doc_table.specs.Lists.{mem}
use Rattle.doc_table.specs.Table.{Table, content_of, is_live, kind_at, kind_of, name_at, value_at}
use Rattle.doc_table.specs.Walks.{above}
use Rattle.doc_table.proofs.Appending.{holder-live}
use Rattle.doc_table.proofs.ListLemmas.{In, In-mem}
use Rattle.doc_table.proofs.Ways.{live-below}
use Rattle.doc_axes.specs.Axes.{is_attribute_kind, is_descendant}
use Rattle.doc_edit_laws.specs.Agreement.{Agree, Stays, lives_in_both}
use Rattle.doc_edit_laws.proofs.Composing.{both}
use Rattle.doc_edits.specs.Changes.{given_number, inserted, nodes_in}
use Rattle.doc_edits.specs.Fitting.{MayTake}
use Rattle.doc_edits.proofs.InsertionLemmas.{IsOther, attributes-kept, content-kept, length-inserted, links-kept, live-kept, number-new, old-other, parent-kept}
use Rattle.doc_edits.proofs.InsertionWayLemmas.{way-old}
use Rattle.doc_edit_laws.specs.Touching.{touched_kids}
use Rattle.doc_edit_laws.proofs.InsertionOrderLemmas.{filter-kept}
use Rattle.doc_edit_laws.proofs.InsertionCellLemmas.{not-above, text-kept}

module _ (T : Table) (p before : ℕ) (P : Table) (t : Formed T) (f : Formed P) (m : MayTake T p before P) where
  abbrev U : Table
  U = inserted T p before P

  live : is_live T p ≡ true
  live = holder-live T p m.under

  lived : (n : ℕ) → Stays T U n → is_live T n ≡ true
  lived n stays = (both (is_live T n) (is_live U n) stays).0

  other : (n : ℕ) → is_live T n ≡ true → IsOther T P n
  other n alive = old-other T P p before live n alive

  content : (n : ℕ) → is_live T n ≡ true → content_of U n ≡ content_of T n
  content n alive = content-kept T P p before live n (other n alive)

  outside : (n : ℕ) → mem n (above T p) ≡ false → In n (above T p) → ⊥
  outside n out h = true≢false (sym (In-mem n (above T p) h) ∙ out)

  new-dead : (k : ℕ) → In k (nodes_in P) → is_live T (given_number T P k) ≡ false
  new-dead k h = by (is_live T (given_number T P k)) refl
    where
      by : (b : Bool) → is_live T (given_number T P k) ≡ b → b ≡ false
      by true e = absurd (omega (arith, live-below T (given_number T P k) e, (number-new T P k h).0))
      by false e = refl

  pub insertions-leave : Formed U → Agree T U (touched_kids T p)
  insertions-leave u = record {
    kind = λ n stays. ap kind_at (sym (content n (lived n stays)));
    target = λ n stays other. ap name_at (sym (content n (lived n stays)));
    parent = λ n stays. sym (parent-kept T P p before live n (other n (lived n stays)));
    in_order = filter-kept T p before P t f m (lives_in_both T U) (lives_in_both T U) (λ n alive. refl)
        (λ k h. ap (λ b. b && is_live U (given_number T P k)) (new-dead k h));
    name = λ n stays named out. ap name_at (sym (content n (lived n stays)));
    kids = λ n stays out. sym (links-kept T P p before live n (other n (lived n stays)) (λ e. true≢false (sym (eq-eqb n p e) ∙ out))).kids;
    shape = λ n stays out. filter-kept T p before P t f m (is_descendant T n) (is_descendant U n)
        (λ k alive. ap₂ (λ l kind. mem n l && not (is_attribute_kind kind)) (sym (way-old T P p before live t.forest t.whole k alive)) (ap kind_at (sym (content k alive))))
        (λ k h. ap (λ b. b && not (is_attribute_kind (kind_of U (given_number T P k))))
        (not-above T p before P t f m u n (live-below T n (lived n stays)) (outside n out) k h));
    attributes = λ n stays out. sym (attributes-kept T P p before live n (other n (lived n stays)));
    value = λ n stays out. ap value_at (sym (content n (lived n stays)));
    text = λ n stays holds out. text-kept T p before P t f m u n (lived n stays) (outside n out);
    numbers = omega (arith, length-inserted T P p before live);
    no_return = λ n old alive. sym (live-kept T P p before live n (inl old)) ∙ alive;
  }
