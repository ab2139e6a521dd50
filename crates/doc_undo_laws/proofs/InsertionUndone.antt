-- A piece that came goes again: its top has the next number.
use Rattle.std.specs.List.{flat_map}
use Rattle.std.proofs.Common.{◌≡◌, ℕ, ◌≤◌, true, List, [], ◌∷◌, ◌++◌, length, map, take, drop, Some, refl, sym, ap, ap₂, ◌∙◌, inr, subst, ⊎_elim, arith}
use Rattle.std.proofs.lemmas.List.{take-append-drop}
use Rattle.doc_table.specs.Lists.{occurs}
use Rattle.doc_table.specs.Table.{Table, attrs_of, is_live, kids_of, kind_at, parent_of}
use Rattle.doc_table.specs.Walks.{below}
use Rattle.doc_table.specs.Laws.{TextsApart}
use Rattle.doc_table.specs.SameTree.{SameTree}
use Rattle.doc_table.specs.inner.Sound.{Formed}
use Rattle.doc_table.proofs.Appending.{holder-live}
use Rattle.doc_table.proofs.Fitting.{texts-kept}
use Rattle.doc_table.proofs.Forests.{formed-of}
use Rattle.doc_table.proofs.ListLemmas.{In, In-append, In-cons, In-mem, occurs-head}
use Rattle.doc_table.proofs.TreeLaws.{ordered, ways-up, well-formed}
use Rattle.doc_table.proofs.Ways.{In-live, live-below}
use Rattle.doc_edits.specs.Changes.{given_number, inserted, nodes_in, removed, removed_from, without}
use Rattle.doc_edits.specs.Fitting.{MayTake}
use Rattle.doc_edits.proofs.ClearLemmas.{live-kept}
use Rattle.doc_edits.proofs.InsertionLemmas.{content-kept, kids-parent, number-new, old-other}
use Rattle.doc_edits.proofs.InsertionLemmas as piece
use Rattle.doc_edits.proofs.InsertionTreeLemmas.{insertion}
use Rattle.doc_edits.proofs.NumberingLemmas.{Mapped, mem-map}
use Rattle.doc_edits.proofs.PruneLemmas.{none-in}
use Rattle.doc_edits.proofs.RemovalLemmas.{formed-left, kids-owner, live-owner, remaining}
use Rattle.doc_undo_laws.specs.Undoing.{InsertionsAreUndone}
use Rattle.doc_undo_laws.proofs.Alongside.{downwards, map-fixed}
use Rattle.doc_undo_laws.proofs.PieceLines.{ShowsPiece, kid-in, new-shown, top-in, top-number}
use Rattle.doc_undo_laws.proofs.Settling.{Settled, inserted-stays, removed-stays, settle, stays-on}
use Rattle.doc_undo_laws.proofs.DeletionUndone.{listed, without-it}

module _ (T P : Table) (p before : ℕ) (t : Formed T) (f : Formed P) (may : MayTake T p before P) where
  abbrev V : Table
  V = inserted T p before P

  live : is_live T p ≡ true
  live = holder-live T p may.under

  v : Formed V
  v = insertion T p before P t f may

  kids : kids_of V p ≡ take before (kids_of T p) ++ length T ∷ drop before (kids_of T p)
  kids = kids-parent T P p before live

  kid : In (length T) (kids_of V p)
  kid = listed (length T) (kids_of V p) (take before (kids_of T p)) (drop before (kids_of T p)) ((well-formed V v).kids_once p) kids

  up : parent_of V (length T) ≡ Some p
  up = (well-formed V v).kid_parent p (length T) (In-mem (length T) (kids_of V p) kid)

  kids-back : without (length T) (kids_of V p) ≡ kids_of T p
  kids-back =
      without-it (length T) (kids_of V p) (take before (kids_of T p)) (drop before (kids_of T p)) ((well-formed V v).kids_once p) kids
      ∙ take-append-drop before (kids_of T p)

  apart : TextsApart V (without (length T) (kids_of V p))
  apart =
      subst (TextsApart V) (sym kids-back)
      (texts-kept T V (kids_of T p) (λ k h. ap kind_at (content-kept T P p before live k (old-other T P p before live k ((ways-up T t).kid_live p k h))))
      ((well-formed T t).texts_apart p))

  abbrev W : Table
  W = remaining V (length T) p v up

  w : Formed W
  w = formed-left V (length T) p v up apart

  -- what stands below a new number is new
  new-below : (m : ℕ) → In m (nodes_in P) → (k : ℕ) → In k (below V (given_number T P m)) → length T ≤ k
  new-below m = downwards P f (λ m. In m (nodes_in P) → (k : ℕ) → In k (below V (given_number T P m)) → length T ≤ k) step m
    where
      among-kids : (ks : List ℕ) → ((j : ℕ) → In j ks → (k : ℕ) → In k (below V (given_number T P j)) → length T ≤ k) → (k : ℕ) →
          In k (flat_map (below V) (map (given_number T P) ks)) → length T ≤ k
      among-kids [] rec k h = absurd (omega (arith, h))
      among-kids (j ∷ ks) rec k h =
          ⊎_elim (λ (a : In k (below V (given_number T P j))). rec j (occurs-head j ks) k a)
          (λ (b : In k (flat_map (below V) (map (given_number T P) ks))). among-kids ks (λ i g. rec i (omega (arith, g))) k b)
          (In-append k (below V (given_number T P j)) (flat_map (below V) (map (given_number T P) ks)) h)

      among-attributes : (ats : List ℕ) → (k : ℕ) → In k (map (given_number T P) ats) → length T ≤ k
      among-attributes ats k h =
          let w : Mapped (given_number T P) ats k = mem-map (given_number T P) k ats (In-mem k (map (given_number T P) ats) h) in omega (arith, w.is)

      step : (m : ℕ) → ((j : ℕ) → In j (kids_of P m) → In j (nodes_in P) → (k : ℕ) → In k (below V (given_number T P j)) → length T ≤ k) →
          In m (nodes_in P) → (k : ℕ) → In k (below V (given_number T P m)) → length T ≤ k
      step m rec h k i =
          let s : ShowsPiece (given_number T P) P V m = new-shown P f T p before live m h in
          let is : below V (given_number T P m) ≡ given_number T P m ∷ (map (given_number T P) (attrs_of P m) ++ flat_map (below V) (map (given_number T P) (kids_of P m))) =
          (ordered V v).below_at (given_number T P m)
          ∙ ap₂ (λ (a b : List ℕ). given_number T P m ∷ (a ++ flat_map (below V) b)) s.attributes s.kids in
          ⊎_elim (λ (e : k ≡ given_number T P m). omega (arith, e))
          (λ (g : In k (map (given_number T P) (attrs_of P m) ++ flat_map (below V) (map (given_number T P) (kids_of P m)))).
          ⊎_elim (λ (a : In k (map (given_number T P) (attrs_of P m))). among-attributes (attrs_of P m) k a)
          (λ (b : In k (flat_map (below V) (map (given_number T P) (kids_of P m)))).
          among-kids (kids_of P m) (λ j jh. rec j jh (kid-in P f m j jh)) k b)
          (In-append k (map (given_number T P) (attrs_of P m)) (flat_map (below V) (map (given_number T P) (kids_of P m))) g))
          (In-cons k (given_number T P m) (map (given_number T P) (attrs_of P m) ++ flat_map (below V) (map (given_number T P) (kids_of P m))) (subst (In k) is i))

  -- so what lived stays
  old-out : (m : ℕ) → is_live T m ≡ true → occurs m (below V (length T)) ≡ 0
  old-out m here =
      none-in (occurs m (below V (length T)))
      (λ h. absurd (omega (
        arith,
        live-below T m here,
        new-below may.top (top-in P f may.top may.one) m (subst (λ k. In m (below V k)) (sym (top-number P f T may.top may.one)) h),
      )))

  old-live : (m : ℕ) → is_live T m ≡ true → is_live W m ≡ true
  old-live m here =
      live-kept V (length T) p (below V (length T)) (live-owner V (length T) p v up) m (old-out m here)
      ∙ (piece.live-kept T P p before live m (old-other T P p before live m here) ∙ here)

  settled : Settled (λ m. m) T W p (λ m. is_live T m ≡ true) (λ m. ⊥)
  settled = record {
    stays = λ m old. stays-on T V W p m (inserted-stays T P p before live m old) (removed-stays V (length T) p v up kid m (old-live m old));
    fixed = λ m old. refl;
    down = λ m k old ne h. (ways-up T t).kid_live m k (In-mem k (kids_of T m) h);
    attributes = λ m a old h. (ways-up T t).attribute_live m a (In-mem a (attrs_of T m) h);
    kids = kids-owner V (length T) p v up ∙ (kids-back ∙ sym (map-fixed (λ m. m) (kids_of T p) (λ k h. refl)));
    inside = λ k h. inr ((ways-up T t).kid_live p k (In-mem k (kids_of T p) h));
    alike = λ k e. absurd e;
    root = In-live T t.forest t.whole 0 (occurs-head 0 _);
  }

  pub insertion-undone : SameTree T (removed V (length T))
  insertion-undone =
      subst (SameTree T) (sym (ap (removed_from V (length T)) up))
      (settle (λ m. m) T W p (λ m. is_live T m ≡ true) (λ m. ⊥) t w settled)

pub insertions-are-undone : InsertionsAreUndone
insertions-are-undone T P p before t piece may = insertion-undone T P p before (formed-of T t) (formed-of P piece) may
