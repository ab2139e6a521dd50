-- A piece that may come under a node makes of a formed table a formed one.
use Rattle.std.proofs.Common.{◌≡◌, ◌≢◌, ℕ, true, [], ◌∷◌, length, take, drop, sym, ap, ◌∙◌, subst, ⊎_elim, true≢false, arith}
use Rattle.doc_table.specs.Kinds.{holds_kids}
use Rattle.doc_table.specs.Table.{Table, attrs_of, kids_of, kind_at, kind_of, is_live}
use Rattle.doc_table.specs.inner.Forest.{Forest, tops, flat, Whole}
use Rattle.doc_table.specs.inner.Sound.{Fits, Formed}
use Rattle.doc_table.proofs.Appending.{holder-live}
use Rattle.doc_table.proofs.Counts.{live-count, text-count}
use Rattle.doc_table.proofs.ListLemmas.{In, In-mem, occurs-head, eq_or}
use Rattle.doc_table.proofs.Paths.{plug, owner, elders}
use Rattle.doc_table.proofs.Ways.{In-live}
use Rattle.doc_edits.specs.Changes.{inserted, given_number}
use Rattle.doc_edits.specs.Fitting.{MayTake}
use Rattle.doc_edits.proofs.GraftLemmas.{Slot, slot_of, moved}
use Rattle.doc_edits.proofs.InsertionLemmas.{IsNew, IsOther, new-or, nodes-flat, nodes-once, number-top, whole-inserted, content-kept, old-other, length-inserted}
use Rattle.doc_edits.proofs.InsertionWayLemmas.{way-new}
use Rattle.doc_edits.proofs.InsertionFitLemmas.{fits-other, fits-parent, fits-new}
use Rattle.doc_edits.proofs.InsertionSumLemmas.{count-inserted, text-inserted}

-- a node that holds kids is no attribute
no-attribute : (T : Table) → Formed T → (p q : ℕ) → holds_kids (kind_of T p) ≡ true → In p (attrs_of T q) → ⊥
no-attribute T t p q holds h = true≢false (sym holds ∙ ap holds_kids ((t.fits q).attribute_kind p (In-mem p (attrs_of T q) h)))

-- the forest of the table with the piece, and the number of the piece's top
record Placing (T : Table) (p before : ℕ) (P : Table) (top : ℕ) : Type 0 where
  forest : Forest
  whole : Whole (inserted T p before P) forest
  first : given_number T P top ≡ length T

placing : (T : Table) (p before : ℕ) (P : Table) → Formed T → (f : Formed P) → (m : MayTake T p before P) → Placing T p before P m.top
placing T p before P t f m =
    let s : Slot t.forest p (take before (kids_of T p)) (drop before (kids_of T p)) =
    slot_of T t.forest p before t.whole (holder-live T p m.under) (λ q. no-attribute T t p q m.under) m.among in
    let w : Whole T (plug s.path s.behind) = subst (Whole T) (sym s.fills) t.whole in
    let one : tops f.forest ≡ m.top ∷ [] = sym f.whole.root.kids_are ∙ m.one in
    let front : elders s.path ≡ take before (kids_of T (owner s.path)) = s.before ∙ ap (λ q. take before (kids_of T q)) (sym s.owns) in
    let back : tops s.behind ≡ drop before (kids_of T (owner s.path)) = s.after ∙ ap (λ q. drop before (kids_of T q)) (sym s.owns) in
    subst (λ q. Placing T q before P m.top) s.owns (record {
      forest = plug s.path (moved (given_number T P) f.forest s.behind);
      whole = whole-inserted T P s.path s.behind before w f.forest f.whole (nodes-flat P f) m.top one front back;
      first = number-top T P s.path s.behind before w f.forest f.whole (nodes-flat P f) m.top one front back;
    })

pub insertion : (T : Table) (p before : ℕ) (P : Table) → Formed T → Formed P → MayTake T p before P → Formed (inserted T p before P)
insertion T p before P t f m =
    let live : is_live T p ≡ true = holder-live T p m.under in
    let place : Placing T p before P m.top = placing T p before P t f m in
    record {
      forest = place.forest;
      whole = place.whole;
      root_kind = ap kind_at (content-kept T P p before live 0 (old-other T P p before live 0 (In-live T t.forest t.whole 0 (occurs-head 0 (flat t.forest))))) ∙ t.root_kind;
      fits = λ n. ⊎_elim
          (λ (new : IsNew T P n). subst (Fits (inserted T p before P)) (sym new.is)
          (fits-new T P p before live t f new.number new.here (way-new T P p before live t.forest t.whole place.forest place.whole f new.number new.here) (m.shallow new.number)))
          (λ (other : IsOther T P n). ⊎_elim
          (λ (e : n ≡ p). subst (Fits (inserted T p before P)) (sym e) (fits-parent T P p before live t f m place.first))
          (λ (ne : n ≢ p). fits-other T P p before live t f n other ne)
          (eq_or n p))
          (new-or T P (nodes-once P f.forest f.whole (nodes-flat P f)) n);
      few_nodes = omega (arith, count-inserted T P p before, live-count T t.forest t.whole, m.few_nodes);
      few_numbers = omega (arith, length-inserted T P p before live, m.few_numbers);
      little_text = omega (arith, text-inserted T P p before f, text-count T t.forest t.whole, m.little);
    }
