-- Counts of elements and texts among the root's kids, which edits keep.
use Rattle.std.proofs.Common.{◌≡◌, ◌≢◌, ℕ, ◌+◌, ◌≤◌, Bool, true, false, cond, ◌&&◌, eqb, List, [], ◌∷◌, ◌++◌, length, take, drop, count_by, Option, None, Some, refl, sym, ap, ◌∙◌, subst, ⊎_elim, true≢false, arith, eqb-true, eq-eqb}
use Rattle.std.specs.Prelude.{◌==◌, if◌then◌else◌}
use Rattle.std.specs.List.{flat_map}
use Rattle.std.proofs.lemmas.Bool.{and_parts, and_from}
use Rattle.std.proofs.lemmas.List.Sums.{sum_by-cons, sum_by-append, sum_by-take-drop}
use Rattle.doc_table.specs.declared.kind.Kind.{Kind}
use Rattle.doc_table.specs.declared.kind.Kind.TheVariants.{Root, Element, Attribute, Text, Comment, Pi}
use Rattle.doc_table.specs.Kinds.{holds_kids, is_document, is_element, is_text}
use Rattle.doc_table.specs.Lists.{mem, place_in}
use Rattle.doc_table.specs.Table.{Facts, Name, Table, attrs_of, content_at, entry_at, is_live, kids_above, kids_of, kind_at, kind_of, parent_of}
use Rattle.doc_table.specs.Walks.{below}
use Rattle.doc_table.specs.inner.Sound.{Formed}
use Rattle.doc_table.proofs.Appending.{holder-live}
use Rattle.doc_table.proofs.ListLemmas.{In, In-mem, eq_or, occurs-head}
use Rattle.doc_table.proofs.TreeLaws.{ordered, ways-up, well-formed}
use Rattle.doc_table.proofs.Forests.{formed-of}
use Rattle.doc_table.proofs.Ways.{parent-has}
use Rattle.doc_edits.specs.Changes.{Meeting, meeting, without, removed, renamed, renaming, deleted, deleted_by, said, gained, nodes_in, given_number, inserted}
use Rattle.doc_edits.specs.Fitting.{MayTake}
use Rattle.doc_edits.specs.Keeping.{DeletionsKeepTrees}
use Rattle.doc_edits.proofs.ClearLemmas.{without-head, without-tail}
use Rattle.doc_edits.proofs.NumberingLemmas.{place-first}
use Rattle.doc_edits.proofs.InsertionLemmas.{given-content, content-kept, kids-parent, links-kept, old-other, entry-new}
use Rattle.doc_edits.specs.Documents.{EditsKeepDocuments}
use Rattle.doc_edits.proofs.RecontentLemmas.{same-kind, same-links}
use Rattle.doc_edits.proofs.RenamingLemmas.{renaming-kind}
use Rattle.doc_edits.proofs.RemainderLemmas.{stays-removed, stays-both, kids-removed, said-live, said-kids, said-kind, before-new, gained-kids, gained-content}

-- counts in lists
abbrev one_if : Bool → ℕ
one_if b = cond b 1 0

module _ (f : ℕ → Bool) where
  count-cons : (x : ℕ) (xs : List ℕ) → count_by f (x ∷ xs) ≡ one_if (f x) + count_by f xs
  count-cons x xs = sum_by-cons (λ y. one_if (f y)) x xs

  count-without : (n : ℕ) (xs : List ℕ) → f n ≡ false → count_by f (without n xs) ≡ count_by f xs
  count-without n [] h = refl
  count-without n (x ∷ xs) h =
      ⊎_elim
      (λ (e : n ≡ x).
      omega (arith, ap (count_by f) (without-head n x xs e), count-without n xs h, count-cons x xs, ap one_if (ap f (sym e) ∙ h)))
      (λ (ne : n ≢ x).
      omega (arith, ap (count_by f) (without-tail n x xs ne), count-without n xs h, count-cons x xs, count-cons x (without n xs)))
      (eq_or n x)

  count-fewer : (n : ℕ) (xs : List ℕ) → count_by f (without n xs) ≤ count_by f xs
  count-fewer n [] = omega arith
  count-fewer n (x ∷ xs) =
      ⊎_elim (λ (e : n ≡ x). omega (arith, ap (count_by f) (without-head n x xs e), count-fewer n xs, count-cons x xs))
      (λ (ne : n ≢ x). omega (arith, ap (count_by f) (without-tail n x xs ne), count-fewer n xs, count-cons x xs, count-cons x (without n xs)))
      (eq_or n x)

  count-between : (i x : ℕ) (xs : List ℕ) → f x ≡ false → count_by f (take i xs ++ x ∷ drop i xs) ≡ count_by f xs
  count-between i x xs h =
      omega (
        arith,
        sum_by-append (λ y. one_if (f y)) (take i xs) (x ∷ drop i xs),
        count-cons x (drop i xs),
        sum_by-take-drop (λ y. one_if (f y)) xs i,
        ap one_if h,
      )

count-same : (f g : ℕ → Bool) (xs : List ℕ) → ((k : ℕ) → In k xs → f k ≡ g k) → count_by f xs ≡ count_by g xs
count-same f g [] same = refl
count-same f g (x ∷ xs) same =
    omega (
      arith,
      count-cons f x xs,
      count-cons g x xs,
      ap one_if (same x (occurs-head x xs)),
      count-same f g xs (λ k h. same k (omega (arith, h))),
    )

-- the kinds that a table has, as a test of numbers
abbrev has_kind : (Option Kind → Bool) → Table → ℕ → Bool
has_kind test T k = test (kind_of T k)

abbrev count : (Option Kind → Bool) → Table → ℕ
count test T = count_by (has_kind test T) (kids_of T 0)

-- a document is one by its counts
document-by : (T U : Table) → is_document T ≡ true → count is_element U ≡ count is_element T → count is_text U ≤ count is_text T → is_document U ≡ true
document-by T U doc elements texts =
    let parts = and_parts (count is_element T == 1) (count is_text T == 0) doc in
    let one : count is_element T ≡ 1 = eqb-true (count is_element T) 1 parts.0 in
    let none : count is_text T ≡ 0 = eqb-true (count is_text T) 0 parts.1 in
    and_from (count is_element U == 1) (count is_text U == 0)
    (eq-eqb (count is_element U) 1 (elements ∙ one)) (eq-eqb (count is_text U) 0 (omega (arith, texts, none)))

-- where kinds stay, counts do with the list
count-kept : (test : Option Kind → Bool) (T U : Table) → ((k : ℕ) → mem k (kids_of U 0) ≡ true → kind_of U k ≡ kind_of T k)
    → count test U ≡ count_by (has_kind test T) (kids_of U 0)
count-kept test T U kinds = count-same (has_kind test U) (has_kind test T) (kids_of U 0) (λ k h. ap test (kinds k (In-mem k (kids_of U 0) h)))

document-same : (T U : Table) → kids_of U 0 ≡ kids_of T 0 → ((k : ℕ) → mem k (kids_of T 0) ≡ true → kind_of U k ≡ kind_of T k) → is_document T ≡ true → is_document U ≡ true
document-same T U kids kinds doc =
    let all : (k : ℕ) → mem k (kids_of U 0) ≡ true → kind_of U k ≡ kind_of T k = λ k h. kinds k (ap (mem k) (sym kids) ∙ h) in
    document-by T U doc (count-kept is_element T U all ∙ ap (count_by (has_kind is_element T)) kids)
    (omega (arith, count-kept is_text T U all, ap (count_by (has_kind is_text T)) kids))

-- counts where a node is removed
module _ (f : ℕ → Bool) (T : Table) (n : ℕ) (lives : is_live (removed T n) 0 ≡ true) where
  count-removed : (parent_of T n ≡ Some 0 → f n ≡ false) → count_by f (kids_of (removed T n) 0) ≡ count_by f (kids_of T 0)
  count-removed other =
      ⊎_elim (λ (same : kids_of (removed T n) 0 ≡ kids_of T 0). ap (count_by f) same)
      (λ (less : (parent_of T n ≡ Some 0) × (kids_of (removed T n) 0 ≡ without n (kids_of T 0))). ap (count_by f) less.1 ∙ count-without f n (kids_of T 0) (other less.0))
      (kids-removed T n 0 lives)

  count-left : count_by f (kids_of (removed T n) 0) ≤ count_by f (kids_of T 0)
  count-left =
      ⊎_elim (λ (same : kids_of (removed T n) 0 ≡ kids_of T 0). omega (arith, ap (count_by f) same))
      (λ (less : (parent_of T n ≡ Some 0) × (kids_of (removed T n) 0 ≡ without n (kids_of T 0))). omega (arith, ap (count_by f) less.1, count-fewer f n (kids_of T 0)))
      (kids-removed T n 0 lives)

-- of two texts that meet, the right one is no element
text-other : (o : Option Kind) → is_text o ≡ true → is_element o ≡ false
text-other None h = refl
text-other (Some Root) h = refl
text-other (Some Element) h = absurd (true≢false (sym h))
text-other (Some Attribute) h = refl
text-other (Some Text) h = refl
text-other (Some Comment) h = refl
text-other (Some Pi) h = refl

abbrev meet : ℕ → ℕ → Meeting
meet l r = record { left = l; right = r }

right-text : (T : Table) (n : ℕ) (xs : List ℕ) (texts : Meeting) → meeting T n xs ≡ Some texts → is_text (kind_of T texts.right) ≡ true
right-text T n [] texts h = absurd (cc)
right-text T n (l ∷ []) texts h = absurd (cc)
right-text T n (l ∷ m ∷ []) texts h = absurd (cc)
right-text T n (l ∷ m ∷ r ∷ ms) texts h =
    by (eqb m n) (is_text (kind_of T l) && is_text (kind_of T r)) refl h (λ e. right-text T n (m ∷ r ∷ ms) texts e)
  where
    by : (same both : Bool) → (is_text (kind_of T l) && is_text (kind_of T r)) ≡ both
        → (if same then (if both then Some (meet l r) else None) else meeting T n (m ∷ r ∷ ms)) ≡ Some texts
        → (meeting T n (m ∷ r ∷ ms) ≡ Some texts → is_text (kind_of T texts.right) ≡ true) → is_text (kind_of T texts.right) ≡ true
    by true true t f more =
        let is : meet l r ≡ texts = (cc) in
        subst (λ (x : Meeting). is_text (kind_of T x.right) ≡ true) is (and_parts (is_text (kind_of T l)) (is_text (kind_of T r)) t).1
    by true false t f more = absurd (cc)
    by false both t f more = more f

root-live : (T : Table) → Formed T → is_live T 0 ≡ true
root-live T s = holder-live T 0 (ap holds_kids s.root_kind)

module _ (T : Table) (n : ℕ) (doc : is_document T ≡ true) (other : parent_of T n ≡ Some 0 → is_element (kind_of T n) ≡ false) where
  document-removed : Formed (removed T n) → is_document (removed T n) ≡ true
  document-removed after =
      let live : is_live (removed T n) 0 ≡ true = root-live (removed T n) after in
      let kinds : (k : ℕ) → mem k (kids_of (removed T n) 0) ≡ true → kind_of (removed T n) k ≡ kind_of T k =
      λ k h. ap kind_at (stays-removed T n k ((ways-up (removed T n) after).kid_live 0 k h)).content in
      document-by T (removed T n) doc
      (count-kept is_element T (removed T n) kinds ∙ count-removed (has_kind is_element T) T n live other)
      (omega (arith, count-kept is_text T (removed T n) kinds, count-left (has_kind is_text T) T n live))

  module _ (r l : ℕ) (new : List ℕ) (right : is_text (kind_of T r) ≡ true) where
    abbrev first : Table
    first = removed T r

    abbrev rest : Table
    rest = removed first n

    abbrev merged : Table
    merged = said rest l new

    document-merged : Formed merged → is_document merged ≡ true
    document-merged after =
        let live : is_live rest 0 ≡ true = sym (said-live new rest l 0) ∙ root-live merged after in
        let live_first : is_live first 0 ≡ true = (stays-removed first n 0 live).live in
        let kids : kids_of merged 0 ≡ kids_of rest 0 = said-kids new rest l 0 in
        let kinds : (k : ℕ) → mem k (kids_of merged 0) ≡ true → kind_of merged k ≡ kind_of T k =
        λ k h. said-kind new rest l k ∙ ap kind_at (stays-both T r n k (sym (said-live new rest l k) ∙ (ways-up merged after).kid_live 0 k h)).content in
        let other_first : parent_of first n ≡ Some 0 → is_element (kind_of T n) ≡ false =
        λ up. other (sym (stays-removed T r n (parent-has first n 0 up)).parent ∙ up) in
        document-by T merged doc
        (count-kept is_element T merged kinds
        ∙ (ap (count_by (has_kind is_element T)) kids
        ∙ (count-removed (has_kind is_element T) first n live other_first
        ∙ count-removed (has_kind is_element T) T r live_first (λ up. text-other (kind_of T r) right))))
        (omega (
          arith,
          count-kept is_text T merged kinds,
          ap (count_by (has_kind is_text T)) kids,
          count-left (has_kind is_text T) first n live,
          count-left (has_kind is_text T) T r live_first,
        ))

document-deleted : DeletionsKeepTrees → (T : Table) (n : ℕ) → Formed T → is_document T ≡ true → (parent_of T n ≡ Some 0 → is_element (kind_of T n) ≡ false)
    → is_document (deleted T n) ≡ true
document-deleted deletions T n formed doc other = by (meeting T n (kids_above T (parent_of T n))) refl (formed-of (deleted T n) (deletions T n (well-formed T formed)))
  where
    by : (o : Option Meeting) → meeting T n (kids_above T (parent_of T n)) ≡ o → Formed (deleted_by T n o) → is_document (deleted_by T n o) ≡ true
    by None e after = document-removed T n doc other after
    by (Some texts) e after = document-merged T n doc other texts.right texts.left _ (right-text T n (kids_above T (parent_of T n)) texts e) after

-- an attribute more is no kid
document-gained : (T : Table) (n : ℕ) (name : Name) (value : List ℕ) → Formed T → is_document T ≡ true → is_document (gained T n name value) ≡ true
document-gained T n name value formed doc =
    document-same T (gained T n name value) (gained-kids T n name value 0 (before-new T 0 (root-live T formed)))
    (λ k h. ap kind_at (gained-content T n name value k (before-new T k ((ways-up T formed).kid_live 0 k h)))) doc

module _ (T P : Table) (p before : ℕ) (t : Formed T) (f : Formed P) (doc : is_document T ≡ true) (may : MayTake T p before P) where
  abbrev U : Table
  U = inserted T p before P

  live : is_live T p ≡ true
  live = holder-live T p may.under

  kinds-kept : (k : ℕ) → mem k (kids_of T 0) ≡ true → kind_of U k ≡ kind_of T k
  kinds-kept k h = ap kind_at (content-kept T P p before live k (old-other T P p before live k ((ways-up T t).kid_live 0 k h)))

  document-apart : 0 ≢ p → is_document U ≡ true
  document-apart ne = document-same T U (links-kept T P p before live 0 (old-other T P p before live 0 (root-live T t)) ne).kids kinds-kept doc

  -- the piece's top gets the next number
  nodes-first : nodes_in P ≡ may.top ∷ ((attrs_of P may.top ++ flat_map (below P) (kids_of P may.top)) ++ [])
  nodes-first = ap (flat_map (below P)) may.one ∙ ap (λ (l : List ℕ). l ++ []) ((ordered P f).below_at may.top)

  number-first : given_number T P may.top ≡ length T
  number-first = omega (arith, ap (place_in may.top) nodes-first, place-first may.top ((attrs_of P may.top ++ flat_map (below P) (kids_of P may.top)) ++ []))

  kind-first : kind_of U (length T) ≡ kind_of P may.top
  kind-first =
      let here : In may.top (nodes_in P) = rw nodes-first (occurs-head may.top _) in
      ap (kind_of U) (sym number-first)
      ∙ (ap (λ (o : Option Facts). kind_at (content_at o)) (entry-new T P p before live may.top here)
      ∙ ap kind_at (given-content (given_number T P) p (entry_at P may.top)))

  count-more : (test : Option Kind → Bool) → p ≡ 0 → test (kind_of P may.top) ≡ false → count test U ≡ count test T
  count-more test e none =
      let kids : kids_of U 0 ≡ take before (kids_of T 0) ++ length T ∷ drop before (kids_of T 0) =
      subst (λ q. kids_of U q ≡ take before (kids_of T q) ++ length T ∷ drop before (kids_of T q)) e (kids-parent T P p before live) in
      ap (count_by (has_kind test U)) kids
      ∙ (count-between (has_kind test U) before (length T) (kids_of T 0) (ap test kind-first ∙ none)
      ∙ count-same (has_kind test U) (has_kind test T) (kids_of T 0) (λ k h. ap test (kinds-kept k (In-mem k (kids_of T 0) h))))

  document-inserted : (p ≡ 0 → (is_element (kind_of P may.top) ≡ false) × (is_text (kind_of P may.top) ≡ false)) → is_document U ≡ true
  document-inserted none =
      ⊎_elim
      (λ (e : p ≡ 0). document-by T U doc (count-more is_element e (none e).0) (omega (arith, count-more is_text e (none e).1)))
      (λ (ne : p ≢ 0). document-apart (λ e. ne (sym e)))
      (eq_or p 0)

pub edits-keep-documents : DeletionsKeepTrees → EditsKeepDocuments
edits-keep-documents deletions = record {
  saying = λ T n new doc. document-same T (said T n new) (said-kids new T n 0) (λ k h. said-kind new T n k) doc;
  renaming = λ T n name doc.
      document-same T (renamed T n name) (same-links (renaming name) (renaming-kind name) T n 0).kids (λ k h. same-kind (renaming name) (renaming-kind name) T n k) doc;
  deletion = λ T n form doc other. document-deleted deletions T n (formed-of T form) doc other;
  gain = λ T n name value form doc. document-gained T n name value (formed-of T form) doc;
  insertion = λ T p before P form piece doc may none. document-inserted T P p before (formed-of T form) (formed-of P piece) doc may none;
}
