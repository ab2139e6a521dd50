-- A node that went comes back as a piece with the same lines.
use Rattle.std.proofs.Math.Seq.{drop-append_seam, take-append_seam}
use Rattle.std.proofs.lemmas.List.{map-append}
use Rattle.std.proofs.Common.{◌≡◌, ◌≢◌, ℕ, ◌+◌, ◌≤◌, cond, eqb, true, List, ◌∷◌, ◌++◌, length, map, take, drop, Some, refl, sym, ap, ap₂, ◌∙◌, inl, inr, subst, ⊎_elim, arith, eq-eqb, ne_eqb}
use Rattle.doc_table.specs.Lists.{occurs}
use Rattle.doc_table.specs.Table.{Table, is_live, kids_of, parent_of}
use Rattle.doc_table.specs.Laws.{TextsApart, WellFormed}
use Rattle.doc_table.specs.Lines.{lines, lines_below}
use Rattle.doc_table.specs.SameTree.{SameTree}
use Rattle.doc_table.specs.inner.Sound.{Formed}
use Rattle.doc_table.proofs.ListLemmas.{In, In-mem, eq_or, occurs-append, occurs-head, occurs-same}
use Rattle.doc_table.proofs.Forests.{formed-of}
use Rattle.doc_table.proofs.TreeLaws.{well-formed}
use Rattle.doc_edits.specs.Changes.{inserted, removed, removed_from, without}
use Rattle.doc_edits.specs.Fitting.{MayTake}
use Rattle.doc_edits.proofs.ClearLemmas.{without-split}
use Rattle.doc_edits.proofs.InsertionLemmas.{kids-parent}
use Rattle.doc_edits.proofs.InsertionTreeLemmas.{insertion}
use Rattle.doc_edits.proofs.RemovalLemmas.{formed-left, kids-owner, remaining}
use Rattle.doc_undo_laws.specs.Undoing.{DeletionsAreUndone}
use Rattle.doc_undo_laws.proofs.Alongside.{map-fixed}
use Rattle.doc_undo_laws.proofs.PieceLines.{new-lines}
use Rattle.doc_undo_laws.proofs.Settling.{Settled, attribute-stays, gone-other, inserted-stays, kid-other, kid-stays, owner-stays, removed-stays, root-stays, settle, stays-on}

-- a number has come in the place of another
abbrev pub instead : ℕ → ℕ → ℕ → ℕ
instead n new m = cond (eqb m n) new m

pub instead-here : (n new : ℕ) → instead n new n ≡ new
instead-here n new = rw (eq-eqb n n refl) refl

pub instead-other : (n new m : ℕ) → m ≢ n → instead n new m ≡ m
instead-other n new m ne = rw (ne_eqb m n ne) refl

-- a list around one of its numbers
module _ (n : ℕ) (xs front back : List ℕ) (once : (k : ℕ) → occurs k xs ≤ 1) (is : xs ≡ front ++ n ∷ back) where
  pub listed : In n xs
  listed = rw is (omega (arith, occurs-append n front (n ∷ back), occurs-head n back))

  counts : (k : ℕ) → occurs k front + occurs k (n ∷ back) ≤ 1
  counts k = omega (arith, once k, ap (occurs k) is, occurs-append k front (n ∷ back))

  pub not-before : (k : ℕ) → In k front → k ≢ n
  not-before k h e = absurd (omega (arith, counts k, h, subst (λ j. In k (j ∷ back)) e (occurs-head k back)))

  pub not-behind : (k : ℕ) → In k back → k ≢ n
  not-behind k h e = absurd (let i : In n back = subst (λ j. In j back) e h in omega (arith, counts n, i, occurs-same n back))

  pub without-it : without n xs ≡ front ++ back
  without-it =
      ap (without n) is
      ∙ without-split n front back
      (omega (arith, counts n, occurs-same n back)) (omega (arith, counts n, occurs-same n back))

  pub map-instead : (new : ℕ) → map (instead n new) xs ≡ front ++ new ∷ back
  map-instead new =
      ap (map (instead n new)) is
      ∙ (map-append (instead n new) front (n ∷ back)
      ∙ ap₂ (λ (a b : List ℕ). a ++ b) (map-fixed (instead n new) front (λ k h. instead-other n new k (not-before k h)))
      (ap₂ (λ (a : ℕ) (b : List ℕ). a ∷ b) (instead-here n new) (map-fixed (instead n new) back (λ k h. instead-other n new k (not-behind k h)))))

pub put-at : (front back : List ℕ) (k : ℕ) → take (length front) (front ++ back) ++ k ∷ drop (length front) (front ++ back) ≡ front ++ k ∷ back
put-at front back k = ap₂ (λ (a b : List ℕ). a ++ k ∷ b) (take-append_seam front back) (drop-append_seam front back)

module _ (T P : Table) (n p : ℕ) (front back : List ℕ) (t : Formed T) (piece : Formed P) (kids : kids_of T p ≡ front ++ n ∷ back) (apart : TextsApart T (front ++ back)) where
  form : WellFormed T
  form = well-formed T t

  kid : In n (kids_of T p)
  kid = listed n (kids_of T p) front back (form.kids_once p) kids

  pub kid-up : parent_of T n ≡ Some p
  kid-up = form.kid_parent p n (In-mem n (kids_of T p) kid)

  abbrev R : Table
  R = remaining T n p t kid-up

  pub is-rest : removed T n ≡ R
  is-rest = ap (removed_from T n) kid-up

  pub kids-rest : kids_of R p ≡ front ++ back
  kids-rest = kids-owner T n p t kid-up ∙ without-it n (kids_of T p) front back (form.kids_once p) kids

  pub rest-formed : Formed R
  rest-formed = formed-left T n p t kid-up (subst (TextsApart T) (sym (without-it n (kids_of T p) front back (form.kids_once p) kids)) apart)

  module _ (may : MayTake R p (length front) P) (same : lines P ≡ lines_below T n) where
    abbrev V : Table
    V = inserted R p (length front) P

    formed : Formed V
    formed = insertion R p (length front) P rest-formed piece may

    live : is_live R p ≡ true
    live = owner-stays T n p t kid-up kid

    kids-are : kids_of V p ≡ map (instead n (length R)) (kids_of T p)
    kids-are =
        kids-parent R P p (length front) live
        ∙ (ap (λ (l : List ℕ). take (length front) l ++ length R ∷ drop (length front) l) kids-rest
        ∙ (put-at front back (length R) ∙ sym (map-instead n (kids_of T p) front back (form.kids_once p) kids (length R))))

    settled : Settled (instead n (length R)) T V p (λ m. is_live R m ≡ true) (λ m. m ≡ n)
    settled = record {
      stays = λ m old. stays-on T R V p m (removed-stays T n p t kid-up kid m old) (inserted-stays R P p (length front) live m old);
      fixed = λ m old. instead-other n (length R) m (gone-other T n p t kid-up kid m old);
      down = λ m k old ne h. kid-stays T n p t kid-up kid m k old (kid-other T n p t kid-up kid m k ne h) h;
      attributes = λ m a old h. attribute-stays T n p t kid-up kid m a old h;
      kids = kids-are;
      inside = λ k h. ⊎_elim (λ (e : k ≡ n). inl e) (λ (ne : k ≢ n). inr (kid-stays T n p t kid-up kid p k live ne h)) (eq_or k n);
      alike = λ k e. ap (λ j. lines_below V (instead n (length R) j)) e
          ∙ (ap (lines_below V) (instead-here n (length R)) ∙ (new-lines P piece R p (length front) may.top live may.one formed ∙ (same ∙ ap (lines_below T) (sym e))));
      root = root-stays T n p t kid-up kid;
    }

    pub deletion-undone : SameTree T V
    deletion-undone = settle (instead n (length R)) T V p (λ m. is_live R m ≡ true) (λ m. m ≡ n) t formed settled

pub deletions-are-undone : DeletionsAreUndone
deletions-are-undone T P n p front back t piece kids apart same may =
    let tree : Formed T = formed-of T t in
    let rest : removed T n ≡ remaining T n p tree (kid-up T P n p front back tree (formed-of P piece) kids apart) = is-rest T P n p front back tree (formed-of P piece) kids apart in
    subst (λ R. SameTree T (inserted R p (length front) P)) (sym rest)
    (deletion-undone T P n p front back tree (formed-of P piece) kids apart (subst (λ R. MayTake R p (length front) P) rest may) same)
