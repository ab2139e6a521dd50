-- Where a node says another text, has another name, or goes with all below it, so does the one to which it corresponds.
use Rattle.std.proofs.Common.{◌≡◌, ◌≢◌, ℕ, zero, suc, ◌≤◌, Bool, true, false, ◌&&◌, List, [], ◌∷◌, ◌++◌, map, Option, None, Some, refl, sym, ap, ap₂, ◌∙◌, subst, ⊎_elim, arith, eqb}
use Rattle.std.specs.Prelude.{option_map, if◌then◌else◌}
use Rattle.doc_table.specs.Kinds.{is_text}
use Rattle.doc_table.specs.Laws.{TextsApart}
use Rattle.doc_table.specs.Lists.{occurs}
use Rattle.doc_table.specs.Table.{Content, Table, attrs_at, attrs_of, content_at, content_of, entry_at, kids_above, kids_at, kids_of, kind_of, parent_at, parent_of, value_at, value_of}
use Rattle.doc_table.specs.Walks.{below}
use Rattle.doc_table.specs.inner.Sound.{Formed}
use Rattle.doc_table.proofs.Forests.{formed-of}
use Rattle.doc_table.proofs.ListLemmas.{eq_or}
use Rattle.doc_table.proofs.TreeLaws.{ways-up, well-formed}
use Rattle.doc_edits.specs.Changes.{Meeting, deleted, deleted_by, meeting, removed, removed_from, renaming, said, saying, without}
use Rattle.doc_edits.specs.Fitting.{MayGo}
use Rattle.doc_edits.proofs.ClearLemmas.{entry-gone}
use Rattle.doc_edits.proofs.DeletionLemmas.{Met, first-apart, first-up, is-first, lone-apart, met, second-apart, up-right}
use Rattle.doc_edits.proofs.RecontentLemmas.{KeepsKind, recontent, recontented, same-links, same-order}
use Rattle.doc_edits.proofs.RemovalLemmas.{attributes-left, formed-left, kids-left, remaining, same-content, same-parent, texts-without}
use Rattle.doc_edits.proofs.RenamingLemmas.{renaming-kind}
use Rattle.doc_edits.proofs.SayingLemmas.{saying-kind}
use Rattle.doc_edits.proofs.TableLemmas.{changed-other}
use Rattle.doc_iso_laws.specs.EditsMove.{ChangesMove}
use Rattle.doc_iso_laws.proofs.MovedLemmas.{MovesAt, below-moved, kind-moved, occurs-moved, renumbers-of, root-moved, texts-moved, without-moved}
use Rattle.tree_iso.specs.Renumbering.{Renumbers}
use Rattle.tree_iso.proofs.NumberLemmas.{eqb-moved}

-- a content that changes at a number
content-changed : (change : Content → Content) (T : Table) (n : ℕ) → content_of (recontented change T n) n ≡ option_map change (content_of T n)
content-changed change [] n = refl
content-changed change (None ∷ T) zero = refl
content-changed change (Some node ∷ T) zero = refl
content-changed change (e ∷ T) (suc n) = content-changed change T n

recontent-moved : (change : Content → Content) (keeps : KeepsKind change) (f : ℕ → ℕ) (T U : Table) (n : ℕ) → Formed T → Formed U → Renumbers f T U →
    Renumbers f (recontented change T n) (recontented change U (f n))
recontent-moved change keeps f T U n t u r = record {
  apart = r.apart;
  in_order = same-order change keeps U (f n) u.forest u.whole ∙ (r.in_order ∙ ap (map f) (sym (same-order change keeps T n t.forest t.whole)));
  content = λ m. ⊎_elim
      (λ (e : m ≡ n). ap (λ k. content_of (recontented change U (f n)) (f k)) e
      ∙ (content-changed change U (f n) ∙ (ap (option_map change) (r.content n) ∙ (sym (content-changed change T n) ∙ ap (content_of (recontented change T n)) (sym e)))))
      (λ (ne : m ≢ n). ap content_at (changed-other U (f n) (recontent change) (f m) (λ e. ne (r.apart m n e)))
      ∙ (r.content m ∙ sym (ap content_at (changed-other T n (recontent change) m ne))))
      (eq_or m n);
  parent = λ m. (same-links change keeps U (f n) (f m)).parent ∙ (r.parent m ∙ ap (option_map f) (sym (same-links change keeps T n m).parent));
  kids = λ m. (same-links change keeps U (f n) (f m)).kids ∙ (r.kids m ∙ ap (map f) (sym (same-links change keeps T n m).kids));
  attributes = λ m. (same-links change keeps U (f n) (f m)).attributes ∙ (r.attributes m ∙ ap (map f) (sym (same-links change keeps T n m).attributes));
}

-- trees that lose corresponding nodes
record Lose (f : ℕ → ℕ) (T U : Table) : Type 0 where
  one : Formed T
  other : Formed U
  renumbers : Renumbers f T U

module _ (f : ℕ → ℕ) (T U : Table) (n p : ℕ) (t : Formed T) (u : Formed U) (r : Renumbers f T U) (up : parent_of T n ≡ Some p) (apart : TextsApart T (without n (kids_of T p))) where
  up-moved : parent_of U (f n) ≡ Some (f p)
  up-moved = r.parent n ∙ ap (option_map f) up

  abbrev less : Table
  less = remaining T n p t up

  abbrev less_moved : Table
  less_moved = remaining U (f n) (f p) u up-moved

  formed : Formed less
  formed = formed-left T n p t up apart

  formed-moved : Formed less_moved
  formed-moved =
      formed-left U (f n) (f p) u up-moved
      (subst (TextsApart U) (sym (ap (without (f n)) (r.kids p) ∙ without-moved f r.apart n (kids_of T p))) (texts-moved f T U r (without n (kids_of T p)) apart))

  count-moved : (m : ℕ) → occurs (f m) (below U (f n)) ≡ occurs m (below T n)
  count-moved m = ap (occurs (f m)) (below-moved f T U r t u n) ∙ occurs-moved f r.apart m (below T n)

  moves-gone : (m : ℕ) → 1 ≤ occurs m (below T n) → MovesAt f less less_moved m
  moves-gone m h =
      let here : entry_at less m ≡ None = entry-gone T n p (below T n) m h in
      let there : entry_at less_moved (f m) ≡ None = entry-gone U (f n) (f p) (below U (f n)) (f m) (omega (arith, h, count-moved m)) in
      record {
        content = ap content_at there ∙ sym (ap content_at here);
        parent = ap parent_at there ∙ sym (ap (λ o. option_map f (parent_at o)) here);
        kids = ap kids_at there ∙ sym (ap (λ o. map f (kids_at o)) here);
        attributes = ap attrs_at there ∙ sym (ap (λ o. map f (attrs_at o)) here);
      }

  moves-left : (m : ℕ) → occurs m (below T n) ≡ 0 → MovesAt f less less_moved m
  moves-left m h =
      let g : occurs (f m) (below U (f n)) ≡ 0 = count-moved m ∙ h in
      record {
        content = same-content U (f n) (f p) u up-moved (f m) g ∙ (r.content m ∙ sym (same-content T n p t up m h));
        parent = same-parent U (f n) (f p) u up-moved (f m) g ∙ (r.parent m ∙ ap (option_map f) (sym (same-parent T n p t up m h)));
        kids = kids-left U (f n) (f p) u up-moved (f m) g ∙ (ap (without (f n)) (r.kids m) ∙ (without-moved f r.apart n (kids_of T m) ∙ ap (map f) (sym (kids-left T n p t up m h))));
        attributes = attributes-left U (f n) (f p) u up-moved (f m) g
            ∙ (ap (without (f n)) (r.attributes m) ∙ (without-moved f r.apart n (attrs_of T m) ∙ ap (map f) (sym (attributes-left T n p t up m h))));
      }

  moves : (m : ℕ) → MovesAt f less less_moved m
  moves m = by (occurs m (below T n)) refl
    where
      by : (k : ℕ) → occurs m (below T n) ≡ k → MovesAt f less less_moved m
      by zero e = moves-left m e
      by (suc k) e = moves-gone m (omega (arith, e))

  lose : Lose f (removed T n) (removed U (f n))
  lose =
      subst (λ A. Lose f A (removed U (f n))) (sym (ap (removed_from T n) up))
      (subst (λ B. Lose f less B) (sym (ap (removed_from U (f n)) up-moved))
      (record { one = formed; other = formed-moved; renumbers = renumbers-of f less less_moved formed formed-moved r.apart (root-moved f T U r t u) moves }))

removal-moves : (f : ℕ → ℕ) (T U : Table) (n : ℕ) → Formed T → Formed U → Renumbers f T U → MayGo T n → Renumbers f (removed T n) (removed U (f n))
removal-moves f T U n t u r go =
    let up = (ways-up T t).has_parent n go.lives go.below_root in
    (lose f T U n up.0 t u r up.1
    (texts-without T n (kids_of T up.0) ((well-formed T t).kids_once up.0) ((well-formed T t).texts_apart up.0) (λ before behind e. go.apart before behind up.0 e))).renumbers

-- two texts that meet
abbrev meeting_moved : (ℕ → ℕ) → Meeting → Meeting
meeting_moved f texts = record { left = f texts.left; right = f texts.right }

module _ (f : ℕ → ℕ) (T U : Table) (r : Renumbers f T U) (n : ℕ) where
  meets-moved : (ks : List ℕ) → meeting U (f n) (map f ks) ≡ option_map (meeting_moved f) (meeting T n ks)
  meets-moved [] = refl
  meets-moved (l ∷ []) = refl
  meets-moved (l ∷ m ∷ []) = refl
  meets-moved (l ∷ m ∷ k ∷ ks) =
      rw (eqb-moved f r.apart m n, kind-moved f T U r l, kind-moved f T U r k) (by (eqb m n) (is_text (kind_of T l) && is_text (kind_of T k)) (meets-moved (m ∷ k ∷ ks)))
    where
      by : (same both : Bool) → meeting U (f n) (map f (m ∷ k ∷ ks)) ≡ option_map (meeting_moved f) (meeting T n (m ∷ k ∷ ks)) →
          (if same then (if both then Some (record { left = f l; right = f k }) else None) else meeting U (f n) (map f (m ∷ k ∷ ks)))
          ≡ option_map (meeting_moved f) (if same then (if both then Some (record { left = l; right = k }) else None) else meeting T n (m ∷ k ∷ ks))
      by true true rest = refl
      by true false rest = refl
      by false both rest = rest

deletion-moves : (f : ℕ → ℕ) (T U : Table) (n : ℕ) → Formed T → Formed U → Renumbers f T U → Renumbers f (deleted T n) (deleted U (f n))
deletion-moves f T U n t u r = by (parent_of T n) refl
  where
    merged : (p : ℕ) → parent_of T n ≡ Some p → (texts : Meeting) → Met T n (kids_of T p) texts → Renumbers f (deleted_by T n (Some texts)) (deleted_by U (f n) (Some (meeting_moved f texts)))
    merged p up texts m =
        let first : Lose f (removed T texts.right) (removed U (f texts.right)) =
        lose f T U texts.right p t u r (up-right T n p texts.left texts.right m.front m.back t up m.is m.left_text m.right_text)
        (first-apart T n p texts.left texts.right m.front m.back t up m.is m.left_text m.right_text) in
        let is : removed T texts.right ≡ remaining T texts.right p t (up-right T n p texts.left texts.right m.front m.back t up m.is m.left_text m.right_text) =
        is-first T n p texts.left texts.right m.front m.back t up m.is m.left_text m.right_text in
        let second : Lose f (removed (removed T texts.right) n) (removed (removed U (f texts.right)) (f n)) =
        lose f (removed T texts.right) (removed U (f texts.right)) n p first.one first.other first.renumbers
        (ap (λ A. parent_of A n) is ∙ first-up T n p texts.left texts.right m.front m.back t up m.is m.left_text m.right_text)
        (subst (λ A. TextsApart A (without n (kids_of A p))) (sym is) (second-apart T n p texts.left texts.right m.front m.back t up m.is m.left_text m.right_text)) in
        let values : value_of T texts.left ++ value_of T texts.right ≡ value_of U (f texts.left) ++ value_of U (f texts.right) =
        ap₂ (λ (a b : List ℕ). a ++ b) (ap value_at (sym (r.content texts.left))) (ap value_at (sym (r.content texts.right))) in
        subst (λ v. Renumbers f (said (removed (removed T texts.right) n) texts.left (value_of T texts.left ++ value_of T texts.right)) (said (removed (removed U (f texts.right)) (f n)) (f texts.left) v)) values
        (recontent-moved (saying (value_of T texts.left ++ value_of T texts.right)) (saying-kind (value_of T texts.left ++ value_of T texts.right)) f
        (removed (removed T texts.right) n) (removed (removed U (f texts.right)) (f n)) texts.left second.one second.other second.renumbers)

    by_meeting : (p : ℕ) → parent_of T n ≡ Some p → (o : Option Meeting) → meeting T n (kids_of T p) ≡ o → Renumbers f (deleted_by T n o) (deleted_by U (f n) (option_map (meeting_moved f) o))
    by_meeting p up None none = (lose f T U n p t u r up (lone-apart T n p t none)).renumbers
    by_meeting p up (Some texts) some = merged p up texts (met T n (kids_of T p) texts some)

    by : (o : Option ℕ) → parent_of T n ≡ o → Renumbers f (deleted T n) (deleted U (f n))
    by None e =
        let there : parent_of U (f n) ≡ None = r.parent n ∙ ap (option_map f) e in
        let here_is : deleted T n ≡ T = ap (λ o. deleted_by T n (meeting T n (kids_above T o))) e ∙ ap (removed_from T n) e in
        let there_is : deleted U (f n) ≡ U = ap (λ o. deleted_by U (f n) (meeting U (f n) (kids_above U o))) there ∙ ap (removed_from U (f n)) there in
        subst (λ A. Renumbers f A (deleted U (f n))) (sym here_is) (subst (λ B. Renumbers f T B) (sym there_is) r)
    by (Some p) e =
        let there : parent_of U (f n) ≡ Some (f p) = r.parent n ∙ ap (option_map f) e in
        let texts : meeting U (f n) (kids_of U (f p)) ≡ option_map (meeting_moved f) (meeting T n (kids_of T p)) = ap (meeting U (f n)) (r.kids p) ∙ meets-moved f T U r n (kids_of T p) in
        let here_is : deleted T n ≡ deleted_by T n (meeting T n (kids_of T p)) = ap (λ o. deleted_by T n (meeting T n (kids_above T o))) e in
        let there_is : deleted U (f n) ≡ deleted_by U (f n) (option_map (meeting_moved f) (meeting T n (kids_of T p))) =
        ap (λ o. deleted_by U (f n) (meeting U (f n) (kids_above U o))) there ∙ ap (deleted_by U (f n)) texts in
        subst (λ A. Renumbers f A (deleted U (f n))) (sym here_is)
        (subst (λ B. Renumbers f (deleted_by T n (meeting T n (kids_of T p))) B) (sym there_is) (by_meeting p e (meeting T n (kids_of T p)) refl))

pub changes-move : ChangesMove
changes-move = record {
  saying = λ f T U n new t u r. recontent-moved (saying new) (saying-kind new) f T U n (formed-of T t) (formed-of U u) r;
  renaming = λ f T U n name t u r. recontent-moved (renaming name) (renaming-kind name) f T U n (formed-of T t) (formed-of U u) r;
  removal = λ f T U n t u r go. removal-moves f T U n (formed-of T t) (formed-of U u) r go;
  deletion = λ f T U n t u r. deletion-moves f T U n (formed-of T t) (formed-of U u) r;
}
