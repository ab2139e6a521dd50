-- What covers a touched cell is touched, and what covers a covering cell covers what that one does.
use Rattle.std.proofs.Common.{◌≡◌, ℕ, Bool, true, false, ◌&&◌, ◌||◌, List, [], ◌∷◌, Option, None, Some, refl, sym, ap, ◌∙◌, subst, ⊎_elim, eqb}
use Rattle.std.specs.Prelude.{if◌then◌else◌}
use Rattle.std.proofs.lemmas.Bool.{and_from, and_parts, eq-eqb, eqb-true, false≢true, or_cases, or_left, or_right}
use Rattle.doc_table.specs.inner.Sound.{Formed}
use Rattle.doc_table.proofs.Appending.{holder-live}
use Rattle.doc_table.proofs.Forests.{formed-of}
use Rattle.doc_table.proofs.ListLemmas.{mem-In}
use Rattle.doc_table.proofs.Ways.{above-live}
use Rattle.doc_tree.specs.cell.Cell.{Cell}
use Rattle.doc_tree.specs.cell.Cell.TheVariants.{Kids, Shape, Attrs, Value, Text, Name}
use Rattle.doc_tree.specs.Kinds.{holds_kids, is_text}
use Rattle.doc_tree.specs.Laws.{HasWaysUp, WellFormed}
use Rattle.doc_tree.specs.Lists.{mem}
use Rattle.doc_tree.specs.Table.{Table, is_live, kids_of, kind_of, parent_of}
use Rattle.doc_tree.specs.Walks.{above, ancestors}
use Rattle.doc_edits.specs.Changes.{Meeting, meeting}
use Rattle.doc_edits.proofs.RenamingLemmas.{named-live}
use Rattle.doc_edit_laws.specs.Along.{Edit, deletes, gains, inserts, loses, renames, says}
use Rattle.doc_edit_laws.specs.Touching.{touched_attributes, touched_kids, touched_meeting, touched_name, touched_saying}
use Rattle.xp_outcome.specs.Recorded.{node_of}
use Rattle.cover_laws.specs.Covering.{covers}
use Rattle.cover_laws.proofs.WayLemmas.{above-above, above-ancestors}

-- what is touched is so upwards
record Upward (T : Table) (touched : Cell → Bool) : Type 0 where
  kids : (n m : ℕ) → mem n (above T m) ≡ true → touched (Kids m) ≡ true → touched (Shape n) ≡ true
  shapes : (n m : ℕ) → mem n (above T m) ≡ true → touched (Shape m) ≡ true → touched (Shape n) ≡ true
  texts : (n m : ℕ) → mem n (above T m) ≡ true → touched (Text m) ≡ true → touched (Text n) ≡ true
  values : (n m : ℕ) → is_text (kind_of T m) ≡ true → mem n (ancestors T m) ≡ true → touched (Value m) ≡ true → touched (Text n) ≡ true

covering : (T : Table) (touched : Cell → Bool) → Upward T touched → (d c : Cell) → covers T d c ≡ true → touched c ≡ true → touched d ≡ true
covering T touched up (Shape n) (Kids m) h t = up.kids n m h t
covering T touched up (Shape n) (Shape m) h t = up.shapes n m h t
covering T touched up (Text n) (Text m) h t = up.texts n m h t
covering T touched up (Text n) (Value m) h t =
    let parts = and_parts (is_text (kind_of T m)) (mem n (ancestors T m)) h in up.values n m parts.0 parts.1 t
covering T touched up _ _ h t = absurd (false≢true h)

or-false : (b : Bool) → (b || false) ≡ true → b ≡ true
or-false true h = refl
or-false false h = h

-- of two texts that meet the left one stands among the kids
abbrev left-in : Option Meeting → ℕ
left-in None = 0
left-in (Some texts) = texts.left

left-among : (T : Table) (n : ℕ) (xs : List ℕ) (texts : Meeting) → meeting T n xs ≡ Some texts → mem texts.left xs ≡ true
left-among T n [] texts h = absurd (cc)
left-among T n (l ∷ []) texts h = absurd (cc)
left-among T n (l ∷ m ∷ []) texts h = absurd (cc)
left-among T n (l ∷ m ∷ r ∷ ms) texts h = by (eqb m n) (is_text (kind_of T l) && is_text (kind_of T r)) h (left-among T n (m ∷ r ∷ ms) texts)
  where
    by : (same meet : Bool) → (if same then (if meet then Some (record { left = l; right = r }) else None) else meeting T n (m ∷ r ∷ ms)) ≡ Some texts
        → (meeting T n (m ∷ r ∷ ms) ≡ Some texts → mem texts.left (m ∷ r ∷ ms) ≡ true) → mem texts.left (l ∷ m ∷ r ∷ ms) ≡ true
    by true true h more = or_left (eqb texts.left l) (mem texts.left (m ∷ r ∷ ms)) (eq-eqb texts.left l (sym (ap left-in h)))
    by true false h more = absurd (cc)
    by false meet h more = or_right (eqb texts.left l) (mem texts.left (m ∷ r ∷ ms)) (more h)

module _ (T : Table) (form : WellFormed T) (ways : HasWaysUp T) where
  pub up-live : (n : ℕ) → is_live T n ≡ true → (m : ℕ) → mem m (above T n) ≡ true → is_live T m ≡ true
  up-live n live m h = let t : Formed T = formed-of T form in above-live T t.forest t.whole n m live (mem-In m (above T n) h)

  up-saying : (n : ℕ) → Upward T (touched_saying T n)
  up-saying n = record {
    kids = λ a m h t. absurd (false≢true t);
    shapes = λ a m h t. absurd (false≢true t);
    texts = λ a m h t.
        let parts = and_parts (is_text (kind_of T n)) (mem m (ancestors T n)) t in
        and_from (is_text (kind_of T n)) (mem a (ancestors T n)) parts.0 (above-ancestors T ways a m n h parts.1);
    values = λ a m is h t.
        subst (λ (k : ℕ). (is_text (kind_of T k) && mem a (ancestors T k)) ≡ true) (eqb-true m n t)
        (and_from (is_text (kind_of T m)) (mem a (ancestors T m)) is h);
  }

  up-name : (n : ℕ) → Upward T (touched_name n)
  up-name n = record {
    kids = λ a m h t. absurd (false≢true t);
    shapes = λ a m h t. absurd (false≢true t);
    texts = λ a m h t. absurd (false≢true t);
    values = λ a m is h t. absurd (false≢true t);
  }

  up-attributes : (n : ℕ) → Upward T (touched_attributes n)
  up-attributes n = record {
    kids = λ a m h t. absurd (false≢true t);
    shapes = λ a m h t. absurd (false≢true t);
    texts = λ a m h t. absurd (false≢true t);
    values = λ a m is h t. absurd (false≢true t);
  }

  up-kids : (p : ℕ) → Upward T (touched_kids T p)
  up-kids p = record {
    kids = λ a m h t. subst (λ (k : ℕ). mem a (above T k) ≡ true) (eqb-true m p t) h;
    shapes = λ a m h t. above-above T ways a m p h t;
    texts = λ a m h t. above-above T ways a m p h t;
    values = λ a m is h t. absurd (false≢true t);
  }

  up-deletion : (p : ℕ) (o : Option Meeting) → ((texts : Meeting) → o ≡ Some texts → parent_of T texts.left ≡ Some p) →
      Upward T (λ c. touched_kids T p c || touched_meeting o c)
  up-deletion p None under = record {
    kids = λ a m h t. or_left (mem a (above T p)) false ((up-kids p).kids a m h (or-false (eqb m p) t));
    shapes = λ a m h t. or_left (mem a (above T p)) false ((up-kids p).shapes a m h (or-false (mem m (above T p)) t));
    texts = λ a m h t. or_left (mem a (above T p)) false ((up-kids p).texts a m h (or-false (mem m (above T p)) t));
    values = λ a m is h t. absurd (false≢true t);
  }
  up-deletion p (Some texts) under = record {
    kids = λ a m h t. or_left (mem a (above T p)) false ((up-kids p).kids a m h (or-false (eqb m p) t));
    shapes = λ a m h t. or_left (mem a (above T p)) false ((up-kids p).shapes a m h (or-false (mem m (above T p)) t));
    texts = λ a m h t. or_left (mem a (above T p)) false ((up-kids p).texts a m h (or-false (mem m (above T p)) t));
    values = λ a m is h t.
        let parent : parent_of T m ≡ Some p = ap (parent_of T) (eqb-true m texts.left t) ∙ under texts refl in
        or_left (mem a (above T p)) false (subst (λ (l : List ℕ). mem a l ≡ true) (ways.ancestors_at m p parent) h);
  }

  upward : (U : Table) (touched : Cell → Bool) → Edit T U touched → Upward T touched
  upward _ _ (says n new may) = up-saying n
  upward _ _ (renames n name may) = up-name n
  upward _ _ (gains n name value may) = up-attributes n
  upward _ _ (loses a n is up) = up-attributes n
  upward _ _ (deletes n p kid up) =
      up-deletion p (meeting T n (kids_of T p)) (λ texts e. form.kid_parent p texts.left (left-among T n (kids_of T p) texts e))
  upward _ _ (inserts p before P f may) = up-kids p

  pub covering-touched : (U : Table) (touched : Cell → Bool) (d c : Cell) → Edit T U touched → covers T d c ≡ true → touched c ≡ true → touched d ≡ true
  covering-touched U touched d c edit h t = covering T touched (upward U touched edit) d c h t

  -- touched cells are of live nodes
  kids-live : (p : ℕ) → is_live T p ≡ true → (c : Cell) → touched_kids T p c ≡ true → is_live T (node_of c) ≡ true
  kids-live p live (Kids m) t = ap (is_live T) (eqb-true m p t) ∙ live
  kids-live p live (Shape m) t = up-live p live m t
  kids-live p live (Text m) t = up-live p live m t
  kids-live p live (Attrs m) t = absurd (false≢true t)
  kids-live p live (Value m) t = absurd (false≢true t)
  kids-live p live (Name m) t = absurd (false≢true t)

  attributes-live : (n : ℕ) → is_live T n ≡ true → (c : Cell) → touched_attributes n c ≡ true → is_live T (node_of c) ≡ true
  attributes-live n live (Attrs m) t = ap (is_live T) (eqb-true m n t) ∙ live
  attributes-live n live (Kids m) t = absurd (false≢true t)
  attributes-live n live (Shape m) t = absurd (false≢true t)
  attributes-live n live (Text m) t = absurd (false≢true t)
  attributes-live n live (Value m) t = absurd (false≢true t)
  attributes-live n live (Name m) t = absurd (false≢true t)

  saying-live : (n : ℕ) → is_live T n ≡ true → (c : Cell) → touched_saying T n c ≡ true → is_live T (node_of c) ≡ true
  saying-live n live (Value m) t = ap (is_live T) (eqb-true m n t) ∙ live
  saying-live n live (Text m) t =
      up-live n live m (or_right (eqb m n) (mem m (ancestors T n)) (and_parts (is_text (kind_of T n)) (mem m (ancestors T n)) t).1)
  saying-live n live (Kids m) t = absurd (false≢true t)
  saying-live n live (Shape m) t = absurd (false≢true t)
  saying-live n live (Attrs m) t = absurd (false≢true t)
  saying-live n live (Name m) t = absurd (false≢true t)

  name-live : (n : ℕ) → is_live T n ≡ true → (c : Cell) → touched_name n c ≡ true → is_live T (node_of c) ≡ true
  name-live n live (Name m) t = ap (is_live T) (eqb-true m n t) ∙ live
  name-live n live (Kids m) t = absurd (false≢true t)
  name-live n live (Shape m) t = absurd (false≢true t)
  name-live n live (Attrs m) t = absurd (false≢true t)
  name-live n live (Value m) t = absurd (false≢true t)
  name-live n live (Text m) t = absurd (false≢true t)

  meeting-live : (o : Option Meeting) → ((texts : Meeting) → o ≡ Some texts → is_live T texts.left ≡ true) → (c : Cell) → touched_meeting o c ≡ true → is_live T (node_of c) ≡ true
  meeting-live None live c t = absurd (false≢true t)
  meeting-live (Some texts) live (Value m) t = ap (is_live T) (eqb-true m texts.left t) ∙ live texts refl
  meeting-live (Some texts) live (Kids m) t = absurd (false≢true t)
  meeting-live (Some texts) live (Shape m) t = absurd (false≢true t)
  meeting-live (Some texts) live (Attrs m) t = absurd (false≢true t)
  meeting-live (Some texts) live (Text m) t = absurd (false≢true t)
  meeting-live (Some texts) live (Name m) t = absurd (false≢true t)

  pub touched-live : (U : Table) (touched : Cell → Bool) → Edit T U touched → (c : Cell) → touched c ≡ true → is_live T (node_of c) ≡ true
  touched-live _ _ (says n new may) c t = saying-live n may.lives c t
  touched-live _ _ (renames n name may) c t = name-live n (named-live T n may.named) c t
  touched-live _ _ (gains n name value may) c t = attributes-live n (holder-live T n (ap holds_kids may.under)) c t
  touched-live _ _ (loses a n is up) c t = attributes-live n (ways.parent_live a n up) c t
  touched-live _ _ (deletes n p kid up) c t =
      ⊎_elim (λ (h : touched_kids T p c ≡ true). kids-live p (ways.parent_live n p up) c h)
      (λ (h : touched_meeting (meeting T n (kids_of T p)) c ≡ true).
      meeting-live (meeting T n (kids_of T p)) (λ texts e. ways.kid_live p texts.left (left-among T n (kids_of T p) texts e)) c h)
      (or_cases (touched_kids T p c) (touched_meeting (meeting T n (kids_of T p)) c) t)
  touched-live _ _ (inserts p before P f may) c t = kids-live p (holder-live T p may.under) c t

  -- what covers a cell that covers another covers that one
  pub covers-covered : (d c e : Cell) → covers T d c ≡ true → covers T c e ≡ true → covers T d e ≡ true
  covers-covered (Shape n) (Shape m) (Kids k) h g = above-above T ways n m k h g
  covers-covered (Shape n) (Shape m) (Shape k) h g = above-above T ways n m k h g
  covers-covered (Text n) (Text m) (Text k) h g = above-above T ways n m k h g
  covers-covered (Text n) (Text m) (Value k) h g =
      let parts = and_parts (is_text (kind_of T k)) (mem m (ancestors T k)) g in
      and_from (is_text (kind_of T k)) (mem n (ancestors T k)) parts.0 (above-ancestors T ways n m k h parts.1)
  covers-covered (Shape n) (Kids m) e h g = absurd (false≢true g)
  covers-covered (Text n) (Value m) e h g = absurd (false≢true g)
  covers-covered (Shape n) (Shape m) e h g = absurd (false≢true g)
  covers-covered (Text n) (Text m) e h g = absurd (false≢true g)
  covers-covered _ _ e h g = absurd (false≢true h)
