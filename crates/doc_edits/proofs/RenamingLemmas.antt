-- A node with another name.
use Rattle.std.proofs.Common.{◌≡◌, ◌≢◌, ℕ, true, Option, None, Some, is_some, refl, sym, ap, ◌∙◌, ⊎_elim, true≢false}
use Rattle.doc_table.specs.Lists.{mem}
use Rattle.doc_table.specs.Table.{Table, Facts, Name, Content, root, element, attribute, text, comment, instruction, entry_at, content_at, kind_at, name_at, expanded_in, kind_in, name_in, value_in, kind_of, name_of, expanded_of, attrs_of, is_live}
use Rattle.doc_table.specs.Kinds.{has_own_name}
use Rattle.doc_table.specs.inner.Sound.{Formed}
use Rattle.doc_table.proofs.ListLemmas.{eq_or}
use Rattle.doc_edits.specs.Changes.{renaming, with_name, renamed}
use Rattle.doc_edits.specs.Fitting.{MayRename}
use Rattle.doc_edits.proofs.TableLemmas.{NamesApart, changed-here, changed-other}
use Rattle.doc_edits.proofs.RecontentLemmas.{formed-recontented, same-held, same-value}

-- another name keeps the kind and the value
pub renaming-kind : (new : Name) (c : Content) → kind_in (renaming new c) ≡ kind_in c
renaming-kind new root = refl
renaming-kind new (element _ _) = refl
renaming-kind new (attribute _ _) = refl
renaming-kind new (text _) = refl
renaming-kind new (comment _) = refl
renaming-kind new (instruction _ _) = refl

pub renaming-value : (new : Name) (c : Content) → value_in (renaming new c) ≡ value_in c
renaming-value new root = refl
renaming-value new (element _ _) = refl
renaming-value new (attribute _ _) = refl
renaming-value new (text _) = refl
renaming-value new (comment _) = refl
renaming-value new (instruction _ _) = refl

-- an element or an attribute has the new one
has-new : (new : Name) (c : Content) → has_own_name (Some (kind_in c)) ≡ true → name_in (renaming new c) ≡ Some new
has-new new root h = absurd (true≢false (sym h))
has-new new (element _ _) h = refl
has-new new (attribute _ _) h = refl
has-new new (text _) h = absurd (true≢false (sym h))
has-new new (comment _) h = absurd (true≢false (sym h))
has-new new (instruction _ _) h = absurd (true≢false (sym h))

-- it lives
pub named-live : (T : Table) (n : ℕ) → has_own_name (kind_of T n) ≡ true → is_live T n ≡ true
named-live T n h = by (entry_at T n) h
  where
    by : (o : Option Facts) → has_own_name (kind_at (content_at o)) ≡ true → is_some o ≡ true
    by None h = absurd (true≢false (sym h))
    by (Some node) h = refl

module _ (T : Table) (n : ℕ) (name : Name) (may : MayRename T n name) where
  pub name-renamed : name_of (renamed T n name) n ≡ Some name
  name-renamed = ap (λ o. name_at (content_at o)) (changed-here T n (with_name name) (named-live T n may.named)) ∙ by (entry_at T n) may.named
    where
      by : (o : Option Facts) → has_own_name (kind_at (content_at o)) ≡ true → name_at (content_at (with_name name o)) ≡ Some name
      by None h = absurd (true≢false (sym h))
      by (Some node) h = has-new name node.content h

  -- the names of all others stay
  pub name-other : (m : ℕ) → m ≢ n → name_of (renamed T n name) m ≡ name_of T m
  name-other m ne = ap (λ o. name_at (content_at o)) (changed-other T n (with_name name) m ne)

  -- no other attribute of its element has the new name
  new-apart : (p a : ℕ) → mem n (attrs_of T p) ≡ true → mem a (attrs_of T p) ≡ true → expanded_of (renamed T n name) a ≡ expanded_of (renamed T n name) n → a ≢ n → ⊥
  new-apart p a here there e ne = ne (may.is_new p a here there (sym (ap expanded_in (name-other a ne)) ∙ (e ∙ ap expanded_in name-renamed)))

  apart : (p : ℕ) → NamesApart T (renamed T n name) p
  apart p a b ha hb e =
      ⊎_elim
      (λ (ea : a ≡ n). ⊎_elim (λ (eb : b ≡ n). ap (expanded_of T) (ea ∙ sym eb))
      (λ (nb : b ≢ n). absurd (new-apart p b (ap (λ k. mem k (attrs_of T p)) (sym ea) ∙ ha) hb (sym e ∙ ap (expanded_of (renamed T n name)) ea) nb))
      (eq_or b n))
      (λ (na : a ≢ n). ⊎_elim
      (λ (eb : b ≡ n). absurd (new-apart p a (ap (λ k. mem k (attrs_of T p)) (sym eb) ∙ hb) ha (e ∙ ap (expanded_of (renamed T n name)) eb) na))
      (λ (nb : b ≢ n). sym (ap expanded_in (name-other a na)) ∙ (e ∙ ap expanded_in (name-other b nb)))
      (eq_or b n))
      (eq_or a n)

  pub renames-keep-trees : Formed T → Formed (renamed T n name)
  renames-keep-trees s =
      formed-recontented (renaming name) (renaming-kind name) T n
      (λ h empty. (s.fits n).some_text h (sym (same-value (renaming name) (renaming-value name) T n n) ∙ empty)) apart s
      (rw (same-held (renaming name) (renaming-value name) T n) s.little_text)
