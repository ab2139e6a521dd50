-- A node that says another text.
use Rattle.std.proofs.Common.{◌≡◌, ℕ, ◌+◌, ◌≤◌, true, false, List, [], ◌∷◌, length, Option, None, Some, is_some, refl, sym, ap, ◌∙◌, true≢false, arith}
use Rattle.doc_table.specs.Table.{Table, Facts, Content, root, element, attribute, text, comment, instruction, entry_at, content_at, kind_at, value_at, value_in, kind_in, name_in, kind_of, value_of, is_live}
use Rattle.doc_table.specs.Kinds.{holds_kids}
use Rattle.doc_table.specs.inner.Sound.{Formed, table_sum, text_in, text_held}
use Rattle.doc_table.proofs.Counts.{text-count}
use Rattle.doc_table.proofs.Ways.{live-below}
use Rattle.doc_edits.specs.Changes.{saying, with_text, said}
use Rattle.doc_edits.specs.Fitting.{MaySay}
use Rattle.doc_edits.proofs.TableLemmas.{changed-here, sum-replaced}
use Rattle.doc_edits.proofs.RecontentLemmas.{formed-recontented, names-apart}

-- saying another text keeps the kind and the name
pub saying-kind : (new : List ℕ) (c : Content) → kind_in (saying new c) ≡ kind_in c
saying-kind new root = refl
saying-kind new (element _ _) = refl
saying-kind new (attribute _ _) = refl
saying-kind new (text _) = refl
saying-kind new (comment _) = refl
saying-kind new (instruction _ _) = refl

pub saying-name : (new : List ℕ) (c : Content) → name_in (saying new c) ≡ name_in c
saying-name new root = refl
saying-name new (element _ _) = refl
saying-name new (attribute _ _) = refl
saying-name new (text _) = refl
saying-name new (comment _) = refl
saying-name new (instruction _ _) = refl

-- what has no kids but a text says the new one
says-new : (new : List ℕ) (c : Content) → holds_kids (Some (kind_in c)) ≡ false → value_in (saying new c) ≡ new
says-new new root h = absurd (true≢false h)
says-new new (element _ _) h = absurd (true≢false h)
says-new new (attribute _ _) h = refl
says-new new (text _) h = refl
says-new new (comment _) h = refl
says-new new (instruction _ _) h = refl

entry-held : (o : Option Facts) → table_sum text_in (o ∷ []) ≡ length (value_at (content_at o))
entry-held None = refl
entry-held (Some node) = omega arith

-- no text is longer than all together
pub held-less : (T : Table) (n : ℕ) → is_live T n ≡ true → length (value_of T n) ≤ text_held T
held-less T n lives =
    let old : table_sum text_in (entry_at T n ∷ []) ≡ length (value_of T n) = entry-held (entry_at T n) in
    omega (arith, sum-replaced text_in T n None (live-below T n lives))

-- the new text, and its bytes in place of the old one's
module _ (T : Table) (n : ℕ) (new : List ℕ) (lives : is_live T n ≡ true) (has_text : holds_kids (kind_of T n) ≡ false) where
  new-value : (o : Option Facts) → is_some o ≡ true → holds_kids (kind_at (content_at o)) ≡ false → value_at (content_at (with_text new o)) ≡ new
  new-value None l h = absurd (true≢false (sym l))
  new-value (Some node) l h = says-new new node.content h

  pub value-said : value_of (said T n new) n ≡ new
  value-said = ap (λ o. value_at (content_at o)) (changed-here T n (with_text new) lives) ∙ new-value (entry_at T n) lives has_text

  pub held-said : text_held (said T n new) + length (value_of T n) ≡ text_held T + length new
  held-said =
      let old : table_sum text_in (entry_at T n ∷ []) ≡ length (value_of T n) = entry-held (entry_at T n) in
      let more : table_sum text_in (with_text new (entry_at T n) ∷ []) ≡ length new =
      entry-held (with_text new (entry_at T n)) ∙ ap length (new-value (entry_at T n) lives has_text) in
      omega (arith, sum-replaced text_in T n (with_text new (entry_at T n)) (live-below T n lives))

pub sayings-keep-trees : (T : Table) (n : ℕ) (new : List ℕ) → Formed T → MaySay T n new → Formed (said T n new)
sayings-keep-trees T n new s may =
    formed-recontented (saying new) (saying-kind new) T n
    (λ h empty. may.some h (sym (value-said T n new may.lives may.has_text) ∙ empty)) (names-apart (saying new) (saying-name new) T n) s
    (omega (arith, may.little, text-count T s.forest s.whole, held-said T n new may.lives may.has_text))
