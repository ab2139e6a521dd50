-- A node has another name: all links, values and texts stay.
use Rattle.std.proofs.Common.{◌≡◌, ◌≢◌, ℕ, true, false, Option, None, Some, refl, sym, ap, ◌∙◌, true≢false, arith, eq-eqb}
use Rattle.doc_table.specs.inner.Sound.{Formed}
use Rattle.doc_tree.specs.Kinds.{has_own_name}
use Rattle.doc_tree.specs.Table.{Table, Facts, Name, Content, root, element, attribute, text, comment, instruction, content_at, name_at, kind_of, name_of}
use Rattle.doc_tree.specs.Walks.{characters_in}
use Rattle.doc_edit_laws.specs.Agreement.{Agree}
use Rattle.doc_edits.specs.Changes.{renamed, renaming, with_name}
use Rattle.doc_edits.specs.Fitting.{MayRename}
use Rattle.doc_edits.proofs.RecontentLemmas.{same-value}
use Rattle.doc_edits.proofs.RenamingLemmas.{renaming-kind, renaming-value}
use Rattle.doc_edits.proofs.TableLemmas.{changed-word}
use Rattle.doc_edit_laws.specs.Touching.{touched_name}
use Rattle.doc_edit_laws.proofs.RecontentAgreement as kept
use Rattle.doc_edit_laws.proofs.TextLemmas.{says}

-- another name keeps the characters
renaming-characters : (new : Name) (c : Content) → characters_in (Some (renaming new c)) ≡ characters_in (Some c)
renaming-characters new root = refl
renaming-characters new (element _ _) = refl
renaming-characters new (attribute _ _) = refl
renaming-characters new (text _) = refl
renaming-characters new (comment _) = refl
renaming-characters new (instruction _ _) = refl

characters-kept : (new : Name) (o : Option Facts) → characters_in (content_at (with_name new o)) ≡ characters_in (content_at o)
characters-kept new None = refl
characters-kept new (Some node) = renaming-characters new node.content

module _ (T : Table) (n : ℕ) (new : Name) (t : Formed T) (u : Formed (renamed T n new)) (named : has_own_name (kind_of T n) ≡ true) where
  abbrev after : Table
  after = renamed T n new

  -- the names of others stay
  name : (m : ℕ) → m ≢ n → name_of T m ≡ name_of after m
  name m ne = ap name_at (kept.content (renaming new) (renaming-kind new) T n t m ne)

  says-same : (m : ℕ) → says T m ≡ says after m
  says-same m = sym (changed-word (λ o. characters_in (content_at o)) (with_name new) (characters-kept new) T n m)

  pub renaming-leaves : Agree T after (touched_name n)
  renaming-leaves = record {
    kind = λ m stays. kept.kind (renaming new) (renaming-kind new) T n t m;
    target = λ m stays other. name m (λ e. true≢false (sym (ap (λ k. has_own_name (kind_of T k)) e ∙ named) ∙ other));
    parent = λ m stays. kept.parent (renaming new) (renaming-kind new) T n t m;
    in_order = kept.in_order (renaming new) (renaming-kind new) T n t;
    name = λ m stays has out. name m (λ e. true≢false (sym (eq-eqb m n e) ∙ out));
    kids = λ m stays out. kept.kids (renaming new) (renaming-kind new) T n t m;
    shape = λ m stays out. kept.shape (renaming new) (renaming-kind new) T n t u m;
    attributes = λ m stays out. kept.attributes (renaming new) (renaming-kind new) T n t m;
    value = λ m stays out. sym (same-value (renaming new) (renaming-value new) T n m);
    text = λ m stays holds out. kept.text (renaming new) (renaming-kind new) T n t u m stays holds (λ k h. says-same k);
    numbers = omega (arith, kept.same-length (renaming new) (renaming-kind new) T n t);
    no_return = λ m old lives. sym (kept.live (renaming new) (renaming-kind new) T n t m) ∙ lives;
  }
