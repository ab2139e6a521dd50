-- A node says another text: all links stay, and of texts those of the nodes above it alone differ.
use Rattle.std.proofs.Common.{◌≡◌, ◌≢◌, ℕ, Bool, true, false, ◌&&◌, List, [], ◌⊎◌, Option, None, Some, refl, sym, ap, ◌∙◌, subst, inl, inr, ⊎_elim, true≢false, arith, eq-eqb}
use Rattle.doc_table.specs.inner.Sound.{Formed}
use Rattle.doc_tree.specs.Kinds.{is_text}
use Rattle.doc_tree.specs.Lists.{mem}
use Rattle.doc_tree.specs.Table.{Table, Content, root, element, attribute, text, comment, instruction, kind_at, value_at, content_of, kind_of, name_of}
use Rattle.doc_tree.specs.Walks.{ancestors, characters_in}
use Rattle.doc_tree.proofs.ListLemmas.{eq_or}
use Rattle.doc_axes.specs.Axes.{is_descendant}
use Rattle.doc_edit_laws.specs.Agreement.{Agree}
use Rattle.doc_edit_laws.proofs.Composing.{both}
use Rattle.doc_edits.specs.Changes.{said, saying}
use Rattle.doc_edits.proofs.RecontentLemmas.{same-name}
use Rattle.doc_edits.proofs.SayingLemmas.{saying-kind, saying-name}
use Rattle.doc_edit_laws.specs.Touching.{touched_saying}
use Rattle.doc_edit_laws.proofs.RecontentAgreement as kept
use Rattle.doc_edit_laws.proofs.TextLemmas.{says}

-- what is no text has no characters
other-silent : (o : Option Content) → is_text (kind_at o) ≡ false → characters_in o ≡ []
other-silent None h = refl
other-silent (Some root) h = refl
other-silent (Some (element _ _)) h = refl
other-silent (Some (attribute _ _)) h = refl
other-silent (Some (text _)) h = absurd (true≢false h)
other-silent (Some (comment _)) h = refl
other-silent (Some (instruction _ _)) h = refl

module _ (T : Table) (n : ℕ) (new : List ℕ) (t : Formed T) (u : Formed (said T n new)) where
  abbrev after : Table
  after = said T n new

  kind : (m : ℕ) → kind_of T m ≡ kind_of after m
  kind m = kept.kind (saying new) (saying-kind new) T n t m

  name : (m : ℕ) → name_of T m ≡ name_of after m
  name m = sym (same-name (saying new) (saying-name new) T n m)

  content : (m : ℕ) → m ≢ n → content_of T m ≡ content_of after m
  content m ne = kept.content (saying new) (saying-kind new) T n t m ne

  -- the characters of another node stay, and those of the node where it is no text
  says-same : (m : ℕ) → (is_text (kind_of T n) ≡ false) ⊎ (m ≢ n) → says T m ≡ says after m
  says-same m other =
      ⊎_elim
      (λ (e : m ≡ n). ⊎_elim
      (λ (h : is_text (kind_of T n) ≡ false).
      subst (λ k. says T k ≡ says after k) (sym e)
      (other-silent (content_of T n) h ∙ sym (other-silent (content_of after n) (ap is_text (sym (kind n)) ∙ h))))
      (λ (ne : m ≢ n). absurd (ne e)) other)
      (λ (ne : m ≢ n). ap characters_in (content m ne))
      (eq_or m n)

  -- below a node that isn't touched the characters stay
  says-below : (m k : ℕ) → (is_text (kind_of T n) && mem m (ancestors T n)) ≡ false → is_descendant T m k ≡ true → says T k ≡ says after k
  says-below m k out h = by (is_text (kind_of T n)) refl out
    where
      by : (b : Bool) → is_text (kind_of T n) ≡ b → (b && mem m (ancestors T n)) ≡ false → says T k ≡ says after k
      by false e g = says-same k (inl e)
      by true e g = says-same k (inr (λ same. true≢false (sym (subst (λ j. mem m (ancestors T j) ≡ true) same (both (mem m (ancestors T k)) _ h).0) ∙ g)))

  pub saying-leaves : Agree T after (touched_saying T n)
  saying-leaves = record {
    kind = λ m stays. kind m;
    target = λ m stays other. name m;
    parent = λ m stays. kept.parent (saying new) (saying-kind new) T n t m;
    in_order = kept.in_order (saying new) (saying-kind new) T n t;
    name = λ m stays named out. name m;
    kids = λ m stays out. kept.kids (saying new) (saying-kind new) T n t m;
    shape = λ m stays out. kept.shape (saying new) (saying-kind new) T n t u m;
    attributes = λ m stays out. kept.attributes (saying new) (saying-kind new) T n t m;
    value = λ m stays out. ap value_at (content m (λ e. true≢false (sym (eq-eqb m n e) ∙ out)));
    text = λ m stays holds out. kept.text (saying new) (saying-kind new) T n t u m stays holds (λ k h. says-below m k out h);
    numbers = omega (arith, kept.same-length (saying new) (saying-kind new) T n t);
    no_return = λ m old lives. sym (kept.live (saying new) (saying-kind new) T n t m) ∙ lives;
  }
