-- A node holds another content of the same kind: all links stay.
use Rattle.std.proofs.Common.{◌≡◌, ◌≢◌, ℕ, true, length, sym, ap, ◌∙◌, arith}
use Rattle.std.specs.Prelude.{filter}
use Rattle.doc_table.specs.inner.Sound.{Formed}
use Rattle.doc_table.proofs.Paths.{SameLinks}
use Rattle.doc_tree.specs.Kinds.{holds_kids}
use Rattle.doc_tree.specs.Table.{Table, Content, content_at, attrs_of, content_of, is_live, kids_of, kind_of, parent_of}
use Rattle.doc_tree.specs.Walks.{joined_text, order}
use Rattle.doc_axes.specs.Axes.{is_descendant}
use Rattle.doc_edit_laws.specs.Agreement.{Stays, descendants, lives_in_both}
use Rattle.doc_edits.proofs.RecontentLemmas.{KeepsKind, recontent, recontented, same-kind, same-links, same-live}
use Rattle.doc_edits.proofs.TableLemmas.{changed-length, changed-other}
use Rattle.doc_edit_laws.proofs.LinkLemmas.{order-alike}
use Rattle.doc_edit_laws.proofs.TextLemmas.{says, shape-alike, text-alike}

module _ (change : Content → Content) (keeps : KeepsKind change) (T : Table) (n : ℕ) (t : Formed T) where
  abbrev after : Table
  after = recontented change T n

  pub live : (m : ℕ) → is_live after m ≡ is_live T m
  live m = same-live change keeps T n m

  links : (m : ℕ) → SameLinks T after m
  links m = same-links change keeps T n m

  pub kind : (m : ℕ) → kind_of T m ≡ kind_of after m
  kind m = sym (same-kind change keeps T n m)

  pub parent : (m : ℕ) → parent_of T m ≡ parent_of after m
  parent m = sym (links m).parent

  pub kids : (m : ℕ) → kids_of T m ≡ kids_of after m
  kids m = sym (links m).kids

  pub attributes : (m : ℕ) → attrs_of T m ≡ attrs_of after m
  attributes m = sym (links m).attributes

  pub content : (m : ℕ) → m ≢ n → content_of T m ≡ content_of after m
  content m ne = ap content_at (sym (changed-other T n (recontent change) m ne))

  pub same-length : length after ≡ length T
  same-length = changed-length T n (recontent change)

  pub in_order : filter (lives_in_both T after) (order T) ≡ filter (lives_in_both T after) (order after)
  in_order =
      order-alike T after (lives_in_both T after) (λ m. (links m).kids) (λ m. ap (filter (lives_in_both T after)) (links m).attributes) t
      (omega (arith, same-length))

  module _ (u : Formed after) where
    pub shape : (m : ℕ) → descendants T m ≡ descendants after m
    shape m = shape-alike T after t u (λ k stays. parent k) (λ k stays. kind k) in_order m (λ k lives h. live k ∙ lives) (λ k lives h. sym (live k) ∙ lives)

    -- where what stands below a node says the same
    pub text : (m : ℕ) → Stays T after m → holds_kids (kind_of T m) ≡ true → ((k : ℕ) → is_descendant T m k ≡ true → says T k ≡ says after k) → joined_text T m ≡ joined_text after m
    text m stays holds same =
        text-alike T after t u (λ k stays. parent k) (λ k stays. kind k) in_order m (λ k lives h. live k ∙ lives) (λ k lives h. sym (live k) ∙ lives) stays holds (λ k stays h. same k h)
