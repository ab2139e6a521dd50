-- A node with another content of the same kind: the table stays that of a tree, where the names of attributes go on differing.
use Rattle.std.proofs.Common.{◌≡◌, ◌≢◌, ℕ, ◌≤◌, suc, zero, cond, [], ◌∷◌, length, Option, None, Some, is_some, refl, sym, ap, ap₂, ◌∙◌, ⊎_elim, arith}
use Rattle.doc_table.specs.declared.kind.Kind.TheVariants.{Text}
use Rattle.doc_table.specs.declared.limits.TheConstants.{MAX_LIVE_TEXT_BYTES}
use Rattle.doc_table.specs.Table.{Table, Facts, Content, parent_at, kids_at, attrs_at, content_at, kind_at, name_at, value_at, expanded_in, kind_in, name_in, value_in, parent_of, kind_of, name_of, value_of, is_live}
use Rattle.doc_table.specs.Walks.{climb, ancestors, order}
use Rattle.doc_table.specs.inner.Forest.{Forest, Whole}
use Rattle.doc_table.specs.inner.Sound.{Fits, Formed, count_live, text_in, text_held}
use Rattle.doc_table.proofs.ListLemmas.{eq_or}
use Rattle.doc_table.proofs.Paths.{SameLinks, shows-kept}
use Rattle.doc_table.proofs.Counts.{sum-set}
use Rattle.doc_table.proofs.Telling.{order-flat}
use Rattle.doc_edits.specs.Changes.{changed_at}
use Rattle.doc_edits.proofs.TableLemmas.{NamesApart, changed-length, changed-other, changed-word, fits-kept}

abbrev pub recontent : (Content → Content) → Option Facts → Option Facts
recontent change None = None
recontent change (Some node) = Some (record node { content = change node.content })

-- a change of content keeps the kind
abbrev pub KeepsKind : (Content → Content) → Type 0
KeepsKind change = (c : Content) → kind_in (change c) ≡ kind_in c

abbrev pub recontented : (Content → Content) → Table → ℕ → Table
recontented change T n = changed_at n (recontent change) T

module _ (change : Content → Content) (keeps : KeepsKind change) where
  recontent-live : (o : Option Facts) → is_some (recontent change o) ≡ is_some o
  recontent-live None = refl
  recontent-live (Some node) = refl

  recontent-parent : (o : Option Facts) → parent_at (recontent change o) ≡ parent_at o
  recontent-parent None = refl
  recontent-parent (Some node) = refl

  recontent-kids : (o : Option Facts) → kids_at (recontent change o) ≡ kids_at o
  recontent-kids None = refl
  recontent-kids (Some node) = refl

  recontent-attributes : (o : Option Facts) → attrs_at (recontent change o) ≡ attrs_at o
  recontent-attributes None = refl
  recontent-attributes (Some node) = refl

  recontent-kind : (o : Option Facts) → kind_at (content_at (recontent change o)) ≡ kind_at (content_at o)
  recontent-kind None = refl
  recontent-kind (Some node) = ap Some (keeps node.content)

  module _ (T : Table) (n : ℕ) where
    pub same-live : (m : ℕ) → is_live (recontented change T n) m ≡ is_live T m
    same-live m = changed-word is_some (recontent change) recontent-live T n m

    pub same-links : (m : ℕ) → SameLinks T (recontented change T n) m
    same-links m = record {
      parent = changed-word parent_at (recontent change) recontent-parent T n m;
      attributes = changed-word attrs_at (recontent change) recontent-attributes T n m;
      kids = changed-word kids_at (recontent change) recontent-kids T n m;
    }

    pub same-kind : (m : ℕ) → kind_of (recontented change T n) m ≡ kind_of T m
    same-kind m = changed-word (λ o. kind_at (content_at o)) (recontent change) recontent-kind T n m

    same-climb : (steps : ℕ) (o : Option ℕ) → climb (recontented change T n) steps o ≡ climb T steps o
    same-climb zero o = refl
    same-climb (suc steps) None = refl
    same-climb (suc steps) (Some q) = ap (λ l. q ∷ l) (ap (climb (recontented change T n) steps) (same-links q).parent ∙ same-climb steps (parent_of T q))

    pub same-ancestors : (m : ℕ) → ancestors (recontented change T n) m ≡ ancestors T m
    same-ancestors m = ap₂ (climb (recontented change T n)) (changed-length T n (recontent change)) (same-links m).parent ∙ same-climb (length T) (parent_of T m)

    same-count : count_live (recontented change T n) ≡ count_live T
    same-count = sum-set (λ _. 1) T n (recontent change) refl (λ node. refl)

    same-whole : (B : Forest) → Whole T B → Whole (recontented change T n) B
    same-whole B w = record {
      root = record {
        no_parent = (same-links 0).parent ∙ w.root.no_parent;
        no_attributes = (same-links 0).attributes ∙ w.root.no_attributes;
        kids_are = (same-links 0).kids ∙ w.root.kids_are;
      };
      shows = shows-kept T (recontented change T n) 0 B (λ m h. same-links m) w.shows;
      once = λ m. w.once m ∙ ap (λ b. cond b 1 0) (sym (same-live m));
      few = rw (changed-length T n (recontent change)) w.few;
    }

    pub same-order : (B : Forest) → Whole T B → order (recontented change T n) ≡ order T
    same-order B w = order-flat (recontented change T n) B (same-whole B w) ∙ sym (order-flat T B w)

    module _ (some : kind_of T n ≡ Some Text → value_of (recontented change T n) n ≢ []) (apart : (m : ℕ) → NamesApart T (recontented change T n) m) where
      text-kept : (m : ℕ) → Fits T m → kind_of T m ≡ Some Text → value_of (recontented change T n) m ≢ []
      text-kept m f h =
          ⊎_elim (λ (e : m ≡ n). λ empty. some (ap (kind_of T) (sym e) ∙ h) (ap (value_of (recontented change T n)) (sym e) ∙ empty))
          (λ (ne : m ≢ n). λ empty. f.some_text h (ap (λ o. value_at (content_at o)) (sym (changed-other T n (recontent change) m ne)) ∙ empty))
          (eq_or m n)

      same-fits : (m : ℕ) → Fits T m → Fits (recontented change T n) m
      same-fits m f =
          fits-kept T (recontented change T n) m (record {
            kind = same-kind m;
            kids = (same-links m).kids;
            attributes = (same-links m).attributes;
            kid_kinds = λ k h. same-kind k;
            attribute_kinds = λ a h. same-kind a;
            attribute_names = apart m;
            some_text = text-kept m f;
            way = λ live. same-ancestors m;
          }) f

      -- where a text stays one and the limit of text holds
      pub formed-recontented : Formed T → text_held (recontented change T n) ≤ MAX_LIVE_TEXT_BYTES → Formed (recontented change T n)
      formed-recontented s little = record {
        forest = s.forest;
        whole = same-whole s.forest s.whole;
        root_kind = same-kind 0 ∙ s.root_kind;
        fits = λ m. same-fits m (s.fits m);
        few_nodes = rw same-count s.few_nodes;
        few_numbers = rw (changed-length T n (recontent change)) s.few_numbers;
        little_text = little;
      }

-- a change that keeps the name
module _ (change : Content → Content) (keeps : (c : Content) → name_in (change c) ≡ name_in c) (T : Table) (n : ℕ) where
  recontent-name : (o : Option Facts) → name_at (content_at (recontent change o)) ≡ name_at (content_at o)
  recontent-name None = refl
  recontent-name (Some node) = keeps node.content

  pub same-name : (m : ℕ) → name_of (recontented change T n) m ≡ name_of T m
  same-name m = changed-word (λ o. name_at (content_at o)) (recontent change) recontent-name T n m

  pub names-apart : (m : ℕ) → NamesApart T (recontented change T n) m
  names-apart m a b ha hb e = sym (ap expanded_in (same-name a)) ∙ (e ∙ ap expanded_in (same-name b))

-- a change that keeps the value
module _ (change : Content → Content) (keeps : (c : Content) → value_in (change c) ≡ value_in c) (T : Table) (n : ℕ) where
  recontent-value : (o : Option Facts) → value_at (content_at (recontent change o)) ≡ value_at (content_at o)
  recontent-value None = refl
  recontent-value (Some node) = keeps node.content

  pub same-value : (m : ℕ) → value_of (recontented change T n) m ≡ value_of T m
  same-value m = changed-word (λ o. value_at (content_at o)) (recontent change) recontent-value T n m

  pub same-held : text_held (recontented change T n) ≡ text_held T
  same-held = sum-set text_in T n (recontent change) refl (λ node. omega (arith, ap length (keeps node.content)))
