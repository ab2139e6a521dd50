-- An element that loses and gains attributes: the path to it, its kind and its scope stay.
use Rattle.std.proofs.Common.{◌≡◌, ◌≢◌, ℕ, ◌+◌, ◌≤◌, suc, true, List, [], ◌∷◌, ◌++◌, length, Option, None, Some, is_some, refl, sym, ap, ◌∙◌, subst, true≢false, arith}
use Rattle.doc_table.proofs.Appending.{holder-live}
use Rattle.doc_table.proofs.ListLemmas.{In, In-mem, occurs-head}
use Rattle.doc_table.proofs.TreeLaws.{ordered, ways-up, well-formed}
use Rattle.doc_table.specs.inner.Sound.{Formed, count_live, table_sum, text_held, text_in}
use Rattle.doc_edits.specs.Changes.{gained, removed, removed_from, without_link}
use Rattle.doc_edits.specs.Fitting.{MayGain}
use Rattle.doc_edits.proofs.ClearLemmas.{cut, cut-length, cut-sum_one}
use Rattle.doc_edits.proofs.GainLemmas.{counted, gained-with_node, held}
use Rattle.doc_edits.proofs.RemainderLemmas.{Stays, before-new, gained-content, gained-parent, stays-removed}
use Rattle.doc_table.proofs.Growing.{attributes-parent, length-grown}
use Rattle.doc_tree.specs.kind.Kind.TheVariants.{Attribute, Element}
use Rattle.doc_tree.specs.Kinds.{can_be_kid, holds_kids}
use Rattle.doc_tree.specs.Laws.{WellFormed}
use Rattle.doc_tree.specs.Walks.{below}
use Rattle.doc_tree.specs.Scope.{scope_at}
use Rattle.doc_tree.specs.Table.{Facts, Name, Table, attribute, attrs_of, content_at, decls_at, entry_at, is_live, kids_of, kind_at, kind_of, parent_of, value_at, value_of}
use Rattle.doc_undo_laws.proofs.AttributesBack.{Beside, IsNode, gain-beside, loss-beside}
use Rattle.edit_script.specs.declared.command.PathStep.{PathStep}
use Rattle.edit_commands.specs.Paths.{node_named}
use Rattle.edit_paths.proofs.PathsKept.{path-kept}
use Rattle.edit_undo_laws.proofs.ScopesKept.{scope-kept}

-- nodes that are no attributes
module _ (V : Table) (v : Formed V) where
  form : WellFormed V
  form = well-formed V v

  pub kid-node : (m k : ℕ) → In k (kids_of V m) → IsNode V k
  kid-node m k h = record {
    lives = (ways-up V v).kid_live m k (In-mem k (kids_of V m) h);
    other = λ e. true≢false (sym (form.kid_kind m k (In-mem k (kids_of V m) h)) ∙ ap can_be_kid e);
  }

  pub holder-node : (m : ℕ) → holds_kids (kind_of V m) ≡ true → IsNode V m
  holder-node m h = record { lives = holder-live V m h; other = λ e. true≢false (sym h ∙ ap holds_kids e) }

  pub root-node : IsNode V 0
  root-node = holder-node 0 (ap holds_kids form.root_kind)

-- an element as it was in T, to which a path leads
pub record Holds (T : Table) (n : ℕ) (path : List PathStep) (V : Table) : Type 0 where
  pub formed : Formed V
  pub named : node_named V path ≡ Some n
  pub kind : kind_of V n ≡ Some Element
  pub scope : scope_at V n ≡ scope_at T n

module _ (T : Table) (n : ℕ) (path : List PathStep) (V : Table) (h : Holds T n path V) where
  v : Formed V
  v = h.formed

  here : IsNode V n
  here = holder-node V v n (ap holds_kids h.kind)

  beside-named : (U : Table) → Beside V U n → node_named U path ≡ Some n
  beside-named U b =
      path-kept V U (well-formed V v) n (IsNode V) (λ m node ne. b.kids m node) (λ m k node ne i. ap kind_at (b.content k (kid-node V v m k i)))
      (λ m k node ne i. kid-node V v m k i) (root-node V v) path h.named

  beside-kind : (U : Table) → Beside V U n → kind_of U n ≡ Some Element
  beside-kind U b = ap kind_at (b.content n here) ∙ h.kind

  pub holds-less : (a : ℕ) (front back : List ℕ) → attrs_of V n ≡ front ++ a ∷ back → Holds T n path (removed V a)
  holds-less a front back list =
      let U : Table = removed V a in
      let b : Beside V U n = loss-beside V a n front back v list in
      let kind : kind_of U n ≡ Some Element = beside-kind U b in
      record {
        formed = b.formed;
        named = beside-named U b;
        kind = kind;
        scope = sym (scope-kept U V b.formed v (λ m lives. let s : Stays V U m = stays-removed V a m lives in record { parent = sym s.parent; decls = sym (ap decls_at s.content) })
            n (holder-live U n (ap holds_kids kind))) ∙ h.scope;
      }

  pub holds-more : (name : Name) (value : List ℕ) → MayGain V n name value → Holds T n path (gained V n name value)
  holds-more name value may =
      let U : Table = gained V n name value in
      let b : Beside V U n = gain-beside V n name value v may in
      record {
        formed = b.formed;
        named = beside-named U b;
        kind = beside-kind U b;
        scope = scope-kept V U v b.formed
            (λ m lives. record { parent = gained-parent V n name value m (before-new V m lives); decls = ap decls_at (gained-content V n name value m (before-new V m lives)) })
            n here.lives ∙ h.scope;
      }

  -- the list, and what there is of nodes, of text and of numbers
  pub list-more : (name : Name) (value : List ℕ) → attrs_of (gained V n name value) n ≡ attrs_of V n ++ length V ∷ []
  list-more name value = ap (λ U. attrs_of U n) (gained-with_node V n name value) ∙ attributes-parent V n (attribute name value) here.lives

  pub numbers-more : (name : Name) (value : List ℕ) → length (gained V n name value) ≡ suc (length V)
  numbers-more name value = ap length (gained-with_node V n name value) ∙ length-grown V n (attribute name value) here.lives

  pub nodes-more : (name : Name) (value : List ℕ) → MayGain V n name value → count_live (gained V n name value) ≡ count_live V + 1
  nodes-more name value may = ap count_live (gained-with_node V n name value) ∙ counted V n name value v may

  pub text-more : (name : Name) (value : List ℕ) → MayGain V n name value → text_held (gained V n name value) ≡ text_held V + length value
  text-more name value may = ap text_held (gained-with_node V n name value) ∙ held V n name value v may

-- an attribute goes: what is left is less by it
module _ (V : Table) (v : Formed V) (a n : ℕ) (among : In a (attrs_of V n)) where
  up : parent_of V a ≡ Some n
  up = (well-formed V v).attribute_parent n a (In-mem a (attrs_of V n) among)

  lives : is_live V a ≡ true
  lives = (ways-up V v).attribute_live n a (In-mem a (attrs_of V n) among)

  is-cut : removed V a ≡ cut V a n (below V a)
  is-cut = ap (removed_from V a) up

  inside : In a (below V a)
  inside = subst (In a) (sym ((ordered V v).below_at a)) (occurs-head a _)

  apart : a ≢ n
  apart e =
      let kind : kind_of V a ≡ Some Attribute = (well-formed V v).attribute_kind n a (In-mem a (attrs_of V n) among) in
      let owner : kind_of V a ≡ Some Element = ap (kind_of V) e ∙ (well-formed V v).owner_kind n a (In-mem a (attrs_of V n) among) in
      absurd (cc)

  pub length-less : length (removed V a) ≡ length V
  length-less = ap length is-cut ∙ cut-length V a n (below V a)

  less : (f : Facts → ℕ) → ((node : Facts) → table_sum f (without_link a (Some node) ∷ []) ≡ f node + 0) → (node : Facts) → entry_at V a ≡ Some node →
      table_sum f (removed V a) + f node ≤ table_sum f V
  less f same node e = subst (λ U. table_sum f U + f node ≤ table_sum f V) (sym is-cut) (cut-sum_one V a n (below V a) f same a node inside apart e)

  entry : (node : Facts) × (entry_at V a ≡ Some node)
  entry = by (entry_at V a) refl lives
    where
      by : (o : Option Facts) → entry_at V a ≡ o → is_some o ≡ true → (node : Facts) × (entry_at V a ≡ Some node)
      by None e h = absurd (true≢false (sym h))
      by (Some node) e h = (node, e)

  pub nodes-less : count_live (removed V a) + 1 ≤ count_live V
  nodes-less = less (λ _. 1) (λ node. refl) entry.0 entry.1

  pub text-less : text_held (removed V a) + length (value_of V a) ≤ text_held V
  text-less =
      let value : length (value_of V a) ≡ text_in entry.0 = ap (λ o. length (value_at (content_at o))) entry.1 in
      omega (arith, value, less text_in (λ node. refl) entry.0 entry.1)
