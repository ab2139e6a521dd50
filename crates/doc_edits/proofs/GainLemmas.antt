-- An element with one attribute more: as a node put at the end of the table, but for kids that the element has.
use Rattle.std.proofs.Common.{◌≡◌, ◌≢◌, ℕ, ◌+◌, true, List, [], ◌∷◌, ◌++◌, ◌⊎◌, length, set, Option, None, Some, refl, sym, ap, ◌∙◌, subst, inl, inr, ⊎_elim, true≢false, arith, append-nil, length-append}
use Rattle.doc_table.specs.declared.kind.Kind.TheVariants.{Root, Element, Attribute, Text}
use Rattle.doc_table.specs.Lists.{mem, occurs}
use Rattle.doc_table.specs.Table.{Table, Facts, Name, Content, attribute, entry_at, parent_at, kids_at, attrs_at, content_at, kind_at, name_at, value_at, expanded_in, expanded, parent_of, kids_of, attrs_of, kind_of, value_of, expanded_of, is_live}
use Rattle.doc_table.specs.Growth.{with_node, with_link, leaf}
use Rattle.doc_table.specs.Kinds.{holds_kids, can_be_kid}
use Rattle.doc_table.specs.inner.Forest.{Forest, tree, tops, flat, ShowsAttributes, Whole}
use Rattle.doc_table.specs.inner.Sound.{Fits, Formed, count_live, text_in, text_held}
use Rattle.doc_table.proofs.Appending.{holder-live}
use Rattle.doc_table.proofs.Counts.{sum-set, sum-more, live-count, text-count}
use Rattle.doc_table.proofs.Fitting.{texts-kept}
use Rattle.doc_table.proofs.Growing.{entry-new, parent-kept, content-kept, kids-parent, attributes-parent, links-kept, length-grown, alive-grown, old-number}
use Rattle.doc_table.proofs.Grown.{way-kept}
use Rattle.doc_table.proofs.ListLemmas.{In, In-mem, occurs-append, occurs-head, occurs-same, eq_or, mem-append, mem-one}
use Rattle.doc_table.proofs.Paths.{Path, plug, owner, around, SameLinks, opened, frame-kids, occurs-plug, size-plug, attributes-kept, shows-kept, replaced}
use Rattle.doc_table.proofs.Places.{NodePlace, AttributePlace, Place, alive-one}
use Rattle.doc_table.proofs.TreeLaws.{ways-up}
use Rattle.doc_table.proofs.Ways.{In-live, place-of}
use Rattle.doc_edits.specs.Changes.{with_attribute, gained}
use Rattle.doc_edits.specs.Fitting.{MayGain}
use Rattle.doc_edits.proofs.TableLemmas.{fits-kept}

-- the table with one node more
pub gained-with_node : (T : Table) (n : ℕ) (name : Name) (value : List ℕ) → gained T n name value ≡ with_node T n (attribute name value)
gained-with_node T n name value =
    ap (λ o. set T n o ++ Some (leaf n (attribute name value)) ∷ []) (linked (entry_at T n))
  where
    linked : (o : Option Facts) → with_attribute (length T) o ≡ with_link (attribute name value) (length T) o
    linked None = refl
    linked (Some node) = ap (λ kids. Some (record node { kids = kids; attributes = node.attributes ++ length T ∷ [] })) (sym (append-nil node.kids))

attributes-more : (T : Table) (n : ℕ) (ats : List ℕ) (a : ℕ) → parent_of T a ≡ Some n → attrs_of T a ≡ [] → kids_of T a ≡ [] → ShowsAttributes T n ats → ShowsAttributes T n (ats ++ a ∷ [])
attributes-more T n [] a up none nokids s = (up, none, nokids, tt)
attributes-more T n (b ∷ ats) a up none nokids s = (s.0, s.1, s.2, attributes-more T n ats a up none nokids s.3)

-- the forest: the new number stands behind the attributes of its node, before the kids
module _ (T : Table) (D : Path) (n : ℕ) (ats : List ℕ) (kids rest : Forest) (w : Whole T (plug D (tree n ats kids rest))) where
  -- all numbers but the node's own
  abbrev outside : List ℕ
  outside = owner D ∷ (around D ++ (ats ++ (flat kids ++ flat rest)))

  occurs-outside : (m : ℕ) → occurs m (0 ∷ flat (plug D (tree n ats kids rest))) ≡ occurs m (n ∷ []) + occurs m outside
  occurs-outside m = occurs-plug m D (tree n ats kids rest) ∙ simp occurs-append (omega arith)

  node-live : is_live T n ≡ true
  node-live = In-live T (plug D (tree n ats kids rest)) w n (omega (arith, occurs-outside n, occurs-head n []))

  module _ (c : Content) where
    outside-kept : (m : ℕ) → In m outside → SameLinks T (with_node T n c) m
    outside-kept m h =
        links-kept T n c node-live m (old-number T n c node-live m (In-live T (plug D (tree n ats kids rest)) w m (omega (arith, h, occurs-outside m))))
        (λ e. let k : occurs m (n ∷ []) ≡ 1 = ap (λ x. occurs m (x ∷ [])) (sym e) ∙ occurs-same m [] in absurd (omega (arith, h, k, occurs-outside m, w.once m, alive-one T m)))

pub whole-gained : (T : Table) (D : Path) (n : ℕ) (name : Name) (value : List ℕ) (ats : List ℕ) (kids rest : Forest) → Whole T (plug D (tree n ats kids rest)) →
    Whole (with_node T n (attribute name value)) (plug D (tree n (ats ++ length T ∷ []) kids rest))
whole-gained T D n name value ats kids rest w =
    let c : Content = attribute name value in
    let live : is_live T n ≡ true = node-live T D n ats kids rest w in
    let o = opened T D (tree n ats kids rest) w.root w.shows in
    let newest : entry_at (with_node T n c) (length T) ≡ Some (leaf n c) = entry-new T n c live in
    let links : (m : ℕ) → In m (owner D ∷ (around D ++ (ats ++ (flat kids ++ flat rest)))) → SameLinks T (with_node T n c) m = outside-kept T D n ats kids rest w c in
    let at_owner : SameLinks T (with_node T n c) (owner D) = links (owner D) (occurs-head (owner D) _) in
    replaced T (with_node T n c) D (tree n ats kids rest) (tree n (ats ++ length T ∷ []) kids rest) w at_owner.parent at_owner.attributes
    (λ m h. links m (simp occurs-append (omega (arith, h))))
    (at_owner.kids ∙ frame-kids T D (n ∷ tops rest) o.0) (
      record {
        parent = parent-kept T n c live n (old-number T n c live n live) ∙ o.1.0.parent;
        attributes = attributes-parent T n c live ∙ ap (λ l. l ++ length T ∷ []) o.1.0.attributes;
        kids_are = kids-parent T n c live ∙ (append-nil (kids_of T n) ∙ o.1.0.kids_are);
        hold = attributes-more (with_node T n c) n ats (length T) (ap parent_at newest) (ap attrs_at newest) (ap kids_at newest)
            (attributes-kept T (with_node T n c) n ats (λ m h. links m (simp occurs-append (omega (arith, h)))) o.1.0.hold);
      },
      shows-kept T (with_node T n c) n kids (λ m h. links m (simp occurs-append (omega (arith, h)))) o.1.1,
      shows-kept T (with_node T n c) (owner D) rest (λ m h. links m (simp occurs-append (omega (arith, h)))) o.1.2,
    )
    (λ m. simp occurs-append (omega (arith, alive-grown T n c live m, w.once m, simp occurs-append at (occurs-plug m D (tree n ats kids rest)))))
    (omega (arith, size-plug D (tree n ats kids rest) (tree n (ats ++ length T ∷ []) kids rest), length-grown T n c live, w.few, length-append ats (length T ∷ [])))

-- each number goes on fitting
module _ (T : Table) (n : ℕ) (name : Name) (value : List ℕ) (s : Formed T) (may : MayGain T n name value) where
  abbrev grown : Table
  grown = with_node T n (attribute name value)

  live : is_live T n ≡ true
  live = holder-live T n (ap holds_kids may.under)

  old : (m : ℕ) → is_live T m ≡ true → m ≢ length T
  old m = old-number T n (attribute name value) live m

  pub kid-old : (m k : ℕ) → mem k (kids_of T m) ≡ true → k ≢ length T
  kid-old m k h = old k ((ways-up T s).kid_live m k h)

  pub attribute-old : (m a : ℕ) → mem a (attrs_of T m) ≡ true → a ≢ length T
  attribute-old m a h = old a ((ways-up T s).attribute_live m a h)

  kind-kept : (m : ℕ) → m ≢ length T → kind_of grown m ≡ kind_of T m
  kind-kept m ne = ap kind_at (content-kept T n (attribute name value) live m ne)

  expanded-kept : (m : ℕ) → m ≢ length T → expanded_of grown m ≡ expanded_of T m
  expanded-kept m ne = ap (λ c. expanded_in (name_at c)) (content-kept T n (attribute name value) live m ne)

  text-kept : (m : ℕ) → m ≢ length T → kind_of T m ≡ Some Text → value_of grown m ≢ []
  text-kept m ne h empty = (s.fits m).some_text h (ap value_at (sym (content-kept T n (attribute name value) live m ne)) ∙ empty)

  pub newest : entry_at grown (length T) ≡ Some (leaf n (attribute name value))
  newest = entry-new T n (attribute name value) live

  fits-other : (m : ℕ) → m ≢ length T → m ≢ n → Fits grown m
  fits-other m ne other =
      let links : SameLinks T grown m = links-kept T n (attribute name value) live m ne other in
      fits-kept T grown m (record {
        kind = kind-kept m ne;
        kids = links.kids;
        attributes = links.attributes;
        kid_kinds = λ k h. kind-kept k (kid-old m k h);
        attribute_kinds = λ a h. kind-kept a (attribute-old m a h);
        attribute_names = λ a b ha hb e. sym (expanded-kept a (attribute-old m a ha)) ∙ (e ∙ expanded-kept b (attribute-old m b hb));
        some_text = text-kept m ne;
        way = way-kept T n (attribute name value) s.forest live s.whole m;
      }) (s.fits m)

  -- the new attribute
  fits-new : Fits grown (length T)
  fits-new =
      let kind : kind_of grown (length T) ≡ Some Attribute = ap (λ e. kind_at (content_at e)) newest in
      let kid : (k : ℕ) → mem k (kids_of grown (length T)) ≡ true → ⊥ = λ k h. true≢false (sym h ∙ ap (λ e. mem k (kids_at e)) newest) in
      let at : (a : ℕ) → mem a (attrs_of grown (length T)) ≡ true → ⊥ = λ a h. true≢false (sym h ∙ ap (λ e. mem a (attrs_at e)) newest) in
      record {
        one_root = λ h. absurd (cc);
        kid_kind = λ k h. absurd (kid k h);
        attribute_kind = λ a h. absurd (at a h);
        holder_kind = λ k h. absurd (kid k h);
        owner_kind = λ a h. absurd (at a h);
        names_differ = λ a b ha hb e. absurd (at a ha);
        some_text = λ h. absurd (cc);
        texts_apart = rw (ap kids_at newest) tt;
        not_deep = λ h. absurd (cc);
      }

  kids-same : kids_of grown n ≡ kids_of T n
  kids-same = kids-parent T n (attribute name value) live ∙ append-nil (kids_of T n)

  -- an attribute of the element is an old one, or the new one
  among : (a : ℕ) → mem a (attrs_of grown n) ≡ true → (mem a (attrs_of T n) ≡ true) ⊎ (a ≡ length T)
  among a h =
      ⊎_elim (λ (k : mem a (attrs_of T n) ≡ true). inl k) (λ (k : mem a (length T ∷ []) ≡ true). inr (mem-one a (length T) k))
      (mem-append a (attrs_of T n) (length T ∷ []) (ap (mem a) (sym (attributes-parent T n (attribute name value) live)) ∙ h))

  new-name : (a : ℕ) → a ≡ length T → expanded_of grown a ≡ Some (expanded name)
  new-name a e = ap (expanded_of grown) e ∙ ap (λ o. expanded_in (name_at (content_at o))) newest

  clash : (a b : ℕ) → mem a (attrs_of T n) ≡ true → b ≡ length T → expanded_of grown a ≡ expanded_of grown b → ⊥
  clash a b h new e = may.is_new a h (sym (expanded-kept a (attribute-old n a h)) ∙ (e ∙ new-name b new))

  -- the element
  fits-owner : Fits grown n
  fits-owner =
      let kid : (k : ℕ) → mem k (kids_of grown n) ≡ true → mem k (kids_of T n) ≡ true = λ k h. ap (mem k) (sym kids-same) ∙ h in
      record {
        one_root = λ h. (s.fits n).one_root (sym (kind-kept n (old n live)) ∙ h);
        kid_kind = λ k h. ap can_be_kid (kind-kept k (kid-old n k (kid k h))) ∙ (s.fits n).kid_kind k (kid k h);
        attribute_kind = λ a h. ⊎_elim (λ (o : mem a (attrs_of T n) ≡ true). kind-kept a (attribute-old n a o) ∙ (s.fits n).attribute_kind a o)
            (λ (e : a ≡ length T). ap (kind_of grown) e ∙ ap (λ o. kind_at (content_at o)) newest) (among a h);
        holder_kind = λ k h. ap holds_kids (kind-kept n (old n live) ∙ may.under);
        owner_kind = λ a h. kind-kept n (old n live) ∙ may.under;
        names_differ = λ a b ha hb e. ⊎_elim
            (λ (oa : mem a (attrs_of T n) ≡ true). ⊎_elim
            (λ (ob : mem b (attrs_of T n) ≡ true). (s.fits n).names_differ a b oa ob (sym (expanded-kept a (attribute-old n a oa)) ∙ (e ∙ expanded-kept b (attribute-old n b ob))))
            (λ (eb : b ≡ length T). absurd (clash a b oa eb e)) (among b hb))
            (λ (ea : a ≡ length T). ⊎_elim (λ (ob : mem b (attrs_of T n) ≡ true). absurd (clash b a ob ea (sym e))) (λ (eb : b ≡ length T). ea ∙ sym eb) (among b hb))
            (among a ha);
        some_text = λ h. text-kept n (old n live) (sym (kind-kept n (old n live)) ∙ h);
        texts_apart = rw kids-same (texts-kept T grown (kids_of T n) (λ k h. kind-kept k (kid-old n k h)) (s.fits n).texts_apart);
        not_deep = λ h. rw (way-kept T n (attribute name value) s.forest live s.whole n live) ((s.fits n).not_deep (sym (kind-kept n (old n live)) ∙ h));
      }

  fits-gained : (m : ℕ) → Fits grown m
  fits-gained m =
      ⊎_elim (λ (e : m ≡ length T). subst (Fits grown) (sym e) fits-new)
      (λ (ne : m ≢ length T). ⊎_elim (λ (e : m ≡ n). subst (Fits grown) (sym e) fits-owner) (λ (other : m ≢ n). fits-other m ne other) (eq_or m n))
      (eq_or m (length T))

  pub counted : count_live grown ≡ count_live T + 1
  counted =
      sum-more (λ _. 1) (set T n (with_link (attribute name value) (length T) (entry_at T n))) (leaf n (attribute name value))
      ∙ ap (λ k. k + 1) (sum-set (λ _. 1) T n (with_link (attribute name value) (length T)) refl (λ node. refl))

  pub held : text_held grown ≡ text_held T + length value
  held =
      sum-more text_in (set T n (with_link (attribute name value) (length T) (entry_at T n))) (leaf n (attribute name value))
      ∙ ap (λ k. k + length value) (sum-set text_in T n (with_link (attribute name value) (length T)) refl (λ node. refl))

  -- the element is a node of the forest, neither the root nor an attribute
  pub node-place : NodePlace s.forest n
  node-place =
      ⊎_elim (λ (e : n ≡ 0). absurd (let root : kind_of T n ≡ Some Root = ap (kind_of T) e ∙ s.root_kind in let kind : kind_of T n ≡ Some Element = may.under in cc))
      (λ (place : Place s.forest n). ⊎_elim
      (λ (at : NodePlace s.forest n). at)
      (λ (at : AttributePlace s.forest n).
      let v : Whole T (plug at.path (tree at.node at.ats at.kids at.rest)) = subst (Whole T) (sym at.at) s.whole in
      let listed : mem n (attrs_of T at.node) ≡ true = rw (opened T at.path (tree at.node at.ats at.kids at.rest) v.root v.shows).1.0.attributes (In-mem n at.ats at.among) in
      let kind : kind_of T n ≡ Some Attribute = (s.fits at.node).attribute_kind n listed in
      let other : kind_of T n ≡ Some Element = may.under in absurd (cc))
      place)
      (place-of T s.forest s.whole n live)

  forest-gained : (G : Forest) × Whole grown G
  forest-gained =
      let at : NodePlace s.forest n = node-place in
      (plug at.path (tree n (at.ats ++ length T ∷ []) at.kids at.rest), whole-gained T at.path n name value at.ats at.kids at.rest (subst (Whole T) (sym at.at) s.whole))

  pub formed-gained : Formed grown
  formed-gained = record {
    forest = forest-gained.0;
    whole = forest-gained.1;
    root_kind = kind-kept 0 (old 0 (holder-live T 0 (ap holds_kids s.root_kind))) ∙ s.root_kind;
    fits = fits-gained;
    few_nodes = omega (arith, counted, live-count T s.forest s.whole, may.few_nodes);
    few_numbers = omega (arith, length-grown T n (attribute name value) live, may.few_numbers);
    little_text = omega (arith, held, text-count T s.forest s.whole, may.little);
  }

pub gains-keep-trees : (T : Table) (n : ℕ) (name : Name) (value : List ℕ) → Formed T → MayGain T n name value → Formed (gained T n name value)
gains-keep-trees T n name value s may = subst Formed (sym (gained-with_node T n name value)) (formed-gained T n name value s may)
