-- Attributes that go and come again: all else of the tree stays, and its element says the same lines.
use Rattle.std.proofs.Common.{◌≡◌, ◌≢◌, ℕ, true, List, [], ◌∷◌, ◌++◌, length, map, Some, is_some, refl, sym, ap, ap₂, ◌∙◌, inr, subst, ⊎_elim, true≢false, arith, append-nil, append_assoc}
use Rattle.std.specs.List.{flat_map}
use Rattle.std.proofs.lemmas.List.{map-id}
use Rattle.std.proofs.lemmas.List.Concat.{flat_map-append}
use Rattle.doc_table.specs.declared.kind.Kind.TheVariants.{Attribute, Root}
use Rattle.doc_table.specs.Kinds.{can_be_kid, holds_kids}
use Rattle.doc_table.specs.Lists.{occurs}
use Rattle.doc_table.specs.Table.{Content, Name, Table, attribute, attrs_of, content_at, content_of, is_live, kids_of, kind_at, kind_of, parent_of}
use Rattle.doc_table.specs.Walks.{below}
use Rattle.doc_table.specs.Laws.{TextsApart, WellFormed}
use Rattle.doc_table.specs.Lines.{Line, first_lines, has_attribute, lines_at, opens}
use Rattle.doc_table.specs.Growth.{with_node}
use Rattle.doc_table.specs.SameTree.{SameTree}
use Rattle.doc_table.specs.inner.Sound.{Formed}
use Rattle.doc_table.proofs.Appending.{holder-live}
use Rattle.doc_table.proofs.Forests.{formed-of}
use Rattle.doc_table.proofs.Growing.{attributes-parent, content-kept, entry-new, kids-parent, links-kept, old-number}
use Rattle.doc_table.proofs.ListLemmas.{In, In-append, In-mem, eq_or, flat_map-same, occurs-append, occurs-head, occurs-other}
use Rattle.doc_table.proofs.TreeLaws.{ordered, ways-up, well-formed}
use Rattle.doc_table.proofs.Ways.{In-live}
use Rattle.doc_edits.specs.Changes.{gained, removed, removed_from}
use Rattle.doc_edits.specs.Fitting.{MayGain}
use Rattle.doc_edits.proofs.ClearLemmas.{without-none}
use Rattle.doc_edits.proofs.GainLemmas.{gained-with_node, gains-keep-trees}
use Rattle.doc_edits.proofs.PruneLemmas.{none-in, not-both}
use Rattle.doc_edits.proofs.RemovalLemmas.{attributes-left, formed-left, kids-left, remaining, same-content}
use Rattle.doc_undo_laws.specs.Undoing.{AttributesAreGivenBack, MayRegain, Pair, content_of_pair, lost, regained}
use Rattle.doc_undo_laws.proofs.Alongside.{Says, along, live-content, same-tree}
use Rattle.doc_undo_laws.proofs.DeletionUndone.{listed, not-before, not-behind, without-it}

-- a node that is no attribute
pub record IsNode (T : Table) (m : ℕ) : Type 0 where
  pub lives : is_live T m ≡ true
  pub other : kind_of T m ≢ Some Attribute

-- all but the attributes of n stays
pub record Beside (T U : Table) (n : ℕ) : Type 0 where
  pub formed : Formed U
  pub content : (m : ℕ) → IsNode T m → content_of U m ≡ content_of T m
  pub kids : (m : ℕ) → IsNode T m → kids_of U m ≡ kids_of T m
  pub others : (m : ℕ) → IsNode T m → m ≢ n → flat_map (opens U) (attrs_of U m) ≡ flat_map (opens T) (attrs_of T m)

same-node : (T U : Table) (m : ℕ) → content_of U m ≡ content_of T m → IsNode T m → IsNode U m
same-node T U m same node = record {
  lives = live-content U m ∙ (ap is_some same ∙ (sym (live-content T m) ∙ node.lives));
  other = λ h. node.other (ap kind_at (sym same) ∙ h);
}

beside-on : (T U V : Table) (n : ℕ) → Beside T U n → Beside U V n → Beside T V n
beside-on T U V n a b = record {
  formed = b.formed;
  content = λ m h. b.content m (same-node T U m (a.content m h) h) ∙ a.content m h;
  kids = λ m h. b.kids m (same-node T U m (a.content m h) h) ∙ a.kids m h;
  others = λ m h ne. b.others m (same-node T U m (a.content m h) h) ne ∙ a.others m h ne;
}

beside-none : (T : Table) (n : ℕ) → Formed T → Beside T T n
beside-none T n t = record { formed = t; content = λ m h. refl; kids = λ m h. refl; others = λ m h ne. refl }

-- where its element says the same lines, it is the same tree
module _ (T U : Table) (n : ℕ) (t : Formed T) (s : Beside T U n) (here : flat_map (opens U) (attrs_of U n) ≡ flat_map (opens T) (attrs_of T n)) where
  node-says : (m : ℕ) → IsNode T m → Says (λ k. k) T U (IsNode T) m
  node-says m node = record {
    content = s.content m node;
    attributes = ⊎_elim (λ (e : m ≡ n). subst (λ k. flat_map (opens U) (attrs_of U k) ≡ flat_map (opens T) (attrs_of T k)) (sym e) here) (λ (ne : m ≢ n). s.others m node ne) (eq_or m n);
    kids = s.kids m node ∙ sym (map-id (kids_of T m));
    inside = λ k h.
        let kid : can_be_kid (kind_of T k) ≡ true = (well-formed T t).kid_kind m k (In-mem k (kids_of T m) h) in
        record { lives = (ways-up T t).kid_live m k (In-mem k (kids_of T m) h); other = λ e. true≢false (sym kid ∙ ap can_be_kid e) };
  }

  root-node : IsNode T 0
  root-node = record {
    lives = In-live T t.forest t.whole 0 (occurs-head 0 _);
    other = λ e. absurd (let root : kind_of T 0 ≡ Some Root = t.root_kind in cc);
  }

  pub beside-same : SameTree T U
  beside-same = same-tree (λ k. k) T U t s.formed refl (along (λ k. k) T U t s.formed (IsNode T) (λ m node. inr (node-says m node)) 0 root-node)

-- an attribute goes
module _ (T : Table) (a n : ℕ) (front back : List ℕ) (t : Formed T) (list : attrs_of T n ≡ front ++ a ∷ back) where
  form : WellFormed T
  form = well-formed T t

  among : In a (attrs_of T n)
  among = listed a (attrs_of T n) front back (form.attributes_once n) list

  pub up : parent_of T a ≡ Some n
  up = form.attribute_parent n a (In-mem a (attrs_of T n) among)

  abbrev R : Table
  R = remaining T a n t up

  away : (m : ℕ) → m ≢ a → occurs m (below T a) ≡ 0
  away m ne = ap (occurs m) ((ordered T t).below_attribute n a (In-mem a (attrs_of T n) among)) ∙ occurs-other m a [] ne

  no-kid : (m : ℕ) → occurs a (kids_of T m) ≡ 0
  no-kid m = none-in (occurs a (kids_of T m)) (λ h. not-both form a m n h among)

  rest-formed : Formed R
  rest-formed = formed-left T a n t up (subst (TextsApart T) (sym (without-none a (kids_of T n) (no-kid n))) (form.texts_apart n))

  no-attribute : (m : ℕ) → m ≢ n → occurs a (attrs_of T m) ≡ 0
  no-attribute m ne =
      none-in (occurs a (attrs_of T m))
      (λ h. absurd (let hangs : parent_of T a ≡ Some m = form.attribute_parent m a (In-mem a (attrs_of T m) h) in let same : n ≡ m = (cc (up, hangs)) in ne (sym same)))

  other : (m : ℕ) → IsNode T m → m ≢ a
  other m node e = node.other (ap (kind_of T) e ∙ form.attribute_kind n a (In-mem a (attrs_of T n) among))

  pub content-left : (m : ℕ) → m ≢ a → content_of R m ≡ content_of T m
  content-left m ne = same-content T a n t up m (away m ne)

  pub list-left : attrs_of R n ≡ front ++ back
  list-left =
      ⊎_elim (λ (e : n ≡ a). absurd (let kind : kind_of T n ≡ Some Attribute = ap (kind_of T) e ∙ form.attribute_kind n a (In-mem a (attrs_of T n) among) in
      let owner = form.owner_kind n a (In-mem a (attrs_of T n) among) in cc))
      (λ (ne : n ≢ a). attributes-left T a n t up n (away n ne) ∙ without-it a (attrs_of T n) front back (form.attributes_once n) list) (eq_or n a)

  others-left : (m : ℕ) → IsNode T m → m ≢ n → flat_map (opens R) (attrs_of R m) ≡ flat_map (opens T) (attrs_of T m)
  others-left m node ne =
      ap (flat_map (opens R)) (attributes-left T a n t up m (away m (other m node)) ∙ without-none a (attrs_of T m) (no-attribute m ne))
      ∙ flat_map-same (opens R) (opens T) (attrs_of T m)
      (λ b h. ap (lines_at first_lines) (content-left b (λ e. absurd (omega (arith, no-attribute m ne, subst (λ k. In k (attrs_of T m)) e h)))))

  pub loss-beside : Beside T (removed T a) n
  loss-beside =
      subst (λ U. Beside T U n) (sym (ap (removed_from T a) up)) (record {
        formed = rest-formed;
        content = λ m node. content-left m (other m node);
        kids = λ m node. kids-left T a n t up m (away m (other m node)) ∙ without-none a (kids_of T m) (no-kid m);
        others = others-left;
      })

  pub loss-list : attrs_of (removed T a) n ≡ front ++ back
  loss-list = ap (λ U. attrs_of U n) (ap (removed_from T a) up) ∙ list-left

  pub loss-content : (m : ℕ) → In m (front ++ back) → content_of (removed T a) m ≡ content_of T m
  loss-content m h =
      ap (λ U. content_of U m) (ap (removed_from T a) up)
      ∙ content-left m
      (⊎_elim (λ (k : In m front). not-before a (attrs_of T n) front back (form.attributes_once n) list m k)
      (λ (k : In m back). not-behind a (attrs_of T n) front back (form.attributes_once n) list m k) (In-append m front back h))

-- an attribute comes
module _ (T : Table) (n : ℕ) (name : Name) (value : List ℕ) (t : Formed T) (may : MayGain T n name value) where
  abbrev c : Content
  c = attribute name value

  abbrev G : Table
  G = with_node T n c

  live : is_live T n ≡ true
  live = holder-live T n (ap holds_kids may.under)

  old : (m : ℕ) → is_live T m ≡ true → m ≢ length T
  old m = old-number T n c live m

  attribute-same : (m b : ℕ) → In b (attrs_of T m) → opens G b ≡ opens T b
  attribute-same m b h = ap (lines_at first_lines) (content-kept T n c live b (old b ((ways-up T t).attribute_live m b (In-mem b (attrs_of T m) h))))

  list-more : attrs_of G n ≡ attrs_of T n ++ length T ∷ []
  list-more = attributes-parent T n c live

  new-line : opens G (length T) ≡ has_attribute name value ∷ []
  new-line = ap (λ o. lines_at first_lines (content_at o)) (entry-new T n c live)

  lines-more : flat_map (opens G) (attrs_of G n) ≡ flat_map (opens T) (attrs_of T n) ++ has_attribute name value ∷ []
  lines-more =
      ap (flat_map (opens G)) list-more
      ∙ (flat_map-append (opens G) (attrs_of T n) (length T ∷ [])
      ∙ ap₂ (λ (x y : List Line). x ++ y) (flat_map-same (opens G) (opens T) (attrs_of T n) (λ b h. attribute-same n b h)) (append-nil (opens G (length T)) ∙ new-line))

  kids-same : (m : ℕ) → IsNode T m → kids_of G m ≡ kids_of T m
  kids-same m node =
      ⊎_elim (λ (e : m ≡ n). ap (kids_of G) e ∙ (kids-parent T n c live ∙ (append-nil (kids_of T n) ∙ ap (kids_of T) (sym e))))
      (λ (ne : m ≢ n). (links-kept T n c live m (old m node.lives) ne).kids) (eq_or m n)

  others-same : (m : ℕ) → IsNode T m → m ≢ n → flat_map (opens G) (attrs_of G m) ≡ flat_map (opens T) (attrs_of T m)
  others-same m node ne =
      ap (flat_map (opens G)) (links-kept T n c live m (old m node.lives) ne).attributes
      ∙ flat_map-same (opens G) (opens T) (attrs_of T m) (λ b h. attribute-same m b h)

  is-grown : gained T n name value ≡ G
  is-grown = gained-with_node T n name value

  pub gain-beside : Beside T (gained T n name value) n
  gain-beside = record {
    formed = gains-keep-trees T n name value t may;
    content = λ m node. ap (λ U. content_of U m) is-grown ∙ content-kept T n c live m (old m node.lives);
    kids = λ m node. ap (λ U. kids_of U m) is-grown ∙ kids-same m node;
    others = λ m node ne. ap (λ U. flat_map (opens U) (attrs_of U m)) is-grown ∙ others-same m node ne;
  }

  pub gain-lines : flat_map (opens (gained T n name value)) (attrs_of (gained T n name value) n) ≡ flat_map (opens T) (attrs_of T n) ++ has_attribute name value ∷ []
  gain-lines = ap (λ U. flat_map (opens U) (attrs_of U n)) is-grown ∙ lines-more

  gain-list : attrs_of (gained T n name value) n ≡ attrs_of T n ++ length T ∷ []
  gain-list = ap (λ U. attrs_of U n) is-grown ∙ list-more

  gain-content : (b : ℕ) → In b (attrs_of T n) → content_of (gained T n name value) b ≡ content_of T b
  gain-content b h = ap (λ U. content_of U b) is-grown ∙ content-kept T n c live b (old b ((ways-up T t).attribute_live n b (In-mem b (attrs_of T n) h)))

  -- and goes again
  pub gain-undone : SameTree T (removed (gained T n name value) (length T))
  gain-undone =
      let V : Table = gained T n name value in
      let W : Table = removed V (length T) in
      let v : Formed V = gains-keep-trees T n name value t may in
      let list : attrs_of W n ≡ attrs_of T n = loss-list V (length T) n (attrs_of T n) [] v gain-list ∙ append-nil (attrs_of T n) in
      beside-same T W n t (beside-on T V W n gain-beside (loss-beside V (length T) n (attrs_of T n) [] v gain-list))
      (ap (flat_map (opens W)) list
      ∙ flat_map-same (opens W) (opens T) (attrs_of T n)
      (λ b h. ap (lines_at first_lines)
      (loss-content V (length T) n (attrs_of T n) [] v gain-list b (subst (In b) (sym (append-nil (attrs_of T n))) h) ∙ gain-content b h)))

-- attributes go, one after another: those before them are left
record Losses (T U : Table) (n : ℕ) (ats : List ℕ) : Type 0 where
  beside : Beside T U n
  list : attrs_of U n ≡ ats
  content : (a : ℕ) → In a ats → content_of U a ≡ content_of T a

losses : (T U : Table) (n : ℕ) (front ats : List ℕ) → Losses T U n (front ++ ats) → Losses T (lost ats U) n front
losses T U n front [] s = subst (Losses T U n) (append-nil front) s
losses T U n front (a ∷ ats) s =
    losses T (removed U a) n front ats (record {
      beside = beside-on T U (removed U a) n s.beside (loss-beside U a n front ats s.beside.formed s.list);
      list = loss-list U a n front ats s.beside.formed s.list;
      content = λ b h. loss-content U a n front ats s.beside.formed s.list b h
          ∙ s.content b (omega (arith, h, occurs-append b front ats, occurs-append b front (a ∷ ats)));
    })

abbrev pair_lines : List Pair → List Line
pair_lines [] = []
pair_lines (pair ∷ pairs) = has_attribute pair.0 pair.1 ∷ pair_lines pairs

-- and come again
gains : (T U : Table) (n : ℕ) (said : List Line) (pairs : List Pair) → Beside T U n → flat_map (opens U) (attrs_of U n) ≡ said → MayRegain n pairs U →
    Beside T (regained n pairs U) n × (flat_map (opens (regained n pairs U)) (attrs_of (regained n pairs U) n) ≡ said ++ pair_lines pairs)
gains T U n said [] s lines may = (s, lines ∙ sym (append-nil said))
gains T U n said (pair ∷ pairs) s lines may =
    let V : Table = gained U n pair.0 pair.1 in
    let more : Beside T (regained n pairs V) n × (flat_map (opens (regained n pairs V)) (attrs_of (regained n pairs V) n) ≡ (said ++ has_attribute pair.0 pair.1 ∷ []) ++ pair_lines pairs) =
    gains T V n (said ++ has_attribute pair.0 pair.1 ∷ []) pairs (beside-on T U V n s (gain-beside U n pair.0 pair.1 s.formed may.0))
    (gain-lines U n pair.0 pair.1 s.formed may.0 ∙ ap (λ l. l ++ has_attribute pair.0 pair.1 ∷ []) lines) may.1 in
    (more.0, more.1 ∙ append_assoc said (has_attribute pair.0 pair.1 ∷ []) (pair_lines pairs))

pairs-told : (T : Table) (ats : List ℕ) (pairs : List Pair) → map (content_of T) ats ≡ map content_of_pair pairs → flat_map (opens T) ats ≡ pair_lines pairs
pairs-told T [] [] same = refl
pairs-told T [] (pair ∷ pairs) same = absurd (cc)
pairs-told T (a ∷ ats) [] same = absurd (cc)
pairs-told T (a ∷ ats) (pair ∷ pairs) same =
    let first : content_of T a ≡ content_of_pair pair = (cc) in
    let rest : map (content_of T) ats ≡ map content_of_pair pairs = (cc) in
    ap₂ (λ (x y : List Line). x ++ y) (ap (lines_at first_lines) first) (pairs-told T ats pairs rest)

losses-undone : (T : Table) (n : ℕ) (front ats : List ℕ) (pairs : List Pair) → Formed T → attrs_of T n ≡ front ++ ats → map (content_of T) ats ≡ map content_of_pair pairs →
    MayRegain n pairs (lost ats T) → SameTree T (regained n pairs (lost ats T))
losses-undone T n front ats pairs t list same may =
    let gone : Losses T (lost ats T) n front = losses T T n front ats (record { beside = beside-none T n t; list = list; content = λ a h. refl }) in
    let left : flat_map (opens (lost ats T)) (attrs_of (lost ats T) n) ≡ flat_map (opens T) front =
    ap (flat_map (opens (lost ats T))) gone.list ∙ flat_map-same (opens (lost ats T)) (opens T) front (λ a h. ap (lines_at first_lines) (gone.content a h)) in
    let back : Beside T (regained n pairs (lost ats T)) n × (flat_map (opens (regained n pairs (lost ats T))) (attrs_of (regained n pairs (lost ats T)) n) ≡ flat_map (opens T) front ++ pair_lines pairs) =
    gains T (lost ats T) n (flat_map (opens T) front) pairs gone.beside left may in
    beside-same T (regained n pairs (lost ats T)) n t back.0
    (back.1
    ∙ sym (ap (flat_map (opens T)) list ∙ (flat_map-append (opens T) front ats ∙ ap (λ l. flat_map (opens T) front ++ l) (pairs-told T ats pairs same))))

pub attributes-are-given-back : AttributesAreGivenBack
attributes-are-given-back = record {
  gain = λ T n name value t may. gain-undone T n name value (formed-of T t) may;
  loss = λ T n front ats pairs t list same may. losses-undone T n front ats pairs (formed-of T t) list same may;
}
