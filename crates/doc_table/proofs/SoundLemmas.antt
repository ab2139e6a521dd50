-- The kept nodes: a tree of the root alone, names that grow, and one node more.
use Rattle.std.proofs.Common.{◌≡◌, ◌≢◌, ℕ, ◌+◌, ◌*◌, ◌<◌, ◌≤◌, suc, zero, Bool, true, false, List, [], ◌∷◌, ◌++◌, length, get_or, set, Option, None, Some, refl, sym, ap, ap₂, ◌∙◌, subst, ⊎_elim, true≢false, arith, append-nil, length-set, length-append}
use Rattle.std.proofs.lemmas.List.{map-set, map-append}
use Rattle.std.specs.Prelude.{Result, Ok, Err, IfOk, OnErr}
use Rattle.doc_table.specs.declared.node.Label.{Label}
use Rattle.doc_table.specs.declared.node.Label.TheVariants as label
use Rattle.doc_table.specs.declared.node.Node.{Node}
use Rattle.doc_table.specs.declared.node.NodeContent.{NodeContent}
use Rattle.doc_table.specs.declared.node.NodeContent.TheVariants as kept
use Rattle.doc_table.specs.Lists.{occurs, Rise}
use Rattle.doc_table.specs.Table.{Table, Name, Content, entry_at, kind_of, is_live, numbered, AllLive, value_in, no_name, root_alone}
use Rattle.doc_table.specs.Walks.{ancestors, above, is_open, order}
use Rattle.doc_table.specs.inner.Labels.{label_is_attribute, content_labelled, kept_labelled, LabelIsBelow}
use Rattle.doc_table.specs.Growth.{FitsUnder, passed_limit, with_node, with_link, leaf, Grew}
use Rattle.doc_table.specs.Kinds.{holds_kids}
use Rattle.doc_table.specs.declared.ranks.TheConstants.{RANK_STEP}
use Rattle.doc_table.specs.inner.Growing.{new_node, grown_nodes, grown}
use Rattle.doc_table.specs.inner.Kept.{depth_at, rank_at, ranks_of, NameIsBelow, NamesAreBelow, kept_link}
use Rattle.doc_table.specs.inner.Views.{content_seen, node_seen, table_seen}
use Rattle.doc_names.specs.Numbering.{Numbered}
use Rattle.doc_table.specs.inner.Sound.{Fits, Sound}
use Rattle.doc_table.specs.inner.Parts.{Parts, IsSound, table_of}
use Rattle.doc_table.specs.inner.Forest.{bare, alive}
use Rattle.doc_table.proofs.ListLemmas.{In-mem, get-last, eq_or, occurs-other}
use Rattle.doc_names.proofs.NumberLemmas.{get-front}
use Rattle.doc_table.proofs.Growing.{live-kept, old-number}
use Rattle.doc_table.proofs.Appending.{appended, holder-live}
use Rattle.doc_table.proofs.Rising.{map-agree, ranks-append, rise-within}
use Rattle.doc_table.proofs.TreeLaws.{ordered}

-- the entry that a kept node shows
pub seen-entry : (names : List Name) (nodes : List (Option Node)) (n : ℕ) → entry_at (table_seen names nodes) n ≡ node_seen names (get_or nodes n None)
seen-entry names [] n = refl
seen-entry names (first ∷ nodes) zero = refl
seen-entry names (first ∷ nodes) (suc n) = seen-entry names nodes n

pub seen-length : (names : List Name) (nodes : List (Option Node)) → length (table_seen names nodes) ≡ length nodes
seen-length names [] = refl
seen-length names (first ∷ nodes) = ap suc (seen-length names nodes)

-- the tree of the root alone
abbrev pub root_node : Node
root_node = record { parent = None; depth = 0; rank = 0; kids = []; attributes = []; content = kept.Root }

lone-once : (n : ℕ) → occurs n (0 ∷ []) ≡ alive root_alone.nodes n
lone-once zero = refl
lone-once (suc n) = occurs-other (suc n) 0 [] (λ e. absurd (omega arith))

lone-fits : (n : ℕ) → Fits root_alone.nodes n
lone-fits zero = record {
  one_root = λ h. refl;
  kid_kind = λ k h. absurd (true≢false (sym h));
  attribute_kind = λ a h. absurd (true≢false (sym h));
  holder_kind = λ k h. absurd (true≢false (sym h));
  owner_kind = λ a h. absurd (true≢false (sym h));
  names_differ = λ a b ha hb e. absurd (true≢false (sym ha));
  some_text = λ h. absurd (cc);
  texts_apart = tt;
  not_deep = λ h. absurd (cc);
}
lone-fits (suc n) = record {
  one_root = λ h. absurd (cc);
  kid_kind = λ k h. absurd (true≢false (sym h));
  attribute_kind = λ a h. absurd (true≢false (sym h));
  holder_kind = λ k h. absurd (true≢false (sym h));
  owner_kind = λ a h. absurd (true≢false (sym h));
  names_differ = λ a b ha hb e. absurd (true≢false (sym ha));
  some_text = λ h. absurd (cc);
  texts_apart = tt;
  not_deep = λ h. absurd (cc);
}

lone-depths : (names : List Name) (n : ℕ) → is_live (table_seen names (Some root_node ∷ [])) n ≡ true →
    depth_at (get_or (Some root_node ∷ []) n None) ≡ length (ancestors (table_seen names (Some root_node ∷ [])) n)
lone-depths names zero h = refl
lone-depths names (suc n) h = absurd (true≢false (sym h))

pub sound_alone : (names : List Name) → Sound (Some root_node ∷ []) names 1 0
sound_alone names = record {
  formed = record {
    forest = bare;
    whole = record {
      root = record { no_parent = refl; no_attributes = refl; kids_are = refl };
      shows = tt;
      once = lone-once;
      few = omega arith;
    };
    root_kind = refl;
    fits = lone-fits;
    few_nodes = omega arith;
    few_numbers = omega arith;
    little_text = omega arith;
  };
  known = (tt, tt);
  depths = lone-depths names;
  ranks = (omega arith, omega arith);
  live_is = refl;
  bytes_is = refl;
}

-- names that grow
pub numbered-kept : (before after : List Name) (name : Name) (number id : ℕ) → Numbered before after name number → id < length before → numbered after id ≡ numbered before id
numbered-kept before after name number id n h =
    ⊎_elim (λ (e : after ≡ before). ap (λ names. numbered names id) e)
    (λ (e : (after ≡ before ++ name ∷ []) × (number ≡ length before)). ap (λ names. numbered names id) e.0 ∙ get-front before name no_name id (λ same. absurd (omega arith)))
    n.added

content-kept : (before after : List Name) (c : NodeContent) → ((id : ℕ) → id < length before → numbered after id ≡ numbered before id) → NameIsBelow (length before) c → content_seen after c ≡ content_seen before c
content-kept before after kept.Root same h = refl
content-kept before after (kept.Element id decls) same h = rw (same id h) refl
content-kept before after (kept.Attribute id value) same h = rw (same id h) refl
content-kept before after (kept.Text value) same h = refl
content-kept before after (kept.Comment value) same h = refl
content-kept before after (kept.Pi id value) same h = rw (same id h) refl

pub table-kept : (before after : List Name) (nodes : List (Option Node)) → ((id : ℕ) → id < length before → numbered after id ≡ numbered before id) → NamesAreBelow (length before) nodes →
    table_seen after nodes ≡ table_seen before nodes
table-kept before after [] same h = refl
table-kept before after (None ∷ nodes) same h = ap (λ l. None ∷ l) (table-kept before after nodes same h)
table-kept before after (Some node ∷ nodes) same h =
    ap₂ (λ c l. Some (record { parent = node.parent; kids = node.kids; attributes = node.attributes; content = c }) ∷ l)
    (content-kept before after node.content same h.0) (table-kept before after nodes same h.1)

name-more : (n m : ℕ) (c : NodeContent) → n ≤ m → NameIsBelow n c → NameIsBelow m c
name-more n m kept.Root h k = tt
name-more n m (kept.Element id decls) h k = omega (arith, k)
name-more n m (kept.Attribute id value) h k = omega (arith, k)
name-more n m (kept.Text value) h k = tt
name-more n m (kept.Comment value) h k = tt
name-more n m (kept.Pi id value) h k = omega (arith, k)

pub names-more : (n m : ℕ) (nodes : List (Option Node)) → n ≤ m → NamesAreBelow n nodes → NamesAreBelow m nodes
names-more n m [] h k = tt
names-more n m (None ∷ nodes) h k = names-more n m nodes h k
names-more n m (Some node ∷ nodes) h k = (name-more n m node.content h k.0, names-more n m nodes h k.1)

numbered-longer : (before after : List Name) (name : Name) (number : ℕ) → Numbered before after name number → length before ≤ length after
numbered-longer before after name number n =
    ⊎_elim (λ (e : after ≡ before). omega (arith, ap length e))
    (λ (e : (after ≡ before ++ name ∷ []) × (number ≡ length before)). omega (arith, ap length e.0, length-append before (name ∷ []))) n.added

-- a sound tree stays so with a name more
pub sound-named : (nodes : List (Option Node)) (before after : List Name) (name : Name) (number live bytes : ℕ) → Numbered before after name number → Sound nodes before live bytes → Sound nodes after live bytes
sound-named nodes before after name number live bytes n s =
    let same : table_seen after nodes ≡ table_seen before nodes = table-kept before after nodes (λ id h. numbered-kept before after name number id n h) s.known in
    record {
      formed = rw same s.formed;
      known = names-more (length before) (length after) nodes (numbered-longer before after name number n) s.known;
      depths = rw same s.depths;
      ranks = rw same s.ranks;
      live_is = rw same s.live_is;
      bytes_is = rw same s.bytes_is;
    }

-- the name of a kept node is known
pub name-below : (count : ℕ) (nodes : List (Option Node)) (n : ℕ) (node : Node) → NamesAreBelow count nodes → get_or nodes n None ≡ Some node → NameIsBelow count node.content
name-below count [] n node h e = absurd (cc)
name-below count (None ∷ nodes) zero node h e = absurd (cc)
name-below count (Some first ∷ nodes) zero node h e = let same : first ≡ node = (cc) in subst (λ x. NameIsBelow count x.content) same h.0
name-below count (None ∷ nodes) (suc n) node h e = name-below count nodes n node h e
name-below count (Some first ∷ nodes) (suc n) node h e = name-below count nodes n node h.1 e

-- one node more
node-linked : (names : List Name) (l : Label) (characters : List ℕ) (number : ℕ) (o : Option Node) →
    node_seen names (kept_link number (label_is_attribute l) o) ≡ with_link (content_labelled names l characters) number (node_seen names o)
node-linked names l characters number None = refl
node-linked names (label.Element id) characters number (Some node) = rw (append-nil node.attributes) refl
node-linked names (label.Attribute id) characters number (Some node) = rw (append-nil node.kids) refl
node-linked names label.Text characters number (Some node) = rw (append-nil node.attributes) refl
node-linked names label.Comment characters number (Some node) = rw (append-nil node.attributes) refl
node-linked names (label.Pi id) characters number (Some node) = rw (append-nil node.attributes) refl

content-new : (names : List Name) (l : Label) (characters : List ℕ) → content_seen names (kept_labelled l characters) ≡ content_labelled names l characters
content-new names (label.Element id) characters = refl
content-new names (label.Attribute id) characters = refl
content-new names label.Text characters = refl
content-new names label.Comment characters = refl
content-new names (label.Pi id) characters = refl

name-new : (count : ℕ) (l : Label) (characters : List ℕ) → LabelIsBelow count l → NameIsBelow count (kept_labelled l characters)
name-new count (label.Element id) characters h = h
name-new count (label.Attribute id) characters h = h
name-new count label.Text characters h = tt
name-new count label.Comment characters h = tt
name-new count (label.Pi id) characters h = h

pub names-set : (count : ℕ) (nodes : List (Option Node)) (p n : ℕ) (b : Bool) → NamesAreBelow count nodes → NamesAreBelow count (set nodes p (kept_link n b (get_or nodes p None)))
names-set count [] p n b k = tt
names-set count (None ∷ nodes) zero n b k = k
names-set count (Some node ∷ nodes) zero n true k = k
names-set count (Some node ∷ nodes) zero n false k = k
names-set count (None ∷ nodes) (suc p) n b k = names-set count nodes p n b k
names-set count (Some node ∷ nodes) (suc p) n b k = (k.0, names-set count nodes p n b k.1)

pub names-push : (count : ℕ) (nodes : List (Option Node)) (node : Node) → NamesAreBelow count nodes → NameIsBelow count node.content → NamesAreBelow count (nodes ++ Some node ∷ [])
names-push count [] node k h = (h, tt)
names-push count (None ∷ nodes) node k h = names-push count nodes node k h
names-push count (Some first ∷ nodes) node k h = (k.0, names-push count nodes node k.1 h)

pub depth-linked : (n : ℕ) (b : Bool) (o : Option Node) → depth_at (kept_link n b o) ≡ depth_at o
depth-linked n b None = refl
depth-linked n true (Some node) = refl
depth-linked n false (Some node) = refl

pub rank-linked : (n : ℕ) (b : Bool) (o : Option Node) → rank_at (kept_link n b o) ≡ rank_at o
rank-linked n b None = refl
rank-linked n true (Some node) = refl
rank-linked n false (Some node) = refl

-- a number that is kept with each node stays where the node put in place of one has the same
pub number-set : (f : Option Node → ℕ) (nodes : List (Option Node)) (p m : ℕ) (v : Option Node) → f v ≡ f (get_or nodes p None) → f (get_or (set nodes p v) m None) ≡ f (get_or nodes m None)
number-set f [] p m v same = refl
number-set f (first ∷ nodes) zero zero v same = same
number-set f (first ∷ nodes) zero (suc m) v same = refl
number-set f (first ∷ nodes) (suc p) zero v same = refl
number-set f (first ∷ nodes) (suc p) (suc m) v same = number-set f nodes p m v same

-- so ranks stay too
pub ranks-same : (nodes : List (Option Node)) (p : ℕ) (v : Option Node) (ns : List ℕ) (low high : ℕ) → rank_at v ≡ rank_at (get_or nodes p None) → Rise low (ranks_of nodes ns) high →
    Rise low (ranks_of (set nodes p v) ns) high
ranks-same nodes p v ns low high same = subst (λ ranks. Rise low ranks high) (map-agree _ _ ns (λ m h. sym (number-set rank_at nodes p m v same)))

module _ (names : List Name) (nodes : List (Option Node)) (p depth rank : ℕ) (l : Label) (characters : List ℕ) where
  pub table-grown : table_seen names (grown_nodes nodes p depth rank l characters) ≡ with_node (table_seen names nodes) p (content_labelled names l characters)
  table-grown =
      map-append (node_seen names) (set nodes p (kept_link (length nodes) (label_is_attribute l) (get_or nodes p None))) _
      ∙ ap₂ (λ l r. l ++ r)
      (map-set (node_seen names) nodes p (kept_link (length nodes) (label_is_attribute l) (get_or nodes p None))
      ∙ ap (set (table_seen names nodes) p)
      (node-linked names l characters (length nodes) (get_or nodes p None)
      ∙ ap₂ (with_link (content_labelled names l characters)) (sym (seen-length names nodes)) (sym (seen-entry names nodes p))))
      (ap (λ c. Some (leaf p c) ∷ []) (content-new names l characters))

  pub kept-new : (m : ℕ) → m ≡ length (table_seen names nodes) → get_or (grown_nodes nodes p depth rank l characters) m None ≡ Some (new_node p depth rank l characters)
  kept-new m e =
      get-last (set nodes p (kept_link (length nodes) (label_is_attribute l) (get_or nodes p None))) _ None m (e ∙ (seen-length names nodes ∙ sym (length-set nodes p _)))

  pub length-grown_nodes : length (grown_nodes nodes p depth rank l characters) ≡ length nodes + 1
  length-grown_nodes =
      length-append (set nodes p (kept_link (length nodes) (label_is_attribute l) (get_or nodes p None))) _
      ∙ ap (λ k. k + 1) (length-set nodes p (kept_link (length nodes) (label_is_attribute l) (get_or nodes p None)))

  -- a number that is kept with each of the others stays where a link leaves it
  pub kept-others : (f : Option Node → ℕ) → ((o : Option Node) → f (kept_link (length nodes) (label_is_attribute l) o) ≡ f o) → (m : ℕ) → m ≢ length (table_seen names nodes) →
      f (get_or (grown_nodes nodes p depth rank l characters) m None) ≡ f (get_or nodes m None)
  kept-others f same m ne =
      ap f (get-front (set nodes p (kept_link (length nodes) (label_is_attribute l) (get_or nodes p None))) _ None m
      (λ e. ne (e ∙ (length-set nodes p _ ∙ sym (seen-length names nodes)))))
      ∙ number-set f nodes p m _ (same (get_or nodes p None))

  -- a sound tree stays so where the node is last in document order and has a rank behind all others, and has grown
  sound-grown : (live bytes : ℕ) → Sound nodes names live bytes → holds_kids (kind_of (table_seen names nodes) p) ≡ true
      → FitsUnder (table_seen names nodes) p (content_labelled names l characters) → LabelIsBelow (length names) l → is_open (table_seen names nodes) p ≡ true
      → AllLive (table_seen names nodes) → passed_limit (table_seen names nodes) p (content_labelled names l characters) ≡ None
      → depth ≡ length (above (table_seen names nodes) p) → rank ≡ RANK_STEP * length (table_seen names nodes) → value_in (content_labelled names l characters) ≡ characters
      → Sound (grown_nodes nodes p depth rank l characters) names (live + 1) (bytes + length characters)
      × Grew (table_seen names nodes) (table_seen names (grown_nodes nodes p depth rank l characters)) p (length nodes) (content_labelled names l characters)
  sound-grown live bytes s holder fits known open_p all none depth_is rank_is plain =
      let T : Table = table_seen names nodes in
      let c : Content = content_labelled names l characters in
      let r = appended T p c s.formed holder fits open_p all none in
      let g : Grew T (with_node T p c) p (length T) c = r.grew in
      let alive_p : is_live T p ≡ true = holder-live T p holder in
      let depths : (m : ℕ) → is_live (with_node T p c) m ≡ true → depth_at (get_or (grown_nodes nodes p depth rank l characters) m None) ≡ length (ancestors (with_node T p c) m) =
      λ m h. ⊎_elim
      (λ (e : m ≡ length T).
      ap depth_at (kept-new m e)
      ∙ (depth_is ∙ omega (arith, ap length g.way_up, ap (λ k. length (ancestors (with_node T p c) k)) e)))
      (λ (ne : m ≢ length T).
      let old : is_live T m ≡ true = sym (live-kept T p c alive_p m ne) ∙ h in
      kept-others depth_at (depth-linked (length nodes) (label_is_attribute l)) m ne ∙ omega (arith, s.depths m old, ap length (g.same_ways_up m old)))
      (eq_or m (length T)) in
      let before : Rise 0 (ranks_of (grown_nodes nodes p depth rank l characters) (order T)) rank =
      subst (λ ranks. Rise 0 ranks rank)
      (map-agree _ _ (order T) (λ m h. sym (kept-others rank_at (rank-linked (length nodes) (label_is_attribute l)) m
      (old-number T p c alive_p m ((ordered T s.formed).live_in_order m ∙ In-mem m (order T) h)))))
      (rise-within _ 0 _ _ _ s.ranks (omega arith) (omega (arith, rank_is, seen-length names nodes))) in
      let last : Rise rank (ranks_of (grown_nodes nodes p depth rank l characters) (length T ∷ [])) (RANK_STEP * (length nodes + 1)) =
      (omega (arith, ap rank_at (kept-new (length T) refl)), omega (arith, ap rank_at (kept-new (length T) refl), rank_is, seen-length names nodes)) in
      let ranks : Rise 0 (ranks_of (grown_nodes nodes p depth rank l characters) (order (with_node T p c))) (RANK_STEP * length (grown_nodes nodes p depth rank l characters)) =
      rw (g.last_in_order, length-grown_nodes) (ranks-append (grown_nodes nodes p depth rank l characters) (order T) (length T ∷ []) 0 rank (RANK_STEP * (length nodes + 1)) before last) in (
        record {
          formed = rw table-grown r.formed;
          known = names-push (length names) (set nodes p (kept_link (length nodes) (label_is_attribute l) (get_or nodes p None))) _
              (names-set (length names) nodes p (length nodes) (label_is_attribute l) s.known) (name-new (length names) l characters known);
          depths = rw table-grown depths;
          ranks = rw table-grown ranks;
          live_is = rw table-grown (omega (arith, s.live_is, r.counted));
          bytes_is = rw table-grown (omega (arith, s.bytes_is, r.held, ap length plain));
        },
        rw (table-grown, ← seen-length names nodes) g,
      )

-- names that the outcome of a numbering leaves
pub named : {E : Type 0} (old : Parts) (nodes : List (Option Node)) (before after : List Name) (name : Name) (live bytes cap : ℕ) (r : Result ℕ E) →
    record { nodes = nodes; names = before; live = live; text_bytes = bytes; pair_cap = cap } ≡ old →
    IfOk r (λ number. Numbered before after name number) → OnErr r (after ≡ before) → IsSound old →
    Sound nodes after live bytes × (table_seen after nodes ≡ table_of old)
named old nodes before after name live bytes cap (Ok number) view ok err =
    subst (λ old. IsSound old → Sound nodes after live bytes × (table_seen after nodes ≡ table_of old)) view
    (λ s. (sound-named nodes before after name number live bytes ok s, table-kept before after nodes (λ id h. numbered-kept before after name number id ok h) s.known))
named old nodes before after name live bytes cap (Err e) view ok err =
    subst (λ old. IsSound old → Sound nodes after live bytes × (table_seen after nodes ≡ table_of old)) view
    (λ s. (rw err s, ap (λ names. table_seen names nodes) err))

-- the same, of all parts
pub grown-sound : (old : Parts) (p depth rank : ℕ) (l : Label) (characters : List ℕ) → IsSound old → holds_kids (kind_of (table_of old) p) ≡ true
    → FitsUnder (table_of old) p (content_labelled old.names l characters) → LabelIsBelow (length old.names) l → is_open (table_of old) p ≡ true → AllLive (table_of old)
    → passed_limit (table_of old) p (content_labelled old.names l characters) ≡ None → depth ≡ length (above (table_of old) p) → rank ≡ RANK_STEP * length (table_of old)
    → value_in (content_labelled old.names l characters) ≡ characters
    → IsSound (grown old p depth rank l characters)
    × Grew (table_of old) (table_of (grown old p depth rank l characters)) p (length old.nodes) (content_labelled old.names l characters)
grown-sound old p depth rank l characters s = sound-grown old.names old.nodes p depth rank l characters old.live old.text_bytes s
