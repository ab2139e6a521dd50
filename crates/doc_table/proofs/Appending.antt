-- A tree's table with one node more at its end is a tree's table again, and is what growing means.
use Rattle.std.proofs.Common.{◌≡◌, ◌≢◌, ℕ, ◌+◌, ◌<◌, ◌≤◌, suc, Bool, true, false, List, [], ◌∷◌, ◌++◌, ◌⊎◌, length, set, Option, None, Some, is_some, refl, sym, ap, ap₂, ◌∙◌, subst, ⊎_elim, true≢false, arith, append-nil, sum_by, ltb-false}
use Rattle.std.specs.Prelude.{if◌then◌else◌}
use Rattle.std.specs.List.{flat_map}
use Rattle.std.proofs.lemmas.List.Sums.{sum_by-append, sum_by-cons}
use Rattle.doc_table.specs.declared.new_node.AppendError.TheVariants.{TooManyNodes, TooDeep, TooMuchText}
use Rattle.doc_table.specs.declared.limits.TheConstants.{MAX_LIVE_NODES, MAX_LIVE_TEXT_BYTES}
use Rattle.doc_table.specs.Lists.{mem, last_or}
use Rattle.doc_table.specs.Table.{Table, Facts, Content, root, element, attribute, text, comment, instruction, entry_at, parent_at, kids_at, attrs_at, content_at, value_at, parent_of, attrs_of, kind_of, value_of, is_live, value_in, AllLive, kind_at}
use Rattle.doc_table.specs.Walks.{ancestors, above, order, is_open, last_node, text_bytes}
use Rattle.doc_table.specs.Lines.{Line, lines, closing, opens, closes, first_lines, last_lines, lines_at}
use Rattle.doc_table.specs.Growth.{with_node, with_link, leaf, as_attribute, FitsUnder, is_too_deep, has_too_many, has_too_much_text, passed_limit, Grew}
use Rattle.doc_table.specs.Kinds.{holds_kids}
use Rattle.doc_table.specs.inner.Forest.{bare, flat, Whole}
use Rattle.doc_table.specs.inner.Sound.{Fits, Formed, count_live, text_in, text_held}
use Rattle.std.proofs.lemmas.Bool.{leb-false}
use Rattle.doc_table.proofs.ListLemmas.{In, In-mem, occurs-head, flat_map-same, eq_or, last-append, flat_map-nothing, sum_by-same}
use Rattle.doc_table.proofs.Paths.{Path, plug, owner, chain, Edge}
use Rattle.doc_table.proofs.Counts.{sum-set, sum-more, live-count, text-count}
use Rattle.doc_table.proofs.Telling.{order-flat}
use Rattle.doc_table.proofs.Places.{Hole, open_hole, above-owner}
use Rattle.doc_table.proofs.Ways.{In-live, above-live, climb-none}
use Rattle.doc_table.proofs.Growing.{KidGrown, AttributeGrown, entry-new, parent-kept, content-kept, live-kept, kids-parent, attributes-parent, links-kept, old-number, length-grown}
use Rattle.doc_table.proofs.Grown.{grown_place, grown_whole, grown_way, walk-grown, way-kept}
use Rattle.doc_table.proofs.Fitting.{fits-other, fits-parent, fits-new}

pub count-all : (T : Table) → AllLive T → count_live T ≡ length T
count-all [] all = refl
count-all (None ∷ T) all = absurd (true≢false (sym (all 0 (omega arith))))
count-all (Some node ∷ T) all = omega (arith, count-all T (λ n h. all (suc n) (omega (arith, h))))

-- where no limit is passed, none of the three is
record Within (T : Table) (p : ℕ) (c : Content) : Type 0 where
  few : has_too_many T ≡ false
  shallow : is_too_deep T p c ≡ false
  little : has_too_much_text T c ≡ false

within : (T : Table) (p : ℕ) (c : Content) → passed_limit T p c ≡ None → Within T p c
within T p c h = by (has_too_many T) (is_too_deep T p c) (has_too_much_text T c) refl refl refl h
  where
    by : (a b d : Bool) → has_too_many T ≡ a → is_too_deep T p c ≡ b → has_too_much_text T c ≡ d
        → (if a then Some TooManyNodes else if b then Some TooDeep else if d then Some TooMuchText else None) ≡ None → Within T p c
    by true b d ea eb ed h = absurd (cc)
    by false true d ea eb ed h = absurd (cc)
    by false false true ea eb ed h = absurd (cc)
    by false false false ea eb ed h = record { few = ea; shallow = eb; little = ed }

quiet-end : (T : Table) (c : Content) (n : ℕ) → as_attribute c n ≡ n ∷ [] → last_lines c ≡ []
quiet-end T root n h = refl
quiet-end T (element _ _) n h = absurd (cc)
quiet-end T (attribute _ _) n h = refl
quiet-end T (text _) n h = refl
quiet-end T (comment _) n h = refl
quiet-end T (instruction _ _) n h = refl

-- a node that holds kids is no attribute
holder-apart : (T : Table) → ((m : ℕ) → Fits T m) → (p q : ℕ) → holds_kids (kind_of T p) ≡ true → In p (attrs_of T q) → ⊥
holder-apart T F p q h k = true≢false (sym h ∙ ap holds_kids ((F q).attribute_kind p (In-mem p (attrs_of T q) k)))

pub holder-live : (T : Table) (p : ℕ) → holds_kids (kind_of T p) ≡ true → is_live T p ≡ true
holder-live T p h = by (entry_at T p) refl
  where
    by : (o : Option Facts) → entry_at T p ≡ o → is_live T p ≡ true
    by None e = absurd (true≢false (sym h ∙ ap (λ x. holds_kids (kind_at (content_at x))) e))
    by (Some node) e = ap is_some e

dead-parent : (T : Table) (m : ℕ) → is_live T m ≡ false → parent_of T m ≡ None
dead-parent T m h = by (entry_at T m) h
  where
    by : (o : Option Facts) → is_some o ≡ false → parent_at o ≡ None
    by None e = refl
    by (Some node) e = absurd (true≢false e)

module _ (T : Table) (C : Path) (c : Content) (formed : Formed T) (w : Whole T (plug C bare)) (edge : Edge C)
    (holder : holds_kids (kind_of T (owner C)) ≡ true) (fits : FitsUnder T (owner C) c) (all : AllLive T) (none : passed_limit T (owner C) c ≡ None) where
  live : is_live T (owner C) ≡ true
  live = holder-live T (owner C) holder

  place : KidGrown T C c ⊎ AttributeGrown T C c
  place = grown_place T C c w edge formed.root_kind fits

  up : above T (owner C) ≡ chain C
  up = above-owner T C bare w

  limits : Within T (owner C) c
  limits = within T (owner C) c none

  order-grown : order (with_node T (owner C) c) ≡ order T ++ length T ∷ []
  order-grown =
      walk-grown T C c (λ m. m ∷ []) (λ _. []) (λ m. m ∷ []) (λ _. []) edge w (λ _. refl) place (λ m ne. refl) (λ m ne. refl) (order T)
      (sym (ap (λ l. order T ++ l) (flat_map-nothing (chain C)) ∙ append-nil (order T)))
      ∙ (ap (λ l. (order T ++ length T ∷ []) ++ l) (flat_map-nothing (chain C)) ∙ append-nil (order T ++ length T ∷ []))

  way-up : above (with_node T (owner C) c) (length T) ≡ length T ∷ above T (owner C)
  way-up = ap (λ l. length T ∷ l) (grown_way T C c place ∙ sym up)

  ways-kept : (m : ℕ) → is_live T m ≡ true → above (with_node T (owner C) c) m ≡ above T m
  ways-kept m alive = ap (λ l. m ∷ l) (way-kept T (owner C) c (plug C bare) live w m alive)

  newest : entry_at (with_node T (owner C) c) (length T) ≡ Some (leaf (owner C) c)
  newest = entry-new T (owner C) c live

  open-grown : (m : ℕ) → mem m (length T ∷ above T (owner C)) ≡ true → is_open (with_node T (owner C) c) m ≡ true
  open-grown m h =
      let last : last_node (with_node T (owner C) c) ≡ length T = ap (last_or 0) order-grown ∙ last-append 0 (length T) (order T) [] in
      ap (λ n. mem m (above (with_node T (owner C) c) n)) last ∙ (ap (mem m) way-up ∙ h)

  closes-same : (m : ℕ) → m ≢ length T → closes T m ≡ closes (with_node T (owner C) c) m
  closes-same m ne = sym (ap (lines_at last_lines) (content-kept T (owner C) c live m ne))

  opens-same : (m : ℕ) → m ≢ length T → opens T m ≡ opens (with_node T (owner C) c) m
  opens-same m ne = sym (ap (lines_at first_lines) (content-kept T (owner C) c live m ne))

  opens-new : opens (with_node T (owner C) c) (length T) ≡ first_lines c
  opens-new = ap (λ e. lines_at first_lines (content_at e)) newest

  closes-new : closes (with_node T (owner C) c) (length T) ≡ last_lines c
  closes-new = ap (λ e. lines_at last_lines (content_at e)) newest

  new-closing : closing (with_node T (owner C) c) (length T) ≡ closes (with_node T (owner C) c) (length T) ++ flat_map (closes (with_node T (owner C) c)) (chain C)
  new-closing = ap (flat_map (closes (with_node T (owner C) c))) (ap (λ l. length T ∷ l) (grown_way T C c place))

  kept-closing : (m : ℕ) → is_live T m ≡ true → closing (with_node T (owner C) c) m ≡ closing T m
  kept-closing m alive =
      ap (flat_map (closes (with_node T (owner C) c))) (ways-kept m alive)
      ∙ flat_map-same (closes (with_node T (owner C) c)) (closes T) (above T m)
      (λ k h. sym (closes-same k (old-number T (owner C) c live k (above-live T (plug C bare) w m k alive h))))

  closing-grown : closing (with_node T (owner C) c) (length T) ≡ last_lines c ++ closing T (owner C)
  closing-grown =
      ap (flat_map (closes (with_node T (owner C) c))) way-up
      ∙ ap₂ (λ l r. l ++ r) closes-new
      (flat_map-same (closes (with_node T (owner C) c)) (closes T) (above T (owner C))
      (λ k h. sym (closes-same k (old-number T (owner C) c live k (above-live T (plug C bare) w (owner C) k live h)))))

  lines-grown : (before : List Line) → lines T ≡ before ++ closing T (owner C) → lines (with_node T (owner C) c) ≡ (before ++ first_lines c) ++ closing (with_node T (owner C) c) (length T)
  lines-grown before read =
      walk-grown T C c (opens T) (closes T) (opens (with_node T (owner C) c)) (closes (with_node T (owner C) c)) edge w
      (λ h. closes-new ∙ quiet-end T c (length T) h) place opens-same closes-same before
      (read ∙ ap (λ l. before ++ flat_map (closes T) l) up)
      ∙ ap₂ (λ l r. (before ++ l) ++ r) opens-new (sym new-closing)

  text-grown : text_bytes (with_node T (owner C) c) ≡ text_bytes T + length (value_in c)
  text-grown =
      ap (sum_by (λ m. length (value_of (with_node T (owner C) c) m))) order-grown
      ∙ (sum_by-append (λ m. length (value_of (with_node T (owner C) c) m)) (order T) (length T ∷ [])
      ∙ ap₂ (λ a b. a + b)
      (sum_by-same (λ m. length (value_of (with_node T (owner C) c) m)) (λ m. length (value_of T m)) (order T)
      (λ m h. ap (λ o. length (value_at o)) (content-kept T (owner C) c live m
      (old-number T (owner C) c live m (In-live T (plug C bare) w m (subst (In m) (order-flat T (plug C bare) w) h))))))
      (sum_by-cons (λ m. length (value_of (with_node T (owner C) c) m)) (length T) []
      ∙ ap (λ e. length (value_at (content_at e)) + 0) newest ∙ omega arith))

  counted-grown : count_live (with_node T (owner C) c) ≡ count_live T + 1
  counted-grown =
      sum-more (λ _. 1) (set T (owner C) (with_link c (length T) (entry_at T (owner C)))) (leaf (owner C) c)
      ∙ ap (λ k. k + 1) (sum-set (λ _. 1) T (owner C) (with_link c (length T)) refl (λ node. refl))

  held-grown : text_held (with_node T (owner C) c) ≡ text_held T + length (value_in c)
  held-grown =
      sum-more text_in (set T (owner C) (with_link c (length T) (entry_at T (owner C)))) (leaf (owner C) c)
      ∙ ap (λ k. k + length (value_in c)) (sum-set text_in T (owner C) (with_link c (length T)) refl (λ node. refl))

  fits-grown : (m : ℕ) → Fits (with_node T (owner C) c) m
  fits-grown m =
      ⊎_elim
      (λ (e : m ≡ length T). subst (Fits (with_node T (owner C) c)) (sym e)
      (fits-new T (owner C) c live fits holder formed.fits limits.shallow (ap length (grown_way T C c place ∙ sym up))))
      (λ (ne : m ≢ length T). ⊎_elim
      (λ (e : m ≡ owner C). subst (Fits (with_node T (owner C) c)) (sym e)
      (fits-parent T (owner C) c live fits holder formed.fits (ap length (way-kept T (owner C) c (plug C bare) live w (owner C) live))))
      (λ (np : m ≢ owner C). fits-other T (owner C) c live fits holder formed.fits m ne np (ap length (any-way m ne)))
      (eq_or m (owner C)))
      (eq_or m (length T))
    where
      any-way : (m : ℕ) → m ≢ length T → ancestors (with_node T (owner C) c) m ≡ ancestors T m
      any-way m ne = by (is_live T m) refl
        where
          by : (b : Bool) → is_live T m ≡ b → ancestors (with_node T (owner C) c) m ≡ ancestors T m
          by true e = way-kept T (owner C) c (plug C bare) live w m e
          by false e = climb-none (with_node T (owner C) c) (length (with_node T (owner C) c)) _ (parent-kept T (owner C) c live m ne ∙ dead-parent T m e) ∙ sym (climb-none T (length T) _ (dead-parent T m e))

  few-before : length (order T) < MAX_LIVE_NODES
  few-before = leb-false MAX_LIVE_NODES (length (order T)) limits.few

  few-numbers : length T < MAX_LIVE_NODES
  few-numbers = omega (arith, count-all T all, live-count T (plug C bare) w, few-before)

  pub formed-grown : Formed (with_node T (owner C) c)
  formed-grown =
      let forest = grown_whole T C c place in
      let text : text_bytes T + length (value_in c) ≤ MAX_LIVE_TEXT_BYTES = ltb-false MAX_LIVE_TEXT_BYTES (text_bytes T + length (value_in c)) limits.little in
      record {
        forest = forest.0;
        whole = forest.1;
        root_kind = ap kind_at (content-kept T (owner C) c live 0 (old-number T (owner C) c live 0 (In-live T (plug C bare) w 0 (occurs-head 0 (flat (plug C bare)))))) ∙ formed.root_kind;
        fits = fits-grown;
        few_nodes = omega (arith, counted-grown, live-count T (plug C bare) w, few-before);
        few_numbers = omega (arith, length-grown T (owner C) c live, few-numbers);
        little_text = omega (arith, held-grown, text-count T (plug C bare) w, text);
      }

  pub grew : Grew T (with_node T (owner C) c) (owner C) (length T) c
  grew = record {
    number = refl;
    table = refl;
    all_live = λ m h. ⊎_elim (λ (e : m ≡ length T). ap (is_live (with_node T (owner C) c)) e ∙ ap is_some newest)
        (λ (ne : m ≢ length T). live-kept T (owner C) c live m ne ∙ all m (omega (arith, ne, length-grown T (owner C) c live))) (eq_or m (length T));
    last_in_order = order-grown;
    parent = ap parent_at newest;
    content = ap content_at newest;
    no_kids = ap kids_at newest;
    no_attributes = ap attrs_at newest;
    parent_kids = kids-parent T (owner C) c live;
    parent_attributes = attributes-parent T (owner C) c live;
    same_parent = parent-kept T (owner C) c live;
    same_content = content-kept T (owner C) c live;
    same_kids = λ m ne np. (links-kept T (owner C) c live m ne np).kids;
    same_attributes = λ m ne np. (links-kept T (owner C) c live m ne np).attributes;
    way_up = way-up;
    same_ways_up = ways-kept;
    stays_open = open-grown;
    more_text = text-grown;
    read_on = lines-grown;
    new_closing = closing-grown;
    same_closing = kept-closing;
  }

-- what appending a node to a tree's table makes of it
pub record Appended (T : Table) (p : ℕ) (c : Content) : Type 0 where
  pub formed : Formed (with_node T p c)
  pub grew : Grew T (with_node T p c) p (length T) c
  pub counted : count_live (with_node T p c) ≡ count_live T + 1
  pub held : text_held (with_node T p c) ≡ text_held T + length (value_in c)

pub appended : (T : Table) (p : ℕ) (c : Content) → Formed T → holds_kids (kind_of T p) ≡ true → FitsUnder T p c → is_open T p ≡ true → AllLive T → passed_limit T p c ≡ None → Appended T p c
appended T p c formed holder fits open_p all none =
    let hole : Hole formed.forest p = open_hole T formed.forest p formed.whole open_p (λ q k. holder-apart T formed.fits p q holder k) in
    subst (λ q. holds_kids (kind_of T q) ≡ true → FitsUnder T q c → passed_limit T q c ≡ None → Appended T q c) hole.owns
    (λ h f n. let w : Whole T (plug hole.path bare) = subst (Whole T) (sym hole.fills) formed.whole in record {
      formed = formed-grown T hole.path c formed w hole.edge h f all n;
      grew = grew T hole.path c formed w hole.edge h f all n;
      counted = counted-grown T hole.path c formed w hole.edge h f all n;
      held = held-grown T hole.path c formed w hole.edge h f all n;
    })
    holder fits none
