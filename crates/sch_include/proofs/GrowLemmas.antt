-- A tree grows: what was there stays, and more is told.
use Rattle.std.proofs.Common.{◌≡◌, ◌≢◌, ℕ, ◌+◌, ◌≤◌, true, false, List, [], ◌∷◌, ◌++◌, length, Option, None, Some, is_some, refl, sym, ap, ap₂, ◌∙◌, true≢false, arith, append_assoc, append-nil, length-append}
use Rattle.std.proofs.lemmas.List.{get_or_past}
use Rattle.doc_tree.specs.Declaring.{Declared, DeclaredLast}
use Rattle.doc_tree.specs.Growth.{Grew, as_kid}
use Rattle.doc_tree.specs.InOrder.{IsInOrder}
use Rattle.doc_tree.specs.Laws.{HasWaysUp}
use Rattle.doc_tree.specs.Lines.{Line, closing, declares, first_lines, has_attribute, last_lines}
use Rattle.doc_tree.specs.Lists.{upto}
use Rattle.doc_tree.specs.Scope.{Decl}
use Rattle.doc_tree.specs.Table.{Content, Facts, Name, Table, attribute, attrs_of, content_at, element, entry_at, is_live, kids_of, parent_of, value_in}
use Rattle.doc_tree.specs.Walks.{above, ancestors, order}
use Rattle.name_scopes.proofs.NumberLemmas.{content-live, is-old, mem-first, mem-second}
use Rattle.name_scopes.proofs.OpenElements.{grown-length}
use Rattle.sch_include.specs.inner.Growing.{Adds, Keeps, Starts}

no-node : (T : Table) (n : ℕ) → length T ≤ n → is_live T n ≡ false
no-node T n h = ap (λ (node : Option Facts). is_some node) (get_or_past T n None h)

live-content : (a b : Option Facts) → content_at a ≡ content_at b → is_some b ≡ true → is_some a ≡ true
live-content (Some x) b e h = refl
live-content None (Some y) e h = absurd (cc)
live-content None None e h = h

-- what lives is none of what does not
pub live-apart : (G : Table) (k m : ℕ) → is_live G k ≡ false → is_live G m ≡ true → m ≢ k
live-apart G k m dead live e = true≢false (sym live ∙ (ap (is_live G) e ∙ dead))

module _ (T U : Table) (p n : ℕ) (c : Content) (grew : Grew T U p n c) where
  grown-keeps : (m : ℕ) → is_live T m ≡ true → Keeps T U m
  grown-keeps m live =
      let other : m ≢ n = is-old T m n live grew.number in
      record {
        lives = live-content (entry_at U m) (entry_at T m) (grew.same_content m other) live;
        content = grew.same_content m other;
        parent = grew.same_parent m other;
        above = grew.same_ways_up m live;
        closing = grew.same_closing m live;
      }

  grown-numbers : IsInOrder T → IsInOrder U
  grown-numbers was =
      grew.last_in_order ∙ (ap₂ (λ (l : List ℕ) k. l ++ k ∷ []) was grew.number ∙ sym (ap upto (grown-length T U p n c grew)))

  pub grown-count : length (order U) ≡ length (order T) + 1
  grown-count = ap length grew.last_in_order ∙ length-append (order T) (n ∷ [])

  pub grown-new : is_live T n ≡ false
  grown-new = no-node T n (omega (arith, grew.number))

  pub grew-adds : Adds T U p n (first_lines c)
  grew-adds = record {
    all_live = grew.all_live;
    numbered = grown-numbers;
    stays_open = grew.stays_open n (mem-first n (above T p));
    read_on = grew.read_on;
    keeps = grown-keeps;
    same_kids = λ m live ne. grew.same_kids m (is-old T m n live grew.number) ne;
  }

  -- a node that opens nothing
  pub grew-within : is_live T p ≡ true → last_lines c ≡ [] → Adds T U p p (first_lines c)
  grew-within live leaf =
      let ends_are : closing U n ≡ closing U p =
      grew.new_closing ∙ (ap (λ (ls : List Line). ls ++ closing T p) leaf ∙ sym (grew.same_closing p live)) in
      record {
        all_live = grew.all_live;
        numbered = grown-numbers;
        stays_open = grew.stays_open p (mem-second p n (ancestors T p));
        read_on = λ before is. grew.read_on before is ∙ ap (λ (ls : List Line). (before ++ first_lines c) ++ ls) ends_are;
        keeps = grown-keeps;
        same_kids = λ m live ne. grew.same_kids m (is-old T m n live grew.number) ne;
      }

  -- a new kid
  pub starts-one : is_live T p ≡ true → as_kid c n ≡ n ∷ [] → Starts T U p n c (first_lines c) 1 (length (value_in c))
  starts-one live kid = record {
    adds = grew-adds;
    under = live;
    new = grown-new;
    kid = grew.parent_kids ∙ ap (λ (ms : List ℕ). kids_of T p ++ ms) kid;
    content_is = grew.content;
    parent = grew.parent;
    above = grew.way_up;
    closing = grew.new_closing;
    no_kid = grew.no_kids;
    counted = grown-count;
    bytes = grew.more_text;
  }

-- one growth after another
pub adds-then : (G U V : Table) (p q r : ℕ) (a b : List Line) → Adds G U p q a → Adds U V q r b → ((m : ℕ) → is_live G m ≡ true → m ≢ p → m ≢ q) → Adds G V p r (a ++ b)
adds-then G U V p q r a b first second apart = record {
  all_live = second.all_live;
  numbered = λ was. second.numbered (first.numbered was);
  stays_open = second.stays_open;
  read_on = λ before is. second.read_on (before ++ a) (first.read_on before is) ∙ ap (λ (ls : List Line). ls ++ closing V r) (append_assoc before a b);
  keeps = λ m live.
      let one : Keeps G U m = first.keeps m live in
      let two : Keeps U V m = second.keeps m one.lives in
      record {
        lives = two.lives;
        content = two.content ∙ one.content;
        parent = two.parent ∙ one.parent;
        above = two.above ∙ one.above;
        closing = two.closing ∙ one.closing;
      };
  same_kids = λ m live ne. second.same_kids m (first.keeps m live).lives (apart m live ne) ∙ first.same_kids m live ne;
}

-- the innermost open node is closed
pub adds-close : (G U : Table) (p q : ℕ) (a ends : List Line) → Adds G U p q a → closing U q ≡ ends ++ closing U p → parent_of U q ≡ Some p → HasWaysUp U → Adds G U p p (a ++ ends)
adds-close G U p q a ends first is under ways = record {
  all_live = first.all_live;
  numbered = first.numbered;
  stays_open = ways.open_upwards q p first.stays_open under;
  read_on = λ before was.
      first.read_on before was
      ∙ (ap (λ (ls : List Line). (before ++ a) ++ ls) is
      ∙ (sym (append_assoc (before ++ a) ends (closing U p)) ∙ ap (λ (ls : List Line). ls ++ closing U p) (append_assoc before a ends)));
  keeps = first.keeps;
  same_kids = first.same_kids;
}

module _ (G V W : Table) (p k : ℕ) (told : List Line) where
  -- an element that declares something more
  pub starts-declared : (name : Name) (ds : List Decl) (d : Decl) → Starts G V p k (element name ds) told 1 0 → attrs_of V k ≡ [] → Declared V W k d →
      Starts G W p k (element name (ds ++ d ∷ [])) (told ++ declares d ∷ []) 1 0
  starts-declared name ds d was no_attribute more =
      let at : DeclaredLast V W k d = more.while_last was.no_kid no_attribute in
      record {
        adds = record {
          all_live = more.all_live was.adds.all_live;
          numbered = λ h. more.same_order ∙ (was.adds.numbered h ∙ sym (ap upto more.same_length));
          stays_open = more.same_open k ∙ was.adds.stays_open;
          read_on = λ before is.
              at.read_on (before ++ told) was.adds.stays_open (was.adds.read_on before is) ∙ ap (λ (ls : List Line). ls ++ closing W k) (append_assoc before told (declares d ∷ []));
          keeps = λ m live.
              let one : Keeps G V m = was.adds.keeps m live in
              record {
                lives = more.same_live m ∙ one.lives;
                content = more.same_content m (live-apart G k m was.new live) ∙ one.content;
                parent = more.same_parent m ∙ one.parent;
                above = more.same_ways_up m ∙ one.above;
                closing = more.same_closing m ∙ one.closing;
              };
          same_kids = λ m live ne. more.same_kids m ∙ was.adds.same_kids m live ne;
        };
        under = was.under;
        new = was.new;
        kid = more.same_kids p ∙ was.kid;
        content_is = more.content name ds was.content_is;
        parent = more.same_parent k ∙ was.parent;
        above = more.same_ways_up k ∙ was.above;
        closing = more.same_closing k ∙ was.closing;
        no_kid = more.same_kids k ∙ was.no_kid;
        counted = ap length more.same_order ∙ was.counted;
        bytes = more.same_text ∙ was.bytes;
      }

  -- an attribute more
  pub starts-attribute : (content : Content) (nodes text a : ℕ) (name : Name) (value : List ℕ) → Starts G V p k content told nodes text → Grew V W k a (attribute name value) →
      Starts G W p k content (told ++ has_attribute name value ∷ []) (nodes + 1) (text + length value)
  starts-attribute content nodes text a name value was grew =
      let live : is_live V k ≡ true = content-live V k content was.content_is in
      let other : k ≢ a = is-old V k a live grew.number in
      let one : Adds V W k k (has_attribute name value ∷ []) = grew-within V W k a (attribute name value) grew live refl in
      let kept : Keeps V W k = one.keeps k live in
      record {
        adds = adds-then G V W p k k told (has_attribute name value ∷ []) was.adds one (λ m lives ne. live-apart G k m was.new lives);
        under = was.under;
        new = was.new;
        kid = one.same_kids p (was.adds.keeps p was.under).lives (live-apart G k p was.new was.under) ∙ was.kid;
        content_is = kept.content ∙ was.content_is;
        parent = kept.parent ∙ was.parent;
        above = kept.above ∙ was.above;
        closing = kept.closing ∙ was.closing;
        no_kid = grew.parent_kids ∙ (append-nil (kids_of V k) ∙ was.no_kid);
        counted = omega (arith, grown-count V W k a (attribute name value) grew, was.counted);
        bytes = omega (arith, grew.more_text, was.bytes);
      }
