-- A table with one declaration more: its entries, its forest, its walks and ways up, its lines and its scopes.
use Rattle.std.proofs.Common.{◌≡◌, ◌≢◌, ℕ, ◌+◌, ◌<◌, suc, zero, true, false, cond, sum_by, List, [], ◌∷◌, ◌++◌, length, set, Option, None, Some, is_some, refl, sym, ap, ap₂, ◌∙◌, subst, ⊎_elim, true≢false, arith, append-nil, append_assoc, length-set, get_or-set_same, get_or-set_other}
use Rattle.std.specs.List.{flat_map}
use Rattle.std.proofs.lemmas.List.{append_cancel_right, map-append}
use Rattle.doc_table.specs.declared.kind.Kind.TheVariants.{Root, Element, Attribute}
use Rattle.doc_table.specs.Lists.{mem, occurs, last_or}
use Rattle.doc_table.specs.Table.{Table, Facts, Name, Content, root, element, attribute, text, comment, instruction, entry_at, value_in, parent_at, kids_at, attrs_at, content_at, kind_at, name_at, value_at, decls_at, expanded_in, parent_of, kids_of, attrs_of, content_of, kind_of, name_of, decls_of, value_of, expanded_of, is_live}
use Rattle.doc_table.specs.Walks.{walk, walked, climb, ancestors, above, order, is_open, last_node, text_bytes}
use Rattle.doc_table.specs.Lines.{Line, starts, declares, first_lines, last_lines, lines_at, opens, closes, lines, closing}
use Rattle.doc_table.specs.Kinds.{holds_kids, can_be_kid}
use Rattle.doc_table.specs.inner.Forest.{Forest, bare, tree, flat, Whole, alive}
use Rattle.doc_table.specs.inner.Sound.{Fits, Formed, count_live, text_in, text_held}
use Rattle.doc_table.specs.Scope.{Decl, HasScopes}
use Rattle.doc_table.specs.Declaring.{declaring, declaring_at, with_decl, Declared, DeclaredLast}
use Rattle.doc_table.proofs.ListLemmas.{In, In-mem, mem-In, In-cons, occurs-append, occurs-head, flat_map-same, sum_by-same}
use Rattle.doc_table.proofs.Paths.{Path, top, under, beside, plug, owner, chain, lead, tail, elders, Edge, SameLinks, opened, frame-kids, flat-plug, shows-kept}
use Rattle.doc_table.proofs.Telling.{told_lead, told-same, walked-edge}
use Rattle.doc_table.proofs.Places.{Hole, open_hole, above-owner, alive-one}
use Rattle.doc_table.proofs.Ways.{live-below, above-live}
use Rattle.doc_table.proofs.Counts.{sum-set}
use Rattle.doc_table.proofs.Fitting.{texts-kept}
use Rattle.doc_table.proofs.TreeLaws.{well-formed, ways-up}
use Rattle.doc_table.proofs.Grown.{some-top}

module _ (T : Table) (n : ℕ) (d : Decl) where
  -- a word on entries that says the same with a declaration more says the same of all numbers
  pub entry-word : {A : Type 0} (f : Option Facts → A) → ((o : Option Facts) → f (declaring_at d o) ≡ f o) → (m : ℕ) → f (entry_at (with_decl T n d) m) ≡ f (entry_at T m)
  entry-word f stays m = by T n m
    where
      by : (T : Table) (n m : ℕ) → f (entry_at (set T n (declaring_at d (entry_at T n))) m) ≡ f (entry_at T m)
      by [] n m = refl
      by (e ∷ T) zero zero = stays e
      by (e ∷ T) zero (suc m) = refl
      by (e ∷ T) (suc n) zero = refl
      by (e ∷ T) (suc n) (suc m) = by T n m

  -- a word on contents likewise
  content-word : {A : Type 0} (g : Option Content → A) → ((c : Content) → g (Some (declaring d c)) ≡ g (Some c)) → (m : ℕ) → g (content_of (with_decl T n d) m) ≡ g (content_of T m)
  content-word g stays m = entry-word (λ o. g (content_at o)) by m
    where
      by : (o : Option Facts) → g (content_at (declaring_at d o)) ≡ g (content_at o)
      by None = refl
      by (Some node) = stays node.content

  pub same-live : (m : ℕ) → is_live (with_decl T n d) m ≡ is_live T m
  same-live m = entry-word is_some by m
    where
      by : (o : Option Facts) → is_some (declaring_at d o) ≡ is_some o
      by None = refl
      by (Some node) = refl

  pub same-parent : (m : ℕ) → parent_of (with_decl T n d) m ≡ parent_of T m
  same-parent m = entry-word parent_at by m
    where
      by : (o : Option Facts) → parent_at (declaring_at d o) ≡ parent_at o
      by None = refl
      by (Some node) = refl

  pub same-kids : (m : ℕ) → kids_of (with_decl T n d) m ≡ kids_of T m
  same-kids m = entry-word kids_at by m
    where
      by : (o : Option Facts) → kids_at (declaring_at d o) ≡ kids_at o
      by None = refl
      by (Some node) = refl

  pub same-attributes : (m : ℕ) → attrs_of (with_decl T n d) m ≡ attrs_of T m
  same-attributes m = entry-word attrs_at by m
    where
      by : (o : Option Facts) → attrs_at (declaring_at d o) ≡ attrs_at o
      by None = refl
      by (Some node) = refl

  pub same-kind : (m : ℕ) → kind_of (with_decl T n d) m ≡ kind_of T m
  same-kind m = content-word kind_at by m
    where
      by : (c : Content) → kind_at (Some (declaring d c)) ≡ kind_at (Some c)
      by root = refl
      by (element _ _) = refl
      by (attribute _ _) = refl
      by (text _) = refl
      by (comment _) = refl
      by (instruction _ _) = refl

  pub same-name : (m : ℕ) → name_of (with_decl T n d) m ≡ name_of T m
  same-name m = content-word name_at by m
    where
      by : (c : Content) → name_at (Some (declaring d c)) ≡ name_at (Some c)
      by root = refl
      by (element _ _) = refl
      by (attribute _ _) = refl
      by (text _) = refl
      by (comment _) = refl
      by (instruction _ _) = refl

  pub same-value : (m : ℕ) → value_of (with_decl T n d) m ≡ value_of T m
  same-value m = content-word value_at by m
    where
      by : (c : Content) → value_at (Some (declaring d c)) ≡ value_at (Some c)
      by root = refl
      by (element _ _) = refl
      by (attribute _ _) = refl
      by (text _) = refl
      by (comment _) = refl
      by (instruction _ _) = refl

  pub same-closes : (m : ℕ) → closes (with_decl T n d) m ≡ closes T m
  same-closes m = content-word (lines_at last_lines) by m
    where
      by : (c : Content) → lines_at last_lines (Some (declaring d c)) ≡ lines_at last_lines (Some c)
      by root = refl
      by (element _ _) = refl
      by (attribute _ _) = refl
      by (text _) = refl
      by (comment _) = refl
      by (instruction _ _) = refl

  same-expanded : (m : ℕ) → expanded_of (with_decl T n d) m ≡ expanded_of T m
  same-expanded m = ap expanded_in (same-name m)

  pub entry-others : (m : ℕ) → m ≢ n → entry_at (with_decl T n d) m ≡ entry_at T m
  entry-others m ne = get_or-set_other T n m (declaring_at d (entry_at T n)) None ne

  pub entry-declaring : is_live T n ≡ true → entry_at (with_decl T n d) n ≡ declaring_at d (entry_at T n)
  entry-declaring live = let h : n < length T = live-below T n live in get_or-set_same T n (declaring_at d (entry_at T n)) None h

  pub same-length : length (with_decl T n d) ≡ length T
  same-length = length-set T n (declaring_at d (entry_at T n))

  pub links-same : (m : ℕ) → SameLinks T (with_decl T n d) m
  links-same m = record { parent = same-parent m; attributes = same-attributes m; kids = same-kids m }

  pub same-count : count_live (with_decl T n d) ≡ count_live T
  same-count = sum-set (λ _. 1) T n (declaring_at d) refl (λ node. refl)

  pub same-held : text_held (with_decl T n d) ≡ text_held T
  same-held = sum-set text_in T n (declaring_at d) refl (λ node. ap (λ value. length value + 0) (by node.content))
    where
      by : (c : Content) → value_in (declaring d c) ≡ value_in c
      by root = refl
      by (element name decls) = refl
      by (attribute name value) = refl
      by (text characters) = refl
      by (comment characters) = refl
      by (instruction name characters) = refl

  -- walks that tell the same of each number
  pub walk-same : {A : Type 0} (tells closes others ends : ℕ → List A) → ((m : ℕ) → others m ≡ tells m) → ((m : ℕ) → ends m ≡ closes m) →
      (levels m : ℕ) → walk (with_decl T n d) others ends levels m ≡ walk T tells closes levels m
  walk-same tells closes others ends same close zero m = refl
  walk-same tells closes others ends same close (suc levels) m =
      ap₂ (λ l r. l ++ r)
      (ap (flat_map others) (ap (λ l. m ∷ l) (same-attributes m)) ∙ flat_map-same others tells (m ∷ attrs_of T m) (λ k h. same k))
      (ap₂ (λ l r. l ++ r)
      (ap (flat_map (λ kid. walk (with_decl T n d) others ends levels kid)) (same-kids m)
      ∙ flat_map-same (λ kid. walk (with_decl T n d) others ends levels kid) (λ kid. walk T tells closes levels kid) (kids_of T m)
      (λ k h. walk-same tells closes others ends same close levels k))
      (close m))

  pub walked-same : {A : Type 0} (tells closes others ends : ℕ → List A) → ((m : ℕ) → others m ≡ tells m) → ((m : ℕ) → ends m ≡ closes m) →
      (m : ℕ) → walked (with_decl T n d) others ends m ≡ walked T tells closes m
  walked-same tells closes others ends same close m =
      ap (λ levels. walk (with_decl T n d) others ends levels m) same-length ∙ walk-same tells closes others ends same close (length T) m

  pub same-order : order (with_decl T n d) ≡ order T
  same-order = walked-same (λ m. m ∷ []) (λ _. []) (λ m. m ∷ []) (λ _. []) (λ m. refl) (λ m. refl) 0

  same-climb : (steps : ℕ) (o : Option ℕ) → climb (with_decl T n d) steps o ≡ climb T steps o
  same-climb zero o = refl
  same-climb (suc steps) None = refl
  same-climb (suc steps) (Some q) = ap (λ l. q ∷ l) (ap (climb (with_decl T n d) steps) (same-parent q) ∙ same-climb steps (parent_of T q))

  pub same-ancestors : (m : ℕ) → ancestors (with_decl T n d) m ≡ ancestors T m
  same-ancestors m = ap₂ (climb (with_decl T n d)) same-length (same-parent m) ∙ same-climb (length T) (parent_of T m)

  pub same-above : (m : ℕ) → above (with_decl T n d) m ≡ above T m
  same-above m = ap (λ l. m ∷ l) (same-ancestors m)

  pub same-open : (m : ℕ) → is_open (with_decl T n d) m ≡ is_open T m
  same-open m = ap (mem m) (ap (λ l. above (with_decl T n d) (last_or 0 l)) same-order ∙ same-above (last_node T))

  pub same-text : text_bytes (with_decl T n d) ≡ text_bytes T
  same-text =
      ap (sum_by (λ m. length (value_of (with_decl T n d) m))) same-order
      ∙ sum_by-same (λ m. length (value_of (with_decl T n d) m)) (λ m. length (value_of T m)) (order T) (λ m h. ap length (same-value m))

  pub same-closing : (m : ℕ) → closing (with_decl T n d) m ≡ closing T m
  same-closing m =
      ap (flat_map (closes (with_decl T n d))) (same-above m)
      ∙ flat_map-same (closes (with_decl T n d)) (closes T) (above T m) (λ k h. same-closes k)

  pub same-whole : (B : Forest) → Whole T B → Whole (with_decl T n d) B
  same-whole B w = record {
    root = record {
      no_parent = same-parent 0 ∙ w.root.no_parent;
      no_attributes = same-attributes 0 ∙ w.root.no_attributes;
      kids_are = same-kids 0 ∙ w.root.kids_are;
    };
    shows = shows-kept T (with_decl T n d) 0 B (λ m h. links-same m) w.shows;
    once = λ m. w.once m ∙ ap (λ b. cond b 1 0) (sym (same-live m));
    few = rw same-length w.few;
  }

  same-fits : (m : ℕ) → Fits T m → Fits (with_decl T n d) m
  same-fits m f = record {
    one_root = λ h. f.one_root (sym (same-kind m) ∙ h);
    kid_kind = λ k h. ap can_be_kid (same-kind k) ∙ f.kid_kind k (ap (mem k) (sym (same-kids m)) ∙ h);
    attribute_kind = λ a h. same-kind a ∙ f.attribute_kind a (ap (mem a) (sym (same-attributes m)) ∙ h);
    holder_kind = λ k h. ap holds_kids (same-kind m) ∙ f.holder_kind k (ap (mem k) (sym (same-kids m)) ∙ h);
    owner_kind = λ a h. same-kind m ∙ f.owner_kind a (ap (mem a) (sym (same-attributes m)) ∙ h);
    names_differ = λ a b ha hb e. f.names_differ a b (ap (mem a) (sym (same-attributes m)) ∙ ha) (ap (mem b) (sym (same-attributes m)) ∙ hb) (sym (same-expanded a) ∙ (e ∙ same-expanded b));
    some_text = λ h e. f.some_text (sym (same-kind m) ∙ h) (sym (same-value m) ∙ e);
    texts_apart = rw (same-kids m) (texts-kept T (with_decl T n d) (kids_of T m) (λ k h. same-kind k) f.texts_apart);
    not_deep = λ h. rw (same-ancestors m) (f.not_deep (sym (same-kind m) ∙ h));
  }

  pub formed-declared : Formed T → Formed (with_decl T n d)
  formed-declared s = record {
    forest = s.forest;
    whole = same-whole s.forest s.whole;
    root_kind = same-kind 0 ∙ s.root_kind;
    fits = λ m. same-fits m (s.fits m);
    few_nodes = rw same-count s.few_nodes;
    few_numbers = rw same-length s.few_numbers;
    little_text = rw same-held s.little_text;
  }

lead-same : {A : Type 0} (tells closes others ends : ℕ → List A) (C : Path) → ((m : ℕ) → In m (lead C) → tells m ≡ others m) → ((m : ℕ) → closes m ≡ ends m) →
    told_lead tells closes C ≡ told_lead others ends C
lead-same tells closes others ends top same close = refl
lead-same tells closes others ends (under n ats rest C) same close =
    ap₂ (λ l r. l ++ r) (lead-same tells closes others ends C (λ m h. same m (simp occurs-append (omega (arith, h)))) close)
    (flat_map-same tells others (n ∷ ats) (λ m h. same m (simp occurs-append (omega (arith, h)))))
lead-same tells closes others ends (beside n ats kids C) same close =
    ap₂ (λ l r. l ++ r) (lead-same tells closes others ends C (λ m h. same m (simp occurs-append (omega (arith, h)))) close)
    (ap₂ (λ l r. l ++ r) (flat_map-same tells others (n ∷ ats) (λ m h. same m (simp occurs-append (omega (arith, h)))))
    (ap₂ (λ l r. l ++ r) (told-same tells closes others ends kids (λ m h. same m (simp occurs-append (omega (arith, h)))) (λ m h. close m)) (close n)))

-- the lines with which an element begins, with a declaration more
more-lines : (d : Decl) (name : Name) (decls : List Decl) → first_lines (element name (decls ++ d ∷ [])) ≡ first_lines (element name decls) ++ declares d ∷ []
more-lines d name decls = ap (λ l. starts name ∷ l) (map-append declares decls (d ∷ []))

-- an element's content
pub record IsElementAt (T : Table) (n : ℕ) : Type 0 where
  pub name : Name
  pub decls : List Decl
  pub is : content_of T n ≡ Some (element name decls)

pub element-at : (T : Table) (n : ℕ) → kind_of T n ≡ Some Element → IsElementAt T n
element-at T n h = by (content_of T n) refl h
  where
    by : (o : Option Content) → content_of T n ≡ o → kind_at o ≡ Some Element → IsElementAt T n
    by None e k = absurd (cc)
    by (Some root) e k = absurd (cc)
    by (Some (element name decls)) e k = record { name = name; decls = decls; is = e }
    by (Some (attribute _ _)) e k = absurd (cc)
    by (Some (text _)) e k = absurd (cc)
    by (Some (comment _)) e k = absurd (cc)
    by (Some (instruction _ _)) e k = absurd (cc)

live-content : (T : Table) (n : ℕ) (c : Content) → content_of T n ≡ Some c → is_live T n ≡ true
live-content T n c h = by (entry_at T n) refl h
  where
    by : (o : Option Facts) → entry_at T n ≡ o → content_at o ≡ Some c → is_live T n ≡ true
    by None e k = absurd (cc)
    by (Some node) e k = ap is_some e

module _ (T : Table) (n : ℕ) (d : Decl) (at : IsElementAt T n) where
  at-live : is_live T n ≡ true
  at-live = live-content T n (element at.name at.decls) at.is

  pub new-content : content_of (with_decl T n d) n ≡ Some (element at.name (at.decls ++ d ∷ []))
  new-content = ap content_at (entry-declaring T n d at-live) ∙ by (entry_at T n) at.is
    where
      by : (o : Option Facts) → content_at o ≡ Some (element at.name at.decls) → content_at (declaring_at d o) ≡ Some (element at.name (at.decls ++ d ∷ []))
      by None e = absurd (cc)
      by (Some node) e = let c : node.content ≡ element at.name at.decls = (cc) in ap (λ c. Some (declaring d c)) c

  pub new-decls : decls_of (with_decl T n d) n ≡ decls_of T n ++ d ∷ []
  new-decls = ap decls_at new-content ∙ sym (ap (λ o. decls_at o ++ d ∷ []) at.is)

  new-opens : opens (with_decl T n d) n ≡ opens T n ++ declares d ∷ []
  new-opens = ap (lines_at first_lines) new-content ∙ (more-lines d at.name at.decls ∙ sym (ap (λ o. lines_at first_lines o ++ declares d ∷ []) at.is))

  pub others-content : (m : ℕ) → m ≢ n → content_of (with_decl T n d) m ≡ content_of T m
  others-content m ne = ap content_at (entry-others T n d m ne)

  same-opens : (m : ℕ) → m ≢ n → opens (with_decl T n d) m ≡ opens T m
  same-opens m ne = ap (lines_at first_lines) (others-content m ne)

  not-root : kind_of T 0 ≡ Some Root → 0 ≢ n
  not-root root_kind e =
      let k : kind_of T n ≡ Some Element = ap kind_at at.is in
      let r : kind_of T n ≡ Some Root = ap (kind_of T) (sym e) ∙ root_kind in
      absurd (cc)

-- an element with no kid and no attribute at the end of all: its declaration is read after all that was read before
front-more : (T : Table) (C : Path) (d : Decl) (at : IsElementAt T (owner C)) → kind_of T 0 ≡ Some Root → Whole T (plug C bare) → kids_of T (owner C) ≡ [] → attrs_of T (owner C) ≡ [] →
    opens (with_decl T (owner C) d) 0 ++ told_lead (opens (with_decl T (owner C) d)) (closes (with_decl T (owner C) d)) C
    ≡ (opens T 0 ++ told_lead (opens T) (closes T) C) ++ declares d ∷ []
front-more T top d at root_kind w nokids noats = absurd (not-root T 0 d at root_kind refl)
front-more T (beside n ats kids D) d at root_kind w nokids noats =
    absurd (some-top (elders D) [] n (sym (frame-kids T (beside n ats kids D) [] (opened T (beside n ats kids D) bare w.root w.shows).0) ∙ nokids))
front-more T (under n ats rest D) d at root_kind w nokids noats =
    let none : ats ≡ [] = sym (opened T (under n ats rest D) bare w.root w.shows).0.0.attributes ∙ noats in
    let apart : (m : ℕ) → In m (lead D) → m ≢ n = λ m h e.
    let k : In n (lead D) = subst (λ q. In q (lead D)) e h in
    let all : occurs n (0 ∷ flat (plug D (tree n ats bare rest))) ≡ alive T n = w.once n in
    let split : occurs n (0 ∷ flat (plug D (tree n ats bare rest))) ≡ occurs n (0 ∷ (lead D ++ (flat (tree n ats bare rest) ++ tail D))) = ap (λ l. occurs n (0 ∷ l)) (flat-plug D (tree n ats bare rest)) in
    omega (arith, k, all, simp occurs-append at split, alive-one T n, occurs-head n (ats ++ ([] ++ flat rest)), occurs-append n (n ∷ ats) ([] ++ flat rest)) in
    let leads : told_lead (opens (with_decl T n d)) (closes (with_decl T n d)) D ≡ told_lead (opens T) (closes T) D =
    lead-same (opens (with_decl T n d)) (closes (with_decl T n d)) (opens T) (closes T) D (λ m h. same-opens T n d at m (apart m h)) (same-closes T n d) in
    let here : flat_map (opens (with_decl T n d)) (n ∷ ats) ≡ flat_map (opens T) (n ∷ ats) ++ declares d ∷ [] =
    rw none (append-nil (opens (with_decl T n d) n) ∙ (new-opens T n d at ∙ sym (ap (λ l. l ++ declares d ∷ []) (append-nil (opens T n))))) in
    ap₂ (λ l r. l ++ r) (same-opens T n d at 0 (not-root T n d at root_kind)) (ap₂ (λ l r. l ++ r) leads here)
    ∙ simp append_assoc refl

read-on : (T : Table) (C : Path) (d : Decl) (at : IsElementAt T (owner C)) → kind_of T 0 ≡ Some Root → Edge C → Whole T (plug C bare) → kids_of T (owner C) ≡ [] → attrs_of T (owner C) ≡ [] →
    (before : List Line) → lines T ≡ before ++ closing T (owner C) → lines (with_decl T (owner C) d) ≡ (before ++ declares d ∷ []) ++ closing (with_decl T (owner C) d) (owner C)
read-on T C d at root_kind edge w nokids noats before read =
    let up : above T (owner C) ≡ chain C = above-owner T C bare w in
    let cut : before ≡ opens T 0 ++ told_lead (opens T) (closes T) C =
    append_cancel_right before (opens T 0 ++ told_lead (opens T) (closes T) C) (flat_map (closes T) (chain C))
    (ap (λ l. before ++ flat_map (closes T) l) (sym up) ∙ (sym read ∙ walked-edge (opens T) (closes T) T C edge w)) in
    let V : Table = with_decl T (owner C) d in
    walked-edge (opens V) (closes V) V C edge (same-whole T (owner C) d (plug C bare) w)
    ∙ ap₂ (λ l r. l ++ r) (front-more T C d at root_kind w nokids noats ∙ ap (λ l. l ++ declares d ∷ []) (sym cut))
    (ap (flat_map (closes V)) (sym (same-above T (owner C) d (owner C) ∙ up)))

-- a number that is nobody's parent stands on no way up but its own
climb-avoids : (T : Table) (n : ℕ) → ((m : ℕ) → parent_of T m ≢ Some n) → (steps : ℕ) (o : Option ℕ) → o ≢ Some n → In n (climb T steps o) → ⊥
climb-avoids T n alone zero o first h = absurd (omega arith)
climb-avoids T n alone (suc steps) None first h = absurd (omega arith)
climb-avoids T n alone (suc steps) (Some q) first h =
    ⊎_elim (λ (e : n ≡ q). first (ap Some (sym e))) (λ (k : In n (climb T steps (parent_of T q))). climb-avoids T n alone steps (parent_of T q) (alone q) k)
    (In-cons n q (climb T steps (parent_of T q)) h)

module _ (T : Table) (n : ℕ) (d : Decl) (at : IsElementAt T n) (formed : Formed T) (nokids : kids_of T n ≡ []) (noats : attrs_of T n ≡ []) where
  nobodys : (m : ℕ) → parent_of T m ≢ Some n
  nobodys m up =
      let listed : mem m (attrs_of T n ++ kids_of T n) ≡ true = (well-formed T formed).is_listed m n up in
      let none : mem m (attrs_of T n ++ kids_of T n) ≡ false = ap₂ (λ l r. mem m (l ++ r)) noats nokids in
      true≢false (sym listed ∙ none)

  avoids : (m k : ℕ) → In k (ancestors T m) → k ≢ n
  avoids m k h e = climb-avoids T n nobodys (length T) (parent_of T m) (nobodys m) (subst (λ q. In q (ancestors T m)) e h)

  others-decls : (k : ℕ) → k ≢ n → decls_of (with_decl T n d) k ≡ decls_of T k
  others-decls k ne = ap decls_at (others-content T n d at k ne)

  upper-scope : (m : ℕ) → flat_map (decls_of (with_decl T n d)) (ancestors (with_decl T n d) m) ≡ flat_map (decls_of T) (ancestors T m)
  upper-scope m =
      ap (flat_map (decls_of (with_decl T n d))) (same-ancestors T n d m)
      ∙ flat_map-same (decls_of (with_decl T n d)) (decls_of T) (ancestors T m) (λ k h. others-decls k (avoids m k h))

  no-attribute : (q : ℕ) → In n (attrs_of T q) → ⊥
  no-attribute q h =
      let k : kind_of T n ≡ Some Attribute = (formed.fits q).attribute_kind n (In-mem n (attrs_of T q) h) in
      let e : kind_of T n ≡ Some Element = ap kind_at at.is in
      absurd (cc)

  pub declared-last : DeclaredLast T (with_decl T n d) n d
  declared-last = record {
    read_on = λ before last read.
        let hole : Hole formed.forest n = open_hole T formed.forest n formed.whole last no-attribute in
        let w : Whole T (plug hole.path bare) = subst (Whole T) (sym hole.fills) formed.whole in
        subst (λ q. IsElementAt T q → kids_of T q ≡ [] → attrs_of T q ≡ [] → lines T ≡ before ++ closing T q → lines (with_decl T q d) ≡ (before ++ declares d ∷ []) ++ closing (with_decl T q d) q) hole.owns
        (λ at nokids noats read. read-on T hole.path d at formed.root_kind hole.edge w nokids noats before read) at nokids noats read;
    scope = ap₂ (λ l r. l ++ r) (new-decls T n d at) (upper-scope n);
    same_scope = λ m ne. ap₂ (λ l r. l ++ r) (others-decls m ne) (upper-scope m);
  }

pub declared : (T : Table) (n : ℕ) (d : Decl) → Formed T → kind_of T n ≡ Some Element → Declared T (with_decl T n d) n d
declared T n d formed kind =
    let at : IsElementAt T n = element-at T n kind in
    record {
      table = refl;
      decls = new-decls T n d at;
      content = λ name decls h. new-content T n d (record { name = name; decls = decls; is = h });
      same_name = same-name T n d n;
      same_length = same-length T n d;
      same_live = same-live T n d;
      all_live = λ all m h. same-live T n d m ∙ all m (rw (same-length T n d) at h);
      same_content = others-content T n d at;
      same_kind = same-kind T n d;
      same_value = same-value T n d;
      same_parent = same-parent T n d;
      same_kids = same-kids T n d;
      same_attributes = same-attributes T n d;
      same_order = same-order T n d;
      same_ways_up = same-above T n d;
      same_open = same-open T n d;
      same_text = same-text T n d;
      same_closing = same-closing T n d;
      while_last = declared-last T n d at formed;
    }

-- scopes along the ways up
pub has-scopes : (T : Table) → Formed T → HasScopes T
has-scopes T formed = record {
  under = λ n p up. ap (λ l. decls_of T n ++ flat_map (decls_of T) l) ((ways-up T formed).ancestors_at n p up);
  at_top = λ n none. ap (λ l. decls_of T n ++ flat_map (decls_of T) l) ((ways-up T formed).no_ancestors n none) ∙ append-nil (decls_of T n);
  way_live = λ n m live h. above-live T formed.forest formed.whole n m live (mem-In m (above T n) h);
}
