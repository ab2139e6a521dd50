-- Copies of single nodes.
use Rattle.std.proofs.Common.{◌≡◌, ℕ, suc, ◌+◌, ◌<◌, ◌≤◌, ◌⊎◌, inl, inr, Bool, true, false, List, [], ◌∷◌, ◌++◌, length, map, take, drop, sum_by, slice_index_or, Option, None, Some, is_some, refl, sym, ap, ap₂, ◌∙◌, subst, true≢false, arith, append_assoc, append-nil, length-append, add-one}
use Rattle.std.specs.List.{flat_map}
use Rattle.std.specs.declared.alloc.AllocError.{AllocError}
use Rattle.std.specs.Prelude.{IfErr, IfOk, Result, Ok, Err, nat_le, nat_lt}
use Rattle.std.proofs.lemmas.Bool.{le-ltb, lt-leb}
use Rattle.std.proofs.lemmas.List.{map-append}
use Rattle.std.proofs.lemmas.List.Sums.{sum_by-append, sum_by-cons}
use Rattle.std.proofs.Math.Seq.{split_at, take-length, take-suc}
use Rattle.std.proofs.lemmas.Grind.{flat_map-append}
use Rattle.sch_base.proofs.Lists.{cut-at, take-next}
use Rattle.doc_tree.proofs.ListLemmas.{In-mem, mem-In, occurs-append, occurs-same, mem-head}
use Rattle.doc_tree.specs.Declaring.{Declared}
use Rattle.doc_tree.specs.Growth.{AttributeFits, Grew, Refuses, as_kid, is_too_deep, passed_limit}
use Rattle.doc_tree.specs.new_node.AppendError.{AppendError}
use Rattle.doc_tree.specs.limits.TheConstants.{MAX_LIVE_NODES, MAX_LIVE_TEXT_BYTES}
use Rattle.doc_tree.specs.kind.Kind.{Kind}
use Rattle.doc_tree.specs.kind.Kind.TheVariants as kind
use Rattle.doc_tree.specs.Kinds.{can_be_kid, holds_kids, is_element, is_kind, is_text}
use Rattle.doc_tree.specs.Laws.{HasWaysUp, WellFormed}
use Rattle.doc_tree.specs.Lines.{Line, declares, first_lines, has_attribute, lines_at, opens, starts}
use Rattle.doc_tree.specs.Lists.{mem, occurs}
use Rattle.doc_tree.specs.Scope.{Decl, decl_at, first_declared}
use Rattle.doc_tree.specs.Table.{Content, Name, Table, attribute, attrs_of, comment, content_of, decls_at, decls_of, element, expanded_in, expanded_of, instruction, is_live, kids_of, kind_at, kind_in, kind_of, name_at, name_of, root, text, value_at, value_in, value_of}
use Rattle.doc_tree.specs.Walks.{order, text_bytes}
use Rattle.name_scopes.proofs.NumberLemmas.{holder-live, kind-live, mem-push}
use Rattle.name_scopes.proofs.TagFacts.{not-declared}
use Rattle.name_scopes.specs.Scoping.{declares_twice}
use Rattle.sch_include.proofs.GrowLemmas.{grew-within, grown-count, starts-attribute, starts-declared, starts-one}
use Rattle.sch_include.specs.inner.Growing.{Adds, Copied, Keeps, Receives, Starts, TakesCopy, own_text}

pub all-taken : {A : Type 0} (xs : List A) (i : ℕ) → length xs ≤ i → i ≤ length xs → take i xs ≡ xs
all-taken xs i least most = let at : i ≡ length xs = omega arith in ap (λ (j : ℕ). take j xs) at ∙ take-length xs

-- the declarations so far
pub record Declaring (U V : Table) (k : ℕ) (done : List Decl) : Type 0 where
  pub under : kind_of V k ≡ Some kind.Element
  pub decls_are : decls_of V k ≡ done
  pub no_attribute : attrs_of V k ≡ []
  pub starts : (G : Table) (p : ℕ) (name : Name) (told : List Line) → Starts G U p k (element name []) told 1 0 →
      Starts G V p k (element name done) (told ++ map declares done) 1 0

pub declaring-none : (U : Table) (k : ℕ) → kind_of U k ≡ Some kind.Element → decls_of U k ≡ [] → attrs_of U k ≡ [] → Declaring U U k []
declaring-none U k under no_decl no_attribute = record {
  under = under;
  decls_are = no_decl;
  no_attribute = no_attribute;
  starts = λ G p name told h. subst (λ (ls : List Line). Starts G U p k (element name []) ls 1 0) (sym (append-nil told)) h;
}

pub declaring-more : (U V W : Table) (k : ℕ) (done : List Decl) (d : Decl) → Declared V W k d → Declaring U V k done → Declaring U W k (done ++ d ∷ [])
declaring-more U V W k done d more was = record {
  under = more.same_kind k ∙ was.under;
  decls_are = more.decls ∙ ap (λ (l : List Decl). l ++ d ∷ []) was.decls_are;
  no_attribute = more.same_attributes k ∙ was.no_attribute;
  starts = λ G p name told h.
      subst (λ (ls : List Line). Starts G W p k (element name (done ++ d ∷ [])) ls 1 0)
      (append_assoc told (map declares done) (declares d ∷ []) ∙ ap (λ (ls : List Line). told ++ ls) (sym (map-append declares done (d ∷ []))))
      (starts-declared G V W p k (told ++ map declares done) name done d (was.starts G p name told h) was.no_attribute more);
}

module _ (ds : List Decl) (i : ℕ) (less : i < length ds) where
  pub next-decl : take (i + 1) ds ≡ take i ds ++ decl_at ds i ∷ []
  next-decl = ap (λ n. take n ds) (add-one i) ∙ take-suc ds i ([], []) less

  pub next-undeclared : declares_twice ds ≡ false → first_declared (take i ds) (decl_at ds i).0 ≡ None
  next-undeclared once = not-declared (take i ds) (drop (suc i) ds) (decl_at ds i) (ap declares_twice (sym (split_at ds i ([], []) less)) ∙ once)

-- a content by its kind
attribute-content : (c : Option Content) (name : Name) → kind_at c ≡ Some kind.Attribute → name_at c ≡ Some name → c ≡ Some (attribute name (value_at c))
attribute-content None name is named = absurd (cc)
attribute-content (Some root) name is named = absurd (cc)
attribute-content (Some (element other ds)) name is named = absurd (cc)
attribute-content (Some (attribute other value)) name is named = let same : other ≡ name = (cc) in ap (λ (n : Name). Some (attribute n value)) same
attribute-content (Some (text value)) name is named = absurd (cc)
attribute-content (Some (comment value)) name is named = absurd (cc)
attribute-content (Some (instruction other value)) name is named = absurd (cc)

pub attribute-opens : (T : Table) (a : ℕ) (name : Name) → kind_of T a ≡ Some kind.Attribute → name_of T a ≡ Some name → opens T a ≡ has_attribute name (value_of T a) ∷ []
attribute-opens T a name is named = rw (attribute-content (content_of T a) name is named) refl

-- the attributes so far
pub record Attributing (U V : Table) (k : ℕ) (T : Table) (done : List ℕ) : Type 0 where
  pub receives : Receives V k
  pub under : kind_of V k ≡ Some kind.Element
  pub no_kid : kids_of V k ≡ []
  pub named : (a : ℕ) → mem a (attrs_of V k) ≡ true → (b : ℕ) × (mem b done ≡ true) × (expanded_of V a ≡ expanded_of T b)
  pub counted : length (order V) ≡ length (order U) + length done
  pub bytes : text_bytes V ≡ text_bytes U + sum_by (λ m. length (value_of T m)) done
  pub starts : (G : Table) (p : ℕ) (content : Content) (told : List Line) (nodes bytes : ℕ) → Starts G U p k content told nodes bytes →
      Starts G V p k content (told ++ flat_map (opens T) done) (nodes + length done) (bytes + sum_by (λ m. length (value_of T m)) done)

starts-as : (G V : Table) (p k : ℕ) (content : Content) (a b : List Line) (n m t u : ℕ) → a ≡ b → n ≡ m → t ≡ u → Starts G V p k content a n t → Starts G V p k content b m u
starts-as G V p k content a b n m t u lines_are nodes_are text_is h =
    subst (λ (l : List Line). Starts G V p k content l m u) lines_are
    (subst (λ (j : ℕ). Starts G V p k content a j u) nodes_are (subst (λ (j : ℕ). Starts G V p k content a n j) text_is h))

pub attributing-none : (U : Table) (k : ℕ) (T : Table) → Receives U k → kind_of U k ≡ Some kind.Element → kids_of U k ≡ [] → attrs_of U k ≡ [] → Attributing U U k T []
attributing-none U k T receives under no_kid no_attribute = record {
  receives = receives;
  under = under;
  no_kid = no_kid;
  named = λ a among. absurd (true≢false (sym among ∙ ap (mem a) no_attribute));
  counted = omega arith;
  bytes = omega arith;
  starts = λ G p content told nodes bytes h. starts-as G U p k content told (told ++ []) nodes (nodes + 0) bytes (bytes + 0) (sym (append-nil told)) (omega arith) (omega arith) h;
}

mem-front : (a : ℕ) (xs ys : List ℕ) → mem a xs ≡ true → mem a (xs ++ ys) ≡ true
mem-front a xs ys h = In-mem a (xs ++ ys) (omega (arith, occurs-append a xs ys, mem-In a xs h))

mem-end : (a : ℕ) (xs : List ℕ) → mem a (xs ++ a ∷ []) ≡ true
mem-end a xs = In-mem a (xs ++ a ∷ []) (omega (arith, occurs-append a xs (a ∷ []), occurs-same a []))

module _ (U V : Table) (k : ℕ) (T : Table) (n : ℕ) (formed : WellFormed T) (i a : ℕ) (is : a ≡ slice_index_or (attrs_of T n) i a) (less : i < length (attrs_of T n)) (was : Attributing U V k T (take i (attrs_of T n))) where
  cut : attrs_of T n ≡ take i (attrs_of T n) ++ a ∷ drop (suc i) (attrs_of T n)
  cut = cut-at (attrs_of T n) i a is less

  here : mem a (attrs_of T n) ≡ true
  here = subst (λ (ms : List ℕ). mem a ms ≡ true) (sym cut) (In-mem a (take i (attrs_of T n) ++ a ∷ drop (suc i) (attrs_of T n)) (omega (arith, occurs-append a (take i (attrs_of T n)) (a ∷ drop (suc i) (attrs_of T n)), occurs-same a (drop (suc i) (attrs_of T n)))))

  pub next-kind : kind_of T a ≡ Some kind.Attribute
  next-kind = formed.attribute_kind n a here

  front : take (i + 1) (attrs_of T n) ≡ take i (attrs_of T n) ++ a ∷ []
  front = take-next (attrs_of T n) i a is less

  pub next-room : length (attrs_of T n) ≡ suc (length (take i (attrs_of T n)) + length (drop (suc i) (attrs_of T n)))
  next-room = ap length cut ∙ (length-append (take i (attrs_of T n)) (a ∷ drop (suc i) (attrs_of T n)) ∙ omega arith)

  pub next-bytes : sum_by (λ m. length (value_of T m)) (attrs_of T n) ≡ sum_by (λ m. length (value_of T m)) (take i (attrs_of T n)) + (length (value_of T a) + sum_by (λ m. length (value_of T m)) (drop (suc i) (attrs_of T n)))
  next-bytes = ap (sum_by (λ m. length (value_of T m))) cut ∙ sum_by-append (λ m. length (value_of T m)) (take i (attrs_of T n)) (a ∷ drop (suc i) (attrs_of T n)) ∙ ap (λ j. sum_by (λ m. length (value_of T m)) (take i (attrs_of T n)) + j) (sum_by-cons (λ m. length (value_of T m)) a (drop (suc i) (attrs_of T n)))

  pub next-fits : (name : Name) → name_of T a ≡ Some name → AttributeFits V k name
  next-fits name named = record {
    under = was.under;
    no_kid = was.no_kid;
    is_new = λ b among same.
        let one = was.named b among in
        let both : expanded_of T one.0 ≡ expanded_of T a = sym one.2 ∙ (same ∙ sym (ap expanded_in named)) in
        let there : mem one.0 (attrs_of T n) ≡ true = subst (λ (ms : List ℕ). mem one.0 ms ≡ true) (sym cut) (mem-front one.0 (take i (attrs_of T n)) (a ∷ drop (suc i) (attrs_of T n)) one.1) in
        let equal : one.0 ≡ a = formed.names_differ n one.0 a there here both in
        let twice : 1 ≤ occurs a (take i (attrs_of T n)) = subst (λ (m : ℕ). 1 ≤ occurs m (take i (attrs_of T n))) equal (mem-In one.0 (take i (attrs_of T n)) one.1) in
        omega (arith, formed.attributes_once n a, ap (occurs a) cut, occurs-append a (take i (attrs_of T n)) (a ∷ drop (suc i) (attrs_of T n)), occurs-same a (drop (suc i) (attrs_of T n)), twice);
  }

  pub attributing-more : (W : Table) (b : ℕ) (name : Name) → HasWaysUp V → name_of T a ≡ Some name → Grew V W k b (attribute name (value_of T a)) → Attributing U W k T (take (i + 1) (attrs_of T n))
  attributing-more W b name ways named grew =
      let live : is_live V k ≡ true = kind-live V k kind.Element was.under in
      let one : Adds V W k k (has_attribute name (value_of T a) ∷ []) = grew-within V W k b (attribute name (value_of T a)) grew live refl in
      let kept : Keeps V W k = one.keeps k live in
      let same_kind : kind_of W k ≡ kind_of V k = ap kind_at kept.content in
      let done : List ℕ = take i (attrs_of T n) in
      subst (Attributing U W k T) (sym front) (record {
        receives = record { holder = was-holder W same_kind; last = one.stays_open; all_live = one.all_live };
        under = same_kind ∙ was.under;
        no_kid = grew.parent_kids ∙ (append-nil (kids_of V k) ∙ was.no_kid);
        named = λ m among. by m (mem-push m b (attrs_of V k) (subst (λ (ms : List ℕ). mem m ms ≡ true) grew.parent_attributes among)) one;
        counted = omega (arith, grown-count V W k b (attribute name (value_of T a)) grew, was.counted, length-append done (a ∷ []));
        bytes = omega (arith, grew.more_text, was.bytes, sum_by-append (λ m. length (value_of T m)) done (a ∷ []));
        starts = λ G p content told nodes bytes h.
            starts-as G W p k content ((told ++ flat_map (opens T) done) ++ has_attribute name (value_of T a) ∷ []) (told ++ flat_map (opens T) (done ++ a ∷ []))
            ((nodes + length done) + 1) (nodes + length (done ++ a ∷ [])) ((bytes + sum_by (λ m. length (value_of T m)) done) + length (value_of T a)) (bytes + sum_by (λ m. length (value_of T m)) (done ++ a ∷ []))
            (append_assoc told (flat_map (opens T) done) (has_attribute name (value_of T a) ∷ [])
            ∙ ap (λ (ls : List Line). told ++ ls) (ap (λ (ls : List Line). flat_map (opens T) done ++ ls) (sym (append-nil (opens T a) ∙ attribute-opens T a name next-kind named)) ∙ sym (flat_map-append (opens T) done (a ∷ []))))
            (omega (arith, length-append done (a ∷ [])))
            (omega (arith, sum_by-append (λ m. length (value_of T m)) done (a ∷ [])))
            (starts-attribute G V W p k (told ++ flat_map (opens T) done) content (nodes + length done) (bytes + sum_by (λ m. length (value_of T m)) done) b name (value_of T a) (was.starts G p content told nodes bytes h) grew);
      })
    where
      was-holder : (W : Table) → kind_of W k ≡ kind_of V k → holds_kids (kind_of W k) ≡ true
      was-holder W e = ap holds_kids e ∙ was.receives.holder

      by : (m : ℕ) → (mem m (attrs_of V k) ≡ true) ⊎ (m ≡ b) → Adds V W k k (has_attribute name (value_of T a) ∷ []) → (c : ℕ) × (mem c (take i (attrs_of T n) ++ a ∷ []) ≡ true) × (expanded_of W m ≡ expanded_of T c)
      by m (inl old) one =
          let before = was.named m old in (
            before.0,
            mem-front before.0 (take i (attrs_of T n)) (a ∷ []) before.1,
            ap (λ c. expanded_in (name_at c)) (one.keeps m (ways.attribute_live k m old)).content ∙ before.2,
          )
      by m (inr new) one = (
        a,
        mem-end a (take i (attrs_of T n)),
        ap (expanded_of W) new ∙ (ap (λ c. expanded_in (name_at c)) grew.content ∙ sym (ap expanded_in named)),
      )

-- an element by its name
element-content : (c : Option Content) (name : Name) → kind_at c ≡ Some kind.Element → name_at c ≡ Some name → c ≡ Some (element name (decls_at c))
element-content None name is named = absurd (cc)
element-content (Some root) name is named = absurd (cc)
element-content (Some (element other ds)) name is named = let same : other ≡ name = (cc) in ap (λ (n : Name). Some (element n ds)) same
element-content (Some (attribute other value)) name is named = absurd (cc)
element-content (Some (text value)) name is named = absurd (cc)
element-content (Some (comment value)) name is named = absurd (cc)
element-content (Some (instruction other value)) name is named = absurd (cc)

pub element-named : (c : Option Content) → is_element (kind_at c) ≡ true → is_some (name_at c) ≡ true
element-named None is = absurd (true≢false (sym is))
element-named (Some root) is = absurd (true≢false (sym is))
element-named (Some (element name ds)) is = refl
element-named (Some (attribute other value)) is = absurd (true≢false (sym is))
element-named (Some (text value)) is = absurd (true≢false (sym is))
element-named (Some (comment value)) is = absurd (true≢false (sym is))
element-named (Some (instruction other value)) is = absurd (true≢false (sym is))

module _ (G U V : Table) (p k : ℕ) (T : Table) (n : ℕ) (name : Name) (takes : TakesCopy G p T n) (is : kind_of T n ≡ Some kind.Element) (named : name_of T n ≡ Some name) (grew : Grew G U p k (element name []))
    (declared : (G : Table) (p : ℕ) (name : Name) (told : List Line) → Starts G U p k (element name []) told 1 0 → Starts G V p k (element name (decls_of T n)) (told ++ map declares (decls_of T n)) 1 0) where
  content : content_of T n ≡ Some (element name (decls_of T n))
  content = element-content (content_of T n) name is named

  pub begun : Starts G V p k (element name (decls_of T n)) (starts name ∷ map declares (decls_of T n)) 1 0
  begun = declared G p name (starts name ∷ []) (starts-one G U p k (element name []) grew (holder-live G p takes.receives.holder) refl)

  pub begun-kind : kind_of V k ≡ Some kind.Element
  begun-kind = ap kind_at begun.content_is

  pub begun-receives : Receives V k
  begun-receives = record { holder = ap holds_kids begun-kind; last = begun.adds.stays_open; all_live = begun.adds.all_live }

  own : own_text T n ≡ sum_by (λ m. length (value_of T m)) (attrs_of T n)
  own = sum_by-cons (λ m. length (value_of T m)) n (attrs_of T n) ∙ ap (λ c. length (value_at c) + sum_by (λ m. length (value_of T m)) (attrs_of T n)) content ∙ omega arith

  pub begun-room : length (order V) + length (attrs_of T n) ≤ MAX_LIVE_NODES
  begun-room = omega (arith, begun.counted, takes.room)

  pub begun-little : text_bytes V + sum_by (λ m. length (value_of T m)) (attrs_of T n) ≤ MAX_LIVE_TEXT_BYTES
  begun-little = omega (arith, begun.bytes, takes.little, own)

  pub element-copied : (W : Table) → Starts G W p k (element name (decls_of T n)) ((starts name ∷ map declares (decls_of T n)) ++ flat_map (opens T) (attrs_of T n)) (1 + length (attrs_of T n)) (0 + sum_by (λ m. length (value_of T m)) (attrs_of T n)) →
      Copied G W p k T n
  element-copied W h = record {
    content = element name (decls_of T n);
    content_is = content;
    starts = starts-as G W p k (element name (decls_of T n)) ((starts name ∷ map declares (decls_of T n)) ++ flat_map (opens T) (attrs_of T n)) (flat_map (opens T) (n ∷ attrs_of T n))
        (1 + length (attrs_of T n)) (suc (length (attrs_of T n))) (0 + sum_by (λ m. length (value_of T m)) (attrs_of T n)) (own_text T n)
        (ap (λ c. lines_at first_lines c ++ flat_map (opens T) (attrs_of T n)) (sym content)) (omega arith) (omega (arith, own)) h;
  }

-- what may stand as a kid and holds nothing
abbrev pub is_leaf : Content → Bool
is_leaf root = false
is_leaf (element _ _) = false
is_leaf (attribute _ _) = false
is_leaf (text _) = true
is_leaf (comment _) = true
is_leaf (instruction _ _) = true

leaf-kid : (c : Content) (k : ℕ) → is_leaf c ≡ true → as_kid c k ≡ k ∷ []
leaf-kid root k is = absurd (true≢false (sym is))
leaf-kid (element name ds) k is = absurd (true≢false (sym is))
leaf-kid (attribute name value) k is = absurd (true≢false (sym is))
leaf-kid (text value) k is = refl
leaf-kid (comment value) k is = refl
leaf-kid (instruction name value) k is = refl

module _ (T : Table) (n : ℕ) (c : Content) (formed : WellFormed T) (is : content_of T n ≡ Some c) (leaf : is_leaf c ≡ true) where
  no-owner : (ms : List ℕ) → ((a : ℕ) → mem a ms ≡ true → kind_of T n ≡ Some kind.Element) → ms ≡ []
  no-owner [] h = refl
  no-owner (a ∷ ms) h = absurd (by c leaf (sym (ap kind_at is) ∙ h a (mem-head a ms)))
    where
      by : (c : Content) → is_leaf c ≡ true → Some (kind_in c) ≡ Some kind.Element → ⊥
      by root leaf e = true≢false (sym leaf)
      by (element name ds) leaf e = true≢false (sym leaf)
      by (attribute name value) leaf e = true≢false (sym leaf)
      by (text value) leaf e = cc
      by (comment value) leaf e = cc
      by (instruction name value) leaf e = cc

  pub leaf-bare : attrs_of T n ≡ []
  leaf-bare = no-owner (attrs_of T n) (λ a among. formed.owner_kind n a among)

  pub leaf-own : own_text T n ≡ length (value_in c)
  leaf-own = sum_by-cons (λ m. length (value_of T m)) n (attrs_of T n) ∙ (ap₂ (λ (o : Option Content) (ms : List ℕ). length (value_at o) + sum_by (λ m. length (value_of T m)) ms) is leaf-bare ∙ omega arith)

  leaf-copied : (G U : Table) (p k : ℕ) → is_live G p ≡ true → Grew G U p k c → Copied G U p k T n
  leaf-copied G U p k live grew = record {
    content = c;
    content_is = is;
    starts = starts-as G U p k c (first_lines c) (flat_map (opens T) (n ∷ attrs_of T n)) 1 (suc (length (attrs_of T n))) (length (value_in c)) (own_text T n)
        (sym (ap₂ (λ (o : Option Content) (ms : List ℕ). lines_at first_lines o ++ flat_map (opens T) ms) is leaf-bare ∙ append-nil (first_lines c)))
        (sym (ap (λ (ms : List ℕ). suc (length ms)) leaf-bare)) (sym leaf-own)
        (starts-one G U p k c grew live (leaf-kid c k leaf));
  }

-- contents of leaves by their kinds
text-content : (c : Option Content) → kind_at c ≡ Some kind.Text → c ≡ Some (text (value_at c))
text-content None is = absurd (cc)
text-content (Some root) is = absurd (cc)
text-content (Some (element other ds)) is = absurd (cc)
text-content (Some (attribute other value)) is = absurd (cc)
text-content (Some (text value)) is = refl
text-content (Some (comment value)) is = absurd (cc)
text-content (Some (instruction other value)) is = absurd (cc)

comment-content : (c : Option Content) → kind_at c ≡ Some kind.Comment → c ≡ Some (comment (value_at c))
comment-content None is = absurd (cc)
comment-content (Some root) is = absurd (cc)
comment-content (Some (element other ds)) is = absurd (cc)
comment-content (Some (attribute other value)) is = absurd (cc)
comment-content (Some (text value)) is = absurd (cc)
comment-content (Some (comment value)) is = refl
comment-content (Some (instruction other value)) is = absurd (cc)

instruction-content : (c : Option Content) (name : Name) → kind_at c ≡ Some kind.Pi → name_at c ≡ Some name → c ≡ Some (instruction name (value_at c))
instruction-content None name is named = absurd (cc)
instruction-content (Some root) name is named = absurd (cc)
instruction-content (Some (element other ds)) name is named = absurd (cc)
instruction-content (Some (attribute other value)) name is named = absurd (cc)
instruction-content (Some (text value)) name is named = absurd (cc)
instruction-content (Some (comment value)) name is named = absurd (cc)
instruction-content (Some (instruction other value)) name is named = let same : other ≡ name = (cc) in ap (λ (n : Name). Some (instruction n value)) same

-- a kind by a test
kind-is-text : (k : Option Kind) → is_text k ≡ true → k ≡ Some kind.Text
kind-is-text None is = absurd (true≢false (sym is))
kind-is-text (Some kind.Root) is = absurd (true≢false (sym is))
kind-is-text (Some kind.Element) is = absurd (true≢false (sym is))
kind-is-text (Some kind.Attribute) is = absurd (true≢false (sym is))
kind-is-text (Some kind.Text) is = refl
kind-is-text (Some kind.Comment) is = absurd (true≢false (sym is))
kind-is-text (Some kind.Pi) is = absurd (true≢false (sym is))

kind-is-comment : (k : Option Kind) → is_kind kind.Comment k ≡ true → k ≡ Some kind.Comment
kind-is-comment None is = absurd (true≢false (sym is))
kind-is-comment (Some kind.Root) is = absurd (true≢false (sym is))
kind-is-comment (Some kind.Element) is = absurd (true≢false (sym is))
kind-is-comment (Some kind.Attribute) is = absurd (true≢false (sym is))
kind-is-comment (Some kind.Text) is = absurd (true≢false (sym is))
kind-is-comment (Some kind.Comment) is = refl
kind-is-comment (Some kind.Pi) is = absurd (true≢false (sym is))

kind-is-instruction : (k : Option Kind) → can_be_kid k ≡ true → is_element k ≡ false → is_text k ≡ false → is_kind kind.Comment k ≡ false → k ≡ Some kind.Pi
kind-is-instruction None kid no_element no_text no_comment = absurd (true≢false (sym kid))
kind-is-instruction (Some kind.Root) kid no_element no_text no_comment = absurd (true≢false (sym kid))
kind-is-instruction (Some kind.Element) kid no_element no_text no_comment = absurd (true≢false no_element)
kind-is-instruction (Some kind.Attribute) kid no_element no_text no_comment = absurd (true≢false (sym kid))
kind-is-instruction (Some kind.Text) kid no_element no_text no_comment = absurd (true≢false no_text)
kind-is-instruction (Some kind.Comment) kid no_element no_text no_comment = absurd (true≢false no_comment)
kind-is-instruction (Some kind.Pi) kid no_element no_text no_comment = refl

-- a leaf passes no limit where there is room for it
pub leaf-refused : (G : Table) (p : ℕ) (T : Table) (n : ℕ) → TakesCopy G p T n → (F : Table) (a b : Result ℕ AppendError) (c : Content) → F ≡ G → b ≡ a → value_in c ≡ value_of T n →
    ((F : Table) → is_too_deep F p c ≡ false) → IfErr a (Refuses (passed_limit F p c)) → IfErr b (Refuses None)
leaf-refused G p T n takes F a b c same_tree same value_is shallow refused =
    let own : own_text T n ≡ length (value_of T n) + sum_by (λ m. length (value_of T m)) (attrs_of T n) = sum_by-cons (λ m. length (value_of T m)) n (attrs_of T n) in
    let room : nat_le MAX_LIVE_NODES (length (order G)) ≡ false = lt-leb MAX_LIVE_NODES (length (order G)) (omega (arith, takes.room)) in
    let little : nat_lt MAX_LIVE_TEXT_BYTES (text_bytes G + length (value_in c)) ≡ false =
    le-ltb MAX_LIVE_TEXT_BYTES (text_bytes G + length (value_in c)) (omega (arith, takes.little, own, ap length value_is)) in
    let none : passed_limit G p c ≡ None = rw (room, shallow G, little) refl in
    subst (λ (o : Result ℕ AppendError). IfErr o (Refuses None)) (sym same)
    (subst (λ (l : Option AppendError). IfErr a (Refuses l)) none (subst (λ (F : Table). IfErr a (Refuses (passed_limit F p c))) same_tree refused))

-- an answer of the tree is the answer, but for want of memory
answered : {P Q : ℕ → Type 0} (a b : Result ℕ AppendError) (r : Result ℕ AllocError) → b ≡ a → IfOk r (λ k. b ≡ Ok k) → IfOk a P → ((k : ℕ) → P k → Q k) → IfOk r Q
answered {P} {Q} a b (Ok k) same is h on = on k (subst (λ (o : Result ℕ AppendError). IfOk o P) (sym same ∙ is) h)
answered a b (Err e) same is h on = tt

module _ (G U : Table) (p : ℕ) (T : Table) (n : ℕ) (formed : WellFormed T) (takes : TakesCopy G p T n) (a b : Result ℕ AppendError) (r : Result ℕ AllocError) (same : b ≡ a) (is : IfOk r (λ k. b ≡ Ok k)) where
  live : is_live G p ≡ true
  live = holder-live G p takes.receives.holder

  pub text-copied : (value : List ℕ) → value ≡ value_of T n → is_text (kind_of T n) ≡ true → IfOk a (λ k. Grew G U p k (text value)) → IfOk r (λ k. Copied G U p k T n)
  text-copied value value_is test grew =
      let content : content_of T n ≡ Some (text value) = text-content (content_of T n) (kind-is-text (kind_of T n) test) ∙ ap (λ (v : List ℕ). Some (text v)) (sym value_is) in
      answered {P = λ k. Grew G U p k (text value)} a b r same is grew (λ k h. leaf-copied T n (text value) formed content refl G U p k live h)

  pub comment-copied : (value : List ℕ) → value ≡ value_of T n → is_kind kind.Comment (kind_of T n) ≡ true → IfOk a (λ k. Grew G U p k (comment value)) → IfOk r (λ k. Copied G U p k T n)
  comment-copied value value_is test grew =
      let content : content_of T n ≡ Some (comment value) = comment-content (content_of T n) (kind-is-comment (kind_of T n) test) ∙ ap (λ (v : List ℕ). Some (comment v)) (sym value_is) in
      answered {P = λ k. Grew G U p k (comment value)} a b r same is grew (λ k h. leaf-copied T n (comment value) formed content refl G U p k live h)

  pub instruction-copied : (name : Name) (value : List ℕ) → value ≡ value_of T n → is_element (kind_of T n) ≡ false → is_text (kind_of T n) ≡ false → is_kind kind.Comment (kind_of T n) ≡ false →
      name_of T n ≡ Some name → IfOk a (λ k. Grew G U p k (instruction name value)) → IfOk r (λ k. Copied G U p k T n)
  instruction-copied name value value_is no_element no_text no_comment named grew =
      let content : content_of T n ≡ Some (instruction name value) =
      instruction-content (content_of T n) name (kind-is-instruction (kind_of T n) takes.kid no_element no_text no_comment) named ∙ ap (λ (v : List ℕ). Some (instruction name v)) (sym value_is) in
      answered {P = λ k. Grew G U p k (instruction name value)} a b r same is grew (λ k h. leaf-copied T n (instruction name value) formed content refl G U p k live h)
