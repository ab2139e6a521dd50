-- An element begins: what it declares, then its attributes, one by one.
use Rattle.std.proofs.Common.{◌≡◌, ◌≢◌, ℕ, ◌+◌, ◌<◌, ◌≤◌, suc, zero, Bool, true, false, ◌&&◌, ◌||◌, List, [], ◌∷◌, ◌++◌, length, map, get_or, take, drop, slice_get, sum_by, Option, None, Some, refl, sym, ap, ap₂, ◌∙◌, subst, ⊎_elim, true≢false, arith, append_assoc, append-nil, length-append}
use Rattle.std.proofs.lemmas.Bool.{and_parts}
use Rattle.std.specs.List.{flat_map, list_all, list_any}
use Rattle.std.specs.Option.{option_to_list}
use Rattle.std.proofs.lemmas.Slice.Eq.{bytes_eq-Decides}
use Rattle.std.proofs.lemmas.List.{map-append, take-append-drop, append_cancel_left}
use Rattle.std.proofs.lemmas.List.Concat.{flat_map-append}
use Rattle.std.proofs.lemmas.List.Elements.{filter-append}
use Rattle.std.proofs.lemmas.List.Sums.{sum_by-append, sum_by-cons}
use Rattle.pyx_core.specs.declared.event.Attr.{Attr}
use Rattle.pyx_core.specs.Nesting.{is_attr}
use Rattle.doc_tree.specs.kind.Kind.TheVariants.{Root, Element}
use Rattle.doc_tree.specs.Lists.{mem}
use Rattle.doc_tree.specs.Table.{Table, Content, attribute, kind_at, name_at, expanded, expanded_in, expanded_of, kind_of, kids_of, attrs_of, decls_of, is_live}
use Rattle.doc_tree.specs.Walks.{ancestors, order}
use Rattle.doc_tree.specs.Lines.{Line, declares}
use Rattle.doc_tree.specs.Growth.{Grew, AttributeFits}
use Rattle.doc_tree.specs.Kinds.{holds_kids}
use Rattle.doc_tree.specs.Laws.{HasWaysUp, WellFormed}
use Rattle.doc_tree.specs.Scope.{Decl, scope_at, first_declared, HasScopes}
use Rattle.doc_tree.specs.Declaring.{Declared, DeclaredLast}
use Rattle.name_scopes.specs.Declarations.{declaration_of, declarations, is_plain, plain_attrs}
use Rattle.name_scopes.specs.Scoping.{AttributeInScope, declares_twice}
use Rattle.name_scopes.specs.DocFaults.{has_pair, same_expanded, lacks_prefix, expanded_attr}
use Rattle.name_scopes.specs.inner.Build.{Receives, Says, DeclaresAll, AttributesAll, attribute_name, scoped_line, value_bytes}
use Rattle.name_scopes.proofs.NumberLemmas.{is-old, kind-live, mem-second, mem-push}
use Rattle.name_scopes.proofs.OpenElements.{kids-stay, tops-apart}
use Rattle.name_scopes.proofs.ScopeGrowth.{scope-kept, grown-scoped, declared-scoped}
use Rattle.name_scopes.proofs.TellLemmas.{tells-declared, tells-leaf}
use Rattle.name_scopes.proofs.TagLemmas.{one-more, one-less, next, kept-more, kept-same, kept-fails, pair-kept, pair-more, passed}
use Rattle.name_scopes.proofs.TagFacts.{AreAttrs, attribute-scoped, not-declared}

-- the declarations so far
pub record Declaring (T U : Table) (p : ℕ) (done : List Decl) : Type 0 where
  pub all : DeclaresAll T U p done
  pub under : kind_of U p ≡ Some Element

pub declaring-none : (T : Table) (p : ℕ) → kind_of T p ≡ Some Element → decls_of T p ≡ [] → kids_of T p ≡ [] → attrs_of T p ≡ [] → Declaring T T p []
declaring-none T p under no_decl no_kid no_attribute = record {
  all = record {
    tells = λ told name names scopes begun text tells. subst (λ (ls : List Line). Says ls (name ∷ names) ([] ∷ scopes) begun text T p) (sym (append-nil told)) tells;
    others = λ around m ne h. h;
    content = λ name h. h;
    decls_are = no_decl;
    upper = refl;
    same_open = refl;
    all_live = λ all. all;
    no_kid = no_kid;
    no_attribute = no_attribute;
    same_order = refl;
    same_text = refl;
    top_kids = refl;
  };
  under = under;
}

pub declaring-more : (T U V : Table) (p : ℕ) (done : List Decl) (d : Decl) → Declared U V p d → HasWaysUp U → Declaring T U p done → Declaring T V p (done ++ d ∷ [])
declaring-more T U V p done d more ways was =
    let last : DeclaredLast U V p d = more.while_last was.all.no_kid was.all.no_attribute in
    record {
      all = record {
        tells = λ told name names scopes begun text tells.
            subst (λ (ls : List Line). Says ls (name ∷ names) ((done ++ d ∷ []) ∷ scopes) begun text V p)
            (append_assoc told (map declares done) (declares d ∷ []) ∙ ap (λ (ls : List Line). told ++ ls) (sym (map-append declares done (d ∷ []))))
            (tells-declared U V p d name done (told ++ map declares done) names scopes begun text more ways was.all.no_kid was.all.no_attribute
            (was.all.tells told name names scopes begun text tells));
        others = λ around m ne h. declared-scoped U V p d more last.same_scope around m ne (was.all.others around m ne h);
        content = λ name h. more.content name done (was.all.content name h);
        decls_are = more.decls ∙ ap (λ (l : List Decl). l ++ d ∷ []) was.all.decls_are;
        upper = append_cancel_left (decls_of V p) (flat_map (decls_of V) (ancestors V p)) (flat_map (decls_of U) (ancestors U p))
            (last.scope ∙ ap (λ (l : List Decl). l ++ flat_map (decls_of U) (ancestors U p)) (sym more.decls)) ∙ was.all.upper;
        same_open = more.same_open p ∙ was.all.same_open;
        all_live = λ all. more.all_live (was.all.all_live all);
        no_kid = more.same_kids p ∙ was.all.no_kid;
        no_attribute = more.same_attributes p ∙ was.all.no_attribute;
        same_order = more.same_order ∙ was.all.same_order;
        same_text = more.same_text ∙ was.all.same_text;
        top_kids = more.same_kids 0 ∙ was.all.top_kids;
      };
      under = more.same_kind p ∙ was.under;
    }

module _ (attrs : List Attr) (i : ℕ) (attr : Attr) (below : i < length attrs) (is : attr ≡ get_or attrs i attr) where
  -- what the next attribute declares comes after what those before it declare
  pub declared-next : declarations (take (i + 1) attrs) ≡ declarations (take i attrs) ++ option_to_list (declaration_of attr)
  declared-next =
      ap declarations (next is_plain attrs i attr below is)
      ∙ (flat_map-append (λ a. option_to_list (declaration_of a)) (take i attrs) (attr ∷ [])
      ∙ ap (λ (l : List Decl). declarations (take i attrs) ++ l) (append-nil (option_to_list (declaration_of attr))))

  declared-split : declarations attrs ≡ (declarations (take i attrs) ++ option_to_list (declaration_of attr)) ++ declarations (drop (i + 1) attrs)
  declared-split =
      ap declarations (sym (take-append-drop (i + 1) attrs))
      ∙ (flat_map-append (λ a. option_to_list (declaration_of a)) (take (i + 1) attrs) (drop (i + 1) attrs)
      ∙ ap (λ (l : List Decl). l ++ declarations (drop (i + 1) attrs)) declared-next)

  pub next-undeclared : (d : Decl) → declares_twice (declarations attrs) ≡ false → declaration_of attr ≡ Some d → first_declared (declarations (take i attrs)) d.0 ≡ None
  next-undeclared d once e =
      let split : declarations attrs ≡ declarations (take i attrs) ++ d ∷ declarations (drop (i + 1) attrs) =
      declared-split ∙ (ap (λ o. (declarations (take i attrs) ++ option_to_list o) ++ declarations (drop (i + 1) attrs)) e
      ∙ append_assoc (declarations (take i attrs)) (d ∷ []) (declarations (drop (i + 1) attrs))) in
      not-declared (declarations (take i attrs)) (declarations (drop (i + 1) attrs)) d (ap declares_twice (sym split) ∙ once)

-- what holds of all attributes holds of each
pub all-at : (attrs : List Attr) (i : ℕ) (attr : Attr) → i < length attrs → attr ≡ get_or attrs i attr → AreAttrs attrs → is_attr attr ≡ true
all-at [] i attr below is ok = absurd (omega arith)
all-at (a ∷ attrs) zero attr below is ok = ap is_attr is ∙ (and_parts (is_attr a) (list_all is_attr attrs) ok).0
all-at (a ∷ attrs) (suc i) attr below is ok = all-at attrs i attr (omega arith) is (and_parts (is_attr a) (list_all is_attr attrs) ok).1

or-right : (a : Bool) → (a || true) ≡ true
or-right true = refl
or-right false = refl

-- an attribute node of one of these attributes
pub record IsOneOf (U : Table) (scope : List Decl) (done : List Attr) (a : ℕ) : Type 0 where
  pub attr : Attr
  pub place : ℕ
  pub stands : slice_get done place ≡ Some attr
  pub expanded_is : expanded_of U a ≡ Some (expanded (attribute_name scope attr.name))

-- the attributes so far
pub record Attributing (T U : Table) (p : ℕ) (scope : List Decl) (done : List Attr) : Type 0 where
  pub all : AttributesAll T U p scope done
  pub receives : Receives U p
  pub under : kind_of U p ≡ Some Element
  pub named : (a : ℕ) → mem a (attrs_of U p) ≡ true → IsOneOf U scope (plain_attrs done) a
  pub scope_is : scope_at U p ≡ scope_at T p

pub attributing-none : (T : Table) (p : ℕ) (scope : List Decl) → Receives T p → kind_of T p ≡ Some Element → kids_of T p ≡ [] → attrs_of T p ≡ [] → Attributing T T p scope []
attributing-none T p scope receives under no_kid no_attribute = record {
  all = record {
    tells = λ told names scopes begun text tells.
        subst (λ (ls : List Line). Says ls names scopes begun (text + 0) T p) (sym (append-nil told))
        (let same : text ≡ text + 0 = omega arith in subst (λ (k : ℕ). Says told names scopes begun k T p) same tells);
    scoped = λ around is h. h;
    no_kid = no_kid;
    counted = omega arith;
    more_text = omega arith;
    top_kids = refl;
  };
  receives = receives;
  under = under;
  named = λ a among. absurd (true≢false (sym among ∙ ap (mem a) no_attribute));
  scope_is = refl;
}

more-bytes : (done : List Attr) (attr : Attr) → sum_by value_bytes (done ++ attr ∷ []) ≡ sum_by value_bytes done + length attr.value
more-bytes done attr = sum_by-append value_bytes done (attr ∷ []) ∙ ap (λ (k : ℕ). sum_by value_bytes done + k) (sum_by-cons value_bytes attr [] ∙ omega arith)

get-front : {K : Type 0} (xs ys : List K) (i : ℕ) (x : K) → slice_get xs i ≡ Some x → slice_get (xs ++ ys) i ≡ Some x
get-front [] ys i x h = absurd (cc)
get-front (y ∷ xs) ys zero x h = h
get-front (y ∷ xs) ys (suc i) x h = get-front xs ys i x h

get-back : {K : Type 0} (xs : List K) (x : K) → slice_get (xs ++ x ∷ []) (length xs) ≡ Some x
get-back [] x = refl
get-back (y ∷ xs) x = get-back xs x

-- the next attribute is a new one
pub fits-next : (T U : Table) (p : ℕ) (scope : List Decl) (attrs : List Attr) (i : ℕ) (attr : Attr) → i < length attrs → attr ≡ get_or attrs i attr → is_plain attr ≡ true →
    has_pair (same_expanded scope) (plain_attrs attrs) ≡ false → Attributing T U p scope (take i attrs) → AttributeFits U p (attribute_name scope attr.name)
fits-next T U p scope attrs i attr below is plain differ was = record {
  under = was.under;
  no_kid = was.all.no_kid;
  is_new = λ a among same.
      let one : IsOneOf U scope (plain_attrs (take i attrs)) a = was.named a among in
      let both : expanded (attribute_name scope one.attr.name) ≡ expanded (attribute_name scope attr.name) = let e : Some (expanded (attribute_name scope one.attr.name)) ≡ Some (expanded (attribute_name scope attr.name)) = sym one.expanded_is ∙ same in cc in
      let pair : same_expanded scope one.attr attr ≡ true =
      ap₂ (λ x y. x && y) ((bytes_eq-Decides (expanded_attr scope one.attr).local (expanded_attr scope attr).local).1 (ap (λ (e : List ℕ × List ℕ). e.1) both))
      ((bytes_eq-Decides (expanded_attr scope one.attr).uri (expanded_attr scope attr).uri).1 (ap (λ (e : List ℕ × List ℕ). e.0) both)) in
      let found : has_pair (same_expanded scope) (plain_attrs attrs) ≡ true =
      pair-kept is_plain attrs i attr below is (same_expanded scope) plain
      (pair-more (same_expanded scope) (plain_attrs (take i attrs)) attr
      ∙ (ap (λ b. has_pair (same_expanded scope) (plain_attrs (take i attrs)) || b) (passed (λ x. same_expanded scope x attr) (plain_attrs (take i attrs)) one.place one.attr one.stands pair)
      ∙ or-right (has_pair (same_expanded scope) (plain_attrs (take i attrs))))) in
      true≢false (sym found ∙ differ);
}

module _ (T U V : Table) (p n : ℕ) (scope : List Decl) (attrs : List Attr) (i : ℕ) (attr : Attr) (below : i < length attrs) (is : attr ≡ get_or attrs i attr) (plain : is_plain attr ≡ true)
    (grew : Grew U V p n (attribute (attribute_name scope attr.name) attr.value)) (ways : HasWaysUp U) (formed : WellFormed U) (laws : HasScopes U) (ok : AreAttrs attrs)
    (known : list_any (lacks_prefix scope) (plain_attrs attrs) ≡ false) (was : Attributing T U p scope (take i attrs)) where
  live : is_live U p ≡ true
  live = kind-live U p Element was.under

  front : take (i + 1) attrs ≡ take i attrs ++ attr ∷ []
  front = next is_plain attrs i attr below is

  kept : plain_attrs (take (i + 1) attrs) ≡ plain_attrs (take i attrs) ++ attr ∷ []
  kept = kept-more is_plain attrs i attr below is plain

  old : p ≢ n
  old = is-old U p n live grew.number

  apart : p ≢ 0
  apart e =
      let zero_kind : kind_of U p ≡ Some Root = subst (λ (m : ℕ). kind_of U m ≡ Some Root) (sym e) formed.root_kind in
      let kind : kind_of U p ≡ Some Element = was.under in absurd (cc)

  kind-same : kind_of V p ≡ kind_of U p
  kind-same = ap kind_at (grew.same_content p old)

  named-more : (a : ℕ) → mem a (attrs_of V p) ≡ true → IsOneOf V scope (plain_attrs (take (i + 1) attrs)) a
  named-more a among = ⊎_elim
      (λ (h : mem a (attrs_of U p) ≡ true).
      let one : IsOneOf U scope (plain_attrs (take i attrs)) a = was.named a h in
      let older : a ≢ n = is-old U a n (ways.attribute_live p a h) grew.number in
      let r : IsOneOf V scope (plain_attrs (take (i + 1) attrs)) a = record {
        attr = one.attr;
        place = one.place;
        stands = ap (λ (l : List Attr). slice_get l one.place) kept ∙ get-front (plain_attrs (take i attrs)) (attr ∷ []) one.place one.attr one.stands;
        expanded_is = ap (λ (c : Option Content). expanded_in (name_at c)) (grew.same_content a older) ∙ one.expanded_is;
      } in r)
      (λ (e : a ≡ n).
      let r : IsOneOf V scope (plain_attrs (take (i + 1) attrs)) a = record {
        attr = attr;
        place = length (plain_attrs (take i attrs));
        stands = ap (λ (l : List Attr). slice_get l (length (plain_attrs (take i attrs)))) kept ∙ get-back (plain_attrs (take i attrs)) attr;
        expanded_is = ap (expanded_of V) e ∙ ap (λ (c : Option Content). expanded_in (name_at c)) grew.content;
      } in r)
      (mem-push a n (attrs_of U p) (ap (mem a) (sym grew.parent_attributes) ∙ among))

  pub attributing-more : Attributing T V p scope (take (i + 1) attrs)
  attributing-more = record {
    all = record {
      tells = λ told names scopes begun text tells.
          let before : Says (told ++ map (scoped_line scope) (plain_attrs (take i attrs))) names scopes begun (text + sum_by value_bytes (take i attrs)) U p = was.all.tells told names scopes begun text tells in
          let after : Says ((told ++ map (scoped_line scope) (plain_attrs (take i attrs))) ++ scoped_line scope attr ∷ []) names scopes begun ((text + sum_by value_bytes (take i attrs)) + length attr.value) V p =
          tells-leaf U V p n _ (told ++ map (scoped_line scope) (plain_attrs (take i attrs))) names scopes begun (text + sum_by value_bytes (take i attrs)) grew ways refl (tops-apart U V p n _ grew ways formed begun apart before.top) before in
          let lines : (told ++ map (scoped_line scope) (plain_attrs (take i attrs))) ++ scoped_line scope attr ∷ [] ≡ told ++ map (scoped_line scope) (plain_attrs (take (i + 1) attrs)) =
          append_assoc told (map (scoped_line scope) (plain_attrs (take i attrs))) (scoped_line scope attr ∷ [])
          ∙ ap (λ (ls : List Line). told ++ ls) (sym (ap (map (scoped_line scope)) kept ∙ map-append (scoped_line scope) (plain_attrs (take i attrs)) (attr ∷ []))) in
          let bytes : (text + sum_by value_bytes (take i attrs)) + length attr.value ≡ text + sum_by value_bytes (take (i + 1) attrs) =
          omega (arith, more-bytes (take i attrs) attr, ap (sum_by value_bytes) front) in
          subst (λ (ls : List Line). Says ls names scopes begun (text + sum_by value_bytes (take (i + 1) attrs)) V p) lines
          (subst (λ (k : ℕ). Says ((told ++ map (scoped_line scope) (plain_attrs (take i attrs))) ++ scoped_line scope attr ∷ []) names scopes begun k V p) bytes after);
      scoped = λ around is_scope h. grown-scoped U V p n _ grew laws around live (was.all.scoped around is_scope h)
          (subst (λ (s : List Decl). AttributeInScope s (attribute_name scope attr.name) attr.value) (is_scope ∙ ap (λ (s : List Decl). s ++ around) (sym was.scope_is))
          (attribute-scoped scope attr (all-at attrs i attr below is ok) plain (kept-fails is_plain attrs i attr below is (lacks_prefix scope) known plain)));
      no_kid = grew.parent_kids ∙ (append-nil (kids_of U p) ∙ was.all.no_kid);
      counted = omega (arith, ap length grew.last_in_order, length-append (order U) (n ∷ []), was.all.counted, ap length kept, length-append (plain_attrs (take i attrs)) (attr ∷ []));
      more_text = omega (arith, grew.more_text, was.all.more_text, ap (sum_by value_bytes) kept, more-bytes (plain_attrs (take i attrs)) attr);
      top_kids = kids-stay U V p n _ grew ways formed apart ∙ was.all.top_kids;
    };
    receives = record {
      holder = ap holds_kids kind-same ∙ was.receives.holder;
      last = grew.stays_open p (mem-second p n (ancestors U p));
      all_live = grew.all_live;
    };
    under = kind-same ∙ was.under;
    named = named-more;
    scope_is = scope-kept U V p n _ grew laws p live ∙ was.scope_is;
  }

-- an attribute that declares something brings no node
pub attributing-same : (T U : Table) (p : ℕ) (scope : List Decl) (attrs : List Attr) (i : ℕ) (attr : Attr) → i < length attrs → attr ≡ get_or attrs i attr → is_plain attr ≡ false →
    Attributing T U p scope (take i attrs) → Attributing T U p scope (take (i + 1) attrs)
attributing-same T U p scope attrs i attr below is plain was =
    let front : take (i + 1) attrs ≡ take i attrs ++ attr ∷ [] = next is_plain attrs i attr below is in
    let kept : plain_attrs (take (i + 1) attrs) ≡ plain_attrs (take i attrs) = kept-same is_plain attrs i attr below is plain in
    let bytes : sum_by value_bytes (take (i + 1) attrs) ≡ sum_by value_bytes (take i attrs) + length attr.value = ap (sum_by value_bytes) front ∙ more-bytes (take i attrs) attr in
    record {
      all = record {
        tells = λ told names scopes begun text tells.
            let before : Says (told ++ map (scoped_line scope) (plain_attrs (take i attrs))) names scopes begun (text + sum_by value_bytes (take i attrs)) U p = was.all.tells told names scopes begun text tells in
            subst (λ (l : List Attr). Says (told ++ map (scoped_line scope) l) names scopes begun (text + sum_by value_bytes (take (i + 1) attrs)) U p) (sym kept) (record {
              lines_are = before.lines_are;
              all_live = before.all_live;
              last = before.last;
              way = before.way;
              top = before.top;
              numbered_so = before.numbered_so;
              little = omega (arith, before.little, bytes);
            });
        scoped = was.all.scoped;
        no_kid = was.all.no_kid;
        counted = omega (arith, was.all.counted, ap length kept);
        more_text = omega (arith, was.all.more_text, ap (sum_by value_bytes) kept);
        top_kids = was.all.top_kids;
      };
      receives = was.receives;
      under = was.under;
      named = λ a among. subst (λ (l : List Attr). IsOneOf U scope l a) (sym kept) (was.named a among);
      scope_is = was.scope_is;
    }

-- there is room for the next one
module _ (attrs : List Attr) (i : ℕ) (attr : Attr) (below : i < length attrs) (is : attr ≡ get_or attrs i attr) where
  pub kept-room : is_plain attr ≡ true → length (plain_attrs (take i attrs)) + 1 ≤ length (plain_attrs attrs)
  kept-room plain =
      omega (
        arith,
        ap (λ (l : List Attr). length (plain_attrs l)) (take-append-drop (i + 1) attrs),
        ap (λ (l : List Attr). length l) (filter-append is_plain (take (i + 1) attrs) (drop (i + 1) attrs)),
        length-append (plain_attrs (take (i + 1) attrs)) (plain_attrs (drop (i + 1) attrs)),
        ap (λ (l : List Attr). length l) (kept-more is_plain attrs i attr below is plain),
        length-append (plain_attrs (take i attrs)) (attr ∷ []),
      )

  pub bytes-room : is_plain attr ≡ true → sum_by value_bytes (plain_attrs (take i attrs)) + length attr.value ≤ sum_by value_bytes (plain_attrs attrs)
  bytes-room plain =
      omega (
        arith,
        ap (λ (l : List Attr). sum_by value_bytes (plain_attrs l)) (take-append-drop (i + 1) attrs),
        ap (sum_by value_bytes) (filter-append is_plain (take (i + 1) attrs) (drop (i + 1) attrs)),
        sum_by-append value_bytes (plain_attrs (take (i + 1) attrs)) (plain_attrs (drop (i + 1) attrs)),
        ap (sum_by value_bytes) (kept-more is_plain attrs i attr below is plain),
        more-bytes (plain_attrs (take i attrs)) attr,
      )

-- the values without those of declarations are no longer than all
pub plain-bytes : (attrs : List Attr) → sum_by value_bytes (plain_attrs attrs) ≤ sum_by value_bytes attrs
plain-bytes [] = omega arith
plain-bytes (a ∷ attrs) = by (is_plain a) refl (plain-bytes attrs)
  where
    by : (b : Bool) → is_plain a ≡ b → sum_by value_bytes (plain_attrs attrs) ≤ sum_by value_bytes attrs → sum_by value_bytes (plain_attrs (a ∷ attrs)) ≤ sum_by value_bytes (a ∷ attrs)
    by true e rest = omega (arith, rest, ap (sum_by value_bytes) (one-more is_plain a attrs e), sum_by-cons value_bytes a (plain_attrs attrs), sum_by-cons value_bytes a attrs)
    by false e rest = omega (arith, rest, ap (sum_by value_bytes) (one-less is_plain a attrs e), sum_by-cons value_bytes a attrs)
