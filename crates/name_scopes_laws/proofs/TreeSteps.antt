-- One event more: the tree of the events so far, and the tree that then stands.
use Rattle.std.proofs.Common.{◌≡◌, ℕ, zero, suc, ◌+◌, ◌<◌, ◌≤◌, Bool, true, false, List, [], ◌∷◌, ◌++◌, length, get_or, take, sum_by, Option, None, Some, refl, sym, ap, ◌∙◌, subst, arith, append-nil, append_assoc, length-append, ltb-false, nat_lt}
use Rattle.std.specs.Prelude.{if◌then◌else◌}
use Rattle.std.specs.List.{list_any}
use Rattle.std.specs.Option.{option_or}
use Rattle.std.proofs.lemmas.Bool.{le-ltb, lt-leb}
use Rattle.std.proofs.lemmas.List.{take_all}
use Rattle.pyx_core.specs.declared.event.Attr.{Attr}
use Rattle.pyx_core.specs.declared.event.Event.{Event}
use Rattle.pyx_core.specs.declared.event.Event.TheVariants as event
use Rattle.pyx_core.specs.declared.mode.Mode.TheVariants.{Document}
use Rattle.pyx_core.specs.Nesting.{Fits, Place, StartFits, after}
use Rattle.doc_table.specs.inner.Sound.{Formed}
use Rattle.doc_table.proofs.Appending.{Appended, appended}
use Rattle.doc_table.proofs.DeclareLemmas.{declared, formed-declared, has-scopes}
use Rattle.doc_table.proofs.TreeLaws.{ways-up, well-formed}
use Rattle.doc_tree.specs.limits.TheConstants.{MAX_DEPTH, MAX_LIVE_NODES, MAX_LIVE_TEXT_BYTES}
use Rattle.doc_tree.specs.Declaring.{with_decl}
use Rattle.doc_tree.specs.Growth.{has_too_many, has_too_much_text, is_too_deep, passed_limit, with_node}
use Rattle.doc_tree.specs.Scope.{Decl, scope_at}
use Rattle.doc_tree.specs.Table.{Content, Table, attribute, decls_at, element, kind_at, parent_of, value_in}
use Rattle.doc_tree.specs.Walks.{above, order, text_bytes}
use Rattle.name_scopes.specs.Declarations.{declarations, is_plain, plain_attrs}
use Rattle.name_scopes.specs.DocFaults.{Standing, event_fault, has_pair, in_scope, lacks_prefix, limit_fault, moved, same_expanded, tag_fault, tag_nodes}
use Rattle.name_scopes.specs.Fragments.{plain_text}
use Rattle.name_scopes.specs.declared.fault.DocKind.TheVariants.{TooDeep, TooManyNodes}
use Rattle.name_scopes.specs.inner.Build.{AttributesAll, Begins, Builds, DeclaresAll, IsLeaf, Receives, attribute_name, element_name, leaf_of, value_bytes}
use Rattle.name_scopes.proofs.BeginLemmas.{begun, begun-receives}
use Rattle.name_scopes.proofs.LeafLemmas.{builds-end, builds-leaf, end-parent, leaf-fits, leaf-full}
use Rattle.name_scopes.proofs.NumberLemmas.{holder-live}
use Rattle.name_scopes.proofs.OpenElements.{open-depth}
use Rattle.name_scopes.proofs.PieceSteps.{leaf-plain, plain-more}
use Rattle.name_scopes.proofs.StartLemmas.{Attributing, Declaring, attributing-more, attributing-none, attributing-same, bytes-room, declaring-more, declaring-none, fits-next, kept-room}
use Rattle.name_scopes.proofs.StepLemmas.{builds-receives, builds-scope, builds-start}
use Rattle.name_scopes.proofs.TagFacts.{AreAttrs, TagIsGood, tag-good}

-- a tree of the events so far
pub record Grown (taken : List Event) (place : Place) (standing : Standing) : Type 0 where
  pub tree : Table
  pub node : ℕ
  pub formed : Formed tree
  pub builds : Builds [] taken place standing tree node
  pub bytes : text_bytes tree ≡ sum_by plain_text taken

pub or-none : {A : Type 0} (a b : Option A) → option_or a b ≡ None → (a ≡ None) × (b ≡ None)
or-none None b h = (refl, h)
or-none (Some x) b h = absurd (cc)

-- no limit is passed
pub within : (T : Table) (p : ℕ) (c : Content) → has_too_many T ≡ false → is_too_deep T p c ≡ false → text_bytes T + length (value_in c) ≤ MAX_LIVE_TEXT_BYTES → passed_limit T p c ≡ None
within T p c few shallow little =
    let short : has_too_much_text T c ≡ false = le-ltb MAX_LIVE_TEXT_BYTES (text_bytes T + length (value_in c)) little in
    rw (few, shallow, short) refl

pub leaf-shallow : (T : Table) (p : ℕ) (e : Event) → IsLeaf e → is_too_deep T p (leaf_of e) ≡ false
leaf-shallow T p (event.Start name attrs) leaf = absurd leaf
leaf-shallow T p (event.End name) leaf = absurd leaf
leaf-shallow T p (event.Chars characters) leaf = refl
leaf-shallow T p (event.Pi target body) leaf = refl
leaf-shallow T p (event.Comment characters) leaf = refl

-- what an element declares, one declaration after the other
declare-all : (T U : Table) (n : ℕ) (done rest : List Decl) → Formed U → Declaring T U n done → (V : Table) × Formed V × Declaring T V n (done ++ rest)
declare-all T U n done [] formed was = (U, formed, subst (Declaring T U n) (sym (append-nil done)) was)
declare-all T U n done (d ∷ rest) formed was =
    let next : Declaring T (with_decl U n d) n (done ++ d ∷ []) = declaring-more T U (with_decl U n d) n done d (declared U n d formed was.under) (ways-up U formed) was in
    let all = declare-all T (with_decl U n d) n (done ++ d ∷ []) rest (formed-declared U n d formed) next in
    (all.0, all.1, subst (Declaring T all.0 n) (append_assoc done (d ∷ []) rest) all.2)

item-at : {A : Type 0} (xs : List A) (i : ℕ) → i < length xs → (x : A) × (x ≡ get_or xs i x)
item-at [] i below = absurd (omega arith)
item-at (x ∷ xs) zero below = (x, refl)
item-at (x ∷ xs) (suc i) below = item-at xs i (omega arith)

-- the attributes of an element, one after the other
module _ (T : Table) (p : ℕ) (scope : List Decl) (attrs : List Attr) (ok : AreAttrs attrs) (known : list_any (lacks_prefix scope) (plain_attrs attrs) ≡ false)
    (differ : has_pair (same_expanded scope) (plain_attrs attrs) ≡ false) (room : length (order T) + length (plain_attrs attrs) ≤ MAX_LIVE_NODES)
    (little : text_bytes T + sum_by value_bytes (plain_attrs attrs) ≤ MAX_LIVE_TEXT_BYTES) where
  attribute-on : (i : ℕ) → i < length attrs → (U : Table) → Formed U → Attributing T U p scope (take i attrs) → (V : Table) × Formed V × Attributing T V p scope (take (i + 1) attrs)
  attribute-on i below U formed was = let at = item-at attrs i below in by at.0 at.1 (is_plain at.0) refl
    where
      by : (attr : Attr) → attr ≡ get_or attrs i attr → (b : Bool) → is_plain attr ≡ b → (V : Table) × Formed V × Attributing T V p scope (take (i + 1) attrs)
      by attr is false plain = (U, formed, attributing-same T U p scope attrs i attr below is plain was)
      by attr is true plain =
          let c : Content = attribute (attribute_name scope attr.name) attr.value in
          let few : has_too_many U ≡ false = lt-leb MAX_LIVE_NODES (length (order U)) (omega (arith, room, was.all.counted, kept-room attrs i attr below is plain)) in
          let short : text_bytes U + length attr.value ≤ MAX_LIVE_TEXT_BYTES = omega (arith, little, was.all.more_text, bytes-room attrs i attr below is plain) in
          let a : Appended U p c = appended U p c formed was.receives.holder (fits-next T U p scope attrs i attr below is plain differ was) was.receives.last was.receives.all_live (within U p c few refl short) in (
            with_node U p c,
            a.formed,
            attributing-more T U (with_node U p c) p (length U) scope attrs i attr below is plain a.grew (ways-up U formed) (well-formed U formed) (has-scopes U formed) ok known was,
          )

  attributes-on : (k i : ℕ) → i + k ≡ length attrs → (U : Table) → Formed U → Attributing T U p scope (take i attrs) → (V : Table) × Formed V × AttributesAll T V p scope attrs
  attributes-on zero i end U formed was = (U, formed, subst (AttributesAll T U p scope) (take_all i attrs (omega (arith, end))) was.all)
  attributes-on (suc k) i end U formed was =
      let next = attribute-on i (omega (arith, end)) U formed was in
      attributes-on k (i + 1) (omega (arith, end)) next.0 next.1 next.2

-- a start tag that passes no limit
limits : (nodes depth : ℕ) → limit_fault nodes depth ≡ None → (nodes ≤ MAX_LIVE_NODES) × (nat_lt MAX_DEPTH depth ≡ false)
limits nodes depth none = by (nat_lt MAX_LIVE_NODES nodes) (nat_lt MAX_DEPTH depth) refl refl none
  where
    by : (a b : Bool) → nat_lt MAX_LIVE_NODES nodes ≡ a → nat_lt MAX_DEPTH depth ≡ b → (if a then Some TooManyNodes else if b then Some TooDeep else None) ≡ None →
        (nodes ≤ MAX_LIVE_NODES) × (nat_lt MAX_DEPTH depth ≡ false)
    by true b few shallow h = absurd (cc)
    by false true few shallow h = absurd (cc)
    by false false few shallow h = (ltb-false MAX_LIVE_NODES nodes few, shallow)

-- an element begins under a node, where nothing speaks against it
module _ (T : Table) (p : ℕ) (formed : Formed T) (receives : Receives T p) (scope : List Decl) (place : Place) (name : List ℕ) (attrs : List Attr) (fits : StartFits place name attrs)
    (good : TagIsGood scope name attrs) (room : length (order T) + tag_nodes attrs ≤ MAX_LIVE_NODES) (shallow : nat_lt MAX_DEPTH (length (above T p)) ≡ false)
    (little : text_bytes T + sum_by value_bytes (plain_attrs attrs) ≤ MAX_LIVE_TEXT_BYTES) where
  content : Content
  content = element (element_name scope name) []

  started : Appended T p content
  unfolding content
  started =
      let few : has_too_many T ≡ false = lt-leb MAX_LIVE_NODES (length (order T)) (omega (arith, room)) in
      appended T p content formed receives.holder tt receives.last receives.all_live (within T p content few shallow (omega (arith, little)))

  declaring : (V : Table) × Formed V × Declaring (with_node T p content) V (length T) (declarations attrs)
  unfolding content
  declaring =
      let grew = started.grew in
      declare-all (with_node T p content) (with_node T p content) (length T) [] (declarations attrs) started.formed
      (declaring-none (with_node T p content) (length T) (ap kind_at grew.content) (ap decls_at grew.content) grew.no_kids grew.no_attributes)

  attributing : (W : Table) × Formed W × AttributesAll declaring.0 W (length T) scope attrs
  unfolding content
  attributing =
      let n : ℕ = length T in
      let U : Table = with_node T p content in
      let V : Table = declaring.0 in
      let decls : DeclaresAll U V n (declarations attrs) = declaring.2.all in
      let here : Receives V n = begun-receives T U V p n scope name attrs started.grew decls in
      attributes-on V n scope attrs fits.attributes good.all_known good.expanded
      (omega (arith, room, ap length decls.same_order, ap length started.grew.last_in_order, length-append (order T) (n ∷ [])))
      (omega (arith, little, decls.same_text, started.grew.more_text))
      (length attrs) 0 (omega arith) V declaring.1
      (attributing-none V n scope here declaring.2.under decls.no_kid decls.no_attribute)

  pub element-begun : (U : Table) × Formed U × Begins T U p (length T) scope name attrs
  unfolding content
  element-begun = (
    attributing.0,
    attributing.1,
    begun T (with_node T p content) declaring.0 p (length T) scope name attrs started.grew declaring.2.all (has-scopes T formed) (holder-live T p receives.holder) attributing.0 attributing.2 (ways-up T formed) (well-formed T formed)
        fits.named fits.attributes good,
  )

module _ (taken : List Event) (place : Place) (standing : Standing) (T : Table) (p : ℕ) (formed : Formed T) (builds : Builds [] taken place standing T p)
    (bytes : text_bytes T ≡ sum_by plain_text taken) where
  receives : Receives T p
  receives = builds-receives [] taken place standing T p builds

  leaf-few : (e : Event) → IsLeaf e → event_fault standing e ≡ None → has_too_many T ≡ false
  leaf-few e leaf none = by (has_too_many T) refl
    where
      by : (b : Bool) → has_too_many T ≡ b → b ≡ false
      by true is = absurd (let full : event_fault standing e ≡ Some TooManyNodes = leaf-full [] taken place standing T p builds e leaf is in cc)
      by false is = refl

  leaf-on : (e : Event) → IsLeaf e → Fits Document place e → sum_by plain_text taken + plain_text e ≤ MAX_LIVE_TEXT_BYTES → event_fault standing e ≡ None →
      Grown (taken ++ e ∷ []) (after Document place e) (moved standing e)
  leaf-on e leaf fits little none =
      let short : text_bytes T + length (value_in (leaf_of e)) ≤ MAX_LIVE_TEXT_BYTES = omega (arith, little, bytes, leaf-plain e leaf) in
      let a : Appended T p (leaf_of e) =
      appended T p (leaf_of e) formed receives.holder (leaf-fits [] taken place standing T p builds e leaf fits) receives.last receives.all_live
      (within T p (leaf_of e) (leaf-few e leaf none) (leaf-shallow T p e leaf) short) in
      record {
        tree = with_node T p (leaf_of e);
        node = p;
        formed = a.formed;
        builds = builds-leaf [] taken place standing T p builds (with_node T p (leaf_of e)) (length T) (ways-up T formed) (well-formed T formed) (has-scopes T formed) e leaf fits a.grew;
        bytes = omega (arith, a.grew.more_text, bytes, leaf-plain e leaf, plain-more taken e);
      }

  end-on : (name : List ℕ) → Fits Document place (event.End name) → Grown (taken ++ event.End name ∷ []) (after Document place (event.End name)) (moved standing (event.End name))
  end-on name fits = by (parent_of T p) refl
    where
      by : (o : Option ℕ) → parent_of T p ≡ o → Grown (taken ++ event.End name ∷ []) (after Document place (event.End name)) (moved standing (event.End name))
      by None is = absurd (end-parent [] taken place standing T p builds name (ways-up T formed) fits is)
      by (Some q) is = record {
        tree = T;
        node = q;
        formed = formed;
        builds = (builds-end [] taken place standing T p builds q name (ways-up T formed) is fits).builds_on;
        bytes = omega (arith, bytes, plain-more taken (event.End name));
      }

  -- an element begins
  module _ (name : List ℕ) (attrs : List Attr) (fits : StartFits place name attrs) (little : sum_by plain_text taken + sum_by value_bytes (plain_attrs attrs) ≤ MAX_LIVE_TEXT_BYTES)
      (none : event_fault standing (event.Start name attrs) ≡ None) where
    scope : List Decl
    scope = in_scope (declarations attrs ∷ standing.scopes)

    parts : (tag_fault scope name attrs ≡ None) × (limit_fault (standing.nodes + tag_nodes attrs) (suc (length standing.scopes)) ≡ None)
    unfolding scope
    parts = or-none (tag_fault scope name attrs) (limit_fault (standing.nodes + tag_nodes attrs) (suc (length standing.scopes))) none

    good : TagIsGood scope name attrs
    good = tag-good scope name attrs parts.0

    room : (standing.nodes + tag_nodes attrs ≤ MAX_LIVE_NODES) × (nat_lt MAX_DEPTH (suc (length standing.scopes)) ≡ false)
    room = limits (standing.nodes + tag_nodes attrs) (suc (length standing.scopes)) parts.1

    scope-is : scope ≡ declarations attrs ++ scope_at T p
    unfolding scope
    scope-is = ap (λ (l : List Decl). declarations attrs ++ l) (sym (builds-scope [] taken place standing T p builds (has-scopes T formed)))

    begun-here : (U : Table) × Formed U × Begins T U p (length T) scope name attrs
    begun-here =
        let shallow : nat_lt MAX_DEPTH (length (above T p)) ≡ false = ap (nat_lt MAX_DEPTH) (open-depth T place.opened standing.scopes p (ways-up T formed) builds.tells.way) ∙ room.1 in
        element-begun T p formed receives scope place name attrs fits good (omega (arith, builds.count, room.0)) shallow (omega (arith, bytes, little))

    start-on : Grown (taken ++ event.Start name attrs ∷ []) (after Document place (event.Start name attrs)) (moved standing (event.Start name attrs))
    start-on =
        let here : scope ≡ declarations attrs ++ (scope_at T p ++ []) = scope-is ∙ ap (λ (l : List Decl). declarations attrs ++ l) (sym (append-nil (scope_at T p))) in
        record {
          tree = begun-here.0;
          node = length T;
          formed = begun-here.1;
          builds = builds-start [] taken place standing T p builds begun-here.0 (length T) scope name attrs (well-formed T formed) fits here begun-here.2;
          bytes = omega (arith, begun-here.2.more_text, bytes, plain-more taken (event.Start name attrs));
        }

-- an event without fault leads a tree on
pub event-on : (taken : List Event) (place : Place) (standing : Standing) → Grown taken place standing → (e : Event) → Fits Document place e →
    sum_by plain_text taken + plain_text e ≤ MAX_LIVE_TEXT_BYTES → event_fault standing e ≡ None → Grown (taken ++ e ∷ []) (after Document place e) (moved standing e)
event-on taken place standing g (event.Start name attrs) fits little none = start-on taken place standing g.tree g.node g.formed g.builds g.bytes name attrs fits little none
event-on taken place standing g (event.End name) fits little none = end-on taken place standing g.tree g.node g.formed g.builds g.bytes name fits
event-on taken place standing g (event.Chars characters) fits little none = leaf-on taken place standing g.tree g.node g.formed g.builds g.bytes (event.Chars characters) tt fits little none
event-on taken place standing g (event.Pi target body) fits little none = leaf-on taken place standing g.tree g.node g.formed g.builds g.bytes (event.Pi target body) tt fits little none
event-on taken place standing g (event.Comment characters) fits little none = leaf-on taken place standing g.tree g.node g.formed g.builds g.bytes (event.Comment characters) tt fits little none
