-- The items of a tree in scope may stand where they do; around the tree are these declarations.
use Rattle.std.proofs.Common.{◌≡◌, ◌≢◌, ℕ, zero, suc, ◌+◌, ◌≤◌, ◌==◌, Bool, true, false, ◌&&◌, ◌||◌, List, [], ◌∷◌, ◌++◌, length, Option, None, Some, refl, ap, ◌∙◌, subst, arith, append_assoc}
use Rattle.std.specs.Prelude.{if◌then◌else◌}
use Rattle.doc_tree.specs.kind.Kind.TheVariants.{Attribute}
use Rattle.doc_tree.specs.limits.TheConstants.{MAX_DEPTH}
use Rattle.doc_tree.specs.Kinds.{can_be_kid, is_text}
use Rattle.doc_tree.specs.Laws.{TextsApart}
use Rattle.doc_tree.specs.Lists.{mem, occurs, Distinct}
use Rattle.doc_tree.specs.Scope.{Decl, scope_at}
use Rattle.doc_tree.specs.Table.{Table, Name, Content, root, element, attribute, text, comment, instruction, content_of, kind_of, kind_at, decls_at, value_at, kids_of, attrs_of, parent_of, expanded, expanded_of, expanded_in, name_at}
use Rattle.doc_tree.specs.Walks.{ancestors}
use Rattle.name_scopes.specs.Fragments.{PieceInScope}
use Rattle.name_scopes.specs.Scoping.{ContentInScope}
use Rattle.name_scopes.proofs.Items.{Items, Pair, PairsFit, Differs, AllDiffer, TagFits, Fit}
use Rattle.name_scopes.proofs.ItemTables.{IsTree, AreKids, AreAttributes, pairs_in, pairs_of, item, items_at, kids-are, attributes-are, same_number, mem_first, mem_later}

-- attributes are in the scope of their element
pair-fits : (scope : List Decl) (c : Option Content) (rest : List Pair) → ContentInScope scope c → PairsFit scope rest → PairsFit scope (pairs_in c ++ rest)
pair-fits scope None rest own fit = fit
pair-fits scope (Some root) rest own fit = fit
pair-fits scope (Some (element name decls)) rest own fit = fit
pair-fits scope (Some (attribute name value)) rest own fit = (own, fit)
pair-fits scope (Some (text characters)) rest own fit = fit
pair-fits scope (Some (comment characters)) rest own fit = fit
pair-fits scope (Some (instruction name body)) rest own fit = fit

no_decls : (c : Option Content) → kind_at c ≡ Some Attribute → decls_at c ≡ []
no_decls None kind = refl
no_decls (Some root) kind = refl
no_decls (Some (element name decls)) kind = absurd (cc)
no_decls (Some (attribute name value)) kind = refl
no_decls (Some (text characters)) kind = refl
no_decls (Some (comment characters)) kind = refl
no_decls (Some (instruction name body)) kind = refl

pairs-fit : (around : List Decl) (T : Table) → IsTree T → PieceInScope around T → (p : ℕ) (ns : List ℕ) → AreAttributes T p ns → PairsFit (scope_at T p ++ around) (pairs_of T ns)
pairs-fit around T tree scoped p [] are = tt
pairs-fit around T tree scoped p (a ∷ ns) are =
    let same : scope_at T a ≡ scope_at T p = tree.scopes.under a p are.1 ∙ ap (λ (ds : List Decl). ds ++ scope_at T p) (no_decls (content_of T a) are.0) in
    let P : List Decl → Type 0 = λ scope. ContentInScope (scope ++ around) (content_of T a) in
    pair-fits (scope_at T p ++ around) (content_of T a) (pairs_of T ns) (subst P same (scoped a)) (pairs-fit around T tree scoped p ns are.2)

-- their expanded names differ
pair-differs : (name : Name) (c : Option Content) (rest : List Pair) → Some (expanded name) ≢ expanded_in (name_at c) → Differs name rest → Differs name (pairs_in c ++ rest)
pair-differs name None rest apart differs = differs
pair-differs name (Some root) rest apart differs = differs
pair-differs name (Some (element _ decls)) rest apart differs = differs
pair-differs name (Some (attribute other value)) rest apart differs = (λ e. apart (ap Some e), differs)
pair-differs name (Some (text characters)) rest apart differs = differs
pair-differs name (Some (comment characters)) rest apart differs = differs
pair-differs name (Some (instruction _ body)) rest apart differs = differs

mem-occurs : (n : ℕ) (ms : List ℕ) → mem n ms ≡ true → 1 ≤ occurs n ms
mem-occurs n [] is = absurd (cc)
mem-occurs n (m ∷ ms) is = by_eq (n == m) refl (mem-occurs n ms) is
  where
    by_eq : (b : Bool) → (n == m) ≡ b → (mem n ms ≡ true → 1 ≤ occurs n ms) → (b || mem n ms) ≡ true → 1 ≤ (if b then 1 else 0) + occurs n ms
    by_eq true e later is = omega arith
    by_eq false e later is = omega (arith, later is)

-- what stands after a number in a list without repetition is another
apart-from : (a b : ℕ) (ns : List ℕ) → Distinct (a ∷ ns) → mem b ns ≡ true → a ≢ b
apart-from a b ns once there same =
    let here : mem a ns ≡ true = rw same there in
    let twice : (if a == a then 1 else 0) + occurs a ns ≤ 1 = once a in
    let more : 1 + occurs a ns ≤ 1 = rw (same_number a) at twice in
    absurd (omega (arith, mem-occurs a ns here))

distinct-rest : (a : ℕ) (ns : List ℕ) → Distinct (a ∷ ns) → Distinct ns
distinct-rest a ns once n = by (n == a) (once n)
  where
    by : (b : Bool) → (if b then 1 else 0) + occurs n ns ≤ 1 → occurs n ns ≤ 1
    by true h = omega arith
    by false h = omega arith

differs-all : (T : Table) (name : Name) (ns : List ℕ) → ((b : ℕ) → mem b ns ≡ true → Some (expanded name) ≢ expanded_of T b) → Differs name (pairs_of T ns)
differs-all T name [] apart = tt
differs-all T name (b ∷ ns) apart =
    pair-differs name (content_of T b) (pairs_of T ns) (apart b (mem_first b ns)) (differs-all T name ns (λ m h. apart m (mem_later m b ns h)))

pair-all-differ : (c : Option Content) (rest : List Pair) → ((name : Name) (value : List ℕ) → c ≡ Some (attribute name value) → Differs name rest) → AllDiffer rest → AllDiffer (pairs_in c ++ rest)
pair-all-differ None rest one all = all
pair-all-differ (Some root) rest one all = all
pair-all-differ (Some (element name decls)) rest one all = all
pair-all-differ (Some (attribute name value)) rest one all = (one name value refl, all)
pair-all-differ (Some (text characters)) rest one all = all
pair-all-differ (Some (comment characters)) rest one all = all
pair-all-differ (Some (instruction name body)) rest one all = all

pairs-differ : (T : Table) (ns : List ℕ) → Distinct ns → ((a b : ℕ) → mem a ns ≡ true → mem b ns ≡ true → expanded_of T a ≡ expanded_of T b → a ≡ b) → AllDiffer (pairs_of T ns)
pairs-differ T [] once names = tt
pairs-differ T (a ∷ ns) once names = pair-all-differ (content_of T a) (pairs_of T ns)
    (λ name value is. differs-all T name ns (λ b there same.
    apart-from a b ns once there (names a b (mem_first a ns) (mem_later b a ns there) (ap (λ (c : Option Content). expanded_in (name_at c)) is ∙ same))))
    (pairs-differ T ns (distinct-rest a ns once) (λ x y in_x in_y same. names x y (mem_later x a ns in_x) (mem_later y a ns in_y) same))

-- no text after a text
abbrev pub TextsBehind : Table → Bool → List ℕ → Type 0
TextsBehind T behind [] = Unit {0}
TextsBehind T behind (n ∷ ns) = ((behind && is_text (kind_of T n)) ≡ false) × TextsBehind T (is_text (kind_of T n)) ns

texts-behind : (T : Table) (n : ℕ) (ns : List ℕ) → TextsApart T (n ∷ ns) → TextsBehind T (is_text (kind_of T n)) ns
texts-behind T n [] apart = tt
texts-behind T n (m ∷ ms) apart = (apart.0, texts-behind T m ms apart.1)

pub texts-are : (T : Table) (ns : List ℕ) → TextsApart T ns → TextsBehind T false ns
texts-are T [] apart = tt
texts-are T (n ∷ ns) apart = (refl, texts-behind T n ns apart)

not-behind : (b : Bool) → (b && true) ≡ false → b ≡ false
not-behind true h = absurd (cc)
not-behind false h = refl

-- a node of a content with what is after it
module _ (around : List Decl) (T : Table) (tree : IsTree T) (scoped : PieceInScope around T) (kids : List ℕ → Items) (n p : ℕ) (rest : Items) (behind : Bool) (parent : parent_of T n ≡ Some p) where
  abbrev scope : ℕ → List Decl
  scope m = scope_at T m ++ around

  own : (c : Option Content) → content_of T n ≡ c → ContentInScope (scope n) c
  own c is = let P : Option Content → Type 0 = λ c. ContentInScope (scope n) c in subst P is (scoped n)

  tag-fits : (name : Name) (decls : List Decl) → content_of T n ≡ Some (element name decls) → TagFits (scope n) name decls (pairs_of T (attrs_of T n))
  tag-fits name decls is =
      record {
        element = own (Some (element name decls)) is;
        attributes = pairs-fit around T tree scoped n (attrs_of T n) (attributes-are T tree.formed n);
        differ = pairs-differ T (attrs_of T n) (tree.formed.attributes_once n) (λ a b. tree.formed.names_differ n a b);
      }

  element-fits : (name : Name) (decls : List Decl) → content_of T n ≡ Some (element name decls) → Fit (scope n) (length (ancestors T n)) false (kids (kids_of T n)) →
      TagFits (decls ++ scope p) name decls (pairs_of T (attrs_of T n)) × (suc (length (ancestors T p)) ≤ MAX_DEPTH) × Fit (decls ++ scope p) (suc (length (ancestors T p))) false (kids (kids_of T n))
  element-fits name decls is below =
      let under : scope_at T n ≡ decls ++ scope_at T p = tree.scopes.under n p parent ∙ ap (λ (c : Option Content). decls_at c ++ scope_at T p) is in
      let here : scope n ≡ decls ++ scope p = ap (λ (ds : List Decl). ds ++ around) under ∙ append_assoc decls (scope_at T p) around in
      let depth : length (ancestors T n) ≡ suc (length (ancestors T p)) = ap length (tree.ways.ancestors_at n p parent) in
      let shallow : length (ancestors T n) ≤ MAX_DEPTH = tree.formed.not_deep n (ap kind_at is) in
      let P : List Decl → Type 0 = λ s. TagFits s name decls (pairs_of T (attrs_of T n)) in
      let Q : List Decl → Type 0 = λ s. Fit s (length (ancestors T n)) false (kids (kids_of T n)) in
      let R : ℕ → Type 0 = λ d. Fit (decls ++ scope p) d false (kids (kids_of T n)) in
      (subst P here (tag-fits name decls is), omega arith, subst R depth (subst Q here below))

  kid-fits : (c : Option Content) → content_of T n ≡ c → can_be_kid (kind_at c) ≡ true → (behind && is_text (kind_at c)) ≡ false →
      Fit (scope n) (length (ancestors T n)) false (kids (kids_of T n)) → Fit (scope p) (length (ancestors T p)) (is_text (kind_at c)) rest →
      Fit (scope p) (length (ancestors T p)) behind (item T kids n c rest)
  kid-fits None is can apart below later = absurd (cc)
  kid-fits (Some root) is can apart below later = absurd (cc)
  kid-fits (Some (element name decls)) is can apart below later = let f = element-fits name decls is below in (f.0, f.1, f.2, later)
  kid-fits (Some (attribute name value)) is can apart below later = absurd (cc)
  kid-fits (Some (text characters)) is can apart below later =
      (not-behind behind apart, λ none. tree.formed.some_text n (ap kind_at is) (ap value_at is ∙ none), own (Some (text characters)) is, later)
  kid-fits (Some (comment characters)) is can apart below later = (own (Some (comment characters)) is, later)
  kid-fits (Some (instruction name body)) is can apart below later = (own (Some (instruction name body)) is, later)

along-fits : (around : List Decl) (T : Table) (tree : IsTree T) (scoped : PieceInScope around T) (levels : ℕ) →
    ((q : ℕ) (ms : List ℕ) → AreKids T q ms → TextsBehind T false ms → Fit (scope_at T q ++ around) (length (ancestors T q)) false (items_at T levels ms)) →
    (p : ℕ) (ns : List ℕ) (behind : Bool) → AreKids T p ns → TextsBehind T behind ns → Fit (scope_at T p ++ around) (length (ancestors T p)) behind (items_at T (suc levels) ns)
along-fits around T tree scoped levels below p [] behind are apart = tt
along-fits around T tree scoped levels below p (n ∷ ns) behind are apart =
    kid-fits around T tree scoped (λ ms. items_at T levels ms) n p (items_at T (suc levels) ns) behind are.1 (content_of T n) refl are.0 apart.0
    (below n (kids_of T n) (kids-are T tree.formed n) (texts-are T (kids_of T n) (tree.formed.texts_apart n)))
    (along-fits around T tree scoped levels below p ns (is_text (kind_of T n)) are.2 apart.1)

pub items-fit : (around : List Decl) (T : Table) → IsTree T → PieceInScope around T → (levels p : ℕ) (ns : List ℕ) → AreKids T p ns → TextsBehind T false ns →
    Fit (scope_at T p ++ around) (length (ancestors T p)) false (items_at T levels ns)
items-fit around T tree scoped zero p ns are apart = tt
items-fit around T tree scoped (suc levels) p ns are apart = along-fits around T tree scoped levels (λ q ms h t. items-fit around T tree scoped levels q ms h t) p ns false are apart
