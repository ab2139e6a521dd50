-- Texts, comments, instructions and ends taken by a tree under way.
use Rattle.std.proofs.Common.{◌≡◌, ◌≢◌, ℕ, ◌+◌, suc, Bool, true, false, List, [], ◌∷◌, ◌++◌, length, map, drop, sum_by, Option, None, Some, refl, sym, ap, ◌∙◌, subst, ⊎_elim, true≢false, arith, nat_lt, length-append}
use Rattle.std.specs.Prelude.{if◌then◌else◌, is_none, nat_le}
use Rattle.std.proofs.lemmas.Bool.{leb-false, leb-true, le-ltb, lt-ltb, cases_eq}
use Rattle.std.proofs.Math.Seq.{drop-append_seam}
use Rattle.sch_base.specs.Lists.{is_nil}
use Rattle.pyx_core.specs.declared.event.Event.{Event}
use Rattle.pyx_core.specs.declared.event.Event.TheVariants as event
use Rattle.pyx_core.specs.declared.mode.Mode.TheVariants.{Document}
use Rattle.pyx_core.specs.Before.{outer}
use Rattle.pyx_core.specs.Nesting.{Place, Fits, after}
use Rattle.doc_tree.specs.limits.TheConstants.{MAX_LIVE_NODES}
use Rattle.doc_tree.specs.Table.{Table, Contents, Name, kind_at, kind_in, decls_at, decls_in, value_in, kids_of, decls_of, parent_of}
use Rattle.doc_tree.specs.Walks.{order}
use Rattle.doc_tree.specs.Lines.{Line, ends, first_lines, last_lines}
use Rattle.doc_tree.specs.Growth.{Grew, FitsUnder, ends_in_text, has_too_many, as_kid}
use Rattle.doc_tree.specs.Kinds.{is_element, is_text}
use Rattle.doc_tree.specs.Laws.{HasWaysUp, WellFormed}
use Rattle.doc_tree.specs.Scope.{Decl, scope_at, HasScopes}
use Rattle.name_scopes.specs.declared.build.Loader.{Loader}
use Rattle.name_scopes.specs.declared.fault.DocKind.TheVariants.{TooManyNodes}
use Rattle.name_scopes.specs.Scoping.{ContentInScope}
use Rattle.name_scopes.specs.ScopedTree.{written, said_by, unscoped}
use Rattle.name_scopes.specs.DocFaults.{Standing, in_scope, outer_scopes, node_fault, event_fault, moved}
use Rattle.name_scopes.specs.inner.Build.{IsLeaf, Loads, Tops, Says, Builds, AreOpen, event_text, leaf_of}
use Rattle.name_scopes.proofs.OpenElements.{open-live, open-apart, tops-apart, tops-other}
use Rattle.name_scopes.proofs.ScopeGrowth.{grown-scoped}
use Rattle.name_scopes.proofs.TellLemmas.{tells-leaf, tells-end, Ended, ends-in-one}
use Rattle.name_scopes.proofs.StepLemmas.{told-more, text-more}

-- the limit of nodes, said of the tree and of the events
many-cases : (k : ℕ) (b : Bool) → nat_le MAX_LIVE_NODES k ≡ b → nat_lt MAX_LIVE_NODES (suc k) ≡ b
many-cases k true h = lt-ltb MAX_LIVE_NODES (suc k) (omega (arith, leb-true MAX_LIVE_NODES k h))
many-cases k false h = le-ltb MAX_LIVE_NODES (suc k) (omega (arith, leb-false MAX_LIVE_NODES k h))

node-limit : (standing : Standing) (T : Table) (b : Bool) → length (order T) ≡ standing.nodes → has_too_many T ≡ b → node_fault standing ≡ (if b then Some TooManyNodes else None)
node-limit standing T b same h = ap (λ (t : Bool). if t then Some TooManyNodes else None) (many-cases standing.nodes b (ap (nat_le MAX_LIVE_NODES) (sym same) ∙ h))

leaf-limit : (standing : Standing) (e : Event) → IsLeaf e → event_fault standing e ≡ node_fault standing
leaf-limit standing (event.Start name attrs) leaf = absurd leaf
leaf-limit standing (event.End name) leaf = absurd leaf
leaf-limit standing (event.Chars characters) leaf = refl
leaf-limit standing (event.Pi target body) leaf = refl
leaf-limit standing (event.Comment characters) leaf = refl

-- what each of the three is, as a node
pub record LeafIs (e : Event) : Type 0 where
  pub first : map unscoped (first_lines (leaf_of e)) ≡ said_by e
  pub last : last_lines (leaf_of e) ≡ []
  pub bytes : length (value_in (leaf_of e)) ≡ event_text e
  pub kid : (n : ℕ) → as_kid (leaf_of e) n ≡ n ∷ []
  pub no_element : is_element (Some (kind_in (leaf_of e))) ≡ false
  pub no_decls : decls_in (leaf_of e) ≡ []

pub leaf-is : (e : Event) → IsLeaf e → LeafIs e
leaf-is (event.Start name attrs) leaf = absurd leaf
leaf-is (event.End name) leaf = absurd leaf
leaf-is (event.Chars characters) leaf = record { first = refl; last = refl; bytes = refl; kid = λ n. refl; no_element = refl; no_decls = refl }
leaf-is (event.Pi target body) leaf = record { first = refl; last = refl; bytes = refl; kid = λ n. refl; no_element = refl; no_decls = refl }
leaf-is (event.Comment characters) leaf = record { first = refl; last = refl; bytes = refl; kid = λ n. refl; no_element = refl; no_decls = refl }

pub some-names : (names : List (List ℕ)) → is_nil names ≡ false → names ≢ []
some-names names h none = true≢false (sym (ap is_nil none) ∙ h)

module _ (around : List Decl) (taken : List Event) (place : Place) (standing : Standing) (T : Table) (p : ℕ) (builds : Builds around taken place standing T p) where
  -- where they fit
  pub leaf-fits : (e : Event) → IsLeaf e → Fits Document place e → FitsUnder T p (leaf_of e)
  leaf-fits (event.Start name attrs) leaf fits = absurd leaf
  leaf-fits (event.End name) leaf fits = absurd leaf
  leaf-fits (event.Chars characters) leaf fits = record { some = fits.some; apart = builds.behind_is ∙ fits.apart }
  leaf-fits (event.Pi target body) leaf fits = tt
  leaf-fits (event.Comment characters) leaf fits = tt

  pub leaf-full : (e : Event) → IsLeaf e → has_too_many T ≡ true → event_fault standing e ≡ Some TooManyNodes
  leaf-full e leaf h = leaf-limit standing e leaf ∙ node-limit standing T true builds.count h

  pub leaf-room : (e : Event) → IsLeaf e → has_too_many T ≡ false → event_fault standing e ≡ None
  leaf-room e leaf h = leaf-limit standing e leaf ∙ node-limit standing T false builds.count h

  module _ (U : Table) (n : ℕ) (ways : HasWaysUp T) (formed : WellFormed T) (laws : HasScopes T) where
    leaf-scoped : (e : Event) → IsLeaf e → Fits Document place e → ContentInScope ((decls_in (leaf_of e) ++ scope_at T p) ++ around) (Some (leaf_of e))
    leaf-scoped (event.Start name attrs) leaf fits = absurd leaf
    leaf-scoped (event.End name) leaf fits = absurd leaf
    leaf-scoped (event.Chars characters) leaf fits = fits.made
    leaf-scoped (event.Pi target body) leaf fits = record { no_prefix = refl; no_namespace = refl; named = fits.named; made = fits.made }
    leaf-scoped (event.Comment characters) leaf fits = fits.made

    leaf-tops : (e : Event) → IsLeaf e → Fits Document place e → Grew T U p n (leaf_of e) → Tops (after Document place e).begun U
    leaf-tops (event.Start name attrs) leaf fits grew = absurd leaf
    leaf-tops (event.End name) leaf fits grew = absurd leaf
    leaf-tops (event.Chars characters) leaf fits grew =
        let some : place.opened ≢ [] = some-names place.opened (fits.inside refl) in
        tops-apart T U p n _ grew ways formed true (open-apart T place.opened standing.scopes p formed some builds.tells.way) (subst (λ (b : Bool). Tops b T) (builds.inside some) builds.tells.top)
    leaf-tops (event.Pi target body) leaf fits grew = ⊎_elim (λ (e : p ≡ 0). tops-other T U p n _ grew ways formed place.begun e refl refl refl builds.tells.top)
        (λ (ne : p ≢ 0). tops-apart T U p n _ grew ways formed place.begun ne builds.tells.top) (cases_eq p 0)
    leaf-tops (event.Comment characters) leaf fits grew = ⊎_elim (λ (e : p ≡ 0). tops-other T U p n _ grew ways formed place.begun e refl refl refl builds.tells.top)
        (λ (ne : p ≢ 0). tops-apart T U p n _ grew ways formed place.begun ne builds.tells.top) (cases_eq p 0)

    -- the place after them
    begun-after : (e : Event) → IsLeaf e → Fits Document place e → place.begun ≡ (after Document place e).begun
    begun-after (event.Start name attrs) leaf fits = absurd leaf
    begun-after (event.End name) leaf fits = absurd leaf
    begun-after (event.Chars characters) leaf fits = builds.inside (some-names place.opened (fits.inside refl))
    begun-after (event.Pi target body) leaf fits = refl
    begun-after (event.Comment characters) leaf fits = refl

    opened-after : (e : Event) → IsLeaf e → place.opened ≡ (after Document place e).opened
    opened-after (event.Start name attrs) leaf = absurd leaf
    opened-after (event.End name) leaf = absurd leaf
    opened-after (event.Chars characters) leaf = refl
    opened-after (event.Pi target body) leaf = refl
    opened-after (event.Comment characters) leaf = refl

    behind-after : (e : Event) → IsLeaf e → Grew T U p n (leaf_of e) → ends_in_text U (kids_of U p) ≡ (after Document place e).after_chars
    behind-after (event.Start name attrs) leaf grew = absurd leaf
    behind-after (event.End name) leaf grew = absurd leaf
    behind-after (event.Chars characters) leaf grew = ap (ends_in_text U) grew.parent_kids ∙ (ends-in-one U (kids_of T p) n ∙ ap (λ c. is_text (kind_at c)) grew.content)
    behind-after (event.Pi target body) leaf grew = ap (ends_in_text U) grew.parent_kids ∙ (ends-in-one U (kids_of T p) n ∙ ap (λ c. is_text (kind_at c)) grew.content)
    behind-after (event.Comment characters) leaf grew = ap (ends_in_text U) grew.parent_kids ∙ (ends-in-one U (kids_of T p) n ∙ ap (λ c. is_text (kind_at c)) grew.content)

    moved-after : (e : Event) → IsLeaf e → (moved standing e).nodes ≡ suc standing.nodes
    moved-after (event.Start name attrs) leaf = absurd leaf
    moved-after (event.End name) leaf = absurd leaf
    moved-after (event.Chars characters) leaf = refl
    moved-after (event.Pi target body) leaf = refl
    moved-after (event.Comment characters) leaf = refl

    pub scopes-after : (e : Event) → IsLeaf e → standing.scopes ≡ (moved standing e).scopes
    scopes-after (event.Start name attrs) leaf = absurd leaf
    scopes-after (event.End name) leaf = absurd leaf
    scopes-after (event.Chars characters) leaf = refl
    scopes-after (event.Pi target body) leaf = refl
    scopes-after (event.Comment characters) leaf = refl

    pub builds-leaf : (e : Event) → IsLeaf e → Fits Document place e → Grew T U p n (leaf_of e) → Builds around (taken ++ e ∷ []) (after Document place e) (moved standing e) U p
    builds-leaf e leaf fits grew =
        let is : LeafIs e = leaf-is e leaf in
        let begun_is : place.begun ≡ (after Document place e).begun = begun-after e leaf fits in
        let opened_is : place.opened ≡ (after Document place e).opened = opened-after e leaf in
        let scopes_are : standing.scopes ≡ (moved standing e).scopes = scopes-after e leaf in
        let top : Tops place.begun U = subst (λ (b : Bool). Tops b U) (sym begun_is) (leaf-tops e leaf fits grew) in
        let grown : Says (builds.told ++ first_lines (leaf_of e)) place.opened standing.scopes place.begun (sum_by event_text taken + length (value_in (leaf_of e))) U p =
        tells-leaf T U p n (leaf_of e) builds.told place.opened standing.scopes place.begun (sum_by event_text taken) grew ways is.last top builds.tells in
        let bytes : sum_by event_text taken + length (value_in (leaf_of e)) ≡ sum_by event_text (taken ++ e ∷ []) = ap (λ (k : ℕ). sum_by event_text taken + k) is.bytes ∙ sym (text-more taken e) in
        let told : List Line = builds.told ++ first_lines (leaf_of e) in
        record {
          told = told;
          tells = subst (λ (k : ℕ). Says told (after Document place e).opened (moved standing e).scopes (after Document place e).begun k U p) bytes
              (subst (λ (b : Bool). Says told (after Document place e).opened (moved standing e).scopes b (sum_by event_text taken + length (value_in (leaf_of e))) U p) begun_is
              (subst (λ (scopes : List (List Decl)). Says told (after Document place e).opened scopes place.begun (sum_by event_text taken + length (value_in (leaf_of e))) U p) scopes_are
              (subst (λ (names : List (List ℕ)). Says told names standing.scopes place.begun (sum_by event_text taken + length (value_in (leaf_of e))) U p) opened_is grown)));
          told_is = told-more builds.told (first_lines (leaf_of e)) taken e builds.told_is is.first;
          inside = λ some. sym begun_is ∙ builds.inside (λ none. some (sym opened_is ∙ none));
          behind_is = behind-after e leaf grew;
          scoped = grown-scoped T U p n (leaf_of e) grew laws around (open-live T place.opened standing.scopes p builds.tells.way) builds.scoped (leaf-scoped e leaf fits);
          count = ap length grew.last_in_order ∙ (length-append (order T) (n ∷ []) ∙ (omega (arith, builds.count) ∙ sym (moved-after e leaf)));
        }

  -- an end tag was taken
  pub record EndTaken (q : ℕ) (name : List ℕ) : Type 0 where
    pub decls : List Decl
    pub scopes : List (List Decl)
    pub are : standing.scopes ≡ decls ∷ scopes
    pub declared : decls_of T p ≡ decls
    pub builds_on : Builds around (taken ++ event.End name ∷ []) (after Document place (event.End name)) (moved standing (event.End name)) T q

  ended-by : (q : ℕ) (name : List ℕ) (names : List (List ℕ)) (scopes : List (List Decl)) → HasWaysUp T → parent_of T p ≡ Some q → place.opened ≡ names → standing.scopes ≡ scopes → names ≡ name ∷ outer names →
      Says builds.told names scopes place.begun (sum_by event_text taken) T p → EndTaken q name
  ended-by q name [] scopes ways under opened_is scopes_are is tells = absurd (cc)
  ended-by q name (x ∷ names) [] ways under opened_is scopes_are is tells = absurd tells.way
  ended-by q name (x ∷ names) (decls ∷ scopes) ways under opened_is scopes_are is tells =
      let same : x ≡ name = (cc) in
      let ended : Ended T p q x builds.told names scopes place.begun (sum_by event_text taken) = tells-end T p q x decls builds.told names scopes place.begun (sum_by event_text taken) ways under tells in
      record {
        decls = decls;
        scopes = scopes;
        are = scopes_are;
        declared = ap decls_at tells.way.1.0.content;
        builds_on = record {
          told = builds.told ++ ends ended.name ∷ [];
          tells = subst (λ (k : ℕ). Says (builds.told ++ ends ended.name ∷ []) (outer place.opened) (outer_scopes standing.scopes) place.begun k T q) (let e : sum_by event_text taken ≡ sum_by event_text (taken ++ event.End name ∷ []) = omega (arith, text-more taken (event.End name)) in e)
              (subst (λ (s : List (List Decl)). Says (builds.told ++ ends ended.name ∷ []) (outer place.opened) s place.begun (sum_by event_text taken) T q) (sym (ap outer_scopes scopes_are))
              (subst (λ (ns : List (List ℕ)). Says (builds.told ++ ends ended.name ∷ []) ns scopes place.begun (sum_by event_text taken) T q) (sym (ap outer opened_is)) ended.tells));
          told_is = told-more builds.told (ends ended.name ∷ []) taken (event.End name) builds.told_is (ap (λ (m : Name). ends m ∷ []) (ended.spelled ∙ ap written same));
          inside = λ some. builds.inside (λ none. some (ap outer none));
          behind_is = ended.behind;
          scoped = builds.scoped;
          count = builds.count;
        };
      }

  pub builds-end : (q : ℕ) (name : List ℕ) → HasWaysUp T → parent_of T p ≡ Some q → Fits Document place (event.End name) → EndTaken q name
  builds-end q name ways under fits = ended-by q name place.opened standing.scopes ways under refl refl fits builds.tells

  -- an element is open that ends
  pub end-parent : (name : List ℕ) → HasWaysUp T → Fits Document place (event.End name) → parent_of T p ≡ None → ⊥
  end-parent name ways fits none = by place.opened standing.scopes fits builds.tells.way
    where
      by : (names : List (List ℕ)) (scopes : List (List Decl)) → names ≡ name ∷ outer names → AreOpen T names scopes p → ⊥
      by [] scopes is way = absurd (cc)
      by (x ∷ names) [] is way = way
      by (x ∷ names) (decls ∷ scopes) is way = let up : parent_of T p ≡ Some way.0 = way.1.0.under in absurd (cc)

  pub some-parent : (name : List ℕ) → HasWaysUp T → Fits Document place (event.End name) → is_none (parent_of T p) ≡ false
  some-parent name ways fits = by (parent_of T p) refl
    where
      by : (o : Option ℕ) → parent_of T p ≡ o → is_none o ≡ false
      by None e = absurd (end-parent name ways fits e)
      by (Some q) e = refl

-- the declarations of the outer elements
pub dropped : (xs ys : List Decl) (k : ℕ) → k ≡ length xs → drop k (xs ++ ys) ≡ ys
dropped xs ys k h = ap (λ (n : ℕ). drop n (xs ++ ys)) h ∙ drop-append_seam xs ys

pub leaf-bytes : (e : Event) → IsLeaf e → length (value_in (leaf_of e)) ≡ event_text e
leaf-bytes e leaf = (leaf-is e leaf).bytes

-- the same, of a loader
pub loads-leaf : (taken : List Event) (place : Place) (standing : Standing) (old new : Loader) (n : ℕ) (e : Event) → IsLeaf e → Fits Document place e → HasWaysUp old.tree.nodes → WellFormed old.tree.nodes → HasScopes old.tree.nodes →
    Grew old.tree.nodes new.tree.nodes old.place n (leaf_of e) → new.place ≡ old.place → new.scope ≡ old.scope → Loads taken place standing old → Loads (taken ++ e ∷ []) (after Document place e) (moved standing e) new
loads-leaf taken place standing old new n e leaf fits ways formed laws grew same_place same_scope loads = record {
  builds = subst (Builds [] (taken ++ e ∷ []) (after Document place e) (moved standing e) new.tree.nodes) (sym same_place)
      (builds-leaf [] taken place standing old.tree.nodes old.place loads.builds new.tree.nodes n ways formed laws e leaf fits grew);
  scope_is = same_scope ∙ (loads.scope_is ∙ ap in_scope (scopes-after [] taken place standing old.tree.nodes old.place loads.builds new.tree.nodes n ways formed laws e leaf));
}

-- the end of an element
pub loads-end : (taken : List Event) (place : Place) (standing : Standing) (old new : Loader) (q count : ℕ) (name : List ℕ) → HasWaysUp old.tree.nodes → parent_of old.tree.nodes old.place ≡ Some q → Fits Document place (event.End name) →
    count ≡ length (decls_of old.tree.nodes old.place) → new.scope ≡ drop count old.scope → new.tree ≡ old.tree → new.place ≡ q → Loads taken place standing old → Loads (taken ++ event.End name ∷ []) (after Document place (event.End name)) (moved standing (event.End name)) new
loads-end taken place standing old new q count name ways under fits counted scope_is tree_is place_is loads =
    let e : EndTaken [] taken place standing old.tree.nodes old.place loads.builds q name = builds-end [] taken place standing old.tree.nodes old.place loads.builds q name ways under fits in
    record {
      builds = subst (λ (t : Contents). Builds [] (taken ++ event.End name ∷ []) (after Document place (event.End name)) (moved standing (event.End name)) t.nodes new.place) (sym tree_is)
          (subst (Builds [] (taken ++ event.End name ∷ []) (after Document place (event.End name)) (moved standing (event.End name)) old.tree.nodes) (sym place_is) e.builds_on);
      scope_is = scope_is ∙ (ap (drop count) (loads.scope_is ∙ ap in_scope e.are) ∙ (dropped e.decls (in_scope e.scopes) count (counted ∙ ap (λ (l : List Decl). length l) e.declared) ∙ sym (ap (λ (s : List (List Decl)). in_scope (outer_scopes s)) e.are)));
    }
