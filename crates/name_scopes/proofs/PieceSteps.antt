-- Events put to a piece under way, one by one.
use Rattle.std.proofs.Common.{◌≡◌, ℕ, ◌+◌, ◌≤◌, suc, Bool, true, false, ◌||◌, List, [], ◌∷◌, ◌++◌, length, drop, sum_by, None, Some, refl, sym, ap, ap₂, ◌∙◌, subst, true≢false, arith, append_assoc, length-append, nat_lt}
use Rattle.std.specs.Prelude.{if◌then◌else◌}
use Rattle.std.proofs.lemmas.Bool.{lt-leb}
use Rattle.std.proofs.lemmas.List.Sums.{sum_by-append, sum_by-cons}
use Rattle.pyx_core.specs.declared.event.Attr.{Attr}
use Rattle.pyx_core.specs.declared.event.Event.{Event}
use Rattle.pyx_core.specs.declared.event.Event.TheVariants as event
use Rattle.pyx_core.specs.declared.mode.Mode.TheVariants.{Document}
use Rattle.pyx_core.specs.Nesting.{Place, after}
use Rattle.doc_tree.specs.limits.TheConstants.{MAX_DEPTH, MAX_LIVE_NODES, MAX_LIVE_TEXT_BYTES}
use Rattle.doc_tree.specs.Table.{Contents, root_alone, kids_of, decls_of, parent_of, value_in}
use Rattle.doc_tree.specs.Walks.{above, order, text_bytes}
use Rattle.doc_tree.specs.Growth.{Grew, has_too_many}
use Rattle.doc_tree.specs.Laws.{HasWaysUp, WellFormed}
use Rattle.doc_tree.specs.Scope.{Decl, scope_at, HasScopes}
use Rattle.name_scopes.specs.declared.build.Loader.{Loader}
use Rattle.name_scopes.specs.declared.fault.DocKind.{DocKind}
use Rattle.name_scopes.specs.declared.fault.EventError.TheVariants.{Kind}
use Rattle.name_scopes.specs.Declarations.{declarations, plain_attrs}
use Rattle.name_scopes.specs.DocFaults.{Standing, begin, in_scope, outer_scopes, tag_fault, tag_nodes, moved}
use Rattle.name_scopes.specs.Fragments.{event_nodes, plain_text}
use Rattle.name_scopes.specs.inner.Build.{Begins, Builds, IsLeaf, IsTooDeep, value_bytes, leaf_of}
use Rattle.name_scopes.specs.inner.Piece.{PieceComes, PieceLoads}
use Rattle.name_scopes.proofs.OpenElements.{kids-stay, open-apart, open-depth}
use Rattle.name_scopes.proofs.StepLemmas.{builds-scope, builds-start, start-apart, start-at-root}
use Rattle.name_scopes.proofs.LeafLemmas.{EndTaken, builds-end, builds-leaf, dropped, scopes-after}
use Rattle.name_scopes.proofs.LoadStart.{root-builds}
use Rattle.pyx_core.specs.Nesting.{start}

-- in front of all events
pub piece-none : (around : List Decl) (loader : Loader) → loader.tree ≡ root_alone → loader.place ≡ 0 → loader.scope ≡ around → PieceLoads around [] start begin loader
piece-none around loader is_tree is_place is_scope = record {
  builds = subst (λ (t : Contents). Builds around [] start begin t.nodes loader.place) (sym is_tree) (subst (Builds around [] start begin root_alone.nodes) (sym is_place) (root-builds around));
  scope_is = is_scope;
  text = ap (λ (t : Contents). text_bytes t.nodes) is_tree;
  top = ap (λ (t : Contents). length (kids_of t.nodes 0)) is_tree;
}

pub plain-more : (taken : List Event) (e : Event) → sum_by plain_text (taken ++ e ∷ []) ≡ sum_by plain_text taken + plain_text e
plain-more taken e = sum_by-append plain_text taken (e ∷ []) ∙ ap (λ (k : ℕ). sum_by plain_text taken + k) (sum_by-cons plain_text e [] ∙ omega arith)

-- the text of an event that is no tag is that of its node
pub leaf-plain : (e : Event) → IsLeaf e → plain_text e ≡ length (value_in (leaf_of e))
leaf-plain (event.Start name attrs) leaf = absurd leaf
leaf-plain (event.End name) leaf = absurd leaf
leaf-plain (event.Chars text) leaf = refl
leaf-plain (event.Pi target body) leaf = refl
leaf-plain (event.Comment text) leaf = refl

module _ (around : List Decl) (taken : List Event) (place : Place) (standing : Standing) (old : Loader) (loads : PieceLoads around taken place standing old) where
  -- a start tag

  module _ (name : List ℕ) (attrs : List Attr) (comes : PieceComes around taken place standing (event.Start name attrs)) (scope : List Decl) (scope_is : scope ≡ declarations attrs ++ old.scope) where
    tag-around : scope ≡ declarations attrs ++ (in_scope standing.scopes ++ around)
    tag-around = scope_is ∙ ap (λ (s : List Decl). declarations attrs ++ s) loads.scope_is

    pub put-good : tag_fault scope name attrs ≡ None
    put-good = ap (λ (s : List Decl). tag_fault s name attrs) tag-around ∙ comes.names

    pub put-room : length (order old.tree.nodes) + tag_nodes attrs ≤ MAX_LIVE_NODES
    put-room = omega (arith, comes.room, loads.builds.count)

    pub put-little : text_bytes old.tree.nodes + sum_by value_bytes (plain_attrs attrs) ≤ MAX_LIVE_TEXT_BYTES
    put-little = omega (arith, comes.little, loads.text)

    -- it isn't refused
    pub put-shallow : (what : DocKind) → HasWaysUp old.tree.nodes → IsTooDeep old.tree.nodes old.place (Kind what) → ⊥
    put-shallow what ways deep =
        let depth : length (above old.tree.nodes old.place) ≡ suc (length standing.scopes) = open-depth old.tree.nodes place.opened standing.scopes old.place ways loads.builds.tells.way in
        let yes : nat_lt MAX_DEPTH (suc (length standing.scopes)) ≡ true = ap (nat_lt MAX_DEPTH) (sym depth) ∙ deep.1 in
        true≢false (sym (ap (λ (b : Bool). b || false) yes) ∙ comes.shallow)

    pub put-start : (new : Loader) (n : ℕ) → HasScopes old.tree.nodes → WellFormed old.tree.nodes → new.scope ≡ scope → new.place ≡ n → Begins old.tree.nodes new.tree.nodes old.place n scope name attrs →
        PieceLoads around (taken ++ event.Start name attrs ∷ []) (after Document place (event.Start name attrs)) (moved standing (event.Start name attrs)) new
    put-start new n laws formed same_scope place_is begins = record {
      builds = subst (Builds around (taken ++ event.Start name attrs ∷ []) (after Document place (event.Start name attrs)) (moved standing (event.Start name attrs)) new.tree.nodes) (sym place_is)
          (builds-start around taken place standing old.tree.nodes old.place loads.builds new.tree.nodes n scope name attrs formed comes.fits here begins);
      scope_is = same_scope ∙ (tag-around ∙ sym (append_assoc (declarations attrs) (in_scope standing.scopes) around));
      text = begins.more_text ∙ (ap (λ (k : ℕ). k + sum_by value_bytes (plain_attrs attrs)) loads.text ∙ sym (plain-more taken (event.Start name attrs)));
      top = by place.begun refl;
    }
      where
        here : scope ≡ declarations attrs ++ (scope_at old.tree.nodes old.place ++ around)
        here = tag-around ∙ ap (λ (s : List Decl). declarations attrs ++ (s ++ around)) (sym (builds-scope around taken place standing old.tree.nodes old.place loads.builds laws))

        by : (b : Bool) → place.begun ≡ b → length (kids_of new.tree.nodes 0) ≡ 1
        by true begun =
            ap (λ (l : List ℕ). length l) (begins.top_kids (start-apart around taken place standing old.tree.nodes old.place loads.builds name attrs formed comes.fits begun))
            ∙ (loads.top ∙ ap (λ (b : Bool). if b then 1 else 0) begun)
        by false none =
            ap (λ (l : List ℕ). length l) (begins.first_kid (start-at-root around taken place standing old.tree.nodes old.place loads.builds none))
            ∙ (length-append (kids_of old.tree.nodes 0) (n ∷ []) ∙ ap (λ (k : ℕ). k + 1) (loads.top ∙ ap (λ (b : Bool). if b then 1 else 0) none))

  -- an end tag
  pub put-end : (new : Loader) (name : List ℕ) → HasWaysUp old.tree.nodes → PieceComes around taken place standing (event.End name) → new.tree ≡ old.tree → parent_of old.tree.nodes old.place ≡ Some new.place →
      new.scope ≡ drop (length (decls_of old.tree.nodes old.place)) old.scope →
      PieceLoads around (taken ++ event.End name ∷ []) (after Document place (event.End name)) (moved standing (event.End name)) new
  put-end new name ways comes tree_is place_is scope_is =
      let e : EndTaken around taken place standing old.tree.nodes old.place loads.builds new.place name = builds-end around taken place standing old.tree.nodes old.place loads.builds new.place name ways place_is comes.fits in
      record {
        builds = subst (λ (t : Contents). Builds around (taken ++ event.End name ∷ []) (after Document place (event.End name)) (moved standing (event.End name)) t.nodes new.place) (sym tree_is) e.builds_on;
        scope_is = scope_is
            ∙ (ap (drop (length (decls_of old.tree.nodes old.place))) (loads.scope_is ∙ (ap (λ (s : List (List Decl)). in_scope s ++ around) e.are ∙ append_assoc e.decls (in_scope e.scopes) around))
            ∙ (dropped e.decls (in_scope e.scopes ++ around) (length (decls_of old.tree.nodes old.place)) (ap (λ (l : List Decl). length l) e.declared)
            ∙ sym (ap (λ (s : List (List Decl)). in_scope (outer_scopes s) ++ around) e.are)));
        text = ap (λ (t : Contents). text_bytes t.nodes) tree_is ∙ (loads.text ∙ (omega arith ∙ sym (plain-more taken (event.End name))));
        top = ap (λ (t : Contents). length (kids_of t.nodes 0)) tree_is ∙ loads.top;
      }

  -- an event that is no tag
  module _ (e : Event) (leaf : IsLeaf e) (comes : PieceComes around taken place standing e) where
    one-node : standing.nodes + 1 ≤ MAX_LIVE_NODES
    one-node = by e leaf comes.room
      where
        by : (e : Event) → IsLeaf e → standing.nodes + event_nodes e ≤ MAX_LIVE_NODES → standing.nodes + 1 ≤ MAX_LIVE_NODES
        by (event.Start name attrs) leaf h = absurd leaf
        by (event.End name) leaf h = absurd leaf
        by (event.Chars text) leaf h = h
        by (event.Pi target body) leaf h = h
        by (event.Comment text) leaf h = h

    pub leaf-little : text_bytes old.tree.nodes + length (value_in (leaf_of e)) ≤ MAX_LIVE_TEXT_BYTES
    leaf-little = omega (arith, comes.little, loads.text, leaf-plain e leaf)

    -- there is room for it
    pub leaf-few : has_too_many old.tree.nodes ≡ false
    leaf-few = lt-leb MAX_LIVE_NODES (length (order old.tree.nodes)) (omega (arith, one-node, loads.builds.count))

    begun : place.begun ≡ true
    begun = loads.builds.inside (comes.inside leaf)

    pub put-leaf : (new : Loader) (n : ℕ) → HasWaysUp old.tree.nodes → WellFormed old.tree.nodes → HasScopes old.tree.nodes → Grew old.tree.nodes new.tree.nodes old.place n (leaf_of e) → new.place ≡ old.place → new.scope ≡ old.scope →
        PieceLoads around (taken ++ e ∷ []) (after Document place e) (moved standing e) new
    put-leaf new n ways formed laws grew same_place same_scope = record {
      builds = subst (Builds around (taken ++ e ∷ []) (after Document place e) (moved standing e) new.tree.nodes) (sym same_place)
          (builds-leaf around taken place standing old.tree.nodes old.place loads.builds new.tree.nodes n ways formed laws e leaf comes.fits grew);
      scope_is = same_scope ∙ (loads.scope_is ∙ ap (λ (s : List (List Decl)). in_scope s ++ around) (scopes-after around taken place standing old.tree.nodes old.place loads.builds new.tree.nodes n ways formed laws e leaf));
      text = grew.more_text ∙ (ap₂ (λ (a b : ℕ). a + b) loads.text (sym (leaf-plain e leaf)) ∙ sym (plain-more taken e));
      top = ap (λ (l : List ℕ). length l) (kids-stay old.tree.nodes new.tree.nodes old.place n (leaf_of e) grew ways formed (open-apart old.tree.nodes place.opened standing.scopes old.place formed (comes.inside leaf) loads.builds.tells.way))
          ∙ (loads.top ∙ ap (λ (b : Bool). if b then 1 else 0) (begun ∙ sym (still e leaf)));
    }
      where
        still : (e : Event) → IsLeaf e → (after Document place e).begun ≡ true
        still (event.Start name attrs) leaf = absurd leaf
        still (event.End name) leaf = absurd leaf
        still (event.Chars text) leaf = refl
        still (event.Pi target body) leaf = begun
        still (event.Comment text) leaf = begun
