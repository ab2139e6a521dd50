-- A node that was deleted between no two texts comes again at its place.
use Rattle.std.proofs.Common.{◌≡◌, ◌≢◌, ℕ, ◌+◌, ◌-◌, ◌≤◌, suc, Bool, true, false, cond, not, ◌&&◌, ◌||◌, ◌==◌, ◌⊎◌, eqb-true, inl, inr, ⊎_elim, List, [], ◌∷◌, ◌++◌, length, take, Option, None, Some, is_some, refl, sym, ap, ◌∙◌, subst, true≢false, arith, eq-eqb, unwrap_or}
use Rattle.std.specs.Prelude.{count_by, slice_get}
use Rattle.std.proofs.lemmas.Bool.{and_parts}
use Rattle.std.specs.List.{list_any}
use Rattle.std.proofs.lemmas.List.Sums.{sum_by-cons}
use Rattle.doc_table.proofs.Counts.{live-count, text-count}
use Rattle.doc_table.proofs.Forests.{formed-of}
use Rattle.doc_table.proofs.ListLemmas.{In, In-cons, In-mem, eq_or, last-In, mem-In, mem-append, occurs-append, occurs-head, occurs-other}
use Rattle.doc_table.proofs.TreeLaws.{ordered, ways-up, well-formed}
use Rattle.doc_table.specs.Lists.{last_or, mem}
use Rattle.doc_table.specs.inner.Sound.{Formed, count_live, text_held}
use Rattle.doc_edits.specs.Changes.{deleted, deleted_by, inserted, meeting, removed, removed_from, without}
use Rattle.doc_edits.specs.Fitting.{MayTake}
use Rattle.doc_edits.proofs.InsertionLemmas.{length-inserted}
use Rattle.doc_edits.proofs.NumberingLemmas.{place-head, place-tail}
use Rattle.doc_edits.proofs.DeletionLemmas.{lone-apart}
use Rattle.doc_edits.proofs.RemovalLemmas.{formed-left, kids-owner, out, remaining, same-content, same-parent, way-left}
use Rattle.doc_tree.specs.declared.refusal.EditRefusal.TheVariants.{WrongKind, RootElement}
use Rattle.doc_tree.specs.limits.TheConstants.{MAX_NODE_NUMBERS}
use Rattle.doc_tree.specs.Growth.{ends_in_text}
use Rattle.doc_tree.specs.Kinds.{can_be_kid, holds_kids, is_document, is_element, is_text}
use Rattle.doc_tree.specs.Laws.{HasWaysUp, TextsApart, WellFormed}
use Rattle.doc_tree.specs.Lists.{place_in}
use Rattle.doc_tree.specs.Refusals.{deletion_refusal}
use Rattle.doc_tree.specs.SameTree.{SameTree}
use Rattle.doc_tree.specs.Table.{Contents, Facts, Table, attrs_of, content_at, content_of, decls_at, entry_at, is_live, is_root, kids_above, kids_of, kind_at, kind_of, parent_of}
use Rattle.doc_tree.specs.Walks.{below, order}
use Rattle.doc_tree.proofs.InsertLemmas.{nodes-brought}
use Rattle.doc_tree.proofs.RefusalLemmas.{and-false, none-of-two, not-true}
use Rattle.doc_undo_laws.specs.Undoing.{DeletionsAreUndone}
use Rattle.doc_undo_laws.proofs.DeletionUndone.{not-before, not-behind, without-it}
use Rattle.doc_undo_laws.proofs.Settling.{kid-other, kid-stays, owner-stays, removed-stays, root-stays}
use Rattle.name_scopes.specs.Scoping.{InScope}
use Rattle.name_scopes_laws.specs.Pieces.{FragmentsHavePieces}
use Rattle.name_scopes_laws.proofs.PieceSizes.{piece-nodes}
use Rattle.subtree_events.specs.Events.{events_below}
use Rattle.subtree_events.specs.Subtrees.{IsSubtree, SubtreesAreFragments}
use Rattle.edit_script.specs.declared.command.Command.{Command}
use Rattle.edit_script.specs.declared.command.Command.TheVariants.{Delete}
use Rattle.edit_script.specs.declared.command.PathStep.{PathStep}
use Rattle.edit_commands.specs.Commands.{IsEdited, insertion_refusal, refusal_where}
use Rattle.edit_commands.specs.Paths.{kids_of_kind, led_from, node_named}
use Rattle.edit_paths.specs.Entries.{behind, comes_again, deletion_undone, numbers_met, numbers_where, path_above, place_of, undoing, undoing_numbers, undoing_where}
use Rattle.edit_undo_laws.specs.Undoing.{LoneDeletionsAreUndone, TakesBack}
use Rattle.edit_undo_laws.proofs.LosingAttributes.{with_nodes}
use Rattle.edit_undo_laws.proofs.SettingUndone.{one-done}
use Rattle.edit_undo_laws.proofs.OwnAttributes.{split-placed}
use Rattle.edit_paths.proofs.PathsKept.{kid-up, path-kept, stepped-In}
use Rattle.edit_undo_laws.proofs.RemovalCounts.{nodes-left, text-left}
use Rattle.edit_undo_laws.proofs.ScopesKept.{scope-kept}
use Rattle.edit_undo_laws.proofs.SubtreeComes.{Comes, HasPlace, comes-again, comes-free}

-- lists of kids: a text's neighbours are no texts
ends-same : (T R : Table) (xs : List ℕ) → ((k : ℕ) → In k xs → kind_of R k ≡ kind_of T k) → ends_in_text R xs ≡ ends_in_text T xs
ends-same T R [] same = refl
ends-same T R (x ∷ xs) same = ap is_text (same (last_or x xs) (last-In x xs))

begins-same : (T R : Table) (xs : List ℕ) → ((k : ℕ) → In k xs → kind_of R k ≡ kind_of T k) →
    list_any (λ k. is_text (kind_of R k)) (take 1 xs) ≡ list_any (λ k. is_text (kind_of T k)) (take 1 xs)
begins-same T R [] same = refl
begins-same T R (x ∷ xs) same = ap (λ o. is_text o || false) (same x (occurs-head x xs))

left-false : (a b : Bool) → (a && b) ≡ false → b ≡ true → a ≡ false
left-false false b h e = refl
left-false true b h e = absurd (true≢false (sym e ∙ h))

texts-front : (T : Table) (n : ℕ) (front back : List ℕ) → is_text (kind_of T n) ≡ true → TextsApart T (front ++ n ∷ back) → ends_in_text T front ≡ false
texts-front T n [] back text apart = refl
texts-front T n (l ∷ []) back text apart = left-false (is_text (kind_of T l)) (is_text (kind_of T n)) apart.0 text
texts-front T n (l ∷ m ∷ front) back text apart = texts-front T n (m ∷ front) back text apart.1

texts-back : (T : Table) (n : ℕ) (front back : List ℕ) → is_text (kind_of T n) ≡ true → TextsApart T (front ++ n ∷ back) → list_any (λ k. is_text (kind_of T k)) (take 1 back) ≡ false
texts-back T n [] [] text apart = refl
texts-back T n [] (b ∷ back) text apart = ap (λ c. c || false) (and-false (is_text (kind_of T n)) (is_text (kind_of T b)) apart.0 text)
texts-back T n (l ∷ []) back text apart = texts-back T n [] back text apart.1
texts-back T n (l ∷ m ∷ front) back text apart = texts-back T n (m ∷ front) back text apart.1

none-counted : (f : ℕ → Bool) (xs : List ℕ) (n : ℕ) → count_by f xs ≡ 0 → In n xs → f n ≡ false
none-counted f [] n none h = absurd (omega (arith, h))
none-counted f (x ∷ xs) n none h =
    by (f x) refl (sym (sum_by-cons (λ k. cond (f k) 1 0) x xs) ∙ none) (In-cons n x xs h) (λ e k. none-counted f xs n e k)
  where
    by : (b : Bool) → f x ≡ b → cond b 1 0 + count_by f xs ≡ 0 → (n ≡ x) ⊎ In n xs → (count_by f xs ≡ 0 → In n xs → f n ≡ false) → f n ≡ false
    by true e none there rest = absurd (omega (arith, none))
    by false e none (inl same) rest = ap f same ∙ e
    by false e none (inr more) rest = rest (omega (arith, none)) more

front-length : (n : ℕ) (xs : List ℕ) → In n xs → length (take (place_in n xs) xs) ≡ place_in n xs
front-length n [] h = absurd (omega (arith, h))
front-length n (x ∷ xs) h =
    ⊎_elim
    (λ (e : n ≡ x). ap (λ i. length (take i (x ∷ xs))) (place-head n x xs e) ∙ sym (place-head n x xs e))
    (λ (ne : n ≢ x).
    ap (λ i. length (take i (x ∷ xs))) (place-tail n x xs ne)
    ∙ (ap suc (front-length n xs (omega (arith, h, occurs-other n x xs ne))) ∙ sym (place-tail n x xs ne)))
    (eq_or n x)

-- a node that can be a kid is a kid of its parent
pub is-kid : (T : Table) (n p : ℕ) → WellFormed T → parent_of T n ≡ Some p → can_be_kid (kind_of T n) ≡ true → In n (kids_of T p)
is-kid T n p form up can =
    ⊎_elim (λ (a : mem n (attrs_of T p) ≡ true). absurd (true≢false (sym can ∙ ap can_be_kid (form.attribute_kind p n a)))) (λ (k : mem n (kids_of T p) ≡ true). mem-In n (kids_of T p) k)
    (mem-append n (attrs_of T p) (kids_of T p) (form.is_listed n p up))

-- no text is a kid of a document's root
pub no-texts : (T : Table) → is_document T ≡ true → (k : ℕ) → In k (kids_of T 0) → is_text (kind_of T k) ≡ false
no-texts T document k h =
    let parts = and_parts (count_by (λ k. is_element (kind_of T k)) (kids_of T 0) == 1) (count_by (λ k. is_text (kind_of T k)) (kids_of T 0) == 0) document in
    none-counted (λ k. is_text (kind_of T k)) (kids_of T 0) k (eqb-true _ _ parts.1) h

-- a path to a node with a parent has a last step, and the steps before it lead to the parent
module _ (T : Table) (form : WellFormed T) where
  last-step : (step : PathStep) (steps : List PathStep) (m n p : ℕ) → parent_of T n ≡ Some p → led_from T (Some m) (step ∷ steps) ≡ Some n →
      led_from T (Some m) (take (length steps) (step ∷ steps)) ≡ Some p
  last-step step [] m n p up e =
      let i : In n (kids_of T m) = stepped-In T m step n (sym (none-after (slice_get (kids_of_kind T m step.kind) (step.index - 1))) ∙ e) in
      let hangs : parent_of T n ≡ Some m = kid-up T form m n i in
      sym hangs ∙ up
    where
      none-after : (o : Option ℕ) → led_from T o [] ≡ o
      none-after None = refl
      none-after (Some k) = refl
  last-step step (next ∷ steps) m n p up e = by (slice_get (kids_of_kind T m step.kind) (step.index - 1)) e (λ j h. last-step next steps j n p up h)
    where
      by : (o : Option ℕ) → led_from T o (next ∷ steps) ≡ Some n → ((j : ℕ) → led_from T (Some j) (next ∷ steps) ≡ Some n → led_from T (Some j) (take (length steps) (next ∷ steps)) ≡ Some p) →
          led_from T o (take (length steps) (next ∷ steps)) ≡ Some p
      by None h rest = absurd (true≢false (sym (ap is_some h)))
      by (Some j) h rest = rest j h

  pub path-above : (path : List PathStep) (n p : ℕ) → parent_of T n ≡ Some p → node_named T path ≡ Some n → node_named T (path_above path) ≡ Some p
  path-above [] n p up e =
      let root : n ≡ 0 = sym (ap (λ o. unwrap_or o 0) e) in
      let none : parent_of T n ≡ None = ap (parent_of T) root ∙ form.root_parent in
      absurd (true≢false (ap is_some (sym up ∙ none)))
  path-above (step ∷ steps) n p up e =
      let less : suc (length steps) - 1 ≡ length steps = omega arith in
      ap (λ k. node_named T (take k (step ∷ steps))) less ∙ last-step step steps 0 n p up e

-- under the root stands neither the element that may not go nor a text
not-inside : (T : Table) (n p : ℕ) → parent_of T n ≡ Some p → In n (kids_of T p) → is_document T ≡ true → deletion_refusal T n ≡ None → p ≡ 0 →
    (is_element (kind_of T n) ≡ false) × (is_text (kind_of T n) ≡ false)
not-inside T n p up kid document free root =
    let parts = none-of-two (not (can_be_kid (kind_of T n))) (is_element (kind_of T n) && is_root (parent_of T n)) WrongKind RootElement free in
    let rooted : is_root (parent_of T n) ≡ true = ap is_root up ∙ eq-eqb p 0 root in
    (by (is_element (kind_of T n)) refl (sym (ap (λ b. is_element (kind_of T n) && b) rooted) ∙ parts.1), no-texts T document n (subst (λ q. In n (kids_of T q)) root kid))
  where
    by : (b : Bool) → is_element (kind_of T n) ≡ b → (is_element (kind_of T n) && true) ≡ false → is_element (kind_of T n) ≡ false
    by false e h = e
    by true e h = absurd (true≢false (sym (ap (λ b. b && true) e) ∙ h))

-- a kid that can stand there goes, and no two texts meet
module _ (T : Table) (n p : ℕ) (form : WellFormed T) (up : parent_of T n ≡ Some p) (can : can_be_kid (kind_of T n) ≡ true)
    (inside : p ≡ 0 → (is_element (kind_of T n) ≡ false) × (is_text (kind_of T n) ≡ false)) (rest-apart : TextsApart T (without n (kids_of T p))) where
  pub t : Formed T
  t = formed-of T form

  ways : HasWaysUp T
  ways = ways-up T t

  abbrev R : Table
  R = remaining T n p t up

  abbrev front : List ℕ
  front = take (place_in n (kids_of T p)) (kids_of T p)

  abbrev back : List ℕ
  back = behind n (kids_of T p)

  kid : In n (kids_of T p)
  kid = is-kid T n p form up can

  list : kids_of T p ≡ front ++ n ∷ back
  list = split-placed n (kids_of T p) kid

  without-n : without n (kids_of T p) ≡ front ++ back
  without-n = without-it n (kids_of T p) front back (form.kids_once p) list

  r : Formed R
  r = formed-left T n p t up rest-apart

  live-p : is_live R p ≡ true
  live-p = owner-stays T n p t up kid

  same-at : (m : ℕ) → is_live R m ≡ true → content_of R m ≡ content_of T m
  same-at m alive = same-content T n p t up m (out T n p t up m alive)

  live-n : is_live T n ≡ true
  live-n = ways.kid_live p n (In-mem n (kids_of T p) kid)

  is-rest : removed T n ≡ R
  is-rest = ap (removed_from T n) up

  rest-live : (k : ℕ) → In k front ⊎ In k back → is_live R k ≡ true
  rest-live k (inl h) =
      kid-stays T n p t up kid p k live-p (not-before n (kids_of T p) front back (form.kids_once p) list k h)
      (subst (In k) (sym list) (omega (arith, h, occurs-append k front (n ∷ back))))
  rest-live k (inr h) =
      kid-stays T n p t up kid p k live-p (not-behind n (kids_of T p) front back (form.kids_once p) list k h)
      (subst (In k) (sym list) (omega (arith, h, occurs-append k front (n ∷ back))))

  pub has-place : (base : Contents) → length R + length (below T n) ≤ MAX_NODE_NUMBERS → length (order T) ≤ base.pair_cap → HasPlace T n p front back R base
  has-place base numbers bound = record {
    formed = well-formed R r;
    holds = ap (λ o. holds_kids (kind_at o)) (same-at p live-p) ∙ ways.parent_holds n p up;
    scope = sym (scope-kept R T r t (λ m alive. record { parent = sym (same-parent T n p t up m (out T n p t up m alive)); decls = sym (ap decls_at (same-at m alive)) }) p live-p);
    way = ap (λ (l : List ℕ). length (p ∷ l)) (way-left T n p t up p live-p);
    kids = kids-owner T n p t up ∙ without-n;
    apart = λ text. (
      ends-same T R front (λ k h. ap kind_at (same-at k (rest-live k (inl h)))) ∙ texts-front T n front back text (subst (TextsApart T) list (form.texts_apart p)),
      begins-same T R back (λ k h. ap kind_at (same-at k (rest-live k (inr h)))) ∙ texts-back T n front back text (subst (TextsApart T) list (form.texts_apart p)),
    );
    inside = inside;
    nodes = omega (arith, live-count R r.forest r.whole, live-count T t.forest t.whole, nodes-left T n p t up live-n, ap count_live is-rest);
    bytes = omega (arith, text-count R r.forest r.whole, text-count T t.forest t.whole, text-left T n p t up live-n, ap text_held is-rest);
    numbers = numbers;
    bound = bound;
  }

  pub path-rest : (parent : List PathStep) → node_named T parent ≡ Some p → node_named R parent ≡ Some p
  path-rest parent named =
      path-kept T R form p (λ m. is_live R m ≡ true) (λ m alive ne. (removed-stays T n p t up kid m alive).kids ne)
      (λ m k alive ne h. ap kind_at (same-at k (kid-stays T n p t up kid m k alive (kid-other T n p t up kid m k ne h) h)))
      (λ m k alive ne h. kid-stays T n p t up kid m k alive (kid-other T n p t up kid m k ne h) h)
      (root-stays T n p t up kid) parent named

  pub comes-back : DeletionsAreUndone → FragmentsHavePieces → SubtreesAreFragments → InScope T → (before base : Contents) (parent : List PathStep) → before.nodes ≡ T →
      node_named R parent ≡ Some p → length (order T) ≤ base.pair_cap → length R + length (below T n) ≤ MAX_NODE_NUMBERS →
      TakesBack before (with_nodes base R) (comes_again parent T n ∷ []) (length (below T n))
  comes-back undone pieces fragments scoped before base parent was named bound few =
      let sub : IsSubtree T n p (events_below T n) = fragments T n p form scoped up can in
      let place : HasPlace T n p front back R base = has-place base few bound in
      let at : ℕ = place_of T n in
      let at-is : at ≡ suc (place_in n (kids_of T p)) = ap (λ o. suc (place_in n (kids_above T o))) up in
      let less : at - 1 ≡ length front = omega (arith, at-is, front-length n (kids_of T p) kid) in
      let some : 1 ≤ length T = omega (arith, (ordered T t).made n (sym ((ordered T t).live_in_order n) ∙ live-n)) in
      let free-at : insertion_refusal (with_nodes base R) p at (events_below T n) ≡ None = comes-free T n p front back R base form some can sub place at less in
      let come : Comes T n p at R = comes-again T n p front back R base form some can sub place at less pieces in
      let V : Table = inserted R p (at - 1) come.piece in
      let command : Command = comes_again parent T n in
      let done : IsEdited R command V = record {
        node = p;
        named = named;
        edited = record { piece = come.piece; well_formed = come.formed; scoped = come.scoped; is = refl };
      } in
      let may : MayTake (removed T n) p (length front) come.piece =
      subst (λ U. MayTake U p (length front) come.piece) (sym is-rest) (subst (λ k. MayTake R p k come.piece) less come.may) in
      let again : SameTree T (inserted (removed T n) p (length front) come.piece) =
      undone T come.piece n p front back form come.formed list (subst (TextsApart T) without-n rest-apart) come.same may in
      let same : SameTree T V = subst (λ U. SameTree T (inserted U p (at - 1) come.piece)) is-rest (subst (λ k. SameTree T (inserted (removed T n) p k come.piece)) (sym less) again) in
      let numbers : length V ≡ length R + length (below T n) =
      omega (
        arith,
        length-inserted R come.piece p (at - 1) live-p,
        nodes-brought come.piece come.formed (ordered come.piece (formed-of come.piece come.formed)),
        piece-nodes come.piece come.formed (events_below T n) come.scoped.lines_are,
        sub.nodes,
      ) in
      one-done before (with_nodes base R) V command (length (below T n)) (ap (refusal_where (with_nodes base R) command) named ∙ free-at) done (subst (λ W. SameTree W V) (sym was) same) numbers

-- commands that take back, and their number, told in other words
pub told-so : (before after : Contents) (U : Table) (commands entry : List Command) (more count : ℕ) → after.nodes ≡ U → entry ≡ commands → count ≡ more →
    TakesBack before (with_nodes after U) commands more → TakesBack before after entry count
told-so before after U commands entry more count is same all back =
    subst (λ k. TakesBack before after entry k) (sym all)
    (subst (λ l. TakesBack before after l more) (sym same) (subst (λ W. TakesBack before (with_nodes after W) commands more) (sym is) back))

pub kid-live : (T : Table) (n : ℕ) → can_be_kid (kind_of T n) ≡ true → is_live T n ≡ true
kid-live T n can = by (entry_at T n) can
  where
    by : (o : Option Facts) → can_be_kid (kind_at (content_at o)) ≡ true → is_some o ≡ true
    by None h = h
    by (Some node) h = refl

pub lone-deletions-are-undone : DeletionsAreUndone → FragmentsHavePieces → SubtreesAreFragments → LoneDeletionsAreUndone
lone-deletions-are-undone undone pieces fragments before after path n form scoped document bound named lone free edited same-cap few =
    let T : Table = before.nodes in
    let command : Command = Delete path in
    let node : edited.node ≡ n = ap (λ (o : Option ℕ). unwrap_or o 0) (sym edited.named ∙ named) in
    let is : after.nodes ≡ deleted T n = subst (λ m. after.nodes ≡ deleted T m) node edited.edited in
    let free-at : deletion_refusal T n ≡ None = ap (refusal_where before command) (sym named) ∙ free in
    let can : can_be_kid (kind_of T n) ≡ true =
    not-true (can_be_kid (kind_of T n)) (none-of-two (not (can_be_kid (kind_of T n))) (is_element (kind_of T n) && is_root (parent_of T n)) WrongKind RootElement free-at).0 in
    let below-root : n ≢ 0 = λ e. true≢false (sym can ∙ (ap (λ m. can_be_kid (kind_of T m)) e ∙ ap can_be_kid form.root_kind)) in
    let parent : (p : ℕ) × (parent_of T n ≡ Some p) = (ways-up T (formed-of T form)).has_parent n (kid-live T n can) below-root in
    let alone : meeting T n (kids_of T parent.0) ≡ None = ap (λ o. meeting T n (kids_above T o)) (sym parent.1) ∙ lone in
    let entry : undoing T command ≡ comes_again (path_above path) T n ∷ [] = ap (undoing_where T command) named ∙ ap (deletion_undone (path_above path) T n) lone in
    let all : undoing_numbers T command ≡ length (below T n) =
    ap (numbers_where T command) named ∙ (ap (λ o. length (below T n) + numbers_met o) lone ∙ omega arith) in
    let p : ℕ = parent.0 in
    let up : parent_of T n ≡ Some p = parent.1 in
    let t : Formed T = formed-of T form in
    let inside : p ≡ 0 → (is_element (kind_of T n) ≡ false) × (is_text (kind_of T n) ≡ false) = not-inside T n p up (is-kid T n p form up can) document free-at in
    let apart : TextsApart T (without n (kids_of T p)) = lone-apart T n p t alone in
    let R : Table = remaining T n p t up in
    let is-rest : after.nodes ≡ R = is ∙ (ap (deleted_by T n) lone ∙ ap (removed_from T n) up) in
    let back : TakesBack before (with_nodes after R) (comes_again (path_above path) T n ∷ []) (length (below T n)) =
    comes-back T n p form up can inside apart undone pieces fragments scoped before after (path_above path) refl
    (path-rest T n p form up can inside apart (path_above path) (path-above T form path n p up named))
    (subst (λ c. length (order T) ≤ c) (sym same-cap) bound) (omega (arith, few, all, ap length is-rest)) in
    told-so before after R (comes_again (path_above path) T n ∷ []) (undoing T command) (length (below T n)) (undoing_numbers T command) is-rest entry all back
