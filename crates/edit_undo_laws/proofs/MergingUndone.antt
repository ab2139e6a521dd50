-- A node that was deleted between two texts comes again, and the one text that they became is two again.
use Rattle.std.proofs.Common.{◌≡◌, ◌≢◌, ℕ, ◌+◌, ◌-◌, ◌≤◌, suc, Bool, true, false, cond, not, ◌&&◌, ◌==◌, List, [], ◌∷◌, ◌++◌, length, Option, None, Some, refl, sym, ap, ap₂, ◌∙◌, subst, true≢false, arith, append_assoc, unwrap_or}
use Rattle.std.specs.Prelude.{count_by, filter}
use Rattle.std.specs.List.{flat_map}
use Rattle.std.proofs.lemmas.List.Elements.{All-take}
use Rattle.sch_base.specs.Names.{QNamesSplit}
use Rattle.pyx_core.specs.declared.event.Event.{Event}
use Rattle.doc_table.proofs.Counts.{live-count}
use Rattle.doc_table.proofs.Forests.{formed-of}
use Rattle.doc_table.proofs.ListLemmas.{In, In-mem, occurs-append, occurs-head, sum_by-same}
use Rattle.doc_table.proofs.SameTreeLemmas.{same-lines-same-tree, same-tree-same-lines}
use Rattle.doc_table.proofs.TreeLaws.{ordered, ways-up, well-formed}
use Rattle.doc_table.specs.Lists.{occurs}
use Rattle.doc_table.specs.inner.Sound.{Formed, count_live}
use Rattle.doc_edits.specs.Changes.{deleted, deleted_by, meeting, said, without}
use Rattle.doc_edits.proofs.ClearLemmas.{cut-length}
use Rattle.doc_edits.proofs.DeletionLemmas.{Met, first, first-apart, first-formed, is-first, is-second, may-say, met, second, second-apart}
use Rattle.doc_edits.proofs.NumberingLemmas.{place-head, place-tail}
use Rattle.doc_edits.proofs.RemovalLemmas.{formed-left, kids-owner}
use Rattle.doc_tree.specs.kind.Kind.{Kind}
use Rattle.doc_tree.specs.kind.Kind.TheVariants.{Root, Element, Attribute, Text, Comment, Pi}
use Rattle.doc_tree.specs.declared.refusal.EditRefusal.TheVariants.{WrongKind, RootElement}
use Rattle.doc_tree.specs.limits.TheConstants.{MAX_NODE_NUMBERS}
use Rattle.doc_tree.specs.Kinds.{can_be_kid, holds_kids, is_document, is_element, is_kind, is_text}
use Rattle.doc_tree.specs.Laws.{TextsApart, WellFormed}
use Rattle.doc_tree.specs.Lists.{place_in}
use Rattle.doc_tree.specs.Refusals.{deletion_refusal, has_own_text}
use Rattle.doc_tree.specs.SameTree.{SameTree}
use Rattle.doc_tree.specs.Table.{Contents, Table, content_of, is_live, is_root, kids_above, kids_of, kind_at, kind_of, parent_of, value_at, value_of}
use Rattle.doc_tree.specs.Walks.{below, order}
use Rattle.doc_tree.proofs.RefusalLemmas.{none-of-two, not-true}
use Rattle.doc_undo_laws.specs.Undoing.{DeletionsAreUndone}
use Rattle.doc_undo_laws.proofs.ContentBack.{said-back}
use Rattle.doc_undo_laws.proofs.DeletionUndone.{listed, not-before, without-it}
use Rattle.doc_undo_laws.proofs.Settling.{Stays, kid-other, kid-stays, owner-stays, removed-stays, root-stays}
use Rattle.name_scopes.specs.Scoping.{InScope}
use Rattle.name_scopes.proofs.ItemTables.{no_attributes, no_kids}
use Rattle.name_scopes_laws.specs.Pieces.{FragmentsHavePieces}
use Rattle.name_scopes_laws.specs.Scopes.{DeletionsKeepScope}
use Rattle.subtree_events.specs.Subtrees.{SubtreesAreFragments}
use Rattle.edit_script.specs.WellFormed.{IsPath, IsStep, WellFormedCommand}
use Rattle.edit_script.specs.declared.command.Command.{Command}
use Rattle.edit_script.specs.declared.command.Command.TheVariants.{Insert, Delete, SetText}
use Rattle.edit_script.specs.declared.command.PathStep.{PathStep}
use Rattle.edit_commands.specs.Commands.{IsEdited, command_refusal, refusal_where}
use Rattle.edit_commands.specs.Paths.{kids_of_kind, led_from, node_named}
use Rattle.edit_command_laws.specs.TreesKept.{EditsKeepTrees}
use Rattle.edit_iso_laws.specs.CommandsMove.{DoneInTurn, GoesOn, ScriptsGoOn, then}
use Rattle.edit_iso_laws.proofs.GoingOnLemmas.{said-length}
use Rattle.edit_iso_laws.proofs.InTurnLemmas.{cap-in-turn, done-on, kept-in-turn}
use Rattle.edit_paths.specs.PathTo.{step_to}
use Rattle.edit_paths.specs.Entries.{comes_again, deletion_undone, numbers_met, numbers_where, path_above, place_of, undoing, undoing_numbers, undoing_where}
use Rattle.edit_undo_laws.specs.Undoing.{MergingDeletionsAreUndone, TakesBack}
use Rattle.edit_undo_laws.proofs.DeletingUndone.{comes-back, kid-live, no-texts, path-above, path-rest, told-so}
use Rattle.edit_undo_laws.proofs.EntriesFormed.{again-formed, all-one}
use Rattle.edit_undo_laws.proofs.LosingAttributes.{with_nodes}
use Rattle.edit_paths.proofs.PathsKept.{led-on, place-counts, step-leads}
use Rattle.edit_undo_laws.proofs.RemovalCounts.{nodes-left}
use Rattle.edit_undo_laws.proofs.SubtreeStays.{below-stays, events-stay}
use Rattle.edit_undo_laws.proofs.TextUndone.{free-after, path-same, text-of}

place-behind : (n : ℕ) (front back : List ℕ) → ((k : ℕ) → In k front → k ≢ n) → place_in n (front ++ n ∷ back) ≡ length front
place-behind n [] back others = place-head n n back refl
place-behind n (x ∷ front) back others =
    place-tail n x (front ++ n ∷ back) (λ e. others x (occurs-head x front) (sym e)) ∙ ap suc (place-behind n front back (λ k h. others k (omega (arith, h))))

text-holds-none : (o : Option Kind) → is_text o ≡ true → (holds_kids o ≡ false) × (o ≢ Some Element)
text-holds-none None h = absurd (true≢false (sym h))
text-holds-none (Some Root) h = absurd (true≢false (sym h))
text-holds-none (Some Element) h = absurd (true≢false (sym h))
text-holds-none (Some Attribute) h = absurd (true≢false (sym h))
text-holds-none (Some Text) h = (refl, λ e. absurd (true≢false (ap is_text e)))
text-holds-none (Some Comment) h = absurd (true≢false (sym h))
text-holds-none (Some Pi) h = absurd (true≢false (sym h))

-- a text has nothing below it
lone-text : (T : Table) → WellFormed T → (n : ℕ) → is_text (kind_of T n) ≡ true → length (below T n) ≡ 1
lone-text T form n text =
    let kind = text-holds-none (kind_of T n) text in
    ap length ((ordered T (formed-of T form)).below_at n)
    ∙ ap₂ (λ (a k : List ℕ). length (n ∷ (a ++ flat_map (below T) k))) (no_attributes T form n kind.1) (no_kids T form n kind.0)

module _ (T : Table) (n p l r : ℕ) (front back : List ℕ) (form : WellFormed T) (document : is_document T ≡ true) (up : parent_of T n ≡ Some p)
    (kids : kids_of T p ≡ front ++ l ∷ n ∷ r ∷ back) (tl : is_text (kind_of T l) ≡ true) (tr : is_text (kind_of T r) ≡ true) where
  pub t : Formed T
  t = formed-of T form

  abbrev to_right : List ℕ
  to_right = front ++ l ∷ n ∷ []

  abbrev to_node : List ℕ
  to_node = front ++ l ∷ []

  once : (k : ℕ) → occurs k (kids_of T p) ≤ 1
  once k = form.kids_once p k

  split-right : kids_of T p ≡ to_right ++ r ∷ back
  split-right = kids ∙ sym (append_assoc front (l ∷ n ∷ []) (r ∷ back))

  split-node : kids_of T p ≡ to_node ++ n ∷ r ∷ back
  split-node = kids ∙ sym (append_assoc front (l ∷ []) (n ∷ r ∷ back))

  kid-left : In l (kids_of T p)
  kid-left = listed l (kids_of T p) front (n ∷ r ∷ back) once kids

  kid-node : In n (kids_of T p)
  kid-node = listed n (kids_of T p) to_node (r ∷ back) once split-node

  kid-right : In r (kids_of T p)
  kid-right = listed r (kids_of T p) to_right back once split-right

  in-left : In l to_node
  in-left = omega (arith, occurs-append l front (l ∷ []), occurs-head l [])

  right-other : n ≢ r
  right-other = not-before r (kids_of T p) to_right back once split-right n (omega (arith, occurs-append n front (l ∷ n ∷ []), occurs-head n []))

  pub up-right : parent_of T r ≡ Some p
  up-right = form.kid_parent p r (In-mem r (kids_of T p) kid-right)

  up-left : parent_of T l ≡ Some p
  up-left = form.kid_parent p l (In-mem l (kids_of T p) kid-left)

  pub can-right : can_be_kid (kind_of T r) ≡ true
  can-right = form.kid_kind p r (In-mem r (kids_of T p) kid-right)

  kind-left : kind_of T l ≡ Some Text
  kind-left = text-of (kind_of T l) tl

  -- they don't stand under the root
  not-root : p ≢ 0
  not-root e = true≢false (sym tl ∙ no-texts T document l (subst (λ q. In l (kids_of T q)) e kid-left))

  no-inside : (U : Table) (m : ℕ) → p ≡ 0 → (is_element (kind_of U m) ≡ false) × (is_text (kind_of U m) ≡ false)
  no-inside U m e = absurd (not-root e)

  -- without the right text
  abbrev F : Table
  F = first T n p l r front back t up kids tl tr

  f : Formed F
  f = first-formed T n p l r front back t up kids tl tr

  form-F : WellFormed F
  form-F = well-formed F f

  apart-F : TextsApart T (without r (kids_of T p))
  apart-F = first-apart T n p l r front back t up kids tl tr

  live-F : is_live F p ≡ true
  live-F = owner-stays T r p t up-right kid-right

  root-F : is_live F 0 ≡ true
  root-F = root-stays T r p t up-right kid-right

  stays-F : (m : ℕ) → is_live F m ≡ true → Stays T F p m
  stays-F m live = removed-stays T r p t up-right kid-right m live

  kids-F : kids_of F p ≡ to_node ++ n ∷ back
  kids-F =
      kids-owner T r p t up-right
      ∙ (without-it r (kids_of T p) to_right back once split-right ∙ (append_assoc front (l ∷ n ∷ []) back ∙ sym (append_assoc front (l ∷ []) (n ∷ back))))

  kid-F : In n (kids_of F p)
  kid-F = listed n (kids_of F p) to_node back (λ k. form-F.kids_once p k) kids-F

  up-F : parent_of F n ≡ Some p
  up-F = form-F.kid_parent p n (In-mem n (kids_of F p) kid-F)

  can-F : can_be_kid (kind_of F n) ≡ true
  can-F = form-F.kid_kind p n (In-mem n (kids_of F p) kid-F)

  -- it is a document
  kind-F : (k : ℕ) → In k (kids_of T 0) → kind_of F k ≡ kind_of T k
  kind-F k h =
      let ne : 0 ≢ p = λ e. not-root (sym e) in
      ap kind_at (stays-F k (kid-stays T r p t up-right kid-right 0 k root-F (kid-other T r p t up-right kid-right 0 k ne h) h)).content

  counted-F : (test : Option Kind → Bool) → count_by (λ k. test (kind_of F k)) (kids_of F 0) ≡ count_by (λ k. test (kind_of T k)) (kids_of T 0)
  counted-F test =
      ap (count_by (λ k. test (kind_of F k))) ((stays-F 0 root-F).kids (λ e. not-root (sym e)))
      ∙ sum_by-same (λ k. cond (test (kind_of F k)) 1 0) (λ k. cond (test (kind_of T k)) 1 0) (kids_of T 0) (λ k h. ap (λ o. cond (test o) 1 0) (kind-F k h))

  document-F : is_document F ≡ true
  document-F = ap₂ (λ (a b : ℕ). (a == 1) && (b == 0)) (counted-F is_element) (counted-F is_text) ∙ document

  -- the node comes again there as in the tree with both texts
  place-same : place_of F n ≡ place_of T n
  place-same =
      ap (λ o. suc (place_in n (kids_above F o))) up-F
      ∙ (ap suc (ap (place_in n) kids-F ∙ (place-behind n to_node back (λ k h. not-before n (kids_of F p) to_node back (λ j. form-F.kids_once p j) kids-F k h)
      ∙ sym (ap (place_in n) split-node ∙ place-behind n to_node (r ∷ back) (λ k h. not-before n (kids_of T p) to_node (r ∷ back) once split-node k h))))
      ∙ sym (ap (λ o. suc (place_in n (kids_above T o))) up))

  again-same : (parent : List PathStep) → comes_again parent F n ≡ comes_again parent T n
  again-same parent = ap₂ (λ (at : ℕ) (events : List Event). Insert parent at events) place-same (events-stay T r p t up-right kid-right n right-other kid-node live-F)

  below-same : below F n ≡ below T n
  below-same = below-stays T r p t up-right kid-right n right-other kid-node live-F

  -- and without the node
  abbrev S : Table
  S = second T n p l r front back t up kids tl tr

  apart-S : TextsApart F (without n (kids_of F p))
  apart-S = second-apart T n p l r front back t up kids tl tr

  s : Formed S
  s = formed-left F n p f up-F apart-S

  form-S : WellFormed S
  form-S = well-formed S s

  kids-S : kids_of S p ≡ to_node ++ back
  kids-S = kids-owner F n p f up-F ∙ without-it n (kids_of F p) to_node back (λ k. form-F.kids_once p k) kids-F

  content-S : (k : ℕ) → In k to_node → content_of S k ≡ content_of T k
  content-S k h =
      let in-S : In k (kids_of S p) = subst (In k) (sym kids-S) (omega (arith, h, occurs-append k to_node back)) in
      let in-F : In k (kids_of F p) = subst (In k) (sym kids-F) (omega (arith, h, occurs-append k to_node (n ∷ back))) in
      (removed-stays F n p f up-F kid-F k ((ways-up S s).kid_live p k (In-mem k (kids_of S p) in-S))).content
      ∙ (stays-F k ((ways-up F f).kid_live p k (In-mem k (kids_of F p) in-F))).content

  kind-S : (k : ℕ) → In k to_node → kind_of S k ≡ kind_of T k
  kind-S k h = ap kind_at (content-S k h)

  -- the step to the left text
  abbrev step : List PathStep
  step = step_to T l (parent_of T l) (kind_of T l)

  step-left : (parent : List PathStep) → node_named S parent ≡ Some p → node_named S (parent ++ step) ≡ Some l
  step-left parent named =
      let is-text-left : is_kind Text (kind_of T l) ≡ true = ap (is_kind Text) kind-left in
      let counted : count_by (λ k. is_kind Text (kind_of T k)) front ≡ count_by (λ k. is_kind Text (kind_of S k)) front =
      sum_by-same (λ k. cond (is_kind Text (kind_of T k)) 1 0) (λ k. cond (is_kind Text (kind_of S k)) 1 0) front
      (λ k h. ap (λ o. cond (is_kind Text o) 1 0) (sym (kind-S k (omega (arith, h, occurs-append k front (l ∷ [])))))) in
      let placed : place_in l (kids_of_kind T p Text) ≡ count_by (λ k. is_kind Text (kind_of S k)) front =
      ap (λ (ks : List ℕ). place_in l (filter (λ k. is_kind Text (kind_of T k)) ks)) kids
      ∙ (place-counts (λ k. is_kind Text (kind_of T k)) l front (n ∷ r ∷ back) is-text-left (λ k h. not-before l (kids_of T p) front (n ∷ r ∷ back) once kids k h) ∙ counted) in
      led-on S (Some 0) parent step
      ∙ (ap (λ o. led_from S o step) named
      ∙ (ap₂ (λ (o : Option ℕ) (k : Option Kind). led_from S (Some p) (step_to T l o k)) up-left kind-left
      ∙ (ap (λ i. led_from S (Some p) (record { kind = Text; index = suc i } ∷ [])) placed
      ∙ step-leads S p l Text front back (kids-S ∙ append_assoc front (l ∷ []) back) (ap (is_kind Text) (kind-S l in-left) ∙ is-text-left))))

  abbrev both : List ℕ
  both = value_of T l ++ value_of T r

  -- what the deletion makes
  abbrev D : Table
  D = said S l both

  pub merge-back : DeletionsAreUndone → FragmentsHavePieces → SubtreesAreFragments → DeletionsKeepScope → EditsKeepTrees → ScriptsGoOn → InScope T →
      (before base : Contents) (parent : List PathStep) → before.nodes ≡ T → node_named T parent ≡ Some p → WellFormedCommand (comes_again parent T r) →
      WellFormed D → is_document D ≡ true → length (order T) ≤ base.pair_cap → length D + (length (below T n) + 1) ≤ MAX_NODE_NUMBERS →
      TakesBack before (with_nodes base D) (SetText (parent ++ step) (value_of T l) ∷ comes_again parent T n ∷ comes_again parent T r ∷ []) (length (below T n) + 1)
  merge-back undone pieces fragments scopes keeps go-on scoped before base parent was named well form-D document-D bound few =
      let length-F : length F ≡ length T = cut-length T r p (below T r) in
      let length-S : length S ≡ length F = cut-length F n p (below F n) in
      let length-D : length D ≡ length S = said-length S l both in
      let one : length (below T r) ≡ 1 = lone-text T form r tr in
      let fewer : length (order F) ≤ length (order T) =
      omega (arith, live-count F f.forest f.whole, live-count T t.forest t.whole, nodes-left T r p t up-right (ways-live), ap count_live (is-first T n p l r front back t up kids tl tr)) in
      -- the right text comes last, where the node stands
      let named-F : node_named F parent ≡ Some p = path-rest T r p form up-right can-right (no-inside T r) apart-F parent named in
      let last : TakesBack before (with_nodes base F) (comes_again parent T r ∷ []) (length (below T r)) =
      comes-back T r p form up-right can-right (no-inside T r) apart-F undone pieces fragments scoped before base parent was named-F bound (omega (arith, few, length-D, length-S, one)) in
      -- before it the node comes
      let named-S : node_named S parent ≡ Some p = path-rest F n p form-F up-F can-F (no-inside F n) apart-S parent named-F in
      let scoped-F : InScope F = subst InScope (is-first T n p l r front back t up kids tl tr) (scopes.removal T r form scoped) in
      let node : TakesBack (with_nodes base F) (with_nodes base S) (comes_again parent F n ∷ []) (length (below F n)) =
      comes-back F n p form-F up-F can-F (no-inside F n) apart-S undone pieces fragments scoped-F (with_nodes base F) base parent refl named-S (omega (arith, bound, fewer))
      (omega (arith, few, length-D, ap length below-same)) in
      -- and first the left text says its own
      let saying : Command = SetText (parent ++ step) (value_of S l) in
      let own : has_own_text (kind_of S l) ≡ true = ap has_own_text (kind-S l in-left ∙ kind-left) in
      let named-left : node_named D (parent ++ step) ≡ Some l = path-same S l both (parent ++ step) ∙ step-left parent named-S in
      let free : command_refusal (with_nodes base D) saying ≡ None =
      ap (refusal_where (with_nodes base D) saying) named-left ∙ free-after S l both form-S (may-say T n p l r front back t up kids tl tr) own in
      let edited : IsEdited D saying S = record { node = l; named = named-left; edited = sym (said-back S l both) } in
      let kept-S = keeps (with_nodes base D) saying S form-D document-D free edited in
      let kept-V = kept-in-turn keeps (with_nodes base S) node.end (comes_again parent F n ∷ []) kept-S.0 kept-S.1 node.done in
      let kept-W = kept-in-turn keeps (with_nodes base F) last.end (comes_again parent T r ∷ []) form-F document-F last.done in
      let on : GoesOn node.end (comes_again parent T r ∷ []) last.end (length (below T r)) =
      go-on (with_nodes base F) node.end last.end (comes_again parent T r ∷ []) (length (below T r)) form-F kept-V.0 document-F kept-V.1 node.same
      (cap-in-turn (with_nodes base S) node.end (comes_again parent F n ∷ []) node.done) (all-one WellFormedCommand (comes_again parent T r) well) last.done last.numbers
      (omega (arith, few, length-D, ap length below-same, one, node.numbers)) in
      let kept-E = kept-in-turn keeps node.end on.end (comes_again parent T r ∷ []) kept-V.0 kept-V.1 on.done in
      let same : SameTree T on.end.nodes =
      same-lines-same-tree T on.end.nodes form kept-E.0
      (same-tree-same-lines T last.end.nodes form kept-W.0 (subst (λ U. SameTree U last.end.nodes) was last.same) ∙ same-tree-same-lines last.end.nodes on.end.nodes kept-W.0 kept-E.0 on.same) in
      let done : DoneInTurn (with_nodes base D) (saying ∷ comes_again parent F n ∷ comes_again parent T r ∷ []) on.end =
      then (with_nodes base D) (with_nodes base S) on.end saying (comes_again parent F n ∷ comes_again parent T r ∷ []) free edited refl
      (done-on (with_nodes base S) node.end on.end (comes_again parent F n ∷ []) (comes_again parent T r ∷ []) node.done on.done) in
      let entry : saying ∷ comes_again parent F n ∷ comes_again parent T r ∷ [] ≡ SetText (parent ++ step) (value_of T l) ∷ comes_again parent T n ∷ comes_again parent T r ∷ [] =
      ap₂ (λ (value : List ℕ) (command : Command). SetText (parent ++ step) value ∷ command ∷ comes_again parent T r ∷ []) (ap value_at (content-S l in-left)) (again-same parent) in
      record {
        end = on.end;
        done = subst (λ commands. DoneInTurn (with_nodes base D) commands on.end) entry done;
        same = subst (λ U. SameTree U on.end.nodes) (sym was) same;
        numbers = omega (arith, on.numbers, node.numbers, length-D, ap length below-same, one);
      }
    where
      ways-live : is_live T r ≡ true
      ways-live = (ways-up T t).kid_live p r (In-mem r (kids_of T p) kid-right)

pub merging-deletions-are-undone : QNamesSplit → DeletionsAreUndone → FragmentsHavePieces → SubtreesAreFragments → DeletionsKeepScope → EditsKeepTrees → ScriptsGoOn → MergingDeletionsAreUndone
merging-deletions-are-undone splits undone pieces fragments scopes keeps go-on before after path n texts form scoped document bound well named some free edited same-cap few =
    let T : Table = before.nodes in
    let command : Command = Delete path in
    let node : edited.node ≡ n = ap (λ (o : Option ℕ). unwrap_or o 0) (sym edited.named ∙ named) in
    let is : after.nodes ≡ deleted T n = subst (λ m. after.nodes ≡ deleted T m) node edited.edited in
    let free-at : deletion_refusal T n ≡ None = ap (refusal_where before command) (sym named) ∙ free in
    let can : can_be_kid (kind_of T n) ≡ true =
    not-true (can_be_kid (kind_of T n)) (none-of-two (not (can_be_kid (kind_of T n))) (is_element (kind_of T n) && is_root (parent_of T n)) WrongKind RootElement free-at).0 in
    let below-root : n ≢ 0 = λ e. true≢false (sym can ∙ (ap (λ m. can_be_kid (kind_of T m)) e ∙ ap can_be_kid form.root_kind)) in
    let t : Formed T = formed-of T form in
    let parent : (p : ℕ) × (parent_of T n ≡ Some p) = (ways-up T t).has_parent n (kid-live T n can) below-root in
    let p : ℕ = parent.0 in
    let up : parent_of T n ≡ Some p = parent.1 in
    let m : Met T n (kids_of T p) texts = met T n (kids_of T p) texts (ap (λ o. meeting T n (kids_above T o)) (sym up) ∙ some) in
    let l : ℕ = texts.left in
    let r : ℕ = texts.right in
    let merged : after.nodes ≡ D T n p l r m.front m.back form document up m.is m.left_text m.right_text =
    is ∙ (ap (deleted_by T n) some ∙ ap (λ U. said U l (value_of T l ++ value_of T r)) (is-second T n p l r m.front m.back t up m.is m.left_text m.right_text)) in
    let entry : undoing T command ≡ deletion_undone (path_above path) T n (Some texts) = ap (undoing_where T command) named ∙ ap (deletion_undone (path_above path) T n) some in
    let all : undoing_numbers T command ≡ length (below T n) + 1 = ap (numbers_where T command) named ∙ ap (λ o. length (below T n) + numbers_met o) some in
    let kept : WellFormed after.nodes × (is_document after.nodes ≡ true) = keeps before command after.nodes form document free edited in
    let above : IsPath (path_above path) = All-take IsStep (length path - 1) path well in
    let well-right : WellFormedCommand (comes_again (path_above path) T r) =
    again-formed splits fragments before form scoped (path_above path) r p above
    (up-right T n p l r m.front m.back form document up m.is m.left_text m.right_text) (can-right T n p l r m.front m.back form document up m.is m.left_text m.right_text) in
    let back : TakesBack before (with_nodes after (D T n p l r m.front m.back form document up m.is m.left_text m.right_text)) (deletion_undone (path_above path) T n (Some texts)) (length (below T n) + 1) =
    merge-back T n p l r m.front m.back form document up m.is m.left_text m.right_text undone pieces fragments scopes keeps go-on scoped before after (path_above path) refl
    (path-above T form path n p up named) well-right (subst WellFormed merged kept.0) (ap is_document (sym merged) ∙ kept.1)
    (subst (λ c. length (order T) ≤ c) (sym same-cap) bound) (omega (arith, few, all, ap length merged)) in
    told-so before after (D T n p l r m.front m.back form document up m.is m.left_text m.right_text) (deletion_undone (path_above path) T n (Some texts)) (undoing T command)
    (length (below T n) + 1) (undoing_numbers T command) merged entry all back
