-- A script can hold the commands that take a command back.
use Rattle.std.proofs.Common.{◌≡◌, ◌≢◌, ℕ, ◌+◌, ◌-◌, ◌≤◌, zero, suc, Bool, true, false, cond, not, ◌&&◌, List, [], ◌∷◌, ◌++◌, length, map, take, Option, None, Some, refl, sym, ap, ◌∙◌, subst, true≢false, arith}
use Rattle.std.specs.Prelude.{All, count_by, sum_by}
use Rattle.std.proofs.lemmas.List.Elements.{All-append, All-take}
use Rattle.std.proofs.lemmas.List.Sums.{sum_by-append, sum_by-cons}
use Rattle.sch_base.specs.Names.{QNamesSplit}
use Rattle.pyx_core.specs.declared.event.Event.{Event}
use Rattle.pyx_core.specs.declared.event.Event.TheVariants as event
use Rattle.doc_table.proofs.Forests.{formed-of}
use Rattle.doc_table.proofs.ListLemmas.{In, In-mem, mem-In, occurs-append, occurs-head}
use Rattle.doc_table.proofs.TreeLaws.{ordered, ways-up}
use Rattle.doc_edits.specs.Changes.{Meeting, meeting}
use Rattle.doc_edits.proofs.DeletionLemmas.{Met, met}
use Rattle.doc_edits.proofs.NumberingLemmas.{place-most}
use Rattle.doc_tree.specs.kind.Kind.{Kind}
use Rattle.doc_tree.specs.kind.Kind.TheVariants.{Root, Element, Attribute, Text, Comment, Pi}
use Rattle.doc_tree.specs.declared.refusal.EditRefusal.TheVariants.{WrongKind, RootElement}
use Rattle.doc_tree.specs.Kinds.{can_be_kid, is_element, is_kind, is_text}
use Rattle.doc_tree.specs.Laws.{WellFormed}
use Rattle.doc_tree.specs.Lists.{place_in}
use Rattle.doc_tree.specs.NameTests.{attribute_meant}
use Rattle.doc_tree.specs.QNames.{written_in}
use Rattle.doc_tree.specs.Refusals.{renaming_refusal}
use Rattle.doc_tree.specs.Scope.{scope_at}
use Rattle.doc_tree.specs.Table.{Contents, Table, text, attrs_of, is_root, kids_above, kids_of, kind_of, name_of, parent_of, value_of}
use Rattle.doc_tree.specs.Walks.{below, text_bytes}
use Rattle.doc_tree.proofs.AttributeLemmas.{found-member}
use Rattle.doc_tree.proofs.RefusalLemmas.{none-of-two, not-true}
use Rattle.name_scopes.specs.QNames.{local_part, prefix_part}
use Rattle.name_scopes.specs.Scoping.{InScope}
use Rattle.name_scopes_laws.proofs.ScopeLemmas.{value-made}
use Rattle.name_scopes.proofs.ItemNames.{spelled}
use Rattle.subtree_events.specs.Events.{events_below}
use Rattle.subtree_events.specs.Subtrees.{IsSubtree, SubtreesAreFragments}
use Rattle.edit_script.specs.declared.command.Command.{Command}
use Rattle.edit_script.specs.declared.command.Command.TheVariants.{Insert, Delete, SetText, SetAttr, UnsetAttr, Rename, RenameAttr}
use Rattle.edit_script.specs.declared.command.PathStep.{PathStep}
use Rattle.edit_script.specs.declared.limits.TheConstants.{MAX_PLACE}
use Rattle.edit_script.specs.WellFormed.{IsName, IsPath, IsPlace, IsStep, WellFormedCommand, is_kid}
use Rattle.edit_commands.specs.Commands.{path_of, refusal_at, refusal_where, top_kind}
use Rattle.edit_commands.specs.Paths.{kids_of_kind, node_named}
use Rattle.edit_paths.specs.PathTo.{step_to}
use Rattle.edit_paths.specs.Entries.{attribute_comes, attribute_goes, attribute_renaming_undone, behind, comes_again, deletion_undone, path_above, place_of, setting_undone, step_under, undoing_at, undoing_where, unsetting_undone}
use Rattle.edit_paths.proofs.LeadingLemmas.{few-listed, filter-short}
use Rattle.edit_undo_laws.specs.Undoing.{UndoingsAreFormed}
use Rattle.edit_undo_laws.proofs.DeletingUndone.{kid-live}
use Rattle.edit_undo_laws.proofs.OwnAttributes.{IsOwn, own, pair_of, split-placed}
use Rattle.edit_undo_laws.proofs.RenamingUndone.{IsCalled, called, renamed-element}

-- what holds of each of a list
all-none : {X : Type 0} (P : X → Type 0) → All P []
all-none P i d h = absurd (omega (arith, h))

pub all-one : {X : Type 0} (P : X → Type 0) (x : X) → P x → All P (x ∷ [])
all-one P x is zero d h = is
all-one P x is (suc k) d h = absurd (omega (arith, h))

all-more : {X : Type 0} (P : X → Type 0) (x : X) (xs : List X) → P x → All P xs → All P (x ∷ xs)
all-more P x xs is rest = All-append P (x ∷ []) xs (all-one P x is) rest

all-of : (P : Command → Type 0) (f : ℕ → Command) (ns : List ℕ) → ((n : ℕ) → In n ns → P (f n)) → All P (map f ns)
all-of P f [] each = all-none P
all-of P f (n ∷ ns) each = all-more P (f n) (map f ns) (each n (occurs-head n ns)) (all-of P f ns (λ m h. each m (omega (arith, h))))

-- the numbers of places are small
counted-few : (f : ℕ → Bool) (xs : List ℕ) → count_by f xs ≤ length xs
counted-few f [] = omega arith
counted-few f (x ∷ xs) = by (f x) (sum_by-cons (λ k. cond (f k) 1 0) x xs) (counted-few f xs)
  where
    by : (b : Bool) → count_by f (x ∷ xs) ≡ cond b 1 0 + count_by f xs → count_by f xs ≤ length xs → count_by f (x ∷ xs) ≤ suc (length xs)
    by true e h = omega (arith, e, h)
    by false e h = omega (arith, e, h)

take-few : (k : ℕ) (xs : List ℕ) → length (take k xs) ≤ length xs
take-few zero xs = omega arith
take-few (suc k) [] = omega arith
take-few (suc k) (x ∷ xs) = omega (arith, take-few k xs)

module _ (T : Table) (form : WellFormed T) where
  few-kids : (p : ℕ) → suc (length (kids_of T p)) ≤ MAX_PLACE
  few-kids p = omega (arith, few-listed T form p)

  few-at : (o : Option ℕ) → suc (length (kids_above T o)) ≤ MAX_PLACE
  few-at None = omega arith
  few-at (Some p) = few-kids p

  -- steps
  placed-step : (kind : Kind) (index : ℕ) → is_kid kind ≡ true → 1 ≤ index → index ≤ MAX_PLACE → All IsStep (record { kind = kind; index = index } ∷ [])
  placed-step kind index kid low high = all-one IsStep (record { kind = kind; index = index }) (record { kind = kid; place = record { low = low; high = high } })

  under-formed : (p at : ℕ) (events : List Event) → All IsStep (step_under T p at (top_kind events))
  under-formed p at [] = all-none IsStep
  under-formed p at (event.Start name attrs ∷ events) = placed-step Element _ refl (omega arith)
      (omega (arith, counted-few (λ k. is_kind Element (kind_of T k)) (take (at - 1) (kids_of T p)), take-few (at - 1) (kids_of T p), few-kids p))
  under-formed p at (event.End name ∷ events) = all-none IsStep
  under-formed p at (event.Chars characters ∷ events) =
      placed-step Text _ refl (omega arith) (omega (arith, counted-few (λ k. is_kind Text (kind_of T k)) (take (at - 1) (kids_of T p)), take-few (at - 1) (kids_of T p), few-kids p))
  under-formed p at (event.Pi target body ∷ events) =
      placed-step Pi _ refl (omega arith) (omega (arith, counted-few (λ k. is_kind Pi (kind_of T k)) (take (at - 1) (kids_of T p)), take-few (at - 1) (kids_of T p), few-kids p))
  under-formed p at (event.Comment characters ∷ events) =
      placed-step Comment _ refl (omega arith) (omega (arith, counted-few (λ k. is_kind Comment (kind_of T k)) (take (at - 1) (kids_of T p)), take-few (at - 1) (kids_of T p), few-kids p))

  text-formed : (n : ℕ) (o : Option ℕ) (k : Option Kind) → is_text k ≡ true → All IsStep (step_to T n o k)
  text-formed n None k is = all-none IsStep
  text-formed n (Some p) None is = absurd (true≢false (sym is))
  text-formed n (Some p) (Some Root) is = absurd (true≢false (sym is))
  text-formed n (Some p) (Some Element) is = absurd (true≢false (sym is))
  text-formed n (Some p) (Some Attribute) is = absurd (true≢false (sym is))
  text-formed n (Some p) (Some Text) is =
      placed-step Text _ refl (omega arith)
      (omega (arith, place-most n (kids_of_kind T p Text), filter-short (λ k. is_kind Text (kind_of T k)) (kids_of T p), few-kids p))
  text-formed n (Some p) (Some Comment) is = absurd (true≢false (sym is))
  text-formed n (Some p) (Some Pi) is = absurd (true≢false (sym is))

  place-formed : (n : ℕ) → IsPlace (place_of T n)
  place-formed n = record { low = omega arith; high = omega (arith, place-most n (kids_above T (parent_of T n)), few-at (parent_of T n)) }

module _ (splits : QNamesSplit) (fragments : SubtreesAreFragments) (before : Contents) (form : WellFormed before.nodes) (scoped : InScope before.nodes) where
  abbrev T : Table
  T = before.nodes

  -- a node that comes again
  pub again-formed : (parent : List PathStep) (n p : ℕ) → IsPath parent → parent_of T n ≡ Some p → can_be_kid (kind_of T n) ≡ true → WellFormedCommand (comes_again parent T n)
  again-formed parent n p path up can =
      let sub : IsSubtree T n p (events_below T n) = fragments T n p form scoped up can in
      let place = (ordered T (formed-of T form)).below_in_order n (kid-live T n can) in
      let weight : ℕ → ℕ = λ m. length (value_of T m) in
      let whole : text_bytes T ≡ sum_by weight place.0 + (sum_by weight (below T n) + sum_by weight place.1) =
      ap (sum_by weight) place.2 ∙ (sum_by-append weight place.0 (below T n ++ place.1) ∙ ap (λ k. sum_by weight place.0 + k) (sum_by-append weight (below T n) place.1)) in
      (path, place-formed T form n, record { fragment = sub.fragment; names = sub.names; short = omega (arith, sub.text, whole, form.little_text) })

  deletion-formed : (path : List PathStep) (n p : ℕ) → IsPath path → parent_of T n ≡ Some p → can_be_kid (kind_of T n) ≡ true → (o : Option Meeting) → meeting T n (kids_of T p) ≡ o →
      All WellFormedCommand (deletion_undone (path_above path) T n o)
  deletion-formed path n p formed up can None e =
      all-one WellFormedCommand (comes_again (path_above path) T n) (again-formed (path_above path) n p (All-take IsStep (length path - 1) path formed) up can)
  deletion-formed path n p formed up can (Some texts) e =
      let m : Met T n (kids_of T p) texts = met T n (kids_of T p) texts e in
      let above : IsPath (path_above path) = All-take IsStep (length path - 1) path formed in
      let among : In texts.right (kids_of T p) =
      subst (In texts.right) (sym m.is)
      (omega (arith, occurs-append texts.right m.front (texts.left ∷ n ∷ texts.right ∷ m.back), occurs-head texts.right m.back)) in
      let up-right : parent_of T texts.right ≡ Some p = form.kid_parent p texts.right (In-mem texts.right (kids_of T p) among) in
      let can-right : can_be_kid (kind_of T texts.right) ≡ true = form.kid_kind p texts.right (In-mem texts.right (kids_of T p) among) in
      let step : List PathStep = step_to T texts.left (parent_of T texts.left) (kind_of T texts.left) in
      all-more WellFormedCommand (SetText (path_above path ++ step) (value_of T texts.left)) (comes_again (path_above path) T n ∷ comes_again (path_above path) T texts.right ∷ [])
      (All-append IsStep (path_above path) step above (text-formed T form texts.left (parent_of T texts.left) (kind_of T texts.left) m.left_text), value-made T scoped texts.left)
      (all-more WellFormedCommand (comes_again (path_above path) T n) (comes_again (path_above path) T texts.right ∷ []) (again-formed (path_above path) n p above up can)
      (all-one WellFormedCommand (comes_again (path_above path) T texts.right) (again-formed (path_above path) texts.right p above up-right can-right)))

  setting-formed : (path : List PathStep) (name : List ℕ) → IsPath path → IsName name → (o : Option ℕ) → All WellFormedCommand (setting_undone path name T o)
  setting-formed path name formed is None = all-one WellFormedCommand (UnsetAttr path name) (formed, is)
  setting-formed path name formed is (Some a) = all-one WellFormedCommand (SetAttr path name (value_of T a)) (formed, is, value-made T scoped a)

  written-formed : (n b : ℕ) → In b (attrs_of T n) → IsName (written_in (name_of T b))
  written-formed n b h =
      let is : IsOwn T n b = own splits T n b form scoped h in
      subst (λ o. IsName (written_in o)) (sym is.name) (spelled splits (pair_of T b).0 is.fits.named).named

  unsetting-formed : (path : List PathStep) (n : ℕ) → IsPath path → (o : Option ℕ) → ((a : ℕ) → o ≡ Some a → In a (attrs_of T n)) → All WellFormedCommand (unsetting_undone path T n o)
  unsetting-formed path n formed None found = all-none WellFormedCommand
  unsetting-formed path n formed (Some a) found =
      let list : attrs_of T n ≡ take (place_in a (attrs_of T n)) (attrs_of T n) ++ a ∷ behind a (attrs_of T n) = split-placed a (attrs_of T n) (found a refl) in
      let among : (b : ℕ) → In b (a ∷ behind a (attrs_of T n)) → In b (attrs_of T n) = λ b h.
      subst (In b) (sym list) (omega (arith, h, occurs-append b (take (place_in a (attrs_of T n)) (attrs_of T n)) (a ∷ behind a (attrs_of T n)))) in
      All-append WellFormedCommand (map (attribute_goes path T) (behind a (attrs_of T n))) (map (attribute_comes path T) (a ∷ behind a (attrs_of T n)))
      (all-of WellFormedCommand (attribute_goes path T) (behind a (attrs_of T n)) (λ b h. (formed, written-formed n b (among b (omega (arith, h))))))
      (all-of WellFormedCommand (attribute_comes path T) (a ∷ behind a (attrs_of T n)) (λ b h. (formed, written-formed n b (among b h), value-made T scoped b)))

  called-formed : (n : ℕ) (prefix : List ℕ) → renaming_refusal T n prefix ≡ None → IsName (written_in (name_of T n))
  called-formed n prefix free =
      let old : IsCalled (scope_at T n) (name_of T n) = called T n scoped (renamed-element T n prefix free) in
      subst (λ o. IsName (written_in o)) (sym old.is) (spelled splits old.name old.qualified).named

  attribute-renaming-formed : (path : List PathStep) (name : List ℕ) (n : ℕ) → IsPath path → IsName name → (o : Option ℕ) →
      ((a : ℕ) → o ≡ Some a → In a (attrs_of T n)) → All WellFormedCommand (attribute_renaming_undone path name T o)
  attribute-renaming-formed path name n formed is None found = all-none WellFormedCommand
  attribute-renaming-formed path name n formed is (Some a) found =
      all-one WellFormedCommand (RenameAttr path name (written_in (name_of T a))) (formed, is, written-formed n a (found a refl))

  meant-among : (n : ℕ) (name : List ℕ) (a : ℕ) → attribute_meant T n (prefix_part name) (local_part name) ≡ Some a → In a (attrs_of T n)
  meant-among n name a e = mem-In a (attrs_of T n) (found-member T n a (prefix_part name) (local_part name) e)

  formed-at : (command : Command) (n : ℕ) → WellFormedCommand command → refusal_at before command n ≡ None → All WellFormedCommand (undoing_at T command n)
  formed-at (Insert path at piece) n well free =
      all-one WellFormedCommand (Delete (path ++ step_under T n at (top_kind piece)))
      (All-append IsStep path (step_under T n at (top_kind piece)) well.0 (under-formed T form n at piece))
  formed-at (Delete path) n well free =
      let can : can_be_kid (kind_of T n) ≡ true =
      not-true (can_be_kid (kind_of T n)) (none-of-two (not (can_be_kid (kind_of T n))) (is_element (kind_of T n) && is_root (parent_of T n)) WrongKind RootElement free).0 in
      let below-root : n ≢ 0 = λ e. true≢false (sym can ∙ (ap (λ m. can_be_kid (kind_of T m)) e ∙ ap can_be_kid form.root_kind)) in
      let parent : (p : ℕ) × (parent_of T n ≡ Some p) = (ways-up T (formed-of T form)).has_parent n (kid-live T n can) below-root in
      subst (λ o. All WellFormedCommand (deletion_undone (path_above path) T n (meeting T n (kids_above T o)))) (sym parent.1)
      (deletion-formed path n parent.0 well parent.1 can (meeting T n (kids_of T parent.0)) refl)
  formed-at (SetText path new) n well free = all-one WellFormedCommand (SetText path (value_of T n)) (well.0, value-made T scoped n)
  formed-at (SetAttr path name value) n well free = setting-formed path name well.0 well.1 (attribute_meant T n (prefix_part name) (local_part name))
  formed-at (UnsetAttr path name) n well free =
      unsetting-formed path n well.0 (attribute_meant T n (prefix_part name) (local_part name)) (meant-among n name)
  formed-at (Rename path name) n well free =
      all-one WellFormedCommand (Rename path (written_in (name_of T n))) (well.0, called-formed n (prefix_part name) free)
  formed-at (RenameAttr path old name) n well free =
      attribute-renaming-formed path name n well.0 well.2 (attribute_meant T n (prefix_part old) (local_part old)) (meant-among n old)

  formed-where : (command : Command) (o : Option ℕ) → WellFormedCommand command → refusal_where before command o ≡ None → All WellFormedCommand (undoing_where T command o)
  formed-where command None well free = all-none WellFormedCommand
  formed-where command (Some n) well free = formed-at command n well free

pub undoings-are-formed : QNamesSplit → SubtreesAreFragments → UndoingsAreFormed
undoings-are-formed splits fragments before command form scoped well free = formed-where splits fragments before form scoped command (node_named before.nodes (path_of command)) well free
