-- Where nothing speaks against a command, each change of the tree that it makes is one that may be.
use Rattle.std.proofs.Common.{◌≡◌, ℕ, ◌+◌, ◌-◌, Bool, true, false, List, [], ◌∷◌, length, Option, None, Some, refl, sym, ap, ap₂, ◌∙◌, subst, arith}
use Rattle.std.specs.List.{list_any}
use Rattle.std.specs.Option.{option_or}
use Rattle.std.specs.Prelude.{if◌then◌else◌, nat_lt, slice_index_or, sum_by}
use Rattle.pyx_core.specs.declared.event.Event.{Event}
use Rattle.doc_table.specs.inner.Sound.{Formed}
use Rattle.doc_table.specs.declared.limits.TheConstants.{MAX_LIVE_NODES, MAX_LIVE_TEXT_BYTES, MAX_NODE_NUMBERS}
use Rattle.doc_table.proofs.Forests.{formed-of}
use Rattle.doc_table.proofs.TreeLaws.{ordered, walks, ways-up}
use Rattle.doc_edits.specs.Changes.{inserted, nodes_in}
use Rattle.doc_edits.specs.Documents.{EditsKeepDocuments}
use Rattle.doc_edits.specs.Keeping.{DeletionsKeepTrees, GainsKeepTrees, InsertionsKeepTrees, RemovalsKeepTrees, RenamesKeepTrees, SayingsKeepTrees}
use Rattle.doc_tree.specs.declared.refusal.EditRefusal.TheVariants.{NoPrefix, SameAttribute, TooManyNodes, TooDeep, TooMuchText, IdsSpent, TooManyPairs}
use Rattle.doc_tree.specs.Edited.{attribute_name_at, attribute_renamed, attribute_set, attribute_unset, element_name_at, element_renamed, with_other_name, with_value, without_attribute}
use Rattle.doc_tree.specs.Kinds.{is_document}
use Rattle.doc_tree.specs.Laws.{HasWaysUp, WellFormed}
use Rattle.doc_tree.specs.Lists.{mem}
use Rattle.doc_tree.specs.NameTests.{attribute_meant}
use Rattle.doc_tree.specs.Refusals as tree
use Rattle.doc_tree.specs.Refusals.{absence_refusal, attribute_renaming_refusal, deletion_refusal, is_too_deep_at, name_pair_refusal, place_refusal, renaming_refusal, room_refusal, setting_refusal, top_of}
use Rattle.doc_tree.specs.Scope.{scope_at}
use Rattle.doc_tree.specs.Table.{Contents, Table, attrs_of, kids_of, kind_of}
use Rattle.doc_tree.specs.Walks.{above, order, text_bytes}
use Rattle.doc_tree.proofs.AttributeLemmas.{document-stays, found-member, may-gain, may-go, may-say}
use Rattle.doc_tree.proofs.DeleteLemmas as deleting
use Rattle.doc_tree.proofs.InsertLemmas.{document-kept, may-take, nodes-brought}
use Rattle.doc_tree.proofs.RefusalLemmas.{none-of-four, or-none}
use Rattle.doc_tree.proofs.RenamingLemmas.{may-rename, may-rename-attribute}
use Rattle.name_scopes.specs.Fragments.{ScopedPiece, event_nodes, is_too_deep, piece_refusal, some_tag, tag_doubles, tag_lacks_prefix}
use Rattle.name_scopes.specs.QNames.{local_part, prefix_part}
use Rattle.name_scopes_laws.proofs.PieceSizes.{piece-nodes, piece-text}
use Rattle.edit_script.specs.declared.command.Command.{Command}
use Rattle.edit_script.specs.declared.command.Command.TheVariants.{Insert, Delete, SetText, SetAttr, UnsetAttr, Rename, RenameAttr}
use Rattle.edit_commands.specs.Commands.{EditedAt, insertion_refusal, refusal_at, refusal_where, size_refusal, top_kind}
use Rattle.edit_commands.proofs.DepthLemmas.{kind-of-top, none-too-deep}
use Rattle.edit_commands.proofs.TextLemmas as texts
use Rattle.edit_command_laws.specs.TreesKept.{EditsKeepTrees}

-- nothing speaks against a piece, where nothing speaks against its fragment
module _ (before : Contents) (n at : ℕ) (events : List Event) (P : Table) (form : WellFormed P) (piece : Formed P) (scoped : ScopedPiece (scope_at before.nodes n) events P)
    (free : insertion_refusal before n at events ≡ None) where
  abbrev T : Table
  T = before.nodes

  first : (place_refusal T n at (top_kind events) ≡ None) × (option_or (piece_refusal T n events) (size_refusal before events) ≡ None)
  first = or-none (place_refusal T n at (top_kind events)) (option_or (piece_refusal T n events) (size_refusal before events)) free

  second : (piece_refusal T n events ≡ None) × (size_refusal before events ≡ None)
  second = or-none (piece_refusal T n events) (size_refusal before events) first.1

  parts : (some_tag tag_lacks_prefix (scope_at T n ∷ []) events ≡ false) × (some_tag tag_doubles (scope_at T n ∷ []) events ≡ false)
      × (nat_lt MAX_LIVE_NODES (length (order T) + sum_by event_nodes events) ≡ false) × (is_too_deep (length (above T n)) events ≡ false)
  parts =
      none-of-four (some_tag tag_lacks_prefix (scope_at T n ∷ []) events) (some_tag tag_doubles (scope_at T n ∷ []) events)
      (nat_lt MAX_LIVE_NODES (length (order T) + sum_by event_nodes events)) (is_too_deep (length (above T n)) events) NoPrefix SameAttribute TooManyNodes TooDeep second.0

  brought : length (nodes_in P) ≡ sum_by event_nodes events
  brought = omega (arith, nodes-brought P form (ordered P piece), piece-nodes P form events scoped.lines_are)

  pub one : length (kids_of P 0) ≡ 1
  one = ap length scoped.one

  top-is : top_of P ≡ scoped.top
  top-is = ap (λ ks. slice_index_or ks 0 0) scoped.one

  kind-is : kind_of P (top_of P) ≡ top_kind events
  kind-is = ap (kind_of P) top-is ∙ kind-of-top P form (ordered P piece) (ways-up P piece) (walks P piece) events scoped.lines_are scoped.top scoped.one

  room : room_refusal before n P ≡ size_refusal before events
  room =
      ap₂ (λ (b c : ℕ).
      if nat_lt MAX_LIVE_NODES (length (order T) + b) then Some TooManyNodes
      else if list_any (is_too_deep_at T n P) (order P) then Some TooDeep
      else if nat_lt MAX_LIVE_TEXT_BYTES (text_bytes T + c) then Some TooMuchText
      else if nat_lt MAX_NODE_NUMBERS (length T + b) then Some IdsSpent
      else if nat_lt before.pair_cap (length (order T) + b) then Some TooManyPairs
      else None) brought (piece-text P form events scoped.lines_are)
      ∙ ap₂ (λ (b c : Bool). if b then Some TooManyNodes else if c then Some TooDeep else size_refusal before events) parts.2
      (none-too-deep P form (ordered P piece) (ways-up P piece) (walks P piece) events scoped.lines_are T n parts.3)

  pub fits : tree.insertion_refusal before n at P ≡ None
  fits = ap₂ option_or (ap (place_refusal T n at) kind-is ∙ first.0) (room ∙ second.1)

  insertion-kept : InsertionsKeepTrees → EditsKeepDocuments → WellFormed T → is_document T ≡ true → WellFormed (inserted T n (at - 1) P) × (is_document (inserted T n (at - 1) P) ≡ true)
  insertion-kept insertions keeps formed document = (
    insertions T n (at - 1) P formed form (may-take before n at P fits (ordered P piece) one),
    document-kept before n at P fits keeps formed form one document,
  )

abbrev Kept : Table → Type 0
Kept U = WellFormed U × (is_document U ≡ true)

module _ (sayings : SayingsKeepTrees) (namings : RenamesKeepTrees) (removals : RemovalsKeepTrees) (deletions : DeletionsKeepTrees) (gains : GainsKeepTrees) (insertions : InsertionsKeepTrees) (keeps : EditsKeepDocuments)
    (before : Contents) (formed : WellFormed before.nodes) (document : is_document before.nodes ≡ true) where
  abbrev nodes : Table
  nodes = before.nodes

  ways : HasWaysUp nodes
  ways = ways-up nodes (formed-of nodes formed)

  set-kept : (n : ℕ) (prefix local value : List ℕ) → setting_refusal before n prefix local value ≡ None → Kept (attribute_set nodes n prefix local value)
  set-kept n prefix local value free = by (attribute_meant nodes n prefix local) refl
    where
      by : (o : Option ℕ) → attribute_meant nodes n prefix local ≡ o → Kept (with_value nodes n (attribute_name_at nodes n prefix local) o value)
      by None e = (
        gains nodes n (attribute_name_at nodes n prefix local) value formed (may-gain before n prefix local value free e),
        keeps.gain nodes n (attribute_name_at nodes n prefix local) value formed document,
      )
      by (Some a) e = (
        sayings nodes a value formed (may-say before n prefix local value free formed ways a e),
        keeps.saying nodes a value document,
      )

  unset-kept : (n : ℕ) (prefix local : List ℕ) → Kept (attribute_unset nodes n prefix local)
  unset-kept n prefix local = by (attribute_meant nodes n prefix local) refl
    where
      by : (o : Option ℕ) → attribute_meant nodes n prefix local ≡ o → Kept (without_attribute nodes o)
      by None e = (formed, document)
      by (Some a) e =
          let member : mem a (attrs_of nodes n) ≡ true = found-member nodes n a prefix local e in (
            removals nodes a formed (may-go nodes formed ways n a member),
            document-stays nodes formed ways n a member keeps document,
          )

  renamed-kept : (n : ℕ) (prefix local : List ℕ) → renaming_refusal nodes n prefix ≡ None → Kept (element_renamed nodes n prefix local)
  renamed-kept n prefix local free = (
    namings nodes n (element_name_at nodes n prefix local) formed (may-rename nodes n prefix local formed free),
    keeps.renaming nodes n (element_name_at nodes n prefix local) document,
  )

  attribute-renamed-kept : (n : ℕ) (old_prefix old_local prefix local : List ℕ) → attribute_renaming_refusal nodes n old_prefix old_local prefix local ≡ None →
      Kept (attribute_renamed nodes n old_prefix old_local prefix local)
  attribute-renamed-kept n old_prefix old_local prefix local free = by (attribute_meant nodes n old_prefix old_local) refl
    where
      pair : name_pair_refusal nodes n old_prefix old_local prefix local ≡ None
      pair = (or-none (name_pair_refusal nodes n old_prefix old_local prefix local) (absence_refusal (attribute_meant nodes n old_prefix old_local)) free).0

      by : (o : Option ℕ) → attribute_meant nodes n old_prefix old_local ≡ o → Kept (with_other_name nodes o (attribute_name_at nodes n prefix local))
      by None e = (formed, document)
      by (Some a) e = (
        namings nodes a (attribute_name_at nodes n prefix local) formed (may-rename-attribute nodes n a old_prefix old_local prefix local formed pair e),
        keeps.renaming nodes a (attribute_name_at nodes n prefix local) document,
      )

  edited-kept : (command : Command) (n : ℕ) (U : Table) → refusal_at before command n ≡ None → EditedAt nodes command n U → Kept U
  edited-kept (Insert path at events) n U free edited =
      let piece : Formed edited.piece = formed-of edited.piece edited.well_formed in
      subst Kept (sym edited.is) (insertion-kept before n at events edited.piece edited.well_formed piece edited.scoped free insertions keeps formed document)
  edited-kept (Delete path) n U free edited =
      subst Kept (sym edited) (deletions nodes n formed, deleting.document-kept nodes n (deletion_refusal nodes n) keeps formed refl free document)
  edited-kept (SetText path new) n U free edited =
      subst Kept (sym edited) (sayings nodes n new formed (texts.may-say nodes n new free), keeps.saying nodes n new document)
  edited-kept (SetAttr path name value) n U free edited = subst Kept (sym edited) (set-kept n (prefix_part name) (local_part name) value free)
  edited-kept (UnsetAttr path name) n U free edited = subst Kept (sym edited) (unset-kept n (prefix_part name) (local_part name))
  edited-kept (Rename path name) n U free edited = subst Kept (sym edited) (renamed-kept n (prefix_part name) (local_part name) free)
  edited-kept (RenameAttr path old name) n U free edited =
      subst Kept (sym edited) (attribute-renamed-kept n (prefix_part old) (local_part old) (prefix_part name) (local_part name) free)

pub trees-kept : SayingsKeepTrees → RenamesKeepTrees → RemovalsKeepTrees → DeletionsKeepTrees → GainsKeepTrees → InsertionsKeepTrees → EditsKeepDocuments → EditsKeepTrees
trees-kept sayings namings removals deletions gains insertions keeps before command U formed document free edited =
    edited-kept sayings namings removals deletions gains insertions keeps before formed document command edited.node U
    (ap (refusal_where before command) (sym edited.named) ∙ free) edited.edited
