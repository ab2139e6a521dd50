-- How many nodes live after an edit.
use Rattle.std.proofs.Common.{◌≡◌, ℕ, ◌+◌, ◌-◌, ◌≤◌, suc, List, [], ◌++◌, length, Option, None, Some, refl, sym, ap, ◌∙◌, arith, ltb-false}
use Rattle.std.specs.Option.{option_or}
use Rattle.std.specs.Prelude.{nat_lt, sum_by}
use Rattle.pyx_core.specs.declared.event.Event.{Event}
use Rattle.doc_table.specs.declared.limits.TheConstants.{MAX_LIVE_NODES, MAX_LIVE_TEXT_BYTES, MAX_NODE_NUMBERS}
use Rattle.doc_table.specs.inner.Sound.{Formed, count_live}
use Rattle.doc_table.specs.Table.{Facts, Name, attribute}
use Rattle.doc_table.proofs.Counts.{live-count, sum-more, sum-set}
use Rattle.doc_table.proofs.Forests.{formed-of}
use Rattle.doc_table.proofs.TreeLaws.{ordered}
use Rattle.doc_edits.specs.Changes.{Meeting, changed_at, deleted, deleted_by, gained, meeting, removed, removed_from, renamed, said, with_attribute, with_name, with_text}
use Rattle.doc_edits.proofs.ClearLemmas.{cut-sum}
use Rattle.doc_edits.proofs.InsertionSumLemmas.{count-inserted}
use Rattle.doc_tree.specs.declared.refusal.EditRefusal.TheVariants.{TooManyNodes, TooMuchText, IdsSpent, TooManyPairs}
use Rattle.doc_tree.specs.Edited.{attribute_name_at, attribute_renamed, attribute_set, attribute_unset, element_name_at, with_other_name, with_value, without_attribute}
use Rattle.doc_tree.specs.Laws.{WellFormed}
use Rattle.doc_tree.specs.NameTests.{attribute_meant}
use Rattle.doc_tree.specs.Refusals.{name_refusal, place_refusal, setting_refusal, value_refusal}
use Rattle.doc_tree.specs.Table.{Contents, Table, kids_above, parent_of, value_of}
use Rattle.doc_tree.specs.Walks.{below, order, text_bytes}
use Rattle.doc_tree.proofs.InsertLemmas.{nodes-brought}
use Rattle.doc_tree.proofs.RefusalLemmas.{none-of-four, none-of-three, or-none}
use Rattle.name_scopes.specs.Fragments.{event_nodes, piece_refusal, plain_text}
use Rattle.name_scopes.specs.QNames.{local_part, prefix_part}
use Rattle.name_scopes_laws.proofs.PieceSizes.{piece-nodes}
use Rattle.edit_script.specs.declared.command.Command.{Command}
use Rattle.edit_script.specs.declared.command.Command.TheVariants.{Insert, Delete, SetText, SetAttr, UnsetAttr, Rename, RenameAttr}
use Rattle.edit_commands.specs.Commands.{EditedAt, InsertedAt, insertion_refusal, refusal_at, refusal_where, size_refusal, top_kind}
use Rattle.edit_command_laws.specs.TreesKept.{EditsKeepTrees}
use Rattle.edit_cap_laws.specs.Within.{EditsStayWithin}

-- where a node says another text, as many live
said-count : (T : Table) (n : ℕ) (new : List ℕ) → count_live (said T n new) ≡ count_live T
said-count T n new = sum-set (λ _. 1) T n (with_text new) refl (λ node. refl)

-- where a node has another name, as many
renamed-count : (T : Table) (n : ℕ) (name : Name) → count_live (renamed T n name) ≡ count_live T
renamed-count T n name = sum-set (λ _. 1) T n (with_name name) refl (λ node. refl)

-- where a node goes, no more
removed-count : (T : Table) (n : ℕ) → count_live (removed T n) ≤ count_live T
removed-count T n = by (parent_of T n)
  where
    by : (o : Option ℕ) → count_live (removed_from T n o) ≤ count_live T
    by None = omega arith
    by (Some p) = cut-sum T n p (below T n) (λ _. 1) (λ node. refl)

deleted-count : (T : Table) (n : ℕ) → count_live (deleted T n) ≤ count_live T
deleted-count T n = by (meeting T n (kids_above T (parent_of T n)))
  where
    by : (o : Option Meeting) → count_live (deleted_by T n o) ≤ count_live T
    by None = removed-count T n
    by (Some texts) =
        omega (
          arith,
          said-count (removed (removed T texts.right) n) texts.left (value_of T texts.left ++ value_of T texts.right),
          removed-count (removed T texts.right) n,
          removed-count T texts.right,
        )

-- where an attribute comes, one more
gained-count : (T : Table) (n : ℕ) (name : Name) (value : List ℕ) → count_live (gained T n name value) ≡ count_live T + 1
gained-count T n name value =
    let node : Facts = record { parent = Some n; kids = []; attributes = []; content = attribute name value } in
    sum-more (λ _. 1) (changed_at n (with_attribute (length T)) T) node
    ∙ ap (λ k. k + 1) (sum-set (λ _. 1) T n (with_attribute (length T)) refl (λ old. refl))

module _ (before : Contents) (form : WellFormed before.nodes) (few : length (order before.nodes) ≤ before.pair_cap) where
  abbrev T : Table
  T = before.nodes

  live : length (order T) ≡ count_live T
  live = live-count T (formed-of T form).forest (formed-of T form).whole

  inserted-fits : (n at : ℕ) (events : List Event) (U : Table) → insertion_refusal before n at events ≡ None → InsertedAt T n at events U →
      count_live U ≤ before.pair_cap
  inserted-fits n at events U free comes =
      let P : Table = comes.piece in
      let size : size_refusal before events ≡ None =
      (or-none (piece_refusal T n events) (size_refusal before events)
      (or-none (place_refusal T n at (top_kind events)) (option_or (piece_refusal T n events) (size_refusal before events)) free).1).1 in
      let room = none-of-three (nat_lt MAX_LIVE_TEXT_BYTES (text_bytes T + sum_by plain_text events))
      (nat_lt MAX_NODE_NUMBERS (length T + sum_by event_nodes events))
      (nat_lt before.pair_cap (length (order T) + sum_by event_nodes events)) TooMuchText IdsSpent TooManyPairs size in
      omega (
        arith,
        live,
        ap count_live comes.is,
        count-inserted T P n (at - 1),
        nodes-brought P comes.well_formed (ordered P (formed-of P comes.well_formed)),
        piece-nodes P comes.well_formed events comes.scoped.lines_are,
        ltb-false before.pair_cap (length (order T) + sum_by event_nodes events) room.2,
      )

  set-fits : (n : ℕ) (prefix local value : List ℕ) → setting_refusal before n prefix local value ≡ None →
      count_live (attribute_set T n prefix local value) ≤ before.pair_cap
  set-fits n prefix local value free =
      let there : Option ℕ = attribute_meant T n prefix local in
      by there (or-none (name_refusal T n prefix local) (value_refusal before there value) free).1
    where
      by : (o : Option ℕ) → value_refusal before o value ≡ None →
          count_live (with_value T n (attribute_name_at T n prefix local) o value) ≤ before.pair_cap
      by (Some a) h = omega (arith, said-count T a value, live, few)
      by None h =
          let room = none-of-four (nat_lt MAX_LIVE_NODES (suc (length (order T))))
          (nat_lt MAX_LIVE_TEXT_BYTES (text_bytes T + length value)) (nat_lt MAX_NODE_NUMBERS (suc (length T)))
          (nat_lt before.pair_cap (suc (length (order T)))) TooManyNodes TooMuchText IdsSpent TooManyPairs h in
          omega (
            arith,
            gained-count T n (attribute_name_at T n prefix local) value,
            live,
            ltb-false before.pair_cap (suc (length (order T))) room.3,
          )

  unset-fits : (n : ℕ) (prefix local : List ℕ) → count_live (attribute_unset T n prefix local) ≤ before.pair_cap
  unset-fits n prefix local = by (attribute_meant T n prefix local)
    where
      by : (o : Option ℕ) → count_live (without_attribute T o) ≤ before.pair_cap
      by None = omega (arith, live, few)
      by (Some a) = omega (arith, removed-count T a, live, few)

  attribute-renamed-fits : (n : ℕ) (old_prefix old_local prefix local : List ℕ) →
      count_live (attribute_renamed T n old_prefix old_local prefix local) ≤ before.pair_cap
  attribute-renamed-fits n old_prefix old_local prefix local = by (attribute_meant T n old_prefix old_local)
    where
      by : (o : Option ℕ) → count_live (with_other_name T o (attribute_name_at T n prefix local)) ≤ before.pair_cap
      by None = omega (arith, live, few)
      by (Some a) = omega (arith, renamed-count T a (attribute_name_at T n prefix local), live, few)

  edited-fits : (command : Command) (n : ℕ) (U : Table) → refusal_at before command n ≡ None → EditedAt T command n U → count_live U ≤ before.pair_cap
  edited-fits (Insert path at events) n U free edited = inserted-fits n at events U free edited
  edited-fits (Delete path) n U free edited = omega (arith, ap count_live edited, deleted-count T n, live, few)
  edited-fits (SetText path new) n U free edited = omega (arith, ap count_live edited, said-count T n new, live, few)
  edited-fits (SetAttr path name value) n U free edited = omega (
    arith,
    ap count_live edited,
    set-fits n (prefix_part name) (local_part name) value free,
  )
  edited-fits (UnsetAttr path name) n U free edited = omega (arith, ap count_live edited, unset-fits n (prefix_part name) (local_part name))
  edited-fits (Rename path name) n U free edited =
      omega (arith, ap count_live edited, renamed-count T n (element_name_at T n (prefix_part name) (local_part name)), live, few)
  edited-fits (RenameAttr path old name) n U free edited =
      omega (arith, ap count_live edited, attribute-renamed-fits n (prefix_part old) (local_part old) (prefix_part name) (local_part name))

pub stay-within : EditsKeepTrees → EditsStayWithin
stay-within keeps tree command U form document free edited few =
    let after : Formed U = formed-of U (keeps tree command U form document free edited).0 in
    omega (
      arith,
      live-count U after.forest after.whole,
      edited-fits tree form few command edited.node U (ap (refusal_where tree command) (sym edited.named) ∙ free) edited.edited,
    )
