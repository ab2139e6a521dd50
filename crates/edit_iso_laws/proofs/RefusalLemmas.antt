-- What speaks against a command in one of two trees that are the same speaks against it in the other, but for the numbers that are left.
use Rattle.std.proofs.Common.{◌≡◌, ℕ, ◌+◌, ◌-◌, ◌≤◌, zero, suc, Bool, true, false, not, ◌&&◌, ◌||◌, eqb, List, [], ◌∷◌, length, map, take, drop, sum_by, Option, None, Some, is_none, refl, sym, ap, ap₂, ◌∙◌, arith}
use Rattle.std.specs.Prelude.{if◌then◌else◌, nat_lt, option_map}
use Rattle.std.specs.List.{list_any}
use Rattle.std.specs.Option.{option_or}
use Rattle.std.proofs.lemmas.Bool.{ltb-true}
use Rattle.std.specs.Str.{bytes_eq}
use Rattle.std.proofs.lemmas.List.{length-map}
use Rattle.std.proofs.lemmas.List.Sums.{sum_by-cons}
use Rattle.sch_base.specs.Lists.{is_nil}
use Rattle.pyx_core.specs.declared.event.Event.{Event}
use Rattle.doc_table.specs.Growth.{ends_in_text}
use Rattle.doc_table.specs.Lists.{last_or}
use Rattle.doc_tree.specs.kind.Kind.{Kind}
use Rattle.doc_tree.specs.Kinds.{can_be_kid, holds_kids, is_element, is_text}
use Rattle.doc_tree.specs.declared.refusal.EditRefusal.{EditRefusal}
use Rattle.doc_tree.specs.declared.refusal.EditRefusal.TheVariants.{WrongKind, NotInRange, RootElement, TextBeside, EmptyText, NoPrefix, SameAttribute, XmlnsName, TooManyNodes, TooDeep, TooMuchText, IdsSpent, TooManyPairs}
use Rattle.doc_tree.specs.limits.TheConstants.{MAX_LIVE_NODES, MAX_LIVE_TEXT_BYTES, MAX_NODE_NUMBERS}
use Rattle.doc_tree.specs.NameTests.{attribute_meant}
use Rattle.doc_tree.specs.Laws.{WellFormed}
use Rattle.doc_tree.specs.Refusals.{absence_refusal, are_two, attribute_renaming_refusal, declares_namespace, deletion_refusal, has_own_text, is_beside_text, name_pair_refusal, name_refusal, place_refusal, renaming_refusal, setting_refusal, text_refusal, unsetting_refusal, value_refusal}
use Rattle.doc_tree.specs.Scope.{Decl, attribute_namespace, scope_at, xmlns_prefix}
use Rattle.doc_tree.specs.Table.{Contents, Table, is_root, kids_of, kind_at, kind_of, parent_of, value_at, value_of}
use Rattle.doc_tree.specs.Walks.{above, ancestors, order, text_bytes}
use Rattle.name_scopes.specs.Fragments.{event_nodes, is_too_deep, piece_refusal, plain_text, some_tag, tag_doubles, tag_lacks_prefix}
use Rattle.name_scopes.specs.QNames.{local_part, prefix_part}
use Rattle.edit_script.specs.declared.command.Command.{Command}
use Rattle.edit_script.specs.declared.command.Command.TheVariants.{Insert, Delete, SetText, SetAttr, UnsetAttr, Rename, RenameAttr}
use Rattle.edit_commands.specs.Commands.{command_refusal, insertion_refusal, path_of, refusal_at, refusal_where, size_refusal, top_kind}
use Rattle.edit_commands.specs.Paths.{node_named}
use Rattle.edit_iso_laws.specs.CommandsMove.{NumbersMove, RefusalsMove, numbers_for_value, numbers_made, numbers_made_at, numbers_made_where}
use Rattle.edit_iso_laws.specs.PathsMove.{PathsMove}
use Rattle.tree_iso.specs.Renumbering.{Hangs, RenumberedTreesHang, Renumbers, SameTreesAreRenumbered, renumbered}
use Rattle.tree_iso.proofs.NumberLemmas.{any-moved, eqb-moved}

sum-moved : (f : ℕ → ℕ) (g h : ℕ → ℕ) → ((n : ℕ) → h (f n) ≡ g n) → (ns : List ℕ) → sum_by h (map f ns) ≡ sum_by g ns
sum-moved f g h same [] = refl
sum-moved f g h same (n ∷ ns) =
    sum_by-cons h (f n) (map f ns) ∙ (ap₂ (λ (a b : ℕ). a + b) (same n) (sum-moved f g h same ns) ∙ sym (sum_by-cons g n ns))

take-moved : (f : ℕ → ℕ) (k : ℕ) (ns : List ℕ) → take k (map f ns) ≡ map f (take k ns)
take-moved f zero ns = refl
take-moved f (suc k) [] = refl
take-moved f (suc k) (n ∷ ns) = ap (λ (l : List ℕ). f n ∷ l) (take-moved f k ns)

drop-moved : (f : ℕ → ℕ) (k : ℕ) (ns : List ℕ) → drop k (map f ns) ≡ map f (drop k ns)
drop-moved f zero ns = refl
drop-moved f (suc k) [] = refl
drop-moved f (suc k) (n ∷ ns) = drop-moved f k ns

last-moved : (f : ℕ → ℕ) (n : ℕ) (ns : List ℕ) → last_or (f n) (map f ns) ≡ f (last_or n ns)
last-moved f n [] = refl
last-moved f n (m ∷ ns) = last-moved f m ns

root-at-moved : (f : ℕ → ℕ) → ((n : ℕ) → eqb (f n) 0 ≡ eqb n 0) → (o : Option ℕ) → is_root (option_map f o) ≡ is_root o
root-at-moved f same None = refl
root-at-moved f same (Some n) = same n

-- refusals by what they ask of a tree
abbrev place_by : ℕ → Option Kind → Bool → ℕ → Bool → Bool → Option EditRefusal
place_by at kind holds count root beside =
    if not holds then Some WrongKind
    else if nat_lt count (at - 1) then Some NotInRange
    else if root && (is_element kind || is_text kind) then Some RootElement
    else if is_text kind && beside then Some TextBeside
    else None

abbrev text_by : List ℕ → Option Kind → List ℕ → ℕ → Option EditRefusal
text_by new kind value bytes =
    if not (has_own_text kind) then Some WrongKind
    else if is_text kind && is_nil new then Some EmptyText
    else if nat_lt (MAX_LIVE_TEXT_BYTES + length value) (bytes + length new) then Some TooMuchText
    else None

abbrev deletion_by : Option Kind → Bool → Option EditRefusal
deletion_by kind root = if not (can_be_kid kind) then Some WrongKind else if is_element kind && root then Some RootElement else None

module _ (f : ℕ → ℕ) (T U : Table) (r : Renumbers f T U) (root : f 0 ≡ 0) where
  kind-same : (n : ℕ) → kind_of U (f n) ≡ kind_of T n
  kind-same n = ap kind_at (r.content n)

  pub count-same : length (order U) ≡ length (order T)
  count-same = ap length r.in_order ∙ length-map (order T) f

  pub bytes-same : text_bytes U ≡ text_bytes T
  bytes-same =
      ap (sum_by (λ n. length (value_of U n))) r.in_order
      ∙ sum-moved f (λ n. length (value_of T n)) (λ n. length (value_of U n)) (λ n. ap (λ o. length (value_at o)) (r.content n)) (order T)

  root-same : (n : ℕ) → eqb (f n) 0 ≡ eqb n 0
  root-same n = ap (eqb (f n)) (sym root) ∙ eqb-moved f r.apart n 0

  ends-same : (ns : List ℕ) → ends_in_text U (map f ns) ≡ ends_in_text T ns
  ends-same [] = refl
  ends-same (n ∷ ns) = ap (λ k. is_text (kind_of U k)) (last-moved f n ns) ∙ ap is_text (kind-same (last_or n ns))

  beside-same : (k : ℕ) (ns : List ℕ) → is_beside_text U k (map f ns) ≡ is_beside_text T k ns
  beside-same k ns =
      ap₂ (λ (a b : Bool). a || b) (ap (ends_in_text U) (take-moved f k ns) ∙ ends-same (take k ns))
      (ap (list_any (λ j. is_text (kind_of U j))) (ap (take 1) (drop-moved f k ns) ∙ take-moved f 1 (drop k ns))
      ∙ any-moved f (λ j. is_text (kind_of T j)) (λ j. is_text (kind_of U j)) (λ j. ap is_text (kind-same j)) (take 1 (drop k ns)))

  pub place-same : (p at : ℕ) (kind : Option Kind) → place_refusal U (f p) at kind ≡ place_refusal T p at kind
  place-same p at kind =
      ap₂ (λ (holds : Bool) (count : ℕ). place_by at kind holds count (eqb (f p) 0) (is_beside_text U (at - 1) (kids_of U (f p)))) (ap holds_kids (kind-same p)) (ap length (r.kids p) ∙ length-map (kids_of T p) f)
      ∙ ap₂ (λ (is_top beside : Bool). place_by at kind (holds_kids (kind_of T p)) (length (kids_of T p)) is_top beside) (root-same p)
      (ap (is_beside_text U (at - 1)) (r.kids p) ∙ beside-same (at - 1) (kids_of T p))

  pub text-same : (n : ℕ) (new : List ℕ) → text_refusal U (f n) new ≡ text_refusal T n new
  text-same n new =
      ap₂ (λ (kind : Option Kind) (value : List ℕ). text_by new kind value (text_bytes U)) (kind-same n) (ap value_at (r.content n))
      ∙ ap (text_by new (kind_of T n) (value_of T n)) bytes-same

  pub deletion-same : (n : ℕ) → deletion_refusal U (f n) ≡ deletion_refusal T n
  deletion-same n = ap₂ deletion_by (kind-same n) (ap is_root (r.parent n) ∙ root-at-moved f root-same (parent_of T n))

-- by the declarations in scope
abbrev name_by : List ℕ → List ℕ → Option Kind → List Decl → Option EditRefusal
name_by prefix local kind scope =
    if not (is_element kind) then Some WrongKind
    else if not (bytes_eq prefix xmlns_prefix) && is_none (attribute_namespace scope prefix) then Some NoPrefix
    else if declares_namespace prefix local then Some XmlnsName
    else None

abbrev renaming_by : List ℕ → Option Kind → List Decl → Option EditRefusal
renaming_by prefix kind scope =
    if not (is_element kind) then Some WrongKind
    else if not (bytes_eq prefix xmlns_prefix) && is_none (attribute_namespace scope prefix) then Some NoPrefix
    else if bytes_eq prefix xmlns_prefix then Some XmlnsName
    else None

abbrev unbound_by : List ℕ → List Decl → Bool
unbound_by prefix scope = not (bytes_eq prefix xmlns_prefix) && is_none (attribute_namespace scope prefix)

-- and whether two attributes were found
abbrev name_pair_by : List ℕ → List ℕ → List ℕ → List ℕ → Option Kind → List Decl → Bool → Option EditRefusal
name_pair_by old_prefix old_local prefix local kind scope two =
    if not (is_element kind) then Some WrongKind
    else if unbound_by old_prefix scope || unbound_by prefix scope then Some NoPrefix
    else if two then Some SameAttribute
    else if declares_namespace old_prefix old_local || declares_namespace prefix local then Some XmlnsName
    else None

two-moved : (f : ℕ → ℕ) → ((a b : ℕ) → f a ≡ f b → a ≡ b) → (o p : Option ℕ) → are_two (option_map f o) (option_map f p) ≡ are_two o p
two-moved f apart None p = refl
two-moved f apart (Some a) None = refl
two-moved f apart (Some a) (Some b) = ap not (eqb-moved f apart a b)

abbrev piece_by : List Event → List Decl → ℕ → ℕ → Option EditRefusal
piece_by events scope count depth =
    if some_tag tag_lacks_prefix (scope ∷ []) events then Some NoPrefix
    else if some_tag tag_doubles (scope ∷ []) events then Some SameAttribute
    else if nat_lt MAX_LIVE_NODES (count + sum_by event_nodes events) then Some TooManyNodes
    else if is_too_deep depth events then Some TooDeep
    else None

module _ (f : ℕ → ℕ) (T U : Table) (r : Renumbers f T U) (hangs : Hangs f T U) (scopes : (n : ℕ) → scope_at U (f n) ≡ scope_at T n) where
  name-same : (n : ℕ) (prefix local : List ℕ) → name_refusal U (f n) prefix local ≡ name_refusal T n prefix local
  name-same n prefix local = ap₂ (name_by prefix local) (ap kind_at (r.content n)) (scopes n)

  renaming-same : (n : ℕ) (prefix : List ℕ) → renaming_refusal U (f n) prefix ≡ renaming_refusal T n prefix
  renaming-same n prefix = ap₂ (renaming_by prefix) (ap kind_at (r.content n)) (scopes n)

  piece-same : (n : ℕ) (events : List Event) → piece_refusal U (f n) events ≡ piece_refusal T n events
  piece-same n events =
      ap₂ (λ (scope : List Decl) (count : ℕ). piece_by events scope count (length (above U (f n)))) (scopes n) (count-same f T U r hangs.root)
      ∙ ap (piece_by events (scope_at T n) (length (order T))) (ap (λ (l : List ℕ). suc (length l)) (hangs.ancestors_go n) ∙ ap suc (length-map (ancestors T n) f))

-- where enough numbers are left, the others speak alike
enough : (count : ℕ) → count ≤ MAX_NODE_NUMBERS → nat_lt MAX_NODE_NUMBERS count ≡ false
enough count h = by (nat_lt MAX_NODE_NUMBERS count) refl
  where
    by : (b : Bool) → nat_lt MAX_NODE_NUMBERS count ≡ b → b ≡ false
    by true e = absurd (omega (arith, h, ltb-true MAX_NODE_NUMBERS count e))
    by false e = refl

three-free : (a b ids c : Bool) → (if a then Some TooMuchText else if b then Some IdsSpent else if c then Some TooManyPairs else None) ≡ None → ids ≡ false →
    (if a then Some TooMuchText else if ids then Some IdsSpent else if c then Some TooManyPairs else None) ≡ None
three-free true b ids c free none = absurd (cc)
three-free false true ids c free none = absurd (cc)
three-free false false ids true free none = absurd (cc)
three-free false false ids false free none = rw none refl

four-free : (first a b ids c : Bool) → (if first then Some TooManyNodes else if a then Some TooMuchText else if b then Some IdsSpent else if c then Some TooManyPairs else None) ≡ None → ids ≡ false →
    (if first then Some TooManyNodes else if a then Some TooMuchText else if ids then Some IdsSpent else if c then Some TooManyPairs else None) ≡ None
four-free true a b ids c free none = absurd (cc)
four-free false a b ids c free none = three-free a b ids c free none

or-parts : (a b : Option EditRefusal) → option_or a b ≡ None → (a ≡ None) × (b ≡ None)
or-parts None b h = (refl, h)
or-parts (Some x) b h = absurd (cc)

or-both : (a b : Option EditRefusal) → a ≡ None → b ≡ None → option_or a b ≡ None
or-both a b ha hb = ap₂ option_or ha hb

module _ (before other : Contents) (f : ℕ → ℕ) (r : Renumbers f before.nodes other.nodes) (hangs : Hangs f before.nodes other.nodes) (cap : other.pair_cap ≡ before.pair_cap)
    (paths : PathsMove) (form : WellFormed before.nodes) (form-other : WellFormed other.nodes) where
  abbrev T : Table
  T = before.nodes

  abbrev U : Table
  U = other.nodes

  scopes : (n : ℕ) → scope_at U (f n) ≡ scope_at T n
  scopes n = paths.scope f T U n form form-other r

  count : length (order U) ≡ length (order T)
  count = count-same f T U r hangs.root

  bytes : text_bytes U ≡ text_bytes T
  bytes = bytes-same f T U r hangs.root

  meant : (n : ℕ) (prefix local : List ℕ) → attribute_meant U (f n) prefix local ≡ option_map f (attribute_meant T n prefix local)
  meant n prefix local = paths.meant f T U n prefix local form form-other r

  size-free : (events : List Event) → size_refusal before events ≡ None → length U + sum_by event_nodes events ≤ MAX_NODE_NUMBERS → size_refusal other events ≡ None
  size-free events free room =
      three-free (nat_lt MAX_LIVE_TEXT_BYTES (text_bytes U + sum_by plain_text events)) (nat_lt MAX_NODE_NUMBERS (length T + sum_by event_nodes events))
      (nat_lt MAX_NODE_NUMBERS (length U + sum_by event_nodes events)) (nat_lt other.pair_cap (length (order U) + sum_by event_nodes events))
      (ap₂ (λ (b : ℕ) (c : Bool). if nat_lt MAX_LIVE_TEXT_BYTES (b + sum_by plain_text events) then Some TooMuchText
      else if nat_lt MAX_NODE_NUMBERS (length T + sum_by event_nodes events) then Some IdsSpent
      else if c then Some TooManyPairs else None) bytes (ap₂ (λ (a b : ℕ). nat_lt a (b + sum_by event_nodes events)) cap count) ∙ free)
      (enough (length U + sum_by event_nodes events) room)

  insertion-free : (n at : ℕ) (events : List Event) → insertion_refusal before n at events ≡ None → length U + sum_by event_nodes events ≤ MAX_NODE_NUMBERS → insertion_refusal other (f n) at events ≡ None
  insertion-free n at events free room =
      let first = or-parts (place_refusal T n at (top_kind events)) (option_or (piece_refusal T n events) (size_refusal before events)) free in
      let second = or-parts (piece_refusal T n events) (size_refusal before events) first.1 in
      or-both (place_refusal U (f n) at (top_kind events)) (option_or (piece_refusal U (f n) events) (size_refusal other events))
      (place-same f T U r hangs.root n at (top_kind events) ∙ first.0)
      (or-both (piece_refusal U (f n) events) (size_refusal other events) (piece-same f T U r hangs scopes n events ∙ second.0) (size-free events second.1 room))

  value-free : (found : Option ℕ) (value : List ℕ) → value_refusal before found value ≡ None → length U + numbers_for_value found ≤ MAX_NODE_NUMBERS → value_refusal other (option_map f found) value ≡ None
  value-free (Some a) value free room =
      ap₂ (λ (own whole : ℕ). if nat_lt (MAX_LIVE_TEXT_BYTES + own) (whole + length value) then Some TooMuchText else None) (ap (λ o. length (value_at o)) (r.content a)) bytes ∙ free
  value-free None value free room =
      four-free (nat_lt MAX_LIVE_NODES (suc (length (order U)))) (nat_lt MAX_LIVE_TEXT_BYTES (text_bytes U + length value)) (nat_lt MAX_NODE_NUMBERS (suc (length T)))
      (nat_lt MAX_NODE_NUMBERS (suc (length U))) (nat_lt other.pair_cap (suc (length (order U))))
      (ap₂ (λ (n b : ℕ). if nat_lt MAX_LIVE_NODES (suc n) then Some TooManyNodes else if nat_lt MAX_LIVE_TEXT_BYTES (b + length value) then Some TooMuchText
      else if nat_lt MAX_NODE_NUMBERS (suc (length T)) then Some IdsSpent else if nat_lt other.pair_cap (suc n) then Some TooManyPairs else None) count bytes
      ∙ (ap (λ (c : ℕ). if nat_lt MAX_LIVE_NODES (suc (length (order T))) then Some TooManyNodes else if nat_lt MAX_LIVE_TEXT_BYTES (text_bytes T + length value) then Some TooMuchText
      else if nat_lt MAX_NODE_NUMBERS (suc (length T)) then Some IdsSpent else if nat_lt c (suc (length (order T))) then Some TooManyPairs else None) cap ∙ free))
      (enough (suc (length U)) (omega (arith, room)))

  setting-free : (n : ℕ) (prefix local value : List ℕ) → setting_refusal before n prefix local value ≡ None → length U + numbers_for_value (attribute_meant T n prefix local) ≤ MAX_NODE_NUMBERS → setting_refusal other (f n) prefix local value ≡ None
  setting-free n prefix local value free room =
      let parts = or-parts (name_refusal T n prefix local) (value_refusal before (attribute_meant T n prefix local) value) free in
      or-both (name_refusal U (f n) prefix local) (value_refusal other (attribute_meant U (f n) prefix local) value)
      (name-same f T U r hangs scopes n prefix local ∙ parts.0)
      (ap (λ found. value_refusal other found value) (meant n prefix local) ∙ value-free (attribute_meant T n prefix local) value parts.1 room)

  absence-same : (found : Option ℕ) → absence_refusal (option_map f found) ≡ absence_refusal found
  absence-same None = refl
  absence-same (Some a) = refl

  unsetting-free : (n : ℕ) (prefix local : List ℕ) → unsetting_refusal T n prefix local ≡ None → unsetting_refusal U (f n) prefix local ≡ None
  unsetting-free n prefix local free =
      ap₂ option_or (name-same f T U r hangs scopes n prefix local) (ap absence_refusal (meant n prefix local) ∙ absence-same (attribute_meant T n prefix local)) ∙ free

  renaming-attribute-same : (n : ℕ) (old_prefix old_local prefix local : List ℕ) →
      attribute_renaming_refusal U (f n) old_prefix old_local prefix local ≡ attribute_renaming_refusal T n old_prefix old_local prefix local
  renaming-attribute-same n old_prefix old_local prefix local =
      ap₂ option_or pair (ap absence_refusal (meant n old_prefix old_local) ∙ absence-same (attribute_meant T n old_prefix old_local))
    where
      two : are_two (attribute_meant U (f n) old_prefix old_local) (attribute_meant U (f n) prefix local)
          ≡ are_two (attribute_meant T n old_prefix old_local) (attribute_meant T n prefix local)
      two =
          ap₂ are_two (meant n old_prefix old_local) (meant n prefix local)
          ∙ two-moved f r.apart (attribute_meant T n old_prefix old_local) (attribute_meant T n prefix local)

      pair : name_pair_refusal U (f n) old_prefix old_local prefix local ≡ name_pair_refusal T n old_prefix old_local prefix local
      pair =
          ap₂ (λ (kind : Option Kind) (scope : List Decl).
          name_pair_by old_prefix old_local prefix local kind scope (are_two (attribute_meant U (f n) old_prefix old_local) (attribute_meant U (f n) prefix local)))
          (ap kind_at (r.content n)) (scopes n)
          ∙ ap (name_pair_by old_prefix old_local prefix local (kind_of T n) (scope_at T n)) two

  at-free : (command : Command) (n : ℕ) → refusal_at before command n ≡ None → length U + numbers_made_at T command n ≤ MAX_NODE_NUMBERS → refusal_at other command (f n) ≡ None
  at-free (Insert path at events) n free room = insertion-free n at events free room
  at-free (Delete path) n free room = deletion-same f T U r hangs.root n ∙ free
  at-free (SetText path text) n free room = text-same f T U r hangs.root n text ∙ free
  at-free (SetAttr path name value) n free room = setting-free n (prefix_part name) (local_part name) value free room
  at-free (UnsetAttr path name) n free room = unsetting-free n (prefix_part name) (local_part name) free
  at-free (Rename path name) n free room = renaming-same f T U r hangs scopes n (prefix_part name) ∙ free
  at-free (RenameAttr path old name) n free room = renaming-attribute-same n (prefix_part old) (local_part old) (prefix_part name) (local_part name) ∙ free

  command-free : (command : Command) → command_refusal before command ≡ None → length U + numbers_made T command ≤ MAX_NODE_NUMBERS → command_refusal other command ≡ None
  command-free command free room =
      ap (refusal_where other command) (paths.path f T U (path_of command) form form-other r) ∙ by (node_named T (path_of command)) free room
    where
      by : (o : Option ℕ) → refusal_where before command o ≡ None → length U + numbers_made_where T command o ≤ MAX_NODE_NUMBERS → refusal_where other command (option_map f o) ≡ None
      by None h _ = absurd (cc)
      by (Some n) h enough_left = at-free command n h enough_left

  -- how many numbers it makes
  at-numbers : (command : Command) (n : ℕ) → numbers_made_at U command (f n) ≡ numbers_made_at T command n
  at-numbers (Insert path at events) n = refl
  at-numbers (Delete path) n = refl
  at-numbers (SetText path text) n = refl
  at-numbers (SetAttr path name value) n =
      ap numbers_for_value (meant n (prefix_part name) (local_part name)) ∙ by (attribute_meant T n (prefix_part name) (local_part name))
    where
      by : (o : Option ℕ) → numbers_for_value (option_map f o) ≡ numbers_for_value o
      by None = refl
      by (Some a) = refl
  at-numbers (UnsetAttr path name) n = refl
  at-numbers (Rename path name) n = refl
  at-numbers (RenameAttr path old name) n = refl

  command-numbers : (command : Command) → numbers_made U command ≡ numbers_made T command
  command-numbers command = ap (numbers_made_where U command) (paths.path f T U (path_of command) form form-other r) ∙ by (node_named T (path_of command))
    where
      by : (o : Option ℕ) → numbers_made_where U command (option_map f o) ≡ numbers_made_where T command o
      by None = refl
      by (Some n) = at-numbers command n

pub refusals-move : RenumberedTreesHang → SameTreesAreRenumbered → PathsMove → RefusalsMove
refusals-move hang renumber paths before other command form form-other alike cap free room =
    let r : Renumbers (renumbered before.nodes other.nodes) before.nodes other.nodes = renumber before.nodes other.nodes form form-other alike in
    command-free before other (renumbered before.nodes other.nodes) r (hang (renumbered before.nodes other.nodes) before.nodes other.nodes form form-other r) cap paths form form-other command free room

pub numbers-move : RenumberedTreesHang → SameTreesAreRenumbered → PathsMove → NumbersMove
numbers-move hang renumber paths before other command form form-other alike =
    let r : Renumbers (renumbered before.nodes other.nodes) before.nodes other.nodes = renumber before.nodes other.nodes form form-other alike in
    let same : Contents = record before { nodes = other.nodes } in
    command-numbers before same (renumbered before.nodes other.nodes) r (hang (renumbered before.nodes other.nodes) before.nodes other.nodes form form-other r) refl paths form form-other command
