-- An attribute that went comes again, with those behind it in their order.
use Rattle.std.proofs.Common.{◌≡◌, ℕ, ◌+◌, ◌≤◌, List, [], ◌∷◌, ◌++◌, length, map, take, Option, None, Some, refl, sym, ap, ap₂, ◌∙◌, subst, arith, unwrap_or}
use Rattle.sch_base.specs.Names.{QNamesSplit}
use Rattle.doc_table.proofs.Forests.{formed-of}
use Rattle.doc_table.proofs.ListLemmas.{In, mem-In, occurs-append, occurs-head}
use Rattle.doc_table.specs.inner.Sound.{Formed}
use Rattle.doc_edits.specs.Changes.{removed}
use Rattle.doc_tree.specs.kind.Kind.TheVariants.{Element}
use Rattle.doc_tree.specs.limits.TheConstants.{MAX_NODE_NUMBERS}
use Rattle.doc_tree.specs.Edited.{attribute_unset, without_attribute}
use Rattle.doc_tree.specs.Laws.{WellFormed}
use Rattle.doc_tree.specs.Lists.{place_in}
use Rattle.doc_tree.specs.NameTests.{attribute_meant}
use Rattle.doc_tree.specs.Refusals.{absence_refusal, name_refusal, unsetting_refusal}
use Rattle.doc_tree.specs.SameTree.{SameTree}
use Rattle.doc_tree.specs.Table.{Contents, Table, attrs_of, content_of, expanded_in, expanded_of, kind_of, name_at}
use Rattle.doc_tree.specs.Walks.{order}
use Rattle.doc_tree.proofs.AttributeLemmas.{found-member, owner}
use Rattle.doc_tree.proofs.RefusalLemmas.{or-none}
use Rattle.doc_undo_laws.specs.Undoing.{AttributesAreGivenBack, content_of_pair, lost, regained}
use Rattle.name_scopes.specs.QNames.{local_part, prefix_part}
use Rattle.name_scopes.specs.Scoping.{InScope}
use Rattle.edit_script.specs.declared.command.Command.TheVariants.{UnsetAttr}
use Rattle.edit_script.specs.declared.command.PathStep.{PathStep}
use Rattle.edit_commands.specs.Commands.{refusal_where}
use Rattle.edit_commands.specs.Paths.{node_named}
use Rattle.edit_iso_laws.specs.CommandsMove.{DoneInTurn}
use Rattle.edit_paths.specs.Entries.{attribute_comes, behind, numbers_behind, numbers_where, undoing_where, unsetting_undone}
use Rattle.edit_undo_laws.specs.Undoing.{TakesBack, UnsettingsAreUndone}
use Rattle.edit_undo_laws.proofs.GainingAttributes.{Gaining, Regained, gaining-done}
use Rattle.edit_undo_laws.proofs.LosingAttributes.{Losing, losing-done, losing-on, lost-all, with_nodes}
use Rattle.edit_undo_laws.proofs.OwnAttributes.{IsOwn, own, pair_of, split-placed}

module _ (splits : QNamesSplit) (T : Table) (form : WellFormed T) (scoped : InScope T) (n : ℕ) (path : List PathStep) (named : node_named T path ≡ Some n) (kind : kind_of T n ≡ Some Element)
    (a : ℕ) (found : In a (attrs_of T n)) (given : AttributesAreGivenBack) where
  t : Formed T
  t = formed-of T form

  abbrev front : List ℕ
  front = take (place_in a (attrs_of T n)) (attrs_of T n)

  abbrev back : List ℕ
  back = behind a (attrs_of T n)

  list : attrs_of T n ≡ front ++ a ∷ back
  list = split-placed a (attrs_of T n) found

  among : (b : ℕ) → In b (a ∷ back) → In b (attrs_of T n)
  among b h = subst (In b) (sym list) (omega (arith, h, occurs-append b front (a ∷ back)))

  owns : (b : ℕ) → In b (a ∷ back) → IsOwn T n b
  owns b h = own splits T n b form scoped (among b h)

  begun : Losing T n path front (a ∷ back) (a ∷ back) T
  begun = record {
    holds = record { formed = t; named = named; kind = kind; scope = refl };
    list = list;
    same = λ b h. refl;
    numbers = refl;
    nodes = omega arith;
    text = omega arith;
  }

  first : Losing T n path front (a ∷ back) back (removed T a)
  first = losing-on T n path front (a ∷ back) T a back begun

  abbrev L : Table
  L = lost back (removed T a)

  gone : Losing T n path front (a ∷ back) [] L
  gone = lost-all T n path front (a ∷ back) back (removed T a) first

  map-kept : (ks : List ℕ) → ((b : ℕ) → In b ks → content_of L b ≡ content_of T b) → map (expanded_of L) ks ≡ map (expanded_of T) ks
  map-kept [] same = refl
  map-kept (k ∷ ks) same = ap₂ (λ x xs. x ∷ xs) (ap (λ c. expanded_in (name_at c)) (same k (occurs-head k ks))) (map-kept ks (λ b h. same b (omega (arith, h))))

  names : map (expanded_of L) (attrs_of L n) ≡ map (expanded_of T) (front ++ [])
  names = ap (map (expanded_of L)) gone.list ∙ map-kept (front ++ []) gone.same

  contents : (ks : List ℕ) → ((b : ℕ) → In b ks → IsOwn T n b) → map (content_of T) ks ≡ map content_of_pair (map (pair_of T) ks)
  contents [] each = refl
  contents (k ∷ ks) each = ap₂ (λ x xs. x ∷ xs) (each k (occurs-head k ks)).content (contents ks (λ b h. each b (omega (arith, h))))

  pub attributes-back : (before after : Contents) → before.nodes ≡ T → after.nodes ≡ removed T a → length (order T) ≤ after.pair_cap →
      length after.nodes + numbers_behind T n (Some a) ≤ MAX_NODE_NUMBERS → TakesBack before after (unsetting_undone path T n (Some a)) (numbers_behind T n (Some a))
  attributes-back before after was is room few =
      let start : Gaining T n path front [] (a ∷ back) L = record {
        holds = gone.holds;
        names = names;
        numbers = omega (arith, gone.numbers, first.numbers, ap length is, few);
        nodes = omega (arith, gone.nodes);
        text = omega (arith, gone.text);
      } in
      let again : Regained T n path t front after room L (a ∷ back) = gaining-done T n path t front after room (a ∷ back) [] L start list owns in
      let end : Contents = with_nodes after (regained n (map (pair_of T) (a ∷ back)) L) in
      let done : DoneInTurn (with_nodes after (removed T a)) (unsetting_undone path T n (Some a)) end =
      losing-done T n path front (a ∷ back) after end (map (attribute_comes path T) (a ∷ back)) owns back (removed T a) (λ b h. omega (arith, h)) first again.done in
      record {
        end = end;
        done = subst (λ V. DoneInTurn (with_nodes after V) (unsetting_undone path T n (Some a)) end) (sym is) done;
        same = subst (λ V. SameTree V (regained n (map (pair_of T) (a ∷ back)) L)) (sym was)
            (given.loss T n front (a ∷ back) (map (pair_of T) (a ∷ back)) form list (contents (a ∷ back) owns) again.may);
        numbers = omega (arith, again.numbers, gone.numbers, first.numbers, ap length is);
      }

pub unsettings-are-undone : QNamesSplit → AttributesAreGivenBack → UnsettingsAreUndone
unsettings-are-undone splits given before after path name n form scoped room named free edited same-cap few =
    let T : Table = before.nodes in
    let prefix : List ℕ = prefix_part name in
    let local : List ℕ = local_part name in
    let node : edited.node ≡ n = ap (λ (o : Option ℕ). unwrap_or o 0) (sym edited.named ∙ named) in
    let is : after.nodes ≡ attribute_unset T n prefix local = subst (λ m. after.nodes ≡ attribute_unset T m prefix local) node edited.edited in
    let free-at : unsetting_refusal T n prefix local ≡ None = ap (refusal_where before (UnsetAttr path name)) (sym named) ∙ free in
    let parts : (name_refusal T n prefix local ≡ None) × (absence_refusal (attribute_meant T n prefix local) ≡ None) =
    or-none (name_refusal T n prefix local) (absence_refusal (attribute_meant T n prefix local)) free-at in
    let goal : Option ℕ → Type 0 = λ o. TakesBack before after (unsetting_undone path T n o) (numbers_behind T n o) in
    let by : (o : Option ℕ) → attribute_meant T n prefix local ≡ o → absence_refusal o ≡ None → after.nodes ≡ without_attribute T o →
    length after.nodes + numbers_behind T n o ≤ MAX_NODE_NUMBERS → goal o =
    λ o. elim o as (λ p. attribute_meant T n prefix local ≡ p → absence_refusal p ≡ None → after.nodes ≡ without_attribute T p →
    length after.nodes + numbers_behind T n p ≤ MAX_NODE_NUMBERS → goal p) [
      | None ↦ λ e absent was less. absurd (cc)
      | Some a ↦ λ e absent was less.
          attributes-back splits T form scoped n path named (owner T n prefix local parts.0) a (mem-In a (attrs_of T n) (found-member T n a prefix local e)) given before after refl was
          (subst (λ c. length (order T) ≤ c) (sym same-cap) room) less
    ] in
    let few-at : length after.nodes + numbers_behind T n (attribute_meant T n prefix local) ≤ MAX_NODE_NUMBERS =
    subst (λ o. length after.nodes + numbers_where T (UnsetAttr path name) o ≤ MAX_NODE_NUMBERS) named few in
    subst (λ o. TakesBack before after (undoing_where T (UnsetAttr path name) o) (numbers_where T (UnsetAttr path name) o)) (sym named)
    (by (attribute_meant T n prefix local) refl parts.1 is few-at)
