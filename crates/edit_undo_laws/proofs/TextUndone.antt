-- A node that says another text says its own again.
use Rattle.std.proofs.Common.{◌≡◌, ℕ, ◌+◌, ◌-◌, Bool, true, false, ◌&&◌, List, [], ◌∷◌, length, Option, None, Some, refl, sym, ap, ap₂, ◌∙◌, subst, true≢false, arith}
use Rattle.std.specs.Prelude.{filter, nat_lt, slice_get, unwrap_or}
use Rattle.std.proofs.lemmas.Bool.{ltb-true}
use Rattle.sch_base.specs.Lists.{is_nil}
use Rattle.doc_table.proofs.Counts.{text-count}
use Rattle.doc_table.proofs.Forests.{formed-of}
use Rattle.doc_table.proofs.SameTreeLemmas.{same-lines-same-tree}
use Rattle.doc_table.specs.inner.Sound.{Formed}
use Rattle.doc_edits.specs.Changes.{said, saying}
use Rattle.doc_edits.specs.Fitting.{MaySay}
use Rattle.doc_edits.proofs.RecontentLemmas.{same-kind, same-links}
use Rattle.doc_edits.proofs.SayingLemmas.{held-said, saying-kind, sayings-keep-trees, value-said}
use Rattle.doc_edit_laws.proofs.InsertionOrderLemmas.{filter-same}
use Rattle.doc_tree.specs.kind.Kind.{Kind}
use Rattle.doc_tree.specs.kind.Kind.TheVariants.{Root, Element, Attribute, Text, Comment, Pi}
use Rattle.doc_tree.specs.Kinds.{is_kind, is_text}
use Rattle.doc_tree.specs.Laws.{WellFormed}
use Rattle.doc_tree.specs.declared.refusal.EditRefusal.TheVariants.{WrongKind}
use Rattle.doc_tree.specs.Refusals.{has_own_text, text_refusal}
use Rattle.doc_tree.specs.SameTree.{SameTree}
use Rattle.doc_tree.specs.Table.{Contents, Table, kids_of, kind_of, value_of}
use Rattle.doc_tree.specs.Walks.{text_bytes}
use Rattle.doc_tree.specs.limits.TheConstants.{MAX_LIVE_TEXT_BYTES}
use Rattle.doc_undo_laws.proofs.ContentBack.{said-back}
use Rattle.edit_script.specs.declared.command.Command.{Command}
use Rattle.edit_script.specs.declared.command.Command.TheVariants.{SetText}
use Rattle.edit_script.specs.declared.command.PathStep.{PathStep}
use Rattle.edit_commands.specs.Commands.{IsEdited, command_refusal, refusal_where}
use Rattle.edit_commands.specs.Paths.{kids_of_kind, led_from, node_named}
use Rattle.edit_commands.proofs.TextLemmas.{may-say}
use Rattle.edit_iso_laws.specs.CommandsMove.{none, then}
use Rattle.edit_iso_laws.proofs.GoingOnLemmas.{said-length}
use Rattle.edit_paths.specs.Entries.{numbers_where, undoing_where}
use Rattle.edit_undo_laws.specs.Undoing.{TakesBack, TextsAreUndone}

-- a path leads where it led, where kids and kinds stay
module _ (T U : Table) (kids : (m : ℕ) → kids_of U m ≡ kids_of T m) (kinds : (m : ℕ) → kind_of U m ≡ kind_of T m) where
  pub led-same : (o : Option ℕ) (steps : List PathStep) → led_from U o steps ≡ led_from T o steps
  led-same None steps = refl
  led-same (Some n) [] = refl
  led-same (Some n) (step ∷ steps) =
      ap (λ ks. led_from U (slice_get ks (step.index - 1)) steps)
      (ap (filter (λ k. is_kind step.kind (kind_of U k))) (kids n)
      ∙ filter-same (λ k. is_kind step.kind (kind_of U k)) (λ k. is_kind step.kind (kind_of T k)) (kids_of T n) (λ k h. ap (is_kind step.kind) (kinds k)))
      ∙ led-same (slice_get (kids_of_kind T n step.kind) (step.index - 1)) steps

pub text-of : (o : Option Kind) → is_text o ≡ true → o ≡ Some Text
text-of None h = absurd (true≢false (sym h))
text-of (Some Root) h = absurd (true≢false (sym h))
text-of (Some Element) h = absurd (true≢false (sym h))
text-of (Some Attribute) h = absurd (true≢false (sym h))
text-of (Some Text) h = refl
text-of (Some Comment) h = absurd (true≢false (sym h))
text-of (Some Pi) h = absurd (true≢false (sym h))

nil-of : (xs : List ℕ) → is_nil xs ≡ true → xs ≡ []
nil-of [] h = refl
nil-of (x ∷ xs) h = absurd (true≢false (sym h))

-- nothing speaks against a text that was there
own-text : (T : Table) (n : ℕ) (new : List ℕ) → text_refusal T n new ≡ None → has_own_text (kind_of T n) ≡ true
own-text T n new free = by (has_own_text (kind_of T n)) refl
  where
    by : (b : Bool) → has_own_text (kind_of T n) ≡ b → b ≡ true
    by true e = refl
    by false e =
        let wrong : text_refusal T n new ≡ Some WrongKind = rw e refl in
        let never : Some WrongKind ≡ None = sym wrong ∙ free in
        absurd (cc)

-- there is room for a text that was there
pub room-back : (T : Table) (n : ℕ) (new : List ℕ) → WellFormed T → Formed T → Formed (said T n new) → MaySay T n new →
    nat_lt (MAX_LIVE_TEXT_BYTES + length (value_of (said T n new) n)) (text_bytes (said T n new) + length (value_of T n)) ≡ false
room-back T n new form t u may = by (nat_lt (MAX_LIVE_TEXT_BYTES + length (value_of (said T n new) n)) (text_bytes (said T n new) + length (value_of T n))) refl
  where
    by : (b : Bool) → nat_lt (MAX_LIVE_TEXT_BYTES + length (value_of (said T n new) n)) (text_bytes (said T n new) + length (value_of T n)) ≡ b → b ≡ false
    by false e = refl
    by true e =
        absurd (omega (
          arith,
          ltb-true (MAX_LIVE_TEXT_BYTES + length (value_of (said T n new) n)) (text_bytes (said T n new) + length (value_of T n)) e,
          ap length (value-said T n new may.lives may.has_text),
          held-said T n new may.lives may.has_text,
          text-count (said T n new) u.forest u.whole,
          text-count T t.forest t.whole,
          form.little_text,
        ))

-- another text leaves paths as they lead
pub path-same : (T : Table) (n : ℕ) (new : List ℕ) (path : List PathStep) → node_named (said T n new) path ≡ node_named T path
path-same T n new path =
    led-same T (said T n new) (λ m. (same-links (saying new) (saying-kind new) T n m).kids) (λ m. same-kind (saying new) (saying-kind new) T n m) (Some 0) path

module _ (T : Table) (n : ℕ) (new : List ℕ) (form : WellFormed T) (may : MaySay T n new) (own : has_own_text (kind_of T n) ≡ true) where
  abbrev U : Table
  U = said T n new

  t : Formed T
  t = formed-of T form

  u : Formed U
  u = sayings-keep-trees T n new t may

  kind-same : (m : ℕ) → kind_of U m ≡ kind_of T m
  kind-same m = same-kind (saying new) (saying-kind new) T n m

  not-empty : (is_text (kind_of U n) && is_nil (value_of T n)) ≡ false
  not-empty = by (is_text (kind_of T n)) (is_nil (value_of T n)) refl refl
    where
      by : (a b : Bool) → is_text (kind_of T n) ≡ a → is_nil (value_of T n) ≡ b → (is_text (kind_of U n) && is_nil (value_of T n)) ≡ false
      by false b e f = ap (λ k. is_text k && is_nil (value_of T n)) (kind-same n) ∙ ap (λ c. c && is_nil (value_of T n)) e
      by true false e f = ap₂ (λ (k : Option Kind) (c : Bool). is_text k && c) (kind-same n) f ∙ ap (λ c. c && false) e
      by true true e f = absurd (form.some_text n (text-of (kind_of T n) e) (nil-of (value_of T n) f))

  little : nat_lt (MAX_LIVE_TEXT_BYTES + length (value_of U n)) (text_bytes U + length (value_of T n)) ≡ false
  little = room-back T n new form t u may

  pub free-after : text_refusal U n (value_of T n) ≡ None
  free-after = rw (ap has_own_text (kind-same n) ∙ own, not-empty, little) refl

  pub path-after : (path : List PathStep) → node_named U path ≡ node_named T path
  path-after path = path-same T n new path

pub texts-are-undone : TextsAreUndone
texts-are-undone before after path new n form named free edited =
    let T : Table = before.nodes in
    let node : edited.node ≡ n = ap (λ (o : Option ℕ). unwrap_or o 0) (sym edited.named ∙ named) in
    let is : after.nodes ≡ said T n new = subst (λ m. after.nodes ≡ said T m new) node edited.edited in
    let free-at : text_refusal T n new ≡ None = ap (refusal_where before (SetText path new)) (sym named) ∙ free in
    let own : has_own_text (kind_of T n) ≡ true = own-text T n new free-at in
    let may : MaySay T n new = may-say T n new free-at in
    let command : Command = SetText path (value_of T n) in
    let end : Contents = record after { nodes = said after.nodes n (value_of T n) } in
    let named2 : node_named after.nodes path ≡ Some n = ap (λ U. node_named U path) is ∙ (path-after T n new form may own path ∙ named) in
    let free2 : command_refusal after command ≡ None =
    ap (refusal_where after command) named2 ∙ (ap (λ U. text_refusal U n (value_of T n)) is ∙ free-after T n new form may own) in
    let done : IsEdited after.nodes command (said after.nodes n (value_of T n)) = record { node = n; named = named2; edited = refl } in
    let again : said after.nodes n (value_of T n) ≡ T = ap (λ U. said U n (value_of T n)) is ∙ said-back T n new in
    subst (λ o. TakesBack before after (undoing_where T (SetText path new) o) (numbers_where T (SetText path new) o)) (sym named) (record {
      end = end;
      done = then after end end command [] free2 done refl (none end);
      same = subst (SameTree T) (sym again) (same-lines-same-tree T T form form refl);
      numbers = omega (arith, said-length after.nodes n (value_of T n));
    })
