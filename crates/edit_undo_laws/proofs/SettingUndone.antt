-- An attribute that got another value has its own again; one that came goes.
use Rattle.std.proofs.Common.{◌≡◌, ◌≢◌, ℕ, ◌+◌, true, List, [], ◌∷◌, ◌++◌, length, Option, None, Some, refl, sym, ap, ap₂, ◌∙◌, subst, arith, unwrap_or}
use Rattle.std.specs.Option.{option_or}
use Rattle.doc_table.proofs.Appending.{holder-live}
use Rattle.doc_table.proofs.Forests.{formed-of}
use Rattle.doc_table.proofs.Growing.{attributes-parent}
use Rattle.doc_table.proofs.ListLemmas.{In, In-mem, occurs-append, occurs-head}
use Rattle.doc_table.proofs.SameTreeLemmas.{same-lines-same-tree}
use Rattle.doc_table.proofs.TreeLaws.{ways-up, well-formed}
use Rattle.doc_table.specs.inner.Sound.{Formed}
use Rattle.doc_table.specs.Table.{Facts, content_at, decls_at, name_at}
use Rattle.doc_edits.specs.Changes.{gained, removed, said, saying, with_text}
use Rattle.doc_edits.specs.Fitting.{MayGain, MaySay}
use Rattle.doc_edits.proofs.GainLemmas.{gained-with_node, gains-keep-trees}
use Rattle.doc_edits.proofs.RecontentLemmas.{same-kind, same-links}
use Rattle.doc_edits.proofs.RemainderLemmas.{before-new, gained-content, gained-kids, gained-new, gained-parent, said-decls, said-parent}
use Rattle.doc_edits.proofs.SayingLemmas.{saying-kind, saying-name, sayings-keep-trees}
use Rattle.doc_edits.proofs.TableLemmas.{changed-word}
use Rattle.doc_tree.specs.kind.Kind.TheVariants.{Element}
use Rattle.doc_tree.specs.Edited.{attribute_name_at, attribute_set, attribute_unset, with_value, without_attribute}
use Rattle.doc_tree.specs.Kinds.{holds_kids}
use Rattle.doc_tree.specs.Laws.{HasWaysUp, WellFormed}
use Rattle.doc_tree.specs.NameTests.{attribute_meant}
use Rattle.doc_tree.specs.Refusals.{absence_refusal, name_refusal, setting_refusal, unsetting_refusal, value_refusal}
use Rattle.doc_tree.specs.SameTree.{SameTree}
use Rattle.doc_tree.specs.Scope.{attribute_namespace, scope_at}
use Rattle.doc_tree.specs.Table.{Contents, Name, Table, attribute, attrs_of, content_of, is_live, kids_of, kind_at, kind_of, name_of, value_of}
use Rattle.doc_tree.proofs.AttributeLemmas.{known, may-gain, may-say, owner}
use Rattle.doc_tree.proofs.RefusalLemmas.{or-none}
use Rattle.doc_undo_laws.specs.Undoing.{AttributesAreGivenBack}
use Rattle.doc_undo_laws.proofs.ContentBack.{said-back}
use Rattle.name_scopes.specs.QNames.{local_part, prefix_part}
use Rattle.edit_script.specs.declared.command.Command.{Command}
use Rattle.edit_script.specs.declared.command.Command.TheVariants.{SetAttr, UnsetAttr}
use Rattle.edit_script.specs.declared.command.PathStep.{PathStep}
use Rattle.edit_commands.specs.Commands.{IsEdited, command_refusal, refusal_where}
use Rattle.edit_commands.specs.Paths.{node_named}
use Rattle.edit_iso_laws.specs.CommandsMove.{none, then}
use Rattle.edit_paths.specs.Entries.{numbers_where, setting_undone, undoing_where}
use Rattle.edit_undo_laws.specs.Undoing.{SettingsAreUndone, TakesBack}
use Rattle.edit_undo_laws.proofs.AttributesFound.{meant-is, meant-kept, refusal-kept}
use Rattle.edit_paths.proofs.PathsKept.{path-kept}
use Rattle.edit_iso_laws.proofs.GoingOnLemmas.{removed-length, said-length}
use Rattle.edit_undo_laws.proofs.ScopesKept.{scope-kept}
use Rattle.edit_undo_laws.proofs.TextUndone.{path-same, room-back}

-- what a table with another text keeps
module _ (T : Table) (a : ℕ) (value : List ℕ) where
  text-name : (o : Option Facts) → name_at (content_at (with_text value o)) ≡ name_at (content_at o)
  text-name None = refl
  text-name (Some node) = saying-name value node.content

  name-said : (m : ℕ) → name_of (said T a value) m ≡ name_of T m
  name-said m = changed-word (λ o. name_at (content_at o)) (with_text value) text-name T a m

-- one command, done to its end
pub one-done : (before after : Contents) (U : Table) (command : Command) (more : ℕ) → command_refusal after command ≡ None → IsEdited after.nodes command U → SameTree before.nodes U →
    length U ≡ length after.nodes + more → TakesBack before after (command ∷ []) more
one-done before after U command more free edited same numbers =
    let end : Contents = record after { nodes = U } in
    record { end = end; done = then after end end command [] free edited refl (none end); same = same; numbers = numbers }

module _ (before : Contents) (path : List PathStep) (name value : List ℕ) (n : ℕ) (form : WellFormed before.nodes) (named : node_named before.nodes path ≡ Some n)
    (free : setting_refusal before n (prefix_part name) (local_part name) value ≡ None) where
  abbrev T : Table
  T = before.nodes

  abbrev prefix : List ℕ
  prefix = prefix_part name

  abbrev local : List ℕ
  local = local_part name

  t : Formed T
  t = formed-of T form

  ways : HasWaysUp T
  ways = ways-up T t

  name-none : name_refusal T n prefix local ≡ None
  name-none = (or-none (name_refusal T n prefix local) (value_refusal before (attribute_meant T n prefix local) value) free).0

  kind : kind_of T n ≡ Some Element
  kind = owner T n prefix local name-none

  live : is_live T n ≡ true
  live = holder-live T n (ap holds_kids kind)

  -- a present one
  module _ (a : ℕ) (found : attribute_meant T n prefix local ≡ Some a) where
    abbrev U : Table
    U = said T a value

    may : MaySay T a value
    may = may-say before n prefix local value free form ways a found

    u : Formed U
    u = sayings-keep-trees T a value t may

    scope : scope_at U n ≡ scope_at T n
    scope = scope-kept T U t u (λ m lives. record { parent = said-parent value T a m; decls = said-decls value T a m }) n live

    meant : attribute_meant U n prefix local ≡ Some a
    meant = meant-kept T U n prefix local scope (same-links (saying value) (saying-kind value) T a n).attributes (λ b h. name-said T a value b) ∙ found

    name-after : name_refusal U n prefix local ≡ None
    name-after = refusal-kept T U n prefix local (same-kind (saying value) (saying-kind value) T a n) scope ∙ name-none

    pub present-undone : (after : Contents) → after.nodes ≡ U → TakesBack before after (SetAttr path name (value_of T a) ∷ []) 0
    present-undone after is =
        let command : Command = SetAttr path name (value_of T a) in
        let changed : Contents = record after { nodes = U } in
        let named-after : node_named U path ≡ Some n = path-same T a value path ∙ named in
        let room : value_refusal changed (Some a) (value_of T a) ≡ None = rw (room-back T a value form t u may) refl in
        let free-after : setting_refusal changed n prefix local (value_of T a) ≡ None =
        ap₂ option_or name-after (ap (λ o. value_refusal changed o (value_of T a)) meant ∙ room) in
        let again : attribute_set U n prefix local (value_of T a) ≡ T =
        ap (λ o. with_value U n (attribute_name_at U n prefix local) o (value_of T a)) meant ∙ said-back T a value in
        let done : IsEdited U command (attribute_set U n prefix local (value_of T a)) = record { node = n; named = named-after; edited = refl } in
        subst (λ V. TakesBack before (record after { nodes = V }) (command ∷ []) 0) (sym is)
        (one-done before changed (attribute_set U n prefix local (value_of T a)) command 0 (ap (refusal_where changed command) named-after ∙ free-after) done
        (subst (SameTree T) (sym again) (same-lines-same-tree T T form form refl)) (omega (arith, ap length again, said-length T a value)))

  -- a new one
  module _ (given : AttributesAreGivenBack) (absent : attribute_meant T n prefix local ≡ None) where
    abbrev new : Name
    new = attribute_name_at T n prefix local

    abbrev G : Table
    G = gained T n new value

    gains : MayGain T n new value
    gains = may-gain before n prefix local value free absent

    g : Formed G
    g = gains-keep-trees T n new value t gains

    old : (m : ℕ) → is_live T m ≡ true → m ≢ length T
    old m lives = before-new T m lives

    same-content : (m : ℕ) → is_live T m ≡ true → content_of G m ≡ content_of T m
    same-content m lives = gained-content T n new value m (old m lives)

    scope-more : scope_at G n ≡ scope_at T n
    scope-more =
        scope-kept T G t g (λ m lives. record { parent = gained-parent T n new value m (old m lives); decls = ap decls_at (same-content m lives) }) n live

    list : attrs_of G n ≡ attrs_of T n ++ length T ∷ []
    list = ap (λ V. attrs_of V n) (gained-with_node T n new value) ∙ attributes-parent T n (attribute new value) live

    among : In (length T) (attrs_of G n)
    among = subst (In (length T)) (sym list) (omega (arith, occurs-append (length T) (attrs_of T n) (length T ∷ []), occurs-head (length T) []))

    meant-new : attribute_meant G n prefix local ≡ Some (length T)
    meant-new =
        meant-is G n (length T) prefix new (well-formed G g) among (ap (λ e. name_at (content_at e)) (gained-new T n new value))
        (ap (λ s. attribute_namespace s prefix) scope-more ∙ known T n prefix local name-none)

    name-more : name_refusal G n prefix local ≡ None
    name-more = refusal-kept T G n prefix local (ap kind_at (same-content n live)) scope-more ∙ name-none

    kid-lives : (m k : ℕ) → In k (kids_of T m) → is_live T k ≡ true
    kid-lives m k h = ways.kid_live m k (In-mem k (kids_of T m) h)

    named-more : node_named G path ≡ Some n
    named-more =
        path-kept T G form n (λ m. is_live T m ≡ true) (λ m lives ne. gained-kids T n new value m (old m lives))
        (λ m k lives ne h. ap kind_at (same-content k (kid-lives m k h))) (λ m k lives ne h. kid-lives m k h)
        (holder-live T 0 (ap holds_kids form.root_kind)) path named

    pub new-undone : (after : Contents) → after.nodes ≡ G → TakesBack before after (UnsetAttr path name ∷ []) 0
    new-undone after is =
        let command : Command = UnsetAttr path name in
        let changed : Contents = record after { nodes = G } in
        let free-after : unsetting_refusal G n prefix local ≡ None = ap₂ option_or name-more (ap absence_refusal meant-new) in
        let gone : attribute_unset G n prefix local ≡ removed G (length T) = ap (without_attribute G) meant-new in
        let done : IsEdited G command (attribute_unset G n prefix local) = record { node = n; named = named-more; edited = refl } in
        subst (λ V. TakesBack before (record after { nodes = V }) (command ∷ []) 0) (sym is)
        (one-done before changed (attribute_unset G n prefix local) command 0 (ap (refusal_where changed command) named-more ∙ free-after) done
        (subst (SameTree T) (sym gone) (given.gain T n new value form gains)) (omega (arith, ap length gone, removed-length G (length T))))

  -- by whether it was there
  pub setting-back : AttributesAreGivenBack → (after : Contents) → after.nodes ≡ attribute_set T n prefix local value →
      TakesBack before after (setting_undone path name T (attribute_meant T n prefix local)) 0
  setting-back given after is = by (attribute_meant T n prefix local) refl is
    where
      by : (o : Option ℕ) → attribute_meant T n prefix local ≡ o → after.nodes ≡ with_value T n (attribute_name_at T n prefix local) o value →
          TakesBack before after (setting_undone path name T o) 0
      by None e same = new-undone given e after same
      by (Some a) e same = present-undone a e after same

pub settings-are-undone : AttributesAreGivenBack → SettingsAreUndone
settings-are-undone given before after path name value n form named free edited =
    let T : Table = before.nodes in
    let node : edited.node ≡ n = ap (λ (o : Option ℕ). unwrap_or o 0) (sym edited.named ∙ named) in
    let is : after.nodes ≡ attribute_set T n (prefix_part name) (local_part name) value =
    subst (λ m. after.nodes ≡ attribute_set T m (prefix_part name) (local_part name) value) node edited.edited in
    let free-at : setting_refusal before n (prefix_part name) (local_part name) value ≡ None = ap (refusal_where before (SetAttr path name value)) (sym named) ∙ free in
    subst (λ o. TakesBack before after (undoing_where T (SetAttr path name value) o) (numbers_where T (SetAttr path name value) o)) (sym named) (setting-back before path name value n form named free-at given after is)
