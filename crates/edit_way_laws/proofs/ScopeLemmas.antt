-- Where nothing speaks against a command, what it makes is in scope.
use Rattle.std.proofs.Common.{◌≡◌, ℕ, ◌-◌, true, List, Option, None, Some, refl, sym, ap, ◌∙◌, subst}
use Rattle.pyx_core.specs.Nesting.{is_name, of_chars}
use Rattle.doc_table.proofs.Forests.{formed-of}
use Rattle.doc_table.proofs.TreeLaws.{ways-up}
use Rattle.doc_tree.specs.Edited.{attribute_name_at, attribute_renamed, attribute_set, element_name_at, element_renamed, with_other_name, with_value, without_attribute}
use Rattle.doc_tree.specs.Laws.{WellFormed}
use Rattle.doc_tree.specs.NameTests.{attribute_meant}
use Rattle.doc_tree.specs.Refusals.{absence_refusal, attribute_renaming_refusal, name_pair_refusal, name_refusal, renaming_refusal, setting_refusal, value_refusal}
use Rattle.doc_tree.specs.Scope.{scope_at}
use Rattle.doc_tree.specs.Table.{Contents, Table}
use Rattle.doc_tree.proofs.AttributeLemmas.{found-member, known, may-gain, may-say}
use Rattle.doc_tree.proofs.RefusalLemmas.{or-none}
use Rattle.doc_tree.proofs.RenamingLemmas.{may-rename, may-rename-attribute}
use Rattle.name_scopes.specs.QNames.{local_part, prefix_part}
use Rattle.name_scopes.specs.Scoping.{AttributeInScope, InScope}
use Rattle.name_scopes.proofs.TagFacts.{parted}
use Rattle.name_scopes_laws.specs.Scopes.{AdditionsKeepScope, DeletionsKeepScope, RenamesKeepScope, SayingsKeepScope}
use Rattle.edit_script.specs.WellFormed.{WellFormedCommand}
use Rattle.edit_script.specs.declared.command.Command.{Command}
use Rattle.edit_script.specs.declared.command.Command.TheVariants.{Insert, Delete, SetText, SetAttr, UnsetAttr, Rename, RenameAttr}
use Rattle.edit_commands.specs.Commands.{EditedAt, refusal_at, refusal_where}
use Rattle.edit_commands.proofs.AttributeLemmas.{no-declaration}
use Rattle.edit_commands.proofs.RenamingLemmas.{free-name, named-element, prefix-known}
use Rattle.edit_commands.proofs.TextLemmas as texts
use Rattle.edit_iso_laws.proofs.CommandLemmas.{piece-may}
use Rattle.edit_way_laws.specs.Staying.{EditsStayInScope}

module _ (sayings : SayingsKeepScope) (namings : RenamesKeepScope) (deletions : DeletionsKeepScope) (additions : AdditionsKeepScope)
    (before : Contents) (formed : WellFormed before.nodes) (scoped : InScope before.nodes) where
  abbrev T : Table
  T = before.nodes

  set-scoped : (n : ℕ) (name value : List ℕ) → is_name name ≡ true → of_chars value ≡ true → setting_refusal before n (prefix_part name) (local_part name) value ≡ None →
      InScope (attribute_set T n (prefix_part name) (local_part name) value)
  set-scoped n name value named made free = by (attribute_meant T n (prefix_part name) (local_part name)) refl
    where
      alone : name_refusal T n (prefix_part name) (local_part name) ≡ None
      alone = (or-none (name_refusal T n (prefix_part name) (local_part name)) (value_refusal before (attribute_meant T n (prefix_part name) (local_part name)) value) free).0

      by : (o : Option ℕ) → attribute_meant T n (prefix_part name) (local_part name) ≡ o →
          InScope (with_value T n (attribute_name_at T n (prefix_part name) (local_part name)) o value)
      by None e =
          let fits : AttributeInScope (scope_at T n) (attribute_name_at T n (prefix_part name) (local_part name)) value = record {
            named = (parted name named).qualified;
            namespace = known T n (prefix_part name) (local_part name) alone;
            no_declaration = no-declaration T n (prefix_part name) (local_part name) alone;
            made = made;
          } in
          additions.gain T n (attribute_name_at T n (prefix_part name) (local_part name)) value formed scoped (may-gain before n (prefix_part name) (local_part name) value free e) fits
      by (Some a) e =
          sayings T a value formed scoped (may-say before n (prefix_part name) (local_part name) value free formed (ways-up T (formed-of T formed)) a e) made

  unset-scoped : (o : Option ℕ) → InScope (without_attribute T o)
  unset-scoped None = scoped
  unset-scoped (Some a) = deletions.removal T a formed scoped

  renamed-scoped : (n : ℕ) (name : List ℕ) → is_name name ≡ true → renaming_refusal T n (prefix_part name) ≡ None → InScope (element_renamed T n (prefix_part name) (local_part name))
  renamed-scoped n name named free =
      namings.element T n (element_name_at T n (prefix_part name) (local_part name)) formed scoped (may-rename T n (prefix_part name) (local_part name) formed free)
      (named-element T n (prefix_part name) free) (parted name named).qualified (prefix-known T n (prefix_part name) free)

  attribute-renamed-scoped : (n : ℕ) (old name : List ℕ) → is_name name ≡ true →
      attribute_renaming_refusal T n (prefix_part old) (local_part old) (prefix_part name) (local_part name) ≡ None →
      InScope (attribute_renamed T n (prefix_part old) (local_part old) (prefix_part name) (local_part name))
  attribute-renamed-scoped n old name named free = by (attribute_meant T n (prefix_part old) (local_part old)) refl
    where
      pair : name_pair_refusal T n (prefix_part old) (local_part old) (prefix_part name) (local_part name) ≡ None
      pair =
          (or-none (name_pair_refusal T n (prefix_part old) (local_part old) (prefix_part name) (local_part name))
          (absence_refusal (attribute_meant T n (prefix_part old) (local_part old))) free).0

      alone : name_refusal T n (prefix_part name) (local_part name) ≡ None
      alone = free-name T n (prefix_part old) (local_part old) (prefix_part name) (local_part name) pair

      by : (o : Option ℕ) → attribute_meant T n (prefix_part old) (local_part old) ≡ o →
          InScope (with_other_name T o (attribute_name_at T n (prefix_part name) (local_part name)))
      by None e = scoped
      by (Some a) e =
          namings.attribute T a n (attribute_name_at T n (prefix_part name) (local_part name)) formed scoped
          (may-rename-attribute T n a (prefix_part old) (local_part old) (prefix_part name) (local_part name) formed pair e)
          (found-member T n a (prefix_part old) (local_part old) e) (parted name named).qualified
          (known T n (prefix_part name) (local_part name) alone) (no-declaration T n (prefix_part name) (local_part name) alone)

  at-scoped : (command : Command) (n : ℕ) (U : Table) → WellFormedCommand command → refusal_at before command n ≡ None → EditedAt T command n U → InScope U
  at-scoped (Insert path at events) n U good free edited =
      subst InScope (sym edited.is)
      (additions.insertion T n (at - 1) edited.piece formed edited.well_formed scoped (piece-may before n at events edited.piece edited.well_formed edited.scoped free)
      edited.scoped.in_scope)
  at-scoped (Delete path) n U good free edited = subst InScope (sym edited) (deletions.deletion T n formed scoped)
  at-scoped (SetText path text) n U good free edited = subst InScope (sym edited) (sayings T n text formed scoped (texts.may-say T n text free) good.1)
  at-scoped (SetAttr path name value) n U good free edited = subst InScope (sym edited) (set-scoped n name value good.1 good.2 free)
  at-scoped (UnsetAttr path name) n U good free edited = subst InScope (sym edited) (unset-scoped (attribute_meant T n (prefix_part name) (local_part name)))
  at-scoped (Rename path name) n U good free edited = subst InScope (sym edited) (renamed-scoped n name good.1 free)
  at-scoped (RenameAttr path old name) n U good free edited = subst InScope (sym edited) (attribute-renamed-scoped n old name good.2 free)

pub stay-in-scope : SayingsKeepScope → RenamesKeepScope → DeletionsKeepScope → AdditionsKeepScope → EditsStayInScope
stay-in-scope sayings namings deletions additions before command U formed scoped good free edited =
    at-scoped sayings namings deletions additions before formed scoped command edited.node U good (ap (refusal_where before command) (sym edited.named) ∙ free) edited.edited
