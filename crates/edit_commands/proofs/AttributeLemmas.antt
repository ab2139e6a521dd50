-- An attribute of an element is set or goes.
use Rattle.std.proofs.Common.{◌≡◌, ◌≢◌, ℕ, true, false, List, [], Option, None, Some, is_some, refl, sym, ap, ◌∙◌, subst, true≢false}
use Rattle.std.specs.Str.{bytes_eq}
use Rattle.std.proofs.lemmas.Slice.Eq.{bytes_eq-Decides}
use Rattle.sch_base.specs.Lists.{is_nil}
use Rattle.pyx_core.specs.Nesting.{is_name, of_chars}
use Rattle.doc_table.specs.Laws.{HasWaysUp, WellFormed}
use Rattle.doc_tree.specs.Edited.{attribute_name_at, attribute_set, attribute_unset, with_value, without_attribute}
use Rattle.doc_tree.specs.Kinds.{is_text}
use Rattle.doc_tree.specs.Lists.{mem}
use Rattle.doc_tree.specs.NameTests.{attribute_meant}
use Rattle.doc_tree.specs.Refusals.{absence_refusal, name_refusal, setting_refusal, unsetting_refusal, value_refusal}
use Rattle.doc_tree.specs.Scope.{scope_at, xmlns_prefix}
use Rattle.doc_tree.specs.Table.{Contents, Name, Table, attrs_of, kind_of}
use Rattle.doc_tree.proofs.AttributeLemmas.{found-member, known, may-gain, may-say, no-words}
use Rattle.doc_tree.proofs.RefusalLemmas.{and-false, or-none}
use Rattle.doc_edits.specs.Changes.{gained, removed, said}
use Rattle.doc_edits.specs.Fitting.{MayGain, MaySay}
use Rattle.doc_edit_laws.specs.Along.{Edit, gains, loses, says}
use Rattle.doc_edit_laws.specs.Touching.{touched_attributes}
use Rattle.name_scopes.specs.QNames.{local_part, prefix_part}
use Rattle.name_scopes.specs.Scoping.{AttributeInScope, InScope, is_qualified}
use Rattle.name_scopes.proofs.TagFacts.{parted}
use Rattle.name_scopes_laws.specs.Scopes.{AdditionsKeepScope, DeletionsKeepScope, SayingsKeepScope}
use Rattle.edit_script.specs.declared.command.Command.TheVariants.{SetAttr, UnsetAttr}
use Rattle.edit_script.specs.declared.command.PathStep.{PathStep}
use Rattle.edit_commands.specs.declared.touched.Touched.TheVariants.{Attributes, Said}
use Rattle.edit_commands.specs.Touched.{holds_cell, touched_setting}
use Rattle.edit_commands.specs.inner.Done.{Done}
use Rattle.edit_commands.proofs.TextLemmas.{said-holds}

-- a name against which nothing speaks
module _ (T : Table) (n : ℕ) (prefix local : List ℕ) (free : name_refusal T n prefix local ≡ None) where
  -- it declares nothing
  pub no-declaration : prefix ≡ [] → local ≢ xmlns_prefix
  no-declaration empty is =
      true≢false
      (sym ((bytes_eq-Decides local xmlns_prefix).1 is) ∙ and-false (is_nil prefix) (bytes_eq local xmlns_prefix) (no-words T n prefix local free).1 (ap is_nil empty))

  pub in-scope : (value : List ℕ) → is_qualified (attribute_name_at T n prefix local) ≡ true → of_chars value ≡ true →
      AttributeInScope (scope_at T n) (attribute_name_at T n prefix local) value
  in-scope value qualified made = record { named = qualified; namespace = known T n prefix local free; no_declaration = no-declaration; made = made }

module _ (before after : Contents) (n : ℕ) (name value : List ℕ) (form : WellFormed before.nodes) (ways : HasWaysUp before.nodes)
    (free : setting_refusal before n (prefix_part name) (local_part name) value ≡ None)
    (done : after.nodes ≡ attribute_set before.nodes n (prefix_part name) (local_part name) value) (found : Option ℕ)
    (is : found ≡ attribute_meant before.nodes n (prefix_part name) (local_part name)) where
  abbrev T : Table
  T = before.nodes

  abbrev there : Option ℕ
  there = attribute_meant T n (prefix_part name) (local_part name)

  abbrev called : Name
  called = attribute_name_at T n (prefix_part name) (local_part name)

  -- an attribute that is there gets the value
  pub set-old : SayingsKeepScope → of_chars value ≡ true → (a : ℕ) → found ≡ Some a → (path : List PathStep) → Done before after (SetAttr path name value) n (Said a false)
  set-old scopes made a old path =
      let at : there ≡ Some a = sym is ∙ old in
      let may : MaySay T a value = may-say before n (prefix_part name) (local_part name) value free form ways a at in
      let new : after.nodes ≡ said T a value = done ∙ ap (λ o. with_value T n called o value) at in
      let member : mem a (attrs_of T n) ≡ true = found-member T n a (prefix_part name) (local_part name) at in
      let no_text : false ≡ is_text (kind_of T a) = ap is_text (sym (form.attribute_kind n a member)) in
      record {
        within = free;
        edited = done;
        holds = λ c. ap (λ (U : Table). holds_cell U (Said a false) c) new ∙ (said-holds T a value false no_text c ∙ ap (λ o. touched_setting T n o c) (sym at));
        edit = subst (λ (U : Table). Edit T U (touched_setting T n there)) (sym new) (subst (λ o. Edit T (said T a value) (touched_setting T n o)) (sym at) (says a value may));
        scope = λ s. subst InScope (sym new) (scopes T a value form s may made);
      }

  -- another one comes
  pub set-new : AdditionsKeepScope → is_name name ≡ true → of_chars value ≡ true → found ≡ None → (path : List PathStep) → Done before after (SetAttr path name value) n (Attributes n)
  set-new scopes named made absent path =
      let at : there ≡ None = sym is ∙ absent in
      let may : MayGain T n called value = may-gain before n (prefix_part name) (local_part name) value free at in
      let new : after.nodes ≡ gained T n called value = done ∙ ap (λ o. with_value T n called o value) at in
      record {
        within = free;
        edited = done;
        holds = λ c. ap (λ o. touched_setting T n o c) (sym at);
        edit = subst (λ (U : Table). Edit T U (touched_setting T n there)) (sym new) (subst (λ o. Edit T (gained T n called value) (touched_setting T n o)) (sym at) (gains n called value may));
        scope = λ s. subst InScope (sym new) (scopes.gain T n called value form s may
            (in-scope T n (prefix_part name) (local_part name) (or-none (name_refusal T n (prefix_part name) (local_part name)) (value_refusal before there value) free).0
            value (parted name named).qualified made));
      }

-- an attribute goes
pub unset-done : DeletionsKeepScope → (before after : Contents) (n : ℕ) (name : List ℕ) → WellFormed before.nodes →
    unsetting_refusal before.nodes n (prefix_part name) (local_part name) ≡ None → after.nodes ≡ attribute_unset before.nodes n (prefix_part name) (local_part name) →
    (path : List PathStep) → Done before after (UnsetAttr path name) n (Attributes n)
unset-done scopes before after n name form free done path =
    by (attribute_meant before.nodes n (prefix_part name) (local_part name)) refl
  where
    by : (o : Option ℕ) → attribute_meant before.nodes n (prefix_part name) (local_part name) ≡ o → Done before after (UnsetAttr path name) n (Attributes n)
    by None at =
        absurd (true≢false (ap is_some (sym (ap absence_refusal at)
        ∙ (or-none (name_refusal before.nodes n (prefix_part name) (local_part name)) (absence_refusal (attribute_meant before.nodes n (prefix_part name) (local_part name))) free).1)))
    by (Some a) at =
        let new : after.nodes ≡ removed before.nodes a = done ∙ ap (without_attribute before.nodes) at in
        let member : mem a (attrs_of before.nodes n) ≡ true = found-member before.nodes n a (prefix_part name) (local_part name) at in
        record {
          within = free;
          edited = done;
          holds = λ c. refl;
          edit = subst (λ (U : Table). Edit before.nodes U (touched_attributes n)) (sym new) (loses a n (form.attribute_kind n a member) (form.attribute_parent n a member));
          scope = λ s. subst InScope (sym new) (scopes.removal before.nodes a form s);
        }
