-- What an expansion writes is read, by itself, as the schema that was expanded.
use Rattle.std.proofs.Common.{◌≡◌, ⊎_elim, inl, inr, ℕ, ◌≤◌, Bool, true, false, not, List, [], ◌∷◌, ◌++◌, length, Option, None, Some, refl, sym, ap, ◌∙◌, subst}
use Rattle.std.specs.Prelude.{Result, Ok, Err, codes, nat_le}
use Rattle.std.specs.FinMap.{get}
use Rattle.std.proofs.lemmas.Bool.{and_parts, leb-true}
use Rattle.sch_base.specs.declared.limits.TheConstants.{MAX_TEXT_BYTES}
use Rattle.sch_io.specs.Files.{Files}
use Rattle.sch_io.specs.declared.reading.TheConstants.{MAX_FILE_BYTES}
use Rattle.pyx_core.specs.declared.mode.Mode.TheVariants.{Document}
use Rattle.pyx_core.specs.Written.{Gives, text_of}
use Rattle.doc_tree.specs.Table.{Table}
use Rattle.name_scopes.specs.DocFaults.{doc_fault}
use Rattle.name_scopes.specs.ScopedTree.{Scoped}
use Rattle.name_scopes_laws.specs.Documents.{DocumentsHaveTrees}
use Rattle.sch_model.specs.Placeless.{placeless_flat}
use Rattle.sch_model.specs.declared.fault.SchemaFault.{SchemaFault}
use Rattle.sch_model.specs.declared.flat.FlatSchema.{FlatSchema}
use Rattle.sch_model.specs.declared.raw.RawSchema.{RawSchema}
use Rattle.sch_rules.specs.FirstBroken.{first_broken}
use Rattle.sch_rules.specs.RawSchema.{raw_schema}
use Rattle.sch_rules.specs.Rules.{name_if}
use Rattle.sch_references.specs.Places.{first_among}
use Rattle.sch_references.specs.References.{reference_places}
use Rattle.sch_expansion.specs.Flat.{flat_schema}
use Rattle.sch_flat.specs.FlatDocument.{flat_events}
use Rattle.sch_flat.specs.FlatSize.{bytes_of, is_small}
use Rattle.sch_sizes.specs.Sizes.{size_places}
use Rattle.sch_abstract.specs.FirstFault.{first_fault}
use Rattle.sch_flat_laws.specs.Accepted.{ExpansionIsAcceptedAgain, ExpansionsAreDocuments, IsAccepted, ScopedTreesAreMade, StaysAccepted}
use Rattle.sch_flat_laws.proofs.Rules.Forgotten.{document_same}
use Rattle.sch_flat_laws.proofs.Rules.Referring.{none_given}
use Rattle.sch_flat_laws.proofs.Rules.Unbroken.{or_none}
use Rattle.sch_flat_laws.specs.FlatFaults.{FlatTextsHaveNoFault}
use Rattle.sch_include.specs.Included.{Including, OneInclusion}
use Rattle.sch_include.specs.declared.fault.IncludeFault.{IncludeFault}
use Rattle.sch_include.specs.declared.fault.IncludeKind.{IncludeKind}
use Rattle.sch_include.specs.declared.fault.IncludeKind.TheVariants as kind
use Rattle.sch_compiled.specs.declared.plan.Plan.{Plan}
use Rattle.sch_plan_laws.specs.Places.{PlansNeedNoPlaces}
use Rattle.sch_plan.specs.Compiled.{compiled}
use Rattle.sch_words.specs.declared.status.Status.TheVariants.{Clean}
use Rattle.sch_cli.specs.Behaviours.{Any, IsWhole, Opening, Treed, Treeing}
use Rattle.sch_words.specs.Commands.{expand, validate}
use Rattle.sch_loading.specs.Loading.{Compiling, Expanding, Fetching, Flattening, Inclusion, Loading, Planning, Reading, at_include, held_under, included, planned, refused_rule}
use Rattle.sch_stops.specs.Output.{Output}
use Rattle.sch_cli.specs.Output.{expanded, state}
use Rattle.sch_loading.specs.Stages.{Came, Is, Stage, Then, goes, halt_at, halts, unread}
use Rattle.sch_loading.proofs.StageLemmas.{goes-first, goes-on, through}
use Rattle.sch_cli_laws.specs.WholeSchemas.{ExpansionsStay, ExpansionsValidateAlike}
use Rattle.sch_cli_laws.proofs.FlatNames.{no-include}
use Rattle.sch_cli_laws.proofs.MadeLines.{included-made}
use Rattle.sch_cli_laws.proofs.PlainWalks.{included-plain}

-- the tree of a schema whose includes are replaced
abbrev Gave : Table → Result Table IncludeFault
Gave T = Ok T

tree-same : (T U : Table) → Gave T ≡ Gave U → T ≡ U
tree-same T U h = cc

-- what goes on, and what is halted
goes-same : {A : Type 0} (a b : A) → goes a ≡ goes b → a ≡ b
goes-same a b h = cc

not-halted : {A F : Type 0} (fault : Option F) (output : F → Output) (value result : A) → goes result ≡ halt_at fault output value → (fault ≡ None) × (result ≡ value)
not-halted (Some found) output value result h = absurd (let clash : goes result ≡ halts (output found) = h in cc)
not-halted None output value result h = (refl, goes-same result value h)

-- an output that is written as it was made ready
written-so : (ready : Stage Output) (opened : List (List ℕ)) (output : Output) → Then ready (λ written. Any (λ o. o ≡ written)) opened (goes output) → (before : List (List ℕ)) × ready before (goes output)
written-so ready opened output x =
    let found = through ready (λ written. Any (λ o. o ≡ written)) opened output x in
    let is : output ≡ found.value = goes-same output found.goes_on.1 found.goes_on.3 ∙ found.goes_on.2 in
    (found.before, subst (λ (o : Output). ready found.before (goes o)) (sym is) found.begins)

write-so : (ready : Stage Output) (opened : List (List ℕ)) (output : Output) → ready opened (goes output) → Then ready (λ written. Any (λ o. o ≡ written)) opened (goes output)
write-so ready opened output x = goes-on ready (λ written. Any (λ o. o ≡ written)) opened output (goes output) x (refl, output, refl, refl)

-- a schema's tree that breaks no rule
flat_of : Table → FlatSchema
flat_of T = flat_schema (raw_schema T)

reads : (T : Table) → first_broken T ≡ None → first_fault (raw_schema T) ≡ None → Reading T [] (goes (flat_of T))
unfolding flat_of
reads T unbroken fits = goes-on (Is (halt_at (first_broken T) (refused_rule T) (raw_schema T))) (Flattening T) [] (raw_schema T) (goes (flat_of T))
    (refl, sym (ap (λ o. halt_at o (refused_rule T) (raw_schema T)) unbroken))
    (refl, sym (ap (λ o. halt_at o (refused_rule T) (flat_schema (raw_schema T))) fits))

record Read (T : Table) (flat : FlatSchema) : Type 0 where
  unbroken : first_broken T ≡ None
  fits : first_fault (raw_schema T) ≡ None
  is : flat ≡ flat_of T

read-so : (T : Table) (opened : List (List ℕ)) (flat : FlatSchema) → Reading T opened (goes flat) → Read T flat
unfolding flat_of
read-so T opened flat x =
    let raw = through (Is (halt_at (first_broken T) (refused_rule T) (raw_schema T))) (Flattening T) opened flat x in
    let first = not-halted (first_broken T) (refused_rule T) (raw_schema T) raw.value raw.begins.1 in
    let second = not-halted (first_fault raw.value) (refused_rule T) (flat_schema raw.value) flat raw.goes_on.1 in
    record { unbroken = first.0; fits = ap first_fault (sym first.1) ∙ second.0; is = second.1 ∙ ap flat_schema first.1 }

-- a schema that fits has a small document
small-by : (b : Bool) → name_if (not b) (codes "16777216") ≡ None → b ≡ true
small-by true h = refl
small-by false h = absurd (cc)

small : (raw : RawSchema) → first_fault raw ≡ None → is_small (flat_schema raw) ≡ true
small raw fits =
    let parts = or_none (first_among (reference_places raw)) (first_among (size_places raw)) fits in
    small-by (is_small (flat_schema raw)) (none_given (size_places raw) parts.1).0.1.1.1.0

short : (flat : FlatSchema) → is_small flat ≡ true → length (text_of (flat_events flat)) ≤ MAX_TEXT_BYTES
short flat h =
    leb-true (bytes_of (flat_events flat)) MAX_TEXT_BYTES (and_parts (nat_le (bytes_of (flat_events flat)) MAX_TEXT_BYTES) _ h).0

-- schemas that are the same but for places have one document
same-document : (flat other : FlatSchema) → placeless_flat flat ≡ placeless_flat other → expanded flat ≡ expanded other
same-document flat other same =
    ap (λ events. record { out = text_of events; err = []; ends = Clean }) (sym (document_same flat) ∙ (ap flat_events same ∙ document_same other))

-- files that agree on a document agree on its tree
same-fetching : (files others : Files) (document : List ℕ) (limit : ℕ) → get others document ≡ get files document → (opened : List (List ℕ)) (came : Came (Option (List ℕ))) →
    Fetching files document limit opened came → Fetching others document limit opened came
same-fetching files others document limit same opened came x = (
  x.0,
  ⊎_elim (λ (failed : came ≡ unread document). inl failed)
      (λ (held : came ≡ held_under document limit (get files document)). inr (held ∙ ap (held_under document limit) (sym same))) x.1,
)

same-loading : (files others : Files) (document : List ℕ) → get others document ≡ get files document → (opened : List (List ℕ)) (came : Came Table) → Loading files document opened came → Loading others document opened came
same-loading files others document same opened came x = record {
  between = x.between;
  before = x.before;
  after = x.after;
  begins = same-fetching files others document MAX_FILE_BYTES same x.before x.between x.begins;
  goes_on = x.goes_on;
  in_order = x.in_order;
}

same-treeing : (files others : Files) (plan : Plan) (document : List ℕ) → get others document ≡ get files document → (opened : List (List ℕ)) (came : Came Treed) → Treeing files plan document opened came → Treeing others plan document opened came
same-treeing files others plan document same opened came x = record {
  between = x.between;
  before = x.before;
  after = x.after;
  begins = same-loading files others document same x.before x.between x.begins;
  goes_on = x.goes_on;
  in_order = x.in_order;
}

-- includes with a fault have no tree
no-tree : (k : IncludeKind) (name : List ℕ) (T : Table) → goes T ≡ at_include k name → ⊥
no-tree kind.Missing name T is = cc
no-tree kind.Failed name T is = cc
no-tree kind.TooLarge name T is = cc
no-tree (kind.Doc fault) name T is = cc
no-tree _ name T is = cc

-- a plan that goes on is that of the schema
compiled-so : (T : Table) (flat : FlatSchema) (phase : List ℕ) (plan : Plan) (r : Result Plan SchemaFault) → compiled flat phase r → goes plan ≡ planned T r → compiled flat phase (Ok plan)
compiled-so T flat phase plan (Ok found) holds is = subst (λ (p : Plan). compiled flat phase (Ok p)) (sym (goes-same plan found is)) holds
compiled-so T flat phase plan (Err fault) holds is = absurd (let clash : goes plan ≡ halts (refused_rule T fault) = is in cc)

module _ (trees : DocumentsHaveTrees) (inclusion : OneInclusion) (made : ScopedTreesAreMade) (documents : ExpansionsAreDocuments) (again : ExpansionIsAcceptedAgain)
    (no_fault : FlatTextsHaveNoFault) (no_places : PlansNeedNoPlaces) where
  -- a named schema that is expanded, as its tree with the includes replaced
  record SchemaTree (files : Files) (schema : List ℕ) : Type 0 where
    tree : Table
    opened : List (List ℕ)
    including : Including files schema opened (Ok tree)
    accepted : IsAccepted tree

  including-so : (files : Files) (schema : List ℕ) (opened : List (List ℕ)) (T : Table) → Inclusion files schema opened (goes T) → Including files schema opened (Ok T)
  including-so files schema opened T x = by x.0 x.1 x.2
    where
      by : (r : Result Table IncludeFault) → Including files schema opened r → goes T ≡ included r → Including files schema opened (Ok T)
      by (Ok U) including is = subst (λ (X : Table). Including files schema opened (Ok X)) (sym (goes-same T U is)) including
      by (Err fault) including is = absurd (no-tree fault.kind fault.name T is)

  expanded-so : (files : Files) (schema : List ℕ) (opened : List (List ℕ)) (flat : FlatSchema) → Expanding files schema opened (goes flat) → (e : SchemaTree files schema) × (flat ≡ flat_of e.tree)
  expanded-so files schema opened flat x =
      let found = through (Inclusion files schema) Reading opened flat x in
      let T : Table = found.value in
      let included = including-so files schema found.before T found.begins in
      let read : Read T flat = read-so T found.after flat found.goes_on in (
        record {
          tree = T;
          opened = found.before;
          including = included;
          accepted = record {
            schema = record {
              well_formed = included.document.well_formed;
              made = included-made made files schema found.before T included;
              numbered = included.document.numbered;
              unbroken = read.unbroken;
            };
            fits = read.fits;
          };
        },
        read.is,
      )

  -- the document of such a schema, in a file of its own, is expanded to the same but for places
  again-so : (files others : Files) (schema name : List ℕ) (e : SchemaTree files schema) → get others name ≡ Some (text_of (flat_events (flat_of e.tree))) →
      (a : SchemaTree others name) × (placeless_flat (flat_of a.tree) ≡ placeless_flat (flat_of e.tree))
  unfolding flat_of
  again-so files others schema name e held =
      let flat : FlatSchema = flat_of e.tree in
      let bytes : List ℕ = text_of (flat_events flat) in
      let gives : Gives Document bytes (flat_events flat) = documents e.tree e.accepted.schema.made in
      let little : is_small flat ≡ true = small (raw_schema e.tree) e.accepted.fits in
      let sound : doc_fault bytes ≡ None = no_fault flat gives little in
      let found = trees bytes sound (short flat little) in
      let U : Table = found.0 in
      let scoped : Scoped (flat_events flat) U = subst (λ events. Scoped events U) gives.events_are found.1 in
      let stays : StaysAccepted e.tree U = again e.tree U e.accepted scoped in (
        record {
          tree = U;
          opened = name ∷ [];
          including = included-plain others name bytes U held (short flat little) sound found.1 (no-include flat U scoped);
          accepted = stays.accepted;
        },
        stays.same,
      )

  -- a schema that is expanded, and its text
  expansion-so : (files : Files) (schema : List ℕ) (written : Output) → IsWhole (expand schema) files written → (e : SchemaTree files schema) × (written ≡ expanded (flat_of e.tree))
  expansion-so files schema written x =
      let ready = written-so (Then (Expanding files schema) (λ flat. Is (goes (expanded flat)))) x.0 written x.1 in
      let found = through (Expanding files schema) (λ flat. Is (goes (expanded flat))) ready.0 written ready.1 in
      let e = expanded-so files schema found.before found.value found.begins in
      (e.0, goes-same written (expanded found.value) found.goes_on.1 ∙ ap expanded e.1)

  -- the tree of a schema is made ready
  includes : (files : Files) (schema : List ℕ) (e : SchemaTree files schema) → Inclusion files schema e.opened (goes e.tree)
  includes files schema e = (Ok e.tree, e.including, refl)

  pub expansions-stay : ExpansionsStay
  unfolding flat_of
  expansions-stay files others schema name written x held =
      let e = expansion-so files schema written x in
      let a = again-so files others schema name e.0 (held ∙ ap (λ (output : Output). Some output.out) e.1) in
      let U : Table = a.0.tree in
      let is : written ≡ expanded (flat_of U) = e.1 ∙ sym (same-document (flat_of U) (flat_of e.0.tree) a.1) in (
        a.0.opened,
        write-so (Then (Expanding others name) (λ flat. Is (goes (expanded flat)))) a.0.opened written
            (goes-on (Expanding others name) (λ flat. Is (goes (expanded flat))) a.0.opened (flat_of U) (goes written)
            (goes-on (Inclusion others name) Reading a.0.opened U (goes (flat_of U)) (includes others name a.0) (reads U a.0.accepted.schema.unbroken a.0.accepted.fits))
            (refl, ap (λ (output : Output). goes output) is)),
      )

  -- the plans of a schema are those of another that is expanded to the same but for places
  plans-alike : (files others : Files) (schema name phase : List ℕ) (opened : List (List ℕ)) (plan : Plan) (e : SchemaTree files schema) (a : SchemaTree others name) →
      placeless_flat (flat_of e.tree) ≡ placeless_flat (flat_of a.tree) → Planning files phase schema opened (goes plan) → Planning others phase name a.opened (goes plan)
  unfolding flat_of
  plans-alike files others schema name phase opened plan e a same x =
      let found = through (Inclusion files schema) (λ T. Then (Reading T) (Compiling T phase)) opened plan x in
      let T : Table = found.value in
      let compiling = through (Reading T) (Compiling T phase) found.after plan found.goes_on in
      let tree_is : T ≡ e.tree = tree-same T e.tree (inclusion files schema found.before e.opened (Ok T) (Ok e.tree) (including-so files schema found.before T found.begins) e.including (λ h. h) (λ h. h)).0 in
      let flat_is : compiling.value ≡ flat_of e.tree = (read-so T compiling.before compiling.value compiling.begins).is ∙ ap flat_of tree_is in
      goes-on (Inclusion others name) (λ U. Then (Reading U) (Compiling U phase)) a.opened a.tree (goes plan) (includes others name a)
      (goes-on (Reading a.tree) (Compiling a.tree phase) [] (flat_of a.tree) (goes plan) (reads a.tree a.accepted.schema.unbroken a.accepted.fits)
      (refl, Ok plan, no_places compiling.value (flat_of a.tree) phase plan (ap placeless_flat flat_is ∙ same) (compiled-so T compiling.value phase plan compiling.goes_on.1 compiling.goes_on.2 compiling.goes_on.3), refl))

  -- and so are the states of documents
  validates-alike : (files others : Files) (schema name phase document : List ℕ) (output : Output) → ((opened : List (List ℕ)) (plan : Plan) → Planning files phase schema opened (goes plan) → (again : List (List ℕ)) × Planning others phase name again (goes plan)) →
      get others document ≡ get files document → IsWhole (validate phase schema document) files output → IsWhole (validate phase name document) others output
  validates-alike files others schema name phase document output planned same x =
      let found = through (Opening files phase schema document) (λ at. Any (λ o. o ≡ state at.plan at.tree)) x.0 output x.1 in
      let treed = through (Planning files phase schema) (λ plan. Treeing files plan document) found.before found.value found.begins in
      let plan : Plan = treed.value in
      let other = planned treed.before plan treed.begins in (
        (other.0 ++ treed.after) ++ found.after,
        goes-first (Opening others phase name document) (λ at. Any (λ o. o ≡ state at.plan at.tree)) (other.0 ++ treed.after) found.after found.value (goes output)
            (goes-first (Planning others phase name) (λ p. Treeing others p document) other.0 treed.after plan (goes found.value) other.1
            (same-treeing files others plan document same treed.after (goes found.value) treed.goes_on))
            found.goes_on,
      )

  pub validate-alike : ExpansionsValidateAlike
  validate-alike files others schema name phase document written output x held same =
      let e = expansion-so files schema written x in
      let a = again-so files others schema name e.0 (held ∙ ap (λ (output : Output). Some output.out) e.1) in (
        validates-alike files others schema name phase document output (λ opened plan planned. (a.0.opened, plans-alike files others schema name phase opened plan e.0 a.0 (sym a.1) planned)) same,
        validates-alike others files name schema phase document output (λ opened plan planned. (e.0.opened, plans-alike others files name schema phase opened plan a.0 e.0 a.1 planned)) (sym same),
      )
