-- An expansion, read again.
use Rattle.std.proofs.Common.{◌≡◌, None, sym, ap, ap₂, ◌∙◌, subst}
use Rattle.std.specs.Option.{option_or}
use Rattle.doc_tree.specs.Table.{Table}
use Rattle.name_scopes.specs.ScopedTree.{Scoped}
use Rattle.sch_model.specs.Placeless.{placeless_flat, placeless_schema}
use Rattle.sch_model.specs.declared.raw.RawSchema.{RawSchema}
use Rattle.sch_rules.specs.RawSchema.{raw_schema}
use Rattle.sch_references.specs.Places.{first_among}
use Rattle.sch_references.specs.References.{reference_places}
use Rattle.sch_expansion.specs.Flat.{flat_schema}
use Rattle.sch_sizes.specs.Sizes.{size_places, size_rules}
use Rattle.sch_abstract.specs.FirstFault.{first_fault}
use Rattle.sch_flat.specs.FlatDocument.{flat_events}
use Rattle.sch_flat_laws.specs.Expansion.{raw_of}
use Rattle.sch_flat_laws.specs.Again.{ExpansionStays}
use Rattle.sch_flat_laws.specs.ReadBack.{FlatSchemasAreReadBack}
use Rattle.sch_flat_laws.specs.Accepted.{FlatDocumentsBreakNoRule, IsAccepted, ReadingsAreReadable, ScopedTreesAreMade, StaysAccepted}
use Rattle.sch_flat_laws.proofs.Rules.Forgotten.{sizes_same}
use Rattle.sch_flat_laws.proofs.Rules.Referring.{NoneGiven, Referred, none_among, none_given, referred_forgets, referred_none, referred_recalls, referred_still}
use Rattle.sch_flat_laws.proofs.Rules.Unbroken.{or_none}

-- no reference and no size is refused that wasn't before
references-again : (before after : RawSchema) → first_among (reference_places before) ≡ None → placeless_schema after ≡ placeless_schema (raw_of (flat_schema before)) →
    first_among (reference_places after) ≡ None
references-again before after none same =
    referred_none after
    (referred_recalls after (subst Referred (sym same) (referred_forgets (raw_of (flat_schema before)) (referred_still before none))))

sizes-again : (before after : RawSchema) → first_among (size_places before) ≡ None → placeless_flat (flat_schema after) ≡ placeless_flat (flat_schema before) →
    first_among (size_places after) ≡ None
sizes-again before after none flat =
    let rules : size_rules (flat_schema before) ≡ size_rules (flat_schema after) =
    sym (sizes_same (flat_schema before)) ∙ ap size_rules (sym flat) ∙ sizes_same (flat_schema after) in
    none_among (size_places after) (subst NoneGiven rules (none_given (size_places before) none).0, tt)

fits-again : (before after : RawSchema) → first_fault before ≡ None →
    placeless_schema after ≡ placeless_schema (raw_of (flat_schema before)) → placeless_flat (flat_schema after) ≡ placeless_flat (flat_schema before) →
    first_fault after ≡ None
fits-again before after fits same flat =
    let parts = or_none (first_among (reference_places before)) (first_among (size_places before)) fits in
    ap₂ option_or (references-again before after parts.0 same) (sizes-again before after parts.1 flat)

pub accepted_again : ScopedTreesAreMade → FlatSchemasAreReadBack → ExpansionStays → FlatDocumentsBreakNoRule → ReadingsAreReadable →
    (T U : Table) → IsAccepted T → Scoped (flat_events (flat_schema (raw_schema T))) U → StaysAccepted T U
accepted_again made back again no_rule readable T U accepted scoped =
    let flat = flat_schema (raw_schema T) in
    let good = readable T accepted.schema in
    let same = back flat U scoped good.0 in
    let is = again flat U scoped good.0 in
    record {
      accepted = record {
        schema = record {
          well_formed = scoped.well_formed;
          made = made U scoped.in_scope;
          numbered = scoped.numbered;
          unbroken = no_rule flat U scoped good.0 good.1;
        };
        fits = fits-again (raw_schema T) (raw_schema U) accepted.fits same is;
      };
      same = is;
    }
