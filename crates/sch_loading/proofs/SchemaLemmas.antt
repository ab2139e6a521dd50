-- The reading of a schema's tree: where it stops and where it goes on.
use Rattle.std.proofs.Common.{◌≡◌, ◌∙◌, ℕ, ◌==◌, Bool, true, false, List, [], ◌∷◌, Option, None, Some, is_some, Result, Ok, Err, inl, inr, refl, sym, ap, subst, if◌then◌else◌, codes}
use Rattle.std.proofs.lemmas.Bool.{eqb-true}
use Rattle.doc_tree.specs.Table.{Table, Facts, entry_at, content_at, kind_at, parent_at, is_live, kind_of}
use Rattle.doc_tree.specs.Walks.{above, ancestors}
use Rattle.doc_tree.specs.kind.Kind.TheVariants.{Root}
use Rattle.doc_tree.specs.Laws.{WellFormed, HasWaysUp}
use Rattle.sch_model.specs.declared.fault.SchemaError.{SchemaError}
use Rattle.sch_model.specs.declared.fault.SchemaError.TheVariants as error
use Rattle.sch_model.specs.declared.fault.SchemaFault.{SchemaFault}
use Rattle.sch_model.specs.declared.flat.FlatSchema.{FlatSchema}
use Rattle.sch_model.specs.declared.raw.RawSchema.{RawSchema}
use Rattle.sch_rules.specs.FirstBroken.{first_broken}
use Rattle.sch_rules.specs.RawSchema.{raw_schema}
use Rattle.sch_abstract.specs.FirstFault.{first_fault}
use Rattle.sch_abstract.specs.FirstFault as abstract
use Rattle.sch_read.specs.Refused.{Refused}
use Rattle.sch_abstract.specs.Flat.{flat_schema}
use Rattle.doc_locations.specs.Locations.{location_of, steps_of, step_by}
use Rattle.sch_compiled.specs.declared.plan.Plan.{Plan}
use Rattle.sch_plan.specs.Compiled.{compiled}
use Rattle.sch_plan.specs.Walk.{Answers, IsAnswered}
use Rattle.sch_stops.specs.Output.{Output, stopped}
use Rattle.sch_stops.specs.Refusals.{schema_rule_line}
use Rattle.sch_loading.specs.Loading.{Compiling, Flattening, Reading, refused_rule}
use Rattle.sch_loading.specs.Stages.{Came, Is, Then, goes, halt_at, halt_if, halts, unread}
use Rattle.sch_stops.specs.declared.refusal.SchemaRefusal.TheVariants.{Rule}
use Rattle.sch_words.specs.declared.status.Status.TheVariants as status
use Rattle.sch_stops.specs.declared.stop.Stop.{Stop}
use Rattle.sch_stops.specs.declared.stop.Stop.TheVariants.{SchemaRefused}
use Rattle.sch_loading.specs.Reads.{EndsAs}
use Rattle.sch_stops.specs.Stops.{ByCause}
use Rattle.sch_loading.specs.inner.Refusing.{IsRefusal}
use Rattle.sch_loading.proofs.PartLemmas.{by_cause, ends_first, ends_on}
use Rattle.sch_loading.proofs.StageLemmas.{halts-first}

-- a refusal of a schema halts a stage that it halts
pub refusal_ends : {A : Type 0} (comes : Came A → Type 0) (T : Table) (e : SchemaError) (stop : Stop) →
    ((fault : SchemaFault) → e ≡ error.Fault fault → comes (halts (refused_rule T fault))) → IsRefusal T e stop →
    ByCause (λ output. comes (halts output)) (λ name. comes (unread name)) ⊥ (Unit {0}) stop
refusal_ends comes T (error.Fault fault) stop so is = by_cause (λ output. output ≡ refused_rule T fault) (λ output. comes (halts output)) (λ _. ⊥) (λ name. comes (unread name)) ⊥ ⊥ (Unit {0}) (Unit {0})
    (λ stop same. subst (λ (output : Output). comes (halts output)) (sym same) (so fault refl)) (λ name no. absurd no) (λ w. w) (λ m. m) stop is
refusal_ends comes T error.Memory stop so is = by_cause (λ _. ⊥) (λ output. comes (halts output)) (λ _. ⊥) (λ name. comes (unread name)) ⊥ ⊥ (Unit {0}) (Unit {0})
    (λ stop no. absurd no) (λ name no. absurd no) (λ w. w) (λ m. m) stop is

-- a number that no node has has no location
dead_entry : (entry : Option Facts) → is_some entry ≡ false → entry ≡ None
dead_entry None dead = refl
dead_entry (Some facts) dead = absurd (cc)

pub no_location : (T : Table) → WellFormed T → HasWaysUp T → (n : ℕ) → is_live T n ≡ false → location_of T n ≡ []
no_location T formed ways n dead = by_root (n == 0) refl
  where
    none : entry_at T n ≡ None
    none = dead_entry (entry_at T n) dead

    up : ancestors T n ≡ []
    up = ways.no_ancestors n (ap parent_at none)

    kind : kind_of T n ≡ None
    kind = ap (λ (entry : Option Facts). kind_at (content_at entry)) none

    by_root : (at_root : Bool) → (n == 0) ≡ at_root → (if at_root then codes "/" else steps_of T (above T n)) ≡ []
    by_root true is = absurd (let same : kind_of T n ≡ kind_of T 0 = ap (kind_of T) (eqb-true n 0 is) in let root : kind_of T 0 ≡ Some Root = formed.root_kind in let gone : kind_of T n ≡ None = kind in let clash : Some Root ≡ None = sym root ∙ sym same ∙ gone in cc)
    by_root false is = ap (λ (ns : List ℕ). steps_of T (n ∷ ns)) up ∙ ap (step_by T n) kind

-- a decided stage goes on, or halts
pub passed : {A : Type 0} (test : Bool) (output : Output) (value : A) → test ≡ false → goes value ≡ halt_if test output value
passed test output value is = ap (λ (b : Bool). halt_if b output value) (sym is)

pub halted_there : {A : Type 0} (test : Bool) (output : Output) (value : A) → test ≡ true → halts output ≡ halt_if test output value
halted_there test output value is = ap (λ (b : Bool). halt_if b output value) (sym is)

unbroken : {A : Type 0} (fault : Option SchemaFault) (output : SchemaFault → Output) (value : A) → fault ≡ None → goes value ≡ halt_at fault output value
unbroken fault output value is = ap (λ (f : Option SchemaFault). halt_at f output value) (sym is)

broken_there : {A : Type 0} (fault : Option SchemaFault) (output : SchemaFault → Output) (value : A) (first : SchemaFault) → fault ≡ Some first → halts (output first) ≡ halt_at fault output value
broken_there fault output value first is = ap (λ (f : Option SchemaFault). halt_at f output value) (sym is)

-- a refusal tells the broken rule with its location
pub refusal_told : (T : Table) (e : SchemaError) (fault : SchemaFault) (location : List ℕ) → e ≡ error.Fault fault → location ≡ location_of T fault.node →
    IsRefusal T e (SchemaRefused (Rule fault location))
refusal_told T e fault location is at = subst (λ (x : SchemaError). IsRefusal T x (SchemaRefused (Rule fault location))) (sym is)
    (ap (λ (l : List ℕ). stopped status.SchemaRefused (schema_rule_line l fault)) at)

-- the reading of a schema's tree halts at the first broken rule
pub halts_at_rule : (T : Table) (e : SchemaError) → Refused T e → (stop : Stop) → IsRefusal T e stop → EndsAs (Reading T []) (λ (flat : FlatSchema). flat) (Err stop)
halts_at_rule T e first stop = refusal_ends (Reading T []) T e stop
    (λ fault is. halts-first (Is (halt_at (first_broken T) (refused_rule T) (raw_schema T))) (Flattening T) [] (refused_rule T fault)
    (refl, broken_there (first_broken T) (refused_rule T) (raw_schema T) fault (subst (Refused T) is first)))

-- and else it comes to the schema as it is read
pub comes_to_raw : (T : Table) (raw : RawSchema) → first_broken T ≡ None → raw ≡ raw_schema T → (result : Result FlatSchema Stop) →
    EndsAs (Flattening T raw []) (λ (flat : FlatSchema). flat) result → EndsAs (Reading T []) (λ (flat : FlatSchema). flat) result
comes_to_raw T raw none is result ends = ends_on (Is (halt_at (first_broken T) (refused_rule T) (raw_schema T))) (Flattening T) [] (raw_schema T) (λ (flat : FlatSchema). flat)
    (refl, unbroken (first_broken T) (refused_rule T) (raw_schema T) none) result (subst (λ (r : RawSchema). EndsAs (Flattening T r []) (λ (flat : FlatSchema). flat) result) is ends)

-- which halts at the first rule broken by references or sizes
pub halts_at_reference : (T : Table) (raw : RawSchema) → (e : SchemaError) → abstract.Refused raw e → (stop : Stop) → IsRefusal T e stop →
    EndsAs (Flattening T raw []) (λ (flat : FlatSchema). flat) (Err stop)
halts_at_reference T raw e first stop = refusal_ends (Flattening T raw []) T e stop
    (λ fault is. (refl, broken_there (first_fault raw) (refused_rule T) (flat_schema raw) fault (subst (abstract.Refused raw) is first)))

-- and else goes on with the schema without abstract parts
pub goes_to_flat : (T : Table) (raw : RawSchema) (flat : FlatSchema) → first_fault raw ≡ None → flat ≡ flat_schema raw → EndsAs (Flattening T raw []) (λ (f : FlatSchema). f) (Ok flat)
goes_to_flat T raw flat none is = (refl, ap (λ (f : FlatSchema). goes f) is ∙ unbroken (first_fault raw) (refused_rule T) (flat_schema raw) none)

-- the plan of a phase, behind the reading of the schema
pub comes_to_plan : (T : Table) (phase : List ℕ) (flat : FlatSchema) → EndsAs (Reading T []) (λ (f : FlatSchema). f) (Ok flat) → (result : Result Plan Stop) →
    EndsAs (Compiling T phase flat []) (λ (plan : Plan). plan) result → EndsAs (Then (Reading T) (Compiling T phase) []) (λ (plan : Plan). plan) result
comes_to_plan T phase flat read = ends_on (Reading T) (Compiling T phase) [] flat (λ (plan : Plan). plan) read

pub no_flat : (T : Table) (phase : List ℕ) (stop : Stop) (result : Result Plan Stop) → result ≡ Err stop → EndsAs (Reading T []) (λ (f : FlatSchema). f) (Err stop) →
    EndsAs (Then (Reading T) (Compiling T phase) []) (λ (plan : Plan). plan) result
no_flat T phase stop result is ends = subst (EndsAs (Then (Reading T) (Compiling T phase) []) (λ (plan : Plan). plan)) (sym is) (ends_first (Reading T) (Compiling T phase) [] stop ends)

pub goes_to_plan : (T : Table) (phase : List ℕ) (flat : FlatSchema) (plan : Plan) → Answers (compiled flat phase) (Ok plan) → EndsAs (Compiling T phase flat []) (λ (p : Plan). p) (Ok plan)
goes_to_plan T phase flat plan answers = (refl, Ok plan, answers.given, refl)

pub halts_at_plan : (T : Table) (phase : List ℕ) (flat : FlatSchema) (e : SchemaError) → Answers {A = Plan} (compiled flat phase) (Err e) → (stop : Stop) → IsRefusal T e stop →
    EndsAs (Compiling T phase flat []) (λ (p : Plan). p) (Err stop)
halts_at_plan T phase flat e answers stop = refusal_ends (Compiling T phase flat []) T e stop (λ fault is.
    let given : IsAnswered {A = Plan} (compiled flat phase) (Err (error.Fault fault)) = subst (λ (x : SchemaError). IsAnswered {A = Plan} (compiled flat phase) (Err x)) is answers.given in
    (refl, Err fault, given, refl))
