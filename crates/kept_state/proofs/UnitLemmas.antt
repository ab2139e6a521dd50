-- Units whose reads were kept, under given lets: each gives and reads the same in both trees.
use Rattle.std.proofs.Common.{◌≡◌, ◌∙◌, ℕ, ◌≤◌, Bool, true, false, List, [], ◌∷◌, length, Option, None, Some, refl, sym, ap}
use Rattle.std.specs.Prelude.{slice_get}
use Rattle.std.specs.FinSet.{contains}
use Rattle.std.specs.List.{list_any, AllByRecursion as Each}
use Rattle.std.proofs.lemmas.Bool.{and_from, or_parts}
use Rattle.doc_tree.specs.cell.Cell.{Cell}
use Rattle.doc_tree.specs.Table.{Table, is_live}
use Rattle.doc_edit_laws.specs.Agreement.{AllStay}
use Rattle.xp_outcome.specs.Evaluation.{Evaluation, Read, cell, names_along, variable}
use Rattle.xp_outcome.specs.Recorded.{has_read}
use Rattle.xp_outcome.specs.Slots.{in_slot}
use Rattle.xp_outcome.proofs.Sets.{cell_cmp_antisymmetric, cell_cmp_total, names_cmp_antisymmetric, names_cmp_total}
use Rattle.xp_values.specs.declared.values.EvalFault.{EvalFault}
use Rattle.xp_values.specs.declared.values.Value.{Value}
use Rattle.xp_meaning.specs.Conversions.{nodes_of}
use Rattle.xp_meaning.specs.Evaluation.{Lets}
use Rattle.xp_locality_laws.specs.Locality.{AllKept, Changed, Kept as ReadKept}
use Rattle.sch_compiled.specs.declared.findings.Outcome.{Outcome}
use Rattle.sch_compiled.specs.declared.parts.LetInForce.{LetInForce}
use Rattle.sch_compiled.specs.declared.plan.Plan.{Plan}
use Rattle.sch_units.specs.Units.{unit_pair}
use Rattle.sch_units.specs.Validity.{outcome_of}
use Rattle.edit_costs.specs.Locality.{GivenLetsAreLocal}
use Rattle.edit_costs.specs.Units.{ValidationUnit, in_force, under, let_reads}
use Rattle.cover_laws.specs.Covering.{has_touched, has_touched_name, holds_touched, names_at}
use Rattle.xp_outcome.proofs.SetTests.{none_in}
use Rattle.kept_state.specs.Kept.{Gave, IsTyped, IsUnit, Kept, LetsPass, let_gives, noted, reads_under}
use Rattle.kept_state.specs.Steps.{SameGiven}
use Rattle.kept_state.proofs.ReadLemmas.{each_of_set}

-- Nodes

pub each_both : {X : Type 0} (P Q R : X → Type 0) → ((x : X) → P x → Q x → R x) → (xs : List X) → Each P xs → Each Q xs → Each R xs
each_both P Q R gives [] ps qs = tt
each_both P Q R gives (x ∷ xs) ps qs = (gives x ps.0 qs.0, each_both P Q R gives xs ps.1 qs.1)

module _ (T U : Table) where
  stay_all : (ns : List ℕ) → Each (λ n. is_live T n ≡ true) ns → Each (λ n. is_live U n ≡ true) ns → AllStay T U ns
  stay_all [] old new = tt
  stay_all (n ∷ ns) old new = (and_from (is_live T n) (is_live U n) old.0 new.0, stay_all ns old.1 new.1)

  -- a let with the same outcome under both tables was kept, where its nodes live in both trees
  pub let_kept : (touched : Cell → Bool) (L M : Lets) (slot : ℕ) → in_slot L slot ≡ in_slot M slot → LetsPass (λ n. is_live T n ≡ true) L slot →
      LetsPass (λ n. is_live U n ≡ true) L slot → ReadKept T U touched L M (variable slot)
  let_kept touched L M slot same old new = (same, λ v is. stay_all (nodes_of v) (old v is) (new v is))

  module _ (touched : Cell → Bool) (L M : Lets) where
    all_kept : (xs : List Read) → Each (ReadKept T U touched L M) xs → AllKept T U touched L M xs
    all_kept [] each = tt
    all_kept (x ∷ xs) each = (each.0, all_kept xs each.1)

    -- where nothing that was read was touched, and the lets were kept, all was
    pub reads_kept : (xs : List Read) → holds_touched T touched (noted xs) ≡ false →
        ((slot : ℕ) → contains (noted xs).lets slot ≡ true → ReadKept T U touched L M (variable slot)) → AllKept T U touched L M xs
    reads_kept xs untouched lets = all_kept xs (each_of_set (ReadKept T U touched L M) xs each)
      where
        parts : (has_touched touched (noted xs).cells ≡ false) × (has_touched_name T touched (noted xs).names ≡ false)
        parts = or_parts (has_touched touched (noted xs).cells) (has_touched_name T touched (noted xs).names) untouched

        each : (r : Read) → has_read (noted xs) r ≡ true → ReadKept T U touched L M r
        each (cell c) there = none_in cell_cmp_total cell_cmp_antisymmetric touched (noted xs).cells c parts.0 there
        each (names_along axis n) there =
            none_in names_cmp_total names_cmp_antisymmetric (λ a. list_any touched (names_at T a)) (noted xs).names (record { axis = axis; node = n })
            parts.1 there
        each (variable slot) there = lets slot there

-- Units

-- a unit gives and reads the same in both trees
abbrev pub SameUnit : Plan → Table → Table → Lets → Lets → ValidationUnit → Type 0
SameUnit plan T U L M (in_force slot) =
    (let_gives U M (slice_get plan.lets slot) ≡ let_gives T L (slice_get plan.lets slot))
    × (let_reads U M (slice_get plan.lets slot) ≡ let_reads T L (slice_get plan.lets slot))
SameUnit plan T U L M (under p n) = unit_pair plan U M p n ≡ unit_pair plan T L p n

pub same_self : (plan : Plan) (T : Table) (L : Lets) (unit : ValidationUnit) → SameUnit plan T T L L unit
same_self plan T L (in_force slot) = (refl, refl)
same_self plan T L (under p n) = refl

pub same_reads : (plan : Plan) (T U : Table) (L M : Lets) (unit : ValidationUnit) → SameUnit plan T U L M unit → reads_under plan U M unit ≡ reads_under plan T L unit
same_reads plan T U L M (in_force slot) same = same.1
same_reads plan T U L M (under p n) same = ap (λ (m : Evaluation EvalFault Outcome). m.reads) same

-- a kept outcome stands where the unit gives the same
pub same_gave : (plan : Plan) (T U : Table) (old new : Kept) (unit : ValidationUnit) → SameUnit plan T U old.lets new.lets unit → SameGiven old new unit →
    Gave plan T old unit → Gave plan U new unit
same_gave plan T U old new (in_force slot) same given gave = given ∙ gave ∙ sym same.0
same_gave plan T U old new (under p n) same given gave = given ∙ gave ∙ ap (λ (m : Evaluation EvalFault Outcome). Some (outcome_of m.answer)) (sym same)

module _ (local : GivenLetsAreLocal) (plan : Plan) (T U : Table) (touched : Cell → Bool) (changed : Changed T U touched) (L M : Lets) where
  let_same : (o : Option LetInForce) → AllKept T U touched L M (let_reads T L o) → (let_gives U M o ≡ let_gives T L o) × (let_reads U M o ≡ let_reads T L o)
  let_same None kept = (refl, refl)
  let_same (Some t) kept =
      let same = (local.lets T U touched L M t.expr changed kept).same in
      (ap (λ (m : Evaluation EvalFault Value). Some m.answer) same, ap (λ (m : Evaluation EvalFault Value). m.reads) same)

  -- a unit of both trees is the same in both where what it reads was kept
  pub unit_same : (unit : ValidationUnit) → length L ≤ length plan.lets → length M ≤ length plan.lets → IsUnit plan T unit → IsUnit plan U unit → IsTyped plan unit →
      holds_touched T touched (noted (reads_under plan T L unit)) ≡ false →
      ((slot : ℕ) → contains (noted (reads_under plan T L unit)).lets slot ≡ true → ReadKept T U touched L M (variable slot)) → SameUnit plan T U L M unit
  unit_same (in_force slot) few few_after old new typed untouched lets =
      let_same (slice_get plan.lets slot) (reads_kept T U touched L M (let_reads T L (slice_get plan.lets slot)) untouched lets)
  unit_same (under p n) few few_after old new typed untouched lets =
      local.pairs plan T U touched L M p n changed typed (and_from (is_live T n) (is_live U n) old.1 new.1) few few_after
      (reads_kept T U touched L M (unit_pair plan T L p n).reads untouched lets)
