-- Units in two trees, under given lets: each part of a unit is the same in both where what it reads was kept.
use Rattle.std.proofs.Common.{ℕ, ◌+◌, Bool, cond, List, [], ◌∷◌, ◌++◌, length, Option, None, Some, Ok, refl, ap, subst}
use Rattle.std.specs.Prelude.{All, slice_get, slice_index_or}
use Rattle.std.proofs.lemmas.List.Elements.{All-head, All-tail}
use Rattle.std.specs.Option.{option_or, option_to_list}
use Rattle.doc_tree.specs.QNames.{written_in}
use Rattle.doc_tree.specs.cell.Cell.{Cell}
use Rattle.doc_tree.specs.Table.{Table}
use Rattle.doc_edit_laws.specs.Agreement.{AllStay, Stays}
use Rattle.xp_typed_tree.specs.TypedTree.{TypedTree}
use Rattle.xp_outcome.specs.Evaluation.{Evaluation, bind, done, gather, given, visit}
use Rattle.xp_outcome.specs.Slots.{with_slot}
use Rattle.xp_values.specs.Conversions.{to_truth}
use Rattle.xp_values.specs.Texts.{concat}
use Rattle.xp_values.specs.declared.values.EvalFault.{EvalFault}
use Rattle.xp_meaning.specs.Conversions.{nodes_of, text_in}
use Rattle.xp_meaning.specs.Evaluation.{Lets, meaning}
use Rattle.xp_locality_laws.specs.Locality.{AllKept, Changed, ExpressionsAreLocal}
use Rattle.xp_locality_laws.proofs.AxisLemmas.{root-stays}
use Rattle.xp_locality_laws.proofs.StandLemmas.{Same, no_nodes, same-bind, same-cond, same-done, same-given, same-made, same-visit}
use Rattle.xp_locality_laws.proofs.NameLemmas.{first-stays, same-of_name}
use Rattle.xp_locality_laws.proofs.ValueLemmas.{same-text_in}
use Rattle.xslt_locality_laws.specs.Matching.{matching}
use Rattle.xslt_locality_laws.specs.Locality.{PatternsAreLocal}
use Rattle.sch_compiled.specs.declared.findings.Finding.{Finding}
use Rattle.sch_compiled.specs.declared.findings.Outcome.TheVariants.{Fired, NoRule}
use Rattle.sch_compiled.specs.declared.parts.PlanAssert.{PlanAssert}
use Rattle.sch_compiled.specs.declared.parts.PlanDiagnostic.{PlanDiagnostic}
use Rattle.sch_compiled.specs.declared.parts.PlanLet.{PlanLet}
use Rattle.sch_compiled.specs.declared.parts.PlanPart.{PlanPart}
use Rattle.sch_compiled.specs.declared.parts.PlanPart.TheVariants.{Chars, Name, ValueOf}
use Rattle.sch_compiled.specs.declared.parts.PlanRule.{PlanRule}
use Rattle.sch_compiled.specs.Plan.{rules_of}
use Rattle.sch_units.specs.Firing.{all_asserted, asserted, fired_by, first_rule, found, is_found, placed_at}
use Rattle.sch_units.specs.Messages.{alone, diagnostic_texts, joined, message, name_text, part_text, written_name}
use Rattle.sch_units.specs.Units.{keeping}
use Rattle.sch_units.proofs.FindingParts.{finding_of, with_message, with_properties, with_texts}
use Rattle.sch_units.proofs.KeptReads.{keeping-reads}
use Rattle.sch_locality_laws.specs.Locality.{GivenLetsAreLocal, RuleTyped}
use Rattle.sch_locality_laws.proofs.KeptLemmas.{Fits, all-fit, fits_put, kept_below}

module _ (T U : Table) (touched : Cell → Bool) (P Q : Lets) where
  -- what is gathered from items without nodes
  same-all : {X A B : Type 0} (act then : ℕ → X → Evaluation EvalFault A) (piece : ℕ → X → A → List B) →
      ((i : ℕ) (x : X) → Same T U touched P Q no_nodes (act i x) (then i x)) → (i : ℕ) (xs : List X) →
      Same T U touched P Q no_nodes (gather act piece i xs) (gather then piece i xs)
  same-all act then piece each i [] = same-done T U touched P Q no_nodes [] tt
  same-all act then piece each i (x ∷ xs) =
      same-bind T U touched P Q no_nodes no_nodes (act i x) (then i x)
      (λ v. bind (gather act piece (i + 1) xs) (λ rest. done (piece i x v ++ rest))) (λ v. bind (gather then piece (i + 1) xs) (λ rest. done (piece i x v ++ rest)))
      (each i x)
      (λ v _. same-made T U touched P Q no_nodes no_nodes (gather act piece (i + 1) xs) (gather then piece (i + 1) xs) (λ rest. piece i x v ++ rest) (λ rest. piece i x v ++ rest)
      (same-all act then piece each (i + 1) xs) (λ rest _. (refl, tt)))

module _ (T U : Table) (touched : Cell → Bool) (changed : Changed T U touched) (expressions : ExpressionsAreLocal) where
  -- an expression at a node, under lets that fit those of the unit
  module _ (P Q : Lets) (n : ℕ) (here : Stays T U n) where
    module _ (L M : Lets) (fits : Fits T U touched P Q L M) where
      value-same : (t : TypedTree) → Same T U touched P Q nodes_of (meaning T L t (alone n)) (meaning U M t (alone n))
      value-same t = record {
        go = λ kept. expressions T U touched L M t (alone n) changed (record { node = here; current = here })
            (all-fit T U touched P Q L M fits (meaning T L t (alone n)).reads kept);
      }

      -- the name of the first of some nodes, which is read
      first_name-same : (ns : List ℕ) → AllStay T U ns →
          Same T U touched P Q no_nodes (written_name T (slice_get ns 0)) (written_name U (slice_get ns 0))
      first_name-same ns stay =
          same-of_name T U touched P Q changed no_nodes (slice_get ns 0) (λ name. written_in name)
          (first-stays T U touched P Q changed ns stay) (λ _. tt)

      name-same : (o : Option TypedTree) → Same T U touched P Q no_nodes (name_text T L n o) (name_text U M n o)
      name-same None = first_name-same (n ∷ []) (here, tt)
      name-same (Some t) =
          same-bind T U touched P Q nodes_of no_nodes (meaning T L t (alone n)) (meaning U M t (alone n))
          (λ v. written_name T (slice_get (nodes_of v) 0)) (λ v. written_name U (slice_get (nodes_of v) 0))
          (value-same t) (λ v stay. first_name-same (nodes_of v) stay)

      part-same : (part : PlanPart) → Same T U touched P Q no_nodes (part_text T L n part) (part_text U M n part)
      part-same (Chars characters) = same-done T U touched P Q no_nodes characters tt
      part-same (ValueOf t) =
          same-bind T U touched P Q nodes_of no_nodes (meaning T L t (alone n)) (meaning U M t (alone n)) (λ v. text_in T v) (λ v. text_in U v)
          (value-same t) (λ v stay. same-text_in T U touched P Q changed v stay)
      part-same (Name o) = name-same o

      joined-same : (text : List ℕ) (parts : List PlanPart) → Same T U touched P Q no_nodes (joined T L n text parts) (joined U M n text parts)
      joined-same text [] = same-done T U touched P Q no_nodes text tt
      joined-same text (part ∷ parts) =
          same-bind T U touched P Q no_nodes no_nodes (part_text T L n part) (part_text U M n part)
          (λ s. bind (given (concat text s)) (λ more. joined T L n more parts)) (λ s. bind (given (concat text s)) (λ more. joined U M n more parts))
          (part-same part)
          (λ s _. same-bind T U touched P Q no_nodes no_nodes (given (concat text s)) (given (concat text s)) (λ more. joined T L n more parts) (λ more. joined U M n more parts)
          (same-given T U touched P Q no_nodes (concat text s) (λ v _. tt)) (λ more _. joined-same more parts))

      texts-same : (diagnostics : List PlanDiagnostic) → Same T U touched P Q no_nodes (diagnostic_texts T L n diagnostics) (diagnostic_texts U M n diagnostics)
      texts-same diagnostics =
          same-all T U touched P Q (λ _ d. message T L n d.message) (λ _ d. message U M n d.message) (λ _ _ text. text ∷ []) (λ _ d. joined-same [] d.message) 0 diagnostics

      place-same : (o : Option TypedTree) → Same T U touched P Q no_nodes (placed_at T L n o) (placed_at U M n o)
      place-same None = same-done T U touched P Q no_nodes n tt
      place-same (Some t) =
          same-made T U touched P Q nodes_of no_nodes (meaning T L t (alone n)) (meaning U M t (alone n))
          (λ v. slice_index_or (nodes_of v) 0 n) (λ v. slice_index_or (nodes_of v) 0 n) (value-same t) (λ v _. (refl, tt))

      found-same : (subject : Option TypedTree) (i : ℕ) (a : PlanAssert) → Same T U touched P Q no_nodes (found T L n subject i a) (found U M n subject i a)
      found-same subject i a =
          same-bind T U touched P Q no_nodes no_nodes (placed_at T L n (option_or a.subject subject)) (placed_at U M n (option_or a.subject subject))
          (with_texts T L n i a) (with_texts U M n i a) (place-same (option_or a.subject subject))
          (λ place _. same-bind T U touched P Q no_nodes no_nodes (diagnostic_texts T L n a.diagnostics) (diagnostic_texts U M n a.diagnostics)
          (with_properties T L n i a place) (with_properties U M n i a place) (texts-same a.diagnostics)
          (λ texts _. same-bind T U touched P Q no_nodes no_nodes (diagnostic_texts T L n a.properties) (diagnostic_texts U M n a.properties)
          (with_message T L n i a place texts) (with_message U M n i a place texts) (texts-same a.properties)
          (λ properties _. same-made T U touched P Q {B = Finding} no_nodes no_nodes (message T L n a.message) (message U M n a.message)
          (finding_of i place texts properties) (finding_of i place texts properties) (joined-same [] a.message) (λ text _. (refl, tt)))))

      asserted-same : (subject : Option TypedTree) (i : ℕ) (a : PlanAssert) → Same T U touched P Q no_nodes (asserted T L n subject i a) (asserted U M n subject i a)
      asserted-same subject i a =
          same-bind T U touched P Q nodes_of no_nodes (meaning T L a.test (alone n)) (meaning U M a.test (alone n))
          (λ v. cond (is_found a.report (to_truth v)) (bind (found T L n subject i a) (λ finding. done (Some finding))) (done None))
          (λ v. cond (is_found a.report (to_truth v)) (bind (found U M n subject i a) (λ finding. done (Some finding))) (done None))
          (value-same a.test)
          (λ v _. same-cond T U touched P Q no_nodes (is_found a.report (to_truth v))
          (bind (found T L n subject i a) (λ finding. done (Some finding))) (done None) (bind (found U M n subject i a) (λ finding. done (Some finding))) (done None)
          (same-made T U touched P Q no_nodes no_nodes (found T L n subject i a) (found U M n subject i a) (λ finding. Some finding) (λ finding. Some finding) (found-same subject i a) (λ finding _. (refl, tt)))
          (same-done T U touched P Q no_nodes None tt))

      assertions-same : (subject : Option TypedTree) (assertions : List PlanAssert) → Same T U touched P Q no_nodes (all_asserted T L n subject assertions) (all_asserted U M n subject assertions)
      assertions-same subject assertions =
          same-all T U touched P Q (λ i a. asserted T L n subject i a) (λ i a. asserted U M n subject i a) (λ _ _ finding. option_to_list finding) (asserted-same subject) 0 assertions

    -- the value of each let of a rule stands in the same slot in both
    fired-same : (subject : Option TypedTree) (lets : List PlanLet) (assertions : List PlanAssert) (L M : Lets) → Fits T U touched P Q L M → (slot : ℕ) →
        Same T U touched P Q no_nodes (fired_by T L n slot subject lets assertions) (fired_by U M n slot subject lets assertions)
    fired-same subject [] assertions L M fits slot = assertions-same L M fits subject assertions
    fired-same subject (t ∷ lets) assertions L M fits slot =
        same-bind T U touched P Q nodes_of no_nodes (meaning T L t.expr (alone n)) (meaning U M t.expr (alone n))
        (λ v. fired_by T (with_slot L slot (Ok v)) n (slot + 1) subject lets assertions) (λ v. fired_by U (with_slot M slot (Ok v)) n (slot + 1) subject lets assertions)
        (value-same L M fits t.expr)
        (λ v stay. fired-same subject lets assertions (with_slot L slot (Ok v)) (with_slot M slot (Ok v)) (fits_put T U touched P Q L M slot v stay fits) (slot + 1))

    rules-same : PatternsAreLocal → (count r : ℕ) (rules : List PlanRule) → All RuleTyped rules →
        Same T U touched P Q no_nodes (first_rule T count P n r rules) (first_rule U count Q n r rules)
    rules-same patterns count r [] typed = same-done T U touched P Q no_nodes NoRule tt
    rules-same patterns count r (rule ∷ rules) typed =
        same-bind T U touched P Q no_nodes no_nodes (matching T P rule.context n) (matching U Q rule.context n)
        (λ matches. cond matches (bind (fired_by T P n count rule.subject rule.lets rule.assertions) (λ findings. done (Fired r findings))) (first_rule T count P n (r + 1) rules))
        (λ matches. cond matches (bind (fired_by U Q n count rule.subject rule.lets rule.assertions) (λ findings. done (Fired r findings))) (first_rule U count Q n (r + 1) rules))
        (record { go = λ kept. patterns T U touched P Q rule.context n changed (All-head RuleTyped rule rules typed) here kept })
        (λ matches _. same-cond T U touched P Q no_nodes matches
        (bind (fired_by T P n count rule.subject rule.lets rule.assertions) (λ findings. done (Fired r findings))) (first_rule T count P n (r + 1) rules)
        (bind (fired_by U Q n count rule.subject rule.lets rule.assertions) (λ findings. done (Fired r findings))) (first_rule U count Q n (r + 1) rules)
        (same-made T U touched P Q no_nodes no_nodes (fired_by T P n count rule.subject rule.lets rule.assertions) (fired_by U Q n count rule.subject rule.lets rule.assertions)
        (λ findings. Fired r findings) (λ findings. Fired r findings) (fired-same rule.subject rule.lets rule.assertions P Q (λ x k. k) count) (λ findings _. (refl, tt)))
        (rules-same patterns count (r + 1) rules (All-tail RuleTyped rule rules typed)))

pub given_lets_are_local : ExpressionsAreLocal → PatternsAreLocal → GivenLetsAreLocal
given_lets_are_local expressions patterns = record {
  lets = λ T U touched L M expr changed kept.
      (same-visit T U touched L M nodes_of (meaning T L expr (alone 0)) (meaning U M expr (alone 0))
      (value-same T U touched changed expressions L M 0 (root-stays T U touched L M changed) L M (λ x k. k) expr)).go kept;
  pairs = λ plan T U touched L M p n changed typed here few few_after kept.
      let count = length plan.lets in
      let before = visit (first_rule T count L n 0 (rules_of plan p)) in
      let after = visit (first_rule U count M n 0 (rules_of plan p)) in
      let same = same-visit T U touched L M no_nodes (first_rule T count L n 0 (rules_of plan p)) (first_rule U count M n 0 (rules_of plan p))
      (rules-same T U touched changed expressions L M n here patterns count 0 (rules_of plan p) typed) in
      ap (keeping count) (same.go (kept_below T U touched L M count few few_after before.reads (subst (AllKept T U touched L M) (keeping-reads count before) kept))).same;
}
