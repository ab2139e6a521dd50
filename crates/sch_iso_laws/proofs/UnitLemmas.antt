-- Units where the nodes of a tree are renumbered: each part of a unit is the same but for numbers.
use Rattle.std.proofs.Common.{◌≡◌, ℕ, ◌+◌, Bool, cond, List, [], ◌∷◌, ◌++◌, length, Result, Ok, Err, Option, None, Some, refl, sym, ap, ◌∙◌}
use Rattle.std.specs.Prelude.{map, option_map, slice_get, slice_index_or}
use Rattle.std.specs.Option.{option_or, option_to_list}
use Rattle.std.proofs.lemmas.List.{map-append}
use Rattle.std.proofs.lemmas.Option.{slice_get-map}
use Rattle.doc_tree.specs.QNames.{written_in}
use Rattle.doc_tree.specs.Laws.{WellFormed}
use Rattle.doc_tree.specs.Table.{Table}
use Rattle.tree_iso.specs.Renumbering.{Hangs, Renumbers, RenumberedTreesHang}
use Rattle.xp_typed_tree.specs.TypedTree.{TypedTree}
use Rattle.xp_outcome.specs.Evaluation.{Evaluation, bind, done, gather, given, visit}
use Rattle.xp_outcome.specs.Slots.{with_slot}
use Rattle.xp_values.specs.Conversions.{to_truth}
use Rattle.xp_values.specs.Texts.{concat}
use Rattle.xp_values.specs.declared.values.EvalFault.{EvalFault}
use Rattle.xp_values.specs.declared.values.Value.{Value}
use Rattle.xp_meaning.specs.Conversions.{nodes_of, text_in}
use Rattle.xp_meaning.specs.Evaluation.{Lets, meaning}
use Rattle.xp_meaning.specs.Names.{name_at}
use Rattle.xp_meaning.specs.Reads.{name_read}
use Rattle.xp_iso_laws.specs.Moved.{answer_with, moved_lets, moved_value}
use Rattle.xp_iso_laws.specs.Moves.{ExpressionsMove, Moves}
use Rattle.xp_iso_laws.proofs.AxisLemmas.{name_read-moved}
use Rattle.xp_iso_laws.proofs.MoveLemmas.{moves-all_reading, moves-bind, moves-cond, moves-done, moves-equal, moves-made, moves-visit}
use Rattle.xp_iso_laws.proofs.ValueLemmas.{as_is, moves-text_in, name_at-moved, nodes-moved, plain_given, truth-moved}
use Rattle.xslt_match.specs.Matching.{matching}
use Rattle.xslt_iso_laws.specs.Moves.{PatternsMove}
use Rattle.sch_compiled.specs.declared.findings.Finding.{Finding}
use Rattle.sch_compiled.specs.declared.findings.Outcome.{Outcome}
use Rattle.sch_compiled.specs.declared.findings.Outcome.TheVariants.{Fired, NoRule}
use Rattle.sch_compiled.specs.declared.parts.LetInForce.{LetInForce}
use Rattle.sch_compiled.specs.declared.parts.PlanAssert.{PlanAssert}
use Rattle.sch_compiled.specs.declared.parts.PlanDiagnostic.{PlanDiagnostic}
use Rattle.sch_compiled.specs.declared.parts.PlanLet.{PlanLet}
use Rattle.sch_compiled.specs.declared.parts.PlanPart.{PlanPart}
use Rattle.sch_compiled.specs.declared.parts.PlanPart.TheVariants.{Chars, Name, ValueOf}
use Rattle.sch_compiled.specs.declared.parts.PlanRule.{PlanRule}
use Rattle.sch_compiled.specs.declared.plan.Plan.{Plan}
use Rattle.sch_compiled.specs.Plan.{rules_of}
use Rattle.sch_units.specs.Firing.{all_asserted, asserted, fired_by, first_rule, found, is_found, placed_at}
use Rattle.sch_units.specs.Messages.{alone, diagnostic_texts, joined, message, name_text, part_text, written_name}
use Rattle.sch_units.specs.Units.{lets_from, lets_of, unit_let, unit_pair}
use Rattle.sch_units.specs.Validity.{outcome_of, pair_outcome}
use Rattle.sch_units.proofs.FindingParts.{finding_of, with_message, with_properties, with_texts}
use Rattle.sch_iso_laws.specs.Moves.{GivenLetsMove, OwnLetsMove, moved_finding, moved_found}
use Rattle.sch_iso_laws.proofs.LetLemmas.{moves-keeping, next-moved, put-moved}

module _ (f : ℕ → ℕ) where
  -- what is gathered from items, whose pieces are changed alike
  moves-pieces : {X A B : Type 0} (held : A → A) (change : B → B) (act then : ℕ → X → Evaluation EvalFault A) (piece other : ℕ → X → A → List B) →
      ((i : ℕ) (x : X) → Moves f held (act i x) (then i x)) → ((i : ℕ) (x : X) (v : A) → other i x (held v) ≡ map change (piece i x v)) →
      (i : ℕ) (xs : List X) → Moves f (map change) (gather act piece i xs) (gather then other i xs)
  moves-pieces held change act then piece other each pieces i [] = moves-done f (map change) [] [] refl
  moves-pieces {B = B} held change act then piece other each pieces i (x ∷ xs) =
      moves-bind f held (map change) (act i x) (then i x)
      (λ v. bind (gather act piece (i + 1) xs) (λ rest. done (piece i x v ++ rest))) (λ v. bind (gather then other (i + 1) xs) (λ rest. done (other i x v ++ rest)))
      (each i x)
      (λ v. moves-made f (map change) (map change) (gather act piece (i + 1) xs) (gather then other (i + 1) xs) (λ rest. piece i x v ++ rest) (λ rest. other i x (held v) ++ rest)
      (moves-pieces held change act then piece other each pieces (i + 1) xs)
      (λ rest. ap (λ (l : List B). l ++ map change rest) (pieces i x v) ∙ sym (map-append change (piece i x v) rest)))

  -- and from items without nodes
  moves-all : {X A B : Type 0} (act then : ℕ → X → Evaluation EvalFault A) (piece : ℕ → X → A → List B) →
      ((i : ℕ) (x : X) → Moves f {A = A} as_is (act i x) (then i x)) → (i : ℕ) (xs : List X) →
      Moves f {A = List B} as_is (gather act piece i xs) (gather then piece i xs)
  moves-all act then piece each i [] = moves-done f as_is [] [] refl
  moves-all act then piece each i (x ∷ xs) =
      moves-bind f as_is as_is (act i x) (then i x)
      (λ v. bind (gather act piece (i + 1) xs) (λ rest. done (piece i x v ++ rest))) (λ v. bind (gather then piece (i + 1) xs) (λ rest. done (piece i x v ++ rest)))
      (each i x)
      (λ v. moves-made f as_is as_is (gather act piece (i + 1) xs) (gather then piece (i + 1) xs) (λ rest. piece i x v ++ rest) (λ rest. piece i x v ++ rest)
      (moves-all act then piece each (i + 1) xs) (λ rest. refl))

module _ (f : ℕ → ℕ) (T U : Table) (r : Renumbers f T U) (h : Hangs f T U) (one : WellFormed T) (other : WellFormed U) (expressions : ExpressionsMove) (n : ℕ) where
  -- an expression at a node, under given lets
  module _ (L : Lets) where
    abbrev M : Lets
    M = moved_lets f L

    moves-value : (t : TypedTree) → Moves f (moved_value f) (meaning T L t (alone n)) (meaning U M t (alone (f n)))
    moves-value t = expressions f T U L t (alone n) one other r

    moves-written : (o : Option ℕ) → Moves f {A = List ℕ} as_is (written_name T o) (written_name U (option_map f o))
    moves-written o =
        moves-all_reading f as_is (name_read T o) (name_read U (option_map f o)) _ _ (name_read-moved f T U r h o)
        (moves-done f as_is (written_in (name_at T o)) (written_in (name_at U (option_map f o))) (ap written_in (name_at-moved f T U r h o)))

    first_node-moved : (v : Value) → slice_get (nodes_of (moved_value f v)) 0 ≡ option_map f (slice_get (nodes_of v) 0)
    first_node-moved v = ap (λ (ns : List ℕ). slice_get ns 0) (nodes-moved f v) ∙ slice_get-map f (nodes_of v) 0

    moves-name : (o : Option TypedTree) → Moves f {A = List ℕ} as_is (name_text T L n o) (name_text U M (f n) o)
    moves-name None = moves-written (Some n)
    moves-name (Some t) =
        moves-bind f (moved_value f) as_is (meaning T L t (alone n)) (meaning U M t (alone (f n)))
        (λ v. written_name T (slice_get (nodes_of v) 0)) (λ v. written_name U (slice_get (nodes_of v) 0)) (moves-value t)
        (λ v. moves-equal f as_is (written_name T (slice_get (nodes_of v) 0)) (written_name U (option_map f (slice_get (nodes_of v) 0)))
        (written_name U (slice_get (nodes_of (moved_value f v)) 0))
        (ap (λ (o : Option ℕ). written_name U o) (sym (first_node-moved v))) (moves-written (slice_get (nodes_of v) 0)))

    moves-part : (part : PlanPart) → Moves f {A = List ℕ} as_is (part_text T L n part) (part_text U M (f n) part)
    moves-part (Chars characters) = moves-done f as_is characters characters refl
    moves-part (ValueOf t) =
        moves-bind f (moved_value f) as_is (meaning T L t (alone n)) (meaning U M t (alone (f n))) (λ v. text_in T v) (λ v. text_in U v)
        (moves-value t) (λ v. moves-text_in f T U r h v)
    moves-part (Name o) = moves-name o

    moves-joined : (text : List ℕ) (parts : List PlanPart) → Moves f {A = List ℕ} as_is (joined T L n text parts) (joined U M (f n) text parts)
    moves-joined text [] = moves-done f as_is text text refl
    moves-joined text (part ∷ parts) =
        moves-bind f as_is as_is (part_text T L n part) (part_text U M (f n) part)
        (λ s. bind (given (concat text s)) (λ more. joined T L n more parts)) (λ s. bind (given (concat text s)) (λ more. joined U M (f n) more parts))
        (moves-part part)
        (λ s. moves-bind f as_is as_is (given (concat text s)) (given (concat text s)) (λ more. joined T L n more parts) (λ more. joined U M (f n) more parts)
        (plain_given f T U r h (concat text s) (concat text s) refl) (λ more. moves-joined more parts))

    moves-texts : (diagnostics : List PlanDiagnostic) → Moves f {A = List (List ℕ)} as_is (diagnostic_texts T L n diagnostics) (diagnostic_texts U M (f n) diagnostics)
    moves-texts diagnostics =
        moves-all f (λ _ d. message T L n d.message) (λ _ d. message U M (f n) d.message) (λ _ _ text. text ∷ []) (λ _ d. moves-joined [] d.message) 0 diagnostics

    first-place-moved : (ns : List ℕ) → slice_index_or (map f ns) 0 (f n) ≡ f (slice_index_or ns 0 n)
    first-place-moved [] = refl
    first-place-moved (m ∷ ns) = refl

    -- a finding's place goes with its node
    moves-place : (o : Option TypedTree) → Moves f f (placed_at T L n o) (placed_at U M (f n) o)
    moves-place None = moves-done f f n (f n) refl
    moves-place (Some t) =
        moves-made f (moved_value f) f (meaning T L t (alone n)) (meaning U M t (alone (f n)))
        (λ v. slice_index_or (nodes_of v) 0 n) (λ v. slice_index_or (nodes_of v) 0 (f n))
        (moves-value t) (λ v. ap (λ (ns : List ℕ). slice_index_or ns 0 (f n)) (nodes-moved f v) ∙ first-place-moved (nodes_of v))

    moves-found : (subject : Option TypedTree) (i : ℕ) (a : PlanAssert) → Moves f (moved_finding f) (found T L n subject i a) (found U M (f n) subject i a)
    moves-found subject i a =
        moves-bind f f (moved_finding f) (placed_at T L n (option_or a.subject subject)) (placed_at U M (f n) (option_or a.subject subject))
        (with_texts T L n i a) (with_texts U M (f n) i a) (moves-place (option_or a.subject subject))
        (λ place. moves-bind f as_is (moved_finding f) (diagnostic_texts T L n a.diagnostics) (diagnostic_texts U M (f n) a.diagnostics)
        (with_properties T L n i a place) (with_properties U M (f n) i a (f place)) (moves-texts a.diagnostics)
        (λ texts. moves-bind f as_is (moved_finding f) (diagnostic_texts T L n a.properties) (diagnostic_texts U M (f n) a.properties)
        (with_message T L n i a place texts) (with_message U M (f n) i a (f place) texts) (moves-texts a.properties)
        (λ properties. moves-made f {C = Finding} {D = Finding} as_is (moved_finding f) (message T L n a.message) (message U M (f n) a.message)
        (finding_of i place texts properties) (finding_of i (f place) texts properties)
        (moves-joined [] a.message) (λ text. refl))))

    moves-asserted : (subject : Option TypedTree) (i : ℕ) (a : PlanAssert) →
        Moves f (option_map (moved_finding f)) (asserted T L n subject i a) (asserted U M (f n) subject i a)
    moves-asserted subject i a =
        let then : Bool → Evaluation EvalFault (Option Finding) =
        λ b. cond (is_found a.report b) (bind (found U M (f n) subject i a) (λ finding. done (Some finding))) (done None) in
        moves-bind f (moved_value f) (option_map (moved_finding f)) (meaning T L a.test (alone n)) (meaning U M a.test (alone (f n)))
        (λ v. cond (is_found a.report (to_truth v)) (bind (found T L n subject i a) (λ finding. done (Some finding))) (done None))
        (λ v. cond (is_found a.report (to_truth v)) (bind (found U M (f n) subject i a) (λ finding. done (Some finding))) (done None))
        (moves-value a.test)
        (λ v. moves-equal f (option_map (moved_finding f))
        (cond (is_found a.report (to_truth v)) (bind (found T L n subject i a) (λ finding. done (Some finding))) (done None))
        (then (to_truth v)) (then (to_truth (moved_value f v))) (ap then (sym (truth-moved f v)))
        (moves-cond f (option_map (moved_finding f)) (is_found a.report (to_truth v))
        (bind (found T L n subject i a) (λ finding. done (Some finding))) (done None) (bind (found U M (f n) subject i a) (λ finding. done (Some finding))) (done None)
        (moves-made f (moved_finding f) (option_map (moved_finding f)) (found T L n subject i a) (found U M (f n) subject i a) (λ finding. Some finding) (λ finding. Some finding)
        (moves-found subject i a) (λ finding. refl))
        (moves-done f (option_map (moved_finding f)) None None refl)))

    one-moved : (o : Option Finding) → option_to_list (option_map (moved_finding f) o) ≡ map (moved_finding f) (option_to_list o)
    one-moved None = refl
    one-moved (Some finding) = refl

    moves-assertions : (subject : Option TypedTree) (assertions : List PlanAssert) →
        Moves f (map (moved_finding f)) (all_asserted T L n subject assertions) (all_asserted U M (f n) subject assertions)
    moves-assertions subject assertions =
        moves-pieces f (option_map (moved_finding f)) (moved_finding f) (λ i a. asserted T L n subject i a) (λ i a. asserted U M (f n) subject i a)
        (λ _ _ finding. option_to_list finding) (λ _ _ finding. option_to_list finding) (moves-asserted subject) (λ i a o. one-moved o) 0 assertions

  -- the value of each let of a rule stands in the same slot in both
  moves-fired : (subject : Option TypedTree) (lets : List PlanLet) (assertions : List PlanAssert) (L : Lets) (k : ℕ) →
      Moves f (map (moved_finding f)) (fired_by T L n k subject lets assertions) (fired_by U (moved_lets f L) (f n) k subject lets assertions)
  moves-fired subject [] assertions L k = moves-assertions L subject assertions
  moves-fired subject (t ∷ lets) assertions L k =
      moves-bind f (moved_value f) (map (moved_finding f)) (meaning T L t.expr (alone n)) (meaning U (moved_lets f L) t.expr (alone (f n)))
      (λ v. fired_by T (with_slot L k (Ok v)) n (k + 1) subject lets assertions) (λ v. fired_by U (with_slot (moved_lets f L) k (Ok v)) (f n) (k + 1) subject lets assertions)
      (moves-value L t.expr)
      (λ v. moves-equal f (map (moved_finding f)) (fired_by T (with_slot L k (Ok v)) n (k + 1) subject lets assertions)
      (fired_by U (moved_lets f (with_slot L k (Ok v))) (f n) (k + 1) subject lets assertions)
      (fired_by U (with_slot (moved_lets f L) k (Ok (moved_value f v))) (f n) (k + 1) subject lets assertions)
      (ap (λ (N : Lets). fired_by U N (f n) (k + 1) subject lets assertions) (sym (put-moved f L k (Ok v)))) (moves-fired subject lets assertions (with_slot L k (Ok v)) (k + 1)))

  moves-rules : PatternsMove → (L : Lets) (count k : ℕ) (rules : List PlanRule) →
      Moves f (moved_found f) (first_rule T count L n k rules) (first_rule U count (moved_lets f L) (f n) k rules)
  moves-rules patterns L count k [] = moves-done f (moved_found f) NoRule NoRule refl
  moves-rules patterns L count k (rule ∷ rules) =
      let M : Lets = moved_lets f L in
      moves-bind f as_is (moved_found f) (matching T L rule.context n) (matching U M rule.context (f n))
      (λ matches. cond matches (bind (fired_by T L n count rule.subject rule.lets rule.assertions) (λ findings. done (Fired k findings))) (first_rule T count L n (k + 1) rules))
      (λ matches. cond matches (bind (fired_by U M (f n) count rule.subject rule.lets rule.assertions) (λ findings. done (Fired k findings))) (first_rule U count M (f n) (k + 1) rules))
      (patterns f T U L rule.context n one other r)
      (λ matches. moves-cond f (moved_found f) matches
      (bind (fired_by T L n count rule.subject rule.lets rule.assertions) (λ findings. done (Fired k findings))) (first_rule T count L n (k + 1) rules)
      (bind (fired_by U M (f n) count rule.subject rule.lets rule.assertions) (λ findings. done (Fired k findings))) (first_rule U count M (f n) (k + 1) rules)
      (moves-made f (map (moved_finding f)) (moved_found f) (fired_by T L n count rule.subject rule.lets rule.assertions) (fired_by U M (f n) count rule.subject rule.lets rule.assertions)
      (λ findings. Fired k findings) (λ findings. Fired k findings) (moves-fired rule.subject rule.lets rule.assertions L count) (λ findings. refl))
      (moves-rules patterns L count (k + 1) rules))

pub given-move : RenumberedTreesHang → ExpressionsMove → PatternsMove → GivenLetsMove
given-move hang expressions patterns = record {
  lets = λ f T U L expr one other r.
      let h : Hangs f T U = hang f T U one other r in
      moves-visit f (moved_value f) (meaning T L expr (alone 0)) (meaning U (moved_lets f L) expr (alone 0))
      (moves-equal f (moved_value f) (meaning T L expr (alone 0)) (meaning U (moved_lets f L) expr (alone (f 0))) (meaning U (moved_lets f L) expr (alone 0))
      (ap (λ n. meaning U (moved_lets f L) expr (alone n)) h.root) (expressions f T U L expr (alone 0) one other r));
  pairs = λ f plan T U L p n one other r.
      let h : Hangs f T U = hang f T U one other r in
      let count : ℕ = length plan.lets in
      moves-keeping f (moved_found f) count (visit (first_rule T count L n 0 (rules_of plan p))) (visit (first_rule U count (moved_lets f L) (f n) 0 (rules_of plan p)))
      (moves-visit f (moved_found f) (first_rule T count L n 0 (rules_of plan p)) (first_rule U count (moved_lets f L) (f n) 0 (rules_of plan p))
      (moves-rules f T U r h one other expressions n patterns L count 0 (rules_of plan p)));
}

-- lets in force, one after another
module _ (units : GivenLetsMove) (f : ℕ → ℕ) (T U : Table) (one : WellFormed T) (other : WellFormed U) (r : Renumbers f T U) where
  lets-moved : (L : Lets) (ts : List LetInForce) → lets_from U (moved_lets f L) ts ≡ moved_lets f (lets_from T L ts)
  lets-moved L [] = refl
  lets-moved L (t ∷ ts) =
      ap (λ (N : Lets). lets_from U N ts)
      (ap (λ (o : Result Value EvalFault). moved_lets f L ++ Some o ∷ []) (units.lets f T U L t.expr one other r).answer
      ∙ next-moved f L (unit_let T L t.expr).answer)
      ∙ lets-moved (L ++ Some (unit_let T L t.expr).answer ∷ []) ts

  outcome-kept : (a : Result Outcome EvalFault) → outcome_of (answer_with (moved_found f) a) ≡ moved_found f (outcome_of a)
  outcome-kept (Ok outcome) = refl
  outcome-kept (Err x) = refl

  outcomes-same : (plan : Plan) (p n : ℕ) → pair_outcome plan U p (f n) ≡ moved_found f (pair_outcome plan T p n)
  outcomes-same plan p n =
      ap (λ (L : Lets). outcome_of (unit_pair plan U L p (f n)).answer) (lets-moved [] plan.lets)
      ∙ (ap outcome_of (units.pairs f plan T U (lets_of plan T) p n one other r).answer ∙ outcome-kept (unit_pair plan T (lets_of plan T) p n).answer)

pub own-move : GivenLetsMove → OwnLetsMove
own-move units = record {
  lets = λ f plan T U one other r. lets-moved units f T U one other r [] plan.lets;
  outcomes = λ f plan T U p n one other r. outcomes-same units f T U one other r plan p n;
}
