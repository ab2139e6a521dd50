-- The texts of messages and the findings of assertions are told by cells of live nodes.
use Rattle.std.proofs.Common.{◌≡◌, ℕ, Bool, true, false, cond, List, [], ◌∷◌, ◌++◌, Option, None, Some, Result, Ok, Err, refl, ap, subst}
use Rattle.std.specs.Prelude.{map, slice_get, slice_index_or}
use Rattle.std.specs.Option.{option_or, option_to_list}
use Rattle.std.specs.List.{AllByRecursion as Each}
use Rattle.doc_tree.specs.Laws.{HasWaysUp, Ordered}
use Rattle.doc_tree.specs.QNames.{written_in}
use Rattle.doc_tree.specs.cell.Cell.TheVariants.{Name as NameOf}
use Rattle.doc_tree.specs.Kinds.{has_own_name}
use Rattle.doc_tree.specs.Table.{Table, kind_of}
use Rattle.xp_typed_tree.specs.TypedTree.{TypedTree}
use Rattle.xp_outcome.specs.Evaluation.{Evaluation, all_reading, behind, bind, done, fault, given, visits}
use Rattle.xp_values.specs.Conversions.{to_number, to_truth}
use Rattle.xp_values.specs.Texts.{concat}
use Rattle.xp_values.specs.declared.values.EvalFault.{EvalFault}
use Rattle.xp_values.specs.declared.values.Value.{Value}
use Rattle.xp_meaning.specs.Conversions.{first_of, nodes_of, number_in, text_in}
use Rattle.xp_meaning.specs.Evaluation.{Lets, meaning}
use Rattle.xp_meaning.specs.Names.{name_at}
use Rattle.xp_meaning.specs.Reads.{name_read, read_if, taking, text_read}
use Rattle.xp_meaning_laws.specs.KnownReads.{IsLiveRead, LetsAreLive}
use Rattle.xp_meaning_laws.proofs.EachLemmas.{each-all}
use Rattle.xp_meaning_laws.proofs.Knowing.{live_closed}
use Rattle.xp_meaning_laws.proofs.Parts.{Any, number_sound}
use Rattle.xp_meaning_laws.proofs.Sound.{Sound, sound_behind, sound_bind, sound_cond, sound_done, sound_gather, sound_given}
use Rattle.sch_compiled.specs.declared.findings.Finding.{Finding}
use Rattle.sch_compiled.specs.declared.parts.PlanAssert.{PlanAssert}
use Rattle.sch_compiled.specs.declared.parts.PlanDiagnostic.{PlanDiagnostic}
use Rattle.sch_compiled.specs.declared.parts.PlanPart.{PlanPart}
use Rattle.sch_compiled.specs.declared.parts.PlanPart.TheVariants.{Chars, Name, ValueOf}
use Rattle.sch_compiled.specs.Findings.{IsAtLiveNode}
use Rattle.sch_units.specs.Firing.{all_asserted, asserted, found, is_found, placed_at}
use Rattle.sch_units.specs.Messages.{alone, diagnostic_texts, joined, message, name_text, part_text, written_name}
use Rattle.sch_units.proofs.FindingParts.{finding_of, with_message, with_properties, with_texts}
use Rattle.unit_live_laws.proofs.MatchingLemmas.{Lives, value-good}

-- nothing is read for what is computed
given-reads : {A : Type 0} (r : Result A EvalFault) → (given r).reads ≡ []
unfolding done fault
given-reads (Ok v) = refl
given-reads (Err f) = refl

-- for its text and for its number the same is read of a value
text-reads : (T : Table) (v : Value) → (number_in T v).reads ≡ (text_in T v).reads
unfolding text_in number_in taking all_reading visits behind done
text-reads T v = ap (λ xs. map (text_read T) (first_of (nodes_of v)) ++ xs) (given-reads (to_number T v))

module _ (T : Table) (ord : Ordered T) (up : HasWaysUp T) where
  text-sound : (v : Value) → Each (Lives T) (nodes_of v) → Sound (IsLiveRead T) Any (text_in T v)
  text-sound v live = record {
    reads = subst (Each (IsLiveRead T)) (text-reads T v) (number_sound T (Lives T) (IsLiveRead T) (live_closed T ord up) v live).reads;
    answer = λ s is. tt;
  }

  module _ (L : Lets) (lets : LetsAreLive T L) (n : ℕ) (here : Lives T n) where
    -- an expression at the node, and what follows its value
    pub value-then : {B : Type 0} (Q : B → Type 0) (t : TypedTree) (next : Value → Evaluation EvalFault B) →
        ((v : Value) → Each (Lives T) (nodes_of v) → Sound (IsLiveRead T) Q (next v)) → Sound (IsLiveRead T) Q (bind (meaning T L t (alone n)) next)
    value-then Q t next more = sound_bind (IsLiveRead T) (λ v. Each (Lives T) (nodes_of v)) Q (meaning T L t (alone n)) next (value-good T ord up L lets t (alone n) here here) more

    -- the name of the first of some nodes, which is read
    first-read : (ns : List ℕ) → Each (Lives T) ns → Each (IsLiveRead T) (name_read T (slice_get ns 0))
    first-read [] live = tt
    first-read (m ∷ ms) live = by (has_own_name (kind_of T m))
      where
        by : (b : Bool) → Each (IsLiveRead T) (read_if b (NameOf m))
        by true = (live.0, tt)
        by false = tt

    written-sound : (ns : List ℕ) → Each (Lives T) ns → Sound (IsLiveRead T) Any (written_name T (slice_get ns 0))
    unfolding all_reading
    written-sound ns live =
        sound_behind (IsLiveRead T) Any (name_read T (slice_get ns 0)) 0 (done (written_in (name_at T (slice_get ns 0))))
        (first-read ns live) (sound_done (IsLiveRead T) Any (written_in (name_at T (slice_get ns 0))) tt)

    name-sound : (o : Option TypedTree) → Sound (IsLiveRead T) Any (name_text T L n o)
    name-sound None = written-sound (n ∷ []) (here, tt)
    name-sound (Some t) =
        value-then Any t (λ v. written_name T (slice_get (nodes_of v) 0)) (λ v live. written-sound (nodes_of v) live)

    part-sound : (part : PlanPart) → Sound (IsLiveRead T) Any (part_text T L n part)
    part-sound (Chars characters) = sound_done (IsLiveRead T) Any characters tt
    part-sound (ValueOf t) = value-then Any t (λ v. text_in T v) text-sound
    part-sound (Name path) = name-sound path

    joined-sound : (text : List ℕ) (parts : List PlanPart) → Sound (IsLiveRead T) Any (joined T L n text parts)
    joined-sound text [] = sound_done (IsLiveRead T) Any text tt
    joined-sound text (part ∷ parts) =
        sound_bind (IsLiveRead T) Any Any (part_text T L n part) (λ s. bind (given (concat text s)) (λ more. joined T L n more parts)) (part-sound part)
        (λ s _. sound_bind (IsLiveRead T) Any Any (given (concat text s)) (λ more. joined T L n more parts) (sound_given (IsLiveRead T) Any (concat text s) (λ v _. tt))
        (λ more _. joined-sound more parts))

    texts-sound : (diagnostics : List PlanDiagnostic) → Sound (IsLiveRead T) (Each Any) (diagnostic_texts T L n diagnostics)
    texts-sound diagnostics =
        sound_gather (IsLiveRead T) Any Any Any (λ _ d. message T L n d.message) (λ _ _ text. text ∷ []) (λ i d _. joined-sound [] d.message) (λ i d text _ _. (tt, tt))
        0 diagnostics (each-all Any (λ _. tt) diagnostics)

    -- the first node of a value, or the node itself
    first-live : (nodes : List ℕ) → Each (Lives T) nodes → Lives T (slice_index_or nodes 0 n)
    first-live [] live = here
    first-live (m ∷ nodes) live = live.0

    place-sound : (o : Option TypedTree) → Sound (IsLiveRead T) (Lives T) (placed_at T L n o)
    place-sound None = sound_done (IsLiveRead T) (Lives T) n here
    place-sound (Some t) =
        value-then (Lives T) t (λ v. done (slice_index_or (nodes_of v) 0 n))
        (λ v live. sound_done (IsLiveRead T) (Lives T) (slice_index_or (nodes_of v) 0 n) (first-live (nodes_of v) live))

    found-sound : (subject : Option TypedTree) (i : ℕ) (a : PlanAssert) → Sound (IsLiveRead T) (IsAtLiveNode T) (found T L n subject i a)
    found-sound subject i a =
        sound_bind (IsLiveRead T) (Lives T) (IsAtLiveNode T) (placed_at T L n (option_or a.subject subject)) (with_texts T L n i a)
        (place-sound (option_or a.subject subject))
        (λ place live. sound_bind (IsLiveRead T) (Each Any) (IsAtLiveNode T) (diagnostic_texts T L n a.diagnostics) (with_properties T L n i a place) (texts-sound a.diagnostics)
        (λ texts _. sound_bind (IsLiveRead T) (Each Any) (IsAtLiveNode T) (diagnostic_texts T L n a.properties) (with_message T L n i a place texts) (texts-sound a.properties)
        (λ properties _. sound_bind (IsLiveRead T) {B = Finding} Any (IsAtLiveNode T) (message T L n a.message) (λ text. done (finding_of i place texts properties text))
        (joined-sound [] a.message)
        (λ text _. sound_done (IsLiveRead T) {A = Finding} (IsAtLiveNode T) (finding_of i place texts properties text) live))))

    -- what is found of an assertion, if it is, is at a live node
    abbrev AtLive : Option Finding → Type 0
    AtLive o = Each (IsAtLiveNode T) (option_to_list o)

    asserted-sound : (subject : Option TypedTree) (i : ℕ) (a : PlanAssert) → Sound (IsLiveRead T) AtLive (asserted T L n subject i a)
    asserted-sound subject i a =
        value-then AtLive a.test (λ v. cond (is_found a.report (to_truth v)) (bind (found T L n subject i a) (λ finding. done (Some finding))) (done None))
        (λ v _. sound_cond (IsLiveRead T) AtLive (is_found a.report (to_truth v)) (bind (found T L n subject i a) (λ finding. done (Some finding))) (done None)
        (sound_bind (IsLiveRead T) (IsAtLiveNode T) AtLive (found T L n subject i a) (λ finding. done (Some finding)) (found-sound subject i a)
        (λ finding live. sound_done (IsLiveRead T) AtLive (Some finding) (live, tt)))
        (sound_done (IsLiveRead T) AtLive None tt))

    pub assertions-sound : (subject : Option TypedTree) (assertions : List PlanAssert) →
        Sound (IsLiveRead T) (Each (IsAtLiveNode T)) (all_asserted T L n subject assertions)
    assertions-sound subject assertions =
        sound_gather (IsLiveRead T) Any AtLive (IsAtLiveNode T) (λ i a. asserted T L n subject i a) (λ _ _ finding. option_to_list finding) (λ i a _. asserted-sound subject i a)
        (λ i a finding _ live. live) 0 assertions (each-all Any (λ _. tt) assertions)
