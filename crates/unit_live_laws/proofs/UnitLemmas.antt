-- Units read cells of live nodes, and lets in force give live nodes.
use Rattle.std.proofs.Common.{◌≡◌, ℕ, zero, suc, ◌+◌, Bool, true, false, cond, eqb, List, [], ◌∷◌, ◌++◌, ◌⊎◌, inl, inr, ⊎_elim, length, Option, Some, Result, Ok, Err, refl, sym, ◌∙◌, subst, eqb-true}
use Rattle.std.specs.Prelude.{filter}
use Rattle.std.proofs.lemmas.Bool.{eqb-false}
use Rattle.std.specs.List.{AllByRecursion as Each}
use Rattle.std.proofs.lemmas.List.Elements.{All-from_recursion}
use Rattle.doc_tree.specs.Laws.{HasWaysUp, Ordered}
use Rattle.doc_tree.specs.Table.{Table}
use Rattle.xp_outcome.specs.Evaluation.{Read, bind, done, visit}
use Rattle.xp_outcome.specs.Slots.{in_slot, with_slot}
use Rattle.xp_outcome.proofs.SlotLemmas.{others_stay, put_there}
use Rattle.xp_typed_tree.specs.TypedTree.{TypedTree}
use Rattle.xp_values.specs.declared.values.EvalFault.{EvalFault}
use Rattle.xp_values.specs.declared.values.Value.{Value}
use Rattle.xp_meaning.specs.Conversions.{nodes_of}
use Rattle.xp_meaning.specs.Evaluation.{Lets, meaning}
use Rattle.xp_meaning.proofs.Answers.{answer_visit}
use Rattle.xp_meaning_laws.specs.KnownReads.{AreLive, IsLiveRead, LetsAreLive}
use Rattle.xp_meaning_laws.proofs.Knowing.{live_closed}
use Rattle.xp_meaning_laws.proofs.Parts.{Any}
use Rattle.xp_meaning_laws.proofs.Sound.{Sound, sound_bind, sound_cond, sound_done, sound_visit}
use Rattle.xslt_match.specs.Matching.{matching}
use Rattle.sch_compiled.specs.declared.findings.Outcome.{Outcome}
use Rattle.sch_compiled.specs.declared.findings.Outcome.TheVariants.{Fired, NoRule}
use Rattle.sch_compiled.specs.declared.parts.LetInForce.{LetInForce}
use Rattle.sch_compiled.specs.declared.parts.PlanAssert.{PlanAssert}
use Rattle.sch_compiled.specs.declared.parts.PlanLet.{PlanLet}
use Rattle.sch_compiled.specs.declared.parts.PlanRule.{PlanRule}
use Rattle.sch_compiled.specs.declared.plan.Plan.{Plan}
use Rattle.sch_compiled.specs.Findings.{FindsAtLiveNodes, IsAtLiveNode}
use Rattle.sch_compiled.specs.Plan.{rules_of}
use Rattle.sch_units.specs.Firing.{fired_by, first_rule}
use Rattle.sch_units.specs.Messages.{alone}
use Rattle.sch_units.specs.Units.{is_kept, lets_from, lets_of, unit_let, unit_pair}
use Rattle.sch_units.specs.Validity.{outcome_of}
use Rattle.sch_units.proofs.KeptReads.{keeping-answer, keeping-reads}
use Rattle.unit_live_laws.specs.LiveReads.{LetsGiveLiveNodes, PairsFindAtLiveNodes, UnitsReadLiveCells}
use Rattle.unit_live_laws.proofs.MatchingLemmas.{Lives, matching-sound, value-good}
use Rattle.unit_live_laws.proofs.MessageLemmas.{assertions-sound, value-then}

-- what a slot holds of a value
abbrev held : Value → Option (Result Value EvalFault)
held v = Some (Ok v)

same-value : (v w : Value) → held v ≡ held w → v ≡ w
same-value v w is = cc

-- lets stay live where a value whose nodes live is put into a slot
put-live : (T : Table) (L : Lets) (slot : ℕ) (v : Value) → AreLive T (nodes_of v) → LetsAreLive T L → LetsAreLive T (with_slot L slot (Ok v))
put-live T L slot v live lets place w is = by (eqb place slot) refl
  where
    by : (b : Bool) → eqb place slot ≡ b → AreLive T (nodes_of w)
    by true e =
        let here : in_slot (with_slot L slot (Ok v)) slot ≡ Some (Ok w) = subst (λ (k : ℕ). in_slot (with_slot L slot (Ok v)) k ≡ Some (Ok w)) (eqb-true place slot e) is in
        subst (λ (x : Value). AreLive T (nodes_of x)) (same-value v w (sym (put_there L slot (Ok v)) ∙ here)) live
    by false e = lets place w (sym (others_stay L slot place (Ok v) (eqb-false place slot e)) ∙ is)

-- of what may be read no less may be kept
kept-each : (may : Read → Type 0) (keep : Read → Bool) (xs : List Read) → Each may xs → Each may (filter keep xs)
kept-each may keep [] h = tt
kept-each may keep (x ∷ xs) h =
    elim (keep x) as (λ b. Each may (cond b (x ∷ filter keep xs) (filter keep xs))) [ true ↦ (h.0, kept-each may keep xs h.1) | false ↦ kept-each may keep xs h.1 ]

module _ (T : Table) (ord : Ordered T) (up : HasWaysUp T) where
  let-sound : (L : Lets) → LetsAreLive T L → (expr : TypedTree) → Sound (IsLiveRead T) (λ v. Each (Lives T) (nodes_of v)) (unit_let T L expr)
  let-sound L lets expr =
      sound_visit (IsLiveRead T) (λ v. Each (Lives T) (nodes_of v)) (meaning T L expr (alone 0))
      (value-good T ord up L lets expr (alone 0) (live_closed T ord up).root (live_closed T ord up).root)

  module _ (n : ℕ) (here : Lives T n) where
    -- the lets of a rule in order, then its assertions
    fired-sound : (subject : Option TypedTree) (slot : ℕ) (rule_lets : List PlanLet) (assertions : List PlanAssert) (L : Lets) → LetsAreLive T L →
        Sound (IsLiveRead T) (Each (IsAtLiveNode T)) (fired_by T L n slot subject rule_lets assertions)
    fired-sound subject slot [] assertions L lets = assertions-sound T ord up L lets n here subject assertions
    fired-sound subject slot (t ∷ rule_lets) assertions L lets =
        value-then T ord up L lets n here (Each (IsAtLiveNode T)) t.expr (λ v. fired_by T (with_slot L slot (Ok v)) n (slot + 1) subject rule_lets assertions)
        (λ v live. fired-sound subject (slot + 1) rule_lets assertions (with_slot L slot (Ok v)) (put-live T L slot v live lets))

    rules-sound : (L : Lets) → LetsAreLive T L → (count r : ℕ) (rules : List PlanRule) → Sound (IsLiveRead T) (FindsAtLiveNodes T) (first_rule T count L n r rules)
    rules-sound L lets count r [] = sound_done (IsLiveRead T) (FindsAtLiveNodes T) NoRule tt
    rules-sound L lets count r (rule ∷ rules) =
        sound_bind (IsLiveRead T) Any (FindsAtLiveNodes T) (matching T L rule.context n)
        (λ matches. cond matches (bind (fired_by T L n count rule.subject rule.lets rule.assertions) (λ findings. done (Fired r findings))) (first_rule T count L n (r + 1) rules))
        (matching-sound T ord up L lets rule.context n here)
        (λ matches _. sound_cond (IsLiveRead T) (FindsAtLiveNodes T) matches
        (bind (fired_by T L n count rule.subject rule.lets rule.assertions) (λ findings. done (Fired r findings))) (first_rule T count L n (r + 1) rules)
        (sound_bind (IsLiveRead T) (Each (IsAtLiveNode T)) (FindsAtLiveNodes T) (fired_by T L n count rule.subject rule.lets rule.assertions) (λ findings. done (Fired r findings))
        (fired-sound rule.subject count rule.lets rule.assertions L lets)
        (λ findings live. sound_done (IsLiveRead T) (FindsAtLiveNodes T) (Fired r findings) (All-from_recursion (IsAtLiveNode T) findings live)))
        (rules-sound L lets count (r + 1) rules))

  pair-sound : (plan : Plan) (L : Lets) (p n : ℕ) → LetsAreLive T L → Lives T n →
      Sound (IsLiveRead T) (FindsAtLiveNodes T) (visit (first_rule T (length plan.lets) L n 0 (rules_of plan p)))
  pair-sound plan L p n lets here =
      sound_visit (IsLiveRead T) (FindsAtLiveNodes T) (first_rule T (length plan.lets) L n 0 (rules_of plan p)) (rules-sound n here L lets (length plan.lets) 0 (rules_of plan p))

pub reads-live : UnitsReadLiveCells
reads-live = record {
  lets = λ T L expr ord up lets. (let-sound T ord up L lets expr).reads;
  pairs = λ plan T L p n ord up lets here.
      let all = visit (first_rule T (length plan.lets) L n 0 (rules_of plan p)) in
      let sound = pair-sound T ord up plan L p n lets here in
      subst (Each (IsLiveRead T)) (sym (keeping-reads (length plan.lets) all)) (kept-each (IsLiveRead T) (is_kept (length plan.lets)) all.reads sound.reads);
}

pub gives-live : LetsGiveLiveNodes
gives-live T L expr v ord up lets is = (let-sound T ord up L lets expr).answer v is

-- the last one of some items, or one of those before it
last-slot : {V : Type 0} (xs : List (Option V)) (o : Option V) (slot : ℕ) (v : V) → in_slot (xs ++ o ∷ []) slot ≡ Some v →
    (in_slot xs slot ≡ Some v) ⊎ (o ≡ Some v)
last-slot [] o zero v h = inr h
last-slot [] o (suc slot) v h = inl h
last-slot (x ∷ xs) o zero v h = inl h
last-slot (x ∷ xs) o (suc slot) v h = last-slot xs o slot v h

-- the nodes of the lets in force live, each under those before it
module _ (T : Table) (ord : Ordered T) (up : HasWaysUp T) where
  next-live : (L : Lets) (t : LetInForce) → LetsAreLive T L → LetsAreLive T (L ++ Some (unit_let T L t.expr).answer ∷ [])
  next-live L t live slot v is =
      ⊎_elim (λ (h : in_slot L slot ≡ Some (Ok v)). live slot v h)
      (λ (h : Some (unit_let T L t.expr).answer ≡ Some (Ok v)). gives-live T L t.expr v ord up live (let e : (unit_let T L t.expr).answer ≡ Ok v = cc in e))
      (last-slot L (Some (unit_let T L t.expr).answer) slot (Ok v) is)

  all-live : (L : Lets) (ts : List LetInForce) → LetsAreLive T L → LetsAreLive T (lets_from T L ts)
  all-live L [] live = live
  all-live L (t ∷ ts) live = all-live (L ++ Some (unit_let T L t.expr).answer ∷ []) ts (next-live L t live)

  given-finds : (plan : Plan) (L : Lets) (p n : ℕ) (outcome : Outcome) → LetsAreLive T L → Lives T n →
      (unit_pair plan T L p n).answer ≡ Ok outcome → FindsAtLiveNodes T outcome
  given-finds plan L p n outcome lets here is =
      let m = first_rule T (length plan.lets) L n 0 (rules_of plan p) in
      (pair-sound T ord up plan L p n lets here).answer outcome (answer_visit m ∙ (sym (keeping-answer (length plan.lets) m) ∙ is))

  own-finds : (plan : Plan) (p n : ℕ) → Lives T n → (answer : Result Outcome EvalFault) → (unit_pair plan T (lets_of plan T) p n).answer ≡ answer →
      FindsAtLiveNodes T (outcome_of answer)
  own-finds plan p n here (Ok outcome) is = given-finds plan (lets_of plan T) p n outcome (all-live [] plan.lets (λ slot v there. absurd (cc))) here is
  own-finds plan p n here (Err f) is = tt

pub finds-live : PairsFindAtLiveNodes
finds-live = record {
  given = λ plan T L p n outcome ord up lets here is. given-finds T ord up plan L p n outcome lets here is;
  own = λ plan T p n ord up here. own-finds T ord up plan p n here (unit_pair plan T (lets_of plan T) p n).answer refl;
}
