-- Where a rule fires, it is the first that matches, and what it finds are findings of its assertions.
use Rattle.std.proofs.Common.{◌≡◌, ℕ, zero, suc, ◌+◌, ◌<◌, Bool, true, false, cond, List, [], ◌∷◌, ◌++◌, length, refl, sym, ◌∙◌, ap, subst, Ok, arith}
use Rattle.std.specs.Prelude.{All, IsSomeAnd, Option, Some, None, slice_get}
use Rattle.std.specs.Option.{option_or, option_to_list}
use Rattle.std.specs.List.{AllByRecursion as Each}
use Rattle.std.proofs.lemmas.List.Elements.{All-from_recursion}
use Rattle.doc_tree.specs.Table.{Table}
use Rattle.xp_typed_tree.specs.TypedTree.{TypedTree}
use Rattle.xp_outcome.specs.Evaluation.{Evaluation, done, bind, gather}
use Rattle.xp_outcome.specs.Slots.{with_slot}
use Rattle.xp_values.specs.declared.values.EvalFault.{EvalFault}
use Rattle.xp_values.specs.Conversions.{to_truth}
use Rattle.xp_meaning.specs.Evaluation.{Lets, meaning}
use Rattle.xp_meaning.proofs.Choices.{came_before, same_ok}
use Rattle.xslt_match.specs.Matching.{matching}
use Rattle.sch_compiled.specs.declared.parts.PlanLet.{PlanLet}
use Rattle.sch_compiled.specs.declared.parts.PlanDiagnostic.{PlanDiagnostic}
use Rattle.sch_compiled.specs.declared.parts.PlanAssert.{PlanAssert}
use Rattle.sch_compiled.specs.declared.parts.PlanRule.{PlanRule}
use Rattle.sch_compiled.specs.declared.findings.Finding.{Finding}
use Rattle.sch_compiled.specs.declared.findings.Outcome.{Outcome}
use Rattle.sch_compiled.specs.declared.findings.Outcome.TheVariants.{NoRule, Fired, Fault}
use Rattle.sch_compiled.specs.Findings.{HasTextsOf, IsFindingOf}
use Rattle.sch_units.specs.Messages.{alone, message, diagnostic_texts}
use Rattle.sch_units.specs.Firing.{is_found, placed_at, found, asserted, fired_by, first_rule}
use Rattle.sch_units.specs.Laws.{FiresAlone}
use Rattle.sch_units.proofs.FindingParts.{finding_of, with_message, with_properties, with_texts}

-- outcomes by their parts
place_in : Outcome → ℕ
place_in NoRule = 0
place_in (Fired r findings) = r
place_in (Fault f) = 0

findings_in : Outcome → List Finding
findings_in NoRule = []
findings_in (Fired r findings) = findings
findings_in (Fault f) = []

same_place : (r s : ℕ) (fs gs : List Finding) → Fired r fs ≡ Fired s gs → r ≡ s
unfolding place_in
same_place r s fs gs is = ap place_in is

same_findings : (r s : ℕ) (fs gs : List Finding) → Fired r fs ≡ Fired s gs → fs ≡ gs
unfolding findings_in
same_findings r s fs gs is = ap findings_in is

-- a finding of an assertion at a place
pub record OfPlace (i : ℕ) (a : PlanAssert) (f : Finding) : Type 0 where
  pub place : f.assertion ≡ i
  pub texts : HasTextsOf f a

each_placed : (all : List PlanAssert) (i : ℕ) (a : PlanAssert) (fs : List Finding) → slice_get all i ≡ Some a → Each (OfPlace i a) fs → Each (IsFindingOf all) fs
each_placed all i a [] there h = tt
each_placed all i a (f ∷ fs) there h =
    (subst (λ o. IsSomeAnd o (HasTextsOf f)) (sym (ap (slice_get all) h.0.place ∙ there)) h.0.texts, each_placed all i a fs there h.1)

each_both : {X : Type 0} (P : X → Type 0) (xs ys : List X) → Each P xs → Each P ys → Each P (xs ++ ys)
each_both P [] ys h k = k
each_both P (x ∷ xs) ys h k = (h.0, each_both P xs ys h.1 k)

-- the assertions from a place on are those of a list
abbrev StandFrom : List PlanAssert → ℕ → List PlanAssert → Type 0
StandFrom all i xs = (k : ℕ) → slice_get all (i + k) ≡ slice_get xs k

next_place : (i k : ℕ) → (i + 1) + k ≡ i + suc k
next_place i k = omega arith

no_further : (i : ℕ) → i ≡ i + 0
no_further i = omega arith

from_none : (k : ℕ) → 0 + k ≡ k
from_none k = omega arith

same_rule : (u v : PlanRule) → Some u ≡ Some v → u ≡ v
same_rule u v is = cc

module _ (T : Table) (n : ℕ) (subject : Option TypedTree) where
  -- as many texts come of diagnostics as there are
  texts_of : (L : Lets) (i : ℕ) (ds : List PlanDiagnostic) (texts : List (List ℕ)) →
      (gather (λ _ d. message T L n d.message) (λ _ _ text. text ∷ []) i ds).answer ≡ Ok texts → length texts ≡ length ds
  unfolding done
  texts_of L i [] texts is = ap length (sym (same_ok {F = EvalFault} [] texts is))
  texts_of L i (d ∷ ds) texts is =
      let one = came_before (message T L n d.message) (λ text. bind (gather (λ _ e. message T L n e.message) (λ _ _ t. t ∷ []) (i + 1) ds) (λ rest. done ((text ∷ []) ++ rest))) texts is in
      let more = came_before (gather (λ _ e. message T L n e.message) (λ _ _ t. t ∷ []) (i + 1) ds) (λ rest. done ((one.first ∷ []) ++ rest)) texts one.then in
      let all : length texts ≡ length ((one.first ∷ []) ++ more.first) = ap length (sym (same_ok {F = EvalFault} ((one.first ∷ []) ++ more.first) texts more.then)) in
      omega (arith, all, texts_of L (i + 1) ds more.first more.is)

  found_of : (L : Lets) (i : ℕ) (a : PlanAssert) (f : Finding) → (found T L n subject i a).answer ≡ Ok f → OfPlace i a f
  unfolding done
  found_of L i a f is =
      let place = came_before (placed_at T L n (option_or a.subject subject)) (with_texts T L n i a) f is in
      let ds = came_before (diagnostic_texts T L n a.diagnostics) (with_properties T L n i a place.first) f place.then in
      let ps = came_before (diagnostic_texts T L n a.properties) (with_message T L n i a place.first ds.first) f ds.then in
      let text = came_before (message T L n a.message) (λ t. done (finding_of i place.first ds.first ps.first t)) f ps.then in
      subst (OfPlace i a) (same_ok {F = EvalFault} (finding_of i place.first ds.first ps.first text.first) f text.then)
      (record { place = refl; texts = record { diagnostics = texts_of L 0 a.diagnostics ds.first ds.is; properties = texts_of L 0 a.properties ps.first ps.is } })

  asserted_of : (L : Lets) (i : ℕ) (a : PlanAssert) (o : Option Finding) → (asserted T L n subject i a).answer ≡ Ok o → Each (OfPlace i a) (option_to_list o)
  unfolding done
  asserted_of L i a o is =
      let v = came_before (meaning T L a.test (alone n)) (λ w. cond (is_found a.report (to_truth w)) (bind (found T L n subject i a) (λ finding. done (Some finding))) (done None)) o is in
      by (is_found a.report (to_truth v.first)) v.then
    where
      by : (b : Bool) → (cond b (bind (found T L n subject i a) (λ finding. done (Some finding))) (done None)).answer ≡ Ok o → Each (OfPlace i a) (option_to_list o)
      by true h =
          let f = came_before (found T L n subject i a) (λ finding. done (Some finding)) o h in
          subst (λ p. Each (OfPlace i a) (option_to_list p)) (same_ok {F = EvalFault} (Some f.first) o f.then) (found_of L i a f.first f.is, tt)
      by false h = subst (λ p. Each (OfPlace i a) (option_to_list p)) (same_ok {F = EvalFault} None o h) tt

  all_of : (L : Lets) (all : List PlanAssert) (i : ℕ) (xs : List PlanAssert) (fs : List Finding) → StandFrom all i xs →
      (gather (λ j a. asserted T L n subject j a) (λ _ _ finding. option_to_list finding) i xs).answer ≡ Ok fs → Each (IsFindingOf all) fs
  unfolding done
  all_of L all i [] fs from is = subst (Each (IsFindingOf all)) (same_ok {F = EvalFault} [] fs is) tt
  all_of L all i (a ∷ xs) fs from is =
      let one = came_before (asserted T L n subject i a) (λ o. bind (gather (λ j b. asserted T L n subject j b) (λ _ _ finding. option_to_list finding) (i + 1) xs) (λ rest. done (option_to_list o ++ rest))) fs is in
      let more = came_before (gather (λ j b. asserted T L n subject j b) (λ _ _ finding. option_to_list finding) (i + 1) xs) (λ rest. done (option_to_list one.first ++ rest)) fs one.then in
      let here : slice_get all i ≡ Some a = ap (slice_get all) (no_further i) ∙ from 0 in
      subst (Each (IsFindingOf all)) (same_ok {F = EvalFault} (option_to_list one.first ++ more.first) fs more.then)
      (each_both (IsFindingOf all) (option_to_list one.first) more.first (each_placed all i a (option_to_list one.first) here (asserted_of L i a one.first one.is))
      (all_of L all (i + 1) xs more.first (λ k. ap (slice_get all) (next_place i k) ∙ from (suc k)) more.is))

  pub fired_of : (L : Lets) (slot : ℕ) (ts : List PlanLet) (xs : List PlanAssert) (fs : List Finding) → (fired_by T L n slot subject ts xs).answer ≡ Ok fs → Each (IsFindingOf xs) fs
  fired_of L slot [] xs fs is = all_of L xs 0 xs fs (λ k. ap (slice_get xs) (from_none k)) is
  fired_of L slot (t ∷ ts) xs fs is =
      let v = came_before (meaning T L t.expr (alone n)) (λ w. fired_by T (with_slot L slot (Ok w)) n (slot + 1) subject ts xs) fs is in
      fired_of (with_slot L slot (Ok v.first)) (slot + 1) ts xs fs v.then

module _ (T : Table) (n : ℕ) (L : Lets) (count : ℕ) where
  -- what comes after a rule was tried
  abbrev Tried : ℕ → PlanRule → List PlanRule → Bool → Evaluation EvalFault Outcome
  Tried r rule rules matches =
      cond matches (bind (fired_by T L n count rule.subject rule.lets rule.assertions) (λ findings. done (Fired r findings))) (first_rule T count L n (r + 1) rules)

  -- the rule that fires stands so many places behind the first one
  pub record FiresBehind (first : ℕ) (rules : List PlanRule) (r : ℕ) (fs : List Finding) : Type 0 where
    pub behind : ℕ
    pub place : r ≡ first + behind
    pub fires : FiresAlone T L n rules behind fs

  here : (r s : ℕ) (rule : PlanRule) (rules : List PlanRule) (fs gs : List Finding) → (matching T L rule.context n).answer ≡ Ok true →
      (fired_by T L n count rule.subject rule.lets rule.assertions).answer ≡ Ok gs → Fired r gs ≡ Fired s fs → FiresBehind r (rule ∷ rules) s fs
  here r s rule rules fs gs matched fired same =
      record {
        behind = 0;
        place = let e : s ≡ r = sym (same_place r s gs fs same) in omega (arith, e);
        fires = record {
          rule = rule;
          there = refl;
          matches = matched;
          earlier = λ k other below there. absurd (omega (arith, below));
          findings = subst (All (IsFindingOf rule.assertions)) (same_findings r s gs fs same)
              (All-from_recursion (IsFindingOf rule.assertions) gs (fired_of T n rule.subject L count rule.lets rule.assertions gs fired));
        };
      }

  earlier_ones : (rule : PlanRule) (rules : List PlanRule) (k : ℕ) → (matching T L rule.context n).answer ≡ Ok false →
      ((j : ℕ) (other : PlanRule) → j < k → slice_get rules j ≡ Some other → (matching T L other.context n).answer ≡ Ok false) →
      (j : ℕ) (other : PlanRule) → j < suc k → slice_get (rule ∷ rules) j ≡ Some other → (matching T L other.context n).answer ≡ Ok false
  earlier_ones rule rules k refused before zero other below there = subst (λ r. (matching T L r.context n).answer ≡ Ok false) (same_rule rule other there) refused
  earlier_ones rule rules k refused before (suc j) other below there = before j other (omega (arith, below)) there

  later : (r s : ℕ) (rule : PlanRule) (rules : List PlanRule) (fs : List Finding) → (matching T L rule.context n).answer ≡ Ok false →
      FiresBehind (r + 1) rules s fs → FiresBehind r (rule ∷ rules) s fs
  later r s rule rules fs refused h =
      record {
        behind = suc h.behind;
        place = omega (arith, h.place);
        fires = record {
          rule = h.fires.rule;
          there = h.fires.there;
          matches = h.fires.matches;
          earlier = earlier_ones rule rules h.behind refused h.fires.earlier;
          findings = h.fires.findings;
        };
      }

  pub fires : (r s : ℕ) (rules : List PlanRule) (fs : List Finding) → (first_rule T count L n r rules).answer ≡ Ok (Fired s fs) → FiresBehind r rules s fs
  unfolding done
  fires r s [] fs is = let bad : NoRule ≡ Fired s fs = same_ok {F = EvalFault} NoRule (Fired s fs) is in absurd (cc)
  fires r s (rule ∷ rules) fs is =
      let b = came_before (matching T L rule.context n) (Tried r rule rules) (Fired s fs) is in
      by (fires (r + 1) s rules fs) b.first b.is b.then
    where
      by : ((first_rule T count L n (r + 1) rules).answer ≡ Ok (Fired s fs) → FiresBehind (r + 1) rules s fs) →
          (b : Bool) → (matching T L rule.context n).answer ≡ Ok b → (Tried r rule rules b).answer ≡ Ok (Fired s fs) → FiresBehind r (rule ∷ rules) s fs
      by after true matched h =
          let gs = came_before (fired_by T L n count rule.subject rule.lets rule.assertions) (λ findings. done (Fired r findings)) (Fired s fs) h in
          here r s rule rules fs gs.first matched gs.is (same_ok {F = EvalFault} (Fired r gs.first) (Fired s fs) gs.then)
      by after false refused h = later r s rule rules fs refused (after h)

  -- where no rule fires, none matches
  pub none_matches : (r : ℕ) (rules : List PlanRule) → (first_rule T count L n r rules).answer ≡ Ok NoRule →
      Each (λ rule. (matching T L rule.context n).answer ≡ Ok false) rules
  unfolding done
  none_matches r [] is = tt
  none_matches r (rule ∷ rules) is =
      let b = came_before (matching T L rule.context n) (Tried r rule rules) NoRule is in
      by (none_matches (r + 1) rules) b.first b.is b.then
    where
      by : ((first_rule T count L n (r + 1) rules).answer ≡ Ok NoRule → Each (λ rule. (matching T L rule.context n).answer ≡ Ok false) rules) →
          (b : Bool) → (matching T L rule.context n).answer ≡ Ok b → (Tried r rule rules b).answer ≡ Ok NoRule →
          Each (λ rule. (matching T L rule.context n).answer ≡ Ok false) (rule ∷ rules)
      by after true matched h =
          let gs = came_before (fired_by T L n count rule.subject rule.lets rule.assertions) (λ findings. done (Fired r findings)) NoRule h in
          let bad : Fired r gs.first ≡ NoRule = same_ok {F = EvalFault} (Fired r gs.first) NoRule gs.then in absurd (cc)
      by after false refused h = (refused, after h)

  -- a fault is no answer
  pub no_fault : (r : ℕ) (rules : List PlanRule) (f : EvalFault) → (first_rule T count L n r rules).answer ≡ Ok (Fault f) → ⊥
  unfolding done
  no_fault r [] f is = let bad : NoRule ≡ Fault f = same_ok {F = EvalFault} NoRule (Fault f) is in absurd (cc)
  no_fault r (rule ∷ rules) f is =
      let b = came_before (matching T L rule.context n) (Tried r rule rules) (Fault f) is in
      by (no_fault (r + 1) rules f) b.first b.then
    where
      by : ((first_rule T count L n (r + 1) rules).answer ≡ Ok (Fault f) → ⊥) → (b : Bool) → (Tried r rule rules b).answer ≡ Ok (Fault f) → ⊥
      by after true h =
          let gs = came_before (fired_by T L n count rule.subject rule.lets rule.assertions) (λ findings. done (Fired r findings)) (Fault f) h in
          let bad : Fired r gs.first ≡ Fault f = same_ok {F = EvalFault} (Fired r gs.first) (Fault f) gs.then in absurd (cc)
      by after false h = after h

-- counted from 0
pub fires_first : (T : Table) (n : ℕ) (L : Lets) (count s : ℕ) (rules : List PlanRule) (fs : List Finding) →
    (first_rule T count L n 0 rules).answer ≡ Ok (Fired s fs) → FiresAlone T L n rules s fs
fires_first T n L count s rules fs is =
    let h = fires T n L count 0 s rules fs is in
    let place : h.behind ≡ s = omega (arith, h.place) in
    subst (λ r. FiresAlone T L n rules r fs) place h.fires
