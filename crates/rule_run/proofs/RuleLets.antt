-- The lets of a rule, and its rules, one after another.
use Rattle.std.proofs.Common.{◌≡◌, ℕ, zero, suc, ◌+◌, ◌-◌, ◌<◌, ◌≤◌, false, List, [], ◌∷◌, Result, Ok, Err, refl, sym, ap, subst, drop, length, get_or, if◌then◌else◌, add-zero, zero-add, arith}
use Rattle.std.specs.Prelude.{Option, Some, slice_get}
use Rattle.std.specs.Result.{IsErrAnd}
use Rattle.std.proofs.lemmas.List.{length-drop}
use Rattle.doc_tree.specs.Table.{Table}
use Rattle.xp_typed_tree.specs.TypedTree.{TypedTree}
use Rattle.xp_outcome.specs.Evaluation.{bind, done}
use Rattle.xp_outcome.specs.Recorded.{Recorded}
use Rattle.xp_outcome.specs.Running.{Ran}
use Rattle.xp_outcome.specs.Slots.{with_slot}
use Rattle.xp_outcome.proofs.Runs.{next_item, no_item, ran_bind, ran_done, ran_moved}
use Rattle.xp_values.specs.declared.values.EvalError.{EvalError}
use Rattle.xp_meaning.specs.Evaluation.{Lets, meaning}
use Rattle.xp_meaning.specs.Results.{stop_of}
use Rattle.sch_compiled.specs.declared.parts.PlanLet.{PlanLet}
use Rattle.sch_compiled.specs.declared.parts.PlanAssert.{PlanAssert}
use Rattle.sch_compiled.specs.declared.parts.PlanRule.{PlanRule}
use Rattle.sch_compiled.specs.declared.findings.Outcome.TheVariants.{NoRule, Fired}
use Rattle.xslt_match.specs.Matching.{matching}
use Rattle.xslt_match.specs.Names.{HoldsNames}
use Rattle.sch_units.specs.Messages.{alone}
use Rattle.sch_units.specs.Firing.{all_asserted, fired_by, first_rule}
use Rattle.rule_run.specs.Classes.{IsPassedOver}
use Rattle.rule_run.specs.inner.Setting.{SetsLets}

-- `?` hands on an error: the setting of lets stopped
pub sets_stop : (T : Table) (n slot : ℕ) (items : List PlanLet) (L M : Lets) (r : Result (Unit {0}) EvalError) (e : EvalError) {held now : Recorded} {before after : ℕ} →
    IsErrAnd r (λ d. d ≡ e) → ((subject : Option TypedTree) (assertions : List PlanAssert) → Ran (fired_by T L n slot subject items assertions) (Err (stop_of e)) held now before after) →
    SetsLets T n slot items L M r held now before after
sets_stop T n slot items L M (Ok v) e h go = absurd h
sets_stop T n slot items L M (Err d) e {held} {now} {before} {after} h go =
    λ subject assertions. subst (λ x. Ran (fired_by T L n slot subject items assertions) (Err (stop_of x)) held now before after) (sym h) (go subject assertions)

-- the item of a list at a place
pub item_there : {X : Type 0} (xs : List X) (i : ℕ) (x : X) → i < length xs → x ≡ get_or xs i x → slice_get xs i ≡ Some x
item_there [] i x below is = absurd (omega (arith, below))
item_there (y ∷ xs) zero x below is = ap Some (sym is)
item_there (y ∷ xs) (suc i) x below is = item_there xs i x (omega (arith, below)) is

-- the next let of a rule, and the end
module _ (T : Table) (L : Lets) (n : ℕ) (items : List PlanLet) (i slot : ℕ) (subject : Option TypedTree) (assertions : List PlanAssert) where
  pub lets-next : (item : PlanLet) → i < length items → item ≡ get_or items i item →
      fired_by T L n slot subject (drop i items) assertions
      ≡ bind (meaning T L item.expr (alone n)) (λ v. fired_by T (with_slot L slot (Ok v)) n (slot + 1) subject (drop (i + 1) items) assertions)
  lets-next item below is = ap (λ ts. fired_by T L n slot subject ts assertions) (next_item items i item below is)

  pub lets-end : length items ≤ i → fired_by T L n slot subject (drop i items) assertions ≡ all_asserted T L n subject assertions
  lets-end past = ap (λ ts. fired_by T L n slot subject ts assertions) (no_item items i past)

-- the next rule, and the end
module _ (T : Table) (count : ℕ) (L : Lets) (n : ℕ) (rules : List PlanRule) (i : ℕ) where
  pub rules-next : (rule : PlanRule) → i < length rules → rule ≡ get_or rules i rule →
      first_rule T count L n i (drop i rules)
      ≡ bind (matching T L rule.context n) (λ matches.
      if matches then bind (fired_by T L n count rule.subject rule.lets rule.assertions) (λ findings. done (Fired i findings))
      else first_rule T count L n (i + 1) (drop (i + 1) rules))
  rules-next rule below is = ap (first_rule T count L n i) (next_item rules i rule below is)

  pub rules-end : length rules ≤ i → first_rule T count L n i (drop i rules) ≡ done NoRule
  rules-end past = ap (first_rule T count L n i) (no_item rules i past)

-- an item behind the first of a list
dropped_there : {X : Type 0} (i : ℕ) (xs : List X) (k : ℕ) (x : X) → slice_get (drop i xs) k ≡ Some x → slice_get xs (i + k) ≡ Some x
dropped_there zero xs k x is = subst (λ j. slice_get xs j ≡ Some x) (sym (zero-add k)) is
dropped_there (suc i) [] k x is = absurd (cc)
dropped_there (suc i) (y ∷ xs) k x is =
    let next : suc (i + k) ≡ suc i + k = omega arith in subst (λ j. slice_get (y ∷ xs) j ≡ Some x) next (dropped_there i xs k x is)

-- where all rules that are left are passed over, none fires: that is one visit for each
module _ (T : Table) (count : ℕ) (L : Lets) (n levels : ℕ) (held : Recorded) (names : HoldsNames T n levels held) where
  all_refused : (rules : List PlanRule) (i taken : ℕ) → ((k : ℕ) (rule : PlanRule) → slice_get rules k ≡ Some rule → IsPassedOver T L rule.context levels n) →
      Ran (first_rule T count L n i rules) (Ok NoRule) held held taken (taken + length rules)
  all_refused [] i taken each = ran_moved refl refl refl (add-zero taken) (ran_done NoRule held taken)
  all_refused (rule ∷ rules) i taken each =
      let one_more : taken + suc (length rules) ≡ (taken + 1) + length rules = omega arith in
      ran_moved refl refl refl one_more
      (ran_bind (λ matches.
      if matches then bind (fired_by T L n count rule.subject rule.lets rule.assertions) (λ findings. done (Fired i findings))
      else first_rule T count L n (i + 1) rules) {v = false} (each zero rule refl held taken names) (all_refused rules (i + 1) (taken + 1) (λ k. each (suc k))))

  pub rules-refused : (rules : List PlanRule) (i taken : ℕ) → ((k : ℕ) (rule : PlanRule) → i ≤ k → slice_get rules k ≡ Some rule → IsPassedOver T L rule.context levels n) →
      Ran (first_rule T count L n i (drop i rules)) (Ok NoRule) held held taken (taken + (length rules - i))
  rules-refused rules i taken each =
      subst (λ k. Ran (first_rule T count L n i (drop i rules)) (Ok NoRule) held held taken (taken + k)) (length-drop i rules)
      (all_refused (drop i rules) i taken (λ k rule there. each (i + k) rule (omega arith) (dropped_there i rules k rule there)))

-- slots behind those of some lets
pub next_slot : (count i : ℕ) → (count + i) + 1 ≡ count + (i + 1)
next_slot count i = omega arith

pub behind_count : (count i : ℕ) → count ≤ count + i
behind_count count i = omega arith
