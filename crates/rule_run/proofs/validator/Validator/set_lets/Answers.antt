use Rattle.std.proofs.Common.{◌+◌, ◌∙◌, ap, ap₂, sym, refl, drop, add-zero}
use Rattle.std.specs.Prelude.{Ok}
use Rattle.xp_outcome.specs.Slots.{slots_below}
use Rattle.xp_outcome.proofs.SlotLemmas.{put_undone}
use Rattle.xp_outcome.proofs.Runs.{onto_start, onto_alike, onto_late}
use Rattle.xp_eval.proofs.Runs.{onto_goes, onto_stops}
use Rattle.sch_units.specs.Firing.{fired_by}
use Rattle.rule_run.proofs.RuleLets.{sets_stop, lets-next, lets-end, next_slot, behind_count}
use Rattle.rule_run.proofs.validator.Validator.set_lets.Goals as goal

pub loop-i-init : goal.loop-i-init
loop-i-init g c = record {
  rest = λ subject xs. onto_alike (ap (λ k. fired_by c.args.self.now.caller.tree.now.nodes c.args.lets.now c.args.self.now.node k subject c.args.items.now xs) (sym (add-zero c.args.self.now.count))) (onto_start _ _ _);
  below = refl;
}

pub returns-in_err-value-clause-ran : goal.returns-in_err-value-clause-ran
returns-in_err-value-clause-ran g c =
    sets_stop _ _ _ _ _ _ _ _ c.from_residual.ensures.1 (λ subject xs. onto_stops _ _
    (lets-next c.args.self.now.caller.tree.now.nodes c.loop-i.lets c.args.self.now.node c.args.items.now c.loop-i.i (c.args.self.now.count + c.loop-i.i) subject xs c.index-items-i.result c.loop-i-test.true c.index-items-i.is)
    _ (c.loop-i.invariant.rest subject xs) c.in_err-value.ensures)

pub returns-in_err-set-clause-ran : goal.returns-in_err-set-clause-ran
returns-in_err-set-clause-ran g c =
    sets_stop _ _ _ _ _ _ _ _ c.from_residual-in_err-set.ensures.1 (λ subject xs. onto_late (onto_goes _ _
    (lets-next c.args.self.now.caller.tree.now.nodes c.loop-i.lets c.args.self.now.node c.args.items.now c.loop-i.i (c.args.self.now.count + c.loop-i.i) subject xs c.index-items-i.result c.loop-i-test.true c.index-items-i.is)
    (c.loop-i.invariant.rest subject xs) c.in_ok-value.ensures))

pub returns-in_err-set-clause-below : goal.returns-in_err-set-clause-below
returns-in_err-set-clause-below g c = ap (slots_below c.args.self.now.count) c.in_err-set.ensures.unchanged ∙ c.loop-i.invariant.below

pub loop-i-preserved : goal.loop-i-preserved
loop-i-preserved g c = record {
  rest = λ subject xs. onto_alike
      (ap₂ (λ M k. fired_by c.args.self.now.caller.tree.now.nodes M c.args.self.now.node k subject (drop (c.loop-i.i + 1) c.args.items.now) xs) (sym c.in_ok-set.ensures.set) (next_slot c.args.self.now.count c.loop-i.i))
      (onto_goes _ _
      (lets-next c.args.self.now.caller.tree.now.nodes c.loop-i.lets c.args.self.now.node c.args.items.now c.loop-i.i (c.args.self.now.count + c.loop-i.i) subject xs c.index-items-i.result c.loop-i-test.true c.index-items-i.is)
      (c.loop-i.invariant.rest subject xs) c.in_ok-value.ensures);
  below = ap (slots_below c.args.self.now.count) c.in_ok-set.ensures.set
      ∙ put_undone c.loop-i.lets (c.args.self.now.count + c.loop-i.i) c.args.self.now.count (Ok c.in_ok-value.value) (behind_count c.args.self.now.count c.loop-i.i)
      ∙ c.loop-i.invariant.below;
}

pub returns-clause-ran : goal.returns-clause-ran
returns-clause-ran g c = λ subject xs.
    onto_alike (lets-end c.args.self.now.caller.tree.now.nodes c.loop-i.lets c.args.self.now.node c.args.items.now c.loop-i.i (c.args.self.now.count + c.loop-i.i) subject xs c.loop-i-test.false) (c.loop-i.invariant.rest subject xs)
