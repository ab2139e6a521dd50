use Rattle.std.proofs.Common.{◌≡◌, ◌-◌, length, vec_len, arith, rules, refl, ap, ap₂, sym, ◌∙◌, map, eqb-true}
use Rattle.std.specs.Prelude.{slice_get}
use Rattle.std.proofs.lemmas.List.{nil_from_length}
use Rattle.xp_outcome.proofs.Runs.{ran_alike, ran_bind, ran_done, ran_late, ran_stop}
use Rattle.xp_meaning.proofs.Exits.{exit_same, exit_memory, ran_done_at}
use Rattle.xp_typed_tree.specs.TypedView.{pattern_step_seen}
use Rattle.xslt_match.specs.Matching.{chains}
use Rattle.xslt_match.proofs.Chaining.{chains-next, chains-empty, alive-next, typed-next}
use Rattle.xslt_match.proofs.Keeping.{headed_left, left_next, numbered}
use Rattle.xslt_match.proofs.matching.Matcher.+chains.Goals as goal

pub returns-in_default-clause-ran : goal.returns-in_default-clause-ran
returns-in_default-clause-ran g t c =
    ran_alike (ap (λ ss. chains c.args.self.now.evaluator.caller.tree.now.nodes c.args.self.now.evaluator.lets.now c.args.self.now.node (map pattern_step_seen ss) c.args.front.now.nodes.now c.args.front.now.alive.now) (nil_from_length c.args.front.now.later.now c.in_default.ensures.cases))
    (ran_done_at _ _ _ c.is_among.ensures)

pub standing-requires-clause-axis : goal.standing-requires-clause-axis
standing-requires-clause-axis g t c = (typed-next c.args.front.now.later.now c.in-Some.step.now c.in-Some.rest.now c.in-Some.ensures.cases.0 c.requires.placed.typed).0

pub standing-requires-clause-later : goal.standing-requires-clause-later
standing-requires-clause-later g t c = (typed-next c.args.front.now.later.now c.in-Some.step.now c.in-Some.rest.now c.in-Some.ensures.cases.0 c.requires.placed.typed).2

pub led_to-requires : goal.led_to-requires
led_to-requires g t c = (typed-next c.args.front.now.later.now c.in-Some.step.now c.in-Some.rest.now c.in-Some.ensures.cases.0 c.requires.placed.typed).0

pub returns-in_err-nodes-clause-ran : goal.returns-in_err-nodes-clause-ran
returns-in_err-nodes-clause-ran g t c = exit_memory _ c.from_residual.ensures.1 (ran_late _ _ _)

pub returns-then-is_empty-clause-ran : goal.returns-then-is_empty-clause-ran
returns-then-is_empty-clause-ran g t c =
    ran_alike (chains-empty c.args.self.now.evaluator.caller.tree.now.nodes c.args.self.now.node c.args.self.now.evaluator.lets.now c.args.front.now.later.now c.in-Some.step.now c.in-Some.rest.now c.args.front.now.nodes.now
    c.in_ok-nodes.nodes c.args.front.now.alive.now c.in-Some.ensures.cases.0 c.in_ok-nodes.ensures.is
    (nil_from_length c.in_ok-nodes.nodes (eqb-true _ _ (sym c.is_empty.ensures ∙ c.if-is_empty.true))))
    (ran_done _ _ _)

pub survivors-requires-clause-placed : goal.survivors-requires-clause-placed
survivors-requires-clause-placed g t c =
    let count : vec_len c.args.front.now.at.path.now.steps ≡ length c.args.front.now.at.path.now.steps.items = omega (arith, c.args.front.now.at.path.now.steps.ok.0) in
    let h = headed_left c.args.front.now.at.path.now.steps.items c.args.front.now.later.now c.in-Some.step.now c.in-Some.rest.now c.requires.placed.later c.in-Some.ensures.cases.0 in
    record {
      there = numbered c.args.self.now.pattern.now c.args.front.now.at.number (c.len.result - length c.args.front.now.later.now) c.args.front.now.at.path.now c.in-Some.step.now c.requires.placed.there
          (ap (λ n. slice_get c.args.front.now.at.path.now.steps.items (n - length c.args.front.now.later.now)) (c.len.ensures ∙ count) ∙ h.first);
      typed = (typed-next c.args.front.now.later.now c.in-Some.step.now c.in-Some.rest.now c.in-Some.ensures.cases.0 c.requires.placed.typed).1;
    }

pub returns-in_err-left-clause-ran : goal.returns-in_err-left-clause-ran
returns-in_err-left-clause-ran g t c =
    exit_same _ _ c.from_residual-in_err-left.ensures.1 (ran_alike (chains-next c.args.self.now.evaluator.caller.tree.now.nodes c.args.self.now.evaluator.lets.now c.args.self.now.node c.args.front.now.later.now c.in-Some.step.now c.in-Some.rest.now c.args.front.now.nodes.now c.in_ok-nodes.nodes c.as_slice.result.now c.args.front.now.alive.now
    c.in-Some.ensures.cases.0 c.in_ok-nodes.ensures.is c.as_slice.ensures)
    (ran_stop _ _ c.in_err-left.ensures.ran))

pub returns-in_err-alive-clause-ran : goal.returns-in_err-alive-clause-ran
returns-in_err-alive-clause-ran g t c =
    exit_memory _ c.from_residual-in_err-alive.ensures.1 (ran_alike (chains-next c.args.self.now.evaluator.caller.tree.now.nodes c.args.self.now.evaluator.lets.now c.args.self.now.node c.args.front.now.later.now c.in-Some.step.now c.in-Some.rest.now c.args.front.now.nodes.now c.in_ok-nodes.nodes c.as_slice.result.now c.args.front.now.alive.now
    c.in-Some.ensures.cases.0 c.in_ok-nodes.ensures.is c.as_slice.ensures)
    (ran_bind _ c.in_ok-left.ensures.ran (ran_late _ _ _)))

pub returns-clause-ran : goal.returns-clause-ran
returns-clause-ran g t c =
    ran_alike (chains-next c.args.self.now.evaluator.caller.tree.now.nodes c.args.self.now.evaluator.lets.now c.args.self.now.node c.args.front.now.later.now c.in-Some.step.now c.in-Some.rest.now c.args.front.now.nodes.now c.in_ok-nodes.nodes c.as_slice.result.now c.args.front.now.alive.now
    c.in-Some.ensures.cases.0 c.in_ok-nodes.ensures.is c.as_slice.ensures)
    (ran_bind _ c.in_ok-left.ensures.ran (ran_alike
    (ap₂ (chains c.args.self.now.evaluator.caller.tree.now.nodes c.args.self.now.evaluator.lets.now c.args.self.now.node (map pattern_step_seen c.in-Some.rest.now)) (sym c.as_slice-3.ensures)
    (alive-next c.args.self.now.evaluator.caller.tree.now.nodes (pattern_step_seen c.in-Some.step.now) c.args.front.now.alive.now c.args.front.now.alive.now c.in_ok-left.left c.as_slice-2.result.now c.in_ok-alive.alive
    refl c.as_slice-2.ensures c.in_ok-alive.ensures ∙ sym c.as_slice-4.ensures))
    c.chains.ensures.ran))

pub chains-requires : goal.chains-requires
chains-requires g t c = λ κs within. (
  search rules,
  (
    search rules,
    (
      c.requires.lives,
      (
        c.requires.way,
        (
          record {
            there = c.requires.placed.there;
            typed = (typed-next c.args.front.now.later.now c.in-Some.step.now c.in-Some.rest.now c.in-Some.ensures.cases.0 c.requires.placed.typed).2;
            later = left_next c.args.front.now.at.path.now.steps.items c.args.front.now.later.now c.in-Some.step.now c.in-Some.rest.now c.requires.placed.later c.in-Some.ensures.cases.0;
          },
          c.survivors.ensures.kept,
        ),
      ),
    ),
  ),
)
