use Rattle.std.proofs.Common.{◌≡◌, ◌-◌, ◌<◌, length, arith}
use Rattle.std.proofs.lemmas.Bool.Decides.{nat_tests}
use Rattle.xp_lexicon.proofs.Tokens.{begun, gone_on, ran_end, read_takes, ends_shorter, stopped, finished}
use Rattle.xp_lexicon.proofs.lexer.tokenize.Goals as goal

pub loop-rest-init : goal.loop-rest-init
loop-rest-init c = (
  c.after_run-rest.utf8,
  rw c.new-tokens.ensures.items (begun c.args.text.now c.after_run-rest.result.now c.after_run-rest.ensures),
)

pub returns-in_default : goal.returns-in_default
returns-in_default c =
    let reading = c.loop-rest.invariant.1 in
    let shorter = ends_shorter c.args.text.now c.loop-rest.rest.now reading.left in
    let some : 0 < length c.loop-rest.rest.now = grind (arith, nat_tests) in
    stopped c.args.text.now c.loop-rest.rest.now c.loop-rest.tokens.items c.loop-rest.behind_operand
    (length c.args.text.now - length c.loop-rest.rest.now) reading some c.in_default.ensures (omega arith)

pub loop-rest-smaller : goal.loop-rest-smaller
loop-rest-smaller c =
    let shorter = ends_shorter c.in-Some.taken.rest.now c.after_run-rest-in-loop-rest.result.now (ran_end _ _ c.after_run-rest-in-loop-rest.ensures) in
    let takes = read_takes c.loop-rest.behind_operand c.loop-rest.rest.now c.in-Some.taken.rest.now c.in-Some.taken.token c.in-Some.ensures in
    omega arith

pub loop-rest-preserved : goal.loop-rest-preserved
loop-rest-preserved c =
    let reading = c.loop-rest.invariant.1 in
    let shorter = ends_shorter c.args.text.now c.loop-rest.rest.now reading.left in (
      c.after_run-rest-in-loop-rest.utf8,
      rw (c.in_ok-push_token.ensures, c.ends_operand-behind_operand.ensures)
          (gone_on c.args.text.now c.loop-rest.rest.now c.in-Some.taken.rest.now c.after_run-rest-in-loop-rest.result.now c.loop-rest.tokens.items
          c.loop-rest.behind_operand (length c.args.text.now - length c.loop-rest.rest.now) c.in-Some.taken.token reading c.in-Some.ensures
          c.after_run-rest-in-loop-rest.ensures (omega arith)),
    )

pub returns : goal.returns
returns c =
    let none : length c.loop-rest.rest.now ≡ 0 = grind (arith, nat_tests) in
    finished c.args.text.now c.loop-rest.rest.now c.loop-rest.tokens.items c.loop-rest.behind_operand c.loop-rest.invariant.1 none
