use Rattle.std.proofs.Common.{[], ◌∷◌, ◌++◌, refl, sym, ◌∙◌, ap, subst, arith}
use Rattle.sch_base.specs.declared.limits.TheConstants.{MAX_NESTING}
use Rattle.xp_tree.specs.declared.terms.Level.TheVariants as level
use Rattle.xp_grammar.specs.declared.token.Token.TheVariants as token
use Rattle.xp_grammar.specs.inner.Machine.{full, need_test}
use Rattle.xp_tree.specs.View.{tree_of}
use Rattle.xp_parse.specs.inner.Places.{StandsFirst}
use Rattle.xp_parse.specs.inner.Parsing.{Leads, too_deep, inside_fails}
use Rattle.xp_parse.proofs.Exits.{exits}
use Rattle.xp_parse.proofs.Failing.{took_of, took_shorter, first_same, first_there, there_on, there_shorter, stuck_at_end, stuck_at_first}
use Rattle.xp_parse.proofs.Chains.{operand_of_chain, operand_of_path, chain_rest_fails, chain_alone, chain_read, operands_start, operands_fail, operands_more, operands_read, signed_fails, unsigned_read, signed_read, signs_length, weight_small}
use Rattle.xp_parse.proofs.Paths.{root_read, root_fails, root_steps_read, anywhere_fails, anywhere_read, here_fails, here_read, filter_fails, filter_alone_read, filter_path_read, base_fails, bare_filter_read, filter_read, lead_shorter, more_steps_fail, steps_more, more_steps_read, steps_read, dot_read, parent_read, at_steps, axis_steps, axis_fails, no_step_begins, child_steps, test_token, test_fails, predicates_stop, predicates_more, predicates_read}
use Rattle.xp_parse.proofs.NodeTests.{test_refused}
use Rattle.xp_parse.proofs.Primaries.{end_fails, no_primary, variable_read, literal_read, number_read, parens_closed, enclosed_read, call_too_nested, call_unopened, call_fails, call_unclosed, call_read, no_arguments_read, first_fails, arguments_read, arguments_start, argument_fails, arguments_more, more_arguments_read, fails_suc, arguments_suc, operand_fails_suc, chain_suc}
use Rattle.xp_parse.proofs.parser.Parser.+parser.Goals as goal

pub arguments-returns-then-is_at : goal.arguments-returns-then-is_at
arguments-returns-then-is_at n c = no_arguments_read MAX_NESTING _ _ _ c.if-is_at.ensures c.new.ensures.items

pub arguments-returns-in_err-first : goal.arguments-returns-in_err-first
arguments-returns-in_err-first n c =
    exits _ _ _ c.in_err-first.field-0.0 c.from_residual.ensures.1 (first_fails MAX_NESTING _ _ _ _ c.if-is_at.ensures c.in_err-first.ensures)

pub arguments-returns : goal.arguments-returns
arguments-returns n c =
    let r = c.in_ok-first.ensures in
    arguments_read MAX_NESTING _ _ _ _ _ _ r (c.more_arguments.ensures r.reads.ending r.reads.settled r.reads.quiet)

pub call-returns-then-depth-ge-MAX_NESTING : goal.call-returns-then-depth-ge-MAX_NESTING
call-returns-then-depth-ge-MAX_NESTING n c = call_too_nested MAX_NESTING _ _ _ c.if-depth-ge-MAX_NESTING.true c.requires.first

pub call-returns-in_err-take : goal.call-returns-in_err-take
call-returns-in_err-take n c =
    let f = c.requires.first in
    exits _ _ _ c.in_err-take.field-0.0 c.from_residual.ensures.1
    (call_unopened MAX_NESTING _ _ _ _ _ _ (omega (arith, c.if-depth-ge-MAX_NESTING.false)) (took_of _ _ _ f (c.advance.ensures f.placed f.rest f.is)) c.in_err-take.ensures)

pub call-returns-in_err-args : goal.call-returns-in_err-args
call-returns-in_err-args n c =
    let f = c.requires.first in
    exits _ _ _ c.in_err-args.field-0.0 c.from_residual-in_err-args.ensures.1
    (call_fails MAX_NESTING _ _ _ _ _ _ _ (omega (arith, c.if-depth-ge-MAX_NESTING.false)) (took_of _ _ _ f (c.advance.ensures f.placed f.rest f.is)) c.in_ok-take.ensures (fails_suc _ _ _ _ _ _ c.in_err-args.ensures))

pub call-returns-in_err-take-2 : goal.call-returns-in_err-take-2
call-returns-in_err-take-2 n c = let f = c.requires.first in
    exits _ _ _ c.in_err-take-2.field-0.0 c.from_residual-in_err-take-2.ensures.1
    (call_unclosed MAX_NESTING _ _ _ _ _ _ _ _ _ (omega (arith, c.if-depth-ge-MAX_NESTING.false)) (took_of _ _ _ f (c.advance.ensures f.placed f.rest f.is)) c.in_ok-take.ensures (arguments_suc _ _ _ _ _ c.in_ok-args.ensures) c.in_err-take-2.ensures)

pub call-returns : goal.call-returns
call-returns n c =
    let f = first_same _ _ _ (ap token.Function (sym (c.in_ok-name.ensures ∙ c.as_str.ensures))) c.requires.first in
    call_read MAX_NESTING c.args.depth _ _ _ _ _ _ _ _ _ (omega (arith, c.if-depth-ge-MAX_NESTING.false)) (took_of _ _ _ f (c.advance.ensures f.placed f.rest f.is)) c.in_ok-take.ensures (arguments_suc _ _ _ _ _ c.in_ok-args.ensures) c.in_ok-take-2.ensures c.offset-offset.ensures c.call.ensures

pub chain-returns-in_err-rest : goal.chain-returns-in_err-rest
chain-returns-in_err-rest n c =
    let r = c.in_ok-first.ensures in
    exits _ _ _ c.in_err-rest.field-0.0 c.from_residual-in_err-rest.ensures.1
    (chain_rest_fails MAX_NESTING _ _ _ _ _ _ _ r (c.in_err-rest.ensures r.reads.ending r.reads.settled r.reads.quiet))

pub chain-returns-in_default : goal.chain-returns-in_default
chain-returns-in_default n c = chain_alone MAX_NESTING _ _ _ _ _ c.in_ok-first.ensures c.in_default.ensures

pub chain-returns : goal.chain-returns
chain-returns n c =
    let r = c.in_ok-first.ensures in
    chain_read MAX_NESTING _ _ _ _ _ _ _ _ _ _ _ r c.in-Some.ensures (c.in_ok-rest.ensures r.reads.ending r.reads.settled r.reads.quiet) c.offset-offset.ensures
    (ap tree_of c.in_ok-first-2.ensures.ok) (c.at_level.ensures ∙ c.new-2.ensures c.args.level)

pub enclosed-returns-then-depth-ge-MAX_NESTING : goal.enclosed-returns-then-depth-ge-MAX_NESTING
enclosed-returns-then-depth-ge-MAX_NESTING n c = too_deep c.if-depth-ge-MAX_NESTING.true refl refl

pub enclosed-chain-requires : goal.enclosed-chain-requires
enclosed-chain-requires n c =
    let f = c.requires.first in let shorter = there_shorter _ _ f (c.advance.ensures f.placed f.rest f.is) in
    (omega (arith, c.decreases, shorter), omega (arith, c.if-depth-ge-MAX_NESTING.false))

pub enclosed-returns-in_err-inner : goal.enclosed-returns-in_err-inner
enclosed-returns-in_err-inner n c =
    let f = c.requires.first in
    exits _ _ _ c.in_err-inner.field-0.0 c.from_residual.ensures.1
    (inside_fails f.placed _ (there_on _ _ f (c.advance.ensures f.placed f.rest f.is)) (omega (arith, c.if-depth-ge-MAX_NESTING.false)) (operand_fails_suc _ _ _ _ _ _ c.in_err-inner.ensures))

pub enclosed-returns : goal.enclosed-returns
enclosed-returns n c =
    let f = c.requires.first in
    enclosed_read MAX_NESTING _ _ _ _ _ _ f.placed _ _ (there_on _ _ f (c.advance.ensures f.placed f.rest f.is)) (omega (arith, c.if-depth-ge-MAX_NESTING.false)) (chain_suc _ _ _ _ _ _ c.in_ok-inner.ensures) c.take_behind.ensures

pub filter-returns-in_err-predicates : goal.filter-returns-in_err-predicates
filter-returns-in_err-predicates n c =
    exits _ _ _ c.in_err-predicates.field-0.0 c.from_residual-in_err-predicates.ensures.1
    (base_fails MAX_NESTING _ _ _ _ _ _ c.requires.depth c.in_ok-base.ensures c.in_err-predicates.ensures)

pub filter-returns-then-not-is_at : goal.filter-returns-then-not-is_at
filter-returns-then-not-is_at n c = bare_filter_read MAX_NESTING _ _ _ _ c.in_ok-base.ensures (subst (StandsFirst _ _) c.if-not-is_at.true c.is_at.ensures)

pub filter-returns : goal.filter-returns
filter-returns n c =
    filter_read MAX_NESTING _ _ _ _ _ _ _ _ _ c.in_ok-base.ensures (subst (StandsFirst _ _) c.if-not-is_at.false c.is_at.ensures)
    c.offset-offset.ensures c.in_ok-predicates.ensures (ap tree_of c.in_ok-base-2.ensures.ok) c.filtered.ensures

pub from_anywhere-returns-in_err-steps : goal.from_anywhere-returns-in_err-steps
from_anywhere-returns-in_err-steps n c =
    let f = c.requires.first in
    exits _ _ _ c.in_err-steps.field-0.0 c.from_residual-in_err-steps.ensures.1
    (anywhere_fails MAX_NESTING _ _ _ _ _ c.requires.depth (took_of _ _ _ f (c.advance.ensures f.placed f.rest f.is)) c.in_err-steps.ensures)

pub from_anywhere-returns : goal.from_anywhere-returns
from_anywhere-returns n c =
    let f = c.requires.first in
    anywhere_read MAX_NESTING _ _ _ _ _ _ _ _ c.everywhere.result c.requires.depth (took_of _ _ _ f (c.advance.ensures f.placed f.rest f.is)) c.offset-offset.ensures (c.in_ok-push.ensures.items ∙ ap (λ l. l ++ c.everywhere.result ∷ []) c.new-steps.ensures.items) c.everywhere.ensures c.in_ok-steps.ensures c.from_root.ensures

pub from_filter-returns-in_err-steps : goal.from_filter-returns-in_err-steps
from_filter-returns-in_err-steps n c =
    exits _ _ _ c.in_err-steps.field-0.0 c.from_residual-in_err-steps.ensures.1
    (filter_fails MAX_NESTING _ _ _ _ _ _ c.requires.depth c.in_ok-base.ensures (c.in_err-steps.ensures full c.in_ok-base.ensures.closed))

pub from_filter-returns-then-not-at_slash : goal.from_filter-returns-then-not-at_slash
from_filter-returns-then-not-at_slash n c = filter_alone_read MAX_NESTING _ _ _ _ c.requires.depth c.in_ok-base.ensures (sym c.at_slash.ensures ∙ c.if-not-at_slash.true)

pub from_filter-returns : goal.from_filter-returns
from_filter-returns n c =
    filter_path_read MAX_NESTING _ _ _ _ _ _ _ _ _ _ c.requires.depth c.in_ok-base.ensures (sym c.at_slash.ensures ∙ c.if-not-at_slash.false) c.offset-offset.ensures
    c.new-steps.ensures.items (c.in_ok-steps.ensures full c.in_ok-base.ensures.closed) (ap tree_of c.in_ok-base-2.ensures.ok) c.from_nodes.ensures

pub from_here-returns-in_err-steps : goal.from_here-returns-in_err-steps
from_here-returns-in_err-steps n c =
    exits _ _ _ c.in_err-steps.field-0.0 c.from_residual.ensures.1 (here_fails MAX_NESTING _ _ _ _ c.requires.depth c.requires.first c.in_err-steps.ensures)

pub from_here-returns : goal.from_here-returns
from_here-returns n c =
    here_read MAX_NESTING _ _ _ _ _ _ _ c.requires.depth c.requires.first c.offset-offset.ensures c.new-steps.ensures.items c.in_ok-steps.ensures c.from_here.ensures

pub from_root-returns-then-not-at_step : goal.from_root-returns-then-not-at_step
from_root-returns-then-not-at_step n c =
    let f = c.requires.first in
    root_read MAX_NESTING _ _ _ _ _ _ c.requires.depth (took_of _ _ _ f (c.advance.ensures f.placed f.rest f.is)) (sym c.at_step.ensures ∙ c.if-not-at_step.true) c.offset-offset.ensures c.new-steps.ensures.items c.from_root.ensures

pub from_root-returns-in_err-steps : goal.from_root-returns-in_err-steps
from_root-returns-in_err-steps n c =
    let f = c.requires.first in
    exits _ _ _ c.in_err-steps.field-0.0 c.from_residual.ensures.1
    (root_fails MAX_NESTING _ _ _ _ _ c.requires.depth (took_of _ _ _ f (c.advance.ensures f.placed f.rest f.is)) (sym c.at_step.ensures ∙ c.if-not-at_step.false) c.in_err-steps.ensures)

pub from_root-returns : goal.from_root-returns
from_root-returns n c =
    let f = c.requires.first in
    root_steps_read MAX_NESTING _ _ _ _ _ _ _ _ c.requires.depth (took_of _ _ _ f (c.advance.ensures f.placed f.rest f.is)) (sym c.at_step.ensures ∙ c.if-not-at_step.false) c.offset-offset.ensures c.new-steps.ensures.items c.in_ok-steps.ensures c.from_root-2.ensures

pub more_arguments-loop-self-init : goal.more_arguments-loop-self-init
more_arguments-loop-self-init n c =
    (omega arith, λ e settled quiet. arguments_start MAX_NESTING _ e _ _ _ (c.in_ok-push.ensures.items ∙ ap (λ l. l ++ c.args.first ∷ []) c.new-found.ensures.items) settled quiet)

pub more_arguments-chain-requires : goal.more_arguments-chain-requires
more_arguments-chain-requires n c =
    let f = c.loop-self-test.ensures in
    let shorter = took_shorter _ _ _ (took_of _ _ _ f (c.advance.ensures f.placed f.rest f.is)) in
    (omega (arith, c.decreases, c.loop-self.invariant.0, shorter), c.requires)

pub more_arguments-returns-in_err-argument : goal.more_arguments-returns-in_err-argument
more_arguments-returns-in_err-argument n c =
    let f = c.loop-self-test.ensures in
    λ e settled quiet. exits _ _ _ c.in_err-argument.field-0.0 c.from_residual-in_err-argument.ensures.1
    (argument_fails MAX_NESTING _ e _ _ _ _ _ _ _ c.requires (c.loop-self.invariant.1 e settled quiet) (took_of _ _ _ f (c.advance.ensures f.placed f.rest f.is)) c.in_err-argument.ensures)

pub more_arguments-loop-self-preserved : goal.more_arguments-loop-self-preserved
more_arguments-loop-self-preserved n c =
    let f = c.loop-self-test.ensures in
    let t = (took_of _ _ _ f (c.advance.ensures f.placed f.rest f.is)) in let shorter = took_shorter _ _ _ t in (
      omega (arith, c.loop-self.invariant.0, shorter, c.in_ok-argument.ensures.reads.shorter),
      λ e settled quiet. arguments_more MAX_NESTING _ e _ _ _ _ _ _ _ _ c.requires (c.loop-self.invariant.1 e settled quiet) t c.in_ok-argument.ensures c.in_ok-push-2.ensures.items,
    )

pub more_arguments-returns : goal.more_arguments-returns
more_arguments-returns n c =
    λ e settled quiet. more_arguments_read MAX_NESTING _ e _ _ _ _ (c.loop-self.invariant.1 e settled quiet) c.loop-self-test.ensures

pub more_steps-step-requires : goal.more_steps-step-requires
more_steps-step-requires n c =
    let shorter = lead_shorter _ _ _ _ (subst (Leads _ _ _ _) c.if-branch.true c.in_ok-lead.ensures) in
    (omega (arith, c.decreases, c.loop-found.invariant.0, shorter), c.requires)

pub more_steps-returns-in_err-step : goal.more_steps-returns-in_err-step
more_steps-returns-in_err-step n c =
    λ e closed. exits _ _ _ c.in_err-step.field-0.0 c.from_residual-in_err-step.ensures.1
    (more_steps_fail MAX_NESTING _ e _ _ _ _ _ _ _ _ c.requires (c.loop-found.invariant.1 e closed) (subst (Leads _ _ _ _) c.if-branch.true c.in_ok-lead.ensures) c.in_err-step.ensures)

pub more_steps-loop-found-preserved : goal.more_steps-loop-found-preserved
more_steps-loop-found-preserved n c =
    let shorter = lead_shorter _ _ _ _ (subst (Leads _ _ _ _) c.if-branch.true c.in_ok-lead.ensures) in (
      omega (arith, c.loop-found.invariant.0, shorter, c.in_ok-step.ensures.shorter),
      λ e closed. steps_more MAX_NESTING _ e _ _ _ _ _ _ _ _ _ c.requires (c.loop-found.invariant.1 e closed) (subst (Leads _ _ _ _) c.if-branch.true c.in_ok-lead.ensures) c.in_ok-step.ensures c.in_ok-push.ensures.items,
    )

pub more_steps-returns : goal.more_steps-returns
more_steps-returns n c =
    λ e closed. more_steps_read MAX_NESTING _ e _ _ _ _ _ _ (c.loop-found.invariant.1 e closed) (subst (Leads _ _ _ _) c.if-branch.false c.in_ok-lead.ensures)

pub operand-returns-in-Or : goal.operand-returns-in-Or
operand-returns-in-Or n c = operand_of_chain MAX_NESTING _ level.Or level.And _ _ _ _ c.in-Or.is refl refl (λ b t. tt) c.chain.ensures

pub operand-returns-in-And : goal.operand-returns-in-And
operand-returns-in-And n c = operand_of_chain MAX_NESTING _ level.And level.Equal _ _ _ _ c.in-And.is refl refl (λ b t. tt) c.chain-in-And.ensures

pub operand-returns-in-Equal : goal.operand-returns-in-Equal
operand-returns-in-Equal n c = operand_of_chain MAX_NESTING _ level.Equal level.Rel _ _ _ _ c.in-Equal.is refl refl (λ b t. tt) c.chain-in-Equal.ensures

pub operand-returns-in-Rel : goal.operand-returns-in-Rel
operand-returns-in-Rel n c = operand_of_chain MAX_NESTING _ level.Rel level.Sum _ _ _ _ c.in-Rel.is refl refl (λ b t. tt) c.chain-in-Rel.ensures

pub operand-returns-in-Sum : goal.operand-returns-in-Sum
operand-returns-in-Sum n c = operand_of_chain MAX_NESTING _ level.Sum level.Prod _ _ _ _ c.in-Sum.is refl refl (λ b t. tt) c.chain-in-Sum.ensures

pub operand-returns-in-Union : goal.operand-returns-in-Union
operand-returns-in-Union n c = operand_of_path MAX_NESTING _ _ _ _ _ c.in-Union.is c.path.ensures

pub operands-loop-operator-init : goal.operands-loop-operator-init
operands-loop-operator-init n c = (omega arith, λ e settled quiet. operands_start MAX_NESTING _ _ e _ _ c.new-found.ensures.items settled quiet)

pub operands-operand-requires : goal.operands-operand-requires
operands-operand-requires n c =
    let o = c.in-Some.ensures in let f = o.first in
    let shorter = took_shorter _ _ _ (took_of _ _ _ f (c.advance.ensures f.placed f.rest f.is)) in let small = weight_small c.args.level in
    (omega (arith, c.decreases, c.loop-operator.invariant.0, shorter, small), c.requires)

pub operands-returns-in_err-operand : goal.operands-returns-in_err-operand
operands-returns-in_err-operand n c =
    let o = c.in-Some.ensures in let f = o.first in
    λ e settled quiet. exits _ _ _ c.in_err-operand.field-0.0 c.from_residual.ensures.1
    (operands_fail MAX_NESTING _ _ e _ _ _ _ _ _ _ c.requires (c.loop-operator.invariant.1 e settled quiet) (took_of _ _ _ f (c.advance.ensures f.placed f.rest f.is)) o.level c.in_err-operand.ensures)

pub operands-loop-operator-preserved : goal.operands-loop-operator-preserved
operands-loop-operator-preserved n c =
    let o = c.in-Some.ensures in let f = o.first in
    let t = (took_of _ _ _ f (c.advance.ensures f.placed f.rest f.is)) in let shorter = took_shorter _ _ _ t in (
      omega (arith, c.loop-operator.invariant.0, shorter, c.in_ok-operand.ensures.reads.shorter),
      λ e settled quiet. operands_more MAX_NESTING _ _ e _ _ _ _ _ _ _ _ _ _ c.requires (c.loop-operator.invariant.1 e settled quiet) t o.level c.in_ok-operand.ensures c.offset-offset.ensures c.new.ensures c.in_ok-push.ensures.items,
    )

pub operands-returns : goal.operands-returns
operands-returns n c =
    λ e settled quiet. operands_read MAX_NESTING _ _ e _ _ _ (c.loop-operator.invariant.1 e settled quiet) c.in_default.ensures

pub path-returns-in_default : goal.path-returns-in_default
path-returns-in_default n c =
    end_fails MAX_NESTING _ _ c.in_default.ensures

pub predicates-enclosed-requires : goal.predicates-enclosed-requires
predicates-enclosed-requires n c =
    let shorter = c.loop-self.invariant.shorter in
    (omega (arith, c.decreases, shorter), (c.requires, first_there _ _ c.loop-self-test.ensures))

pub predicates-returns-in_err-predicate : goal.predicates-returns-in_err-predicate
predicates-returns-in_err-predicate n c =
    exits _ _ _ c.in_err-predicate.field-0.0 c.from_residual.ensures.1
    (predicates_stop MAX_NESTING _ _ _ _ _ _ c.requires c.loop-self.invariant c.loop-self-test.ensures c.in_err-predicate.ensures)

pub predicates-loop-self-preserved : goal.predicates-loop-self-preserved
predicates-loop-self-preserved n c =
    predicates_more MAX_NESTING _ _ _ _ _ _ _ c.loop-self.invariant c.loop-self-test.ensures c.in_ok-predicate.ensures c.in_ok-push.ensures.items

pub predicates-returns : goal.predicates-returns
predicates-returns n c =
    predicates_read MAX_NESTING _ _ _ _ c.loop-self.invariant c.loop-self-test.ensures

pub primary-returns-in_default : goal.primary-returns-in_default
primary-returns-in_default n c = end_fails MAX_NESTING _ _ c.in_default.ensures

pub primary-returns-in_ok-take_word-in-Variable : goal.primary-returns-in_ok-take_word-in-Variable
primary-returns-in_ok-take_word-in-Variable n c =
    let f = first_same _ _ _ (c.in-Variable.is ∙ ap token.Variable (sym c.in_ok-take_word-in-Variable.ensures.copied)) c.in-Some.ensures in
    variable_read MAX_NESTING _ _ _ _ _ _ (took_of _ _ _ f (c.take_word.ensures.took f.placed f.rest f.is)) c.offset-offset.ensures c.variable.ensures

pub primary-returns-in_ok-take_word-in-Literal : goal.primary-returns-in_ok-take_word-in-Literal
primary-returns-in_ok-take_word-in-Literal n c =
    let f = first_same _ _ _ (c.in-Literal.is ∙ ap token.Literal (sym c.in_ok-take_word-in-Literal.ensures.copied)) c.in-Some.ensures in
    literal_read MAX_NESTING _ _ _ _ _ _ (took_of _ _ _ f (c.take_word-in-Literal.ensures.took f.placed f.rest f.is)) c.offset-offset.ensures c.literal.ensures

pub primary-returns-in_ok-take_word-in-Number : goal.primary-returns-in_ok-take_word-in-Number
primary-returns-in_ok-take_word-in-Number n c =
    let f = first_same _ _ _ (c.in-Number.is ∙ ap token.Number (sym c.in_ok-take_word-in-Number.ensures.copied)) c.in-Some.ensures in
    number_read MAX_NESTING _ _ _ _ _ _ (took_of _ _ _ f (c.take_word-in-Number.ensures.took f.placed f.rest f.is)) c.offset-offset.ensures c.number.ensures

pub primary-returns-in-OpenParen : goal.primary-returns-in-OpenParen
primary-returns-in-OpenParen n c =
    parens_closed MAX_NESTING _ _ _ _ (first_same _ _ _ c.in-OpenParen.is c.in-Some.ensures) c.enclosed.ensures

pub primary-returns-in_default-first : goal.primary-returns-in_default-first
primary-returns-in_default-first n c =
    no_primary MAX_NESTING _ _ c.in-Some.first.now c.requires.first c.in-Some.ensures c.in_default-first.not-Variable c.in_default-first.not-Literal c.in_default-first.not-Number c.in_default-first.not-OpenParen c.in_default-first.not-Function

pub signed-chain-requires : goal.signed-chain-requires
signed-chain-requires n c =
    let r = c.in_ok-count.ensures in let shorter = signs_length _ _ _ r.signs in
    (omega (arith, c.decreases, shorter), c.requires)

pub signed-returns-in_err-operand : goal.signed-returns-in_err-operand
signed-returns-in_err-operand n c =
    exits _ _ _ c.in_err-operand.field-0.0 c.from_residual-in_err-operand.ensures.1 (signed_fails MAX_NESTING _ _ _ _ _ _ c.in_ok-count.ensures c.in_err-operand.ensures)

pub signed-returns-then-count-eq0 : goal.signed-returns-then-count-eq0
signed-returns-then-count-eq0 n c = unsigned_read MAX_NESTING _ _ _ _ _ _ c.in_ok-count.ensures c.in_ok-operand.ensures c.if-count-eq0.true

pub signed-returns : goal.signed-returns
signed-returns n c =
    signed_read MAX_NESTING _ _ _ _ _ _ _ _ _ c.in_ok-count.ensures c.in_ok-operand.ensures c.if-count-eq0.false c.offset-offset.ensures
    (ap tree_of c.in_ok-operand-2.ensures.ok) c.negated.ensures

pub step-returns-in_default : goal.step-returns-in_default
step-returns-in_default n c =
    record { stuck = λ nm k deep. stuck_at_end MAX_NESTING _ k _ c.in_default.ensures tt }

pub step-returns-in_err-take-in-Axis : goal.step-returns-in_err-take-in-Axis
step-returns-in_err-take-in-Axis n c =
    let f = first_same _ _ _ c.in-Axis.is c.in-Some.ensures in
    exits _ _ _ c.in_err-take-in-Axis.field-0.0 c.from_residual.ensures.1
    (axis_fails MAX_NESTING _ c.in-Axis.axis _ _ _ _ c.requires (took_of _ _ _ f (c.advance-in-Axis.ensures f.placed f.rest f.is)) c.in_err-take-in-Axis.ensures)

pub step-returns-in-Dot : goal.step-returns-in-Dot
step-returns-in-Dot n c =
    let f = first_same _ _ _ c.in-Dot.is c.in-Some.ensures in
    dot_read MAX_NESTING _ _ _ _ _ c.requires (took_of _ _ _ f (c.advance.ensures f.placed f.rest f.is)) c.offset-offset.ensures c.whole_node.ensures

pub step-returns-in-DoubleDot : goal.step-returns-in-DoubleDot
step-returns-in-DoubleDot n c =
    let f = first_same _ _ _ c.in-DoubleDot.is c.in-Some.ensures in
    parent_read MAX_NESTING _ _ _ _ _ c.requires (took_of _ _ _ f (c.advance-in-DoubleDot.ensures f.placed f.rest f.is)) c.offset-offset.ensures c.whole_node-in-DoubleDot.ensures

pub step-returns-in-At : goal.step-returns-in-At
step-returns-in-At n c =
    let f = first_same _ _ _ c.in-At.is c.in-Some.ensures in
    at_steps MAX_NESTING _ _ _ _ _ _ c.requires (took_of _ _ _ f (c.advance-in-At.ensures f.placed f.rest f.is)) c.offset-offset.ensures c.tested.ensures

pub step-returns-in_ok-take-in-Axis : goal.step-returns-in_ok-take-in-Axis
step-returns-in_ok-take-in-Axis n c =
    let f = first_same _ _ _ c.in-Axis.is c.in-Some.ensures in
    axis_steps MAX_NESTING _ _ _ _ _ _ _ _ c.requires (took_of _ _ _ f (c.advance-in-Axis.ensures f.placed f.rest f.is)) c.in_ok-take-in-Axis.ensures c.offset-offset.ensures c.tested-in-Axis.ensures

pub step-returns-in_default-first : goal.step-returns-in_default-first
step-returns-in_default-first n c =
    record {
      stuck = λ nm k deep. stuck_at_first MAX_NESTING _ k _ c.in-Some.first.now c.in-Some.ensures
          (no_step_begins k c.in-Some.first.now c.in_default-first.not-Dot c.in_default-first.not-DoubleDot c.in_default-first.not-At c.in_default-first.not-Axis c.in_default-first.not-Star c.in_default-first.not-PrefixStar c.in_default-first.not-Name c.in_default-first.not-NodeType);
    }

pub step-returns-in-Star : goal.step-returns-in-Star
step-returns-in-Star n c =
    let q = test_token _ c.in-Star.is in
    child_steps MAX_NESTING _ _ _ _ c.in-Some.first.now _ c.requires c.in-Some.ensures q c.offset-offset.ensures c.tested-in-Star.ensures

pub steps-returns : goal.steps-returns
steps-returns n c =
    let r = c.in_ok-first.ensures in
    steps_read MAX_NESTING _ _ _ _ _ _ _ r c.in_ok-push.ensures.items _ (c.more_steps.ensures r.ending r.closed)

pub tested-returns-in_err-test : goal.tested-returns-in_err-test
tested-returns-in_err-test n c =
    exits _ _ _ c.in_err-test.field-0.0 c.from_residual.ensures.1 (test_refused MAX_NESTING need_test _ _ _ _ c.requires c.in_err-test.ensures)

pub tested-returns-in-Err : goal.tested-returns-in-Err
tested-returns-in-Err n c = test_fails MAX_NESTING _ _ _ _ _ _ c.requires c.in_ok-test.ensures.tests c.in-Err.ensures
