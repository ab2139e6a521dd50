use Rattle.std.proofs.Common.{sym, ap, ◌∙◌}
use Rattle.xp_grammar.specs.declared.token.NodeType.TheVariants as node_type
use Rattle.xp_grammar.specs.declared.token.Token.TheVariants as token
use Rattle.xp_grammar.specs.inner.Machine.{type_inner}
use Rattle.xp_parse.proofs.Exits.{exits}
use Rattle.xp_parse.proofs.Failing.{first_same, took_of, none_in_target}
use Rattle.xp_parse.proofs.NodeTests.{stops_at_end, stops_at_first, target_none, target_some, target_unclosed}
use Rattle.xp_parse.proofs.parser.Parser.target.Goals as goal

pub returns-in_default : goal.returns-in_default
returns-in_default c = record { stops = λ _. stops_at_end (type_inner node_type.Pi) _ c.in_default.ensures tt (λ k. tt) }

pub returns-in_err-target-in-Literal : goal.returns-in_err-target-in-Literal
returns-in_err-target-in-Literal c =
    let f = first_same _ _ _ c.in-Literal.is c.in-Some.ensures in
    exits _ _ _ c.in_err-target-in-Literal.field-0.0 c.from_residual-in_err-target-in-Literal.ensures.1
    (target_unclosed _ _ _ c.in-Literal.word _ (took_of _ _ _ f (c.take_word.ensures.took f.placed f.rest f.is)) c.in_err-target-in-Literal.ensures)

pub returns-in-CloseParen : goal.returns-in-CloseParen
returns-in-CloseParen c =
    let f = first_same _ _ _ c.in-CloseParen.is c.in-Some.ensures in
    target_none _ _ (took_of _ _ _ f (c.advance.ensures f.placed f.rest f.is))

pub returns-in_ok-target-in-Literal : goal.returns-in_ok-target-in-Literal
returns-in_ok-target-in-Literal c =
    let closed = c.in_ok-target-in-Literal.ensures in
    let f = first_same _ _ _ (c.in-Literal.is ∙ ap token.Literal (sym (closed.same ∙ c.in_ok-word-in-Literal.ensures.copied))) c.in-Some.ensures in
    target_some _ _ _ c.in_ok-target-in-Literal.target (took_of _ _ _ f (c.take_word.ensures.took f.placed f.rest f.is)) closed.took

pub returns-in_default-first : goal.returns-in_default-first
returns-in_default-first c = record {
  stops = λ _.
      stops_at_first (type_inner node_type.Pi) _ c.in-Some.first.now c.in-Some.ensures tt
      (λ k. none_in_target k c.in-Some.first.now c.in_default-first.not-Literal c.in_default-first.not-CloseParen);
}
