use Rattle.xp_grammar.specs.inner.Machine.{need_test}
use Rattle.xp_parse.proofs.Failing.{first_same, took_of}
use Rattle.xp_parse.proofs.NodeTests.{stops_at_end, stops_at_first, star_read, prefix_read, name_read, node_read, no_test}
use Rattle.xp_parse.proofs.parser.Parser.test.Goals as goal

pub returns-in_default : goal.returns-in_default
returns-in_default c = record { stops = λ _. stops_at_end need_test _ c.in_default.ensures tt (λ k. tt) }

pub returns-in-Star : goal.returns-in-Star
returns-in-Star c =
    let f = first_same _ _ _ c.in-Star.is c.in-Some.ensures in
    star_read _ _ (took_of _ _ _ f (c.advance.ensures f.placed f.rest f.is))

pub returns-in-PrefixStar : goal.returns-in-PrefixStar
returns-in-PrefixStar c =
    let f = first_same _ _ _ c.in-PrefixStar.is c.in-Some.ensures in
    prefix_read _ _ _ _ c.take_prefix.ensures.test (took_of _ _ _ f (c.take_prefix.ensures.took f.placed f.rest f.is))

pub returns-in-Name : goal.returns-in-Name
returns-in-Name c =
    let f = first_same _ _ _ c.in-Name.is c.in-Some.ensures in
    name_read _ _ _ _ c.take_name.ensures.test (took_of _ _ _ f (c.take_name.ensures.took f.placed f.rest f.is))

pub returns-in-NodeType : goal.returns-in-NodeType
returns-in-NodeType c =
    let f = first_same _ _ _ c.in-NodeType.is c.in-Some.ensures in
    node_read _ _ _ _ _ (took_of _ _ _ f (c.advance-in-NodeType.ensures f.placed f.rest f.is)) c.typed.ensures

pub returns-in_default-first : goal.returns-in_default-first
returns-in_default-first c = record {
  stops = λ _.
      stops_at_first need_test _ c.in-Some.first.now c.in-Some.ensures tt
      (λ k. no_test k c.in-Some.first.now c.in_default-first.not-Star c.in_default-first.not-PrefixStar c.in_default-first.not-Name c.in_default-first.not-NodeType);
}
