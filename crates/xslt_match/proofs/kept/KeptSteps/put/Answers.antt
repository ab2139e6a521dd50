use Rattle.std.proofs.Common.{subst, sym}
use Rattle.std.specs.List.{AllByRecursion as Each}
use Rattle.xslt_match.specs.Kept.{IsOutcomeAt}
use Rattle.xslt_match.proofs.Keeping.{kept_put}
use Rattle.xslt_match.proofs.kept.KeptSteps.put.Goals as goal

pub returns : goal.returns
returns c = λ C L ps kept outcome.
    let there = c.make_room.ensures C L ps kept in
    record {
      selected = subst (Each (λ e. IsOutcomeAt C.nodes L ps e.0 e.1)) (sym c.in_ok-insert.ensures.entries)
          (kept_put C.nodes L ps c.make_room.new.self.steps.entries c.args.key c.args.kept there.selected outcome);
      paths = there.paths;
    }

pub returns-in_err-insert : goal.returns-in_err-insert
returns-in_err-insert c = λ C L ps kept outcome.
    let there = c.make_room.ensures C L ps kept in
    record { selected = subst (Each (λ e. IsOutcomeAt C.nodes L ps e.0 e.1)) (sym c.in_err-insert.ensures.err) there.selected; paths = there.paths }
