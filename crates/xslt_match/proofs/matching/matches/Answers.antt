use Rattle.std.proofs.Common.{◌≡◌, true, subst, sym}
use Rattle.doc_tree.specs.Table.{is_live}
use Rattle.xp_outcome.specs.Running.{Ran}
use Rattle.xp_meaning.specs.Results.{shown}
use Rattle.xslt_match.specs.Matching.{matching}
use Rattle.xslt_match.proofs.matching.matches.Goals as goal

pub matches_with-requires-clause-live : goal.matches_with-requires-clause-live
matches_with-requires-clause-live g c = subst (λ n. is_live c.args.tree.now.nodes n ≡ true) (sym c.none-at.ensures.node) c.requires

pub matches_with-requires-clause-kept : goal.matches_with-requires-clause-kept
matches_with-requires-clause-kept g c = c.new-kept.ensures c.args.tree.now c.args.lets.now c.args.pattern.now

pub matches_with-requires-clause-named : goal.matches_with-requires-clause-named
matches_with-requires-clause-named g c = c.none-at.ensures.none c.args.tree.now.nodes c.args.reads.now

pub returns : goal.returns
returns g c =
    subst (λ n. Ran (matching c.args.tree.now.nodes c.args.lets.now c.args.pattern.now n) (shown c.matches_with.result) c.args.reads.now c.matches_with.new.reads
    c.args.steps.now c.matches_with.new.steps) c.none-at.ensures.node c.matches_with.ensures.ran
