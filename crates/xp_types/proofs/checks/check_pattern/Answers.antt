use Rattle.std.proofs.Common.{subst, sym}
use Rattle.std.proofs.lemmas.Result.{err_from_is_err_and}
use Rattle.xp_tree.specs.PatternTree.{pattern_of}
use Rattle.xp_types.specs.PatternTypes.{PatternHasType}
use Rattle.xp_types.proofs.Sound.{pattern-sound}
use Rattle.xp_types.proofs.PatternCases.{pattern-has}
use Rattle.xp_types.proofs.Refused.{pattern-refused}
use Rattle.xp_types.proofs.checks.check_pattern.Goals as goal

pub new-requires : goal.new-requires
new-requires c = pattern-sound _ c.requires _ _ c.in_ok-paths.ensures.given

pub returns-clause-typed : goal.returns-clause-typed
returns-clause-typed c =
    subst (PatternHasType c.args.env.now (pattern_of c.args.pattern)) (sym c.new.ensures)
    (pattern-has c.args.env.now (pattern_of c.args.pattern) _ (rw c.deref.ensures.value at c.in_ok-paths.ensures.given))

pub returns-in_err-paths-clause-refused : goal.returns-in_err-paths-clause-refused
returns-in_err-paths-clause-refused c =
    let p = err_from_is_err_and c.from_residual.result c.from_residual.ensures.1 in
    rw (p.1, p.2) (pattern-refused c.args.env.now (pattern_of c.args.pattern) _ (rw c.deref.ensures.value at c.in_err-paths.ensures))
