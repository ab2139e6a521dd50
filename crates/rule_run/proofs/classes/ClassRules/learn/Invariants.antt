use Rattle.std.proofs.Common.{◌-◌}
use Rattle.rule_run.specs.Classes.{IsEachRefused}
use Rattle.rule_run.proofs.classes.ClassRules.learn.Given as goal

abbrev pub invariant-loop-r : goal.invariant-loop-r
invariant-loop-r l = IsEachRefused l.tree l.rules l.class l.levels

abbrev pub decreases-loop-r : goal.decreases-loop-r
decreases-loop-r l = 64 - l.r
