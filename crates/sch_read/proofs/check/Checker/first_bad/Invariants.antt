-- The attributes so far have their form.
use Rattle.std.proofs.Common.{◌≡◌, drop}
use Rattle.sch_rules.specs.Rules.{first_bad}
use Rattle.sch_read.proofs.check.Checker.first_bad.Given as goal

abbrev pub invariant-loop-a : goal.invariant-loop-a
invariant-loop-a l =
    first_bad l.self.source.tree.now.nodes l.n l.word l.a-items ≡ first_bad l.self.source.tree.now.nodes l.n l.word (drop l.a-index l.a-items)
