use Rattle.std.proofs.Common.{◌∙◌, Some, ap, sym}
use Rattle.std.proofs.lemmas.Option.{slice_get-get_or}
use Rattle.rule_run.proofs.ClassesKept.{nothing_refused, refused_put}
use Rattle.rule_run.proofs.classes.ClassRules.learn.Goals as goal

pub loop-r-init : goal.loop-r-init
loop-r-init c = nothing_refused c.args.tree.now c.args.rules.now c.args.class 64

pub loop-r-preserved : goal.loop-r-preserved
loop-r-preserved c =
    refused_put c.args.tree.now c.args.rules.now c.args.class c.loop-r.levels c.loop-r.r c.index-rules-r.result c.levels_of.result
    (slice_get-get_or c.args.rules.now c.loop-r.r c.index-rules-r.result c.if-r-rules.true ∙ ap Some (sym c.index-rules-r.is))
    (λ below L m is. c.levels_of.ensures below L c.args.class m c.requires.class is) c.loop-r.invariant

pub returns-clause-refused : goal.returns-clause-refused
returns-clause-refused c = record { each = c.loop-r.invariant; rest = c.rest_of.ensures }
