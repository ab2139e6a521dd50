use Rattle.std.proofs.Common.{◌∙◌, ap, sym}
use Rattle.xp_tree.specs.View.{start_of, steps_seen}
use Rattle.xp_tree.specs.Tree.{root}
use Rattle.xp_tree.proofs.ViewLemmas.{of-Root, of-Here, of-From}
use Rattle.xp_print.specs.Printed.{is_bare_path}
use Rattle.xp_print.proofs.Printing.{bare-root, bare-here, bare-from}
use Rattle.xp_print.proofs.terms.is_bare_path.Goals as goal

pub returns-else-not-behind : goal.returns-else-not-behind
returns-else-not-behind c =
    bare-root c.args.steps.now c.is_empty.result c.is_empty.ensures
    ∙ sym (ap (λ s. is_bare_path c.args.behind s (steps_seen c.args.steps.now)) (ap start_of c.in-Root.is ∙ of-Root) ∙ ap (λ b. is_bare_path b root (steps_seen c.args.steps.now)) c.if-not-behind.false)

pub returns-in-Here : goal.returns-in-Here
returns-in-Here c = bare-here c.args.behind (steps_seen c.args.steps.now) ∙ sym (ap (λ s. is_bare_path c.args.behind s (steps_seen c.args.steps.now)) (ap start_of c.in-Here.is ∙ of-Here))

pub returns-in-From : goal.returns-in-From
returns-in-From c = bare-from c.args.behind _ (steps_seen c.args.steps.now) ∙ sym (ap (λ s. is_bare_path c.args.behind s (steps_seen c.args.steps.now)) (ap start_of c.in-From.is ∙ of-From _))
