-- By how far the refresh has come.
use Rattle.std.proofs.lemmas.Result.{on_ok_weaker}
use Rattle.xp_watch.specs.inner.Held.{held_by}
use Rattle.xp_watch.proofs.KeptLemmas.{either_way}
use Rattle.xp_watch.proofs.RefreshLemmas as lemma
use Rattle.xp_watch.proofs.kept.KeptWatches.refresh.Goals as goal

pub returns-clause-keeps : goal.returns-clause-keeps
returns-clause-keeps g c =
    either_way c.refresh_watches.result
    (lemma.ends_keep c.args.tree.now.nodes c.args.list.now (held_by c.args.self.now) (held_by c.refresh_watches.new.self) c.args.steps.now c.refresh_watches.new.steps)
    (λ cut. cut.keeps) c.refresh_watches.ensures.reached c.refresh_watches.ensures.cut

pub returns-clause-fresh : goal.returns-clause-fresh
returns-clause-fresh g c =
    on_ok_weaker c.refresh_watches.result
    (lemma.ends_fresh c.args.tree.now.nodes c.args.list.now (held_by c.args.self.now) (held_by c.refresh_watches.new.self) c.args.steps.now c.refresh_watches.new.steps)
    c.refresh_watches.ensures.reached

pub returns-clause-raised : goal.returns-clause-raised
returns-clause-raised g c =
    on_ok_weaker c.refresh_watches.result
    (lemma.ends_raised c.args.tree.now.nodes c.args.list.now (held_by c.args.self.now) (held_by c.refresh_watches.new.self) c.args.steps.now c.refresh_watches.new.steps)
    c.refresh_watches.ensures.reached

pub returns-clause-goes_on : goal.returns-clause-goes_on
returns-clause-goes_on g c =
    either_way c.refresh_watches.result
    (lemma.ends_go c.args.tree.now.nodes c.args.list.now (held_by c.args.self.now) (held_by c.refresh_watches.new.self) c.args.steps.now c.refresh_watches.new.steps)
    (λ cut. cut.goes_on) c.refresh_watches.ensures.reached c.refresh_watches.ensures.cut

pub returns-clause-at_most : goal.returns-clause-at_most
returns-clause-at_most g c =
    either_way c.refresh_watches.result
    (λ so_far. (lemma.ends_raised c.args.tree.now.nodes c.args.list.now (held_by c.args.self.now) (held_by c.refresh_watches.new.self) c.args.steps.now
    c.refresh_watches.new.steps so_far).at_most)
    (λ cut. cut.at_most) c.refresh_watches.ensures.reached c.refresh_watches.ensures.cut

pub returns-clause-steps : goal.returns-clause-steps
returns-clause-steps g c =
    either_way c.refresh_watches.result
    (lemma.ends_later c.args.tree.now.nodes c.args.list.now (held_by c.args.self.now) (held_by c.refresh_watches.new.self) c.args.steps.now c.refresh_watches.new.steps)
    (λ cut. cut.later) c.refresh_watches.ensures.reached c.refresh_watches.ensures.cut
