-- Those behind some, from the last to the first, are those in front of these.
use Rattle.std.proofs.Common.{ap, sym, ◌∙◌, arith}
use Rattle.std.specs.Prelude.{drop, if◌then◌else◌}
use Rattle.doc_axes.specs.Axes.{backwards}
use Rattle.doc_axes.proofs.Lending.{drop_backwards, lent_length}
use Rattle.doc_axes.proofs.lent.Lent.behind.Goals as goal

pub overflow_sub-self : goal.overflow_sub-self
overflow_sub-self c = omega (arith, c.requires, lent_length c.args.self.nodes.now c.args.self.from_end)

pub returns-then-self : goal.returns-then-self
returns-then-self c =
    let nodes = c.args.self.nodes.now in
    let k = c.args.count in
    c.from_end.ensures.lent
    ∙ (ap backwards c.split_at.ensures.front
    ∙ (drop_backwards nodes k (omega (arith, c.requires, lent_length nodes c.args.self.from_end))
    ∙ ap (λ b. drop k (if b then backwards nodes else nodes)) (sym c.if-self.true)))

pub returns-else-self : goal.returns-else-self
returns-else-self c =
    let nodes = c.args.self.nodes.now in
    let k = c.args.count in
    c.from_start.ensures ∙ (c.split_at-else-self.ensures.back ∙ ap (λ b. drop k (if b then backwards nodes else nodes)) (sym c.if-self.false))
