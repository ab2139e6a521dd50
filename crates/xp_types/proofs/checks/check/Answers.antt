use Rattle.std.proofs.Common.{subst, sym}
use Rattle.std.proofs.lemmas.Result.{err_from_is_err_and}
use Rattle.xp_tree.specs.View.{tree_of}
use Rattle.xp_typed_tree.specs.TypedView.{typed_tree_of}
use Rattle.xp_typed_tree.specs.WellTyped.{WellTyped}
use Rattle.xp_types.specs.HasType.{HasType}
use Rattle.xp_types.proofs.Sound.{typing-sound}
use Rattle.xp_types.proofs.Cases.{has-type}
use Rattle.xp_types.proofs.Refused.{refused}
use Rattle.xp_types.proofs.checks.check.Goals as goal

pub new-requires : goal.new-requires
new-requires c =
    subst (λ p. WellTyped p (typed_tree_of c.in_ok-tree.field-0)) c.requires
    (typing-sound c.args.env.now (tree_of c.args.expr) (typed_tree_of c.in_ok-tree.field-0) c.in_ok-tree.ensures.given)

pub returns-clause-typed : goal.returns-clause-typed
returns-clause-typed c = subst (HasType c.args.env.now (tree_of c.args.expr)) (sym c.new.ensures) (has-type _ _ _ c.in_ok-tree.ensures.given)

pub returns-in_err-tree-clause-refused : goal.returns-in_err-tree-clause-refused
returns-in_err-tree-clause-refused c =
    let p = err_from_is_err_and c.from_residual.result c.from_residual.ensures.1 in
    rw (p.1, p.2) (refused c.args.env.now (tree_of c.args.expr) _ c.in_err-tree.ensures)
