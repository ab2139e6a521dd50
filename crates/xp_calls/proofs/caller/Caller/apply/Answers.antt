use Rattle.std.proofs.Common.{◌≡◌, refl, sym, ap}
use Rattle.xp_outcome.proofs.Runs.{ran_alike}
use Rattle.xp_meaning.proofs.Exits.{ran_given}
use Rattle.xp_meaning.specs.Functions.{applied}
use Rattle.xp_typed_tree.specs.WellTyped.{result_type}
use Rattle.xp_typed_tree.specs.declared.function.Function.{Function}
use Rattle.xp_typed_tree.specs.declared.function.Function.TheVariants.{Current}
use Rattle.xp_typed_tree.specs.declared.value_type.ValueType.TheVariants.{NodeSet}
use Rattle.xp_calls.proofs.caller.Caller.apply.Goals as goal

-- `current` alone gives a node-set
gives_nodes : (f : Function) → NodeSet ≡ result_type f → f ≡ Current
gives_nodes Current e = refl
gives_nodes _ e = cc

pub truth_given-requires : goal.truth_given-requires
truth_given-requires g c = sym c.in-Truth.ensures

pub number_given-requires : goal.number_given-requires
number_given-requires g c = sym c.in-Number.ensures

pub text_given-requires : goal.text_given-requires
text_given-requires g c = sym c.in-Chars.ensures

pub returns-in-NodeSet : goal.returns-in-NodeSet
returns-in-NodeSet g c =
    ran_alike (ap (λ f. applied c.args.self.now.tree.now.nodes f c.args.at.now c.args.args.now) (gives_nodes c.args.function c.in-NodeSet.ensures)) (ran_given _ _ _ _ c.node_set_of.ensures)

pub returns-in-Truth : goal.returns-in-Truth
returns-in-Truth g c = c.truth_given.ensures _
