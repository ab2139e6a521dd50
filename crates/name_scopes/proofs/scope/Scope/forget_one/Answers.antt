-- What is kept stays sound without its newest declaration.
use Rattle.std.proofs.Common.{◌≡◌, ◌++◌, ◌∷◌, [], List, ap, ◌∙◌, subst, drop}
use Rattle.std.specs.Option.{option_to_list}
use Rattle.name_scopes.specs.declared.scope.Binding.{Binding}
use Rattle.name_scopes.specs.inner.Scope.{Bound}
use Rattle.name_scopes.proofs.BindingLemmas.{bound-less, forgotten}
use Rattle.name_scopes.proofs.scope.Scope.forget_one.Goals as goal

pub invariant_of-self : goal.invariant_of-self
invariant_of-self c = let h = c.in-Some.ensures.items in let i = c.in-Some.is in let p = c.pop.ensures.items in rw c.put_place.ensures (
    let had : c.self.inside.bindings.items ≡ c.pop.new.self.items ++ c.in-Some.binding ∷ [] = p ∙ ap (λ r. c.pop.new.self.items ++ option_to_list r) i in
    bound-less c.self.inside.prefixes c.pop.new.self.items c.self.inside.latest.items c.in-Some.binding (subst (λ (l : List Binding). Bound c.self.inside.prefixes l c.self.inside.latest.items) had c.self.invariant))

pub returns-in-Some : goal.returns-in-Some
returns-in-Some c =
    let had : c.self.inside.bindings.items ≡ c.pop.new.self.items ++ c.in-Some.binding ∷ [] = c.pop.ensures.items ∙ ap (λ r. c.pop.new.self.items ++ option_to_list r) c.in-Some.is in
    forgotten c.self.inside.prefixes c.self.inside.bindings.items c.pop.new.self.items c.in-Some.binding had ∙ ap (drop 1) c.self.view_is
