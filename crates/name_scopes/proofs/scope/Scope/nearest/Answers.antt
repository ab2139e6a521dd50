-- A prefix that is a word has the namespace at the place kept for it; another is not declared.
use Rattle.std.proofs.Common.{None, Some, sym, ap, ◌∙◌, arith}
use Rattle.std.proofs.lemmas.Bool.Decides.{nat_tests}
use Rattle.doc_tree.specs.Scope.{first_declared}
use Rattle.name_scopes.specs.inner.Scope.{newest_first}
use Rattle.name_scopes.proofs.BindingLemmas.{hinted-declared, never-declared, kept-declared, nothing-declared}
use Rattle.name_scopes.proofs.scope.Scope.nearest.Goals as goal

pub returns-in-Some : goal.returns-in-Some
returns-in-Some c =
    c.uri_at.ensures
    ∙ sym (hinted-declared c.self.inside.prefixes c.self.inside.bindings.items c.self.inside.latest.items c.args.prefix.now _ c.in-Some.place c.self.invariant c.laws.ensures
    c.in-Some.ensures.0 c.in-Some.ensures.1)
    ∙ ap (λ l. first_declared l c.args.prefix.now) c.self.view_is

pub returns-in-Some-place_at : goal.returns-in-Some-place_at
returns-in-Some-place_at c =
    c.uri_at-in-Some-place_at.ensures
    ∙ sym (kept-declared c.self.inside.prefixes c.self.inside.bindings.items c.self.inside.latest.items c.args.prefix.now c.in-Some-find.number c.self.invariant c.laws.ensures
    c.in-Some-find.ensures.found (Some c.in-Some-place_at.place) (sym c.place_at.ensures ∙ c.in-Some-place_at.is))
    ∙ ap (λ l. first_declared l c.args.prefix.now) c.self.view_is

pub returns-in-None-place_at : goal.returns-in-None-place_at
returns-in-None-place_at c =
    sym (kept-declared c.self.inside.prefixes c.self.inside.bindings.items c.self.inside.latest.items c.args.prefix.now c.in-Some-find.number c.self.invariant c.laws.ensures
    c.in-Some-find.ensures.found None (sym c.place_at.ensures ∙ c.in-None-place_at.is))
    ∙ ap (λ l. first_declared l c.args.prefix.now) c.self.view_is

pub returns-in-None : goal.returns-in-None
returns-in-None c =
    sym (never-declared c.self.inside.prefixes c.args.prefix.now (newest_first c.self.inside.bindings.items) c.in-None.ensures.absent c.self.invariant.shadow)
    ∙ ap (λ l. first_declared l c.args.prefix.now) c.self.view_is

pub returns-then-is_empty : goal.returns-then-is_empty
returns-then-is_empty c =
    sym (nothing-declared c.self.inside.prefixes c.self.inside.bindings.items c.args.prefix.now (grind (arith, nat_tests)))
    ∙ ap (λ l. first_declared l c.args.prefix.now) c.self.view_is
