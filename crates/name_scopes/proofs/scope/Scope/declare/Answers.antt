-- What is kept stays sound with one declaration more.
use Rattle.std.proofs.Common.{◌≡◌, ◌<◌, arith, length, refl}
use Rattle.name_scopes.specs.declared.scope.Binding.{Binding}
use Rattle.name_scopes.proofs.BindingLemmas.{grown, bound-grown, bound-more, declared-view}
use Rattle.name_scopes.proofs.scope.Scope.declare.Goals as goal

pub invariant_of-self-in_err-extend : goal.invariant_of-self-in_err-extend
invariant_of-self-in_err-extend c =
    (bound-grown c.self.inside.prefixes c.number.new.self c.args.prefix.now c.in_ok-number.number c.self.inside.bindings.items c.self.inside.latest.items c.extend.new.latest.items
    c.in_ok-number.ensures.numbered c.extend.ensures.same c.self.invariant).0

pub invariant_of-self-in_err-push_binding : goal.invariant_of-self-in_err-push_binding
invariant_of-self-in_err-push_binding c =
    rw c.in_err-push_binding.ensures.unchanged
    (bound-grown c.self.inside.prefixes c.number.new.self c.args.prefix.now c.in_ok-number.number c.self.inside.bindings.items c.self.inside.latest.items c.extend.new.latest.items
    c.in_ok-number.ensures.numbered c.extend.ensures.same c.self.invariant).0

pub invariant_of-self-2 : goal.invariant_of-self-2
invariant_of-self-2 c =
    let b : Binding = record { number = c.in_ok-number.number; uri = c.args.uri.now; shadowed = c.place_at-shadowed.result } in
    let had = bound-grown c.self.inside.prefixes c.number.new.self c.args.prefix.now c.in_ok-number.number c.self.inside.bindings.items c.self.inside.latest.items c.extend.new.latest.items
    c.in_ok-number.ensures.numbered c.extend.ensures.same c.self.invariant in
    let g = grown c.self.inside.prefixes c.number.new.self c.args.prefix.now c.in_ok-number.number c.in_ok-number.ensures.numbered in
    let place : c.len-place.result ≡ length c.self.inside.bindings.items = omega (arith, c.len-place.ensures, c.self.inside.bindings.ok) in
    let room : c.in_ok-number.number < length c.extend.new.latest.items = omega (arith, c.in_ok-extend.ensures.room, c.extend.new.latest.ok) in
    rw (c.in_ok-push_binding.ensures.pushed, c.put_place.ensures, place) (bound-more c.number.new.self c.self.inside.bindings.items c.extend.new.latest.items b had.0 g.below room c.place_at-shadowed.ensures)

pub returns : goal.returns
returns c =
    let b : Binding = record { number = c.in_ok-number.number; uri = c.args.uri.now; shadowed = c.place_at-shadowed.result } in
    let had = bound-grown c.self.inside.prefixes c.number.new.self c.args.prefix.now c.in_ok-number.number c.self.inside.bindings.items c.self.inside.latest.items c.extend.new.latest.items
    c.in_ok-number.ensures.numbered c.extend.ensures.same c.self.invariant in
    let g = grown c.self.inside.prefixes c.number.new.self c.args.prefix.now c.in_ok-number.number c.in_ok-number.ensures.numbered in
    declared-view c.self.inside.prefixes c.number.new.self c.self.inside.bindings.items c.push_binding.new.bindings.items b c.args.prefix.now c.args.uri.now c.args.self.now
    c.in_ok-push_binding.ensures.pushed g.is refl had.1 c.self.view_is
