-- One event after the other.
use Rattle.std.proofs.Common.{◌+◌, ◌∷◌, [], ℕ, Bool, List, drop, subst, sym, ap, ◌∙◌}
use Rattle.std.proofs.lemmas.List.{drop_all}
use Rattle.std.specs.Prelude.{if◌then◌else◌, None, Some}
use Rattle.pyx_core.specs.declared.event.Event.{Event}
use Rattle.doc_tree.specs.declared.refusal.EditRefusal.TheVariants as refusal
use Rattle.doc_tree.specs.Scope.{scope_at}
use Rattle.name_scopes.proofs.PieceTests.{Tested, rest-at, tested-first, tested-lacks, tested-more, tested-all}
use Rattle.name_scopes.proofs.refuse.refuse_tags.Goals as goal

pub loop-event-init : goal.loop-event-init
loop-event-init c = tested-first (scope_at c.args.tree.now.nodes c.args.parent) c.args.events.now c.stand_under.new.self c.in_ok-stand_under.ensures

pub returns-then-lacks_prefix : goal.returns-then-lacks_prefix
returns-then-lacks_prefix c =
    let i : ℕ = c.loop-event.event-index in
    let xs : List Event = c.args.events.now in
    let was : Tested (scope_at c.args.tree.now.nodes c.args.parent) xs (c.event-item.result ∷ drop (i + 1) xs) c.loop-event.doubled c.loop-event.tags =
    subst (λ (l : List Event). Tested (scope_at c.args.tree.now.nodes c.args.parent) xs l c.loop-event.doubled c.loop-event.tags) (rest-at xs i c.event-item.result c.loop-event-test.true c.event-item.is) c.loop-event.invariant in
    tested-lacks (scope_at c.args.tree.now.nodes c.args.parent) xs (drop (i + 1) xs) c.event-item.result c.loop-event.doubled c.loop-event.tags c.take.new.self c.in_ok-take.ensures was (sym c.lacks_prefix.ensures ∙ c.if-lacks_prefix.true)

pub loop-event-preserved : goal.loop-event-preserved
loop-event-preserved c =
    let i : ℕ = c.loop-event.event-index in
    let xs : List Event = c.args.events.now in
    let was : Tested (scope_at c.args.tree.now.nodes c.args.parent) xs (c.event-item.result ∷ drop (i + 1) xs) c.loop-event.doubled c.loop-event.tags =
    subst (λ (l : List Event). Tested (scope_at c.args.tree.now.nodes c.args.parent) xs l c.loop-event.doubled c.loop-event.tags) (rest-at xs i c.event-item.result c.loop-event-test.true c.event-item.is) c.loop-event.invariant in
    tested-more (scope_at c.args.tree.now.nodes c.args.parent) xs (drop (i + 1) xs) c.event-item.result c.loop-event.doubled c.loop-event.tags c.take.new.self c.in_ok-take.ensures was
    c.in_ok-twice.twice (sym c.lacks_prefix.ensures ∙ c.if-lacks_prefix.false) (sym c.in_ok-twice.ensures)

pub returns-then-doubled : goal.returns-then-doubled
returns-then-doubled c =
    let was : Tested (scope_at c.args.tree.now.nodes c.args.parent) c.args.events.now [] c.loop-event.doubled c.loop-event.tags =
    subst (λ (l : List Event). Tested (scope_at c.args.tree.now.nodes c.args.parent) c.args.events.now l c.loop-event.doubled c.loop-event.tags) (drop_all c.loop-event.event-index c.args.events.now c.loop-event-test.false) c.loop-event.invariant in
    sym (tested-all (scope_at c.args.tree.now.nodes c.args.parent) c.args.events.now c.loop-event.doubled c.loop-event.tags was ∙ ap (λ (b : Bool). if b then Some refusal.SameAttribute else None) c.if-doubled.true)

pub returns : goal.returns
returns c =
    let was : Tested (scope_at c.args.tree.now.nodes c.args.parent) c.args.events.now [] c.loop-event.doubled c.loop-event.tags =
    subst (λ (l : List Event). Tested (scope_at c.args.tree.now.nodes c.args.parent) c.args.events.now l c.loop-event.doubled c.loop-event.tags) (drop_all c.loop-event.event-index c.args.events.now c.loop-event-test.false) c.loop-event.invariant in
    sym (tested-all (scope_at c.args.tree.now.nodes c.args.parent) c.args.events.now c.loop-event.doubled c.loop-event.tags was ∙ ap (λ (b : Bool). if b then Some refusal.SameAttribute else None) c.if-doubled.false)
