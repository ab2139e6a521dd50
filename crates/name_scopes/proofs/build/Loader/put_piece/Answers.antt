-- One event after the other.
use Rattle.std.proofs.Common.{◌≡◌, ◌+◌, ◌++◌, ◌∷◌, ℕ, List, take, drop, subst, sym, ap, ◌∙◌, append-nil}
use Rattle.pyx_core.specs.declared.event.Event.{Event}
use Rattle.doc_tree.specs.Scope.{Decl, scope_at}
use Rattle.name_scopes.proofs.PieceSteps.{piece-none}
use Rattle.name_scopes.proofs.PieceTests.{front-next, rest-at}
use Rattle.name_scopes.proofs.PieceWhole.{PieceGoing, piece-first, piece-ready, piece-comes, piece-on, piece-all}
use Rattle.name_scopes.proofs.build.Loader.put_piece.Goals as goal

pub loop-event-init : goal.loop-event-init
loop-event-init c =
    let around : List Decl = scope_at c.args.tree.now.nodes c.args.parent in
    let scope : c.declare_above.new.scope ≡ around = c.in_ok-declare_above.ensures ∙ (ap (λ (l : List Decl). around ++ l) c.requires.new.scope_is ∙ append-nil around) in
    piece-first around c.args.events.now _ c.requires.acceptable c.requires.element (piece-none around _ c.requires.new.tree_is c.requires.new.place_is scope)

pub put-requires : goal.put-requires
put-requires c =
    let i : ℕ = c.loop-event.event-index in
    let xs : List Event = c.args.events.now in
    let around : List Decl = scope_at c.args.tree.now.nodes c.args.parent in
    piece-ready around xs (take i xs) (drop (i + 1) xs) c.event-item.result c.loop-event.self
    (subst (λ (l : List Event). PieceGoing around xs (take i xs) l c.loop-event.self) (rest-at xs i c.event-item.result c.loop-event-test.true c.event-item.is) c.loop-event.invariant)

pub loop-event-preserved : goal.loop-event-preserved
loop-event-preserved c =
    let i : ℕ = c.loop-event.event-index in
    let xs : List Event = c.args.events.now in
    let around : List Decl = scope_at c.args.tree.now.nodes c.args.parent in
    let going : PieceGoing around xs (take i xs) (c.event-item.result ∷ drop (i + 1) xs) c.loop-event.self =
    subst (λ (l : List Event). PieceGoing around xs (take i xs) l c.loop-event.self) (rest-at xs i c.event-item.result c.loop-event-test.true c.event-item.is) c.loop-event.invariant in
    subst (λ (l : List Event). PieceGoing around xs l (drop (i + 1) xs) c.put.new.self) (sym (front-next xs i c.event-item.result c.loop-event-test.true c.event-item.is))
    (piece-on around xs (take i xs) (drop (i + 1) xs) c.event-item.result c.loop-event.self going c.put.new.self
    (c.in_ok-put.ensures around (take i xs) going.place going.standing going.loads (piece-comes around xs (take i xs) (drop (i + 1) xs) c.event-item.result c.loop-event.self going)))

pub returns : goal.returns
returns c = piece-all (scope_at c.args.tree.now.nodes c.args.parent) c.args.events.now c.loop-event.event-index c.loop-event.self c.loop-event-test.false c.requires.acceptable.fragment c.laws.ensures.ways_up c.loop-event.invariant
