-- A start tag that nothing refuses.
use Rattle.std.proofs.Common.{refl, sym, ◌∙◌, subst, true≢false}
use Rattle.doc_tree.specs.Table.{Table}
use Rattle.name_scopes.specs.declared.fault.EventError.TheVariants.{Kind}
use Rattle.name_scopes.specs.inner.Build.{IsTooDeep}
use Rattle.name_scopes.proofs.TagFacts.{tag-good}
use Rattle.name_scopes.proofs.StepLemmas.{builds-receives}
use Rattle.name_scopes.proofs.PieceSteps.{put-good, put-room, put-little, put-shallow, put-start}
use Rattle.name_scopes.proofs.build.Loader.put_start.Goals as goal

pub unreachable-requires : goal.unreachable-requires
unreachable-requires c =
    let r = c.requires in
    let unknown = rw c.in-None.is at c.in_ok-id.ensures.named in
    let good = put-good r.0 r.1.0 r.1.1.0 r.1.1.1.0 c.args.self.now r.1.1.1.1.0 c.args.name.now c.args.attrs.now r.1.1.1.1.1 c.declare.new.scope c.in_ok-declare.ensures in
    true≢false (sym unknown ∙ (tag-good c.declare.new.scope c.args.name.now c.args.attrs.now good).known)

pub begin-requires-clause-receives : goal.begin-requires-clause-receives
begin-requires-clause-receives c =
    let r = c.requires in
    rw c.element.ensures.nodes (builds-receives r.0 r.1.0 r.1.1.0 r.1.1.1.0 c.args.self.now.tree.nodes c.args.self.now.place r.1.1.1.1.0.builds)

pub begin-requires-clause-numbered : goal.begin-requires-clause-numbered
begin-requires-clause-numbered c = rw c.in-Some.is at c.in_ok-id.ensures.named

pub begin-requires-clause-good : goal.begin-requires-clause-good
begin-requires-clause-good c =
    let r = c.requires in
    put-good r.0 r.1.0 r.1.1.0 r.1.1.1.0 c.args.self.now r.1.1.1.1.0 c.args.name.now c.args.attrs.now r.1.1.1.1.1 c.declare.new.scope c.in_ok-declare.ensures

pub begin-requires-clause-room : goal.begin-requires-clause-room
begin-requires-clause-room c =
    let r = c.requires in
    rw c.element.ensures.nodes (put-room r.0 r.1.0 r.1.1.0 r.1.1.1.0 c.args.self.now r.1.1.1.1.0 c.args.name.now c.args.attrs.now r.1.1.1.1.1 c.declare.new.scope c.in_ok-declare.ensures)

pub begin-requires-clause-little : goal.begin-requires-clause-little
begin-requires-clause-little c =
    let r = c.requires in
    rw c.element.ensures.nodes (put-little r.0 r.1.0 r.1.1.0 r.1.1.1.0 c.args.self.now r.1.1.1.1.0 c.args.name.now c.args.attrs.now r.1.1.1.1.1 c.declare.new.scope c.in_ok-declare.ensures)

pub unreachable-requires-in-Err-Kind : goal.unreachable-requires-in-Err-Kind
unreachable-requires-in-Err-Kind c =
    let r = c.requires in
    let refused = rw c.in-Err-Kind.field-0-is at c.in-Err-Kind.ensures.deep in
    let deep = subst (λ (T : Table). IsTooDeep T c.args.self.now.place (Kind c.in-Err-Kind.field-0-0)) c.element.ensures.nodes refused in
    put-shallow r.0 r.1.0 r.1.1.0 r.1.1.1.0 c.args.self.now r.1.1.1.1.0 c.args.name.now c.args.attrs.now r.1.1.1.1.1 c.declare.new.scope c.in_ok-declare.ensures c.in-Err-Kind.field-0-0 c.laws.ensures.ways_up deep

pub returns-in-Ok : goal.returns-in-Ok
returns-in-Ok c = λ around taken place standing loads comes.
    put-start around taken place standing c.args.self.now loads c.args.name.now c.args.attrs.now comes c.declare.new.scope c.in_ok-declare.ensures c.begin.new.self c.begin.new.self.place c.laws.ensures.scopes c.laws.ensures.well_formed
    c.begin.ensures.scope refl (rw c.element.ensures.nodes at c.in-Ok.ensures.begins)
