-- A start tag is tested, and then its element begins.
use Rattle.std.proofs.Common.{[], sym, ◌∙◌, length, arith}
use Rattle.doc_tree.specs.Walks.{order}
use Rattle.name_scopes.proofs.StartLemmas.{plain-bytes}
use Rattle.name_scopes.proofs.StepLemmas.{builds-receives, check-faulty, passes, prefix-faulty, start-taken}
use Rattle.name_scopes.proofs.build.Loader.start.Goals as goal

pub returns-in-None : goal.returns-in-None
returns-in-None c = λ taken place standing loads comes.
    prefix-faulty taken place standing c.args.self.now c.declare.new.scope c.args.name.now c.args.attrs.now c.in_ok-declare.ensures loads (rw c.in-None.is at c.in_ok-id.ensures.named)

pub returns-in-Some-2 : goal.returns-in-Some-2
returns-in-Some-2 c = λ taken place standing loads comes.
    let named = rw c.in-Some.is at c.in_ok-id.ensures.named in
    let found = rw c.element.ensures.nodes at c.in_ok-kind.ensures in
    check-faulty taken place standing c.args.self.now c.declare.new.scope c.args.name.now c.args.attrs.now c.in_ok-declare.ensures loads c.in-Some-2.kind named.known (sym c.in-Some-2.is ∙ found)

pub begin-requires-clause-receives : goal.begin-requires-clause-receives
begin-requires-clause-receives c =
    rw c.element.ensures.nodes (builds-receives [] c.requires.0 c.requires.1.0 c.requires.1.1.0 c.args.self.now.tree.nodes c.args.self.now.place c.requires.1.1.1.0.builds)

pub begin-requires-clause-numbered : goal.begin-requires-clause-numbered
begin-requires-clause-numbered c = rw c.in-Some.is at c.in_ok-id.ensures.named

pub begin-requires-clause-good : goal.begin-requires-clause-good
begin-requires-clause-good c =
    let named = rw c.in-Some.is at c.in_ok-id.ensures.named in
    (passes c.declare.new.scope c.args.name.now c.args.attrs.now (length (order c.element.new.tree.nodes)) named.known (sym c.in_default.is ∙ c.in_ok-kind.ensures)).good

pub begin-requires-clause-room : goal.begin-requires-clause-room
begin-requires-clause-room c =
    let named = rw c.in-Some.is at c.in_ok-id.ensures.named in
    (passes c.declare.new.scope c.args.name.now c.args.attrs.now (length (order c.element.new.tree.nodes)) named.known (sym c.in_default.is ∙ c.in_ok-kind.ensures)).room

pub begin-requires-clause-little : goal.begin-requires-clause-little
begin-requires-clause-little c =
    rw c.element.ensures.nodes (omega (arith, c.requires.1.1.1.0.builds.tells.little, c.requires.1.1.1.1.little, plain-bytes c.args.attrs.now))

pub returns : goal.returns
returns c = λ taken place standing loads comes.
    let named = rw c.in-Some.is at c.in_ok-id.ensures.named in
    let found = rw c.element.ensures.nodes at c.in_ok-kind.ensures in
    start-taken taken place standing c.args.self.now c.declare.new.scope c.args.name.now c.args.attrs.now c.in_ok-declare.ensures loads _ c.begin.result
    c.laws.ensures.ways_up c.laws.ensures.scopes c.laws.ensures.well_formed comes.fits
    (passes c.declare.new.scope c.args.name.now c.args.attrs.now (length (order c.args.self.now.tree.nodes)) named.known (sym c.in_default.is ∙ found))
    c.begin.ensures.scope c.element.new.tree.nodes c.element.ensures.nodes c.begin.ensures.begins c.begin.ensures.shallow c.begin.ensures.deep
