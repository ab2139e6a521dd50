-- The events of each piece, and those at the end.
use Rattle.std.proofs.Common.{◌≡◌, ◌++◌, List, ℕ, length, subst, arith}
use Rattle.std.proofs.lemmas.Bool.Decides.{nat_tests}
use Rattle.pyx_core.specs.declared.mode.Mode.TheVariants.{Document}
use Rattle.pyx_core.specs.Reading.{events_before_fault}
use Rattle.name_scopes.proofs.WholeLemmas.{refused-by}
use Rattle.name_scopes.specs.inner.Load.{Stands}
use Rattle.name_scopes.proofs.LoadSteps.{waits-due, waits-fed, stands-on, fed-refused, few-fed, finishes-all, stands-end, waits-ended, ended-refused, ended-all}
use Rattle.name_scopes.proofs.load.take_document.Goals as goal

pub loop-rest-init : goal.loop-rest-init
loop-rest-init c = c.requires.ready

pub take_waiting-requires : goal.take_waiting-requires
take_waiting-requires c =
    let stands = subst (λ (b : List ℕ). Stands c.args.bytes.now b c.loop-rest.reader c.loop-rest.loader) c.split_piece.ensures.parts c.loop-rest.invariant in
    let told = c.feed-fed.ensures.read Document stands.fed stands.taken stands.reads
    (few-fed c.args.bytes.now c.split_piece.result.0.now c.split_piece.result.1.now c.loop-rest.reader c.loop-rest.loader c.requires.little stands) in
    let waits = waits-fed c.args.bytes.now c.split_piece.result.0.now c.split_piece.result.1.now c.loop-rest.reader c.feed-fed.new.self c.loop-rest.loader c.feed-fed.result c.completed_events_stay.ensures stands told in
    waits-due c.args.bytes.now stands.taken c.feed-fed.new.self.waiting c.loop-rest.loader waits

pub returns-in-Err-clause-refused : goal.returns-in-Err-clause-refused
returns-in-Err-clause-refused c =
    let stands = subst (λ (b : List ℕ). Stands c.args.bytes.now b c.loop-rest.reader c.loop-rest.loader) c.split_piece.ensures.parts c.loop-rest.invariant in
    let told = c.feed-fed.ensures.read Document stands.fed stands.taken stands.reads
    (few-fed c.args.bytes.now c.split_piece.result.0.now c.split_piece.result.1.now c.loop-rest.reader c.loop-rest.loader c.requires.little stands) in
    let waits = waits-fed c.args.bytes.now c.split_piece.result.0.now c.split_piece.result.1.now c.loop-rest.reader c.feed-fed.new.self c.loop-rest.loader c.feed-fed.result c.completed_events_stay.ensures stands told in
    refused-by c.args.bytes.now (stands.taken ++ c.feed-fed.new.self.waiting) waits.later c.take_waiting.new.loader c.in-Err.error
    (c.in-Err.ensures.entered (events_before_fault Document c.args.bytes.now) stands.taken waits.later waits.going)

pub returns-in-Err-fed-clause-refused : goal.returns-in-Err-fed-clause-refused
returns-in-Err-fed-clause-refused c =
    let stands = subst (λ (b : List ℕ). Stands c.args.bytes.now b c.loop-rest.reader c.loop-rest.loader) c.split_piece.ensures.parts c.loop-rest.invariant in
    let told = c.feed-fed.ensures.read Document stands.fed stands.taken stands.reads
    (few-fed c.args.bytes.now c.split_piece.result.0.now c.split_piece.result.1.now c.loop-rest.reader c.loop-rest.loader c.requires.little stands) in
    let waits = waits-fed c.args.bytes.now c.split_piece.result.0.now c.split_piece.result.1.now c.loop-rest.reader c.feed-fed.new.self c.loop-rest.loader c.feed-fed.result c.completed_events_stay.ensures stands told in
    rw c.line_error.ensures
    (fed-refused c.args.bytes.now c.split_piece.result.0.now c.split_piece.result.1.now c.loop-rest.reader c.feed-fed.new.self c.loop-rest.loader c.take_waiting.new.loader c.in-Err-fed.error c.faults_stay.ensures stands waits
    (rw c.in-Err-fed.is at told) (c.in-Ok.ensures.entered (events_before_fault Document c.args.bytes.now) stands.taken waits.later waits.going))

pub loop-rest-preserved : goal.loop-rest-preserved
loop-rest-preserved c =
    let stands = subst (λ (b : List ℕ). Stands c.args.bytes.now b c.loop-rest.reader c.loop-rest.loader) c.split_piece.ensures.parts c.loop-rest.invariant in
    let told = c.feed-fed.ensures.read Document stands.fed stands.taken stands.reads
    (few-fed c.args.bytes.now c.split_piece.result.0.now c.split_piece.result.1.now c.loop-rest.reader c.loop-rest.loader c.requires.little stands) in
    let waits = waits-fed c.args.bytes.now c.split_piece.result.0.now c.split_piece.result.1.now c.loop-rest.reader c.feed-fed.new.self c.loop-rest.loader c.feed-fed.result c.completed_events_stay.ensures stands told in
    stands-on c.args.bytes.now c.split_piece.result.0.now c.split_piece.result.1.now c.loop-rest.reader c.feed-fed.new.self c.take_waiting.new.reader c.loop-rest.loader c.take_waiting.new.loader stands waits
    (c.in-Ok.ensures.read (stands.fed ++ c.split_piece.result.0.now) stands.taken (rw c.in-Ok-fed.is at told)) c.in-Ok.ensures.none
    (c.in-Ok.ensures.entered (events_before_fault Document c.args.bytes.now) stands.taken waits.later waits.going)

pub take_waiting-requires-2 : goal.take_waiting-requires-2
take_waiting-requires-2 c =
    let none : length c.loop-rest.rest.now ≡ 0 = grind (arith, nat_tests) in
    let stands = stands-end c.args.bytes.now c.loop-rest.rest.now c.loop-rest.reader c.loop-rest.loader none c.loop-rest.invariant in
    let told = finishes-all c.args.bytes.now c.loop-rest.reader c.finish-ended.new.self c.loop-rest.loader c.finish-ended.result stands (c.finish-ended.ensures.read Document stands.fed stands.taken stands.reads) in
    let waits = waits-ended c.args.bytes.now c.loop-rest.reader c.finish-ended.new.self c.loop-rest.loader c.finish-ended.result stands told in
    waits-due c.args.bytes.now stands.taken c.finish-ended.new.self.waiting c.loop-rest.loader waits

pub returns-in-Err-take_waiting-clause-refused : goal.returns-in-Err-take_waiting-clause-refused
returns-in-Err-take_waiting-clause-refused c =
    let none : length c.loop-rest.rest.now ≡ 0 = grind (arith, nat_tests) in
    let stands = stands-end c.args.bytes.now c.loop-rest.rest.now c.loop-rest.reader c.loop-rest.loader none c.loop-rest.invariant in
    let told = finishes-all c.args.bytes.now c.loop-rest.reader c.finish-ended.new.self c.loop-rest.loader c.finish-ended.result stands (c.finish-ended.ensures.read Document stands.fed stands.taken stands.reads) in
    let waits = waits-ended c.args.bytes.now c.loop-rest.reader c.finish-ended.new.self c.loop-rest.loader c.finish-ended.result stands told in
    refused-by c.args.bytes.now (stands.taken ++ c.finish-ended.new.self.waiting) waits.later c.take_waiting-2.new.loader c.in-Err-take_waiting.error
    (c.in-Err-take_waiting.ensures.entered (events_before_fault Document c.args.bytes.now) stands.taken waits.later waits.going)

pub returns-in-Ok-ended-clause-taken : goal.returns-in-Ok-ended-clause-taken
returns-in-Ok-ended-clause-taken c =
    let none : length c.loop-rest.rest.now ≡ 0 = grind (arith, nat_tests) in
    let stands = stands-end c.args.bytes.now c.loop-rest.rest.now c.loop-rest.reader c.loop-rest.loader none c.loop-rest.invariant in
    let told = finishes-all c.args.bytes.now c.loop-rest.reader c.finish-ended.new.self c.loop-rest.loader c.finish-ended.result stands (c.finish-ended.ensures.read Document stands.fed stands.taken stands.reads) in
    let waits = waits-ended c.args.bytes.now c.loop-rest.reader c.finish-ended.new.self c.loop-rest.loader c.finish-ended.result stands told in
    ended-all c.args.bytes.now c.finish-ended.new.self stands.taken waits.later c.take_waiting-2.new.loader (rw c.in-Ok-ended.is at told) (c.in-Ok-take_waiting.ensures.entered (events_before_fault Document c.args.bytes.now) stands.taken waits.later waits.going)

pub returns-in-Err-ended-clause-refused : goal.returns-in-Err-ended-clause-refused
returns-in-Err-ended-clause-refused c =
    let none : length c.loop-rest.rest.now ≡ 0 = grind (arith, nat_tests) in
    let stands = stands-end c.args.bytes.now c.loop-rest.rest.now c.loop-rest.reader c.loop-rest.loader none c.loop-rest.invariant in
    let told = finishes-all c.args.bytes.now c.loop-rest.reader c.finish-ended.new.self c.loop-rest.loader c.finish-ended.result stands (c.finish-ended.ensures.read Document stands.fed stands.taken stands.reads) in
    let waits = waits-ended c.args.bytes.now c.loop-rest.reader c.finish-ended.new.self c.loop-rest.loader c.finish-ended.result stands told in
    rw c.line_error-in-Err-ended.ensures
    (ended-refused c.args.bytes.now c.loop-rest.reader c.finish-ended.new.self c.loop-rest.loader c.take_waiting-2.new.loader c.in-Err-ended.error stands waits (rw c.in-Err-ended.is at told)
    (c.in-Ok-take_waiting.ensures.entered (events_before_fault Document c.args.bytes.now) stands.taken waits.later waits.going))
