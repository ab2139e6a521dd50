-- A unit of which the index has the names has read them.
use Rattle.std.proofs.Common.{◌≡◌, ◌∙◌, true, List, Option, None, set, ap, sym}
use Rattle.xp_outcome.specs.Recorded.{Recorded}
use Rattle.xp_outcome.specs.Evaluation.{names_along}
use Rattle.kept_reads.specs.Reads.{has_kept, reads_at}
use Rattle.kept_reads.specs.inner.Entries.{entries_of}
use Rattle.kept_reads.proofs.EntryLemmas.{entries_forgot, entries_stay, fewer_kept, stale_forgot, taken_read}
use Rattle.kept_reads.proofs.entries.Entries.take_names.Goals as goal

pub invariant_of-self : goal.invariant_of-self
invariant_of-self c =
    stale_forgot c.self.inside.index c.take_names.new.self c.self.inside.lets.items c.set.new.lets.items c.in-Some.unit c.in-Some.ensures.took.1
    c.set.ensures c.self.invariant

pub returns-in-Some-clause-took : goal.returns-in-Some-clause-took
returns-in-Some-clause-took c =
    ap (λ (entries : List (Option Recorded)). has_kept (reads_at entries c.in-Some.unit) (names_along c.args.names.now.axis c.args.names.now.node))
    (sym c.self.view_is)
    ∙ taken_read c.self.inside.index c.self.inside.lets.items c.in-Some.unit (names_along c.args.names.now.axis c.args.names.now.node)
    c.self.invariant ∙ c.in-Some.ensures.took.0

pub returns-in-Some-clause-dropped : goal.returns-in-Some-clause-dropped
returns-in-Some-clause-dropped c =
    entries_forgot c.self.inside.index c.take_names.new.self c.self.inside.lets.items c.set.new.lets.items c.in-Some.unit c.in-Some.ensures.took.1
    c.set.ensures
    ∙ ap (λ (entries : List (Option Recorded)). set entries c.in-Some.unit None) c.self.view_is

pub returns-in-Some-clause-falls : goal.returns-in-Some-clause-falls
returns-in-Some-clause-falls c =
    let unit = c.in-Some.unit in
    let there : has_kept (reads_at c.args.self.now unit) (names_along c.args.names.now.axis c.args.names.now.node) ≡ true =
    ap (λ (entries : List (Option Recorded)). has_kept (reads_at entries unit) (names_along c.args.names.now.axis c.args.names.now.node))
    (sym c.self.view_is)
    ∙ taken_read c.self.inside.index c.self.inside.lets.items unit (names_along c.args.names.now.axis c.args.names.now.node) c.self.invariant
    ∙ c.in-Some.ensures.took.0 in
    fewer_kept c.args.self.now (entries_of c.take_names.new.self 0 c.set.new.lets.items) unit
    (names_along c.args.names.now.axis c.args.names.now.node) there
    (entries_forgot c.self.inside.index c.take_names.new.self c.self.inside.lets.items c.set.new.lets.items unit c.in-Some.ensures.took.1
    c.set.ensures
    ∙ ap (λ (entries : List (Option Recorded)). set entries unit None) c.self.view_is)

pub returns-in-None-clause-none : goal.returns-in-None-clause-none
returns-in-None-clause-none c = λ place.
    ap (λ (entries : List (Option Recorded)). has_kept (reads_at entries place) (names_along c.args.names.now.axis c.args.names.now.node))
    (sym c.self.view_is)
    ∙ taken_read c.self.inside.index c.self.inside.lets.items place (names_along c.args.names.now.axis c.args.names.now.node) c.self.invariant
    ∙ c.in-None.ensures.none place

pub returns-in-None-clause-unchanged : goal.returns-in-None-clause-unchanged
returns-in-None-clause-unchanged c =
    entries_stay c.self.inside.index c.take_names.new.self c.self.inside.lets.items c.in-None.ensures.unchanged ∙ c.self.view_is
