-- A unit of which the index has the cell has read it.
use Rattle.std.proofs.Common.{◌≡◌, ◌∙◌, true, List, Option, None, set, ap, sym}
use Rattle.xp_outcome.specs.Recorded.{Recorded}
use Rattle.xp_outcome.specs.Evaluation.{cell}
use Rattle.kept_reads.specs.Reads.{has_kept, reads_at}
use Rattle.kept_reads.specs.inner.Entries.{entries_of}
use Rattle.kept_reads.proofs.EntryLemmas.{entries_forgot, entries_stay, fewer_kept, stale_forgot, taken_read}
use Rattle.kept_reads.proofs.entries.Entries.take.Goals as goal

pub invariant_of-self : goal.invariant_of-self
invariant_of-self c =
    stale_forgot c.self.inside.index c.take.new.self c.self.inside.lets.items c.set.new.lets.items c.in-Some.unit c.in-Some.ensures.took.1
    c.set.ensures c.self.invariant

pub returns-in-Some-clause-took : goal.returns-in-Some-clause-took
returns-in-Some-clause-took c =
    ap (λ (entries : List (Option Recorded)). has_kept (reads_at entries c.in-Some.unit) (cell c.args.cell.now)) (sym c.self.view_is)
    ∙ taken_read c.self.inside.index c.self.inside.lets.items c.in-Some.unit (cell c.args.cell.now) c.self.invariant ∙ c.in-Some.ensures.took.0

pub returns-in-Some-clause-dropped : goal.returns-in-Some-clause-dropped
returns-in-Some-clause-dropped c =
    entries_forgot c.self.inside.index c.take.new.self c.self.inside.lets.items c.set.new.lets.items c.in-Some.unit c.in-Some.ensures.took.1
    c.set.ensures
    ∙ ap (λ (entries : List (Option Recorded)). set entries c.in-Some.unit None) c.self.view_is

pub returns-in-Some-clause-falls : goal.returns-in-Some-clause-falls
returns-in-Some-clause-falls c =
    let unit = c.in-Some.unit in
    let there : has_kept (reads_at c.args.self.now unit) (cell c.args.cell.now) ≡ true =
    ap (λ (entries : List (Option Recorded)). has_kept (reads_at entries unit) (cell c.args.cell.now)) (sym c.self.view_is)
    ∙ taken_read c.self.inside.index c.self.inside.lets.items unit (cell c.args.cell.now) c.self.invariant ∙ c.in-Some.ensures.took.0 in
    fewer_kept c.args.self.now (entries_of c.take.new.self 0 c.set.new.lets.items) unit (cell c.args.cell.now) there
    (entries_forgot c.self.inside.index c.take.new.self c.self.inside.lets.items c.set.new.lets.items unit c.in-Some.ensures.took.1 c.set.ensures
    ∙ ap (λ (entries : List (Option Recorded)). set entries unit None) c.self.view_is)

pub returns-in-None-clause-none : goal.returns-in-None-clause-none
returns-in-None-clause-none c = λ place.
    ap (λ (entries : List (Option Recorded)). has_kept (reads_at entries place) (cell c.args.cell.now)) (sym c.self.view_is)
    ∙ taken_read c.self.inside.index c.self.inside.lets.items place (cell c.args.cell.now) c.self.invariant ∙ c.in-None.ensures.none place

pub returns-in-None-clause-unchanged : goal.returns-in-None-clause-unchanged
returns-in-None-clause-unchanged c =
    entries_stay c.self.inside.index c.take.new.self c.self.inside.lets.items c.in-None.ensures.unchanged ∙ c.self.view_is
