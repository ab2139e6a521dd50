-- The index has what the unit has read.
use Rattle.std.proofs.Common.{◌≡◌, ◌∙◌, ◌<◌, List, length, Option, None, Result, Ok, Err, OnErr, set, ap, arith}
use Rattle.xp_outcome.specs.Recorded.{Recorded}
use Rattle.kept_reads.specs.Reads.{reads_at}
use Rattle.kept_reads.specs.inner.Entries.{kept_of}
use Rattle.kept_reads.specs.inner.LetsRead.{slots_at, slots_of}
use Rattle.kept_reads.proofs.EntryLemmas.{entries_kept, entries_stay, length-entries_of, stale_at, stale_kept, stale_stays}
use Rattle.kept_reads.proofs.entries.Entries.keep.Goals as goal

-- what holds in any case holds of a failure
on_err : {A E : Type 0} (result : Result A E) (P : Type 0) → P → OnErr result P
on_err (Ok v) P holds = tt
on_err (Err e) P holds = holds

pub add-requires : goal.add-requires
add-requires c =
    let held = c.self.inside.index in
    let lets = c.self.inside.lets.items in
    let was : slots_at lets c.args.place ≡ None =
    stale_at held lets c.args.place (ap (λ (entries : List (Option Recorded)). reads_at entries c.args.place) c.self.view_is ∙ c.requires.stale) in
    record { none = c.self.invariant c.args.place was }

pub invariant_of-self : goal.invariant_of-self
invariant_of-self c = stale_stays c.self.inside.index c.add.new.self c.self.inside.lets.items c.in_err-add.ensures.unchanged c.self.invariant

pub invariant_of-self-2 : goal.invariant_of-self-2
invariant_of-self-2 c =
    let held = c.self.inside.index in
    let lets = c.self.inside.lets.items in
    let place = c.args.place in
    let within : place < length lets = omega (arith, c.requires.within, length-entries_of held 0 lets, ap length c.self.view_is) in
    let was : slots_at lets place ≡ None =
    stale_at held lets place (ap (λ (entries : List (Option Recorded)). reads_at entries place) c.self.view_is ∙ c.requires.stale) in
    stale_kept held c.add.new.self lets c.set.new.lets.items place c.args.cells.now c.args.names.now c.args.lets c.in_ok-add.ensures.added
    c.set.ensures within was
    c.self.invariant c.requires.known

pub returns-clause-kept : goal.returns-clause-kept
returns-clause-kept c =
    let held = c.self.inside.index in
    let lets = c.self.inside.lets.items in
    let place = c.args.place in
    let within : place < length lets = omega (arith, c.requires.within, length-entries_of held 0 lets, ap length c.self.view_is) in
    let was : slots_at lets place ≡ None =
    stale_at held lets place (ap (λ (entries : List (Option Recorded)). reads_at entries place) c.self.view_is ∙ c.requires.stale) in
    entries_kept held c.add.new.self lets c.set.new.lets.items place c.args.cells.now c.args.names.now c.args.lets c.in_ok-add.ensures.added
    c.set.ensures within was
    c.self.invariant
    ∙ ap (λ (entries : List (Option Recorded)). set entries place (kept_of c.args.cells.now c.args.names.now (slots_of c.args.lets))) c.self.view_is

pub returns-in_err-add-clause-unchanged : goal.returns-in_err-add-clause-unchanged
returns-in_err-add-clause-unchanged c =
    on_err c.from_residual.result _
    (entries_stay c.self.inside.index c.add.new.self c.self.inside.lets.items c.in_err-add.ensures.unchanged ∙ c.self.view_is)
