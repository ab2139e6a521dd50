-- Places of stale units change nothing of the others.
use Rattle.std.proofs.Common.{◌∙◌, ℕ, ◌≤◌, List, length, Option, OnOk, ap, sym, subst, arith}
use Rattle.xp_outcome.specs.Recorded.{Recorded}
use Rattle.kept_reads.specs.Reads.{reads_at}
use Rattle.kept_reads.proofs.EntryLemmas.{entry_same, length-entries_of, stale_same}
use Rattle.kept_reads.proofs.entries.Entries.reach.Goals as goal

pub invariant_of-self : goal.invariant_of-self
invariant_of-self c = stale_same c.self.inside.index c.self.inside.lets.items c.reach.new.lets.items c.reach.ensures.same c.self.invariant

pub returns-clause-there : goal.returns-clause-there
returns-clause-there c =
    subst (λ (n : ℕ). OnOk c.reach.result (c.args.count ≤ n)) (sym (length-entries_of c.self.inside.index 0 c.reach.new.lets.items))
    c.reach.ensures.there

pub returns-clause-short : goal.returns-clause-short
returns-clause-short c = λ few.
    let was : length c.self.inside.lets.items ≤ c.args.count =
    omega (arith, few, length-entries_of c.self.inside.index 0 c.self.inside.lets.items, ap length c.self.view_is) in
    let now = c.reach.ensures.short was in
    omega (arith, now, length-entries_of c.self.inside.index 0 c.reach.new.lets.items)

pub returns-clause-same : goal.returns-clause-same
returns-clause-same c = λ place.
    entry_same c.self.inside.index c.self.inside.lets.items c.reach.new.lets.items c.reach.ensures.same place
    ∙ ap (λ (entries : List (Option Recorded)). reads_at entries place) c.self.view_is
