-- The lets are those of the entry.
use Rattle.std.proofs.Common.{◌∙◌, List, Option, ap, sym}
use Rattle.xp_outcome.specs.Recorded.{Recorded}
use Rattle.read_index.specs.ReadIndex.{cells_read, names_read}
use Rattle.kept_reads.specs.declared.lets_read.LetsRead.{LetsRead}
use Rattle.kept_reads.specs.Reads.{lets_kept, lets_told, reads_at}
use Rattle.kept_reads.specs.inner.LetsRead.{slots_at}
use Rattle.kept_reads.proofs.EntryLemmas.{entry_is, told_kept}
use Rattle.kept_reads.proofs.entries.Entries.lets.Goals as goal

pub returns : goal.returns
returns c =
    let held = c.self.inside.index in
    let lets = c.self.inside.lets.items in
    let place = c.args.place in
    ap lets_told (c.slots_at.ensures ∙ ap (λ (own : List LetsRead). slots_at own place) c.as_slice.ensures.value)
    ∙ told_kept (cells_read held place) (names_read held place) (slots_at lets place) ∙ ap lets_kept (sym (entry_is held lets place))
    ∙ ap (λ (entries : List (Option Recorded)). lets_kept (reads_at entries place)) c.self.view_is
