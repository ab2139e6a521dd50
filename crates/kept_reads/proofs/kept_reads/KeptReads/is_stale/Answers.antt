-- It has no lets.
use Rattle.std.proofs.Common.{◌∙◌, sym}
use Rattle.std.specs.Option.{option_copied}
use Rattle.kept_reads.specs.Reads.{reads_at}
use Rattle.kept_reads.proofs.EntryLemmas.{copied_none, none_where, same_none}
use Rattle.kept_reads.proofs.kept_reads.KeptReads.is_stale.Goals as goal

pub returns : goal.returns
returns c =
    none_where c.lets.result c.is_none.result c.is_none.ensures ∙ sym (copied_none c.lets.result)
    ∙ same_none (option_copied c.lets.result) (reads_at c.args.self.now.entries c.args.place) c.lets.ensures
