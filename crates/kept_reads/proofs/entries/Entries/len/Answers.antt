-- There is an entry for each unit of which it is known which lets it read.
use Rattle.std.proofs.Common.{◌≡◌, ◌∙◌, length, vec_len, ap, sym, arith}
use Rattle.kept_reads.proofs.EntryLemmas.{length-entries_of}
use Rattle.kept_reads.proofs.entries.Entries.len.Goals as goal

pub returns : goal.returns
returns c =
    let count : vec_len c.self.inside.lets ≡ length c.self.inside.lets.items = omega (arith, c.self.inside.lets.ok.0) in
    c.len.ensures ∙ count ∙ sym (length-entries_of c.self.inside.index 0 c.self.inside.lets.items) ∙ ap length c.self.view_is
