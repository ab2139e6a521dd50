-- A sum over the table is one over document order.
use Rattle.std.proofs.Common.{◌≡◌, length, ◌∙◌, sym, subst}
use Rattle.doc_table.specs.Walks.{order}
use Rattle.doc_table.specs.inner.Parts.{IsSound, table_of}
use Rattle.doc_table.proofs.Counts.{live-count}
use Rattle.doc_table.proofs.bare.Bare.live_nodes.Goals as goal

pub returns : goal.returns
returns c =
    subst (λ parts. IsSound parts → c.self.inside.live ≡ length (order (table_of parts))) c.self.view_is
    (λ sound. sound.live_is ∙ sym (live-count _ sound.formed.forest sound.formed.whole)) c.requires
