-- A sum over the table is one over document order.
use Rattle.std.proofs.Common.{◌≡◌, ◌≤◌, ◌∙◌, sym, subst, arith}
use Rattle.doc_table.specs.declared.limits.TheConstants.{MAX_LIVE_TEXT_BYTES}
use Rattle.doc_table.specs.Walks.{text_bytes}
use Rattle.doc_table.specs.inner.Parts.{IsSound, table_of}
use Rattle.doc_table.proofs.Counts.{text-count}
use Rattle.doc_table.proofs.bare.Bare.live_text.Goals as goal

pub returns-clause-bytes : goal.returns-clause-bytes
returns-clause-bytes c =
    subst (λ parts. IsSound parts → c.self.inside.text_bytes ≡ text_bytes (table_of parts)) c.self.view_is
    (λ sound. sound.bytes_is ∙ sym (text-count _ sound.formed.forest sound.formed.whole)) c.requires

pub returns-clause-small : goal.returns-clause-small
returns-clause-small c =
    subst (λ parts. IsSound parts → c.self.inside.text_bytes ≤ MAX_LIVE_TEXT_BYTES) c.self.view_is
    (λ sound. omega (arith, sound.bytes_is, sound.formed.little_text)) c.requires
