-- Names that were numbered in vain are forgotten again.
use Rattle.std.proofs.Common.{length, ap, ◌∙◌}
use Rattle.doc_table.specs.inner.Parts.{Parts}
use Rattle.doc_edits.proofs.CopyLemmas.{grows-same}
use Rattle.doc_edits.proofs.NamingLemmas.{cut-parts}
use Rattle.doc_edits.proofs.inserting.insert.Goals as goal

pub returns-in-Err-clause-names : goal.returns-in-Err-clause-names
returns-in-Err-clause-names c =
    grows-same _ _
    (ap (λ (parts : Parts). parts.names)
    (cut-parts c.args.bare.now c.put_piece.new.bare c.bare-2.inside.nodes.items c.bare-2.inside.names c.cut.new.self c.bare-2.inside.live c.bare-2.inside.text_bytes c.bare-2.inside.pair_cap
    c.len-known.result c.bare-2.view_is c.in-Err.ensures.kept c.put_piece.ensures.names
    (c.len-known.ensures ∙ ap (λ (parts : Parts). length parts.names) c.bare.view_is) c.cut.ensures))
