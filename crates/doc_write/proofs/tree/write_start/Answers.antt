-- An element begins with its name and its declarations.
use Rattle.std.proofs.Common.{refl}
use Rattle.std.specs.List.{flat_map}
use Rattle.sch_io.proofs.Writes.{wrote_then, wrote_stopped}
use Rattle.doc_tree.specs.Table.{decls_of}
use Rattle.doc_write.specs.inner.Parts.{decl_text}
use Rattle.doc_write.proofs.ContentLemmas.{element-opens}
use Rattle.doc_write.proofs.tree.write_start.Goals as goal

pub returns-in_err-write_start_tag : goal.returns-in_err-write_start_tag
returns-in_err-write_start_tag g c =
    rw (element-opens c.args.tree.now.nodes c.args.n c.requires, c.name_of-name.ensures.name)
    (wrote_stopped (flat_map decl_text (decls_of c.args.tree.now.nodes c.args.n)) (rw (c.prefix_of.ensures, c.local_of.ensures) at c.in_err-write_start_tag.ensures) refl c.from_residual.ensures.0)

pub returns : goal.returns
returns g c =
    rw (element-opens c.args.tree.now.nodes c.args.n c.requires, c.name_of-name.ensures.name)
    (wrote_then (rw (c.prefix_of.ensures, c.local_of.ensures) at c.in_ok-write_start_tag.ensures) c.write_declarations.ensures)
